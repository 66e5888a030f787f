use Rattle.std.proofs.Common.{◌≡◌, ◌∙◌, ap, pos}
use Rattle.std.specs.Prelude.{ℤ, ◌-ℤ◌, int_lt}
use Rattle.board_language.specs.Edges.{is_wide}
use Rattle.board_edges.proofs.Products.{read_place, read128, read_inner, same_inner}
use Rattle.board_edges.proofs.wide.is_wide.Goals as goal

pub returns : goal.returns
unfolding is_wide
returns c =
    let a : ℤ = c.apart.result in
    let e : c.apart.result ≡ c.args.a.x -ℤ c.args.m.x = rw (← read_place c.args.a.x c.requires.a.0, ← read_place c.args.m.x c.requires.m.0) c.apart.ensures.value in
    let f : c.apart-2.result ≡ c.args.a.y -ℤ c.args.m.y = rw (← read_place c.args.a.y c.requires.a.1, ← read_place c.args.m.y c.requires.m.1) c.apart-2.ensures.value in
    let g : c.apart-3.result ≡ c.args.b.x -ℤ c.args.m.x = rw (← read_place c.args.b.x c.requires.b.0, ← read_place c.args.m.x c.requires.m.0) c.apart-3.ensures.value in
    let h : c.apart-4.result ≡ c.args.b.y -ℤ c.args.m.y = rw (← read_place c.args.b.y c.requires.b.1, ← read_place c.args.m.y c.requires.m.1) c.apart-4.ensures.value in
    c.is_positive.ensures
    ∙ ap (int_lt (pos 0))
    (read128 c.inner.result c.inner.ensures.range
    ∙ read_inner c.inner.result c.apart.result c.apart-2.result c.apart-3.result c.apart-4.result c.apart.ensures.range c.apart-2.ensures.range c.apart-3.ensures.range c.apart-4.ensures.range c.inner.ensures.value
    ∙ same_inner c.apart.result c.apart-2.result c.apart-3.result c.apart-4.result _ _ _ _ e f g h)
