use Rattle.std.proofs.Common.{◌≡◌, sym, ◌∙◌, ap, subst, List, [], ◌++◌, map}
use Rattle.std.specs.Prelude.{Some}
use Rattle.std.specs.Arc.{arc_value}
use Rattle.fill_rules.specs.Made.{Made}
use Rattle.fill_pool.specs.Runs.{AllFinished}
use Rattle.fill_pool.specs.Inner.Slots.{filled}
use Rattle.fill_pool.proofs.Pools.{all_fills}
use Rattle.fill_pool.proofs.pool.Pool.into_fills.Goals as goal

pub returns : goal.returns
returns g c =
    let none : map arc_value c.self.inside.all.items ≡ [] = c.self.invariant.none_yet in
    all_fills g.N.Named.board c.self.inside.machine _ _ _ _ c.self.invariant (subst (AllFinished g.N.Named.board) (sym c.self.view_is) c.requires) _
    (c.into_all.ensures ∙ ap (λ (fs : List Made). map Some fs ++ map filled c.self.inside.fills.items) none)
