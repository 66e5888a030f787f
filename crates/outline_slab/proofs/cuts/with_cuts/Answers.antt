use Rattle.std.proofs.Common.{arith, List, [], ◌∷◌, ◌++◌}
use Rattle.std.proofs.lemmas.Int.{ints}
use Rattle.std.proofs.lemmas.Result.{IfOk-weaker}
use Rattle.plane.specs.Covering.{Edge}
use Rattle.slabs.specs.Slabs.{AreCuts}
use Rattle.slabs.specs.Inner.Cutting.{AreAdded}
use Rattle.slabs.proofs.Cutting.{more_cuts_law, level_cuts_law}
use Rattle.outline_slab.specs.Inner.Side.{side_edge}
use Rattle.outline_slab.specs.Cuts.{all_edges}
use Rattle.outline_slab.proofs.Sides.{turned_added, turned_sound, turned_way}
use Rattle.outline_slab.proofs.cuts.with_cuts.Goals as goal

pub returns-then-side : goal.returns-then-side
returns-then-side c =
    let rows = c.args.rows.now in
    let cs = all_edges c.args.cuts.items in
    let e = side_edge c.args.side in
    IfOk-weaker c.with_cuts_down.result (λ v. AreAdded rows e cs (all_edges v.items)) (λ v. (es : List Edge) → AreCuts rows es cs → AreCuts rows (es ++ e ∷ []) (all_edges v.items))
    (λ v a es k. more_cuts_law rows es cs (all_edges v.items) e k a) c.with_cuts_down.ensures

pub with_cuts_down-requires-then-side-2-clause-sound : goal.with_cuts_down-requires-then-side-2-clause-sound
with_cuts_down-requires-then-side-2-clause-sound c = turned_sound c.args.side c.turned.result c.turned.ensures.start c.turned.ensures.finish c.requires.sound

pub returns-then-side-2 : goal.returns-then-side-2
returns-then-side-2 c =
    let rows = c.args.rows.now in
    let cs = all_edges c.args.cuts.items in
    let e = side_edge c.args.side in
    let t = side_edge c.turned.result in
    IfOk-weaker c.with_cuts_down-then-side-2.result (λ v. AreAdded rows t cs (all_edges v.items)) (λ v. (es : List Edge) → AreCuts rows es cs → AreCuts rows (es ++ e ∷ []) (all_edges v.items))
    (λ v a es k. turned_added rows es cs (all_edges v.items) e t c.requires.sound (turned_way c.args.side c.turned.result c.turned.ensures.start c.turned.ensures.finish) a k)
    c.with_cuts_down-then-side-2.ensures

pub returns : goal.returns
returns c = λ es k. level_cuts_law c.args.rows.now es (all_edges c.args.cuts.items) (side_edge c.args.side) k (omega (arith, ints))
