use Rattle.std.proofs.lemmas.Int.{to_z-of_z}
use Rattle.outline_slab.proofs.Scaled.{down_is, span_fits, reach_fits}
use Rattle.outline_slab.proofs.side.Side.crosses_down.Goals as goal

pub returns : goal.returns
returns c = λ q w.
    let s = c.args.self in
    let py = reach_fits c.args.p.y c.requires.reach.y in
    let sy = span_fits s.start.y c.requires.start.y in
    let fy = span_fits s.finish.y c.requires.finish.y in
    let begun = simp to_z-of_z at c.is_from-begun.ensures in
    let open_ = simp to_z-of_z at c.is_before-open.ensures in
    down_is s.start s.finish c.args.p c.args.scale q _ _ _ _ _ c.lean.result.run c.lean.result.rise w c.lean.ensures.run c.lean.ensures.rise
    c.both-2.ensures c.both.ensures begun open_ c.is_left-left.ensures
