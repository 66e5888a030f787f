use Rattle.std.proofs.lemmas.Int.{to_z-of_z}
use Rattle.outline_slab.specs.Inner.Side.{side_edge}
use Rattle.outline_slab.proofs.Scaled.{on_is, span_fits, reach_fits}
use Rattle.outline_slab.proofs.side.Side.passes.Goals as goal

pub returns : goal.returns
returns c = λ q w.
    let s = c.args.self in
    let px = reach_fits c.args.p.x c.requires.reach.x in
    let py = reach_fits c.args.p.y c.requires.reach.y in
    let sx = span_fits s.start.x c.requires.start.x in
    let sy = span_fits s.start.y c.requires.start.y in
    let fx = span_fits s.finish.x c.requires.finish.x in
    let fy = span_fits s.finish.y c.requires.finish.y in
    let across = simp to_z-of_z at c.is_between-across.ensures in
    let along = simp to_z-of_z at c.is_between-along.ensures in
    on_is (side_edge s) c.args.p c.args.scale q _ _ _ _ _ c.lean.result.run c.lean.result.rise w c.lean.ensures.run c.lean.ensures.rise
    c.both-2.ensures c.both.ensures c.is_line-line.ensures across along
