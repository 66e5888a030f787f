use Rattle.std.proofs.lemmas.Int.{to_z-of_z}
use mir.Val.{SFits}
use mir.Syntax.{w128}
use Rattle.outline_slab.proofs.Scaled.{span_fits}
use Rattle.islands.proofs.Crossings.{place_fits, left_is}
use Rattle.islands.proofs.edges.is_left.Goals as goal

pub returns : goal.returns
returns c =
    let x = place_fits c.args.at.x c.requires.at.x in
    let y = place_fits c.args.at.y c.requires.at.y in
    let ax = span_fits c.args.a.x c.requires.a.x in
    let ay = span_fits c.args.a.y c.requires.a.y in
    let bx = span_fits c.args.b.x c.requires.b.x in
    let by = span_fits c.args.b.y c.requires.b.y in
    let run = simp to_z-of_z at c.area-run.ensures in
    let rise = simp to_z-of_z at c.area-rise.ensures in
    let u : SFits w128 c.area-run.result = record { sfits = c.area-run.type_inv } in
    let v : SFits w128 c.area-rise.result = record { sfits = c.area-rise.type_inv } in
    let less = simp to_z-of_z at c.is_less.ensures in
    left_is _ _ _ _ _ run rise less
