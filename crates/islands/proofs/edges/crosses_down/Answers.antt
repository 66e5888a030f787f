use Rattle.std.proofs.lemmas.Int.{to_z-of_z}
use Rattle.outline_slab.proofs.Scaled.{span_fits}
use Rattle.islands.proofs.Crossings.{place_fits, down_one}
use Rattle.islands.proofs.edges.crosses_down.Goals as goal

pub returns : goal.returns
returns c =
    let y = place_fits c.args.at.y c.requires.at.y in
    let ay = span_fits c.args.a.y c.requires.a.y in
    let by = span_fits c.args.b.y c.requires.b.y in
    let begun = simp to_z-of_z at c.is_from-begun.ensures in
    let before = simp to_z-of_z at c.is_before-open.ensures in
    down_one c.args.a c.args.b c.args.at _ _ _ _ _ c.both-2.ensures c.both.ensures begun before c.is_left-left.ensures
