use Rattle.std.proofs.Common.{FitsSigned, w64, rules}
use Rattle.std.proofs.lemmas.Int.{to_z-of_z}
use Rattle.output_rules.proofs.Joined.{added4}
use Rattle.output_rules.proofs.report.add_point.Goals as goal

pub returns : goal.returns
returns c =
    let x : FitsSigned w64 c.args.point.x = search rules in
    let y : FitsSigned w64 c.args.point.y = search rules in
    let first = simp to_z-of_z at c.in_ok-add_length.ensures in
    let second = simp to_z-of_z at c.in_ok-add_length-2.ensures in
    added4 _ _ _ _ _ _ _ _ _ c.in_ok-add.ensures first c.in_ok-add-2.ensures second
