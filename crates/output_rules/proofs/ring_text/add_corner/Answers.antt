use Rattle.std.proofs.Common.{FitsSigned, w64, rules}
use Rattle.std.proofs.lemmas.Int.{to_z-of_z}
use Rattle.output_rules.proofs.Joined.{added5}
use Rattle.output_rules.proofs.ring_text.add_corner.Goals as goal

pub returns : goal.returns
returns c =
    let x : FitsSigned w64 c.args.corner.now.x = search rules in
    let y : FitsSigned w64 c.args.corner.now.y = search rules in
    let first = simp to_z-of_z at c.in_ok-add_length.ensures in
    let second = simp to_z-of_z at c.in_ok-add_length-2.ensures in
    added5 _ _ _ _ _ _ _ _ _ _ _ c.in_ok-add.ensures first c.in_ok-add-2.ensures second c.in_ok-add-3.ensures
