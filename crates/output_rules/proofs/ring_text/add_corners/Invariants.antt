use Rattle.std.proofs.Common.{◌≡◌, ◌++◌, drop}
use Rattle.std.specs.List.{flat_map}
use Rattle.output_rules.specs.Rings.{corner_text}
use Rattle.output_rules.proofs.ring_text.add_corners.Given as goal

-- what was added, and what the corners that are left add, is all
abbrev pub invariant-corners : goal.invariant-corners
invariant-corners l = l.out.items ++ flat_map corner_text (drop l.corner-index l.corners) ≡ l.fn.out.items ++ flat_map corner_text l.corners
