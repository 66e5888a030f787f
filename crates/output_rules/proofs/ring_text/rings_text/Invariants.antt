use Rattle.std.proofs.Common.{◌≡◌, ◌++◌, drop}
use Rattle.std.specs.List.{flat_map}
use Rattle.output_rules.specs.Rings.{ring_text}
use Rattle.output_rules.proofs.ring_text.rings_text.Given as goal

-- what was added, and what the rings that are left add, is all
abbrev pub invariant-rings : goal.invariant-rings
invariant-rings l =
    l.out.items ++ flat_map (ring_text l.layer) (drop l.ring-index l.rings) ≡ flat_map (ring_text l.layer) l.rings
