use Rattle.std.proofs.Common.{◌≡◌, drop}
use Rattle.std.specs.Prelude.{pos, ◌+ℤ◌}
use Rattle.strips.specs.Area.{area2_of}
use Rattle.sheet_union.proofs.area.area2_of.Given as goal

-- the area so far and that of the strips to come are all
abbrev pub invariant-each : goal.invariant-each
invariant-each l = pos l.area +ℤ area2_of (drop l.strip-index l.strips) ≡ area2_of l.strips
