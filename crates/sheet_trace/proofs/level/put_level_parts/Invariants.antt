use Rattle.std.proofs.Common.{◌≡◌, ◌++◌, ◌≤◌, ◌-◌, drop}
use Rattle.sheet_trace.specs.Inner.Levels.{level_parts}
use Rattle.sheet_trace.proofs.level.put_level_parts.Given as goal

-- those so far and those to come are all
abbrev pub invariant-each : goal.invariant-each
invariant-each l = record {
  parts : l.edges.items ++ level_parts l.strips (drop (l.i - 1) l.corners) ≡ l.fn.edges.items ++ level_parts l.strips l.corners;
  begun : 1 ≤ l.i;
}
