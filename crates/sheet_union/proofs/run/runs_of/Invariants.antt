use Rattle.std.proofs.Common.{◌≡◌, ◌++◌, drop}
use Rattle.std.specs.List.{All}
use Rattle.strips.specs.Strips.{in_nanometres}
use Rattle.strips.specs.Inner.Runs.{runs_of}
use Rattle.sheet_union.specs.Near.{IsNearStrip}
use Rattle.sheet_union.proofs.run.runs_of.Given as goal

-- the runs so far and those to come are all
abbrev pub invariant-each : goal.invariant-each
invariant-each l = record {
  value : l.out.items ++ runs_of (in_nanometres (drop l.oct-index l.octs)) l.fn.top l.fn.bottom ≡ runs_of (in_nanometres l.octs) l.fn.top l.fn.bottom;
  near : All (λ s. IsNearStrip s) l.out.items;
}
