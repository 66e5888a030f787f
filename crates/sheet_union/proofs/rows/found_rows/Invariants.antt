use Rattle.std.proofs.Common.{◌≡◌, ◌++◌, drop}
use Rattle.plane.specs.Plane.{IsOct}
use Rattle.sheet_union.specs.Inner.Crossings.{all_rows}
use Rattle.sheet_union.proofs.Walks.{EachBelow}
use Rattle.sheet_union.proofs.rows.found_rows.Given as goal

-- the rows so far and those to come are all
abbrev pub invariant-each : goal.invariant-each
invariant-each l = record {
  rows : l.rows.items ++ all_rows (drop l.i l.octs) ≡ all_rows l.octs;
  octs : EachBelow IsOct l.octs l.i;
}
