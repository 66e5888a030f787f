use Rattle.std.proofs.Common.{◌≡◌, ◌++◌, drop}
use Rattle.sheet_union.specs.Inner.Crossings.{later_rows}
use Rattle.sheet_union.proofs.rows.put_later.Given as goal

-- the rows so far and those to come are all
abbrev pub invariant-each : goal.invariant-each
invariant-each l = l.rows.items ++ later_rows l.oct (drop l.other-index l.later) ≡ l.fn.rows.items ++ later_rows l.oct l.later
