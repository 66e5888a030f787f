use Rattle.std.proofs.Common.{take}
use Rattle.std.specs.Prelude.{◌<ℤ◌}
use Rattle.scan_rows.specs.Inner.Slabs.{AgreeWhere}
use Rattle.scan_rows.proofs.slabs.begun_above.Given as goal

abbrev pub invariant-each : goal.invariant-each
invariant-each l = AgreeWhere (λ y. y <ℤ l.mark.y0) (take l.oct-index l.octs) l.begun.items
