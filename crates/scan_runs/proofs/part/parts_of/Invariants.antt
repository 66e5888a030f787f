use Rattle.std.proofs.Common.{take}
use Rattle.scan_runs.specs.Inner.Parts.{ArePartsOf}
use Rattle.scan_runs.proofs.part.parts_of.Given as goal

abbrev pub invariant-octs : goal.invariant-octs
invariant-octs l = ArePartsOf (take l.oct-index l.octs) l.fn.top l.fn.more l.parts.items
