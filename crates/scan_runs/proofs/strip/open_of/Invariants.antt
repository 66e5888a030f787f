use Rattle.std.proofs.Common.{take}
use Rattle.scan_runs.specs.Inner.Parts.{AreOpenOnRows}
use Rattle.scan_runs.proofs.strip.open_of.Given as goal

abbrev pub invariant-octs : goal.invariant-octs
invariant-octs l = AreOpenOnRows (take l.oct-index l.octs) l.fn.top l.fn.more l.near.items
