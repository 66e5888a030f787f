use Rattle.std.proofs.Common.{◌≡◌, drop}
use Rattle.board_text.specs.Numbers.{first_of}
use Rattle.board_text.proofs.number.first_of.Given as goal

abbrev pub invariant-each : goal.invariant-each
invariant-each l = first_of (drop l.fault-index l.faults) ≡ first_of l.faults
