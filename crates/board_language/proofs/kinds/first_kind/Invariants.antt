use Rattle.std.proofs.Common.{◌≡◌, drop}
use Rattle.board_language.specs.Offences.{first_kind}
use Rattle.board_language.proofs.kinds.first_kind.Given as goal

abbrev pub invariant-each : goal.invariant-each
invariant-each l = first_kind (drop l.kind-index l.kinds) ≡ first_kind l.kinds
