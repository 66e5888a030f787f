use Rattle.std.proofs.Common.{length, map}
use Rattle.std.specs.Arc.{arc_value}
use Rattle.zone_fill.specs.Inner.Reached.{AreAboveFirst}
use Rattle.zone_fill.proofs.all.above.Given as goal

abbrev pub invariant-each : goal.invariant-each
invariant-each l = AreAboveFirst l.board.board l.fill-index (length (map arc_value l.fills)) (map arc_value l.above.items)
