use Rattle.std.proofs.Common.{map, take}
use Rattle.fills.specs.Fills.{AreThose}
use Rattle.components.specs.Kept.{IsMet}
use Rattle.knockouts.specs.Obstacles.{need_of}
use Rattle.zone_fill.specs.Inner.Live.{IsFree}
use Rattle.zone_fill.proofs.live.live_spokes.Given as goal

abbrev pub invariant-each : goal.invariant-each
invariant-each l = AreThose (λ o. IsFree l.frame l.walls (map need_of l.bars) o × IsMet l.blots o) (take l.spoke-index l.spokes) l.live.items
