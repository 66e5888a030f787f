use Rattle.std.proofs.Common.{◌≡◌, ◌++◌, drop, map}
use Rattle.fill_rules.specs.Needs.{at_need}
use Rattle.knockouts.specs.Obstacles.{need_of}
use Rattle.knockouts.proofs.obstacles.at_need.Given as goal

abbrev pub invariant-each : goal.invariant-each
invariant-each l = map need_of l.needs.items ++ at_need l.need (drop l.hull-index l.hulls) ≡ at_need l.need l.hulls
