use Rattle.std.proofs.Common.{◌≡◌, length, take}
use Rattle.fill_rules.specs.Nodes.{firsts_from}
use Rattle.fill_text.proofs.numbered.part_count.Given as goal

abbrev pub invariant-each : goal.invariant-each
invariant-each l = l.count ≡ length (firsts_from 0 (take l.k l.parts))
