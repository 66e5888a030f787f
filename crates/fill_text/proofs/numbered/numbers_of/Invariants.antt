use Rattle.fill_text.proofs.Counted.{IsCounting}
use Rattle.fill_text.proofs.numbered.numbers_of.Given as goal

abbrev pub invariant-each : goal.invariant-each
invariant-each l = IsCounting l.parts l.k l.next l.numbers.items
