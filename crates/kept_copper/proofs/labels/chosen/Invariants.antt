use Rattle.std.proofs.Common.{◌≡◌, ◌++◌, drop}
use Rattle.components.specs.Kept.{flagged}
use Rattle.kept_copper.proofs.labels.chosen.Given as goal

abbrev pub invariant-each : goal.invariant-each
invariant-each l = l.kept.items ++ flagged (drop l.k l.flags) (drop l.k l.cells) ≡ flagged l.flags l.cells
