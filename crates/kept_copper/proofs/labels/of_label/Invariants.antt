use Rattle.std.proofs.Common.{◌≡◌, ◌++◌, drop}
use Rattle.components.specs.Kept.{with_label}
use Rattle.kept_copper.proofs.labels.of_label.Given as goal

abbrev pub invariant-each : goal.invariant-each
invariant-each l = l.part.items ++ with_label (drop l.k l.labels) l.label (drop l.k l.octs) ≡ with_label l.labels l.label l.octs
