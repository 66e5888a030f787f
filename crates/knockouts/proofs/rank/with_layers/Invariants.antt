use Rattle.std.proofs.Common.{◌≡◌, ◌++◌, map}
use Rattle.fill_rules.specs.Tasks.{layers_below}
use Rattle.fills.specs.Fills.{task_of}
use Rattle.knockouts.proofs.rank.with_layers.Given as goal

abbrev pub invariant-each : goal.invariant-each
invariant-each l = map task_of l.all.items ≡ map task_of l.fn.tasks.items ++ map (λ k. record { zone = l.zone; layer = k }) (layers_below l.layers l.layer)
