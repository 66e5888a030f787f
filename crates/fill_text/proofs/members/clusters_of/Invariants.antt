use Rattle.std.proofs.Common.{◌≡◌, ◌++◌, map, drop, get_or}
use Rattle.std.specs.Prelude.{◌==◌, filter}
use Rattle.fill_rules.specs.Nodes.{firsts_from}
use Rattle.output_rules.specs.Reported.{members_of}
use Rattle.fill_text.proofs.members.clusters_of.Given as goal

abbrev pub invariant-each : goal.invariant-each
invariant-each l =
    l.clusters.items ++ map (members_of l.labels) (filter (λ k. get_or l.nets k 0 == l.net) (firsts_from l.k (drop l.k l.labels)))
    ≡ map (members_of l.labels) (filter (λ k. get_or l.nets k 0 == l.net) (firsts_from 0 l.labels))
