use Rattle.std.proofs.Common.{◌≡◌, ◌++◌, drop}
use Rattle.std.specs.List.{flat_map}
use Rattle.output_rules.specs.Report.{cluster_text}
use Rattle.output_rules.proofs.report.add_clusters.Given as goal

-- what was added, and what those that are left add, is all
abbrev pub invariant-clusters : goal.invariant-clusters
invariant-clusters l = l.out.items ++ flat_map cluster_text (drop l.cluster-index l.clusters) ≡ l.fn.out.items ++ flat_map cluster_text l.clusters
