use Rattle.std.proofs.Common.{refl, arith, ◌<◌, length}
use Rattle.std.specs.List.{flat_map}
use Rattle.output_rules.specs.Report.{cluster_text}
use Rattle.output_rules.proofs.Joined.{added_item}
use Rattle.output_rules.proofs.report.add_clusters.Goals as goal

pub clusters-preserved : goal.clusters-preserved
clusters-preserved c =
    let within : c.clusters.cluster-index < length c.args.clusters.now = omega arith in
    added_item (flat_map cluster_text) cluster_text (λ x ys. refl) c.args.clusters.now c.clusters.cluster-index c.cluster-item.result c.clusters.out.items c.add_cluster.new.out.items _
    within c.cluster-item.is c.in_ok-add_cluster.ensures c.clusters.invariant
