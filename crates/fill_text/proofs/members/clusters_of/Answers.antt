use Rattle.std.proofs.Common.{sym, ◌∙◌, refl, get_or}
use Rattle.std.specs.Prelude.{◌==◌}
use Rattle.fill_text.proofs.Alikes.{cluster_more, cluster_stay}
use Rattle.fill_text.proofs.members.clusters_of.Goals.{then-is_first+in_ok-cluster_of+in_ok-push, else-is_first}
use Rattle.fill_text.proofs.members.clusters_of.Goals as goal

pub each-preserved : goal.each-preserved
each-preserved c =
    elim c.if-is_first.branch [
      | then-is_first+in_ok-cluster_of+in_ok-push w ↦ rw w.clusters-is
          (cluster_more c.args.labels.now (λ k. get_or c.args.nets.now k 0 == c.args.net) c.each.k c.each-test.true (get_or c.args.nets.now c.each.k 0 == c.args.net) _ c.each.clusters.items _ _
          (sym c.is_first.ensures ∙ w.if-is_first.true) refl w.in_ok-cluster_of.ensures w.in_ok-push.ensures.items c.each.invariant)
      | else-is_first w ↦ rw w.clusters-is
          (cluster_stay c.args.labels.now (λ k. get_or c.args.nets.now k 0 == c.args.net) c.each.k c.each-test.true (get_or c.args.nets.now c.each.k 0 == c.args.net) c.each.clusters.items _
          (sym c.is_first.ensures ∙ w.if-is_first.false) refl c.each.invariant)
    ]
