use Rattle.std.proofs.Common.{refl}
use Rattle.fill_rules.specs.Tasks.{task_at}
use Rattle.fill_rules.specs.Nodes.{part}
use Rattle.clusters.specs.declared.Node.TheVariants.{Part}
use Rattle.clusters.specs.Labelling.{node_of}
use Rattle.clusters.proofs.Listing.{first_step}
use Rattle.clusters.proofs.list.add_firsts.Goals as goal

pub each-preserved : goal.each-preserved
each-preserved c =
    let b = c.args.board.now.board in
    first_step (node_of b) (part (task_at b c.args.rank)) (λ n. Part c.args.rank n) c.args.parts.now c.each.k c.each.nodes.items c.add_if.new.nodes.items _ (λ n. refl) c.each-test.true
    c.in_ok-add_if.ensures c.each.invariant
