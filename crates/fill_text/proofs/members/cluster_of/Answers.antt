use Rattle.fill_text.proofs.Alikes.{walk_begun, walk_more}
use Rattle.std.proofs.Common.{refl, arith, length, ◌<◌}
use Rattle.fill_text.proofs.members.cluster_of.Goals as goal

pub each-init : goal.each-init
each-init c = walk_begun c.args.labels.now c.new-members.result.items c.args.label c.requires.labels c.requires.there c.requires.first c.new-members.ensures.items

pub each-preserved : goal.each-preserved
each-preserved c =
    let l : c.each.at < length c.args.labels.now = omega (arith, c.each-test.true, c.requires.next.many) in
    walk_more c.args.labels.now c.args.next.now c.each.members.items c.push.new.self.items c.args.label c.each.at c.requires.next c.each.invariant l c.in_ok-push.ensures.items _ refl
