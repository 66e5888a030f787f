use Rattle.std.proofs.Common.{sym, ◌∙◌, ◌≡◌, ◌<◌, length, get_or, arith}
use Rattle.spreading.proofs.Flooding.{spread_none, spread_other, spread_more, read_is}
use Rattle.spreading.proofs.flood.spread.Goals as goal
use Rattle.spreading.proofs.flood.spread.Goals.{then-index-count+in_ok-push, else-index-count}

pub each-init : goal.each-init
each-init c = spread_none c.args.label c.args.labels.now.items c.args.members.now.items

pub each-preserved : goal.each-preserved
each-preserved c =
    let j = get_or c.args.linked.now c.each.j-index 0 in
    let n : c.len-count.result ≡ length c.args.labels.now.items = omega (arith, c.len-count.ensures, c.args.labels.now.ok) in
    let l : j < length c.each.labels.items = (let a = c.requires.linked c.each.j-index 0 c.each-test.true in let b = c.each.invariant.count in omega (arith, a, b)) in
    let r = read_is c.each.labels.items j c.index.result.now l c.index.ensures in
    elim c.if-index-count.branch [
      | then-index-count+in_ok-push w ↦ rw (w.labels-is, w.members-is, w.in_ok-push.ensures.items)
          (spread_more c.args.linked.now c.args.label c.args.labels.now.items c.args.members.now.items c.each.labels.items c.each.members.items c.each.j-index 0 c.each-test.true
          (r ∙ (w.if-index-count.true ∙ n)) c.requires.linked c.requires.label c.each.invariant)
      | else-index-count w ↦ rw (w.labels-is, w.members-is)
          (spread_other c.args.linked.now c.args.label c.args.labels.now.items c.args.members.now.items c.each.labels.items c.each.members.items c.each.j-index 0 c.each-test.true
          (λ e. w.if-index-count.false (sym r ∙ (e ∙ sym n))) c.each.invariant)
    ]
