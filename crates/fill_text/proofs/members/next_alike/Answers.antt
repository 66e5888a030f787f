use Rattle.std.proofs.Common.{◌≡◌, ◌-◌, subst, sym, set, get_or, arith, ℕ}
use Rattle.std.proofs.lemmas.List.{get_or_read}
use Rattle.fill_text.proofs.Alikes.{IsNextFrom, next_more, label_there}
use Rattle.fill_text.proofs.members.next_alike.Goals as goal

pub each-preserved : goal.each-preserved
each-preserved c =
    let ls = c.args.labels.now in
    let label : ℕ = get_or c.args.labels.now (c.each.k - 1) 0 in
    let t = label_there ls c.each.seen.items c.each.next.items c.each.k c.requires c.each-test.true c.each.invariant in
    let e : c.index.result.now ≡ get_or c.each.seen.items label 0 = get_or_read c.each.seen.items label c.index.result.now (let m = c.each.invariant.seen_many in omega (arith, m, t)) c.index.ensures 0 in
    subst (λ (n : ℕ). IsNextFrom ls (c.each.k - 1) (set c.each.seen.items label (c.each.k - 1)) (set c.each.next.items (c.each.k - 1) n)) (sym e)
    (next_more ls c.each.seen.items c.each.next.items c.each.k c.requires c.each-test.true c.each.invariant)
