use Rattle.std.proofs.Common.{◌≡◌, sym, rules, arith, get_or}
use Rattle.std.proofs.lemmas.Int.{ints}
use mir.Val.{to_z, of_z}
use mir.Syntax.{w64}
use Rattle.outline_slab.proofs.Sides.{taken_all, ends_pushed, no_side}
use Rattle.outline_slab.proofs.slab_rows.ends_of.Goals as goal

pub each-preserved : goal.each-preserved
each-preserved c =
    let side = get_or c.args.sides.now c.each.side-index no_side in
    let e : to_z w64 (of_z w64 side.start.y) ≡ side.start.y = search (rules, arith, ints) in
    let f : to_z w64 (of_z w64 side.finish.y) ≡ side.finish.y = search (rules, arith, ints) in
    ends_pushed c.args.sides.now c.each.side-index no_side c.each.rows.items c.push.new.self.items c.push-in-each.new.self.items _ _ c.each-test.true c.each.invariant
    c.in_ok-push.ensures.items c.in_ok-push-2.ensures.items e f

pub returns : goal.returns
returns c = rw (sym (taken_all c.args.sides.now c.each.side-index c.each-test.false)) c.each.invariant
