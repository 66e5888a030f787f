use Rattle.std.proofs.Common.{arith}
use Rattle.sheet_trace.proofs.Walked.{walk_begun, walk_more, walk_closed, walk_whole, size_set}
use Rattle.sheet_trace.proofs.walk.walk_from.Goals as goal

pub each-init : goal.each-init
each-init c = record {
  walking = walk_begun c.args.edges.now c.args.used.now _ c.args.first _ _ _ c.requires.next c.requires.flags c.requires.within
      c.new-walk.ensures.items c.in_ok-place.ensures.walk c.in_ok-place.ensures.used c.in_ok-place.ensures.within c.in_ok-place.ensures.next;
  size = size_set _ _ c.args.first _ c.in_ok-place.ensures.used c.requires.flags;
}

pub each-preserved : goal.each-preserved
each-preserved c = record {
  walking = walk_more c.args.edges.now c.args.used.now _ c.each.used c.args.first c.each._step c.each.place _ _ _ c.requires.next c.requires.flags c.requires.within c.each-test.true
      (λ e. absurd (omega (arith, e, c.if-place-first.false)))
      c.in_ok-place-2.ensures.walk c.in_ok-place-2.ensures.used c.in_ok-place-2.ensures.within c.in_ok-place-2.ensures.next c.each.invariant.walking;
  size = size_set _ _ c.each.place _ c.in_ok-place-2.ensures.used c.each.invariant.size;
}

pub returns-then-place-first-clause-walk : goal.returns-then-place-first-clause-walk
returns-then-place-first-clause-walk c =
    walk_closed c.args.edges.now c.args.used.now c.each.used c.args.first c.each._step c.each.place _ (omega (arith, c.if-place-first.true)) c.each.invariant.walking

pub returns-clause-walk : goal.returns-clause-walk
returns-clause-walk c = walk_whole c.args.edges.now c.args.used.now c.each.used c.args.first c.each._step c.each.place _ (omega (arith, c.each-test.false)) c.each.invariant.walking
