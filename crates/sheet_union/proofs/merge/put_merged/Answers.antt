use Rattle.std.proofs.Common.{◌≡◌, ◌∙◌, ◌<◌, arith, length, get_or}
use Rattle.std.specs.Prelude.{◌+ℤ◌, int_lt}
use Rattle.std.proofs.lemmas.List.Elements.{All-push}
use Rattle.sheet_union.specs.Near.{IsNearStrip}
use Rattle.sheet_union.proofs.Joined.{test_is, near_at, near_read, put_step, join_step, zero_strip}
use Rattle.sheet_union.proofs.merge.put_merged.Goals as goal
use Rattle.sheet_union.proofs.merge.put_merged.Goals.{then-is_less+in_ok-push, else-is_less}

pub is_less-requires-clause-c : goal.is_less-requires-clause-c
is_less-requires-clause-c c = near_read _ (near_at c.args.runs.now c.each.i _ c.requires (omega arith)).left

pub is_less-requires-clause-d : goal.is_less-requires-clause-d
is_less-requires-clause-d c = near_read _ (near_at c.args.runs.now c.each.i _ c.requires (omega arith)).left_end

pub each-preserved : goal.each-preserved
each-preserved c =
    let l : c.each.i < length c.args.runs.now = omega arith in
    let n = near_at c.args.runs.now c.each.i zero_strip c.requires l in
    let m = c.each.invariant.last in
    let t : int_lt (c.each.last.right +ℤ c.each.last.right_end) ((get_or c.args.runs.now c.each.i zero_strip).left +ℤ (get_or c.args.runs.now c.each.i zero_strip).left_end) ≡ c.is_less.result
    = test_is c.each.last.right c.each.last.right_end (get_or c.args.runs.now c.each.i zero_strip).left (get_or c.args.runs.now c.each.i zero_strip).left_end c.is_less.result m.right m.right_end n.left n.left_end c.is_less.ensures in
    elim c.if-is_less.branch [
      | then-is_less+in_ok-push w ↦ record {
        strips = rw (w.out-is, w.last-is, w.in_ok-push.ensures.items) (put_step c.each.out.items _ c.each.last c.each.i c.args.runs.now zero_strip l (t ∙ w.if-is_less.true) c.each.invariant.strips);
        last = rw w.last-is n;
        near = λ h. rw (w.out-is, w.in_ok-push.ensures.items) (All-push (λ s. IsNearStrip s) c.each.out.items c.each.last (c.each.invariant.near h) m);
      }
      | else-is_less w ↦ record {
        strips = rw (w.out-is, w.last-is, w.join-last.ensures.value) (join_step c.each.out.items _ c.each.last c.each.i c.args.runs.now zero_strip l (t ∙ w.if-is_less.false) c.each.invariant.strips);
        last = rw w.last-is w.join-last.ensures.near;
        near = λ h. rw w.out-is (c.each.invariant.near h);
      }
    ]

pub returns-clause-near : goal.returns-clause-near
returns-clause-near c = λ h. rw c.in_ok-push-2.ensures.items (All-push (λ s. IsNearStrip s) c.each.out.items c.each.last (c.each.invariant.near h) c.each.invariant.last)
