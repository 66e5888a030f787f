use Rattle.std.proofs.Common.{◌∙◌, arith, ap, sym}
use Rattle.std.specs.Prelude.{codes}
use Rattle.sexpr_text.specs.Items.{children_of, is_headed}
use Rattle.board_text.specs.Items.{is_stamp_list, stamp_list}
use Rattle.board_text.proofs.Walks.{found_here, found_later, has_first, has_second, has_neither}
use Rattle.board_text.proofs.part.Part.stamp_list.Goals as goal
use Rattle.board_text.proofs.part.Part.stamp_list.Goals.{then-is_headed-via-then-is_headed, then-is_headed-via-else-is_headed+then-is_headed-2}

pub returns-then-is_headed : goal.returns-then-is_headed
returns-then-is_headed c =
    let bytes = c.args.self.now.bytes in
    let item = c.child-child.result.item in
    found_here bytes (is_stamp_list bytes) (children_of c.args.self.now.item) c.each.place c.child-child.result (stamp_list bytes c.args.self.now.item)
    (omega (arith, c.each-test.true, c.len-place-end.ensures)) c.child-child.ensures.bytes c.child-child.ensures.item
    (elim c.then-is_headed.branch [
      | then-is_headed-via-then-is_headed w ↦
          has_first (is_headed bytes (codes "tstamp") item) (is_headed bytes (codes "uuid") item) (ap (λ b. is_headed b (codes "tstamp") item) (sym c.child-child.ensures.bytes) ∙ sym c.is_headed.ensures ∙ w.if-is_headed.true)
      | then-is_headed-via-else-is_headed+then-is_headed-2 w ↦
          has_second (is_headed bytes (codes "tstamp") item) (is_headed bytes (codes "uuid") item)
          (ap (λ b. is_headed b (codes "uuid") item) (sym c.child-child.ensures.bytes) ∙ sym w.is_headed-else-is_headed.ensures ∙ w.if-is_headed-2.true)
    ]) c.each.invariant

pub each-preserved : goal.each-preserved
each-preserved c =
    let bytes = c.args.self.now.bytes in
    let item = c.child-child.result.item in
    found_later (is_stamp_list bytes) (children_of c.args.self.now.item) c.each.place item (stamp_list bytes c.args.self.now.item)
    (omega (arith, c.each-test.true, c.len-place-end.ensures)) c.child-child.ensures.item
    (has_neither (is_headed bytes (codes "tstamp") item) (is_headed bytes (codes "uuid") item)
    (ap (λ b. is_headed b (codes "tstamp") item) (sym c.child-child.ensures.bytes) ∙ sym c.is_headed.ensures ∙ c.if-is_headed.false)
    (ap (λ b. is_headed b (codes "uuid") item) (sym c.child-child.ensures.bytes) ∙ sym c.is_headed-else-is_headed.ensures ∙ c.if-is_headed-2.false))
    c.each.invariant
