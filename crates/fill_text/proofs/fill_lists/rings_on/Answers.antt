use Rattle.std.proofs.Common.{◌∙◌, ap, sym, arith}
use Rattle.std.proofs.lemmas.List.Elements.{All-push}
use Rattle.sexpr_text.specs.Items.{children_of}
use Rattle.rings.specs.Rings.{IsRingInRange}
use Rattle.fill_text.specs.FillLists.{is_fill_on, ring_of, rings_on}
use Rattle.fill_text.proofs.Passing.{taken_more, taken_not, taken_all}
use Rattle.fill_text.proofs.fill_lists.rings_on.Goals as goal
use Rattle.fill_text.proofs.fill_lists.rings_on.Goals.{then-branch+in_ok-ring_of+in_ok-push, else-branch}

pub each-preserved : goal.each-preserved
each-preserved c =
    let bytes = c.args.zone.now.bytes in
    let name = c.args.name.now in
    let all = rings_on bytes name c.args.zone.now.item in
    elim c.if-branch.branch [
      | then-branch+in_ok-ring_of+in_ok-push w ↦ rw (w.rings-is, w.in_ok-push.ensures.items) (record {
        value = taken_more (ring_of bytes) (is_fill_on bytes name) (children_of c.args.zone.now.item) c.each.place c.child-list.result.item w.in_ok-ring_of.field-0 c.each.rings.items all
            (omega (arith, c.each-test.true, c.len-place-end.ensures)) c.child-list.ensures.item
            (ap (λ b. is_fill_on b name c.child-list.result.item) (sym c.child-list.ensures.bytes) ∙ sym c.in_ok-is_fill_on.ensures ∙ w.if-branch.true)
            (w.in_ok-ring_of.ensures.value ∙ ap (λ b. ring_of b c.child-list.result.item) c.child-list.ensures.bytes) c.each.invariant.value;
        range = All-push IsRingInRange c.each.rings.items w.in_ok-ring_of.field-0 c.each.invariant.range w.in_ok-ring_of.ensures.range;
      })
      | else-branch w ↦ rw w.rings-is (record {
        value = taken_not (ring_of bytes) (is_fill_on bytes name) (children_of c.args.zone.now.item) c.each.place c.child-list.result.item c.each.rings.items all
            (omega (arith, c.each-test.true, c.len-place-end.ensures)) c.child-list.ensures.item
            (ap (λ b. is_fill_on b name c.child-list.result.item) (sym c.child-list.ensures.bytes) ∙ sym c.in_ok-is_fill_on.ensures ∙ w.if-branch.false) c.each.invariant.value;
        range = c.each.invariant.range;
      })
    ]

pub returns-clause-value : goal.returns-clause-value
returns-clause-value c =
    let bytes = c.args.zone.now.bytes in
    taken_all (ring_of bytes) (is_fill_on bytes c.args.name.now) (children_of c.args.zone.now.item) c.each.place c.each.rings.items (rings_on bytes c.args.name.now c.args.zone.now.item)
    (omega (arith, c.each-test.false, c.len-place-end.ensures)) c.each.invariant.value
