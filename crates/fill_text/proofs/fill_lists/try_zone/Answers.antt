use Rattle.std.proofs.Common.{◌∙◌, ap, sym, arith, filter, drop, ◌+◌}
use Rattle.sexpr_text.specs.Items.{children_of}
use Rattle.fill_text.specs.FillLists.{is_bad, bad_among, names_of_set}
use Rattle.fill_text.proofs.Passing.{passing_here, passing_later, passing_none}
use Rattle.fill_text.proofs.fill_lists.try_zone.Goals as goal

pub returns-then-branch-clause-bad : goal.returns-then-branch-clause-bad
returns-then-branch-clause-bad c =
    let bytes = c.args.zone.now.bytes in
    let names = names_of_set c.args.layers.now c.args.set in
    record {
      fill = c.child-list.result.item;
      later = filter (is_bad bytes names) (drop (c.each.place + 1) (children_of c.args.zone.now.item));
      first = passing_here (is_bad bytes names) (children_of c.args.zone.now.item) c.each.place c.child-list.result.item (bad_among bytes names c.args.zone.now.item)
          (omega (arith, c.each-test.true, c.len-place-end.ensures)) c.child-list.ensures.item
          (ap (λ b. is_bad b names c.child-list.result.item) (sym c.child-list.ensures.bytes) ∙ sym c.in_ok-is_bad.ensures ∙ c.if-branch.true) c.each.invariant;
      stands = c.span.ensures.from;
    }

pub each-preserved : goal.each-preserved
each-preserved c =
    let bytes = c.args.zone.now.bytes in
    let names = names_of_set c.args.layers.now c.args.set in
    passing_later (is_bad bytes names) (children_of c.args.zone.now.item) c.each.place c.child-list.result.item (bad_among bytes names c.args.zone.now.item)
    (omega (arith, c.each-test.true, c.len-place-end.ensures)) c.child-list.ensures.item
    (ap (λ b. is_bad b names c.child-list.result.item) (sym c.child-list.ensures.bytes) ∙ sym c.in_ok-is_bad.ensures ∙ c.if-branch.false) c.each.invariant

pub returns-clause-read : goal.returns-clause-read
returns-clause-read c =
    let bytes = c.args.zone.now.bytes in
    let names = names_of_set c.args.layers.now c.args.set in
    passing_none (is_bad bytes names) (children_of c.args.zone.now.item) c.each.place (bad_among bytes names c.args.zone.now.item)
    (omega (arith, c.each-test.false, c.len-place-end.ensures)) c.each.invariant
