use Rattle.std.proofs.Common.{◌≡◌, ◌∙◌, ap, arith, cond, filter_map, sym, Option, None, ℕ}
use Rattle.std.specs.Prelude.{codes}
use Rattle.sexpr_text.specs.Items.{Item, children_of, is_headed}
use Rattle.board_text.specs.Items.{declared_net}
use Rattle.board_items.proofs.Picks.{nets_are, pick_all, pick_more, pick_same}
use Rattle.board_items.proofs.root.declared_nets.Goals as goal
use Rattle.board_items.proofs.root.declared_nets.Goals.{in-Some+in_ok-push, in_default}

pub each-preserved : goal.each-preserved
each-preserved c =
    let given : Item → Option ℕ = λ item. cond (is_headed c.args.board.now.bytes (codes "net") item) (declared_net c.args.board.now.bytes item) None in
    let here : c.in_ok-number.field-0 ≡ given c.child-item.result.item = c.in_ok-number.ensures ∙ ap (λ b. cond (is_headed b (codes "net") c.child-item.result.item) (declared_net b c.child-item.result.item) None) c.child-item.ensures.bytes in
    elim c.match-branch-2.branch [
      | in-Some+in_ok-push w ↦ rw (w.nets-is, w.in_ok-push.ensures.ok)
          (pick_more given (children_of c.args.board.now.item) c.each.place c.each.nets (filter_map given (children_of c.args.board.now.item)) c.child-item.result.item w.in-Some.number
          (omega (arith, c.each-test.true, c.len-place-end.ensures)) c.child-item.ensures.item (sym w.in-Some.is ∙ here) c.each.invariant)
      | in_default w ↦ rw w.nets-is
          (pick_same given (children_of c.args.board.now.item) c.each.place c.each.nets (filter_map given (children_of c.args.board.now.item)) c.child-item.result.item
          (omega (arith, c.each-test.true, c.len-place-end.ensures)) c.child-item.ensures.item (sym w.in_default.is ∙ here) c.each.invariant)
    ]

pub returns : goal.returns
returns c =
    pick_all (λ item. cond (is_headed c.args.board.now.bytes (codes "net") item) (declared_net c.args.board.now.bytes item) None) (children_of c.args.board.now.item) c.each.place c.each.nets
    (filter_map (λ item. cond (is_headed c.args.board.now.bytes (codes "net") item) (declared_net c.args.board.now.bytes item) None) (children_of c.args.board.now.item))
    (omega (arith, c.each-test.false, c.len-place-end.ensures)) c.each.invariant
    ∙ nets_are c.args.board.now.bytes c.args.board.now.item
