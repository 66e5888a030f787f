use Rattle.std.proofs.Common.{◌||◌, ◌∙◌, ap, sym, arith, Bool, ℕ, List}
use Rattle.std.specs.Prelude.{codes}
use Rattle.sexpr_text.specs.Items.{Item, is_headed, children_of}
use Rattle.board_text.specs.Lists.{is_list}
use Rattle.board_language.specs.Zones.{layer_list}
use Rattle.board_zones.proofs.Children.{found_here, found_not_q, found_not_p}
use Rattle.board_zones.proofs.lists.layer_list.Goals as goal
use Rattle.board_zones.proofs.lists.layer_list.Goals.{else-is_list-via-then-is_list+else-is_layer_list, else-is_list-via-else-is_list}

abbrev is_layers : List ℕ → Item → Bool
is_layers bytes list = is_headed bytes (codes "layer") list || is_headed bytes (codes "layers") list

pub returns-then-is_layer_list : goal.returns-then-is_layer_list
returns-then-is_layer_list c =
    found_here c.args.zone.now.bytes (is_layers c.args.zone.now.bytes) is_list (children_of c.args.zone.now.item) c.each.place c.child-child.result (layer_list c.args.zone.now.bytes c.args.zone.now.item)
    (omega (arith, c.each-test.true, c.len-place-end.ensures)) c.child-child.ensures.bytes c.child-child.ensures.item (sym c.is_list.ensures ∙ c.if-is_list.true)
    (ap (λ b. is_layers b c.child-child.result.item) (sym c.child-child.ensures.bytes) ∙ sym c.is_layer_list.ensures ∙ c.if-is_layer_list.true) c.each.invariant

pub each-preserved : goal.each-preserved
each-preserved c =
    elim c.else-is_list.branch [
      | else-is_list-via-then-is_list+else-is_layer_list w ↦ found_not_p (is_layers c.args.zone.now.bytes) is_list (children_of c.args.zone.now.item) c.each.place c.child-child.result.item (layer_list c.args.zone.now.bytes c.args.zone.now.item)
          (omega (arith, c.each-test.true, c.len-place-end.ensures)) c.child-child.ensures.item
          (ap (λ b. is_layers b c.child-child.result.item) (sym c.child-child.ensures.bytes) ∙ sym w.is_layer_list.ensures ∙ w.if-is_layer_list.false) c.each.invariant
      | else-is_list-via-else-is_list w ↦ found_not_q (is_layers c.args.zone.now.bytes) is_list (children_of c.args.zone.now.item) c.each.place c.child-child.result.item (layer_list c.args.zone.now.bytes c.args.zone.now.item)
          (omega (arith, c.each-test.true, c.len-place-end.ensures)) c.child-child.ensures.item (sym c.is_list.ensures ∙ w.if-is_list.false) c.each.invariant
    ]
