use Rattle.std.proofs.Common.{◌≡◌, ◌∙◌, ◌&&◌, ◌||◌, sym, ap, arith}
use Rattle.std.specs.Prelude.{codes}
use Rattle.sexpr_text.specs.Items.{children_of, is_headed}
use Rattle.board_text.specs.Lists.{is_list}
use Rattle.board_language.specs.Pads.{bridge_list}
use Rattle.board_pads.proofs.Bridges.{find_kept, found_here, found_next, found_none}
use Rattle.board_pads.proofs.bridge.bridge_list.Goals as goal

pub each-init : goal.each-init
each-init c = find_kept is_list (λ x. is_headed c.args.pad.now.bytes (codes "thermal_bridge_width") x || is_headed c.args.pad.now.bytes (codes "thermal_width") x) (children_of c.args.pad.now.item)

pub returns-then-is_for_bridges : goal.returns-then-is_for_bridges
returns-then-is_for_bridges c =
    found_here c.args.pad.now.bytes (λ x. is_list x && (is_headed c.args.pad.now.bytes (codes "thermal_bridge_width") x || is_headed c.args.pad.now.bytes (codes "thermal_width") x))
    (children_of c.args.pad.now.item) c.each.place c.child-child.result (bridge_list c.args.pad.now.bytes c.args.pad.now.item) (omega (arith, c.each-test.true, c.len-place-end.ensures))
    c.child-child.ensures.bytes c.child-child.ensures.item
    (ap (λ bs. is_list c.child-child.result.item && (is_headed bs (codes "thermal_bridge_width") c.child-child.result.item || is_headed bs (codes "thermal_width") c.child-child.result.item)) (sym c.child-child.ensures.bytes)
    ∙ sym c.is_for_bridges.ensures ∙ c.if-is_for_bridges.true) c.each.invariant

pub each-preserved : goal.each-preserved
each-preserved c =
    found_next (λ x. is_list x && (is_headed c.args.pad.now.bytes (codes "thermal_bridge_width") x || is_headed c.args.pad.now.bytes (codes "thermal_width") x))
    (children_of c.args.pad.now.item) c.each.place c.child-child.result.item (bridge_list c.args.pad.now.bytes c.args.pad.now.item) (omega (arith, c.each-test.true, c.len-place-end.ensures))
    c.child-child.ensures.item
    (ap (λ bs. is_list c.child-child.result.item && (is_headed bs (codes "thermal_bridge_width") c.child-child.result.item || is_headed bs (codes "thermal_width") c.child-child.result.item)) (sym c.child-child.ensures.bytes)
    ∙ sym c.is_for_bridges.ensures ∙ c.if-is_for_bridges.false) c.each.invariant
