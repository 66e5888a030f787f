use Rattle.std.proofs.Common.{◌∙◌, sym, map}
use Rattle.board_text.specs.Numbers.{first_of}
use Rattle.board_text.specs.Layers.{layer_fault}
use Rattle.board_text.proofs.Walks.{get_same}
use Rattle.board_items.proofs.Faults.{first_here, first_next, first_none}
use Rattle.board_items.proofs.stack.layers_fault.Goals as goal

pub returns-then-is_some : goal.returns-then-is_some
returns-then-is_some c =
    first_here (λ p. layer_fault p.bytes p.item) c.args.layers.now c.each.layer-index c.layer-item.result c.in_ok-fault.fault (first_of (map (λ p. layer_fault p.bytes p.item) c.args.layers.now)) c.each-test.true
    (λ d. c.layer-item.is ∙ get_same c.args.layers.now c.each.layer-index c.layer-item.result d c.each-test.true)
    c.in_ok-fault.ensures (sym c.is_some.ensures ∙ c.if-is_some.true) c.each.invariant

pub each-preserved : goal.each-preserved
each-preserved c =
    first_next (λ p. layer_fault p.bytes p.item) c.args.layers.now c.each.layer-index c.layer-item.result c.in_ok-fault.fault (first_of (map (λ p. layer_fault p.bytes p.item) c.args.layers.now)) c.each-test.true
    (λ d. c.layer-item.is ∙ get_same c.args.layers.now c.each.layer-index c.layer-item.result d c.each-test.true)
    c.in_ok-fault.ensures (sym c.is_some.ensures ∙ c.if-is_some.false) c.each.invariant

pub returns : goal.returns
returns c = first_none (λ p. layer_fault p.bytes p.item) c.args.layers.now c.each.layer-index (first_of (map (λ p. layer_fault p.bytes p.item) c.args.layers.now)) c.each-test.false c.each.invariant
