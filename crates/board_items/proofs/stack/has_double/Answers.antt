use Rattle.std.proofs.Common.{◌∙◌, ◌-◌, ◌||◌, List, ap, sym, subst, not, length, arith}
use Rattle.std.specs.Str.{bytes_eq}
use Rattle.board_text.specs.Layers.{Name, is_among}
use Rattle.board_text.proofs.Walks.{get_same}
use Rattle.board_items.proofs.Doubles.{AreBehind, none_behind, stands_twice, stands_once, all_once}
use Rattle.board_items.proofs.stack.has_double.Goals as goal

pub each-init : goal.each-init
each-init c =
    subst (λ (seen : List Name). AreBehind (λ t. t.items) c.args.names.now (length c.args.names.now - 0) seen) (sym c.new-behind.ensures)
    (none_behind (λ t. t.items) c.args.names.now (length c.args.names.now - 0) (omega arith))

pub returns-then-not-new : goal.returns-then-not-new
returns-then-not-new c =
    stands_twice (λ t. t.items) c.args.names.now c.each.step c.index-names-names.result c.each.behind c.in_ok-new.new c.each-test.true
    (λ d. c.index-names-names.is ∙ get_same c.args.names.now (length c.args.names.now - 1 - c.each.step) c.index-names-names.result d (omega (arith, c.each-test.true)))
    c.each.invariant (c.in_ok-new.ensures.first ∙ ap (λ name. not (is_among c.each.behind name)) (c.in_ok-copy_of.ensures ∙ c.as_slice.ensures.value)) c.if-not-new.true

pub each-preserved : goal.each-preserved
each-preserved c =
    stands_once (λ t. t.items) c.args.names.now c.each.step c.index-names-names.result c.each.behind c.put.new.self c.in_ok-new.new c.each-test.true
    (λ d. c.index-names-names.is ∙ get_same c.args.names.now (length c.args.names.now - 1 - c.each.step) c.index-names-names.result d (omega (arith, c.each-test.true)))
    c.each.invariant (c.in_ok-new.ensures.first ∙ ap (λ name. not (is_among c.each.behind name)) (c.in_ok-copy_of.ensures ∙ c.as_slice.ensures.value)) c.if-not-new.false
    (λ other. c.in_ok-new.ensures.kept other ∙ ap (λ name. bytes_eq name other || is_among c.each.behind other) (c.in_ok-copy_of.ensures ∙ c.as_slice.ensures.value))

pub returns : goal.returns
returns c = all_once (λ t. t.items) c.args.names.now c.each.step c.each.behind c.each-test.false c.each.invariant
