use Rattle.std.proofs.Common.{◌∙◌, ap, sym, true, false}
use Rattle.std.specs.List.{list_any}
use Rattle.std.specs.Str.{bytes_eq}
use Rattle.board_text.proofs.Walks.{any_here, any_next, any_none, any_of_map, get_same}
use Rattle.board_text.proofs.text.has_text.Goals as goal

pub returns-then-eq : goal.returns-then-eq
returns-then-eq c =
    any_of_map (λ other. bytes_eq other c.args.text.now) (λ t. t.items) c.args.texts.now true
    (any_here (λ v. bytes_eq v.items c.args.text.now) c.args.texts.now c.each.other-index c.other-item.result (list_any (λ v. bytes_eq v.items c.args.text.now) c.args.texts.now) c.each-test.true
    (λ d. c.other-item.is ∙ get_same c.args.texts.now c.each.other-index c.other-item.result d c.each-test.true)
    (ap (λ xs. bytes_eq xs c.args.text.now) (sym c.as_slice.ensures.value) ∙ sym c.eq.ensures ∙ c.if-eq.true) c.each.invariant)

pub each-preserved : goal.each-preserved
each-preserved c =
    any_next (λ v. bytes_eq v.items c.args.text.now) c.args.texts.now c.each.other-index c.other-item.result (list_any (λ v. bytes_eq v.items c.args.text.now) c.args.texts.now) c.each-test.true
    (λ d. c.other-item.is ∙ get_same c.args.texts.now c.each.other-index c.other-item.result d c.each-test.true)
    (ap (λ xs. bytes_eq xs c.args.text.now) (sym c.as_slice.ensures.value) ∙ sym c.eq.ensures ∙ c.if-eq.false) c.each.invariant

pub returns : goal.returns
returns c =
    any_of_map (λ other. bytes_eq other c.args.text.now) (λ t. t.items) c.args.texts.now false
    (any_none (λ v. bytes_eq v.items c.args.text.now) c.args.texts.now c.each.other-index (list_any (λ v. bytes_eq v.items c.args.text.now) c.args.texts.now) c.each-test.false c.each.invariant)
