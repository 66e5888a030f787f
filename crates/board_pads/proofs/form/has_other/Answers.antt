use Rattle.std.proofs.Common.{◌≡◌, ◌∙◌, ◌&&◌, ap, sym, not, true, false}
use Rattle.std.specs.List.{list_any}
use Rattle.board_text.specs.Numbers.{is_decimal, is_zero}
use Rattle.board_text.proofs.Walks.{any_here, any_next, any_none, any_of_map, get_same}
use Rattle.board_pads.proofs.form.has_other.Goals as goal

pub returns-then-is_other : goal.returns-then-is_other
returns-then-is_other c =
    any_of_map (λ text. is_decimal text && not (is_zero text)) (λ t. t.items) c.args.texts.now true
    (any_here (λ t. is_decimal t.items && not (is_zero t.items)) c.args.texts.now c.each.text-index c.text-item.result (list_any (λ t. is_decimal t.items && not (is_zero t.items)) c.args.texts.now) c.each-test.true
    (λ d. c.text-item.is ∙ get_same c.args.texts.now c.each.text-index c.text-item.result d c.each-test.true)
    (ap (λ xs. is_decimal xs && not (is_zero xs)) (sym c.as_slice.ensures.value) ∙ sym c.is_other.ensures ∙ c.if-is_other.true) c.each.invariant)

pub returns : goal.returns
returns c =
    any_of_map (λ text. is_decimal text && not (is_zero text)) (λ t. t.items) c.args.texts.now false
    (any_none (λ t. is_decimal t.items && not (is_zero t.items)) c.args.texts.now c.each.text-index (list_any (λ t. is_decimal t.items && not (is_zero t.items)) c.args.texts.now) c.each-test.false c.each.invariant)
