use Rattle.std.proofs.Common.{◌∙◌, ap, sym, not}
use Rattle.std.specs.Str.{bytes_eq}
use Rattle.board_text.proofs.Walks.{get_same}
use Rattle.board_items.proofs.Before.{stops, ends}
use Rattle.board_items.proofs.names.place_of.Goals as goal

pub returns-then-eq-clause-value : goal.returns-then-eq-clause-value
returns-then-eq-clause-value c =
    c.each.invariant.place
    ∙ stops (λ other. not (bytes_eq other c.args.name.now)) (λ v. v.items) c.args.names.now c.each.other-index c.other-item.result c.each-test.true
    (λ d. c.other-item.is ∙ get_same c.args.names.now c.each.other-index c.other-item.result d c.each-test.true)
    (ap not (ap (λ xs. bytes_eq xs c.args.name.now) (sym c.as_slice.ensures.value) ∙ sym c.eq.ensures ∙ c.if-eq.true)) c.each.invariant.count

pub returns-clause-value : goal.returns-clause-value
returns-clause-value c =
    c.each.invariant.place ∙ ends (λ other. not (bytes_eq other c.args.name.now)) (λ v. v.items) c.args.names.now c.each.other-index c.each-test.false c.each.invariant.count
