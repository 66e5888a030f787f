use Rattle.std.proofs.Common.{◌∙◌, sym, Some}
use Rattle.std.specs.List.{list_any}
use Rattle.board_text.specs.Numbers.{is_short}
use Rattle.board_text.proofs.Walks.{any_here, any_next, any_none, get_same}
use Rattle.board_items.proofs.points.has_short_point.Goals as goal

pub returns-then-is_short : goal.returns-then-is_short
returns-then-is_short c =
    any_here (λ p. is_short 2 (Some p.item)) c.args.lists.now c.each.list-index c.list-item.result (list_any (λ p. is_short 2 (Some p.item)) c.args.lists.now) c.each-test.true
    (λ d. c.list-item.is ∙ get_same c.args.lists.now c.each.list-index c.list-item.result d c.each-test.true) (sym c.is_short.ensures ∙ c.if-is_short.true) c.each.invariant

pub each-preserved : goal.each-preserved
each-preserved c =
    any_next (λ p. is_short 2 (Some p.item)) c.args.lists.now c.each.list-index c.list-item.result (list_any (λ p. is_short 2 (Some p.item)) c.args.lists.now) c.each-test.true
    (λ d. c.list-item.is ∙ get_same c.args.lists.now c.each.list-index c.list-item.result d c.each-test.true) (sym c.is_short.ensures ∙ c.if-is_short.false) c.each.invariant

pub returns : goal.returns
returns c = any_none (λ p. is_short 2 (Some p.item)) c.args.lists.now c.each.list-index (list_any (λ p. is_short 2 (Some p.item)) c.args.lists.now) c.each-test.false c.each.invariant
