use Rattle.std.proofs.Common.{◌∙◌, ap, sym, not}
use Rattle.std.specs.Prelude.{codes}
use Rattle.std.specs.List.{list_any}
use Rattle.sexpr_text.specs.Items.{is_headed}
use Rattle.board_text.proofs.Walks.{any_here, any_next, any_none, get_same}
use Rattle.board_items.proofs.points.has_other_point.Goals as goal

pub returns-then-not-is_headed : goal.returns-then-not-is_headed
returns-then-not-is_headed c =
    any_here (λ p. not (is_headed p.bytes (codes "xy") p.item)) c.args.lists.now c.each.list-index c.list-item.result (list_any (λ p. not (is_headed p.bytes (codes "xy") p.item)) c.args.lists.now) c.each-test.true
    (λ d. c.list-item.is ∙ get_same c.args.lists.now c.each.list-index c.list-item.result d c.each-test.true) (ap not (sym c.is_headed.ensures ∙ c.if-not-is_headed.true)) c.each.invariant

pub each-preserved : goal.each-preserved
each-preserved c =
    any_next (λ p. not (is_headed p.bytes (codes "xy") p.item)) c.args.lists.now c.each.list-index c.list-item.result (list_any (λ p. not (is_headed p.bytes (codes "xy") p.item)) c.args.lists.now) c.each-test.true
    (λ d. c.list-item.is ∙ get_same c.args.lists.now c.each.list-index c.list-item.result d c.each-test.true) (ap not (sym c.is_headed.ensures ∙ c.if-not-is_headed.false)) c.each.invariant

pub returns : goal.returns
returns c = any_none (λ p. not (is_headed p.bytes (codes "xy") p.item)) c.args.lists.now c.each.list-index (list_any (λ p. not (is_headed p.bytes (codes "xy") p.item)) c.args.lists.now) c.each-test.false c.each.invariant
