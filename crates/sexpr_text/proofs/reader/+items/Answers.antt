use Rattle.std.proofs.Common.{arith}
use Rattle.std.proofs.lemmas.Result.{err_from_is_err_and}
use Rattle.sexpr_text.proofs.Steps.{list_through, no_room, no_inner, not_closed, bracket_at, same_error, none_more, through_none, through_more}
use Rattle.sexpr_text.proofs.Taken.{takes_none, takes_more, takes_wider, takes_end, takes_group, takes_list, mark_within}
use Rattle.sexpr_text.proofs.reader.+items.Goals as goal

pub items-each-init : goal.items-each-init
items-each-init t c = record {
  within = omega arith;
  forward = omega arith;
  so_far = takes_none _ c.args.room _ _ (omega arith);
  through = through_none _ _ _;
}

pub items-returns-then-is_end-clause-found : goal.items-returns-then-is_end-clause-found
items-returns-then-is_end-clause-found t c = takes_end _ c.args.room _ _ _ _ _ c.each.invariant.so_far c.space_end-from.ensures.white

pub items-returns-in_err-to-clause-none : goal.items-returns-in_err-to-clause-none
items-returns-in_err-to-clause-none t c bad =
    let p = err_from_is_err_and c.from_residual.result c.from_residual.ensures.1 in
    none_more _ c.args.room _ _ _ c.each.invariant.through c.space_end-from.ensures.white c.space_end-from.ensures.longest (c.in_err-to.ensures.none (same_error _ _ _ _ p.1 p.2 bad))

pub items-each-preserved : goal.items-each-preserved
items-each-preserved t c = record {
  within = c.in_ok-to.ensures.within;
  forward = omega (arith, c.each.invariant.forward, c.space_end-from.ensures.white.order, c.in_ok-to.ensures.forward);
  so_far = takes_more _ c.args.room _ _ _ _ _ _ c.each.invariant.so_far (takes_wider _ c.args.room _ _ _ _ _ c.space_end-from.ensures.white c.in_ok-to.ensures.found);
  through = through_more _ c.args.room _ _ _ _ c.each.invariant.through c.space_end-from.ensures.white c.space_end-from.ensures.longest c.in_ok-to.ensures.through;
}

pub list-returns-then-room-eq0-clause-none : goal.list-returns-then-room-eq0-clause-none
list-returns-then-room-eq0-clause-none t c bad = no_room _ c.args.room _ c.requires.within c.requires.opening c.if-room-eq0.true

pub list-returns-in_err-end-clause-none : goal.list-returns-in_err-end-clause-none
list-returns-in_err-end-clause-none t c bad =
    let p = err_from_is_err_and c.from_residual.result c.from_residual.ensures.1 in
    no_inner _ c.args.room _ c.requires.within c.requires.opening (c.in_err-end.ensures.none (same_error _ _ _ _ p.1 p.2 bad))

pub list-returns-then-end-bytes-clause-none : goal.list-returns-then-end-bytes-clause-none
list-returns-then-end-bytes-clause-none t c bad =
    not_closed _ c.args.room _ _ _ _ _ c.requires.within c.requires.opening c.in_ok-end.ensures.found.reads c.in_ok-end.ensures.stops c.if-end-bytes.true

pub list-list-requires-clause-mark : goal.list-list-requires-clause-mark
list-list-requires-clause-mark t c = mark_within _ _ _ _ _ _ _ c.waiting-mark.ensures c.in_ok-end.ensures.found

pub list-returns-clause-found : goal.list-returns-clause-found
list-returns-clause-found t c =
    takes_group _ c.args.room _ _ _ _ _ _ (omega arith)
    (bracket_at _ _ _ _ (omega arith) (omega (arith, c.in_ok-end.ensures.forward)) (omega (arith, c.in_ok-end.ensures.within)) c.requires.opening c.in_ok-end.ensures.stops)
    c.waiting-mark.ensures c.in_ok-end.ensures.found c.in_ok-list.ensures.nodes c.in_ok-list.ensures.waiting

pub list-returns-clause-shape : goal.list-returns-clause-shape
list-returns-clause-shape t c =
    takes_list _ c.args.room _ _ _ _ _ _ (omega arith)
    (bracket_at _ _ _ _ (omega arith) (omega (arith, c.in_ok-end.ensures.forward)) (omega (arith, c.in_ok-end.ensures.within)) c.requires.opening c.in_ok-end.ensures.stops)
    c.waiting-mark.ensures c.in_ok-end.ensures.found c.in_ok-list.ensures.nodes

pub list-returns-clause-through : goal.list-returns-clause-through
list-returns-clause-through t c = list_through _ c.args.room _ _ _ _ _ c.requires.within c.requires.opening c.in_ok-end.ensures.found.reads c.in_ok-end.ensures.stops
