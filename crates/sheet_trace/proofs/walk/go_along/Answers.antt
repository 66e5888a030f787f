use Rattle.sheet_trace.proofs.Walked.{has_next, next_found, walk_pushed}
use Rattle.sheet_trace.proofs.walk.go_along.Goals as goal

pub next_place-requires-clause-some : goal.next_place-requires-clause-some
next_place-requires-clause-some c = has_next c.args.edges.now c.args.place _ c.requires.next c.requires.within

pub returns-clause-walk : goal.returns-clause-walk
returns-clause-walk c = walk_pushed c.args.edges.now c.args.place _ _ _ c.requires.within c.in_ok-push.ensures.items

pub returns-clause-next : goal.returns-clause-next
returns-clause-next c = next_found c.args.edges.now c.args.place _ _ c.requires.next c.requires.within c.next_place.ensures.within c.next_place.ensures.next
