use Rattle.sheet_trace.proofs.Walked.{put_none, put_one}
use Rattle.sheet_trace.proofs.walk.put_drawn.Goals as goal

pub returns-then-used-first-clause-drawings : goal.returns-then-used-first-clause-drawings
returns-then-used-first-clause-drawings c = put_none c.args.edges.now c.args.first c.args.used.now _ _ c.requires.within c.requires.flags c.if-used-first.true

pub returns-clause-drawings : goal.returns-clause-drawings
returns-clause-drawings c =
    put_one c.args.edges.now c.args.first c.args.used.now _ _ _ _ _ _ c.requires.within c.requires.flags c.if-used-first.false c.requires.few
    c.in_ok-walk.ensures.walk c.in_ok-walk.ensures.used (rw c.deref.ensures.value at c.in_ok-drawn.ensures) c.in_ok-push.ensures.items
