use Rattle.sheet_trace.proofs.Rounds.{no_bend, some_bend}
use Rattle.sheet_trace.proofs.contour.put_bend.Goals as goal

pub returns-then-heading : goal.returns-then-heading
returns-then-heading c = no_bend c.args.comes.now c.args.goes.now _ _ _ c.heading.ensures.value c.heading-2.ensures.value c.if-heading.true

pub returns : goal.returns
returns c = some_bend c.args.comes.now c.args.goes.now _ _ _ _ c.heading.ensures.value c.heading-2.ensures.value c.if-heading.false c.in_ok-push.ensures.items
