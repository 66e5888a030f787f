use Rattle.scan_runs.proofs.PartLaws.{small_joint, order_changes}
use Rattle.scan_runs.proofs.relation.related.Goals as goal

pub returns-then-not-is_apart : goal.returns-then-not-is_apart
returns-then-not-is_apart c = order_changes c.args.more c.args.a.from c.args.b.from c.requires.left (c.is_apart-2.ensures.no c.if-not-is_apart.true)

pub returns-in-Some : goal.returns-in-Some
returns-in-Some c =
    small_joint c.args.more c.args.a c.args.b c.in-Some.to c.requires.a c.requires.b (c.is_apart-2.ensures.yes c.if-not-is_apart.false) c.in-Some.ensures.some
    (c.is_apart-3.ensures.yes c.if-not-is_apart-2.false)
