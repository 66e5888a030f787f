use Rattle.scan_runs.proofs.Groups.{rest_extended, rest_other_band}
use Rattle.scan_runs.proofs.group.follow_rest.Goals as goal

pub returns-then-alike : goal.returns-then-alike
returns-then-alike c =
    rw c.in_ok-push-2.ensures.items
    (rest_extended c.args.strip.now c.args.band c.extended.result c.args.bands.now.items c.requires.more c.requires.last
    (rw (c.deref.ensures.value, c.deref-2.ensures.value) at (c.alike.ensures.yes c.if-alike.true)) c.extended.ensures)

pub returns : goal.returns
returns c =
    rw (c.in_ok-push-4.ensures.items, c.in_ok-push-3.ensures.items)
    (rest_other_band c.args.strip.now c.args.band c.in_ok-rest_of.field-0 c.args.bands.now.items c.requires.more c.requires.last
    (rw (c.deref.ensures.value, c.deref-2.ensures.value) at (c.alike.ensures.no c.if-alike.false)) c.in_ok-rest_of.ensures)
