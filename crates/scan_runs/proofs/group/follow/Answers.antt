use Rattle.std.proofs.Common.{refl, arith}
use Rattle.std.proofs.lemmas.Int.{ints}
use Rattle.scan_runs.proofs.Settled.{small_good}
use Rattle.scan_runs.proofs.Joins.{taken_begun}
use Rattle.scan_runs.proofs.Groups.{taken_joined, settled_as}
use Rattle.scan_runs.proofs.group.follow.Goals as goal

pub settled-requires-clause-runs : goal.settled-requires-clause-runs
settled-requires-clause-runs c = rw c.deref.ensures.value (small_good c.args.strip.now.runs.items c.requires.strip.runs)

pub returns-in_ok-push-in-None-2 : goal.returns-in_ok-push-in-None-2
returns-in_ok-push-in-None-2 c =
    rw (c.in_ok-push-in-None-2.ensures.items, c.in_ok-push-in-None.ensures.items)
    (taken_begun c.args.strip.now c.in_ok-settled-in-None.field-0 c.args.last c.args.bands.now.items
    (settled_as c.args.strip.now.top _ c.args.strip.now.more c.args.strip.now.runs.items _ (omega (arith, ints, c.requires.strip.top)) (rw c.deref.ensures.value at c.in_ok-settled-in-None.ensures)) ((rw c.in-None.is at c.in_ok-joined.ensures.none) refl))

pub returns-in-Some : goal.returns-in-Some
returns-in-Some c = taken_joined c.args.strip.now c.args.last c.longer.result c.args.bands.now.items c.follow_rest.new.bands.items c.follow_rest.result c.longer.ensures c.follow_rest.ensures
