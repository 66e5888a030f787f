use Rattle.scan_runs.proofs.Settled.{small_good}
use Rattle.scan_runs.proofs.Groups.{last_good}
use Rattle.scan_runs.proofs.group.take_in.Goals as goal

pub settled-requires-clause-runs : goal.settled-requires-clause-runs
settled-requires-clause-runs c = rw c.deref.ensures.value (small_good c.args.strip.now.runs.items c.requires.strip.runs)

pub follow-requires-clause-last : goal.follow-requires-clause-last
follow-requires-clause-last c = last_good c.pop.new.self.items c.in-Some.last c.args.bands.now.items (rw c.in-Some.is at c.pop.ensures.items) c.requires.bands
