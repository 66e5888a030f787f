use Rattle.islands.proofs.Stacked.{meeting_links}
use Rattle.islands.proofs.labels.classes_of.Goals as goal

pub labels-requires-clause-links : goal.labels-requires-clause-links
labels-requires-clause-links c = meeting_links c.args.octs.items
