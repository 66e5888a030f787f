use Rattle.kept_copper.proofs.Apart.{chosen_apart}
use Rattle.kept_copper.proofs.labels.kept_cells.Goals as goal

pub returns-clause-apart : goal.returns-clause-apart
returns-clause-apart c = chosen_apart c.args.flags.now c.args.cells.now _ c.in_ok-kept.ensures
