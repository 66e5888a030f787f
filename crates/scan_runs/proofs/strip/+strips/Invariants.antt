use Rattle.scan_runs.proofs.strip.+strips.Given as goal

abbrev pub decreases-strips : goal.decreases-strips
decreases-strips l = l.more
