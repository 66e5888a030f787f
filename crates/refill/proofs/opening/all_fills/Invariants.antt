use Rattle.refill.proofs.opening.all_fills.Given as goal

abbrev pub ghosts-counted_fills : goal.ghosts-counted_fills
ghosts-counted_fills a = record { name = a.blank.name; parts = a.blank.parts }
