use Rattle.fill_pool.proofs.filling.filled_alone.Given as goal

abbrev pub ghosts-all_made : goal.ghosts-all_made
ghosts-all_made a = record { name = a.blank.name; parts = a.blank.parts }
