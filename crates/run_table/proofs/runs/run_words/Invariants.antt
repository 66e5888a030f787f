use Rattle.run_table.proofs.runs.run_words.Given as goal

abbrev pub ghosts-end_by_workers : goal.ghosts-end_by_workers
ghosts-end_by_workers g a = record { name = a.blank.name; parts = a.blank.parts }
