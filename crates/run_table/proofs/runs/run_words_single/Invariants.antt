use Rattle.run_table.proofs.runs.run_words_single.Given as goal

abbrev pub ghosts-end_by_one : goal.ghosts-end_by_one
ghosts-end_by_one a = record { name = a.blank.name; parts = a.blank.parts }
