use Rattle.fill_table.proofs.filled_lines.Given as goal

abbrev pub ghosts-filled : goal.ghosts-filled
ghosts-filled a = record { name = a.blank.name; parts = a.blank.parts }
