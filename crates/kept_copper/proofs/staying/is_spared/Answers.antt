use Rattle.kept_copper.proofs.staying.is_spared.Goals as goal

pub returns-in-Below : goal.returns-in-Below
returns-in-Below c = rw (c.in-Below.is) c.is_large_part.ensures
