use Rattle.kept_copper.proofs.pieces.fill_of_cells.Goals as goal

pub all_grown-requires-clause-octs : goal.all_grown-requires-clause-octs
all_grown-requires-clause-octs c = rw (c.deref-2.ensures.value) (c.in_ok-cells.ensures.reach 2147483648 (λ x y h. c.requires.kept x y ((c.in_ok-rows.ensures x y).0 h)))
