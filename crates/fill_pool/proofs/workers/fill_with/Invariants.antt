use Rattle.fill_pool.proofs.workers.fill_with.Given as goal

abbrev pub ghosts-by_workers : goal.ghosts-by_workers
ghosts-by_workers g a = record { board = a.board.now.board }
