use Rattle.worker_tests.proofs.histories.a_task_waits_for_those_that_reach_it.Given as goal

abbrev pub ghosts-filled_by_three : goal.ghosts-filled_by_three
ghosts-filled_by_three g a = record { board = a.board.now.board }
