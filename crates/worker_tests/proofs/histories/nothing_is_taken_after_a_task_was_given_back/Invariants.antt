use Rattle.worker_tests.proofs.histories.nothing_is_taken_after_a_task_was_given_back.Given as goal

abbrev pub ghosts-one_given_back : goal.ghosts-one_given_back
ghosts-one_given_back g a = record { board = a.board.now.board }
