use Rattle.board_items.proofs.StampTables.{among_all, found_all}
use Rattle.board_items.proofs.stamps.stamps_law.Goals as goal

pub returns-clause-there : goal.returns-clause-there
returns-clause-there c = among_all

pub returns-clause-first : goal.returns-clause-first
returns-clause-first c = found_all
