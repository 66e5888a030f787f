use Rattle.same_boards.proofs.Boards.{same_items, sound_items}
use Rattle.same_boards.proofs.same_items_law.Goals as goal

pub returns-clause-board : goal.returns-clause-board
returns-clause-board c = same_items

pub returns-clause-sound : goal.returns-clause-sound
returns-clause-sound c = sound_items
