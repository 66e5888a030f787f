use Rattle.board_items.proofs.Bits.{no_layers}
use Rattle.board_items.proofs.layer_lists.no_layers_law.Goals as goal

pub returns : goal.returns
returns c = no_layers
