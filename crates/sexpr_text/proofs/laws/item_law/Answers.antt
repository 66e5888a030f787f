use Rattle.sexpr_text.proofs.ItemAt.{item_is, is_node_at}
use Rattle.sexpr_text.proofs.laws.item_law.Goals as goal

pub returns : goal.returns
returns c = record { same = item_is; each = is_node_at }
