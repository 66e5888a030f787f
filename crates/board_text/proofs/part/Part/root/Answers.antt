use Rattle.sexpr_text.proofs.ItemAt.{item_is}
use Rattle.board_text.proofs.part.Part.root.Goals as goal

pub returns-clause-root : goal.returns-clause-root
returns-clause-root c = λ root h. item_is c.args.tree.now c.root.result root (c.root.ensures.item c.args.bytes.now root h)
