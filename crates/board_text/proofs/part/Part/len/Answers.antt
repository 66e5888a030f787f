use Rattle.board_text.proofs.AtPart.{children_count}
use Rattle.board_text.proofs.part.Part.len.Goals as goal

pub returns : goal.returns
returns c = rw (← c.self.view_is) (children_count c.self.inside.bytes.now c.self.inside.tree.now c.self.inside.id c.children.result.now c.self.invariant c.children.ensures.item)
