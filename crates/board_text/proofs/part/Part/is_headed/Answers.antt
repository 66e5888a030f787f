use Rattle.board_text.proofs.AtPart.{head_some, head_none}
use Rattle.board_text.proofs.part.Part.is_headed.Goals as goal

pub returns-in-Some : goal.returns-in-Some
returns-in-Some c =
    rw (← c.self.view_is) (head_some c.self.inside.bytes.now c.args.name.now c.self.inside.tree.now c.self.inside.id c.head.result c.in-Some.head c.eq.result c.self.invariant c.in-Some.is c.head.ensures.item c.eq.ensures)

pub returns-in-None : goal.returns-in-None
returns-in-None c =
    rw (← c.self.view_is) (head_none c.self.inside.bytes.now c.args.name.now c.self.inside.tree.now c.self.inside.id c.head.result c.self.invariant c.in-None.is c.head.ensures.item)
