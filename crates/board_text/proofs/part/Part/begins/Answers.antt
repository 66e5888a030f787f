use Rattle.board_text.proofs.AtPart.{begins_some, begins_none}
use Rattle.board_text.proofs.part.Part.begins.Goals as goal

pub returns-in-Some : goal.returns-in-Some
returns-in-Some c =
    rw (← c.self.view_is) (begins_some c.self.inside.bytes.now c.args.front.now c.self.inside.tree.now c.self.inside.id c.head.result c.in-Some.head c.starts_with.result c.self.invariant c.in-Some.is c.head.ensures.item c.starts_with.ensures.value)

pub returns-in-None : goal.returns-in-None
returns-in-None c =
    rw (← c.self.view_is) (begins_none c.self.inside.bytes.now c.args.front.now c.self.inside.tree.now c.self.inside.id c.head.result c.starts_with-in-None.result c.self.invariant c.in-None.is c.head.ensures.item c.starts_with-in-None.ensures.value)
