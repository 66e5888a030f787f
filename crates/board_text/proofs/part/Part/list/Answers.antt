use Rattle.board_text.proofs.AtPart.{list_some, list_none}
use Rattle.board_text.proofs.part.Part.list.Goals as goal

pub returns-in-Some : goal.returns-in-Some
returns-in-Some c =
    rw (← c.self.view_is) (list_some c.self.inside.bytes.now c.args.name.now c.self.inside.tree.now c.self.inside.id c.in-Some.id c.find.result c.self.invariant c.in-Some.is c.find.ensures.item)

pub returns-in-None : goal.returns-in-None
returns-in-None c =
    rw (← c.self.view_is) (list_none c.self.inside.bytes.now c.args.name.now c.self.inside.tree.now c.self.inside.id c.find.result c.self.invariant c.in-None.is c.find.ensures.item)
