use Rattle.board_text.proofs.AtPart.{no_text, some_text}
use Rattle.board_text.proofs.part.Part.text.Goals as goal

pub returns-in-List : goal.returns-in-List
returns-in-List c =
    rw (← c.self.view_is) (no_text c.self.inside.bytes.now c.self.inside.tree.now c.self.inside.id c.kind.result c.self.invariant c.in-List.is c.kind.ensures.item)

pub returns-in_ok-text-in-Word : goal.returns-in_ok-text-in-Word
returns-in_ok-text-in-Word c =
    rw (← c.self.view_is) (some_text c.self.inside.bytes.now c.self.inside.tree.now c.self.inside.id c.kind.result c.in_ok-text-in-Word.text.items c.self.invariant c.in-Word.is c.kind.ensures.item c.in_ok-text-in-Word.ensures.item)
