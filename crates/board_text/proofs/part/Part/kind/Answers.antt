use Rattle.std.proofs.Common.{◌≡◌}
use Rattle.board_text.proofs.AtPart.{at_part}
use Rattle.board_text.proofs.part.Part.kind.Goals as goal

pub returns : goal.returns
returns c =
    rw (← c.self.view_is) (at_part {P = λ i. c.kind.result ≡ i.kind} c.self.inside.bytes.now c.self.inside.tree.now c.self.inside.id c.self.invariant c.kind.ensures.item)
