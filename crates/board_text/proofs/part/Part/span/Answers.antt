use Rattle.std.proofs.Common.{◌≡◌}
use Rattle.board_text.proofs.AtPart.{at_part}
use Rattle.board_text.proofs.part.Part.span.Goals as goal

pub returns-clause-from : goal.returns-clause-from
returns-clause-from c =
    rw (← c.self.view_is) (at_part {P = λ i. c.span.result.from ≡ i.from} c.self.inside.bytes.now c.self.inside.tree.now c.self.inside.id c.self.invariant (λ item h. (c.span.ensures.item item h).0))

pub returns-clause-to : goal.returns-clause-to
returns-clause-to c =
    rw (← c.self.view_is) (at_part {P = λ i. c.span.result.to ≡ i.to} c.self.inside.bytes.now c.self.inside.tree.now c.self.inside.id c.self.invariant (λ item h. (c.span.ensures.item item h).1))
