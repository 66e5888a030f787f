use Rattle.std.proofs.Common.{arith}
use Rattle.board_text.proofs.Walks.{behind_here, behind_none}
use Rattle.board_text.proofs.part.Part.behind.Goals as goal
use Rattle.board_text.proofs.part.Part.behind.Goals.{else-len-gt0-via-then-len-gt0+else-place-len, else-len-gt0-via-else-len-gt0}

pub returns-then-place-len : goal.returns-then-place-len
returns-then-place-len c = behind_here c.args.self.now.bytes c.args.self.now.item c.args.place c.child.result c.child.ensures.bytes (omega (arith, c.if-place-len.true, c.len-len.ensures)) c.child.ensures.item

pub returns-else-len-gt0 : goal.returns-else-len-gt0
returns-else-len-gt0 c = behind_none c.args.self.now.bytes c.args.self.now.item c.args.place
    (elim c.else-len-gt0.branch [
      | else-len-gt0-via-then-len-gt0+else-place-len w ↦ omega (arith, w.if-place-len.false, c.len-len.ensures)
      | else-len-gt0-via-else-len-gt0 w ↦ omega (arith, w.if-len-gt0.false, c.len-len.ensures)
    ])
