use Rattle.board_edit.proofs.Lines.{first, last}
use Rattle.board_edit.proofs.words.first_line.Goals as goal

pub returns-then-end-text-clause-lines : goal.returns-then-end-text-clause-lines
returns-then-end-text-clause-lines c = first c.args.text.now c.line_end-end.result c.line_end-end.ensures.value c.if-end-text.true

pub returns-else-end-text-clause-lines : goal.returns-else-end-text-clause-lines
returns-else-end-text-clause-lines c = last c.args.text.now c.line_end-end.result c.line_end-end.ensures.value c.if-end-text.false
