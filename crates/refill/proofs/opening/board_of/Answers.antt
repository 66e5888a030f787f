use Rattle.board_edit.proofs.Boards.{rules_so}
use Rattle.refill.proofs.opening.board_of.Goals as goal

pub returns-clause-rules : goal.returns-clause-rules
returns-clause-rules c =
    let t = c.in_ok-tree.ensures.found in
    rules_so c.args.text.now t.root c.args.rules c.in_ok-board.board (c.in_ok-board.ensures.board t.root t.is_tree).1
