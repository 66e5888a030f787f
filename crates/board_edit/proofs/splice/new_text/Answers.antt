use Rattle.board_edit.proofs.Boards.{in_text, put_is}
use Rattle.board_edit.proofs.Arms.{ok_so}
use Rattle.board_edit.proofs.splice.new_text.Goals as goal

pub made-requires-clause-order : goal.made-requires-clause-order
made-requires-clause-order c = (in_text c.args.text.now c.args.board.now c.args.edit.now c.in_ok-splice.splice c.requires.board c.in_ok-splice.ensures).order

pub made-requires-clause-within : goal.made-requires-clause-within
made-requires-clause-within c = (in_text c.args.text.now c.args.board.now c.args.edit.now c.in_ok-splice.splice c.requires.board c.in_ok-splice.ensures).within

pub returns : goal.returns
returns c =
    ok_so c.made.result _ _
    (λ new p. put_is c.args.text.now c.args.board.now c.args.edit.now c.args.thing c.in_ok-splice.splice new.items c.requires.board c.requires.thing c.requires.fits c.in_ok-splice.ensures p)
    c.made.ensures
