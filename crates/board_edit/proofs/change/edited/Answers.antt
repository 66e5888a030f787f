use Rattle.std.proofs.Common.{◌∙◌, ap, sym, subst}
use Rattle.std.proofs.lemmas.Result.{err_from_is_err_and}
use Rattle.sexpr_text.specs.Trees.{IsRoot}
use Rattle.board_items.specs.Stamps.{stamped}
use Rattle.edit_language.proofs.Written.{written}
use Rattle.board_edit.specs.Edited.{IsEditRefusal}
use Rattle.board_edit.specs.Inner.Boards.{IsBoardRefusal}
use Rattle.board_edit.proofs.Errors.{err_kept}
use Rattle.board_edit.proofs.Refused.{stamp_refused, spelt, breaks}
use Rattle.board_edit.proofs.change.edited.Goals as goal

pub returns-in-Some-clause-refused : goal.returns-in-Some-clause-refused
returns-in-Some-clause-refused c =
    stamp_refused c.args.text.now c.args.board.now c.args.edit.now c.stamp_of-thing.result c.in-Some.refusal c.requires.board
    (c.stamp_of-thing.ensures ∙ ap (stamped c.args.board.now.stamps) c.stamp_of.ensures)
    (sym c.stamp_refusal.ensures ∙ c.in-Some.is)

pub new_text-requires-clause-formed : goal.new_text-requires-clause-formed
new_text-requires-clause-formed c = written c.args.edit.now c.requires.edit

pub board_of-requires : goal.board_of-requires
board_of-requires c =
    let s = spelt c.args.text.now c.args.edit.now c.in_ok-new.new.items c.requires.edit c.in_ok-new.ensures in
    (s.0, subst (λ t. IsRoot t s.0) (sym c.deref.ensures.value) s.1)

pub returns-in_err-board-clause-refused : goal.returns-in_err-board-clause-refused
returns-in_err-board-clause-refused c =
    let p = err_from_is_err_and c.from_residual-in_err-board.result c.from_residual-in_err-board.ensures.1 in
    err_kept c.from_residual-in_err-board.result c.in_err-board.field-0.0 _ (IsEditRefusal c.args.text.now c.args.edit.now) p.1 p.2
    (breaks c.args.text.now c.args.edit.now c.in_ok-new.new.items c.in_err-board.field-0.0 c.in_ok-new.ensures
    (subst (λ t. IsBoardRefusal t c.in_err-board.field-0.0) c.deref.ensures.value c.in_err-board.ensures.refused))
