use Rattle.std.proofs.Common.{sym, subst}
use Rattle.std.proofs.lemmas.Result.{err_from_is_err_and}
use Rattle.board_edit.specs.declared.error.EditError.TheVariants.{Memory}
use Rattle.board_edit.specs.Edited.{IsEditRefusal}
use Rattle.board_edit.proofs.Errors.{err_kept}
use Rattle.refill.specs.Sessions.{State, IsSoundState, IsApplied}
use Rattle.refill.specs.Inner.Kept.{with_edited}
use Rattle.refill.proofs.States.{made, edited_sound, edited_so}
use Rattle.refill.proofs.session.Session.apply.Goals as goal

pub next_flags-requires-clause-read : goal.next_flags-requires-clause-read
next_flags-requires-clause-read c = record {
  text = c.self.inside.text.items;
  after = c.in_ok-new.new.0.items;
  before = c.self.invariant.read;
  now = c.in_ok-new.ensures.board;
  rules = c.in_ok-new.ensures.rules;
}

pub returns-in_err-dirty-clause-refused : goal.returns-in_err-dirty-clause-refused
returns-in_err-dirty-clause-refused c =
    let p = err_from_is_err_and c.from_residual-in_err-dirty.result c.from_residual-in_err-dirty.ensures.1 in
    err_kept c.from_residual-in_err-dirty.result Memory p.0 (IsEditRefusal c.args.self.now.text c.args.edit.now) p.1 p.2 tt

pub put_edited-requires : goal.put_edited-requires
put_edited-requires c =
    subst (λ (s : State). IsSoundState (with_edited s c.in_ok-new.new.0.items c.in_ok-new.new.1 c.in_ok-dirty.dirty.items)) c.self.view_is
    (edited_sound c.args.edit.now _ c.in_ok-new.new.0.items c.in_ok-new.new.1 c.in_ok-dirty.dirty.items
    (made c.args.edit.now _ c.deref.result.now c.in_ok-new.new.0.items c.in_ok-new.new.1 c.deref-2.result.now c.in_ok-dirty.dirty.items c.self.invariant c.requires.edit
    c.deref.ensures.value c.in_ok-new.ensures.text c.in_ok-new.ensures.board c.in_ok-new.ensures.rules c.sound.ensures c.deref-2.ensures.value c.in_ok-dirty.ensures))

pub returns-clause-applied : goal.returns-clause-applied
returns-clause-applied c =
    subst (IsApplied c.args.edit.now c.args.self.now) (sym c.put_edited.ensures)
    (subst (λ (s : State). IsApplied c.args.edit.now s (with_edited s c.in_ok-new.new.0.items c.in_ok-new.new.1 c.in_ok-dirty.dirty.items)) c.self.view_is
    (edited_so c.args.edit.now _ c.in_ok-new.new.0.items c.in_ok-new.new.1 c.in_ok-dirty.dirty.items
    (made c.args.edit.now _ c.deref.result.now c.in_ok-new.new.0.items c.in_ok-new.new.1 c.deref-2.result.now c.in_ok-dirty.dirty.items c.self.invariant c.requires.edit
    c.deref.ensures.value c.in_ok-new.ensures.text c.in_ok-new.ensures.board c.in_ok-new.ensures.rules c.sound.ensures c.deref-2.ensures.value c.in_ok-dirty.ensures)))
