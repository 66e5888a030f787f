-- What always holds of a session: it does so of a new one, and is kept by edits and refills.
use Rattle.std.proofs.Common.{◌≡◌, ◌∙◌, refl, sym, subst, ℕ, ◌≤◌, arith, inl, inr, Bool, false, List, length}
use Rattle.std.specs.Prelude.{◌↔◌, ◌⊎◌}
use Rattle.board_language.specs.declared.board.Rules.{Rules}
use Rattle.board_language.specs.Board.{Board}
use Rattle.board_language.specs.Facts.{IsSoundBoard}
use Rattle.board_model.specs.Whole.{Whole}
use Rattle.fill_rules.specs.Tasks.{task_at}
use Rattle.fill_rules.specs.Made.{Made}
use Rattle.fills.specs.Fills.{AreBoardFills}
use Rattle.edit_language.specs.declared.edit.Edit.{Edit}
use Rattle.edit_language.specs.Scripts.{IsWritten}
use Rattle.edit_language.specs.Edited.{IsAcceptedEdit, IsBoardOf}
use Rattle.board_edit.specs.Edited.{IsReadOf}
use Rattle.board_edit.proofs.Boards.{board_so}
use Rattle.dirty_rules.specs.Dirty.{IsDirtying, AreOldRanks}
use Rattle.dirtied.specs.Dirtied as dirtied
use Rattle.refill_laws.specs.OneEdit.{LeadsTo, old_rank}
use Rattle.refill_laws.specs.Flags.{AreFlags, AreNextFlags}
use Rattle.refill_laws.specs.Walked.{is_set}
use Rattle.refill_laws.proofs.OldRanks.{found_ranks}
use Rattle.refill_laws.proofs.Edits.{ranks_law, zones_law}
use Rattle.refill_laws.proofs.Chains.{same_law, renamed, next_flags}
use Rattle.refill_walk.specs.Refill.{IsDirtyCount}
use Rattle.refill.specs.Sessions.{State, IsSoundState, IsNewOf, IsApplied, IsRefilled}
use Rattle.refill.specs.Inner.Flags.{AreNextOf}
use Rattle.refill.specs.Inner.Kept.{with_edited, with_filled}
use Rattle.refill.proofs.Flagged.{by_old_rank}

-- ---- the board that was filled, and no other

own_flags : (b : Board) (flagged : ℕ → Bool) → AreFlags b b (old_rank b b) flagged
own_flags b flagged =
    let s = same_law b in
    let r = renamed b b (λ m. m) (old_rank b b) (λ k. false) s (found_ranks b b (λ m. m) s.ranks) in
    record { ranks = r.ranks; clean = λ k l e. r.clean k l refl }

pub filled_now : (text : List ℕ) (b : Whole) (fills : List Made) (dirty : List Bool) → IsReadOf text b → AreBoardFills b.board fills → length dirty ≡ length fills
    → IsSoundState (record { text = text; board = b; filled = b; fills = fills; dirty = dirty })
filled_now text b fills dirty r f n = record {
  read = r;
  fills = f;
  all = n ∙ f.count;
  flags = own_flags b.board (is_set dirty);
  zones = refl;
  rules = refl;
}

pub new_so : (text : List ℕ) (b : Whole) (fills : List Made) (dirty : List Bool) → AreBoardFills b.board fills → length dirty ≡ length fills
    → ((k : ℕ) → is_set dirty k ≡ false) → IsNewOf text b (record { text = text; board = b; filled = b; fills = fills; dirty = dirty })
new_so text b fills dirty f n z = record { text_is = refl; board_is = refl; filled_is = refl; fills = f; clean = record { all = n ∙ f.count; none = z } }

-- ---- an edit

-- what is known of an edit that is made of a session
pub record IsMade (edit : Edit) (s : State) (text : List ℕ) (b : Whole) (dirty : List Bool) : Type 0 where
  pub sound : IsSoundState s
  pub written : IsWritten edit
  pub accepted : IsAcceptedEdit s.text edit text
  pub read : IsReadOf text b
  pub rules : b.board.rules ≡ s.board.board.rules
  pub floor : 1 ≤ b.board.rules.floor
  pub next : AreNextOf s.board b edit s.dirty dirty

pub made : (edit : Edit) (s : State) (lent text : List ℕ) (b : Whole) (flags dirty : List Bool) → IsSoundState s → IsWritten edit
    → lent ≡ s.text → IsAcceptedEdit lent edit text → IsReadOf text b → b.board.rules ≡ s.board.board.rules → IsSoundBoard b.board
    → flags ≡ s.dirty → AreNextOf s.board b edit flags dirty → IsMade edit s text b dirty
made edit s lent text b flags dirty h w e a r q o f n =
    let l = o.rules.floor.least in
    record {
      sound = h;
      written = w;
      accepted = subst (λ (t : List ℕ). IsAcceptedEdit t edit text) e a;
      read = r;
      rules = q;
      floor = omega (arith, l);
      next = subst (λ (fs : List Bool). AreNextOf s.board b edit fs dirty) f n;
    }

either : {A B C D : Type 0} → A ↔ C → B ↔ D → (A ⊎ B) ↔ (C ⊎ D)
either {A} {B} {C} {D} f g = (there, back)
  where
    there : A ⊎ B → C ⊎ D
    there (inl a) = inl (f.0 a)
    there (inr b) = inr (g.0 b)

    back : C ⊎ D → A ⊎ B
    back (inl c) = inl (f.1 c)
    back (inr d) = inr (g.1 d)

both : {A B C : Type 0} → A ↔ B → B ↔ C → A ↔ C
both f g = (λ a. g.0 (f.0 a), λ c. f.1 (g.1 c))

module _ (edit : Edit) (s : State) (text : List ℕ) (b : Whole) (dirty : List Bool) (m : IsMade edit s text b dirty) where
  abbrev rules_before : Rules
  rules_before = s.board.board.rules

  leads : LeadsTo s.text text rules_before s.board.board b.board edit
  leads = record {
    written = m.written;
    accepted = m.accepted;
    before = board_so s.text s.board m.sound.read;
    after = subst (λ (r : Rules). IsBoardOf text r b.board) m.rules (board_so text b m.read);
  }

  ranks : AreOldRanks s.board.board b.board (old_rank s.board.board b.board)
  ranks = ranks_law s.text text rules_before s.board.board b.board edit leads

  direct : dirtied.AreTaskFlags b.board (IsDirtying s.text text rules_before s.board.board b.board edit) m.next.direct
  direct = m.next.are s.text text rules_before m.sound.read m.read refl m.rules

  next_so : AreNextFlags s.text text rules_before s.board.board b.board edit (old_rank s.board.board b.board) (is_set s.dirty) (is_set dirty)
  next_so = record {
    each = λ k l.
        both (m.next.kept.each k l)
        (either
        (both (m.next.were.each (task_at b.board k)) (by_old_rank s.board.board b.board (old_rank s.board.board b.board) s.dirty k ranks l))
        (direct.each k l));
  }

  flags_so : AreFlags s.filled.board b.board (old_rank s.filled.board b.board) (is_set dirty)
  flags_so =
      let f = next_flags s.text text rules_before s.filled.board s.board.board b.board edit leads m.floor
      (old_rank s.filled.board s.board.board) (old_rank s.board.board b.board) (is_set s.dirty) (is_set dirty) m.sound.flags ranks next_so in
      renamed s.filled.board b.board _ (old_rank s.filled.board b.board) (is_set dirty) f (found_ranks s.filled.board b.board _ f.ranks)

  pub edited_sound : IsSoundState (with_edited s text b dirty)
  edited_sound = record {
    read = m.read;
    fills = m.sound.fills;
    all = m.next.kept.all;
    flags = flags_so;
    zones = m.sound.zones ∙ zones_law s.text text rules_before s.board.board b.board edit leads;
    rules = m.sound.rules ∙ sym m.rules;
  }

  pub edited_so : IsApplied edit s (with_edited s text b dirty)
  edited_so = record {
    accepted = m.accepted;
    read = m.read;
    rules = m.rules;
    filled = refl;
    fills = refl;
    all = m.next.kept.all;
    dirty = next_so;
  }

-- ---- a refill

pub refilled_sound : (s : State) (fills : List Made) (dirty : List Bool) → IsSoundState s → AreBoardFills s.board.board fills → length dirty ≡ length s.dirty
    → IsSoundState (with_filled s fills dirty)
refilled_sound s fills dirty h f n = filled_now s.text s.board fills dirty h.read f (n ∙ h.all ∙ sym f.count)

pub refilled_so : (s : State) (fills : List Made) (dirty : List Bool) (n : ℕ) → IsSoundState s → AreBoardFills s.board.board fills → length dirty ≡ length s.dirty
    → ((k : ℕ) → is_set dirty k ≡ false)
    → IsDirtyCount s.filled.board s.fills s.board.board fills (is_set s.dirty) n
    → IsRefilled n s (with_filled s fills dirty)
refilled_so s fills dirty n h f m z c = record {
  text = refl;
  board = refl;
  filled = refl;
  fills = f;
  clean = record { all = m ∙ h.all; none = z };
  count = c;
}
