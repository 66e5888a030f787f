-- What a walk over the bytes has found.
use Rattle.std.proofs.Common.{◌≡◌, ◌⊎◌, ℕ, ◌+◌, ◌<◌, ◌≤◌, List, [], ◌∷◌, length, slice_index, take, sym, ◌∙◌, ap, subst, inl, inr, arith, Some, None, slice_get}
use Rattle.std.proofs.lemmas.Option.{slice_get-get_or, slice_get_past}
use Rattle.std.proofs.lemmas.List.{take_more, take_all}
use Rattle.sexpr_text.specs.Grammar.{Forest, Spelt}
use Rattle.sexpr_text.specs.Inner.Spot.{step, text_spot}
use Rattle.sexpr_text.specs.Inner.Spot.TextSpot.{Behind, Lost}
use Rattle.sexpr_text.specs.Inner.Cut.{cut_step, cuts}
use Rattle.sexpr_text.specs.Inner.Cut.Cut.{Full, Broken}
use Rattle.sexpr_text.specs.Faults.{IsFront, IsUtf8Front, IsPlace, IsFault, first_row}
use Rattle.sexpr_text.specs.Inner.Seen.{fault_at_spot, ended}
use Rattle.sexpr_text.specs.declared.error.TextKind.{TextKind}
use Rattle.sexpr_text.proofs.Spots.{spelt_behind}
use Rattle.sexpr_text.proofs.Fronts.{front_made, behind_tree}
use Rattle.sexpr_text.proofs.FaultLaws.{place_byte}
use Rattle.sexpr_text.proofs.CutLaws.{cuts-append, utf8_whole}
use Rattle.sexpr_text.proofs.CutExact.{utf8_front}
use Rattle.sexpr_text.proofs.Wheres.{where_of, where_front}
use Rattle.sexpr_text.proofs.Table.{row_refused, row_ended}

pub cut_next : (bytes : List ℕ) (n : ℕ) → n < length bytes → cuts Full (take (n + 1) bytes) ≡ cut_step (cuts Full (take n bytes)) (slice_index bytes n)
unfolding cuts
cut_next bytes n h = ap (cuts Full) (take_more bytes n 0 h) ∙ cuts-append (take n bytes) (slice_index bytes n ∷ []) Full

-- The first n bytes begin some text exactly where neither state is dead.
pub alive : (bytes : List ℕ) (n : ℕ) → n ≤ length bytes → (text_spot bytes n ≡ Lost → ⊥) → (cuts Full (take n bytes) ≡ Broken → ⊥) → IsFront bytes n
alive bytes n h s c = front_made bytes n h (utf8_front (take n bytes) c) s

-- a fault of this kind, at a place whose row is known
placed : (bytes : List ℕ) (at : ℕ) (k : TextKind) → IsPlace bytes at → first_row (where_of (text_spot bytes at)) (slice_get bytes at) ≡ Some k → IsFault bytes at k
placed bytes at k p e = record { place = p; of_kind = sym (ap (λ w. first_row w (slice_get bytes at)) (where_front bytes at p.front)) ∙ e }

pub stopped : (bytes : List ℕ) (at : ℕ) → at < length bytes → (text_spot bytes at ≡ Lost → ⊥) → (cuts Full (take at bytes) ≡ Broken → ⊥)
    → (step (text_spot bytes at) (slice_index bytes at) ≡ Lost) ⊎ (cut_step (cuts Full (take at bytes)) (slice_index bytes at) ≡ Broken)
    → IsFault bytes at (fault_at_spot (text_spot bytes at) (slice_index bytes at))
stopped bytes at h s c d =
    placed bytes at (fault_at_spot (text_spot bytes at) (slice_index bytes at))
    (place_byte bytes at h (alive bytes at (omega arith) s c) (elim d [
      | inl lost ↦ inl lost
      | inr cut ↦ inr (λ u. utf8_whole (take (at + 1) bytes) u (cut_next bytes at h ∙ cut))
    ]))
    (ap (first_row (where_of (text_spot bytes at))) (slice_get-get_or bytes at 0 h) ∙ row_refused (text_spot bytes at) (slice_index bytes at) s)

pub over : (bytes : List ℕ) (at : ℕ) (k : TextKind) → at ≡ length bytes → (text_spot bytes at ≡ Lost → ⊥) → (cuts Full (take at bytes) ≡ Broken → ⊥) → ended (text_spot bytes at) ≡ Some k
    → IsFault bytes at k
over bytes at k h s c e =
    placed bytes at k
    (record {
      front = alive bytes at (omega arith) s c;
      longest = λ f. absurd (omega (arith, f.within, h));
      none = λ tree t. (let b : text_spot bytes at ≡ Behind = ap (text_spot bytes) h ∙ spelt_behind bytes tree t in let g : None ≡ Some k = sym (ap ended b) ∙ e in cc);
    })
    (ap (first_row (where_of (text_spot bytes at))) (slice_get_past bytes at (omega (arith, h))) ∙ row_ended (text_spot bytes at) k e)

pub spelt : (bytes : List ℕ) (at : ℕ) → at ≡ length bytes → (cuts Full (take at bytes) ≡ Broken → ⊥) → text_spot bytes at ≡ Behind → (tree : Forest) × Spelt bytes tree
spelt bytes at h c b =
    let e : take at bytes ≡ bytes = take_all at bytes (omega (arith, h)) in
    behind_tree bytes (subst IsUtf8Front e (utf8_front (take at bytes) c)) (subst (λ n. text_spot bytes n ≡ Behind) h b)
