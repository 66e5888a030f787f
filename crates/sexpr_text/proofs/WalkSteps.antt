-- The steps of the walk.
use Rattle.std.proofs.Common.{◌≡◌, ◌⊎◌, ℕ, ◌+◌, ◌<◌, List, length, slice_index, take, refl, sym, ◌∙◌, ap, subst, inl, inr, Some, None}
use Rattle.sexpr_text.specs.Inner.Spot.{TextSpot, step, text_spot}
use Rattle.sexpr_text.specs.Inner.Spot.TextSpot.{Before, Inside, Quoted, Behind, Lost}
use Rattle.sexpr_text.specs.Inner.Cut.{Cut, cut_step, cuts}
use Rattle.sexpr_text.specs.Inner.Cut.Cut.{Full, Broken}
use Rattle.sexpr_text.specs.Grammar.{Forest, Spelt}
use Rattle.sexpr_text.specs.Faults.{IsFault}
use Rattle.sexpr_text.specs.Inner.Seen.{fault_at_spot, ended}
use Rattle.sexpr_text.specs.declared.error.TextKind.{TextKind}
use Rattle.sexpr_text.proofs.Spots.{next}
use Rattle.sexpr_text.proofs.Assembled.{stopped, over, spelt, cut_next}

pub walk_stop : (bytes : List ℕ) (at : ℕ) (s : TextSpot) (k : Cut) → at < length bytes → s ≡ text_spot bytes at → (s ≡ Lost → ⊥) → k ≡ cuts Full (take at bytes) → (k ≡ Broken → ⊥)
    → (step s (slice_index bytes at) ≡ Lost) ⊎ (cut_step k (slice_index bytes at) ≡ Broken) → IsFault bytes at (fault_at_spot s (slice_index bytes at))
walk_stop bytes at s k h e n f m d =
    subst (λ x. IsFault bytes at (fault_at_spot x (slice_index bytes at))) (sym e) (stopped bytes at h (λ q. n (e ∙ q)) (λ q. m (f ∙ q)) (elim d [
      | inl l ↦ inl (sym (ap (λ x. step x (slice_index bytes at)) e) ∙ l)
      | inr l ↦ inr (sym (ap (λ x. cut_step x (slice_index bytes at)) f) ∙ l)
    ]))

pub walk_spot : (bytes : List ℕ) (at : ℕ) (s t : TextSpot) → s ≡ text_spot bytes at → t ≡ step s (slice_index bytes at) → t ≡ text_spot bytes (at + 1)
walk_spot bytes at s t e f = f ∙ ap (λ x. step x (slice_index bytes at)) e ∙ sym (next bytes at (at + 1) refl)

pub walk_cut : (bytes : List ℕ) (at : ℕ) (s t : Cut) → at < length bytes → s ≡ cuts Full (take at bytes) → t ≡ cut_step s (slice_index bytes at) → t ≡ cuts Full (take (at + 1) bytes)
walk_cut bytes at s t h e f = f ∙ ap (λ x. cut_step x (slice_index bytes at)) e ∙ sym (cut_next bytes at h)

-- at the end of the bytes: the fault there, or the tree
pub walk_fault : (bytes : List ℕ) (at : ℕ) (s : TextSpot) (c : Cut) (k : TextKind) → at ≡ length bytes → s ≡ text_spot bytes at → (s ≡ Lost → ⊥) → c ≡ cuts Full (take at bytes) → (c ≡ Broken → ⊥) → ended s ≡ Some k → IsFault bytes at k
walk_fault bytes at s c k h e n f m d = over bytes at k h (λ q. n (e ∙ q)) (λ q. m (f ∙ q)) (ap ended (sym e) ∙ d)

no_kind : (s : TextSpot) → (s ≡ Lost → ⊥) → ended s ≡ None → s ≡ Behind
no_kind Before n d = cc
no_kind (Inside room) n d = cc
no_kind (Quoted room escaped) n d = cc
no_kind Behind n d = refl
no_kind Lost n d = absurd (n refl)

pub walk_tree : (bytes : List ℕ) (at : ℕ) (s : TextSpot) (c : Cut) → at ≡ length bytes → s ≡ text_spot bytes at → (s ≡ Lost → ⊥) → c ≡ cuts Full (take at bytes) → (c ≡ Broken → ⊥) → ended s ≡ None → (tree : Forest) × Spelt bytes tree
walk_tree bytes at s c h e n f m d = spelt bytes at h (λ q. m (f ∙ q)) (sym e ∙ no_kind s n d)
