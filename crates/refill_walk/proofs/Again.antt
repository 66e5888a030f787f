-- Which tasks of a walk are filled again, by changed fills alone.
use Rattle.std.proofs.Common.{◌≡◌, subst, ℕ, ◌+◌, ◌<◌, ◌≤◌, inl, inr, List, length, arith}
use Rattle.std.specs.Prelude.{◌↔◌, Bool, true, false, IsTrue}
use Rattle.std.proofs.lemmas.Bool.{cases_lt, cases_Bool, both_ways}
use Rattle.std.proofs.lemmas.List.{get_or_past}
use Rattle.board_language.specs.Board.{Board}
use Rattle.fill_rules.specs.Made.{Made}
use Rattle.fill_rules.specs.Reach.{IsReaching}
use Rattle.refill_laws.specs.Walked.{is_set, IsWalkedTo}
use Rattle.refill_laws.specs.StepLaws.{IsNextAnew}
use Rattle.refill_walk.specs.Inner.Walk.{IsReachedByChanged, IsFilledAgain}

module _ (d : Board) (old : ℕ → ℕ) (olds : List Made) (flagged : ℕ → Bool) (fills : List Made) (again changed : List Bool)
    (w : IsWalkedTo d old olds flagged fills again changed)
  where
    -- a task that wasn't filled again kept its pieces
    changed_again : (m : ℕ) → m < length fills → is_set changed m ≡ true → is_set again m ≡ true
    changed_again m l e = elim (cases_Bool (is_set again m)) [
      | inl a ↦ a
      | inr a ↦ absurd (both_ways (is_set changed m) ((w.tells.each m l).1 (w.kept m l a)) e)
    ]

    pub is_anew : IsFilledAgain d flagged changed (length fills) → IsNextAnew d flagged fills again changed
    is_anew (inl f) = inl f
    is_anew (inr r) = inr (r.0, r.1, changed_again r.0 r.1.above r.2, r.2)

    pub is_again : IsNextAnew d flagged fills again changed → IsFilledAgain d flagged changed (length fills)
    is_again (inl f) = inl f
    is_again (inr r) = inr (r.0, r.1, r.3)

-- ---- a search among the tasks before

-- none of the first n has it
abbrev pub NoneBefore : (ℕ → Type 0) → ℕ → Type 0
NoneBefore P n = (m : ℕ) → m < n → P m → ⊥

pub none_first : (P : ℕ → Type 0) → NoneBefore P 0
none_first P m l p = absurd (omega (arith, l))

pub none_more : (P : ℕ → Type 0) (n : ℕ) (r : Bool) → IsTrue r ↔ P n → r ≡ false → NoneBefore P n → NoneBefore P (n + 1)
none_more P n r h e none m l p = elim (cases_lt m n) [
  | inl v ↦ none m v p
  | inr v ↦ (let q : m ≡ n = omega (arith, v, l) in both_ways r e (h.1 (subst P q p)))
]

pub none_reach : (d : Board) (changed : List Bool) (k n : ℕ) → length changed ≤ n
    → NoneBefore (λ (m : ℕ). IsReaching d m k × (is_set changed m ≡ true)) n → IsReachedByChanged d changed k → ⊥
none_reach d changed k n l none r = elim (cases_lt r.0 n) [
  | inl v ↦ none r.0 v (r.1, r.2)
  | inr v ↦ both_ways (is_set changed r.0) (get_or_past changed r.0 false (omega (arith, l, v))) r.2
]

-- the same, of equal lists and ranks
pub same_again : (d : Board) (flagged : ℕ → Bool) (xs ys : List Bool) (m n : ℕ) (r : Bool) → xs ≡ ys → m ≡ n
    → IsTrue r ↔ IsFilledAgain d flagged xs m → IsTrue r ↔ IsFilledAgain d flagged ys n
same_again d flagged xs ys m n r e f h =
    subst (λ (i : ℕ). IsTrue r ↔ IsFilledAgain d flagged ys i) f (subst (λ (zs : List Bool). IsTrue r ↔ IsFilledAgain d flagged zs m) e h)
