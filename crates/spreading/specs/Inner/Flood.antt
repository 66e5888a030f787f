-- How labels spread: what is labelled so far, and what is left to be labelled. A thing without a label yet has the count of all things in its
-- place.
use Rattle.std.specs.Prelude.{◌≡◌, ◌⊎◌, ℕ, zero, suc, ◌+◌, ◌<◌, ◌≤◌, ◌==◌, cond, List, [], ◌∷◌, ◌++◌, length, get_or, take}
use Rattle.classes.specs.Classes.{IsOneOf, Reaches, IsLeastOf}
use Rattle.spreading.specs.Labels.{IsUpTo}

-- the thing has no label yet
abbrev pub HasNoLabel : ℕ → List ℕ → ℕ → Type 0
HasNoLabel count labels k = get_or labels k 0 ≡ count

-- how many of the labels are this number
unfoldable pub how_many : ℕ → List ℕ → ℕ
how_many n [] = zero
how_many n (l ∷ ls) = cond (l == n) (suc (how_many n ls)) (how_many n ls)

-- Each thing has the least number of its class; or it has no label yet, and its number is at least `upto`. What has no label is linked to
-- nothing that has one.
pub record ArePartly (count : ℕ) (R : ℕ → ℕ → Type 0) (upto : ℕ) (labels : List ℕ) : Type 0 where
  pub many : length labels ≡ count
  pub each : (k : ℕ) → k < count → (HasNoLabel count labels k × (upto ≤ k)) ⊎ IsLeastOf R IsUpTo k (get_or labels k 0)
  pub closed : (j k : ℕ) → R j k → HasNoLabel count labels j → HasNoLabel count labels k

-- a member of the class that is labelled now: it is reached from the first one, had no label, and has the first one's number
pub record IsMember (count : ℕ) (R : ℕ → ℕ → Type 0) (first : ℕ) (before labels : List ℕ) (j : ℕ) : Type 0 where
  pub within : j < count
  pub reached : Reaches R first j
  pub bare : HasNoLabel count before j
  pub label : get_or labels j 0 ≡ first

-- the members are labelled; the first `done` of them are linked only to what has a label, and no other label has changed
pub record IsFlooding (count : ℕ) (R : ℕ → ℕ → Type 0) (first : ℕ) (before : List ℕ) (done : ℕ) (members labels : List ℕ) : Type 0 where
  pub many : length labels ≡ count
  pub begun : IsOneOf first members
  pub each : (j : ℕ) → IsOneOf j members → IsMember count R first before labels j
  pub kept : (j : ℕ) → IsOneOf j members ⊎ (get_or labels j 0 ≡ get_or before j 0)
  pub closed : (j k : ℕ) → IsOneOf j (take done members) → R j k → HasNoLabel count labels k → ⊥

-- of those that were seen, the ones without a label have this one now, and are members; no other label has changed
pub record AreSpread (seen : List ℕ) (label : ℕ) (before old after members : List ℕ) : Type 0 where
  pub count : length after ≡ length before
  pub new : List ℕ
  pub added : members ≡ old ++ new
  pub from : (j : ℕ) → IsOneOf j new → IsOneOf j seen
  pub bare : (j : ℕ) → IsOneOf j new → get_or before j 0 ≡ length before
  pub given : (j : ℕ) → IsOneOf j new → get_or after j 0 ≡ label
  pub kept : (j : ℕ) → IsOneOf j new ⊎ (get_or after j 0 ≡ get_or before j 0)
  pub whole : (j : ℕ) → IsOneOf j seen → get_or after j 0 ≡ length before → ⊥
  pub fewer : length members + how_many (length before) after ≡ length old + how_many (length before) before
