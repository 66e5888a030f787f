-- Numbered things, some of which are linked, and their labels.
use Rattle.std.specs.Prelude.{◌≡◌, ◌⊎◌, ℕ, ◌<◌, ◌≤◌, List, length, get_or}
use Rattle.classes.specs.Classes.{IsOneOf, IsLeastOf}

-- links go both ways, and only things below the count have any
pub record AreLinks (count : ℕ) (R : ℕ → ℕ → Type 0) : Type 0 where
  pub back : (j k : ℕ) → R j k → R k j
  pub within : (j k : ℕ) → R j k → k < count

-- each of them is linked to k, and of all that are linked to k at most k itself isn't among them
pub record AreThoseLinked (R : ℕ → ℕ → Type 0) (k : ℕ) (js : List ℕ) : Type 0 where
  pub linked : (j : ℕ) → IsOneOf j js → R k j
  pub whole : (j : ℕ) → R k j → (j ≡ k) ⊎ IsOneOf j js

-- the one number is at most the other
abbrev pub IsUpTo : ℕ → ℕ → Type 0
IsUpTo j k = j ≤ k

-- each thing has the least number of its class
pub record AreLabels (count : ℕ) (R : ℕ → ℕ → Type 0) (labels : List ℕ) : Type 0 where
  pub each : length labels ≡ count
  pub least : (k : ℕ) → k < count → IsLeastOf R IsUpTo k (get_or labels k 0)
