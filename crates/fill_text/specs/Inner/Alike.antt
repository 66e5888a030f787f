-- Places with the same label.
use Rattle.std.specs.Prelude.{◌≡◌, ◌==◌, ℕ, zero, suc, ◌+◌, ◌<◌, ◌≤◌, cond, List, [], ◌∷◌, length, get_or, drop}

-- no label is greater than its place
abbrev pub AreSmallLabels : List ℕ → Type 0
AreSmallLabels labels = (k : ℕ) → k < length labels → get_or labels k 0 ≤ k

-- how many stand before the first one with this label; all, where there is none
abbrev pub place_of : ℕ → List ℕ → ℕ
place_of label [] = zero
place_of label (other ∷ labels) = cond (other == label) zero (suc (place_of label labels))

-- at each place stands the next one with the same label; the number of labels where there is none
pub record IsNextNumber (labels next : List ℕ) : Type 0 where
  pub many : length next ≡ length labels
  pub each : (k : ℕ) → k < length labels → get_or next k 0 ≡ (k + 1) + place_of (get_or labels k 0) (drop (k + 1) labels)
