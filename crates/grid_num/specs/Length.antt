-- The length that a text spells, read as millimetres: a whole number of nanometres, which are the sixth decimal place.
use Rattle.std.specs.Prelude.{◌≡◌, ℕ, ◌≤◌, Bool, true, false, List, [], ◌∷◌, ◌++◌, All, drop, slice_index_or, ℤ, pos, neg_ℤ, ◌≤ℤ◌}
use Rattle.grid_num.specs.Spelling.{IsSpelling, number}

-- a length is at most 500 mm to either side
abbrev pub IsInRange : ℤ → Type 0
IsInRange nm = (neg_ℤ (pos 500000000) ≤ℤ nm) × (nm ≤ℤ pos 500000000)

-- the first six decimal places; one that isn't written is 0
abbrev pub places : List ℕ → List ℕ
places fraction =
    slice_index_or fraction 0 48 ∷ slice_index_or fraction 1 48 ∷ slice_index_or fraction 2 48 ∷ slice_index_or fraction 3 48 ∷ slice_index_or fraction 4 48 ∷ slice_index_or fraction 5 48 ∷ []

-- no place past the sixth has another digit than 0
abbrev pub IsWholeNm : List ℕ → Type 0
IsWholeNm fraction = All (λ digit. digit ≡ 48) (drop 6 fraction)

-- how many nanometres the digits spell, up to the sixth place
abbrev pub nanometres : List ℕ → List ℕ → ℕ
nanometres whole fraction = number (whole ++ places fraction)

-- the number with its sign
abbrev pub with_sign : Bool → ℕ → ℤ
with_sign true n = neg_ℤ (pos n)
with_sign false n = pos n

-- the text spells just so many nanometres
pub record IsLength (text : List ℕ) (nm : ℤ) : Type 0 where
  pub negative : Bool
  pub whole : List ℕ
  pub fraction : List ℕ
  pub spelling : IsSpelling text negative whole fraction
  pub fine : IsWholeNm fraction
  pub range : nanometres whole fraction ≤ 500000000
  pub value : nm ≡ with_sign negative (nanometres whole fraction)
