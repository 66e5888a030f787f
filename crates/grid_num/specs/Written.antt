-- How a length is written: the shortest spelling that has a digit before the point.
use Rattle.std.specs.Prelude.{◌≡◌, ℕ, zero, suc, ◌+◌, ◌/◌, ◌%◌, ◌^◌, ◌<◌, ◌⊎◌, ◌==◌, if◌then◌else◌, List, [], ◌∷◌, ◌++◌, length, decimal, ℤ, pos, negsuc}
use Rattle.grid_num.specs.Length.{IsLength}

-- The last k of the decimal places of a number, of which n is left: up to the last one that isn't 0.
abbrev pub last_places : ℕ → ℕ → List ℕ
last_places zero n = []
last_places (suc k) n = if n == 0 then [] else (48 + n / 10 ^ k) ∷ last_places k (n % 10 ^ k)

-- the point and the places of n millionths
abbrev pub with_point : ℕ → List ℕ
with_point n = if n == 0 then [] else 46 ∷ last_places 6 n

-- n nanometres in millimetres, without a sign
abbrev pub mm_of_size : ℕ → List ℕ
mm_of_size n = decimal (n / 1000000) ++ with_point (n % 1000000)

-- so many nanometres in millimetres
abbrev pub mm_of : ℤ → List ℕ
mm_of (pos n) = mm_of_size n
mm_of (negsuc n) = 45 ∷ mm_of_size (suc n)

-- the text spells this length with a digit before the point
pub record IsFullLength (text : List ℕ) (nm : ℤ) : Type 0 where
  pub length_is : IsLength text nm
  pub digit_first : 0 < length length_is.whole

-- of the spellings of this length that have a digit before the point, this one and no other is shortest
pub record IsShortest (text : List ℕ) (nm : ℤ) : Type 0 where
  pub spells : IsFullLength text nm
  pub shortest : (other : List ℕ) → IsFullLength other nm → (length text < length other) ⊎ (other ≡ text)
