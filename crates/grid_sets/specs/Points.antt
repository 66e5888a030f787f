-- Sets of grid points as lists of octagons, and the number of points of a set.
use Rattle.std.specs.Prelude.{◌≡◌, ◌⊎◌, ◌↔◌, ℕ, zero, suc, ◌+◌, List, [], ◌∷◌, length, ℤ}
use Rattle.plane.specs.Plane.{Bounds, Within}

-- one of the octagons has the grid point
abbrev pub HasPoint : List Bounds → ℤ → ℤ → Type 0
HasPoint [] x y = ⊥
HasPoint (o ∷ os) x y = Within o x y ⊎ HasPoint os x y

-- no grid point is in two of them
abbrev pub AreApart : List Bounds → Type 0
AreApart [] = Unit {0}
AreApart (o ∷ os) = ((x y : ℤ) → Within o x y → HasPoint os x y → ⊥) × AreApart os

-- a grid point
pub record GridPoint : Type 0 where
  pub x : ℤ
  pub y : ℤ

-- the list has the grid point
abbrev pub IsListed : List GridPoint → ℤ → ℤ → Type 0
IsListed [] x y = ⊥
IsListed (p ∷ ps) x y = ((x ≡ p.x) × (y ≡ p.y)) ⊎ IsListed ps x y

-- no point stands twice in the list
abbrev pub AreDistinct : List GridPoint → Type 0
AreDistinct [] = Unit {0}
AreDistinct (p ∷ ps) = (IsListed ps p.x p.y → ⊥) × AreDistinct ps

-- the list has exactly the points that P holds of, each once
pub record AreSpotsOf (P : ℤ → ℤ → Type 0) (ps : List GridPoint) : Type 0 where
  pub distinct : AreDistinct ps
  pub same : (x y : ℤ) → IsListed ps x y ↔ P x y

-- P holds of n grid points: there is a list of them, each once, whose length is n
pub record IsCount (P : ℤ → ℤ → Type 0) (n : ℕ) : Type 0 where
  pub spots : List GridPoint
  pub are : AreSpotsOf P spots
  pub count : length spots ≡ n

-- 1 + 2 + .. + n: the points of a right triangle with n of them along each side
unfoldable pub triangle : ℕ → ℕ
triangle zero = 0
triangle (suc n) = suc n + triangle n
