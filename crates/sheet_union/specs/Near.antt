-- Strips whose numbers are small enough to be added up.
use Rattle.std.specs.Prelude.{◌≡◌, ◌^◌, List, ◌++◌, ℤ, AllPairs}
use Rattle.std.specs.List.{All}
use Rattle.plane.specs.Plane.{Bounds}
use Rattle.plane.specs.Narrow.{IsNearZero}
use Rattle.strips.specs.declared.Strip.{Strip}
use Rattle.strips.specs.Strips.{IsTrapezoid, IsStripBefore, in_nanometres}
use Rattle.strips.specs.Inner.Sweep.{AreOpen, AreSlabStrips}

-- all six numbers lie within 2 ^ 45
pub record IsNearStrip (s : Strip) : Type 0 where
  pub top : IsNearZero (2 ^ 45) s.top
  pub bottom : IsNearZero (2 ^ 45) s.bottom
  pub left : IsNearZero (2 ^ 45) s.left
  pub left_end : IsNearZero (2 ^ 45) s.left_end
  pub right : IsNearZero (2 ^ 45) s.right
  pub right_end : IsNearZero (2 ^ 45) s.right_end

-- the strips of the slab between the rows t and u are added
unfoldable pub IsSlabAdded : List Bounds → ℤ → ℤ → List Strip → List Strip → Type 0
IsSlabAdded os t u old new = (xs : List Strip) × AreSlabStrips os t u xs × (new ≡ old ++ xs)

-- the slab is added of whatever octagons these are the open ones of
abbrev pub AddsSlab : (octs : List Bounds) (t u : ℤ) (old new : List Strip) → Type 0
AddsSlab octs t u old new = (os : List Bounds) → AreOpen os t u (in_nanometres octs) → IsSlabAdded os t u old new

-- where the old strips are near, the new ones are
abbrev pub StayNear : (old new : List Strip) → Type 0
StayNear old new = All (λ s. IsNearStrip s) old → All (λ s. IsNearStrip s) new

-- what every sheet is: near trapezoids, by top and then from left to right, with gaps between those of one slab
pub record IsSheet (ss : List Strip) : Type 0 where
  pub near : All (λ s. IsNearStrip s) ss
  pub shapes : All (λ s. IsTrapezoid s) ss
  pub order : AllPairs IsStripBefore ss
