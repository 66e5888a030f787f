-- The rows of octagons, in strips.
use Rattle.std.specs.Prelude.{◌≡◌, ℕ, ◌^◌, List, [], ◌∷◌, ◌++◌, ℤ, pos, ◌+ℤ◌, ◌≤ℤ◌}
use Rattle.plane.specs.Narrow.{IsNearZero}
use Rattle.scan_runs.specs.Inner.Parts.{AreSmall}
use Rattle.plane.specs.Plane.{Bounds, Within}
use Rattle.grid_sets.specs.Rows.{Row}
use Rattle.grid_sets.specs.Bands.{Band, rows_of}
use Rattle.scan_runs.specs.Inner.Merge.{AreRowsBetween}
use Rattle.grid_sets.specs.Points.{HasPoint}
use Rattle.scan_runs.specs.declared.strip.RowStrip.{RowStrip}

-- a strip as a band
abbrev pub band_of : RowStrip → Band
band_of s = record { top = s.top; more = s.more; runs = s.runs.items }

-- the rows of all strips
abbrev pub rows_of_strips : List RowStrip → List Row
rows_of_strips [] = []
rows_of_strips (s ∷ ss) = rows_of (band_of s) ++ rows_of_strips ss

-- what the code can count with
pub record IsSmallStrip (s : RowStrip) : Type 0 where
  pub runs : AreSmall s.runs.items
  pub top : IsNearZero (2 ^ 40) s.top
  pub bottom : (s.top +ℤ pos s.more) ≤ℤ pos (2 ^ 40)

-- all of them are
abbrev pub AreSmallStrips : List RowStrip → Type 0
AreSmallStrips [] = Unit {0}
AreSmallStrips (s ∷ ss) = IsSmallStrip s × AreSmallStrips ss

-- the new list has strips more, whose rows are those of the octagons' points
pub record AreStripsAdded (os : List Bounds) (top : ℤ) (n : ℕ) (old new : List RowStrip) : Type 0 where
  pub more : List RowStrip
  pub added : new ≡ old ++ more
  pub rows : AreRowsBetween (HasPoint os) top (top +ℤ pos n) (rows_of_strips more)
  pub small : AreSmallStrips more

-- all points of the octagons are from top to bottom, within 2 ^ 40, as are their x
pub record IsSpan (os : List Bounds) (top bottom : ℤ) : Type 0 where
  pub points : (x y : ℤ) → HasPoint os x y → (top ≤ℤ y) × (y ≤ℤ bottom)
  pub across : (x y : ℤ) → HasPoint os x y → IsNearZero (2 ^ 40) x
  pub first : IsNearZero (2 ^ 40) top
  pub last : IsNearZero (2 ^ 40) bottom

-- the new span also has the rows of o
pub record IsWiderSpan (o : Bounds) (top bottom upper lower : ℤ) : Type 0 where
  pub above : (upper ≤ℤ top) × (upper ≤ℤ o.y0)
  pub below : (bottom ≤ℤ lower) × (o.y1 ≤ℤ lower)
  pub near : IsNearZero (2 ^ 40) top → IsNearZero (2 ^ 40) bottom → IsNearZero (2 ^ 40) upper × IsNearZero (2 ^ 40) lower
  pub across : (x y : ℤ) → Within o x y → IsNearZero (2 ^ 40) x
