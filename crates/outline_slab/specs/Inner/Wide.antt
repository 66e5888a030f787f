-- Pairs of cuts that leave room between them.
use Rattle.std.specs.Prelude.{ℕ, ◌<◌, ◌⊎◌, ◌<ℤ◌, List}
use Rattle.plane.specs.Plane.{PlanePoint, Bounds}
use Rattle.plane.specs.Covering.{Edge}
use Rattle.slabs.specs.Slabs.{IsPairAt, IsAmid}
use Rattle.outline_slab.specs.Filled.{IsInStout}

-- the second cut ends right of the first one, above or below
abbrev pub IsWide : Edge → Edge → Type 0
IsWide l r = (l.start.x <ℤ r.start.x) ⊎ (l.finish.x <ℤ r.finish.x)

-- p lies between the two of such a pair
abbrev pub IsInWidePair : List Edge → PlanePoint → Type 0
IsInWidePair cs p = (j : ℕ) × (l : Edge) × (r : Edge) × IsPairAt cs j l r × IsAmid l r p × IsWide l r

-- .. of the first n pairs
abbrev pub IsInWidePairUpTo : ℕ → List Edge → PlanePoint → Type 0
IsInWidePairUpTo n cs p = (j : ℕ) × (l : Edge) × (r : Edge) × (j < n) × IsPairAt cs j l r × IsAmid l r p × IsWide l r

-- what lies in an octagon of the first list that isn't flat lies in such a one of the second list
abbrev pub KeepStout : List Bounds → List Bounds → Type 0
KeepStout octs more = (p : PlanePoint) → IsInStout octs p → IsInStout more p
