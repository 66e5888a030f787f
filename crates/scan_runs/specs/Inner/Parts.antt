-- What octagons are on a stretch of rows, and how two runs lie to each other.
use Rattle.std.specs.Prelude.{◌≡◌, ◌⊎◌, ◌↔◌, ℕ, ◌≤◌, List, [], ◌∷◌, ◌++◌, map, All, ℤ, pos, ◌+ℤ◌, ◌≤ℤ◌}
use Rattle.plane.specs.Plane.{Bounds, Within}
use Rattle.scan_runs.specs.Inner.Lines.{AreEndsApart, IsAlong, IsAbsent}
use Rattle.scan_runs.specs.Inner.Merge.{IsUnionOfRuns, AreStraight}
use Rattle.grid_sets.specs.Rows.{OnRuns}
use Rattle.grid_sets.specs.Bands.{reach, run_down}
use Rattle.grid_sets.specs.Points.{HasPoint}
use Rattle.grid_sets.specs.declared.Slant.{Slant}
use Rattle.scan_runs.specs.declared.part.Part.{Part}
use Rattle.scan_runs.specs.declared.part.Part.TheVariants.{Absent, Along, Bent}
use Rattle.scan_runs.specs.declared.relation.Relation.{Relation}
use Rattle.scan_runs.specs.declared.relation.Relation.TheVariants.{Before, Joint, Crossing}
use Rattle.scan_runs.specs.Inner.Ends.{IsSmallEnd}

-- both ends are
pub record IsSmallSlant (s : Slant) : Type 0 where
  pub from : IsSmallEnd s.from
  pub to : IsSmallEnd s.to

-- all of them are
abbrev pub AreSmall : List Slant → Type 0
AreSmall [] = Unit {0}
AreSmall (s ∷ ss) = IsSmallSlant s × AreSmall ss

-- the octagon has one straight run on these rows, and it is small
pub record IsSmallAlong (o : Bounds) (top : ℤ) (n : ℕ) (s : Slant) : Type 0 where
  pub small : IsSmallSlant s
  pub along : IsAlong o top n s

-- nothing, one straight run, or maybe a bend, which wants more than one row
abbrev pub IsOctPart : Bounds → ℤ → ℕ → Part → Type 0
IsOctPart o top n Absent = IsAbsent o top n
IsOctPart o top n (Along s) = IsSmallAlong o top n s
IsOctPart o top n Bent = 1 ≤ n

-- the two as one run, which begins where a does, and it is small
pub record IsSmallJoint (n : ℕ) (a b s : Slant) : Type 0 where
  pub small : IsSmallSlant s
  pub joint : IsUnionOfRuns n a b s
  pub from : s.from ≡ a.from

-- a lies before b, is one run with it, or maybe crosses it, which wants more than one row
abbrev pub IsRelation : ℕ → Slant → Slant → Relation → Type 0
IsRelation n a b Before = AreEndsApart n (pos 2) a.to b.from
IsRelation n a b (Joint s) = IsSmallJoint n a b s
IsRelation n a b Crossing = 1 ≤ n

-- the slant has points on each row, and is small
pub record IsPart (n : ℕ) (s : Slant) : Type 0 where
  pub small : IsSmallSlant s
  pub filled : (k : ℕ) → k ≤ n → reach k s.from ≤ℤ reach k s.to

-- on each row the slants have the octagons' points
pub record ArePartsOf (os : List Bounds) (top : ℤ) (n : ℕ) (ss : List Slant) : Type 0 where
  pub each : All (λ s. IsPart n s) ss
  pub same : (k : ℕ) (x : ℤ) → k ≤ n → OnRuns (map (run_down k) ss) x ↔ HasPoint os x (top +ℤ pos k)

-- the new slants also have the points of o, whatever octagons the old ones are of
pub record IsWith (o : Bounds) (top : ℤ) (n : ℕ) (old new : List Slant) : Type 0 where
  pub more : (os : List Bounds) → ArePartsOf os top n old → ArePartsOf (os ++ o ∷ []) top n new

-- on each row the slants are the runs of the octagons' points
pub record IsSoFar (os : List Bounds) (top : ℤ) (n : ℕ) (ss : List Slant) : Type 0 where
  pub straight : AreStraight (HasPoint os) top n ss
  pub small : AreSmall ss

-- on these rows the open octagons have the points that all have
pub record AreOpenOnRows (os : List Bounds) (top : ℤ) (n : ℕ) (open' : List Bounds) : Type 0 where
  pub same : (x y : ℤ) → top ≤ℤ y → y ≤ℤ (top +ℤ pos n) → HasPoint open' x y ↔ HasPoint os x y

-- on these rows the new list also has the points of o
pub record IsKeptOpen (top bottom : ℤ) (o : Bounds) (old new : List Bounds) : Type 0 where
  pub same : (x y : ℤ) → top ≤ℤ y → y ≤ℤ bottom → HasPoint new x y ↔ (HasPoint old x y ⊎ Within o x y)
