-- The stacks of fills, each of a part: fewer octagons than pieces, with the same points part by part.
use Rattle.std.specs.Prelude.{◌≡◌, ◌↔◌, ℕ, ◌<◌, List, length, get_or}
use Rattle.std.specs.List.{All}
use Rattle.plane.specs.Plane.{PlanePoint, Bounds, In}
use Rattle.octagon.specs.Room.{IsAround}
use Rattle.classes.specs.Classes.{IsOneOf}
use Rattle.fill_rules.specs.Made.{Made, no_fill}
use Rattle.fill_rules.specs.Clusters.{labelled}
use Rattle.clusters.specs.declared.fill_stacks.FillStacks.{FillStacks}

-- the point is in one of the octagons
abbrev pub IsInOctagons : List Bounds → PlanePoint → Type 0
IsInOctagons os p = (o : Bounds) × IsOneOf o os × In o p

-- octagons in places of one number are of one part
unfoldable pub AreOfOnePart : List ℕ → List ℕ → Type 0
AreOfOnePart places parts = (j k : ℕ) → j < length places → k < length places → get_or places j 0 ≡ get_or places k 0 → get_or parts j 0 ≡ get_or parts k 0

-- so many stacks have a part each, and the stacks of the first n pieces have those of the pieces
pub record AreStackParts (places parts : List ℕ) (count n : ℕ) (firsts : List ℕ) : Type 0 where
  pub many : length firsts ≡ count
  pub each : (j : ℕ) → j < n → get_or firsts (get_or places j 0) 0 ≡ get_or parts j 0

-- of each part the stacks have just the points of the pieces, at every scale
unfoldable pub HavePartPoints : List Bounds → List ℕ → List Bounds → List ℕ → Type 0
HavePartPoints pieces parts stacks firsts =
    (first : ℕ) (p : PlanePoint) → IsInOctagons (labelled first stacks firsts) p ↔ IsInOctagons (labelled first pieces parts) p

-- each stack has a part, and lies within half a metre of 0
pub record AreNearStacks (s : FillStacks) : Type 0 where
  pub count : length s.parts.items ≡ length s.stacks.items
  pub near : All (IsAround 250000000) s.stacks.items

-- they are the stacks of the first n fills
pub record AreFillStacks (fills : List Made) (n : ℕ) (all : List FillStacks) : Type 0 where
  pub count : length all ≡ n
  pub each : (r : ℕ) (d : FillStacks) → r < n
      → HavePartPoints (get_or fills r no_fill).pieces (get_or fills r no_fill).parts (get_or all r d).stacks.items (get_or all r d).parts.items
