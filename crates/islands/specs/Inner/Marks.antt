-- Which labels are marked once the first octagons have been looked at.
use Rattle.std.specs.Prelude.{◌≡◌, ◌↔◌, ℕ, ◌<◌, true, false, Bool, List, length, get_or, slice_get, Some}
use Rattle.plane.specs.Plane.{Bounds}
use Rattle.copper_shape.specs.Shapes.{Copper}
use Rattle.islands.specs.Held.{IsHeldDirectly}

-- one of the first n octagons has the label, and is held by itself
pub record IsMarked (octs : List Bounds) (labels : List ℕ) (anchors : List Copper) (live : List Bounds) (n label : ℕ) : Type 0 where
  pub at : ℕ
  pub oct : Bounds
  pub before : at < n
  pub labelled : get_or labels at 0 ≡ label
  pub there : slice_get octs at ≡ Some oct
  pub directly : IsHeldDirectly anchors live oct

-- just those labels are marked
pub record AreMarks (octs : List Bounds) (labels : List ℕ) (anchors : List Copper) (live : List Bounds) (n : ℕ) (marks : List Bool) : Type 0 where
  pub count : length marks ≡ length octs
  pub each : (label : ℕ) → label < length octs → (get_or marks label false ≡ true) ↔ IsMarked octs labels anchors live n label
