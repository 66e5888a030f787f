-- What outlines cover, and where they lie.
use Rattle.std.specs.Prelude.{◌↔◌, ℕ, ◌<◌, List, length, get_or}
use Rattle.std.specs.List.{All}
use Rattle.plane.specs.Plane.{PlanePoint, Bounds}
use Rattle.plane.specs.Covering.{Covers, edges_of_all}
use Rattle.octagon.specs.Room.{IsAround}
use Rattle.hulls.specs.Laws.{nm_in_units}
use Rattle.strips.specs.Strips.{HasInside}
use Rattle.rings.specs.Rings.{Traced, IsRingInRange, not_traced}
use Rattle.fill_rules.specs.Lists.{InOne}
use Rattle.fill_rules.specs.Made.{Made, no_fill}

-- each piece has points strictly inside, and lies within half a metre
pub record ArePiecesDrawable (pieces : List Bounds) : Type 0 where
  pub inside : All (λ (o : Bounds). HasInside o) pieces
  pub near : All (λ (o : Bounds). IsAround 250000000 o) pieces

-- the rings, taken as one list, cover exactly the points of the pieces, at every scale; they are in nanometres
abbrev pub IsCovering : List Bounds → Traced → Type 0
IsCovering pieces traced = (p : PlanePoint) → Covers (edges_of_all traced.rings) p ↔ InOne pieces (nm_in_units p)

-- so for each fill
abbrev pub AreCovered : List Made → List Traced → Type 0
AreCovered fills traced = (i : ℕ) → i < length traced → IsCovering (get_or fills i no_fill).pieces (get_or traced i not_traced)

-- all corners lie within 500 mm
abbrev pub AreRingsInRange : List Traced → Type 0
AreRingsInRange traced = All (λ (t : Traced). All IsRingInRange t.rings) traced
