-- What holds a part of a list of octagons in place.
use Rattle.std.specs.Prelude.{◌≡◌, ◌⊎◌, ℕ, ◌≤◌, List, slice_get, Some}
use Rattle.plane.specs.Plane.{Bounds, times, IsMeeting}
use Rattle.touching.specs.Core.{area, Touches}
use Rattle.classes.specs.Classes.{IsOneOf}
use Rattle.cores.specs.Room.{IsCoreInRoom}
use Rattle.copper_shape.specs.Shapes.{Copper}
use Rattle.islands.specs.Parts.{IsOnePart}

-- the copper touches the octagon of units: some point of its core is at most its radius away from a point of the octagon
unfoldable pub IsTouching : Copper → Bounds → Type 0
IsTouching c o = Touches c.radius c.core (area (times 4 o))

-- a live spoke meets the octagon, or the copper of an anchor touches it
unfoldable pub IsHeldDirectly : List Copper → List Bounds → Bounds → Type 0
IsHeldDirectly anchors live o =
    ((l : Bounds) × IsOneOf l live × IsMeeting l o)
    ⊎ ((s : Copper) × IsOneOf s anchors × IsTouching s o)

-- one of its part is so held, and so the whole part is
pub record IsHeld (octs : List Bounds) (anchors : List Copper) (live : List Bounds) (k : ℕ) : Type 0 where
  pub at : ℕ
  pub oct : Bounds
  pub together : IsOnePart octs k at
  pub there : slice_get octs at ≡ Some oct
  pub directly : IsHeldDirectly anchors live oct

-- a piece of copper as boards have it: its core within 600 mm of 0, its radius at most 100 mm, in halves
pub record IsAnchorInRoom (c : Copper) : Type 0 where
  pub core : IsCoreInRoom 1200000000 c.core
  pub radius : c.radius ≤ 200000000
