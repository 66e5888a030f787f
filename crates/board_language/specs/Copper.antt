-- On which layers copper is, and the octagons that stand for it. Octagons are in units of 2 nm, copper in halves of a
-- nanometre.
use Rattle.std.specs.Prelude.{ℕ, ◌^◌, Bool, not, ◌==◌, bit_and, List, ◌+ℤ◌}
use Rattle.plane.specs.Plane.{Bounds, grid_point}
use Rattle.touching.specs.Core.{InCore}
use Rattle.hulls.specs.Hulls.{hulls_of}
use Rattle.hulls.specs.Laws.{IsPad}
use Rattle.copper_shape.specs.Shapes.{Copper}
use Rattle.board_language.specs.declared.board.Pad.{Pad}

-- a set of layers is a number, its lowest bit the first layer
abbrev pub has_layer : ℕ → ℕ → Bool
has_layer layers l = not (bit_and layers (2 ^ l) == 0)

-- the octagons that stand for a piece of copper
abbrev pub hulls_round : Copper → List Bounds
hulls_round c = hulls_of c.core c.radius

-- the hulls of a pad's copper: just one for every pad that is read
unfoldable pub pad_hulls : Pad → List Bounds
pad_hulls p = hulls_round p.shape

-- a pad's copper has the core of a pad, with the pad's centre in it: a core is in halves, a centre in nanometres
pub record HasPad (p : Pad) : Type 0 where
  pub core : IsPad p.shape.core
  pub centre : InCore p.shape.core (grid_point (p.at.x +ℤ p.at.x) (p.at.y +ℤ p.at.y))
