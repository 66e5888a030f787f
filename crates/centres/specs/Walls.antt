-- Where copper of a task may not be, whatever other copper there is: outside its zone's outline, and inside
-- the rule areas on its layer. Walls are octagons that stand there:
--          ________________________
--         |  ____________________  |   frame
--         | |            ___     | |
--         |w|           | w |    |w|   w  a wall, outside the outline
--         | |           |___|    | |      or in a rule area
--         | |____________________| |
--         |___________w____________|
use Rattle.std.specs.Prelude.{◌≡◌, ◌⊎◌, ℕ, Bool, true, ◌&&◌, List, int_lt, Any}
use Rattle.std.specs.List.{All, filter}
use Rattle.plane.specs.Plane.{PlanePoint, Bounds, In, IsTight}
use Rattle.grid_num.specs.declared.Point.{Point}
use Rattle.plane.specs.Covering.{IsOn, Covers, StrictlyCovers, edges_of}
use Rattle.classes.specs.Classes.{IsOneOf}
use Rattle.strips.specs.Strips.{IsStout}
use Rattle.open_laws.specs.Open.{ReachesInto}
use Rattle.outline_slab.specs.Cuts.{IsInSome}
use Rattle.board_language.specs.declared.board.Area.{Area}
use Rattle.board_language.specs.Board.{Board}
use Rattle.board_language.specs.Copper.{has_layer}
use Rattle.fill_rules.specs.Tasks.{zone_at, layer_at}

-- the rule area is one of the list, and on the layer
abbrev pub IsAreaOn : List Area → ℕ → Area → Type 0
IsAreaOn areas layer a = IsOneOf a areas × (has_layer a.layers layer ≡ true)

-- copper of a zone with this outline may not have the point strictly inside on the layer, as far as these rule areas
-- go: the outline doesn't cover it, or it is strictly inside one of them on the layer
unfoldable pub IsOffLimits : List Point → ℕ → List Area → PlanePoint → Type 0
IsOffLimits outline layer areas p =
    (Covers (edges_of outline) p → ⊥)
    ⊎ ((a : Area) × IsAreaOn areas layer a × StrictlyCovers (edges_of a.outline) p)

-- the point is on a side of the outline, or of one of these rule areas on the layer
unfoldable pub IsAlongWall : List Point → ℕ → List Area → PlanePoint → Type 0
IsAlongWall outline layer areas p =
    Any (λ e. IsOn e p) (edges_of outline)
    ⊎ ((a : Area) × IsAreaOn areas layer a × Any (λ e. IsOn e p) (edges_of a.outline))

-- The octagons are walls of a zone with this outline on the layer, as far as these rule areas go: none is flat, and they
-- have each point of the frame that is off limits, and no others. Only on a side they may have points that aren't.
pub record AreWallsOf (outline : List Point) (layer : ℕ) (areas : List Area) (frame : Bounds) (walls : List Bounds) : Type 0 where
  pub tight : All IsTight walls
  pub stout : All IsStout walls
  pub each : (p : PlanePoint) → In frame p → IsOffLimits outline layer areas p → IsInSome walls p
  pub only : (p : PlanePoint) → IsInSome walls p → (IsAlongWall outline layer areas p → ⊥) → IsOffLimits outline layer areas p

-- they are the walls of the task of rank i, within the frame
abbrev pub AreWalls : Board → ℕ → Bounds → List Bounds → Type 0
AreWalls b i frame walls = AreWallsOf (zone_at b i).outline (layer_at b i) b.areas frame walls

-- the octagon has no point of a wall strictly inside; that it lies along a wall is no harm
unfoldable pub EntersNone : List Bounds → Bounds → Type 0
EntersNone walls o = (w : Bounds) → IsOneOf w walls → ReachesInto o w → ⊥

-- ---- how walls are found

-- whether no two opposite sides of the octagon lie on each other
abbrev pub is_stout : Bounds → Bool
is_stout o = int_lt o.x0 o.x1 && (int_lt o.y0 o.y1 && (int_lt o.s0 o.s1 && int_lt o.d0 o.d1))

-- the octagons that aren't flat, in their order
abbrev pub stout_of : List Bounds → List Bounds
stout_of octs = filter is_stout octs
