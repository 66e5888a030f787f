-- The fill of a task, as a set of points of the plane, over the fills of the tasks above it.
use Rattle.std.specs.Prelude.{◌≡◌, ◌⊎◌, ◌↔◌, ℕ, zero, suc, ◌*◌, ◌<◌, ◌≤◌, ℤ, ◌≤ℤ◌, ◌<ℤ◌, true}
use Rattle.plane.specs.Plane.{PlanePoint, Bounds, In, Within, StrictlyIn, ball_of, moved, IsNear, AreNear, IsMeeting}
use Rattle.grid_num.specs.declared.Point.{Point}
use Rattle.plane.specs.Covering.{Covers, StrictlyCovers, edges_of}
use Rattle.copper_shape.specs.Shapes.{Copper}
use Rattle.classes.specs.Classes.{Reaches, IsLeastOf, IsOneOf}
use Rattle.grid_sets.specs.Points.{IsCount}
use Rattle.open_laws.specs.Open.{IsBefore}
use Rattle.islands.specs.Held.{IsTouching}
use Rattle.islands.specs.Inside.{IsWithinEdges}
use Rattle.board_language.specs.declared.IslandMode.{IslandMode}
use Rattle.board_language.specs.declared.IslandMode.TheVariants.{Remove, Keep, Below}
use Rattle.board_language.specs.declared.board.Area.{Area}
use Rattle.board_language.specs.Board.{Board}
use Rattle.board_language.specs.Copper.{has_layer}
use Rattle.fill_rules.specs.Tasks.{zone_at, layer_at}
use Rattle.fill_rules.specs.Needs.{is_foreign, zone_need, Need, item_needs}
use Rattle.fill_rules.specs.Reliefs.{brush_radius, thermal_needs, spokes_of}
use Rattle.fill_rules.specs.Anchors.{anchors_of}
use Rattle.fill_rules.specs.Reach.{IsReaching}

-- a set of points for each rank
abbrev pub Fills : Type 1
Fills = ℕ → PlanePoint → Type 0

-- the brush at a centre
unfoldable pub brush_at : Board → ℕ → Point → Bounds
brush_at b i c = moved (ball_of (brush_radius (zone_at b i))) c.x c.y

-- each point strictly in the octagon is covered by the outline, and strictly inside no copper-free area on the layer
pub record Fits (b : Board) (i : ℕ) (o : Bounds) : Type 0 where
  pub covered : (p : PlanePoint) → StrictlyIn o p → Covers (edges_of (zone_at b i).outline) p
  pub free : (p : PlanePoint) → StrictlyIn o p → (a : Area) → IsOneOf a b.areas → has_layer a.layers (layer_at b i) ≡ true → StrictlyCovers (edges_of a.outline) p → ⊥

-- the octagon is near, at the need, to no foreign item, board edge or unjoined pad, and to no fill of a foreign task above
-- it on the layer
pub record IsClear (b : Board) (above : Fills) (i : ℕ) (o : Bounds) : Type 0 where
  pub items : (n : Need) → IsOneOf n (item_needs b (zone_at b i) (layer_at b i)) → AreNear n.need o n.oct → ⊥
  pub fills : (j : ℕ) → j < i → layer_at b j ≡ layer_at b i → is_foreign (zone_at b j).net (zone_at b i).net ≡ true
      → (p q : PlanePoint) → In o p → above j q → IsNear (zone_need b (zone_at b j) (zone_at b i)) p q → ⊥

-- a grid point where the brush may stand
pub record IsAllowed (b : Board) (above : Fills) (i : ℕ) (c : Point) : Type 0 where
  pub fits : Fits b i (brush_at b i c)
  pub clear : IsClear b above i (brush_at b i c)
  pub gaps : (n : Need) → IsOneOf n (thermal_needs b (zone_at b i) (layer_at b i)) → AreNear n.need (brush_at b i c) n.oct → ⊥

-- the brush at the two allowed centres meets
pub record IsLinked (b : Board) (above : Fills) (i : ℕ) (c d : Point) : Type 0 where
  pub first : IsAllowed b above i c
  pub second : IsAllowed b above i d
  pub meet : IsMeeting (brush_at b i c) (brush_at b i d)

-- a spoke that the fill may have
pub record IsLive (b : Board) (above : Fills) (i : ℕ) (o : Bounds) : Type 0 where
  pub spoke : IsOneOf o (spokes_of b (zone_at b i) (layer_at b i))
  pub fits : Fits b i o
  pub clear : IsClear b above i o
  pub meets : (c : Point) × IsAllowed b above i c × IsMeeting o (brush_at b i c)

-- a live spoke meets the component of c, or an anchor touches it
abbrev pub IsAnchored : Board → Fills → ℕ → Point → Type 0
IsAnchored b above i c =
    (d : Point) × Reaches (IsLinked b above i) c d × (
    ((o : Bounds) × IsLive b above i o × IsMeeting o (brush_at b i d))
    ⊎ ((s : Copper) × IsOneOf s (anchors_of b (zone_at b i) (layer_at b i)) × IsTouching s (brush_at b i d))
    )

-- ---- islands: components that aren't anchored

-- the grid point lies in the brush at some centre of the component of c
abbrev pub IsIslandPoint : Board → Fills → ℕ → Point → ℤ → ℤ → Type 0
IsIslandPoint b above i c x y = (d : Point) × Reaches (IsLinked b above i) c d × Within (brush_at b i d) x y

-- The component's area isn't below so many millionths of a square millimetre, each of 1,000,000 square nanometres. Each
-- grid point that the brush takes counts once, as the 4 square nanometres round it.
pub record IsLargeEnough (b : Board) (above : Fills) (i : ℕ) (c : Point) (area : ℕ) : Type 0 where
  pub points : ℕ
  pub count : IsCount (IsIslandPoint b above i c) points
  pub enough : 1000000 * area ≤ 4 * points

-- the mode lets the component of c stay, though nothing anchors it
abbrev pub IsSpared : Board → Fills → ℕ → Point → IslandMode → Type 0
IsSpared b above i c Remove = ⊥
IsSpared b above i c Keep = Unit {0}
IsSpared b above i c (Below area) = IsLargeEnough b above i c area

-- an allowed centre whose component begins inside the board, and is anchored or spared by the zone's mode
pub record IsKept (b : Board) (above : Fills) (i : ℕ) (c : Point) : Type 0 where
  pub allowed : IsAllowed b above i c
  pub first : Point
  pub is_first : IsLeastOf (IsLinked b above i) IsBefore c first
  pub inside : IsWithinEdges b.edges first
  pub stays : IsAnchored b above i c ⊎ IsSpared b above i c (zone_at b i).islands

-- the point is in the fill of rank i, where the fills above it are those given
unfoldable pub InFill : Board → Fills → ℕ → PlanePoint → Type 0
InFill b above i p =
    ((c : Point) × IsKept b above i c × In (brush_at b i c) p)
    ⊎ ((o : Bounds) × IsLive b above i o × In o p × ((c : Point) × IsKept b above i c × IsMeeting o (brush_at b i c)))

-- the fills of the ranks below n, each over those above it
unfoldable pub fills_below : Board → ℕ → Fills
fills_below b zero j p = ⊥
fills_below b (suc n) j p = fills_below b n j p ⊎ ((j ≡ n) × InFill b (fills_below b n) n p)

-- the fill of the task of rank i
unfoldable pub fill_of : Board → ℕ → PlanePoint → Type 0
fill_of b i = InFill b (fills_below b i) i

-- each of the sets is the fill of its rank, over those above it
abbrev pub AreFills : Board → Fills → Type 0
AreFills b fills = (i : ℕ) (p : PlanePoint) → fills i p ↔ InFill b fills i p

-- the fills of the reaching tasks alone
abbrev pub reaching_fills : Board → Fills → ℕ → Fills
reaching_fills b fills i j p = IsReaching b j i × fills j p
