-- The laws of centres and spokes.
use Rattle.std.specs.Prelude.{◌≡◌, ◌↔◌, ℕ, ◌<◌, true, false, List, [], ◌∷◌, ◌++◌, length, ℤ, pos, ◌+ℤ◌, ◌≤ℤ◌, Any}
use Rattle.std.specs.List.{All}
use Rattle.plane.specs.Plane.{Bounds, Within, StrictlyWithin, IsTight, AreNear, ball_of, moved, box_of}
use Rattle.grid_num.specs.declared.Point.{Point}
use Rattle.plane.specs.Covering.{Covers, StrictlyCovers, edges_of}
use Rattle.classes.specs.Classes.{IsOneOf}
use Rattle.hulls.specs.Cells.{around}
use Rattle.slabs.specs.Outside.{IsOutside, IsFrame}
use Rattle.open_laws.specs.Open.{ReachesInto}
use Rattle.outline_slab.specs.Cuts.{HaveJust}
use Rattle.outline_slab.specs.Filled.{AreFilling, IsLeftOver}
use Rattle.board_language.specs.declared.board.Area.{Area}
use Rattle.board_language.specs.Board.{Board}
use Rattle.board_language.specs.Copper.{has_layer}
use Rattle.fill_rules.specs.Tasks.{Settings, zone_at, layer_at}
use Rattle.fill_rules.specs.Needs.{zone_need, Need, at_need, item_needs}
use Rattle.fill_rules.specs.Reliefs.{brush_radius, thermal_needs, spokes_of}
use Rattle.fill_rules.specs.Fill.{Fits, IsClear, IsAllowed, fill_of, fills_below}
use Rattle.board_language.specs.Facts.{IsSoundBoard}
use Rattle.centres.specs.Walls.{AreWallsOf, AreWalls, EntersNone, stout_of}
use Rattle.centres.specs.Needs.{KeepsAll, IsRealNeed, LiesIn, frame_at, IsClearBy, IsBoundedBy}
use Rattle.centres.specs.Centres.{shrunk, IsBarredAt, all_grown, AreLimits}

-- an octagon in the frame of the walls fits exactly where it enters none of them
abbrev pub FitsLaw : Type 0
FitsLaw =
    (b : Board) (i : ℕ) (frame : Bounds) (walls : List Bounds) (o : Bounds)
    → AreWalls b i frame walls → LiesIn o frame
    → Fits b i o ↔ EntersNone walls o

-- Walls are found outline by outline, as the octagons that aren't flat: of what the zone's outline leaves of the
-- frame, and then of each rule area on the layer. A rule area elsewhere has none.
pub record WallsLaw : Type 0 where
  pub outline : (outline : List Point) (layer : ℕ) (frame : Bounds) (octs : List Bounds)
      → All IsTight octs
      → HaveJust octs (IsOutside (edges_of outline) frame)
      → AreFilling octs (IsLeftOver (edges_of outline) frame)
      → AreWallsOf outline layer [] frame (stout_of octs)
  pub area : (outline : List Point) (layer : ℕ) (areas : List Area) (frame : Bounds) (walls : List Bounds) (a : Area) (octs : List Bounds)
      → AreWallsOf outline layer areas frame walls
      → has_layer a.layers layer ≡ true
      → All IsTight octs
      → HaveJust octs (Covers (edges_of a.outline))
      → AreFilling octs (StrictlyCovers (edges_of a.outline))
      → AreWallsOf outline layer (areas ++ a ∷ []) frame (walls ++ stout_of octs)
  pub elsewhere : (outline : List Point) (layer : ℕ) (areas : List Area) (frame : Bounds) (walls : List Bounds) (a : Area)
      → AreWallsOf outline layer areas frame walls
      → has_layer a.layers layer ≡ false
      → AreWallsOf outline layer (areas ++ a ∷ []) frame walls

-- the octagon round corners lies in a rectangle that has them all inside
abbrev pub FrameHeldLaw : Type 0
FrameHeldLaw = (cs : List Point) (frame : Bounds) → 0 < length cs → IsFrame cs frame → LiesIn (around cs) frame

-- the brush of radius r at a grid point lies in an octagon exactly where the grid point is in the shrunk octagon
abbrev pub HomeLaw : Type 0
HomeLaw = (o : Bounds) (r : ℕ) (x y : ℤ) → LiesIn (moved (ball_of r) x y) o ↔ Within (shrunk o r) x y

-- a tight octagon lies in another one exactly where its bounds do
abbrev pub LiesInLaw : Type 0
LiesInLaw = (o f : Bounds) → IsTight o → LiesIn o f ↔ IsBoundedBy o f

-- needs that tell what is clear of the fills of lesser ranks tell what is clear of all fills
abbrev pub ClearByLaw : Type 0
ClearByLaw =
    (b : Board) (i : ℕ) (bars : List Need)
    → ((o : Bounds) → LiesIn o (frame_at b i) → IsClear b (fills_below b i) i o ↔ KeepsAll bars o)
    → IsClearBy b i bars

-- what a task keeps away from stands as tight octagons at a need of one unit at least: the items, the pieces of another
-- zone's fill, and the gaps round thermal pads
pub record RealNeedsLaw : Type 0 where
  pub items : (b : Board) (z : Settings) (layer : ℕ)
      → IsSoundBoard b → All IsRealNeed (item_needs b z layer)
  pub fills : (b : Board) (y z : Settings) (pieces : List Bounds)
      → IsSoundBoard b → All IsTight pieces → All IsRealNeed (at_need (zone_need b y z) pieces)
  pub gaps : (b : Board) (z : Settings) (layer : ℕ) → All IsRealNeed (thermal_needs b z layer)

-- the brush may stand at a grid point exactly where it lies in the frame of its task, and no wall, no need and no
-- thermal gap bars it
abbrev pub AllowedLaw : Type 0
AllowedLaw =
    (b : Board) (i : ℕ) (wide : Bounds) (walls : List Bounds) (bars : List Need) (c : Point)
    → AreLimits b i wide walls bars
    → let r = brush_radius (zone_at b i) in
    let gaps = thermal_needs b (zone_at b i) (layer_at b i) in
    IsAllowed b (fill_of b) i c
    ↔ (Within (shrunk (frame_at b i) r) c.x c.y × (IsBarredAt r walls (bars ++ gaps) c.x c.y → ⊥))

-- what bars a centre is strictly within one list of octagons
abbrev pub GrownLaw : Type 0
GrownLaw =
    (r : ℕ) (walls : List Bounds) (needs : List Need) (x y : ℤ)
    → Any (λ o. StrictlyWithin o x y) (all_grown r walls needs) ↔ IsBarredAt r walls needs x y

-- a spoke fits and is clear exactly where it lies in the frame of its task, enters no wall and keeps all needs
abbrev pub LiveLaw : Type 0
LiveLaw =
    (b : Board) (i : ℕ) (wide : Bounds) (walls : List Bounds) (bars : List Need) (o : Bounds)
    → AreLimits b i wide walls bars
    → IsOneOf o (spokes_of b (zone_at b i) (layer_at b i))
    → (Fits b i o × IsClear b (fill_of b) i o)
    ↔ (LiesIn o (frame_at b i) × EntersNone walls o × KeepsAll bars o)

-- a rectangle, 500 units wide and high at least
pub record IsSpokeSized (o : Bounds) : Type 0 where
  pub box : o ≡ box_of o.x0 o.x1 o.y0 o.y1
  pub across : (o.x0 +ℤ pos 500) ≤ℤ o.x1
  pub along : (o.y0 +ℤ pos 500) ≤ℤ o.y1

-- each spoke is such a rectangle, for the brush reaches 250 units at least
abbrev pub SpokeLaw : Type 0
SpokeLaw =
    (b : Board) (i : ℕ) (o : Bounds)
    → IsSoundBoard b → IsOneOf o (spokes_of b (zone_at b i) (layer_at b i)) → IsSpokeSized o

-- so it has grid points strictly inside, and enters a wall exactly where their octagon is near the wall at 1; so it
-- enters none where that octagon is near none
pub record EnteredLaw : Type 0 where
  pub some : (o : Bounds) → IsSpokeSized o → (x : ℤ) × (y : ℤ) × StrictlyWithin o x y
  pub near : (o inner w : Bounds)
      → IsSpokeSized o → IsTight inner → ((x y : ℤ) → Within inner x y ↔ StrictlyWithin o x y) → IsTight w
      → ReachesInto o w ↔ AreNear 1 inner w
  pub none : (o inner : Bounds) (walls : List Bounds)
      → IsSpokeSized o → IsTight inner → ((x y : ℤ) → Within inner x y ↔ StrictlyWithin o x y) → All IsTight walls
      → EntersNone walls o ↔ All (λ w. AreNear 1 inner w → ⊥) walls
