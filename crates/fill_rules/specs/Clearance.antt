-- How far a fill stays from what it keeps away from, in nanometres as the board says them, before anything is rounded. Places
-- of a fill are in units of 2 nm, cores and copper in halves of a nanometre.
use Rattle.std.specs.Prelude.{◌≡◌, ℕ, ◌+◌, ◌*◌, ◌≤◌, max, true, pos, ◌*ℤ◌, ◌≤ℤ◌, unwrap_or}
use Rattle.plane.specs.Plane.{PlanePoint, In, minus, scaled_dist_sq}
use Rattle.grid_num.specs.declared.Point.{Point}
use Rattle.copper_shape.specs.Shapes.{Copper}
use Rattle.copper_shape.specs.declared.edge.Edge.{Edge}
use Rattle.touching.specs.Core.{InCore, InCopper, OnLine}
use Rattle.hulls.specs.Hulls.{in_units}
use Rattle.hulls.specs.Laws.{spot, nm_in_units, InChordDisc}
use Rattle.classes.specs.Classes.{IsOneOf}
use Rattle.board_language.specs.declared.board.Pad.{Pad}
use Rattle.board_language.specs.Board.{Board}
use Rattle.fill_rules.specs.Tasks.{Settings, zone_at, layer_at}
use Rattle.fill_rules.specs.Needs.{is_foreign}
use Rattle.fill_rules.specs.Reliefs.{is_thermal}
use Rattle.fill_rules.specs.Fill.{brush_at, IsKept, fill_of}
use Rattle.fill_rules.specs.InWords.{IsBarred}

-- p and q are at least d halves of a nanometre apart. A unit is 4 halves, so 16 times the squared distance counts.
unfoldable pub IsAway : ℕ → PlanePoint → PlanePoint → Type 0
IsAway d p q = pos ((d * (minus p q).scale) * (d * (minus p q).scale)) ≤ℤ (pos 16 *ℤ scaled_dist_sq p q)

-- ---- clearances, in nanometres

-- between a zone and an item with a clearance of its own: the greatest of both and the board's floor
abbrev pub item_clearance : Board → Settings → ℕ → ℕ
item_clearance b z own = max (max z.clearance own) b.rules.floor

-- between two zones: the greatest of both and the board's floor
abbrev pub zone_clearance : Board → Settings → Settings → ℕ
zone_clearance b y z = max (max y.clearance z.clearance) b.rules.floor

-- round a pad that is joined by spokes: the pad's gap, else the zone's, and never less than a unit
abbrev pub relief_gap : Settings → Pad → ℕ
relief_gap z p = max 2 (unwrap_or p.gap z.gap)

-- ---- laws

-- Each point of a fill is at least the clearance and the radius away from each point of the core of foreign copper, of a bare
-- hole, or of a pad that isn't to be joined.
abbrev pub CoreClearanceLaw : Type 0
CoreClearanceLaw =
    (b : Board) → 1 ≤ b.rules.floor → (i own : ℕ) (c : Copper) (p q : PlanePoint) → fill_of b i p
    → IsBarred b (zone_at b i) (layer_at b i) own c → InCore c.core q
    → IsAway (2 * item_clearance b (zone_at b i) own + c.radius) p (in_units q)

-- so it is at least the clearance away from each point of that copper
abbrev pub CopperClearanceLaw : Type 0
CopperClearanceLaw =
    (b : Board) (i own : ℕ) (c : Copper) (p q : PlanePoint) → fill_of b i p
    → IsBarred b (zone_at b i) (layer_at b i) own c → InCopper c.core c.radius q
    → IsAway (2 * item_clearance b (zone_at b i) own) p (in_units q)

-- it is at least the edge clearance away from each point of a straight board edge
abbrev pub EdgeClearanceLaw : Type 0
EdgeClearanceLaw =
    (b : Board) (i : ℕ) (e : Edge) (p q : PlanePoint) → fill_of b i p → IsOneOf e b.edges → (e.bow ≡ true → ⊥)
    → OnLine (spot e.from) (spot e.to) q → IsAway (2 * b.rules.edge) p (nm_in_units q)

-- and from each point of the disc on an arc's chord
abbrev pub ArcClearanceLaw : Type 0
ArcClearanceLaw =
    (b : Board) (i : ℕ) (e : Edge) (p q : PlanePoint) → fill_of b i p → IsOneOf e b.edges → e.bow ≡ true
    → InChordDisc e.from e.to q → IsAway (2 * b.rules.edge) p (nm_in_units q)

-- every two points of fills of two foreign zones on one layer are at least the clearance apart, whichever ranks higher
abbrev pub ZoneClearanceLaw : Type 0
ZoneClearanceLaw =
    (b : Board) (i j : ℕ) (p q : PlanePoint) → (i ≡ j → ⊥) → layer_at b i ≡ layer_at b j
    → is_foreign (zone_at b i).net (zone_at b j).net ≡ true → fill_of b i p → fill_of b j q
    → IsAway (2 * zone_clearance b (zone_at b i) (zone_at b j)) p q

-- copper of a fill that isn't in a spoke is at least the gap away from the copper of each pad that is joined by spokes
abbrev pub ReliefLaw : Type 0
ReliefLaw =
    (b : Board) (i : ℕ) (c : Point) (a : Pad) (p q : PlanePoint) → IsKept b (fill_of b) i c → In (brush_at b i c) p
    → IsOneOf a b.pads → is_thermal (zone_at b i) (layer_at b i) a ≡ true → InCopper a.shape.core a.shape.radius q
    → IsAway (2 * relief_gap (zone_at b i) a) p (in_units q)
