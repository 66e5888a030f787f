-- What the lists and numbers of the rules say, in the words of a board: which need counts, which copper anchors, where a
-- spoke lies, and which copper a fill keeps away from.
use Rattle.std.specs.Prelude.{◌≡◌, ◌⊎◌, ◌↔◌, ℕ, ◌≤◌, ◌<◌, ◌*◌, ℤ, pos, neg_ℤ, ◌+ℤ◌, ◌-ℤ◌, ◌*ℤ◌, ◌≤ℤ◌, true, List, [], ◌∷◌, unwrap_or}
use Rattle.plane.specs.Plane.{PlanePoint, Bounds, In, minus, scaled_dist_sq}
use Rattle.copper_shape.specs.Shapes.{Copper}
use Rattle.copper_shape.specs.declared.edge.Edge.{Edge}
use Rattle.touching.specs.Core.{OnLine, InCopper}
use Rattle.hulls.specs.Hulls.{in_units}
use Rattle.hulls.specs.Laws.{spot, nm_in_units, InChordDisc}
use Rattle.classes.specs.Classes.{IsOneOf}
use Rattle.board_language.specs.declared.Join.TheVariants.{Solid, PlatedThermal}
use Rattle.board_language.specs.declared.PadKind.TheVariants.{Surface, Hole}
use Rattle.board_language.specs.declared.board.Track.{Track}
use Rattle.board_language.specs.declared.board.Via.{Via}
use Rattle.board_language.specs.declared.board.Pad.{Pad}
use Rattle.board_language.specs.Board.{Board}
use Rattle.board_language.specs.Copper.{has_layer}
use Rattle.fill_rules.specs.Tasks.{Settings, zone_at, layer_at}
use Rattle.fill_rules.specs.Needs.{is_foreign, units, item_need, zone_need, edge_need, track_copper, via_copper, role, is_on, is_barred}
use Rattle.fill_rules.specs.Reliefs.{spokes_by, gap_of}
use Rattle.fill_rules.specs.Anchors.{anchors_of}
use Rattle.fill_rules.specs.Fill.{fill_of}

-- ---- needs

-- the number is the greatest of the three
pub record IsGreatest (n a b c : ℕ) : Type 0 where
  pub first : a ≤ n
  pub second : b ≤ n
  pub third : c ≤ n
  pub one : (n ≡ a) ⊎ ((n ≡ b) ⊎ (n ≡ c))

-- copper is foreign where the nets differ or there is none
abbrev pub ForeignLaw : Type 0
ForeignLaw = (m n : ℕ) → (is_foreign m n ≡ true) ↔ ((m ≡ n → ⊥) ⊎ (m ≡ 0))

-- a distance in units is the least one that is no less than the nanometres
abbrev pub UnitsLaw : Type 0
UnitsLaw = (n m : ℕ) → (units n ≤ m) ↔ (n ≤ 2 * m)

-- of the clearances of zone, item and board the greatest counts
abbrev pub ItemNeedLaw : Type 0
ItemNeedLaw = (b : Board) (z : Settings) (own : ℕ) → IsGreatest (item_need b z own) (units z.clearance) (units own) (units b.rules.floor)

-- and of those of two zones and the board
abbrev pub ZoneNeedLaw : Type 0
ZoneNeedLaw = (b : Board) (y z : Settings) → IsGreatest (zone_need b y z) (units y.clearance) (units z.clearance) (units b.rules.floor)

-- ---- anchors

-- the pad has copper of the zone's net on the layer, and is joined by copper all round
pub record IsSolidPad (z : Settings) (l : ℕ) (p : Pad) : Type 0 where
  pub on : has_layer p.layers l ≡ true
  pub net : p.net ≡ z.net
  pub copper : p.kind ≡ Hole → ⊥
  pub join : (unwrap_or p.join z.join ≡ Solid) ⊎ ((unwrap_or p.join z.join ≡ PlatedThermal) × (p.kind ≡ Surface))

-- the copper anchors islands of a zone on the layer: it is that of a solid pad, a via or a track of the zone's net
unfoldable pub IsAnchor : Board → Settings → ℕ → Copper → Type 0
IsAnchor b z l c =
    (z.net ≡ 0 → ⊥)
    × (((p : Pad) × IsOneOf p b.pads × IsSolidPad z l p × (c ≡ p.shape))
    ⊎ (((v : Via) × IsOneOf v b.vias × (has_layer v.layers l ≡ true) × (v.net ≡ z.net) × (c ≡ via_copper v))
    ⊎ ((t : Track) × IsOneOf t b.tracks × (t.layer ≡ l) × (t.net ≡ z.net) × (c ≡ track_copper t))))

-- the anchors of a zone on a layer are the copper of which the rule in words says so, and no other
abbrev pub AnchorsLaw : Type 0
AnchorsLaw = (b : Board) (z : Settings) (l : ℕ) (c : Copper) → IsOneOf c (anchors_of b z l) ↔ IsAnchor b z l c

-- ---- spokes

-- where a spoke leads from the pad's centre
pub data SpokeDirection : Type 0 where
  East : SpokeDirection
  South : SpokeDirection
  West : SpokeDirection
  North : SpokeDirection

-- how far a place lies in the direction, and how far to its side
abbrev pub ahead : SpokeDirection → ℤ → ℤ → ℤ
ahead East x y = x
ahead South x y = y
ahead West x y = neg_ℤ x
ahead North x y = neg_ℤ y

-- the coordinate across a spoke of the direction
abbrev pub aside : SpokeDirection → ℤ → ℤ → ℤ
aside East x y = y
aside South x y = x
aside West x y = y
aside North x y = x

-- how far an octagon reaches in the direction
abbrev pub rim : SpokeDirection → Bounds → ℤ
rim East h = h.x1
rim South h = h.y1
rim West h = neg_ℤ h.x0
rim North h = neg_ℤ h.y0

-- q lies in the spoke that leads in the direction from the place (x, y): at most b behind it, at most r beyond the
-- hull, and at most h to either side
pub record IsInSpoke (d : SpokeDirection) (x y : ℤ) (b h r : ℕ) (hull : Bounds) (q : PlanePoint) : Type 0 where
  pub back : (pos q.scale *ℤ (ahead d x y -ℤ pos b)) ≤ℤ ahead d q.x q.y
  pub front : ahead d q.x q.y ≤ℤ (pos q.scale *ℤ (rim d hull +ℤ pos r))
  pub left : (pos q.scale *ℤ (aside d x y -ℤ pos h)) ≤ℤ aside d q.x q.y
  pub right : aside d q.x q.y ≤ℤ (pos q.scale *ℤ (aside d x y +ℤ pos h))

-- the octagons are the spokes in these directions
unfoldable pub AreSpokes : ℤ → ℤ → ℕ → ℕ → ℕ → Bounds → List SpokeDirection → List Bounds → Type 0
AreSpokes x y b h r hull [] os = os ≡ []
AreSpokes x y b h r hull (d ∷ ds) [] = ⊥
AreSpokes x y b h r hull (d ∷ ds) (o ∷ os) = ((q : PlanePoint) → In o q ↔ IsInSpoke d x y b h r hull q) × AreSpokes x y b h r hull ds os

-- the four spokes of a pad lead east, south, west and north, each as the rule in words says
abbrev pub SpokesLaw : Type 0
SpokesLaw =
    (x y : ℤ) (b h r : ℕ) (hull : Bounds)
    → AreSpokes x y b h r hull (East ∷ South ∷ West ∷ North ∷ []) (spokes_by x y (pos b) (pos h) (pos r) hull)

-- a gap is never nothing
abbrev pub GapLaw : Type 0
GapLaw = (z : Settings) (p : Pad) → 1 ≤ gap_of z p

-- ---- clearances

-- p and q are at least a apart: their squared distance, at a common scale
unfoldable pub IsApart : ℕ → PlanePoint → PlanePoint → Type 0
IsApart a p q = pos ((a * (minus p q).scale) * (a * (minus p q).scale)) ≤ℤ scaled_dist_sq p q

-- copper, with a clearance of its own, that a zone on the layer keeps away from: foreign tracks and vias, and pads and
-- holes that are foreign or not to be joined
unfoldable pub IsBarred : Board → Settings → ℕ → ℕ → Copper → Type 0
IsBarred b z l own c =
    ((t : Track) × IsOneOf t b.tracks × (t.layer ≡ l) × (is_foreign z.net t.net ≡ true) × (own ≡ 0) × (c ≡ track_copper t))
    ⊎ (((v : Via) × IsOneOf v b.vias × (has_layer v.layers l ≡ true) × (is_foreign z.net v.net ≡ true) × (own ≡ 0) × (c ≡ via_copper v))
    ⊎ ((p : Pad) × IsOneOf p b.pads × (is_on l p ≡ true) × (is_barred (role z p) ≡ true) × (own ≡ p.clearance) × (c ≡ p.shape)))

-- each point of a fill keeps the need from each point of such copper
abbrev pub CopperKeptLaw : Type 0
CopperKeptLaw =
    (b : Board) (i own : ℕ) (c : Copper) (p q : PlanePoint) → fill_of b i p → IsBarred b (zone_at b i) (layer_at b i) own c
    → InCopper c.core c.radius q → IsApart (item_need b (zone_at b i) own) p (in_units q)

-- from each point of a straight board edge
abbrev pub EdgeKeptLaw : Type 0
EdgeKeptLaw =
    (b : Board) (i : ℕ) (e : Edge) (p q : PlanePoint) → fill_of b i p → IsOneOf e b.edges → (e.bow ≡ true → ⊥)
    → OnLine (spot e.from) (spot e.to) q → IsApart (edge_need b) p (nm_in_units q)

-- from each point of the disc on an arc's chord
abbrev pub ArcKeptLaw : Type 0
ArcKeptLaw =
    (b : Board) (i : ℕ) (e : Edge) (p q : PlanePoint) → fill_of b i p → IsOneOf e b.edges → e.bow ≡ true
    → InChordDisc e.from e.to q → IsApart (edge_need b) p (nm_in_units q)

-- and from each point of the fill of a foreign zone on the layer
abbrev pub ZoneKeptLaw : Type 0
ZoneKeptLaw =
    (b : Board) (j i : ℕ) (p q : PlanePoint) → j < i → layer_at b j ≡ layer_at b i
    → is_foreign (zone_at b j).net (zone_at b i).net ≡ true → fill_of b i p → fill_of b j q
    → IsApart (zone_need b (zone_at b j) (zone_at b i)) p q
