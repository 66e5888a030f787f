-- The laws of the rules of the fill.
use Rattle.std.specs.Prelude.{◌≡◌, ◌⊎◌, ◌↔◌, ℕ, ◌≤◌, ◌<◌, ◌+◌, ◌*◌, pos, ◌*ℤ◌, ◌≤ℤ◌, Bool, true, List, length}
use Rattle.plane.specs.Plane.{PlanePoint, Bounds, In, IsNear, AreNear, IsMeeting, scaled_dist_sq}
use Rattle.grid_num.specs.declared.Point.{Point}
use Rattle.plane.specs.Covering.{Covers, edges_of}
use Rattle.hulls.specs.Cells.{around}
use Rattle.classes.specs.Classes.{Reaches}
use Rattle.grid_sets.specs.Points.{IsCount}
use Rattle.board_language.specs.Board.{Board}
use Rattle.board_language.specs.Facts.{IsSoundBoard}
use Rattle.fill_rules.specs.Tasks.{ranked, zone_at, layer_at}
use Rattle.fill_rules.specs.Reach.{IsReaching}
use Rattle.fill_rules.specs.Fill.{brush_at, IsAllowed, IsLinked, IsLive, IsIslandPoint, IsLargeEnough, IsKept, InFill, fill_of, reaching_fills}
use Rattle.fill_rules.specs.Dirty.{IsDirty, IsSameFill, IsSameMade, IsUntouched, Spreads}
use Rattle.fill_rules.specs.Lists.{covered_by, AreFillLists}
use Rattle.fill_rules.specs.Ranking.{IsRanking}
use Rattle.fill_rules.specs.Distance.{IsWithin}

-- points that are near at a need are near at a greater one
abbrev pub NearnessGrowsLaw : Type 0
NearnessGrowsLaw = (a c : ℕ) → a ≤ c → (p q : PlanePoint) → IsNear a p q → IsNear c p q

-- so octagons that keep a need keep each lesser one
abbrev pub ClearLaw : Type 0
ClearLaw = (a c : ℕ) → a ≤ c → (o u : Bounds) → (AreNear c o u → ⊥) → AreNear a o u → ⊥

-- the list of tasks has each task once, in rank order
abbrev pub RankingLaw : Type 0
RankingLaw = (b : Board) → IsRanking b (ranked b)

-- what an outline covers lies in its frame
abbrev pub FrameLaw : Type 0
FrameLaw = (corners : List Point) (p : PlanePoint) → Covers (edges_of corners) p → In (around corners) p

-- the centres that a fill keeps are allowed: the brush fits there and is clear
abbrev pub KeptLaw : Type 0
KeptLaw = (b : Board) (i : ℕ) (c : Point) → IsKept b (fill_of b) i c → IsAllowed b (fill_of b) i c

-- a component has only allowed centres
abbrev pub ComponentLaw : Type 0
ComponentLaw = (b : Board) (i : ℕ) (c d : Point) → IsAllowed b (fill_of b) i c → Reaches (IsLinked b (fill_of b) i) c d → IsAllowed b (fill_of b) i d

-- and all that are linked to one of them
abbrev pub WholeComponentLaw : Type 0
WholeComponentLaw =
    (b : Board) (i : ℕ) (c d e : Point) → IsAllowed b (fill_of b) i c → Reaches (IsLinked b (fill_of b) i) c d
    → IsAllowed b (fill_of b) i e → IsMeeting (brush_at b i d) (brush_at b i e) → Reaches (IsLinked b (fill_of b) i) c e

-- a centre is kept together with its whole component
abbrev pub KeptTogetherLaw : Type 0
KeptTogetherLaw = (b : Board) (i : ℕ) (c d : Point) → IsKept b (fill_of b) i c → Reaches (IsLinked b (fill_of b) i) c d → IsKept b (fill_of b) i d

-- the grid points of a component have one number
abbrev pub OneIslandSizeLaw : Type 0
OneIslandSizeLaw =
    (b : Board) (i : ℕ) (c : Point) (points others : ℕ) → IsCount (IsIslandPoint b (fill_of b) i c) points
    → IsCount (IsIslandPoint b (fill_of b) i c) others → points ≡ others

-- which tells whether the component's area lets it stay
abbrev pub IslandSizeLaw : Type 0
IslandSizeLaw =
    (b : Board) (i : ℕ) (c : Point) (area points : ℕ) → IsCount (IsIslandPoint b (fill_of b) i c) points
    → IsLargeEnough b (fill_of b) i c area ↔ (1000000 * area ≤ 4 * points)

-- past the last rank there is no fill
abbrev pub NoFillLaw : Type 0
NoFillLaw = (b : Board) → IsSoundBoard b → (i : ℕ) (p : PlanePoint) → length (ranked b) ≤ i → fill_of b i p → ⊥

-- each fill meets the rules over the fills above it
abbrev pub FillLaw : Type 0
FillLaw = (b : Board) (i : ℕ) (p : PlanePoint) → fill_of b i p ↔ InFill b (fill_of b) i p

-- a fill lies in the frame of its outline
abbrev pub FillFrameLaw : Type 0
FillFrameLaw = (b : Board) → IsSoundBoard b → (i : ℕ) (p : PlanePoint) → fill_of b i p → In (around (zone_at b i).outline) p

-- and so does each live spoke
abbrev pub SpokeFrameLaw : Type 0
SpokeFrameLaw =
    (b : Board) → IsSoundBoard b → (i : ℕ) (o : Bounds) (p : PlanePoint) → IsLive b (fill_of b) i o → In o p → In (around (zone_at b i).outline) p

-- lists that meet the rules, each over the lists before it, cover the fills
abbrev pub ListLaw : Type 0
ListLaw =
    (b : Board) (fills : List (List Bounds)) → AreFillLists b fills → (i : ℕ) → i < length (ranked b)
    → (p : PlanePoint) → covered_by fills i p ↔ fill_of b i p

-- so at most one list of fills meets them
abbrev pub OneListOfFillsLaw : Type 0
OneListOfFillsLaw =
    (b : Board) (fills others : List (List Bounds)) → AreFillLists b fills → AreFillLists b others
    → (i : ℕ) → i < length (ranked b) → (p : PlanePoint) → covered_by fills i p ↔ covered_by others i p

-- a higher task that doesn't reach a task changes nothing in its fill
abbrev pub NoReachLaw : Type 0
NoReachLaw = (b : Board) → IsSoundBoard b → (i : ℕ) (p : PlanePoint) → fill_of b i p ↔ InFill b (reaching_fills b (fill_of b) i) i p

-- and what a task reaches ranks below it, on its layer, for a zone that is foreign to its own
abbrev pub ReachedLaw : Type 0
ReachedLaw =
    (b : Board) (j i : ℕ) → IsReaching b j i
    → (j < i) × (layer_at b j ≡ layer_at b i) × (((zone_at b j).net ≡ (zone_at b i).net → ⊥) ⊎ ((zone_at b j).net ≡ 0))

-- A task that no edit dirties, directly or from a task above it whose pieces changed, is made of the same centres and
-- spokes as before. `old` tells each task's rank before, `direct` which tasks an edit dirties directly, and `changed`
-- which have other pieces than before: of each other task the fill is as it was, and none that is made as before is
-- among them.
abbrev pub CleanLaw : Type 0
CleanLaw =
    (b d : Board) → IsSoundBoard b → IsSoundBoard d → (old : ℕ → ℕ) (direct changed : ℕ → Bool)
    → ((k : ℕ) → (direct k ≡ true → ⊥) → IsUntouched b d old k)
    → ((m : ℕ) → IsSameFill (fill_of b) (fill_of d) (old m) m ⊎ (changed m ≡ true))
    → ((m : ℕ) → IsSameMade b d (fill_of b) (fill_of d) (old m) m → changed m ≡ true → ⊥)
    → (k : ℕ) → (IsDirty (λ (t : ℕ). direct t ≡ true) (Spreads d (λ (t : ℕ). changed t ≡ true)) k → ⊥)
    → IsSameMade b d (fill_of b) (fill_of d) (old k) k

-- a task that is untouched and made of the same centres and spokes as before has the fill that it had
abbrev pub SameAsBeforeLaw : Type 0
SameAsBeforeLaw =
    (b d : Board) (old : ℕ → ℕ) (k : ℕ) → IsUntouched b d old k → IsSameMade b d (fill_of b) (fill_of d) (old k) k
    → IsSameFill (fill_of b) (fill_of d) (old k) k

-- what is not near, at a need in units, to any point within a radius in halves of q is at least both together away from q
abbrev pub CopperDistanceLaw : Type 0
CopperDistanceLaw =
    (a r : ℕ) → 1 ≤ a → (p q : PlanePoint) → ((h : PlanePoint) → IsWithin r h q → IsNear a p h → ⊥)
    → pos (((4 * a + r) * (p.scale * q.scale)) * ((4 * a + r) * (p.scale * q.scale))) ≤ℤ (pos 16 *ℤ scaled_dist_sq p q)
