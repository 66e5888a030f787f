-- What of two boards a fill depends on, and the dirty set.
use Rattle.std.specs.Prelude.{◌≡◌, ◌↔◌, ℕ, map}
use Rattle.plane.specs.Plane.{PlanePoint, Bounds, In, AreNear}
use Rattle.classes.specs.Classes.{Reaches, IsOneOf}
use Rattle.grid_num.specs.declared.Point.{Point}
use Rattle.copper_shape.specs.Shapes.{Copper}
use Rattle.islands.specs.Held.{IsTouching}
use Rattle.hulls.specs.Cells.{around}
use Rattle.board_language.specs.declared.board.Pad.{Pad}
use Rattle.board_language.specs.Board.{Board}
use Rattle.fill_rules.specs.Tasks.{zone_at, layer_at}
use Rattle.fill_rules.specs.Needs.{zone_need, Need, item_needs}
use Rattle.fill_rules.specs.Anchors.{anchors_of}
use Rattle.fill_rules.specs.Reach.{IsReaching}
use Rattle.fill_rules.specs.Fill.{Fills, IsKept, IsLive}

-- a pad, whatever line of the file it stands on: an edit elsewhere moves lines
abbrev pub unlined : Pad → Pad
unlined p =
    record {
      shape = p.shape;
      at = p.at;
      layers = p.layers;
      net = p.net;
      kind = p.kind;
      clearance = p.clearance;
      join = p.join;
      gap = p.gap;
      bridge = p.bridge;
      line = 0;
    }

-- the tasks of rank i and k of the two boards have the same settings and layer, among the same pads, areas and edges
pub record IsLike (b d : Board) (i k : ℕ) : Type 0 where
  pub zone : zone_at b i ≡ zone_at d k
  pub layer : layer_at b i ≡ layer_at d k
  pub pads : map unlined b.pads ≡ map unlined d.pads
  pub areas : b.areas ≡ d.areas
  pub edges : b.edges ≡ d.edges

-- what bars the one task in its frame, and what anchors it there, does so of the other
pub record IsFollowed (b d : Board) (one other : Fills) (i k : ℕ) : Type 0 where
  pub items : (n : Need) → IsOneOf n (item_needs b (zone_at b i) (layer_at b i)) → AreNear n.need (around (zone_at b i).outline) n.oct
      → IsOneOf n (item_needs d (zone_at d k) (layer_at d k))
  pub fills : (j : ℕ) → IsReaching b j i → (q : PlanePoint) → one j q
      → (m : ℕ) × IsReaching d m k × other m q × (zone_need b (zone_at b j) (zone_at b i) ≡ zone_need d (zone_at d m) (zone_at d k))
  pub anchors : (s : Copper) → IsOneOf s (anchors_of b (zone_at b i) (layer_at b i))
      → (o : Bounds) → IsTouching s o → ((p : PlanePoint) → In o p → In (around (zone_at b i).outline) p)
      → IsOneOf s (anchors_of d (zone_at d k) (layer_at d k))

-- a task is dirty that can be come to from one that is dirtied directly, each time from a task whose fill changed to one
-- that it reaches
abbrev pub IsDirty : (ℕ → Type 0) → (ℕ → ℕ → Type 0) → ℕ → Type 0
IsDirty direct spreads t = (s : ℕ) × direct s × Reaches spreads s t

-- the task has one fill on both boards
abbrev pub IsSameFill : Fills → Fills → ℕ → ℕ → Type 0
IsSameFill one other i k = (p : PlanePoint) → one i p ↔ other k p

-- the task has the same kept centres and live spokes on both boards, so the same pieces
pub record IsSameMade (b d : Board) (one other : Fills) (i k : ℕ) : Type 0 where
  pub kept : (c : Point) → IsKept b one i c ↔ IsKept d other k c
  pub live : (o : Bounds) → IsLive b one i o ↔ IsLive d other k o

-- No edit dirties the task of rank k of d, whose rank on b was old k, directly: its settings stay, what is near its frame
-- stays, and so do the tasks that reach it, with their needs.
pub record IsUntouched (b d : Board) (old : ℕ → ℕ) (k : ℕ) : Type 0 where
  pub like : IsLike b d (old k) k
  pub items : (n : Need) → AreNear n.need (around (zone_at d k).outline) n.oct
      → IsOneOf n (item_needs b (zone_at b (old k)) (layer_at b (old k))) ↔ IsOneOf n (item_needs d (zone_at d k) (layer_at d k))
  pub anchors : (s : Copper) (o : Bounds) → IsTouching s o → ((p : PlanePoint) → In o p → In (around (zone_at d k).outline) p)
      → IsOneOf s (anchors_of b (zone_at b (old k)) (layer_at b (old k))) ↔ IsOneOf s (anchors_of d (zone_at d k) (layer_at d k))
  pub reach_to : (j : ℕ) → IsReaching b j (old k)
      → (m : ℕ) × (old m ≡ j) × IsReaching d m k × (zone_need b (zone_at b j) (zone_at b (old k)) ≡ zone_need d (zone_at d m) (zone_at d k))
  pub reach_from : (m : ℕ) → IsReaching d m k
      → IsReaching b (old m) (old k) × (zone_need d (zone_at d m) (zone_at d k) ≡ zone_need b (zone_at b (old m)) (zone_at b (old k)))

-- from a task whose fill changed to one that it reaches
abbrev pub Spreads : Board → (ℕ → Type 0) → ℕ → ℕ → Type 0
Spreads d changed m k = IsReaching d m k × changed m
