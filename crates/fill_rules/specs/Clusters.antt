-- Which nodes touch, the clusters that they make, and where ratsnest lines may end.
use Rattle.std.specs.Prelude.{◌≡◌, ℕ, ◌+◌, ◌^◌, ◌<◌, ◌≤◌, Bool, true, false, ◌||◌, ◌&&◌, ◌==◌, int_lt, cond, List, [], ◌∷◌, map, flat_map, length, get_or, zip, Option, Some, None, slice_get, ℤ, pos, ◌*ℤ◌}
use Rattle.plane.specs.Plane.{Bounds, times}
use Rattle.grid_num.specs.declared.Point.{Point}
use Rattle.plane.specs.Corners.{corners_of}
use Rattle.touching.specs.Core.{area, Touches}
use Rattle.copper_shape.specs.Shapes.{Copper}
use Rattle.classes.specs.Classes.{IsOneOf, Reaches, IsLeastOf}
use Rattle.islands.specs.Parts.{IsUpTo}
use Rattle.board_language.specs.Board.{Board}
use Rattle.ratsnest.specs.declared.Anchor.{Anchor}
use Rattle.board_language.specs.Copper.{has_layer}
use Rattle.fill_rules.specs.Tasks.{Task, task_zone}
use Rattle.fill_rules.specs.Needs.{track_copper, via_copper}
use Rattle.fill_rules.specs.Made.{Made}
use Rattle.fill_rules.specs.Nodes.{Node, pad, track, via, part, made_of, nodes_of}

-- ---- what a node is made of

-- a list of what is there, and nothing where nothing is
abbrev pub option_list : {X Y : Type 0} → (X → List Y) → Option X → List Y
option_list f None = []
option_list f (Some x) = f x

-- the pieces of a part: those with its first piece as their label
abbrev pub labelled : ℕ → List Bounds → List ℕ → List Bounds
labelled first [] labels = []
labelled first (o ∷ os) [] = []
labelled first (o ∷ os) (label ∷ labels) = cond (label == first) (o ∷ labelled first os labels) (labelled first os labels)

-- the pieces of the part of the task's fill that begins with this piece
unfoldable pub part_pieces : Board → List Made → Task → ℕ → List Bounds
part_pieces b fills t first = labelled first (made_of b fills t).pieces (made_of b fills t).parts

-- an octagon of units, as copper in halves
abbrev pub octagon_copper : Bounds → Copper
octagon_copper o = record { core = area (times 4 o); radius = 0 }

-- a pad, a track and a via are one shape, a part is each of its pieces
unfoldable pub shapes_of : Board → List Made → Node → List Copper
shapes_of b fills (pad k) = option_list (λ p. p.shape ∷ []) (slice_get b.pads k)
shapes_of b fills (track k) = option_list (λ t. track_copper t ∷ []) (slice_get b.tracks k)
shapes_of b fills (via k) = option_list (λ v. via_copper v ∷ []) (slice_get b.vias k)
shapes_of b fills (part t first) = map octagon_copper (part_pieces b fills t first)

-- a number of what is there, and 0 where nothing is
abbrev pub option_or_zero : {X : Type 0} → (X → ℕ) → Option X → ℕ
option_or_zero f None = 0
option_or_zero f (Some x) = f x

-- the net of a node
unfoldable pub node_net : Board → Node → ℕ
node_net b (pad k) = option_or_zero (λ p. p.net) (slice_get b.pads k)
node_net b (track k) = option_or_zero (λ t. t.net) (slice_get b.tracks k)
node_net b (via k) = option_or_zero (λ v. v.net) (slice_get b.vias k)
node_net b (part t first) = (task_zone b t).net

-- the set of layers that a node has copper on; the lowest bit is the first layer
unfoldable pub node_layers : Board → Node → ℕ
node_layers b (pad k) = option_or_zero (λ p. p.layers) (slice_get b.pads k)
node_layers b (track k) = option_or_zero (λ t. 2 ^ t.layer) (slice_get b.tracks k)
node_layers b (via k) = option_or_zero (λ v. v.layers) (slice_get b.vias k)
node_layers b (part t first) = 2 ^ t.layer

-- ---- touching and clusters

-- two shapes touch where some points of their cores are no farther apart than both radii
unfoldable pub AreTouching : Copper → Copper → Type 0
AreTouching c d = Touches (c.radius + d.radius) c.core d.core

-- two nodes of one net are joined where they share a layer and some shape of the one touches some shape of the other
pub record AreNodesJoined (b : Board) (fills : List Made) (m n : Node) : Type 0 where
  pub net : node_net b m ≡ node_net b n
  pub layer : (l : ℕ) × (has_layer (node_layers b m) l ≡ true) × (has_layer (node_layers b n) l ≡ true)
  pub touch : (c : Copper) × (d : Copper) × IsOneOf c (shapes_of b fills m) × IsOneOf d (shapes_of b fills n) × AreTouching c d

-- nodes by their numbers
pub record AreJoinedAt (b : Board) (fills : List Made) (i j : ℕ) : Type 0 where
  pub first : Node
  pub second : Node
  pub at_first : slice_get (nodes_of b fills) i ≡ Some first
  pub at_second : slice_get (nodes_of b fills) j ≡ Some second
  pub joined : AreNodesJoined b fills first second

-- a cluster is what can be reached from touching to touching
unfoldable pub IsOneCluster : Board → List Made → ℕ → ℕ → Type 0
IsOneCluster b fills i j = Reaches (AreJoinedAt b fills) i j

-- each node is labelled with the least number of its cluster
pub record AreClusters (b : Board) (fills : List Made) (labels : List ℕ) : Type 0 where
  pub each : length labels ≡ length (nodes_of b fills)
  pub least : (i : ℕ) → i < length labels → IsLeastOf (AreJoinedAt b fills) IsUpTo i (get_or labels i 0)

-- ---- where ratsnest lines may end, in nanometres

-- least y, then least x
abbrev pub lesser : Point → Point → Point
lesser p q = cond (int_lt q.y p.y || (not_lt p.y q.y && int_lt q.x p.x)) q p
  where
    not_lt : ℤ → ℤ → Bool
    not_lt a c = cond (int_lt a c) false true

-- the least of these points
abbrev pub least_point : Point → List Point → Point
least_point p [] = p
least_point p (q ∷ qs) = lesser p (least_point q qs)

-- units as nanometres
abbrev pub in_nm : Point → Point
in_nm p = record { x = pos 2 *ℤ p.x; y = pos 2 *ℤ p.y }

-- the least of some corners, in nanometres; nothing where there are none
abbrev pub least_of : List Point → List Point
least_of [] = []
least_of (p ∷ ps) = in_nm (least_point p ps) ∷ []

-- a pad's and a via's centre, both ends of a track, and the least corner among the octagons of a part
unfoldable pub node_ends : Board → List Made → Node → List Point
node_ends b fills (pad k) = option_list (λ p. p.at ∷ []) (slice_get b.pads k)
node_ends b fills (track k) = option_list (λ t. t.from ∷ t.to ∷ []) (slice_get b.tracks k)
node_ends b fills (via k) = option_list (λ v. v.at ∷ []) (slice_get b.vias k)
node_ends b fills (part t first) = least_of (flat_map corners_of (part_pieces b fills t first))

-- a node's anchors, each with the cluster's label
abbrev pub node_anchors : Board → List Made → ℕ → (Node × ℕ) → List Anchor
node_anchors b fills net n = cond (node_net b n.0 == net) (map (λ p. record { at = p; cluster = n.1 }) (node_ends b fills n.0)) []

-- the anchors of a net, in the order of its nodes
unfoldable pub net_anchors : Board → List Made → List ℕ → ℕ → List Anchor
net_anchors b fills labels net = flat_map (node_anchors b fills net) (zip (nodes_of b fills) labels)
