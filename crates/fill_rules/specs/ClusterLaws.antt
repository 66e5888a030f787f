-- The laws of clusters.
use Rattle.std.specs.Prelude.{◌≡◌, ℕ, ◌<◌, ◌≤◌, List, length, get_or}
use Rattle.board_language.specs.Board.{Board}
use Rattle.copper_shape.specs.Shapes.{Copper}
use Rattle.classes.specs.Classes.{IsOneOf}
use Rattle.fill_rules.specs.Made.{Made}
use Rattle.fill_rules.specs.Nodes.{Node, nodes_of}
use Rattle.fill_rules.specs.Clusters.{node_net, AreTouching, AreNodesJoined, AreJoinedAt, IsOneCluster, AreClusters}

-- a node is copper of a net
abbrev pub NodeLaw : Type 0
NodeLaw = (b : Board) (fills : List Made) (n : Node) → IsOneOf n (nodes_of b fills) → 1 ≤ node_net b n

-- touching and joining have no order
abbrev pub TouchLaw : Type 0
TouchLaw = (c d : Copper) → AreTouching c d → AreTouching d c

-- joining goes both ways
abbrev pub JoinLaw : Type 0
JoinLaw = (b : Board) (fills : List Made) (m n : Node) → AreNodesJoined b fills m n → AreNodesJoined b fills n m

-- so clusters are classes: each node is in one, whichever of its nodes one starts from
pub record ClusterLaw : Type 0 where
  pub itself : (b : Board) (fills : List Made) (i : ℕ) → IsOneCluster b fills i i
  pub joined : (b : Board) (fills : List Made) (i j : ℕ) → AreJoinedAt b fills i j → IsOneCluster b fills i j
  pub back : (b : Board) (fills : List Made) (i j : ℕ) → IsOneCluster b fills i j → IsOneCluster b fills j i
  pub on : (b : Board) (fills : List Made) (i j k : ℕ) → IsOneCluster b fills i j → IsOneCluster b fills j k → IsOneCluster b fills i k

-- at most one list of labels fits a board and its fills
abbrev pub OneLabellingLaw : Type 0
OneLabellingLaw = (b : Board) (fills : List Made) (labels others : List ℕ) → AreClusters b fills labels → AreClusters b fills others → labels ≡ others

-- nodes have one label exactly where they are in one cluster
pub record LabelLaw : Type 0 where
  pub same : (b : Board) (fills : List Made) (labels : List ℕ) (i j : ℕ) → AreClusters b fills labels → i < length labels → j < length labels → IsOneCluster b fills i j
      → get_or labels i 0 ≡ get_or labels j 0
  pub one : (b : Board) (fills : List Made) (labels : List ℕ) (i j : ℕ) → AreClusters b fills labels → i < length labels → j < length labels → get_or labels i 0 ≡ get_or labels j 0
      → IsOneCluster b fills i j
