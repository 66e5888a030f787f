-- What is true of every board that a run fills: of what is written, its cover and its clearances; of what is reported, its
-- clusters and its ratsnests.
use Rattle.std.specs.Prelude.{◌≡◌, ◌↔◌, ℕ, suc, ◌+◌, ◌*◌, ◌<◌, true, List, map, length, get_or}
use Rattle.plane.specs.Plane.{PlanePoint}
use Rattle.plane.specs.Covering.{Covers, edges_of_all}
use Rattle.copper_shape.specs.Shapes.{Copper}
use Rattle.copper_shape.specs.declared.edge.Edge.{Edge}
use Rattle.touching.specs.Core.{InCore, InCopper, OnLine}
use Rattle.hulls.specs.Hulls.{in_units}
use Rattle.hulls.specs.Laws.{spot, nm_in_units, InChordDisc}
use Rattle.classes.specs.Classes.{IsOneOf}
use Rattle.board_language.specs.Board.{Board}
use Rattle.fill_rules.specs.Tasks.{ranked, zone_at, layer_at}
use Rattle.fill_rules.specs.Needs.{is_foreign}
use Rattle.fill_rules.specs.InWords.{IsBarred}
use Rattle.fill_rules.specs.Clearance.{IsAway, item_clearance, zone_clearance}
use Rattle.fill_rules.specs.Fill.{fill_of}
use Rattle.fill_rules.specs.Made.{Made}
use Rattle.fill_rules.specs.Nodes.{nodes_of}
use Rattle.fill_rules.specs.Clusters.{IsOneCluster, AreClusters, net_anchors}
use Rattle.ratsnest.specs.declared.Pair.{Pair}
use Rattle.ratsnest.specs.Ratsnest.{IsTree, HasClusters, IsLeastTree}
use Rattle.rings.specs.Rings.{Traced, not_traced}
use Rattle.output_rules.specs.Report.{Report, NetLines}
use Rattle.output_rules.specs.Reported.{labels_of, members_of, line_of_pair}
use Rattle.board_gen.specs.Generated.{generated}
use Rattle.desk.specs.Seen.{Seen, content}
use Rattle.run_rules.specs.declared.words.Command.{Command}
use Rattle.run_rules.specs.declared.words.Command.TheVariants as commands
use Rattle.run_rules.specs.Words.{GivenWord, IsCommand, default_rules}
use Rattle.run_rules.specs.Filled.{Filled, IsFilled}

-- ---- copper

-- The rings of each task, in rank order and each list taken as one, cover exactly the points that the rules of the fill put
-- copper on, by the even-odd rule and at every scale; rings are in nanometres.
abbrev pub IsFillCovered : Board → List Traced → Type 0
IsFillCovered b traced =
    (i : ℕ) (p : PlanePoint) → i < length (ranked b)
    → Covers (edges_of_all (get_or traced i not_traced).rings) p ↔ fill_of b i (nm_in_units p)

-- The place, in nanometres, is covered by the rings of the task of rank i.
abbrev pub IsDrawn : Board → List Traced → ℕ → PlanePoint → Type 0
IsDrawn b traced i p = (i < length (ranked b)) × Covers (edges_of_all (get_or traced i not_traced).rings) p

-- What the rings cover keeps the Euclidean clearances, in nanometres as the board says them, before anything is rounded:
--   from the core of foreign copper, of a bare hole, and of a pad that isn't to be joined, and its radius more;
--   so from each point of that copper; from straight board edges, and from the disc on an arc's chord;
--   and the copper of two foreign zones on one layer, whichever ranks higher.
pub record KeepsClearances (b : Board) (traced : List Traced) : Type 0 where
  pub core : (i own : ℕ) (c : Copper) (p q : PlanePoint) → IsDrawn b traced i p
      → IsBarred b (zone_at b i) (layer_at b i) own c → InCore c.core q
      → IsAway (2 * item_clearance b (zone_at b i) own + c.radius) (nm_in_units p) (in_units q)
  pub copper : (i own : ℕ) (c : Copper) (p q : PlanePoint) → IsDrawn b traced i p
      → IsBarred b (zone_at b i) (layer_at b i) own c → InCopper c.core c.radius q
      → IsAway (2 * item_clearance b (zone_at b i) own) (nm_in_units p) (in_units q)
  pub edge : (i : ℕ) (e : Edge) (p q : PlanePoint) → IsDrawn b traced i p
      → IsOneOf e b.edges → (e.bow ≡ true → ⊥) → OnLine (spot e.from) (spot e.to) q
      → IsAway (2 * b.rules.edge) (nm_in_units p) (nm_in_units q)
  pub arc : (i : ℕ) (e : Edge) (p q : PlanePoint) → IsDrawn b traced i p
      → IsOneOf e b.edges → e.bow ≡ true → InChordDisc e.from e.to q
      → IsAway (2 * b.rules.edge) (nm_in_units p) (nm_in_units q)
  pub zones : (i j : ℕ) (p q : PlanePoint) → IsDrawn b traced i p → IsDrawn b traced j q
      → (i ≡ j → ⊥) → layer_at b i ≡ layer_at b j → is_foreign (zone_at b i).net (zone_at b j).net ≡ true
      → IsAway (2 * zone_clearance b (zone_at b i) (zone_at b j)) (nm_in_units p) (nm_in_units q)

-- ---- clusters and ratsnests

-- two nodes, by their numbers, stand in one line of clusters
pub record StandTogether (r : Report) (i j : ℕ) : Type 0 where
  pub net : NetLines
  pub reported : IsOneOf net r.nets
  pub cluster : List ℕ
  pub listed : IsOneOf cluster net.clusters
  pub first : IsOneOf i cluster
  pub second : IsOneOf j cluster

-- The lines of a net are its ratsnest, in joining order. It is a least tree: it joins all clusters of the net's anchors, with one
-- line fewer than there are clusters, and no list of lines that joins them all has fewer lines longer than some length. The clusters
-- that are reported of the net are these clusters, each once: so a net with n reported clusters has n - 1 lines.
pub record HasLeastTree (b : Board) (fills : List Made) (net : NetLines) : Type 0 where
  pub labels : List ℕ
  pub are_clusters : AreClusters b fills labels
  pub pairs : List Pair
  pub joining_order : IsTree (net_anchors b fills labels net.net) pairs
  pub least : IsLeastTree (net_anchors b fills labels net.net) pairs
  pub lines : net.lines ≡ map (line_of_pair (net_anchors b fills labels net.net)) pairs
  -- each line of a cluster is that of a label, and the labels are the clusters of the anchors, each once
  pub clusters : net.clusters ≡ map (members_of labels) (labels_of b fills labels net.net)
  pub named : HasClusters (net_anchors b fills labels net.net) (labels_of b fills labels net.net)
  -- the report has one line of the ratsnest fewer than lines of clusters, of which there is at least one
  pub count : suc (length net.lines) ≡ length net.clusters

-- ---- the headline

-- What is true of a filled board: its outlines cover exactly the copper that the rules want, which keeps the clearances; its
-- clusters are the classes of touching copper; and the lines of each net are a least tree.
pub record IsAsPromised (f : Filled) : Type 0 where
  pub cover : IsFillCovered f.board f.traced
  pub clear : KeepsClearances f.board f.traced
  pub clusters : (i j : ℕ) → i < length (nodes_of f.board f.fills) → j < length (nodes_of f.board f.fills)
      → StandTogether f.report i j ↔ IsOneCluster f.board f.fills i j
  pub trees : (net : NetLines) → IsOneOf net f.report.nets → HasLeastTree f.board f.fills net

-- the board that a command fills: that of IN, or the one that it makes
abbrev pub IsFilledBy : Command → Seen → Filled → Type 0
IsFilledBy (commands.Fill input output threads rules) s f = IsFilled (content input s) rules f
IsFilledBy (commands.Refill input edits output threads rules) s f = ⊥
IsFilledBy (commands.Report input rules) s f = IsFilled (content input s) rules f
IsFilledBy (commands.Generate seed size output) s f = IsFilled (generated seed size) default_rules f

-- Whatever the words and the contents: of the board that is filled, written and reported all of that is true.
abbrev pub HeadlineLaw : Type 0
HeadlineLaw =
    (words : List GivenWord) (command : Command) (s : Seen) (f : Filled) → IsCommand words command → IsFilledBy command s f → IsAsPromised f
