-- What is reported of a board with its fills: which lines the report has.
use Rattle.std.specs.Prelude.{◌≡◌, ℕ, suc, nat_lt, cond, ◌==◌, List, [], ◌∷◌, map, filter, length, count_by, slice_get}
use Rattle.board_language.specs.declared.board.Track.{Track}
use Rattle.board_language.specs.declared.board.Via.{Via}
use Rattle.board_language.specs.declared.board.Pad.{Pad}
use Rattle.board_language.specs.Board.{Board}
use Rattle.board_text.specs.Items.{size_of}
use Rattle.ratsnest.specs.declared.Anchor.{Anchor}
use Rattle.ratsnest.specs.declared.Pair.{Pair}
use Rattle.ratsnest.specs.Ratsnest.{anchor, dist_sq, IsTree}
use Rattle.fill_rules.specs.Tasks.{Task, tasks_from, task_zone}
use Rattle.fill_rules.specs.Made.{Made}
use Rattle.fill_rules.specs.Nodes.{Node, pad, track, via, part, made_of, passing_places, firsts_from, nodes_of}
use Rattle.fill_rules.specs.Clusters.{node_net, option_or_zero, AreClusters, net_anchors}
use Rattle.output_rules.specs.declared.report.TaskLine.{TaskLine}
use Rattle.output_rules.specs.declared.report.Copper.{Copper}
use Rattle.output_rules.specs.declared.report.Copper.TheVariants as copper
use Rattle.output_rules.specs.declared.report.NodeLine.{NodeLine}
use Rattle.output_rules.specs.declared.report.RatsnestLine.{RatsnestLine}
use Rattle.rings.specs.Rings.{Traced}
use Rattle.output_rules.specs.Output.{traced_of, layer_name}
use Rattle.output_rules.specs.Report.{NetLines, Report}

-- ---- zones: in file order, and then by layer

-- the pieces that begin a part
abbrev pub firsts_of : Board → List Made → Task → List ℕ
firsts_of b fills t = firsts_from 0 (made_of b fills t).parts

-- what is said of a task; zones are counted from 1
abbrev pub task_line : Board → List Made → List Traced → Task → TaskLine
task_line b fills traced t =
    record {
      zone = suc t.zone;
      line = (task_zone b t).line;
      layer = layer_name b t.layer;
      parts = length (firsts_of b fills t);
      polygons = length (traced_of b traced t).rings;
      area2 = (traced_of b traced t).area2;
    }

-- all tasks by the file order of their zones, and by layer
abbrev pub task_lines : Board → List Made → List Traced → List TaskLine
task_lines b fills traced = map (task_line b fills traced) (tasks_from (length b.layers) 0 b.zones)

-- ---- nodes

-- a part's number within its fill, from 1: one more than the parts that begin before it
abbrev pub part_number : Board → List Made → Task → ℕ → ℕ
part_number b fills t first = suc (count_by (λ k. nat_lt k first) (firsts_of b fills t))

-- what is said of a node's copper: its line in the file, or its zone, layer and part
abbrev pub copper_of : Board → List Made → Node → Copper
copper_of b fills (pad k) = copper.Pad (option_or_zero (λ (p : Pad). p.line) (slice_get b.pads k))
copper_of b fills (track k) = copper.Track (option_or_zero (λ (t : Track). t.line) (slice_get b.tracks k))
copper_of b fills (via k) = copper.Via (option_or_zero (λ (v : Via). v.line) (slice_get b.vias k))
copper_of b fills (part t first) = copper.Part (suc t.zone) (layer_name b t.layer) (part_number b fills t first)

-- what is said of a node
abbrev pub node_line : Board → List Made → Node → NodeLine
node_line b fills n = record { copper = copper_of b fills n; net = node_net b n }

-- ---- nets

-- the number stands once, among the others by its size
abbrev pub with_number : ℕ → List ℕ → List ℕ
with_number n [] = n ∷ []
with_number n (m ∷ ms) = cond (nat_lt n m) (n ∷ m ∷ ms) (cond (n == m) (m ∷ ms) (m ∷ with_number n ms))

-- the numbers upward, each once
abbrev pub numbers_in_order : List ℕ → List ℕ
numbers_in_order [] = []
numbers_in_order (n ∷ ns) = with_number n (numbers_in_order ns)

-- the nets that have nodes, each once, in the order of their numbers
unfoldable pub nets_of : Board → List Made → List ℕ
nets_of b fills = numbers_in_order (map (node_net b) (nodes_of b fills))

-- ---- clusters: a cluster is named by its least node, which is its label

-- the net of the node of number k
abbrev pub net_at : Board → List Made → ℕ → ℕ
net_at b fills k = option_or_zero (node_net b) (slice_get (nodes_of b fills) k)

-- the labels of the clusters of a net, upward
abbrev pub labels_of : Board → List Made → List ℕ → ℕ → List ℕ
labels_of b fills labels net = filter (λ k. net_at b fills k == net) (firsts_from 0 labels)

-- the nodes with this label, upward
abbrev pub members_of : List ℕ → ℕ → List ℕ
members_of labels label = passing_places (λ other. other == label) 0 labels

-- ---- lines of the ratsnest

-- the line between two anchors, with the square of its length
abbrev pub line_of_pair : List Anchor → Pair → RatsnestLine
line_of_pair anchors e = record { from = (anchor anchors e.first).at; to = (anchor anchors e.second).at; square = size_of (dist_sq anchors e) }

-- what is said of a net: its clusters, and the lines of its tree in joining order
abbrev pub net_lines : Board → List Made → List ℕ → ℕ → List Pair → NetLines
net_lines b fills labels net pairs =
    record {
      net = net;
      clusters = map (members_of labels) (labels_of b fills labels net);
      lines = map (line_of_pair (net_anchors b fills labels net)) pairs;
    }

-- each net has its ratsnest, in joining order
abbrev pub AreNetLines : Board → List Made → List ℕ → List ℕ → List NetLines → Type 0
AreNetLines b fills labels [] ns = ns ≡ []
AreNetLines b fills labels (net ∷ nets) ns =
    (pairs : List Pair) × (more : List NetLines) × IsTree (net_anchors b fills labels net) pairs × AreNetLines b fills labels nets more × (ns ≡ net_lines b fills labels net pairs ∷ more)

-- ---- the whole

-- this is to be reported of the board with these fills, and with these outlines of them
pub record IsReport (b : Board) (fills : List Made) (traced : List Traced) (r : Report) : Type 0 where
  pub labels : List ℕ
  pub are_clusters : AreClusters b fills labels
  pub tasks : r.tasks ≡ task_lines b fills traced
  pub nodes : r.nodes ≡ map (node_line b fills) (nodes_of b fills)
  pub nets : AreNetLines b fills labels (nets_of b fills) r.nets
