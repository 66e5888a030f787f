-- The report of a filled board, line by line.
use Rattle.std.specs.Prelude.{ℕ, zero, suc, ◌+◌, List, [], ◌∷◌, ◌++◌, length}
use Rattle.std.specs.List.{flat_map}
use Rattle.std.specs.Fmt.{decimal}
use lib.Chars.{codes}
use Rattle.grid_num.specs.declared.Point.{Point}
use Rattle.grid_num.specs.Length.{IsInRange}
use Rattle.grid_num.specs.Written.{mm_of}
use Rattle.output_rules.specs.declared.report.TaskLine.{TaskLine}
use Rattle.output_rules.specs.declared.report.Copper.{Copper}
use Rattle.output_rules.specs.declared.report.Copper.TheVariants.{Pad, Track, Via, Part}
use Rattle.output_rules.specs.declared.report.NodeLine.{NodeLine}
use Rattle.output_rules.specs.declared.report.RatsnestLine.{RatsnestLine}

-- a word and a number behind it
abbrev pub numbered : List ℕ → ℕ → List ℕ
numbered word n = word ++ decimal n

-- ---- zones: `zone 1 line 7 F.Cu parts 1 polygons 1 area2 199978554154864`

-- the line of a task
abbrev pub task_text : TaskLine → List ℕ
task_text t =
    numbered (codes "zone ") t.zone
    ++ (numbered (codes " line ") t.line
    ++ (codes " "
    ++ (t.layer
    ++ (numbered (codes " parts ") t.parts ++ (numbered (codes " polygons ") t.polygons ++ (numbered (codes " area2 ") t.area2 ++ codes "\n"))))))

-- ---- nodes: `node 0 pad line 25 net 1`, `node 2 part zone 1 F.Cu 1 net 1`

-- what a node is, and where it stands
abbrev pub copper_text : Copper → List ℕ
copper_text (Pad line) = numbered (codes " pad line ") line
copper_text (Track line) = numbered (codes " track line ") line
copper_text (Via line) = numbered (codes " via line ") line
copper_text (Part zone layer part) = numbered (codes " part zone ") zone ++ (codes " " ++ (layer ++ numbered (codes " ") part))

-- the line of a node
abbrev pub node_text : ℕ → NodeLine → List ℕ
node_text number n = numbered (codes "node ") number ++ (copper_text n.copper ++ (numbered (codes " net ") n.net ++ codes "\n"))

-- nodes are numbered from k on
unfoldable pub nodes_text : ℕ → List NodeLine → List ℕ
nodes_text k [] = []
nodes_text k (n ∷ ns) = node_text k n ++ nodes_text (suc k) ns

-- ---- nets: `net 1 clusters 2`, `cluster 1`, `cluster 2`, `line 0.073222 0 5.398222 0 d2 28355625000000`

-- the clusters of a net, each as its nodes, and the lines of its ratsnest
pub record NetLines : Type 0 where
  pub net : ℕ
  pub clusters : List (List ℕ)
  pub lines : List RatsnestLine

-- a node of a cluster, behind a space
abbrev pub member_text : ℕ → List ℕ
member_text node = numbered (codes " ") node

-- the line of a cluster
abbrev pub cluster_text : List ℕ → List ℕ
cluster_text nodes = codes "cluster" ++ (flat_map member_text nodes ++ codes "\n")

-- a point in millimetres, each coordinate behind a space
abbrev pub point_text : Point → List ℕ
point_text p = codes " " ++ (mm_of p.x ++ (codes " " ++ mm_of p.y))

-- the line of a ratsnest line
abbrev pub line_text : RatsnestLine → List ℕ
line_text l = codes "line" ++ (point_text l.from ++ (point_text l.to ++ (numbered (codes " d2 ") l.square ++ codes "\n")))

-- the lines of a net: its clusters, and then its ratsnest lines
abbrev pub net_text : NetLines → List ℕ
net_text n =
    numbered (codes "net ") n.net
    ++ (numbered (codes " clusters ") (length n.clusters) ++ (codes "\n" ++ (flat_map cluster_text n.clusters ++ flat_map line_text n.lines)))

-- ---- the whole: zones, nodes, nets, and how many lines of ratsnests there are

-- what a report says: tasks, nodes and nets, each in its order
pub record Report : Type 0 where
  pub tasks : List TaskLine
  pub nodes : List NodeLine
  pub nets : List NetLines

-- how many ratsnest lines all nets have together
unfoldable pub unjoined : List NetLines → ℕ
unjoined [] = zero
unjoined (n ∷ ns) = length n.lines + unjoined ns

-- the last line
abbrev pub unjoined_text : ℕ → List ℕ
unjoined_text u = numbered (codes "unjoined ") u ++ codes "\n"

-- a report: tasks, nodes, nets, and how many lines are still to be joined
unfoldable pub report_text : Report → List ℕ
report_text r = flat_map task_text r.tasks ++ (nodes_text 0 r.nodes ++ (flat_map net_text r.nets ++ unjoined_text (unjoined r.nets)))

-- ---- what else is said

-- first of all, of a board that is filled again: how many tasks that was
abbrev pub refilled_text : ℕ → List ℕ
refilled_text n = numbered (codes "refilled ") n ++ codes "\n"

-- of a board that is made by rule: its items, its two tasks, and of these the polygons and twice the area together
abbrev pub summary_text : ℕ → ℕ → ℕ → ℕ → List ℕ
summary_text items polygons area2 unjoined_lines =
    numbered (codes "items ") items
    ++ (codes " tasks 2"
    ++ (numbered (codes " polygons ") polygons ++ (numbered (codes " area2 ") area2 ++ (numbered (codes " unjoined ") unjoined_lines ++ codes "\n"))))

-- ---- ranges

-- both ends lie within 500 mm
abbrev pub IsLineInRange : RatsnestLine → Type 0
IsLineInRange l = (IsInRange l.from.x × IsInRange l.from.y) × (IsInRange l.to.x × IsInRange l.to.y)
