-- The nodes of the code as those of the rules, and what a labelling is.
use Rattle.std.specs.Prelude.{◌≡◌, List, map}
use Rattle.grid_num.specs.Length.{IsInRange}
use Rattle.ratsnest.specs.declared.Anchor.{Anchor}
use Rattle.board_language.specs.Board.{Board}
use Rattle.fill_rules.specs.Tasks.{task_at}
use Rattle.fill_rules.specs.Made.{Made}
use Rattle.fill_rules.specs.Nodes as rules
use Rattle.fill_rules.specs.Nodes.{nodes_of}
use Rattle.fill_rules.specs.Clusters.{node_net, AreClusters}
use Rattle.clusters.specs.declared.Node.{Node}
use Rattle.clusters.specs.declared.Node.TheVariants.{Pad, Track, Via, Part}
use Rattle.clusters.specs.declared.Labelling.{Labelling}

-- a node as the rules see it: a fill is that of the task of its rank
abbrev pub node_of : Board → Node → rules.Node
node_of b (Pad k) = rules.pad k
node_of b (Track k) = rules.track k
node_of b (Via k) = rules.via k
node_of b (Part fill first) = rules.part (task_at b fill) first

-- the nodes of the board with these fills, the net of each, and for each the least number of its cluster
pub record IsLabelling (b : Board) (fills : List Made) (l : Labelling) : Type 0 where
  pub nodes : map (node_of b) l.nodes.items ≡ nodes_of b fills
  pub nets : l.nets.items ≡ map (node_net b) (nodes_of b fills)
  pub clusters : AreClusters b fills l.label.items

-- the end of a ratsnest line lies within 500 mm
abbrev pub IsEndInRange : Anchor → Type 0
IsEndInRange a = IsInRange a.at.x × IsInRange a.at.y
