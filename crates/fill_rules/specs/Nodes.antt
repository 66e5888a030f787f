-- The pieces of copper that the report numbers: pads, tracks, vias and parts of fills, each of a net.
use Rattle.std.specs.Prelude.{ℕ, zero, suc, Bool, true, false, not, cond, ◌&&◌, ◌==◌, List, [], ◌∷◌, ◌++◌, map, flat_map, length, get_or}
use Rattle.board_language.specs.declared.PadKind.{PadKind}
use Rattle.board_language.specs.declared.PadKind.TheVariants.{Plated, Surface, Hole}
use Rattle.board_language.specs.declared.board.Track.{Track}
use Rattle.board_language.specs.declared.board.Via.{Via}
use Rattle.board_language.specs.declared.board.Pad.{Pad}
use Rattle.board_language.specs.Board.{Board}
use Rattle.fill_rules.specs.Tasks.{Task, tasks_from, ranked, task_zone}
use Rattle.fill_rules.specs.Made.{Made, no_fill}

-- a piece of copper of a net
pub data Node : Type 0 where
  -- by its place among the board's pads, tracks or vias
  pad : ℕ → Node
  track : ℕ → Node
  via : ℕ → Node
  -- the part of this task's fill that begins with this piece
  part : Task → ℕ → Node

-- ---- which there are, in their order

-- the places from k on at which the item passes
abbrev pub passing_places : {X : Type 0} → (X → Bool) → ℕ → List X → List ℕ
passing_places passes k [] = []
passing_places passes k (x ∷ xs) = cond (passes x) (k ∷ passing_places passes (suc k) xs) (passing_places passes (suc k) xs)

-- net 0 is no net
abbrev pub has_net : ℕ → Bool
has_net net = not (net == 0)

-- pads of each kind are copper but bare holes
abbrev pub is_copper_kind : PadKind → Bool
is_copper_kind Hole = false
is_copper_kind Plated = true
is_copper_kind Surface = true

-- a bare hole is no copper
abbrev pub is_pad_node : Pad → Bool
is_pad_node p = has_net p.net && is_copper_kind p.kind

-- the pieces that begin a part: each is the first of its own
abbrev pub firsts_from : ℕ → List ℕ → List ℕ
firsts_from k [] = []
firsts_from k (label ∷ labels) = cond (label == k) (k ∷ firsts_from (suc k) labels) (firsts_from (suc k) labels)

-- the place of a task in rank order; the number of tasks where it is none
abbrev pub rank_in : Task → List Task → ℕ
rank_in t [] = zero
rank_in t (u ∷ us) = cond ((t.zone == u.zone) && (t.layer == u.layer)) zero (suc (rank_in t us))

-- the fills stand in rank order
abbrev pub made_of : Board → List Made → Task → Made
made_of b fills t = get_or fills (rank_in t (ranked b)) no_fill

-- the parts of a task's fill, where its zone has a net
abbrev pub part_nodes : Board → List Made → Task → List Node
part_nodes b fills t = cond (has_net (task_zone b t).net) (map (part t) (firsts_from 0 (made_of b fills t).parts)) []

-- all nodes: pads, tracks and vias in file order, then parts by the file order of their zones, by layer, and by their
-- first pieces; copper without a net is no node
unfoldable pub nodes_of : Board → List Made → List Node
nodes_of b fills =
    map pad (passing_places is_pad_node 0 b.pads)
    ++ (map track (passing_places (λ (t : Track). has_net t.net) 0 b.tracks)
    ++ (map via (passing_places (λ (v : Via). has_net v.net) 0 b.vias)
    ++ flat_map (part_nodes b fills) (tasks_from (length b.layers) 0 b.zones)))
