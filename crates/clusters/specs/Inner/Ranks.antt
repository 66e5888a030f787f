-- A table of ranks, with room for 32 layers of each zone.
use Rattle.std.specs.Prelude.{◌≡◌, ℕ, ◌+◌, ◌*◌, ◌<◌, List, length, get_or}
use Rattle.board_language.specs.Board.{Board}
use Rattle.fill_rules.specs.Tasks.{ranked}
use Rattle.fill_rules.specs.Nodes.{rank_in}

-- at the place of each zone and layer stands the rank of their task; the number of tasks where they have none
pub record IsRankTable (b : Board) (table : List ℕ) : Type 0 where
  pub many : length table ≡ length b.zones * 32
  pub at : (z l : ℕ) → z < length b.zones → l < 32 → get_or table (z * 32 + l) 0 ≡ rank_in (record { zone = z; layer = l }) (ranked b)
