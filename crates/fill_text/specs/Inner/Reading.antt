-- The board whose fills are read, and the lists of its zones.
use Rattle.std.specs.Prelude.{◌≡◌, ℕ, List, map, get_or}
use Rattle.grid_num.specs.declared.Point.{Point}
use Rattle.sexpr_text.specs.Items.{Item}
use Rattle.sexpr_text.specs.Parts.{Part, part_of}
use Rattle.board_text.specs.Items.{context_of}
use Rattle.board_language.specs.declared.board.Rules.{Rules}
use Rattle.board_language.specs.Board.{Board}
use Rattle.board_language.specs.Reading.{board_of}
use Rattle.fill_rules.specs.Tasks.{Task}
use Rattle.fill_text.specs.FillLists.{zones_in, no_list, bad_of_zone, rings_of_task}

-- the board is that which the root of its text spells
abbrev pub IsBoardAt : Part → Board → Type 0
IsBoardAt root b = (rules : Rules) × (b ≡ board_of root.bytes root.item rules)

-- the lists are those of its zones
abbrev pub AreZonesAt : Part → List Part → Type 0
AreZonesAt root zones = zones ≡ map (part_of root.bytes) (zones_in root.bytes root.item)

-- the fills of the zone of this number that can't be read
abbrev pub bad_at : Part → ℕ → List Item
bad_at root k = bad_of_zone (context_of root.bytes root.item) (get_or (zones_in root.bytes root.item) k no_list)

-- the rings of a task
abbrev pub rings_at : Part → Board → Task → List (List Point)
rings_at root b t = rings_of_task root.bytes root.item b t
