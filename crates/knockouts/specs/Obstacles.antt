-- What copper of a task keeps away from, in one list.
use Rattle.std.specs.Prelude.{ℕ, ◌≤◌, ◌^◌, ◌++◌, List, flat_map}
use Rattle.octagon.specs.Room.{IsAround}
use Rattle.board_language.specs.declared.board.Pad.{Pad}
use Rattle.board_language.specs.Board.{Board}
use Rattle.board_language.specs.Copper.{pad_hulls}
use Rattle.fill_rules.specs.Tasks.{Settings, Task, settings_of, task_zone}
use Rattle.fill_rules.specs.Needs.{Need, at_need, keep_when, zone_need, item_needs}
use Rattle.fill_rules.specs.Reliefs.{gap_of, is_thermal, thermal_needs}
use Rattle.fill_rules.specs.Made.{Made}

-- an obstacle, as the rules of the fill see it
abbrev pub need_of : Rattle.knockouts.specs.declared.obstacles.Need.Need → Need
need_of n = record { oct = n.oct; need = n.need }

-- the gap round a pad that is joined by spokes, none round another
abbrev pub gap_needs : Settings → ℕ → Pad → List Need
gap_needs z l p = keep_when (is_thermal z l p) (at_need (gap_of z p) (pad_hulls p))

-- the pieces of a fill above, at the need between the two zones
abbrev pub fill_needs : Board → Settings → Made → List Need
fill_needs b z f = at_need (zone_need b (settings_of (task_zone b f.task)) z) f.pieces

-- what bars copper of the task: the items of other nets with the board's edge, and the fills above
unfoldable pub bars_of : Board → Task → List Made → List Need
bars_of b t above = item_needs b (settings_of (task_zone b t)) t.layer ++ flat_map (fill_needs b (settings_of (task_zone b t))) above

-- what bars it, and last the gaps round the pads that are joined by spokes
unfoldable pub needs_of : Board → Task → List Made → List Need
needs_of b t above = bars_of b t above ++ thermal_needs b (settings_of (task_zone b t)) t.layer

-- an octagon within 2^31 units of 0, to be kept away from by 1 unit to 2^31
pub record IsNeedInRange (n : Need) : Type 0 where
  pub least : 1 ≤ n.need
  pub most : n.need ≤ 2 ^ 31
  pub room : IsAround (2 ^ 31) n.oct
