-- What a footprint says for its pads.
use Rattle.std.specs.Prelude.{◌≡◌, ℕ, codes, Option}
use Rattle.grid_num.specs.declared.Point.{Point}
use Rattle.grid_num.specs.Length.{IsInRange}
use Rattle.sexpr_text.specs.Parts.{Part}
use Rattle.board_text.specs.Items.{point_in}
use Rattle.board_language.specs.declared.Join.{Join}
use Rattle.board_language.specs.Pads.{own_join, own_length, turns_in}

-- these are the footprint's place and quarter turns, and how it joins pads that don't say so themselves
pub record IsGiven (footprint : Part) (at : Point) (turns : ℕ) (clearance : Option ℕ) (join : Option Join) (gap bridge : Option ℕ) : Type 0 where
  pub at_is : at ≡ point_in footprint.bytes (codes "at") footprint.item
  pub x : IsInRange at.x
  pub y : IsInRange at.y
  pub turns_are : turns ≡ turns_in footprint.bytes footprint.item
  pub clearance_is : clearance ≡ own_length footprint.bytes (codes "clearance") footprint.item
  pub join_is : join ≡ own_join footprint.bytes footprint.item
  pub gap_is : gap ≡ own_length footprint.bytes (codes "thermal_gap") footprint.item
  pub bridge_is : bridge ≡ own_length footprint.bytes (codes "thermal_width") footprint.item
