-- The ranges of the numbers of a pad that doesn't offend.
use Rattle.std.specs.Prelude.{◌≡◌, ℕ, ◌≤◌, false, List}
use Rattle.sexpr_text.specs.Items.{Item}
use Rattle.grid_num.specs.Length.{IsInRange}
use Rattle.board_language.specs.Pads.{pad_place, size_on_board, ratio_in}
use Rattle.board_language.specs.Offences.{is_bad_ratio}

-- it lies within 500 mm, is at most 100 mm wide and high, and its ratio is at most one half
pub record IsInRanges (bytes : List ℕ) (footprint pad : Item) : Type 0 where
  pub x : IsInRange (pad_place bytes footprint pad).x
  pub y : IsInRange (pad_place bytes footprint pad).y
  pub width : (size_on_board bytes pad).width ≤ 100000000
  pub height : (size_on_board bytes pad).height ≤ 100000000
  pub ratio : is_bad_ratio (ratio_in bytes pad) ≡ false
