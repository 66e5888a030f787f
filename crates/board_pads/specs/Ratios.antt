-- The ratio of a rounded rectangle, as far as a board may have it.
use Rattle.std.specs.Prelude.{ℕ, cond, ℤ, Option, None, Some}
use Rattle.board_text.specs.Items.{size_of}
use Rattle.board_language.specs.Offences.{is_bad_ratio}

-- the ratio; none where it is below 0 or above one half
abbrev pub kept_ratio : ℤ → Option ℕ
kept_ratio q = cond (is_bad_ratio q) None (Some (size_of q))
