-- The outlines of a board's fills.
use Rattle.std.specs.Prelude.{◌≡◌, ℕ, ◌<◌, List, length, get_or}
use Rattle.rings.specs.Rings.{Traced, not_traced}
use Rattle.rings.specs.Outlines.{AreOutlines}
use Rattle.fill_rules.specs.Made.{Made, no_fill}

-- the outlines of each fill, in their order
pub record AreTracedOf (all : List Made) (traced : List Traced) : Type 0 where
  pub count : length traced ≡ length all
  pub each : (i : ℕ) → i < length traced → AreOutlines (get_or all i no_fill).pieces (get_or traced i not_traced)
