-- What is wrong with a text that spells no length. At most one of these is.
use Rattle.std.specs.Prelude.{ℕ, ◌<◌, Bool, List}
use Rattle.grid_num.specs.Spelling.{IsSpelling, SpellsNone}
use Rattle.grid_num.specs.Length.{IsWholeNm, nanometres}
use Rattle.grid_num.specs.declared.read.NumFault.{NumFault}
use Rattle.grid_num.specs.declared.read.NumFault.TheVariants.{NotANumber, TooFine, OutOfRange}

-- a number is spelt, with another digit than 0 past the sixth place
pub record SpellsTooFine (text : List ℕ) : Type 0 where
  pub negative : Bool
  pub whole : List ℕ
  pub fraction : List ℕ
  pub spelling : IsSpelling text negative whole fraction
  pub too_fine : IsWholeNm fraction → ⊥

-- a whole number of nanometres is spelt, beyond 500 mm
pub record SpellsBeyond (text : List ℕ) : Type 0 where
  pub negative : Bool
  pub whole : List ℕ
  pub fraction : List ℕ
  pub spelling : IsSpelling text negative whole fraction
  pub fine : IsWholeNm fraction
  pub beyond : 500000000 < nanometres whole fraction

abbrev pub HasFault : List ℕ → NumFault → Type 0
HasFault text NotANumber = SpellsNone text
HasFault text TooFine = SpellsTooFine text
HasFault text OutOfRange = SpellsBeyond text
