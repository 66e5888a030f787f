-- The area that a text spells, read as square millimetres: a whole number of millionths of one, which are the sixth decimal place.
use Rattle.std.specs.Prelude.{◌≡◌, ℕ, ◌<◌, ◌≤◌, Bool, true, ◌⊎◌, List}
use Rattle.grid_num.specs.Spelling.{IsSpelling, SpellsNone}
use Rattle.grid_num.specs.Length.{IsWholeNm, nanometres}
use Rattle.grid_num.specs.Faults.{SpellsTooFine}
use Rattle.grid_num.specs.declared.read.NumFault.{NumFault}
use Rattle.grid_num.specs.declared.read.NumFault.TheVariants.{NotANumber, TooFine, OutOfRange}

-- how many millionths the digits spell, up to the sixth place: as many as they spell nanometres of a millimetre
abbrev pub millionths : List ℕ → List ℕ → ℕ
millionths whole fraction = nanometres whole fraction

-- the text spells just so many millionths of a square millimetre; an area isn't negative, but `-0` is 0
pub record IsArea (text : List ℕ) (area : ℕ) : Type 0 where
  pub negative : Bool
  pub whole : List ℕ
  pub fraction : List ℕ
  pub spelling : IsSpelling text negative whole fraction
  pub fine : IsWholeNm fraction
  pub range : millionths whole fraction ≤ 1000000000000
  pub sign : negative ≡ true → millionths whole fraction ≡ 0
  pub value : area ≡ millionths whole fraction

-- a whole number of millionths is spelt, below 0 or beyond 1,000,000 square millimetres
pub record SpellsNoArea (text : List ℕ) : Type 0 where
  pub negative : Bool
  pub whole : List ℕ
  pub fraction : List ℕ
  pub spelling : IsSpelling text negative whole fraction
  pub fine : IsWholeNm fraction
  pub beyond : ((negative ≡ true) × (0 < millionths whole fraction)) ⊎ (1000000000000 < millionths whole fraction)

-- what is wrong with a text that spells no area; at most one of these is
abbrev pub HasAreaFault : List ℕ → NumFault → Type 0
HasAreaFault text NotANumber = SpellsNone text
HasAreaFault text TooFine = SpellsTooFine text
HasAreaFault text OutOfRange = SpellsNoArea text
