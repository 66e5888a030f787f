-- How a decimal number is spelt: a sign or none, digits, a point with digits behind it or none.
use Rattle.std.specs.Prelude.{◌≡◌, ℕ, ◌+◌, ◌-◌, ◌*◌, ◌<◌, Bool, true, false, ◌⊎◌, List, [], ◌∷◌, ◌++◌, length, All}
use Rattle.std.specs.Char.{IsAsciiDigit}

-- `-` stands before a number that is not above zero, and `+` or nothing before one that is not below
abbrev pub IsSign : List ℕ → Bool → Type 0
IsSign sign true = sign ≡ 45 ∷ []
IsSign sign false = (sign ≡ []) ⊎ (sign ≡ 43 ∷ [])

-- the point, which may be left out where no digit stands behind it
abbrev pub IsPoint : List ℕ → List ℕ → Type 0
IsPoint point fraction = (point ≡ 46 ∷ []) ⊎ ((point ≡ []) × (fraction ≡ []))

-- The text spells a number by these whole digits and these digits of the fraction. At least one digit stands somewhere.
pub record IsSpelling (text : List ℕ) (negative : Bool) (whole fraction : List ℕ) : Type 0 where
  pub sign : List ℕ
  pub point : List ℕ
  pub in_order : text ≡ sign ++ (whole ++ (point ++ fraction))
  pub has_sign : IsSign sign negative
  pub has_point : IsPoint point fraction
  pub whole_digits : All IsAsciiDigit whole
  pub fraction_digits : All IsAsciiDigit fraction
  pub some_digit : 0 < length whole + length fraction

-- the text spells no number
abbrev pub SpellsNone : List ℕ → Type 0
SpellsNone text = (negative : Bool) (whole fraction : List ℕ) → IsSpelling text negative whole fraction → ⊥

-- the number that decimal digits spell behind those that spell n
abbrev pub number_after : ℕ → List ℕ → ℕ
number_after n [] = n
number_after n (d ∷ ds) = number_after (10 * n + (d - 48)) ds

-- the number that decimal digits spell
abbrev pub number : List ℕ → ℕ
number ds = number_after 0 ds
