-- The numbers of the parts of a fill.
use Rattle.std.specs.Prelude.{◌≡◌, ℕ, suc, ◌≤◌, nat_lt, List, length, get_or, take, count_by}
use Rattle.fill_rules.specs.Made.{Made, no_fill}
use Rattle.fill_rules.specs.Nodes.{firsts_from}

-- one more than the parts that begin before the piece
abbrev pub number_of_part : List ℕ → ℕ → ℕ
number_of_part parts first = suc (count_by (λ k. nat_lt k first) (firsts_from 0 parts))

-- at each place, and past the last one, one more than the parts that begin before it
pub record AreNumbers (parts numbers : List ℕ) : Type 0 where
  pub many : length numbers ≡ suc (length parts)
  pub each : (k : ℕ) → k ≤ length parts → get_or numbers k 0 ≡ suc (length (firsts_from 0 (take k parts)))

-- so for the fill at the place
abbrev pub IsNumbered : List Made → ℕ → List ℕ → Type 0
IsNumbered fills fill numbers = AreNumbers (get_or fills fill no_fill).parts numbers
