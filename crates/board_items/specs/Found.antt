-- Numbers that are found by a set.
use Rattle.std.specs.Prelude.{◌≡◌, ℕ, nat_eq, List}
use Rattle.std.specs.List.{list_any}
use Rattle.board_text.specs.Items.{has_number}

-- the keys have just these numbers
abbrev pub AreFound : List ℕ → List ℕ → Type 0
AreFound keys numbers = (n : ℕ) → list_any (nat_eq n) keys ≡ has_number numbers n
