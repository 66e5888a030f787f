-- What holds of boards and their offences.
use Rattle.std.specs.Prelude.{◌≡◌, ℕ, List}
use Rattle.sexpr_text.specs.Items.{Item}
use Rattle.board_language.specs.declared.offence.OffenceKind.{OffenceKind}
use Rattle.board_language.specs.Reading.{IsAccepted, IsOffence}

-- a board has at most one first offence
abbrev pub OneOffenceLaw : Type 0
OneOffenceLaw =
    (text : List ℕ) (root : Item) (at place line other : ℕ) (kind last : OffenceKind) → IsOffence text root at line kind
    → IsOffence text root place other last → (at ≡ place) × (line ≡ other) × (kind ≡ last)

-- and an accepted one has none
abbrev pub NoOffenceLaw : Type 0
NoOffenceLaw = (text : List ℕ) (root : Item) (at line : ℕ) (kind : OffenceKind) → IsAccepted text root → IsOffence text root at line kind → ⊥
