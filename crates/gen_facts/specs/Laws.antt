-- What holds of every board that is made by rule.
use Rattle.std.specs.Prelude.{ℕ, ◌<◌, ◌≤◌, ◌^◌}
use Rattle.sexpr_text.specs.Items.{Item}
use Rattle.sexpr_text.specs.Trees.{IsRoot}
use Rattle.board_language.specs.Reading.{IsAccepted}
use Rattle.board_gen.specs.Generated.{generated}

-- whatever the seed, the text of so many cells by as many spells a board, in which nothing offends
abbrev pub MadeLaw : Type 0
MadeLaw =
    (seed size : ℕ) → seed < 2 ^ 64 → 1 ≤ size → size ≤ 200
    → (root : Item) × IsRoot (generated seed size) root × IsAccepted (generated seed size) root
