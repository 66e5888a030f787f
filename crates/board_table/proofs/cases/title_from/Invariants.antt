use Rattle.std.proofs.Common.{ℕ, ◌<◌, ◌≤◌}
use Rattle.board_table.specs.Cases.{IsTitleAt}
use Rattle.board_table.proofs.cases.title_from.Given as goal

abbrev pub invariant-places : goal.invariant-places
invariant-places l = (k : ℕ) → l.from ≤ k → k < l.at → IsTitleAt l.text k → ⊥
