use Rattle.std.proofs.Common.{◌≡◌, ℕ, ◌<◌, ◌≤◌, get_or}
use Rattle.board_table.proofs.cases.line_end.Given as goal

abbrev pub invariant-places : goal.invariant-places
invariant-places l = (k : ℕ) → l.from ≤ k → k < l.at → get_or l.text k 0 ≡ 10 → ⊥
