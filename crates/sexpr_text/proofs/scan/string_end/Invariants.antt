use Rattle.std.proofs.Common.{length, ◌-◌, ◌<◌, ◌≤◌, ◌+◌, ◌≡◌, ℕ, true, slice_index}
use Rattle.sexpr_text.specs.Grammar.{is_escaped}
use Rattle.sexpr_text.proofs.scan.string_end.Given as goal

abbrev pub invariant-loop-end : goal.invariant-loop-end
invariant-loop-end l = (l.at < l.end) × (l.end ≤ length l.bytes)
    × (l.escaped ≡ is_escaped l.bytes (l.at + 1) (l.end - (l.at + 1)))
    × ((k : ℕ) → l.at + 1 + k < l.end → slice_index l.bytes (l.at + 1 + k) ≡ 34 → is_escaped l.bytes (l.at + 1) k ≡ true)

abbrev pub decreases-loop-end : goal.decreases-loop-end
decreases-loop-end l = length l.bytes - l.end
