-- A run without words owes no file, so it wants no room but that of its complaint.
use Rattle.std.proofs.Common.{ℕ, ◌≤◌, subst, List, [], Option}
use Rattle.desk.specs.Seen.{Seen}
use Rattle.run_rules.specs.Due.{File, Due, IsDue}
use Rattle.run_rules.specs.Due.Due.{Refuse, Pass}
use Rattle.run_rules.specs.Leaves.{NeedsRoom}
use Rattle.run_rules.specs.Words.{wanted}
use Rattle.top_call.specs.Today.{asked_today, today}

IsPass : Due → Type 0
IsPass (Refuse answer) = ⊥
IsPass (Pass file said lines) = Unit {0}

no_file : (s : Seen) (file : Option File) (said : List ℕ) (lines : ℕ) → IsDue today [] s (Pass file said lines) → ⊥
unfolding IsDue IsPass asked_today wanted
no_file s file said lines due = subst IsPass due tt

pub no_words : (s : Seen) (room : ℕ) → 256 ≤ room → NeedsRoom today [] s room
no_words s room enough = record { complaint = enough; output = λ file said lines due. absurd (no_file s file said lines due) }
