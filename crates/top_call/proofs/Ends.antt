-- Runs that are done leave the same.
use Rattle.std.proofs.Common.{◌≡◌, ◌∙◌, sym, ap, subst, refl, ℕ, zero, suc, take, List, [], Option, None, Some}
use Rattle.desk.specs.Seen.{Seen, with_said, with_complained}
use Rattle.desk.specs.declared.Counts.{Counts}
use Rattle.run_rules.specs.declared.ended.Ended.TheVariants.{Done}
use Rattle.board_language.specs.declared.board.Rules.{Rules}
use Rattle.run_rules.specs.declared.words.Command.TheVariants.{Fill}
use Rattle.run_rules.specs.Words.{GivenWord, Wanted}
use Rattle.run_rules.specs.Words.Wanted.{Run}
use Rattle.run_rules.specs.Due.{File, Due, IsDue, OwesWords}
use Rattle.run_rules.specs.Due.Due.{Refuse, Pass}
use Rattle.run_rules.specs.Leaves.{Ends, with_output}
use Rattle.top_call.specs.Today.{today, asked_today, OwesToday}
use Rattle.top_call.specs.Laws.{SameEndLaw, SameWorkersLaw}
use Rattle.top_call.proofs.OneDue.{one_due}

file_in : Due → Option File
file_in (Refuse answer) = None
file_in (Pass file said lines) = file

said_in : Due → List ℕ
said_in (Refuse answer) = []
said_in (Pass file said lines) = said

lines_in : Due → ℕ
lines_in (Refuse answer) = 0
lines_in (Pass file said lines) = lines

abbrev empty : List ℕ
empty = []

none_taken : (n : ℕ) → take n empty ≡ empty
none_taken zero = refl
none_taken (suc n) = refl

-- what a run that is done leaves at its end, it left before it complained of nothing
quiet_end : (words : List GivenWord) (lines : ℕ) (before now : Counts) (s : Seen) (left : Option Seen) (e : Ends today (Done lines) words before now s left) → left ≡ Some (with_complained [] e.worked)
quiet_end words lines before now s left e = e.complained ∙ ap (λ c. Some (with_complained c e.worked)) (none_taken e.said)

-- what is due of the one run is due of the other
abbrev OwesAlso : (more words : List GivenWord) → Seen → Type 0
OwesAlso more words s = (due : Due) → IsDue today more s due → IsDue today words s due

-- two runs that owe the same and are done leave the same
same_done : (words more : List GivenWord) (s : Seen) (lines others : ℕ) (before now old new : Counts) (left other : Option Seen) → OwesAlso more words s
    → Ends today (Done lines) words before now s left → Ends today (Done others) more old new s other → (lines ≡ others) × (left ≡ other)
unfolding file_in said_in lines_in
same_done words more s lines others before now old new left other also e h =
    let first : Due = Pass e.leaves.0 e.leaves.1 lines in
    let second : Due = Pass h.leaves.0 h.leaves.1 others in
    let due : first ≡ second = one_due words s first second e.leaves.2 (also second h.leaves.2) in
    let file : e.leaves.0 ≡ h.leaves.0 = ap file_in due in
    let said : e.leaves.1 ≡ h.leaves.1 = ap said_in due in
    let worked : e.worked ≡ h.worked = e.leaves.3 ∙ (λ i. with_said (said i) (with_output (file i) s)) ∙ sym h.leaves.3 in
    (ap lines_in due, quiet_end words lines before now s left e ∙ ap (λ w. Some (with_complained [] w)) worked ∙ sym (quiet_end more others old new s other h))

pub same_end : SameEndLaw
same_end words s lines others before now old new left other e h = same_done words words s lines others before now old new left other (λ due d. d) e h

-- what `fill` owes doesn't depend on the number of workers
fill_also : (words more : List GivenWord) (input output : List ℕ) (one many : ℕ) (rules : Rules) (s : Seen) → asked_today words ≡ Run (Fill input output one rules)
    → asked_today more ≡ Run (Fill input output many rules) → OwesAlso more words s
unfolding IsDue
fill_also words more input output one many rules s e f due d =
    let owed : OwesToday (Fill input output many rules) s due = subst (λ (w : Wanted). OwesWords OwesToday w s due) f d in
    subst (λ (w : Wanted). OwesWords OwesToday w s due) (sym e) owed

pub same_workers : SameWorkersLaw
same_workers words more input output one many rules s lines others before now old new left other a b e h =
    same_done words more s lines others before now old new left other (fill_also words more input output one many rules s a b) e h
