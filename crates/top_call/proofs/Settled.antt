-- A quiet run of a command that nothing refuses is done, but for want of memory.
use Rattle.std.proofs.Common.{inl, inr, ℕ, ◌≤◌, arith, sym, subst, length, List}
use Rattle.desk.specs.Seen.{Seen, content}
use Rattle.desk.specs.declared.Counts.{Counts}
use Rattle.sexpr_text.specs.Items.{Item}
use Rattle.sexpr_text.proofs.FaultLaws as texts
use Rattle.board_language.specs.Reading.{IsAccepted}
use Rattle.board_language.proofs.OneOffence.{no_offence}
use Rattle.edit_language.specs.Edited.{IsBoardText}
use Rattle.edit_language.proofs.OneRoot.{one_root}
use Rattle.run_rules.specs.declared.ended.Ended.{Ended}
use Rattle.run_rules.specs.declared.ended.Ended.TheVariants.{Done, Usage, TooLong, BadText, Refused, BadScript, EditRefused, Unreadable, Unwritten, Unsaid, Memory}
use Rattle.run_rules.specs.declared.ended.Role.TheVariants.{In}
use Rattle.run_rules.specs.declared.words.Command.{Command}
use Rattle.run_rules.specs.declared.words.Command.TheVariants as commands
use Rattle.run_rules.specs.Words.{GivenWord, Wanted}
use Rattle.run_rules.specs.Due.{Due, IsDue, OwesFile, OwesRoot, OwesBoard, OwesFill, OwesReport, OwesWords}
use Rattle.run_rules.specs.Due.Due.{Refuse, Pass}
use Rattle.run_rules.specs.Leaves.{Leaves, IsCaused, IsQuiet}
use Rattle.run_rules.proofs.OneDue.{quiet_no_fault}
use Rattle.top_call.specs.Today.{OwesToday, today}
use Rattle.top_call.specs.Settled.{IsWelcome, IsAcceptedRun, IsDoneOrMemory}

IsPass : Due → Type 0
IsPass (Refuse answer) = ⊥
IsPass (Pass file said lines) = Unit {0}

-- what is owed then passes
abbrev Passing : (List ℕ → Due → Type 0) → Type 0
Passing then = (text : List ℕ) (due : Due) → then text due → IsPass due

passes_root : (then : List ℕ → Due → Type 0) → Passing then → (text : List ℕ) (root : Item) (due : Due) → IsAccepted text root → OwesRoot then text root due → IsPass due
passes_root then p text root due a (inl o) = absurd (no_offence text root o.0.at o.0.line o.0.kind a o.1)
passes_root then p text root due a (inr o) = p text due o.1

passes_board : (then : List ℕ → Due → Type 0) → Passing then → (text : List ℕ) (due : Due) → IsBoardText text → OwesBoard then text due → IsPass due
passes_board then p text due b (inl o) = absurd (texts.no_fault text _ o.0.at o.0.kind b.is_root.spelt o.1)
passes_board then p text due b (inr o) =
    passes_root then p text b.root due b.accepted (subst (λ (i : Item). OwesRoot then text i due) (one_root text o.0 b.root o.1 b.is_root) o.2)

passes_file : (then : List ℕ → Due → Type 0) → Passing then → (text : List ℕ) (due : Due) → length text ≤ 67108864 → IsBoardText text → OwesFile In (OwesBoard then) text due → IsPass due
passes_file then p text due short b (inl o) = let long = o.0 in absurd (omega (arith, long, short))
passes_file then p text due short b (inr o) = passes_board then p text due b o.1

passes_command : (command : Command) (s : Seen) (due : Due) → IsWelcome command s → OwesToday command s due → IsPass due
unfolding IsPass
passes_command (commands.Fill input output threads rules) s due w o =
    passes_file (OwesFill rules output) (λ text due h. subst IsPass (sym h.2) tt) (content input s) due w.0 w.1 o
passes_command (commands.Refill input edits output threads rules) s due w o = absurd w
passes_command (commands.Report input rules) s due w o =
    passes_file (OwesReport rules) (λ text due h. subst IsPass (sym h.2) tt) (content input s) due w.0 w.1 o
passes_command (commands.Generate seed size output) s due w o = subst IsPass (sym o.2) tt

passes_words : (words : List GivenWord) (s : Seen) (due : Due) → IsAcceptedRun words s → IsDue today words s due → IsPass due
unfolding IsDue
passes_words words s due f d =
    let owed : OwesToday f.command s due = subst (λ (w : Wanted). OwesWords OwesToday w s due) f.asked d in
    passes_command f.command s due f.welcome owed

pub settled : (answer : Ended) (words : List GivenWord) (before now : Counts) (s t : Seen)
    → Leaves today answer words s t → IsCaused answer before now → IsQuiet before now → IsAcceptedRun words s → IsDoneOrMemory answer
unfolding IsPass
settled (Done lines) words before now s t l c q f = tt
settled Memory words before now s t l c q f = tt
settled (Unreadable role) words before now s t l c q f = quiet_no_fault (Unreadable role) before now c q tt
settled (Unwritten given) words before now s t l c q f = quiet_no_fault (Unwritten given) before now c q tt
settled (Unsaid given) words before now s t l c q f = quiet_no_fault (Unsaid given) before now c q tt
settled (Usage fault) words before now s t l c q f = passes_words words s (Refuse (Usage fault)) f l.0
settled (TooLong role taken) words before now s t l c q f = passes_words words s (Refuse (TooLong role taken)) f l.0
settled (BadText fault) words before now s t l c q f = passes_words words s (Refuse (BadText fault)) f l.0
settled (Refused offence) words before now s t l c q f = passes_words words s (Refuse (Refused offence)) f l.0
settled (BadScript fault) words before now s t l c q f = passes_words words s (Refuse (BadScript fault)) f l.0
settled (EditRefused index refusal) words before now s t l c q f = passes_words words s (Refuse (EditRefused index refusal)) f l.0
