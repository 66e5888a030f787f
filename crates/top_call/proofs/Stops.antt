-- Why a command is stopped, from what was read of its files or made.
use Rattle.std.proofs.Common.{◌≡◌, refl, ap, subst, inl, inr, ℕ, ◌<◌, ◌≤◌, length, List}
use Rattle.desk.specs.Seen.{Seen, content}
use Rattle.desk.specs.declared.whole_files.ReadStop.{ReadStop}
use Rattle.desk.specs.declared.whole_files.ReadStop.TheVariants as stops
use Rattle.sexpr_text.specs.Items.{Item}
use Rattle.sexpr_text.specs.Trees.{IsRoot}
use Rattle.sexpr_text.proofs.FaultLaws as texts
use Rattle.board_language.specs.declared.board.Rules.{Rules}
use Rattle.board_language.specs.Reading.{IsAccepted, IsOffence}
use Rattle.board_language.proofs.OneOffence.{no_offence}
use Rattle.edit_language.proofs.OneRoot.{one_root}
use Rattle.run_rules.specs.declared.ended.Ended.{Ended}
use Rattle.run_rules.specs.declared.ended.Ended.TheVariants as ended
use Rattle.run_rules.specs.declared.ended.Role.TheVariants.{In, Edits}
use Rattle.run_rules.specs.declared.words.Command.TheVariants.{Fill, Report}
use Rattle.run_rules.specs.Due.{Due, OwesFile, OwesBoard, OwesFill, OwesReport}
use Rattle.run_rules.specs.Due.Due.{Refuse}
use Rattle.top_call.specs.declared.refusal.Refusal.{Refusal}
use Rattle.top_call.specs.declared.refusal.Refusal.TheVariants as refusal
use Rattle.top_call.specs.Refusals.{IsOwed, IsUnread, IsStopped, answer_of, answer_of_stop}

-- ---- a file that isn't read

pub unread_as : (text : List ℕ) (why : ReadStop) → (why ≡ stops.TooLong → 67108864 < length text) → IsUnread text (answer_of_stop why)
unread_as text stops.Memory long = tt
unread_as text stops.Failed long = tt
unread_as text stops.TooLong long = (long refl, refl)

pub unread_fill : (input output : List ℕ) (threads : ℕ) (rules : Rules) (s : Seen) (answer : Ended) → IsUnread (content input s) answer → IsStopped (Fill input output threads rules) s answer
unread_fill input output threads rules s ended.Memory h = tt
unread_fill input output threads rules s (ended.Unreadable In) h = tt
unread_fill input output threads rules s (ended.Unreadable Edits) h = absurd h
unread_fill input output threads rules s (ended.TooLong In taken) h = inl (h.0, ap (λ n. Refuse (ended.TooLong In n)) h.1)
unread_fill input output threads rules s (ended.TooLong Edits taken) h = absurd h
unread_fill input output threads rules s (ended.Done lines) h = absurd h
unread_fill input output threads rules s (ended.Usage fault) h = absurd h
unread_fill input output threads rules s (ended.BadText fault) h = absurd h
unread_fill input output threads rules s (ended.Refused offence) h = absurd h
unread_fill input output threads rules s (ended.BadScript fault) h = absurd h
unread_fill input output threads rules s (ended.EditRefused index refusal) h = absurd h
unread_fill input output threads rules s (ended.Unwritten given) h = absurd h
unread_fill input output threads rules s (ended.Unsaid given) h = absurd h

pub unread_report : (input : List ℕ) (rules : Rules) (s : Seen) (answer : Ended) → IsUnread (content input s) answer → IsStopped (Report input rules) s answer
unread_report input rules s ended.Memory h = tt
unread_report input rules s (ended.Unreadable In) h = tt
unread_report input rules s (ended.Unreadable Edits) h = absurd h
unread_report input rules s (ended.TooLong In taken) h = inl (h.0, ap (λ n. Refuse (ended.TooLong In n)) h.1)
unread_report input rules s (ended.TooLong Edits taken) h = absurd h
unread_report input rules s (ended.Done lines) h = absurd h
unread_report input rules s (ended.Usage fault) h = absurd h
unread_report input rules s (ended.BadText fault) h = absurd h
unread_report input rules s (ended.Refused offence) h = absurd h
unread_report input rules s (ended.BadScript fault) h = absurd h
unread_report input rules s (ended.EditRefused index refusal) h = absurd h
unread_report input rules s (ended.Unwritten given) h = absurd h
unread_report input rules s (ended.Unsaid given) h = absurd h

-- ---- a text that was read

-- what a text of a file that isn't too long owes
pub owes_text : (then : List ℕ → Due → Type 0) (text all : List ℕ) (due : Due) → text ≡ all → length text ≤ 67108864 → OwesBoard then text due → OwesFile In (OwesBoard then) all due
owes_text then text all due same short h = subst (λ t. OwesFile In (OwesBoard then) t due) same (inr (short, h))

pub refused_fill : (input output text : List ℕ) (threads : ℕ) (rules : Rules) (s : Seen) (why : Refusal) → text ≡ content input s → length text ≤ 67108864 → IsOwed text why
    → IsStopped (Fill input output threads rules) s (answer_of why)
refused_fill input output text threads rules s refusal.Memory same short owed = tt
refused_fill input output text threads rules s (refusal.BadText fault) same short owed =
    owes_text (OwesFill rules output) text (content input s) (Refuse (ended.BadText fault)) same short (inl (fault, owed, refl))
refused_fill input output text threads rules s (refusal.Refused offence) same short owed =
    owes_text (OwesFill rules output) text (content input s) (Refuse (ended.Refused offence)) same short (inr (owed.0, owed.1, inl (offence, owed.2, refl)))

pub refused_report : (input text : List ℕ) (rules : Rules) (s : Seen) (why : Refusal) → text ≡ content input s → length text ≤ 67108864 → IsOwed text why
    → IsStopped (Report input rules) s (answer_of why)
refused_report input text rules s refusal.Memory same short owed = tt
refused_report input text rules s (refusal.BadText fault) same short owed =
    owes_text (OwesReport rules) text (content input s) (Refuse (ended.BadText fault)) same short (inl (fault, owed, refl))
refused_report input text rules s (refusal.Refused offence) same short owed =
    owes_text (OwesReport rules) text (content input s) (Refuse (ended.Refused offence)) same short (inr (owed.0, owed.1, inl (offence, owed.2, refl)))

-- ---- a board that is made

-- it is refused for want of memory alone
pub made_refused : (text : List ℕ) (why : Refusal) → (root : Item) × IsRoot text root × IsAccepted text root → IsOwed text why → answer_of why ≡ ended.Memory
made_refused text refusal.Memory made owed = refl
made_refused text (refusal.BadText fault) made owed = absurd (texts.no_fault text _ fault.at fault.kind made.1.spelt owed)
made_refused text (refusal.Refused offence) made owed =
    absurd (no_offence text made.0 offence.at offence.line offence.kind made.2
    (subst (λ (i : Item). IsOffence text i offence.at offence.line offence.kind) (one_root text owed.0 made.0 owed.1 made.1) owed.2))
