-- What a run's words owe, and what it leaves, from its parts.
use Rattle.std.proofs.Common.{◌≡◌, refl, sym, subst, ℕ, ◌+◌, length, List, Option, None, Some}
use Rattle.std.specs.Option.{IsSome}
use Rattle.desk.specs.Seen.{Seen}
use Rattle.desk.specs.declared.Counts.{Counts}
use Rattle.desk.specs.Faults.{Rose, OnlyReading}
use Rattle.desk.specs.Room.{HasRoomTold}
use Rattle.run_rules.specs.declared.words.Command.{Command}
use Rattle.run_rules.specs.declared.words.WordsError.{WordsError}
use Rattle.run_rules.specs.declared.words.WordsError.TheVariants as words_errors
use Rattle.run_rules.specs.declared.words.UsageFault.{UsageFault}
use Rattle.run_rules.specs.declared.ended.Ended.{Ended}
use Rattle.run_rules.specs.declared.ended.Ended.TheVariants.{Done, Usage, TooLong, BadText, Refused, BadScript, EditRefused, Unreadable, Unwritten, Unsaid, Memory}
use Rattle.run_rules.specs.Words.{GivenWord}
use Rattle.run_rules.specs.Words.Wanted.{Wrong, Run}
use Rattle.run_rules.specs.Read.{IsErrorOf}
use Rattle.run_rules.specs.Due.{File, Due, IsDue, OwesWords}
use Rattle.run_rules.specs.Due.Due.{Refuse, Pass}
use Rattle.run_rules.specs.Leaves.{Leaves, IsCaused, HasRoomFor, file_size}
use Rattle.top_call.specs.Today.{asked_today, OwesToday, today}
use Rattle.top_call.specs.Refusals.{IsStopped, answer_of_words}
use Rattle.top_call.specs.Passed.{Passes, IsPassedBy, IsPassedOrMemory}
use Rattle.top_call.specs.Steps.{HasCounted, IsNotDone}

-- ---- what is due

-- the words' fault
owes_usage : (words : List GivenWord) (s : Seen) (fault : UsageFault) → asked_today words ≡ Wrong fault → IsDue today words s (Refuse (Usage fault))
unfolding IsDue
owes_usage words s fault e = subst (λ w. OwesWords OwesToday w s (Refuse (Usage fault))) (sym e) refl

-- what a command owes
pub owes_command : (words : List GivenWord) (s : Seen) (command : Command) (due : Due) → asked_today words ≡ Run command → OwesToday command s due → IsDue today words s due
unfolding IsDue
owes_command words s command due e h = subst (λ w. OwesWords OwesToday w s due) (sym e) h

-- ---- what is left

-- words that are no command leave all as it was
pub leaves_unasked : (words : List GivenWord) (s : Seen) (error : WordsError) → IsErrorOf error (asked_today words) → Leaves today (answer_of_words error) words s s
leaves_unasked words s words_errors.Memory h = refl
leaves_unasked words s (words_errors.Bad fault) h = (owes_usage words s fault h, refl)

-- and so does a command that is stopped
pub leaves_stopped : (words : List GivenWord) (command : Command) (s : Seen) (answer : Ended) → asked_today words ≡ Run command → IsStopped command s answer → Leaves today answer words s s
leaves_stopped words command s Memory e h = refl
leaves_stopped words command s (Unreadable role) e h = (command, e, h, refl)
leaves_stopped words command s (Done lines) e h = absurd h
leaves_stopped words command s (Unwritten given) e h = absurd h
leaves_stopped words command s (Unsaid given) e h = absurd h
leaves_stopped words command s (Usage fault) e h = (owes_command words s command (Refuse (Usage fault)) e h, refl)
leaves_stopped words command s (TooLong role taken) e h = (owes_command words s command (Refuse (TooLong role taken)) e h, refl)
leaves_stopped words command s (BadText fault) e h = (owes_command words s command (Refuse (BadText fault)) e h, refl)
leaves_stopped words command s (Refused offence) e h = (owes_command words s command (Refuse (Refused offence)) e h, refl)
leaves_stopped words command s (BadScript fault) e h = (owes_command words s command (Refuse (BadScript fault)) e h, refl)
leaves_stopped words command s (EditRefused index refusal) e h = (owes_command words s command (Refuse (EditRefused index refusal)) e h, refl)

-- what is due is passed on, whole or cut
pub leaves_passed : (words : List GivenWord) (s t : Seen) (answer : Ended) (file : Option File) (said : List ℕ) (lines : ℕ)
    → IsDue today words s (Pass file said lines) → Passes answer file said lines s t → Leaves today answer words s t
leaves_passed words s t (Done n) file said lines due p = (file, said, subst (λ k. IsDue today words s (Pass file said k)) (sym p.0) due, p.1)
leaves_passed words s t (Unwritten given) file said lines due p = (p.0, said, lines, subst (λ f. IsDue today words s (Pass f said lines)) p.1 due, p.2)
leaves_passed words s t (Unsaid given) file said lines due p = (file, said, lines, due, p.0, p.1)
leaves_passed words s t Memory file said lines due p = absurd p
leaves_passed words s t (Unreadable role) file said lines due p = absurd p
leaves_passed words s t (Usage fault) file said lines due p = absurd p
leaves_passed words s t (TooLong role taken) file said lines due p = absurd p
leaves_passed words s t (BadText fault) file said lines due p = absurd p
leaves_passed words s t (Refused offence) file said lines due p = absurd p
leaves_passed words s t (BadScript fault) file said lines due p = absurd p
leaves_passed words s t (EditRefused index refusal) file said lines due p = absurd p

-- ---- what is counted

-- nothing is said of the count where a run isn't done
pub uncounted : (Takes : Command → Seen → (before now : ℕ) → Type 0) (words : List GivenWord) (s : Seen) (answer : Ended) (before now : ℕ) → IsNotDone answer → HasCounted Takes answer words s before now
uncounted Takes words s (Done lines) before now h = absurd h
uncounted Takes words s Memory before now h = tt
uncounted Takes words s (Unreadable role) before now h = tt
uncounted Takes words s (Unwritten given) before now h = tt
uncounted Takes words s (Unsaid given) before now h = tt
uncounted Takes words s (Usage fault) before now h = tt
uncounted Takes words s (TooLong role taken) before now h = tt
uncounted Takes words s (BadText fault) before now h = tt
uncounted Takes words s (Refused offence) before now h = tt
uncounted Takes words s (BadScript fault) before now h = tt
uncounted Takes words s (EditRefused index refusal) before now h = tt

-- words that are no command aren't done
pub undone_words : (error : WordsError) → IsNotDone (answer_of_words error)
undone_words words_errors.Memory = tt
undone_words (words_errors.Bad fault) = tt

-- and neither is a command that is stopped
pub undone_stop : (command : Command) (s : Seen) (answer : Ended) → IsStopped command s answer → IsNotDone answer
undone_stop command s (Done lines) h = absurd h
undone_stop command s Memory h = tt
undone_stop command s (Unreadable role) h = tt
undone_stop command s (Unwritten given) h = tt
undone_stop command s (Unsaid given) h = tt
undone_stop command s (Usage fault) h = tt
undone_stop command s (TooLong role taken) h = tt
undone_stop command s (BadText fault) h = tt
undone_stop command s (Refused offence) h = tt
undone_stop command s (BadScript fault) h = tt
undone_stop command s (EditRefused index refusal) h = tt

pub counted : (Takes : Command → Seen → (before now : ℕ) → Type 0) (words : List GivenWord) (command : Command) (s : Seen) (answer : Ended) (before now : ℕ)
    → asked_today words ≡ Run command → Takes command s before now → HasCounted Takes answer words s before now
counted Takes words command s (Done lines) before now e h = (command, e, h)
counted Takes words command s Memory before now e h = tt
counted Takes words command s (Unreadable role) before now e h = tt
counted Takes words command s (Unwritten given) before now e h = tt
counted Takes words command s (Unsaid given) before now e h = tt
counted Takes words command s (Usage fault) before now e h = tt
counted Takes words command s (TooLong role taken) before now e h = tt
counted Takes words command s (BadText fault) before now e h = tt
counted Takes words command s (Refused offence) before now e h = tt
counted Takes words command s (BadScript fault) before now e h = tt
counted Takes words command s (EditRefused index refusal) before now e h = tt

-- ---- room

-- there is room for what is due, and for a complaint
pub room_for : (words : List GivenWord) (told : Option Seen) (room left : Option ℕ) (file : Option File) (said : List ℕ) (lines : ℕ)
    → ((n : ℕ) → room ≡ Some n → IsSome told) → left ≡ room → HasRoomFor today words told room
    → ((s : Seen) → told ≡ Some s → IsDue today words s (Pass file said lines)) → HasRoomTold left (file_size file + length said + 256)
room_for words told room left file said lines law same h due = subst (λ r. HasRoomTold r (file_size file + length said + 256)) (sym same) (at told room law h due)
  where
    at : (told : Option Seen) (room : Option ℕ) → ((n : ℕ) → room ≡ Some n → IsSome told) → HasRoomFor today words told room
        → ((s : Seen) → told ≡ Some s → IsDue today words s (Pass file said lines)) → HasRoomTold room (file_size file + length said + 256)
    at told None law h due = tt
    at None (Some r) law h due = cc (law r refl)
    at (Some s) (Some r) law h due = (h r s refl refl).output file said lines (due s refl)

-- where nothing has changed there is room as before
pub room_moved : (words : List GivenWord) (told now : Option Seen) (room left : Option ℕ) → now ≡ told → left ≡ room → HasRoomFor today words told room → HasRoomFor today words now left
room_moved words told now room left seen same h = subst (λ r. HasRoomFor today words now r) (sym same) (subst (λ t. HasRoomFor today words t room) (sym seen) h)

-- there is room for a complaint
pub room_to_complain : (words : List GivenWord) (told : Option Seen) (room left : Option ℕ) → ((n : ℕ) → room ≡ Some n → IsSome told) → left ≡ room → HasRoomFor today words told room → HasRoomTold left 256
room_to_complain words told room left law same h = subst (λ r. HasRoomTold r 256) (sym same) (at told room law h)
  where
    at : (told : Option Seen) (room : Option ℕ) → ((n : ℕ) → room ≡ Some n → IsSome told) → HasRoomFor today words told room → HasRoomTold room 256
    at told None law h = tt
    at None (Some r) law h = cc (law r refl)
    at (Some s) (Some r) law h = (h r s refl refl).complaint

-- ---- causes

pub caused : (answer : Ended) (before mid now : Counts) → OnlyReading before mid → IsPassedOrMemory answer mid now → IsCaused answer before now
caused (Done lines) before mid now o h = tt
caused (Unwritten given) before mid now o h = subst (λ n. Rose n now.writing) o.0 h
caused (Unsaid given) before mid now o h = subst (λ n. Rose n now.saying) o.1 h
caused Memory before mid now o h = tt
caused (Unreadable role) before mid now o h = absurd h
caused (Usage fault) before mid now o h = absurd h
caused (TooLong role taken) before mid now o h = absurd h
caused (BadText fault) before mid now o h = absurd h
caused (Refused offence) before mid now o h = absurd h
caused (BadScript fault) before mid now o h = absurd h
caused (EditRefused index refusal) before mid now o h = absurd h

-- what is passed on is written and said, or not
pub passed : (answer : Ended) (before now : Counts) → IsPassedBy answer before now → IsPassedOrMemory answer before now
passed (Done lines) before now h = tt
passed Memory before now h = tt
passed (Unreadable role) before now h = h
passed (Unwritten given) before now h = h
passed (Unsaid given) before now h = h
passed (Usage fault) before now h = h
passed (TooLong role taken) before now h = h
passed (BadText fault) before now h = h
passed (Refused offence) before now h = h
passed (BadScript fault) before now h = h
passed (EditRefused index refusal) before now h = h
