-- Why a command isn't carried out: what the parts of a run answer, before anything is written.
use Rattle.std.specs.Prelude.{◌≡◌, ℕ, ◌<◌, List, length}
use Rattle.desk.specs.Seen.{Seen}
use Rattle.desk.specs.declared.whole_files.ReadStop.{ReadStop}
use Rattle.desk.specs.declared.whole_files.ReadStop.TheVariants as stops
use Rattle.sexpr_text.specs.Items.{Item}
use Rattle.sexpr_text.specs.Trees.{IsRoot}
use Rattle.sexpr_text.specs.Faults.{IsFault}
use Rattle.sexpr_text.specs.declared.error.TextError.{TextError}
use Rattle.sexpr_text.specs.declared.error.TextError.TheVariants as text_errors
use Rattle.board_language.specs.Reading.{IsOffence}
use Rattle.board_model.specs.declared.error.BoardError.{BoardError}
use Rattle.board_model.specs.declared.error.BoardError.TheVariants as board_errors
use Rattle.run_rules.specs.declared.words.Command.{Command}
use Rattle.run_rules.specs.declared.words.WordsError.{WordsError}
use Rattle.run_rules.specs.declared.words.WordsError.TheVariants as words_errors
use Rattle.run_rules.specs.declared.ended.Ended.{Ended}
use Rattle.run_rules.specs.declared.ended.Ended.TheVariants as ended
use Rattle.run_rules.specs.declared.ended.Role.TheVariants.{In}
use Rattle.run_rules.specs.Due.Due.{Refuse}
use Rattle.run_rules.specs.Leaves.{IsReading}
use Rattle.top_call.specs.declared.refusal.Refusal.{Refusal}
use Rattle.top_call.specs.declared.refusal.Refusal.TheVariants.{Memory, BadText, Refused}
use Rattle.top_call.specs.Today.{OwesToday}

-- ---- texts

-- the refusal that a text's error makes
abbrev pub IsRefusalOf : TextError → Refusal → Type 0
IsRefusalOf text_errors.Memory refusal = refusal ≡ Memory
IsRefusalOf (text_errors.Bad fault) refusal = refusal ≡ BadText fault

-- the refusal that a board's error makes
abbrev pub IsOfBoard : BoardError → Refusal → Type 0
IsOfBoard board_errors.Memory refusal = refusal ≡ Memory
IsOfBoard (board_errors.Bad offence) refusal = refusal ≡ Refused offence

-- a text is refused by its fault, or by the first offence of its board; want of memory aside
abbrev pub IsOwed : List ℕ → Refusal → Type 0
IsOwed text Memory = Unit {0}
IsOwed text (BadText fault) = IsFault text fault.at fault.kind
IsOwed text (Refused offence) = (root : Item) × IsRoot text root × IsOffence text root offence.at offence.line offence.kind

-- ---- answers

-- the answer where the words are no command
abbrev pub answer_of_words : WordsError → Ended
answer_of_words words_errors.Memory = ended.Memory
answer_of_words (words_errors.Bad fault) = ended.Usage fault

-- the answer where IN isn't read
abbrev pub answer_of_stop : ReadStop → Ended
answer_of_stop stops.Memory = ended.Memory
answer_of_stop stops.Failed = ended.Unreadable In
answer_of_stop stops.TooLong = ended.TooLong In 67108865

-- the answer where a text is refused
abbrev pub answer_of : Refusal → Ended
answer_of Memory = ended.Memory
answer_of (BadText fault) = ended.BadText fault
answer_of (Refused offence) = ended.Refused offence

-- why a file of these bytes isn't read: a call of the desk failed, they are too many, or memory is wanted
abbrev pub IsUnread : List ℕ → Ended → Type 0
IsUnread text ended.Memory = Unit {0}
IsUnread text (ended.Unreadable In) = Unit {0}
IsUnread text (ended.TooLong In taken) = (67108864 < length text) × (taken ≡ 67108865)
IsUnread text other = ⊥

-- Nothing of the command is written or said: a file of it can't be read, it is refused by what is due, or memory is wanted.
abbrev pub IsStopped : Command → Seen → Ended → Type 0
IsStopped command s ended.Memory = Unit {0}
IsStopped command s (ended.Unreadable role) = IsReading command role s
IsStopped command s (ended.Done lines) = ⊥
IsStopped command s (ended.Unwritten given) = ⊥
IsStopped command s (ended.Unsaid given) = ⊥
IsStopped command s refusal = OwesToday command s (Refuse refusal)
