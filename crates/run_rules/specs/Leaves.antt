-- What each answer of a run leaves, where its desk tells what it holds, and what each answer is caused by.
use Rattle.std.specs.Prelude.{◌≡◌, ◌⊎◌, ℕ, ◌+◌, ◌<◌, ◌≤◌, List, length, take, Option, None, Some}
use Rattle.desk.specs.declared.Counts.{Counts}
use Rattle.desk.specs.Seen.{Seen, content, with_file, with_said, with_complained}
use Rattle.desk.specs.Faults.{Rose}
use Rattle.edit_language.specs.Edited.{IsBoardText}
use Rattle.run_rules.specs.declared.words.Command.{Command}
use Rattle.run_rules.specs.declared.words.Command.TheVariants as commands
use Rattle.run_rules.specs.declared.ended.Ended.{Ended}
use Rattle.run_rules.specs.declared.ended.Ended.TheVariants.{Done, Unreadable, Unwritten, Unsaid, Memory}
use Rattle.run_rules.specs.declared.ended.Role.{Role}
use Rattle.run_rules.specs.declared.ended.Role.TheVariants.{In, Edits}
use Rattle.run_rules.specs.Words.{GivenWord}
use Rattle.run_rules.specs.Words.Wanted.{Run}
use Rattle.run_rules.specs.Due.{Duties, File, Due, IsDue}
use Rattle.run_rules.specs.Due.Due.{Refuse, Pass}
use Rattle.run_rules.specs.Complaint.{complaint_of}

-- ---- causes

-- An answer's cause, by the counts before and after: a fault of reading, writing or saying is answered only where its count rose.
abbrev pub IsCaused : Ended → (before now : Counts) → Type 0
IsCaused (Unreadable role) before now = Rose before.reading now.reading
IsCaused (Unwritten given) before now = Rose before.writing now.writing
IsCaused (Unsaid given) before now = Rose before.saying now.saying
IsCaused other before now = Unit {0}

-- the answer is that a call of the desk failed
abbrev pub IsDeskFault : Ended → Type 0
IsDeskFault (Unreadable role) = Unit {0}
IsDeskFault (Unwritten given) = Unit {0}
IsDeskFault (Unsaid given) = Unit {0}
IsDeskFault other = ⊥

-- no count of reading, writing or saying rose
pub record IsQuiet (before now : Counts) : Type 0 where
  pub reading : Rose before.reading now.reading → ⊥
  pub writing : Rose before.writing now.writing → ⊥
  pub saying : Rose before.saying now.saying → ⊥

-- ---- what is left

-- the name has the first so many of these bytes, fewer than all; or none of them, where it wasn't even made
abbrev pub IsCutShort : File → ℕ → Seen → Seen → Type 0
IsCutShort file given s t =
    (given < length file.bytes)
    × (((given ≡ 0) × (t ≡ s)) ⊎ (t ≡ with_file file.name (take given file.bytes) s))

-- the file is written, if there is one
abbrev pub with_output : Option File → Seen → Seen
with_output None s = s
with_output (Some file) s = with_file file.name file.bytes s

-- a script is read behind a board that is accepted, and not too long
abbrev pub MayReadEdits : List ℕ → Type 0
MayReadEdits text = (length text ≤ 67108864) × IsBoardText text

-- the command reads a board; or it reads edits too, and the board is an accepted one
abbrev pub IsReading : Command → Role → Seen → Type 0
IsReading (commands.Fill input output threads rules) In s = Unit {0}
IsReading (commands.Refill input edits output threads rules) In s = Unit {0}
IsReading (commands.Report input rules) In s = Unit {0}
IsReading (commands.Generate seed size output) In s = ⊥
IsReading (commands.Fill input output threads rules) Edits s = ⊥
IsReading (commands.Refill input edits output threads rules) Edits s = MayReadEdits (content input s)
IsReading (commands.Report input rules) Edits s = ⊥
IsReading (commands.Generate seed size output) Edits s = ⊥

-- all that is due is written and said
abbrev pub LeavesDone : Duties → ℕ → List GivenWord → Seen → Seen → Type 0
LeavesDone d lines words s t =
    (file : Option File) × (said : List ℕ) × IsDue d words s (Pass file said lines)
    × (t ≡ with_said said (with_output file s))

-- the file that is due is cut
abbrev pub LeavesCut : Duties → ℕ → List GivenWord → Seen → Seen → Type 0
LeavesCut d given words s t =
    (file : File) × (said : List ℕ) × (lines : ℕ) × IsDue d words s (Pass (Some file) said lines)
    × IsCutShort file given s t

-- the file that is due is whole, and what is said is cut
abbrev pub LeavesUnsaid : Duties → ℕ → List GivenWord → Seen → Seen → Type 0
LeavesUnsaid d given words s t =
    (file : Option File) × (said : List ℕ) × (lines : ℕ) × IsDue d words s (Pass file said lines)
    × (given < length said) × (t ≡ with_said (take given said) (with_output file s))

-- the words are a command that reads this file, and all is left as it was
abbrev pub LeavesUnread : Duties → Role → List GivenWord → Seen → Seen → Type 0
LeavesUnread d role words s t =
    (command : Command) × (d.asked words ≡ Run command) × IsReading command role s × (t ≡ s)

-- What the work of a run leaves: t is told after it, where s was told before it. All that is due is written and said; or the
-- file is cut; or it is whole, and what is said is cut. Every other answer leaves all as it was, and a refusal is answered
-- just where it is due.
abbrev pub Leaves : Duties → Ended → List GivenWord → Seen → Seen → Type 0
Leaves d (Done lines) words s t = LeavesDone d lines words s t
Leaves d (Unwritten given) words s t = LeavesCut d given words s t
Leaves d (Unsaid given) words s t = LeavesUnsaid d given words s t
Leaves d (Unreadable role) words s t = LeavesUnread d role words s t
Leaves d Memory words s t = t ≡ s
Leaves d refusal words s t = IsDue d words s (Refuse refusal) × (t ≡ s)

-- What a run leaves: what its work leaves, and then some first bytes of its complaint; all of them unless the count of
-- complaining rose.
pub record Ends (d : Duties) (answer : Ended) (words : List GivenWord) (before now : Counts) (s : Seen) (new : Option Seen) : Type 0 where
  pub worked : Seen
  pub leaves : Leaves d answer words s worked
  pub said : ℕ
  pub within : said ≤ length (complaint_of answer)
  pub complained : new ≡ Some (with_complained (take said (complaint_of answer)) worked)
  pub whole : (Rose before.complaining now.complaining → ⊥) → new ≡ Some (with_complained (complaint_of answer) worked)

-- the answer to what is due, want of memory aside
abbrev pub IsAnswerTo : Ended → Due → Type 0
IsAnswerTo Memory due = Unit {0}
IsAnswerTo (Done lines) (Pass file said wanted_lines) = lines ≡ wanted_lines
IsAnswerTo answer due = due ≡ Refuse answer

-- ---- room

-- how many bytes a file takes, with its name
abbrev pub file_size : Option File → ℕ
file_size None = 0
file_size (Some file) = length file.name + length file.bytes

-- the room that a run may want: a complaint, the file that is due with its name, and what is to be said
pub record NeedsRoom (d : Duties) (words : List GivenWord) (s : Seen) (room : ℕ) : Type 0 where
  pub complaint : 256 ≤ room
  pub output : (file : Option File) (said : List ℕ) (lines : ℕ) → IsDue d words s (Pass file said lines)
      → file_size file + length said + 256 ≤ room

-- Where a desk tells its room, and so what it holds, there is room for the run.
abbrev pub HasRoomFor : Duties → List GivenWord → Option Seen → Option ℕ → Type 0
HasRoomFor d words told room = (r : ℕ) (s : Seen) → room ≡ Some r → told ≡ Some s → NeedsRoom d words s r
