-- Words worked by hand, and what runs complain.
use Rattle.std.specs.Prelude.{◌≡◌, [], ◌∷◌}
use lib.Chars.{codes}
use Rattle.board_language.specs.declared.board.Rules.{Rules}
use Rattle.board_language.specs.declared.offence.OffenceKind.TheVariants.{UnknownLayer}
use Rattle.edit_language.specs.declared.edit.EditRefusal.TheVariants.{Breaks}
use Rattle.run_rules.specs.declared.words.UsageFault.TheVariants as fault
use Rattle.run_rules.specs.declared.words.Command.TheVariants.{Fill, Refill, Report, Generate}
use Rattle.run_rules.specs.declared.ended.Ended.TheVariants.{TooLong, EditRefused, Unsaid}
use Rattle.run_rules.specs.declared.ended.Role.TheVariants.{Edits}
use Rattle.run_rules.specs.Words.{GivenWord, wanted}
use Rattle.run_rules.specs.Words.Wanted.{Wrong, Run}
use Rattle.run_rules.specs.Items.{items_in}
use Rattle.run_rules.specs.Complaint.{complaint_of}

-- a name
abbrev pub a : GivenWord
a = codes "a"

-- another name
abbrev pub b : GivenWord
b = codes "b"

-- the clearances where no option says otherwise: 0.2 mm, and 0.5 mm to the board's edge
abbrev pub usual : Rules
usual = record { floor = 200000; edge = 500000 }

-- ---- words that are a command

-- words that want a command
pub record CommandRows : Type 0 where
  pub fill : wanted (codes "fill" ∷ a ∷ b ∷ []) ≡ Run (Fill a b 1 usual)
  pub threads : wanted (codes "fill" ∷ a ∷ b ∷ codes "--threads=064" ∷ []) ≡ Run (Fill a b 64 usual)
  -- options stand anywhere behind the command
  pub anywhere : wanted (codes "fill" ∷ codes "--clearance" ∷ codes "0.3" ∷ a ∷ codes "--edge-clearance=1" ∷ b ∷ []) ≡ Run (Fill a b 1 (record { floor = 300000; edge = 1000000 }))
  -- behind `--` every word is a name, and `-` is one anywhere
  pub names : wanted (codes "fill" ∷ codes "-" ∷ codes "--" ∷ codes "--threads" ∷ []) ≡ Run (Fill (codes "-") (codes "--threads") 1 usual)
  -- a second `--` is a name, and a name may be empty
  pub second_dashes : wanted (codes "fill" ∷ codes "--" ∷ codes "--" ∷ [] ∷ []) ≡ Run (Fill (codes "--") [] 1 usual)
  pub refill : wanted (codes "refill" ∷ a ∷ b ∷ codes "c" ∷ []) ≡ Run (Refill a b (codes "c") 1 usual)
  pub report : wanted (codes "report" ∷ a ∷ []) ≡ Run (Report a usual)
  pub generate : wanted (codes "generate" ∷ codes "7" ∷ codes "200" ∷ b ∷ []) ≡ Run (Generate 7 200 b)

-- ---- words that are none

-- words that are refused, each for its fault
pub record FaultRows : Type 0 where
  pub nothing : wanted [] ≡ Wrong fault.Words
  pub unknown : wanted (codes "file" ∷ a ∷ b ∷ []) ≡ Wrong fault.Words
  pub one_name : wanted (codes "fill" ∷ a ∷ []) ≡ Wrong fault.Words
  pub help : wanted (codes "fill" ∷ a ∷ b ∷ codes "--help" ∷ []) ≡ Wrong fault.Words
  pub twice : wanted (codes "fill" ∷ a ∷ b ∷ codes "--threads=1" ∷ codes "--threads=1" ∷ []) ≡ Wrong fault.Words
  pub no_value : wanted (codes "fill" ∷ a ∷ b ∷ codes "--threads" ∷ []) ≡ Wrong fault.Words
  pub value_as_option : wanted (codes "fill" ∷ a ∷ b ∷ codes "--threads" ∷ codes "-1" ∷ []) ≡ Wrong fault.Words
  -- `-` is no value that is a word of its own, and a wrong one behind `=`
  pub dash_as_value : wanted (codes "fill" ∷ a ∷ b ∷ codes "--threads" ∷ codes "-" ∷ []) ≡ Wrong fault.Words
  pub joined_dash : wanted (codes "fill" ∷ a ∷ b ∷ codes "--threads=-" ∷ []) ≡ Wrong fault.Threads
  pub shortened : wanted (codes "fill" ∷ a ∷ b ∷ codes "--thread=2" ∷ []) ≡ Wrong fault.Words
  pub report_threads : wanted (codes "report" ∷ a ∷ codes "--threads" ∷ codes "2" ∷ []) ≡ Wrong fault.Words
  pub generate_names : wanted (codes "generate" ∷ codes "0" ∷ codes "1" ∷ []) ≡ Wrong fault.Words
  pub threads : wanted (codes "fill" ∷ a ∷ b ∷ codes "--threads" ∷ codes "65" ∷ []) ≡ Wrong fault.Threads
  pub empty_threads : wanted (codes "fill" ∷ a ∷ b ∷ codes "--threads=" ∷ []) ≡ Wrong fault.Threads
  pub length : wanted (codes "fill" ∷ a ∷ b ∷ codes "--clearance=0" ∷ []) ≡ Wrong fault.Length
  pub edge_length : wanted (codes "report" ∷ a ∷ codes "--edge-clearance=100.1" ∷ []) ≡ Wrong fault.Length
  pub seed : wanted (codes "generate" ∷ codes "18446744073709551616" ∷ codes "1" ∷ b ∷ []) ≡ Wrong fault.Seed
  pub size : wanted (codes "generate" ∷ codes "0" ∷ codes "201" ∷ b ∷ []) ≡ Wrong fault.Size
  pub same_name : wanted (codes "fill" ∷ a ∷ a ∷ []) ≡ Wrong fault.SameName
  pub same_output : wanted (codes "refill" ∷ a ∷ b ∷ a ∷ []) ≡ Wrong fault.SameName

-- ---- of several faults the first counts

-- words with several faults, which are refused for the first
pub record OrderRows : Type 0 where
  pub words : wanted (codes "fill" ∷ a ∷ codes "--threads=65" ∷ []) ≡ Wrong fault.Words
  pub threads : wanted (codes "fill" ∷ a ∷ a ∷ codes "--clearance=0" ∷ codes "--threads=65" ∷ []) ≡ Wrong fault.Threads
  pub length : wanted (codes "refill" ∷ a ∷ a ∷ b ∷ codes "--clearance=0" ∷ []) ≡ Wrong fault.Length
  pub seed : wanted (codes "generate" ∷ codes "x" ∷ codes "0" ∷ b ∷ []) ≡ Wrong fault.Seed

-- ---- complaints, and items of a made board

-- what answers complain, and how many items a made board has
pub record ComplaintRows : Type 0 where
  pub too_long : complaint_of (TooLong Edits 67108865) ≡ codes "zonefill: EDITS is too long\n"
  pub breaks : complaint_of (EditRefused 3 (Breaks (record { at = 400; line = 13; kind = UnknownLayer }))) ≡ codes "zonefill: edit 3: line 13: UnknownLayer\n"
  pub unsaid : complaint_of (Unsaid 10) ≡ codes "zonefill: report was cut after 10 bytes\n"
  -- the board of one cell of the seed 0 has no item
  pub items : items_in 0 1 ≡ 0
