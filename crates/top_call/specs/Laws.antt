-- The laws of runs that are done.
use Rattle.std.specs.Prelude.{◌≡◌, ℕ, List, Option}
use Rattle.desk.specs.declared.Counts.{Counts}
use Rattle.desk.specs.Seen.{Seen}
use Rattle.board_language.specs.declared.board.Rules.{Rules}
use Rattle.run_rules.specs.declared.ended.Ended.TheVariants.{Done}
use Rattle.run_rules.specs.declared.words.Command.TheVariants.{Fill}
use Rattle.run_rules.specs.Words.{GivenWord}
use Rattle.run_rules.specs.Words.Wanted.{Run}
use Rattle.run_rules.specs.Leaves.{Ends}
use Rattle.top_call.specs.Today.{today, asked_today}

-- Two runs that are done, of the same words over the same contents, leave the same and count the same lines.
abbrev pub SameEndLaw : Type 0
SameEndLaw =
    (words : List GivenWord) (s : Seen) (lines others : ℕ) (before now old new : Counts) (left other : Option Seen)
    → Ends today (Done lines) words before now s left → Ends today (Done others) words old new s other → (lines ≡ others) × (left ≡ other)

-- Two runs of `fill` that are done over the same contents, of words that want the same but for the number of workers, leave the
-- same and count the same lines.
abbrev pub SameWorkersLaw : Type 0
SameWorkersLaw =
    (words more : List GivenWord) (input output : List ℕ) (one many : ℕ) (rules : Rules) (s : Seen) (lines others : ℕ) (before now old new : Counts) (left other : Option Seen)
    → asked_today words ≡ Run (Fill input output one rules) → asked_today more ≡ Run (Fill input output many rules)
    → Ends today (Done lines) words before now s left → Ends today (Done others) more old new s other → (lines ≡ others) × (left ≡ other)
