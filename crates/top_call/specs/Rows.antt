-- Words worked by hand.
use Rattle.std.specs.Prelude.{◌≡◌, [], ◌∷◌}
use lib.Chars.{codes}
use Rattle.run_rules.specs.declared.words.UsageFault.TheVariants.{Words, SameName, Threads, Size}
use Rattle.run_rules.specs.declared.words.Command.TheVariants.{Fill, Report, Generate}
use Rattle.run_rules.specs.Words.Wanted.{Wrong, Run}
use Rattle.run_rules.specs.Rows.{a, b, usual}
use Rattle.top_call.specs.Today.{asked_today}

-- what words want of the program that has all commands but `refill`
pub record WordsRows : Type 0 where
  pub fill : asked_today (codes "fill" ∷ a ∷ b ∷ []) ≡ Run (Fill a b 1 usual)
  pub option : asked_today (codes "fill" ∷ a ∷ codes "--threads=2" ∷ b ∷ []) ≡ Run (Fill a b 2 usual)
  pub names : asked_today (codes "fill" ∷ codes "--" ∷ a ∷ codes "-b" ∷ []) ≡ Run (Fill a (codes "-b") 1 usual)
  pub report : asked_today (codes "report" ∷ a ∷ []) ≡ Run (Report a usual)
  pub same_name : asked_today (codes "fill" ∷ a ∷ a ∷ []) ≡ Wrong SameName
  pub threads : asked_today (codes "fill" ∷ a ∷ b ∷ codes "--threads=65" ∷ []) ≡ Wrong Threads
  pub nothing : asked_today [] ≡ Wrong Words
  pub generate : asked_today (codes "generate" ∷ codes "7" ∷ codes "200" ∷ b ∷ []) ≡ Run (Generate 7 200 b)
  pub size : asked_today (codes "generate" ∷ codes "0" ∷ codes "201" ∷ b ∷ []) ≡ Wrong Size
  -- the command that is missing, whatever its faults
  pub refill : asked_today (codes "refill" ∷ a ∷ a ∷ b ∷ []) ≡ Wrong Words
