use Rattle.std.proofs.Common.{◌≡◌, ◌∙◌, sym, ap, arith, ◌<◌, ◌≤◌, false, true, List, [], ◌∷◌, length, map}
use Rattle.std.specs.Prelude.{if◌then◌else◌}
use Rattle.run_rules.specs.declared.words.Flag.TheVariants.{Threads}
use Rattle.run_rules.specs.declared.words.UsageFault.{UsageFault}
use Rattle.run_rules.specs.declared.words.UsageFault.TheVariants as fault
use Rattle.run_rules.specs.declared.words.Command.TheVariants.{Report}
use Rattle.run_rules.specs.Words.{GivenWord, Settings, has_flag, rules_in, checked, report_of}
use Rattle.run_rules.specs.Words.Wanted.{Wrong}
use Rattle.run_rules.specs.Read.{settings_shown, IsValueFault}
use Rattle.run_rules.proofs.commands.report_of.Goals as goal

faulty : {X : Type 0} (f : X → GivenWord) (xs : List X) (settings : Settings) (why : UsageFault) → 1 ≤ length xs → length xs < 2 → has_flag Threads settings ≡ false
    → IsValueFault why settings → report_of (map f xs) settings ≡ Wrong why
faulty f [] settings why l k e h = absurd (omega (arith, l))
faulty f (x ∷ []) settings why l k e h =
    ap (λ b. if b then Wrong fault.Words else checked settings true (Report (f x) (rules_in settings))) e ∙ h true (Report (f x) (rules_in settings))
faulty f (x ∷ y ∷ xs) settings why l k e h = absurd (omega (arith, k))

pub returns-in-Err : goal.returns-in-Err
returns-in-Err c =
    faulty (λ n. n.now) c.args.names.now (settings_shown c.args.settings.now) c.in-Err.fault c.in-len1.len_at_least c.in-len1.len_below (sym c.has.ensures ∙ c.if-has.false) c.in-Err.ensures
