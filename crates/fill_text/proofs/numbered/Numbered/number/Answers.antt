use Rattle.std.proofs.Common.{◌∙◌, ap, List, ℕ, get_or, length, ◌-◌, map}
use Rattle.std.specs.Prelude.{min}
use Rattle.std.specs.Arc.{arc_value}
use Rattle.fill_rules.specs.Made.{no_fill}
use Rattle.fill_text.specs.Inner.Numbers.{number_of_part}
use Rattle.fill_text.proofs.Counted.{number_is}
use Rattle.fill_text.proofs.numbered.Numbered.number.Goals as goal

pub returns-clause-number : goal.returns-clause-number
returns-clause-number c =
    let fs = map arc_value c.args.fills.now in
    c.number_in.ensures ∙ ap (λ (ns : List ℕ). get_or ns (min c.args.first (length ns - 1)) 0) c.deref.ensures.value
    ∙ number_is _ _ c.args.first c.in_ok-turn_to.ensures.kept ∙ ap (λ (r : ℕ). number_of_part (get_or fs r no_fill).parts c.args.first) c.in_ok-turn_to.ensures.fill
