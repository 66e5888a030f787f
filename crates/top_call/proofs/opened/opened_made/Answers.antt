use Rattle.std.proofs.Common.{◌≡◌, ◌∙◌, sym, subst}
use Rattle.sexpr_text.specs.Items.{Item}
use Rattle.sexpr_text.specs.Trees.{IsRoot}
use Rattle.board_language.specs.Reading.{IsAccepted}
use Rattle.board_gen.specs.Generated.{generated}
use Rattle.top_call.proofs.Stops.{made_refused}
use Rattle.top_call.proofs.opened.opened_made.Goals as goal

pub returns-in-Err-clause-memory : goal.returns-in-Err-clause-memory
returns-in-Err-clause-memory c =
    let same : c.deref.result.now ≡ generated c.args.seed c.args.size = c.deref.ensures.value ∙ c.in-Ok.ensures in
    let made : (root : Item) × IsRoot c.deref.result.now root × IsAccepted c.deref.result.now root =
    subst (λ t. (root : Item) × IsRoot t root × IsAccepted t root) (sym same) (c.made_law.ensures c.args.seed c.args.size c.ranges.seed.fits c.requires.0 c.requires.1) in
    c.refused.ensures ∙ made_refused c.deref.result.now c.in-Err.refusal made c.in-Err.ensures.refused
