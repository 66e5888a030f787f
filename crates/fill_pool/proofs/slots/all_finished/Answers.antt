use Rattle.std.proofs.Common.{◌≡◌, refl, subst, ℕ, List, get_or}
use Rattle.std.specs.List.{All}
use Rattle.std.proofs.lemmas.List.{take_all}
use Rattle.std.proofs.lemmas.List.Elements.{All-more}
use Rattle.pool_rules.specs.declared.Slot.{Slot}
use Rattle.pool_rules.specs.declared.Slot.TheVariants.{Finished}
use Rattle.fill_pool.proofs.slots.all_finished.Goals as goal

abbrev IsDone : List Slot → ℕ → Type 0
IsDone slots j = get_or slots j Finished ≡ Finished

pub each-preserved : goal.each-preserved
each-preserved c =
    All-more (IsDone c.args.slots.now) c.args.row.now c.each.j-index 0 c.each-test.true c.each.invariant (c.is_finished.ensures.0 c.if-not-is_finished.false)

pub returns : goal.returns
returns c = (λ t. subst (All (IsDone c.args.slots.now)) (take_all c.each.j-index c.args.row.now c.each-test.false) c.each.invariant, λ a. refl)
