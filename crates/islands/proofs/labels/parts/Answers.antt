use Rattle.std.proofs.Common.{subst, ℕ, List, []}
use Rattle.islands.specs.Inner.Firsts.{AreFirstPlaces}
use Rattle.islands.proofs.Stacked.{stack_classes, parts_by_stacks}
use Rattle.islands.proofs.labels.parts.Goals as goal

pub first_places-requires : goal.first_places-requires
first_places-requires c =
    rw (c.deref.ensures.value, c.deref-2.ensures.value)
    (stack_classes c.args.octs.now c.in_ok-stacking.stacking.stacks.items c.in_ok-stacking.stacking.places.items c.in_ok-stacking.ensures.places c.in_ok-classes.classes.items []
    c.in_ok-classes.ensures)

pub returns : goal.returns
returns c =
    parts_by_stacks c.args.octs.now c.in_ok-stacking.stacking.stacks.items c.in_ok-stacking.stacking.places.items c.in_ok-stacking.ensures.places c.in_ok-classes.classes.items c.in_ok-labels.labels.items
    c.in_ok-classes.ensures
    (subst (λ (z : List ℕ). AreFirstPlaces z c.in_ok-classes.classes.items c.in_ok-labels.labels.items) c.deref.ensures.value
    (subst (λ (z : List ℕ). AreFirstPlaces c.deref.result.now z c.in_ok-labels.labels.items) c.deref-2.ensures.value c.in_ok-labels.ensures))
