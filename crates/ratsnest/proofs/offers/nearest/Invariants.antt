use Rattle.std.proofs.Common.{List}
use Rattle.std.specs.List.{All}
use Rattle.ratsnest.specs.declared.Anchor.{Anchor}
use Rattle.ratsnest.specs.Inner.Best.{IsSoundOffer}
use Rattle.ratsnest.proofs.Ring.{IsNearestOf}
use Rattle.ratsnest.proofs.offers.nearest.Given as goal

abbrev pub invariant-each : goal.invariant-each
invariant-each l = (xs : List Anchor) → All (λ o. IsSoundOffer xs o) l.left → IsNearestOf xs l.left l.o-index l.best
