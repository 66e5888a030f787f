use Rattle.std.proofs.lemmas.List.Elements.{All-nil}
use Rattle.strips.specs.Strips.{HasInside}
use Rattle.geometry_tests.proofs.shapes.octagons.Goals as goal

pub each-init : goal.each-init
each-init c = rw c.new-octs.ensures.items (All-nil (λ o. HasInside o))
