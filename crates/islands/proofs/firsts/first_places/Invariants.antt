use Rattle.std.proofs.Common.{◌≡◌, take, map}
use Rattle.islands.proofs.FirstPlaces.{label_of}
use Rattle.islands.proofs.firsts.first_places.Given as goal

abbrev pub invariant-each : goal.invariant-each
invariant-each l = l.labels.items ≡ map (label_of l.places l.classes l.firsts.items) (take l.stack-index l.places)
