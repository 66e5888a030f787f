use Rattle.std.proofs.Common.{◌≡◌, ◌++◌, map, take}
use Rattle.clusters.proofs.anchors.add_ends.Given as goal

abbrev pub invariant-each : goal.invariant-each
invariant-each l = l.anchors.items ≡ l.initial.anchors.items ++ map (λ p. record { at = p; cluster = l.cluster }) (take l.end-index l.ends)
