use Rattle.std.proofs.Common.{◌≡◌, ◌+◌, drop, map, length}
use Rattle.std.specs.Prelude.{sum}
use Rattle.rings.specs.Rings.{Traced}
use Rattle.top_call.proofs.finished.totals_of.Given as goal

-- the totals so far and those of the outlines to come are all
abbrev pub invariant-each : goal.invariant-each
invariant-each l = record {
  polygons : l.polygons + sum (map (λ (o : Traced). length o.rings) (drop l.outlines-index l.traced)) ≡ sum (map (λ (o : Traced). length o.rings) l.traced);
  area2 : l.area2 + sum (map (λ (o : Traced). o.area2) (drop l.outlines-index l.traced)) ≡ sum (map (λ (o : Traced). o.area2) l.traced);
}
