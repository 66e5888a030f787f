use Rattle.std.proofs.Common.{◌≡◌, ℕ, ◌<◌, map, length, get_or}
use Rattle.std.specs.Arc.{arc_value}
use Rattle.rings.specs.Rings.{not_traced}
use Rattle.rings.specs.Outlines.{AreOutlines}
use Rattle.fill_rules.specs.Made.{no_fill}
use Rattle.outlines.specs.Drawn.{IsCovering, AreRingsInRange}
use Rattle.outlines.proofs.outlines_single.Given as goal

abbrev pub invariant-each : goal.invariant-each
invariant-each l = record {
  count : l.i ≡ length l.all.items;
  outlines : (k : ℕ) → k < length l.all.items → AreOutlines (get_or (map arc_value l.fills) k no_fill).pieces (get_or l.all.items k not_traced);
  cover : (k : ℕ) → k < length l.all.items → IsCovering (get_or (map arc_value l.fills) k no_fill).pieces (get_or l.all.items k not_traced);
  range : AreRingsInRange l.all.items;
}
