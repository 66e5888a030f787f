use Rattle.std.proofs.Common.{◌≡◌, take}
use Rattle.outline_slab.specs.Inner.Exchange.{all_exchanged}
use Rattle.outline_slab.proofs.sweep.exchanged.Given as goal

abbrev pub invariant-each : goal.invariant-each
invariant-each l = l.turned.items ≡ all_exchanged (take l.corner-index l.corners)
