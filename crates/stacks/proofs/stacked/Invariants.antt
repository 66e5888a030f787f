use Rattle.std.proofs.Common.{take}
use Rattle.stacks.specs.Places.{ArePlaces}
use Rattle.stacks.specs.Inner.Piles.{AreStacked}
use Rattle.stacks.proofs.stacked.Given as goal

abbrev pub invariant-each : goal.invariant-each
invariant-each l = record {
  stacked : AreStacked (take l.i l.pieces) l.piles;
  placed : ArePlaces (take l.i l.pieces) l.piles l.places.items;
}
