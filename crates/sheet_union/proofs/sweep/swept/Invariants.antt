use Rattle.std.proofs.Common.{◌≤◌, ◌-◌, length, drop, get_or}
use Rattle.std.specs.Prelude.{pos}
use Rattle.std.specs.List.{All}
use Rattle.strips.specs.Strips.{in_nanometres}
use Rattle.sheet_union.specs.Near.{IsNearStrip}
use Rattle.sheet_union.proofs.State.{IsState, IsSoFar}
use Rattle.sheet_union.proofs.sweep.swept.Given as goal

-- at the row before: which octagons wait, which are open, and the strips above it
abbrev pub invariant-slab : goal.invariant-slab
invariant-slab l = record {
  state : IsState l.octs (get_or l.rows (l.k - 1) (pos 0)) l.open.items (drop l.next l.octs);
  within : l.next ≤ length l.octs;
  strips : IsSoFar (in_nanometres l.octs) l.rows (drop (l.k - 1) l.rows) l.strips.items;
  near : All (λ s. IsNearStrip s) l.strips.items;
}
