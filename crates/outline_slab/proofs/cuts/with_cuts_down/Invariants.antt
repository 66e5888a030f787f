use Rattle.std.proofs.Common.{◌≡◌}
use Rattle.std.specs.Prelude.{◌-ℤ◌, ◌<ℤ◌}
use Rattle.std.specs.Int.RustNames.{unsigned_abs}
use Rattle.slabs.specs.Slabs.{IsAmong}
use Rattle.slabs.specs.Inner.Cutting.{AreNeighbourRows, IsRest}
use Rattle.outline_slab.specs.Inner.Side.{side_edge}
use Rattle.outline_slab.specs.Cuts.{all_edges}
use Rattle.outline_slab.proofs.cuts.with_cuts_down.Given as goal

-- all cuts of the side so far but for the rest, and the next row of that
abbrev pub invariant-row : goal.invariant-row
invariant-row l = record {
  rest : IsRest l.rows (side_edge l.side) (all_edges l.fn.cuts.items) (all_edges l.cuts.items) (side_edge l.rest);
  finish : l.rest.finish ≡ l.side.finish;
  after : l.rest.start.y <ℤ l.row;
  is : IsAmong l.rows l.row;
  next : AreNeighbourRows l.rows l.rest.start.y l.row;
}

abbrev pub decreases-row : goal.decreases-row
decreases-row l = unsigned_abs (l.side.finish.y -ℤ l.row)
