use Rattle.std.proofs.Common.{arith}
use Rattle.copper_shape.proofs.CellLists.{cells_step, cells_end}
use Rattle.copper_shape.proofs.cells.cells.Goals as goal

pub each-preserved : goal.each-preserved
each-preserved c =
    cells_step c.args.n c.each.place-index c.args.places.now c.each.cells.items _ _ _ c.each-test.true c.each.invariant c.cell.ensures c.in_ok-extend_from_slice.ensures.items

pub returns : goal.returns
returns c = cells_end c.args.n c.each.place-index c.args.places.now c.each.cells.items (omega arith) c.each.invariant
