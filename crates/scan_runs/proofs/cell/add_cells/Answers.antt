use Rattle.std.proofs.Common.{arith}
use Rattle.std.proofs.lemmas.Int.{ints}
use Rattle.plane.specs.Plane.{IsOct}
use Rattle.grid_sets.specs.Cells.{cell_of}
use Rattle.scan_runs.specs.Strips.{band_of}
use Rattle.scan_runs.proofs.Steps.{good_at}
use Rattle.scan_runs.proofs.CellLaws.{all_map_at, cell_oct_as, cell_same, run_cells_more}
use Rattle.scan_runs.proofs.cell.add_cells.Goals as goal

pub octagon_of-oct-requires-clause-run : goal.octagon_of-oct-requires-clause-run
octagon_of-oct-requires-clause-run c = rw c.index.ensures (good_at c.args.strip.now.runs.items c.runs.i _ c.requires.strip.runs (omega (arith, c.runs-test.true, c.len-i-end.ensures, c.args.strip.now.runs.ok)))

pub octagon_of-oct-requires-clause-oct : goal.octagon_of-oct-requires-clause-oct
octagon_of-oct-requires-clause-oct c =
    rw c.index.ensures
    (cell_oct_as c.args.strip.now.top _ c.args.strip.now.more _ (omega (arith, ints, c.requires.strip.top))
    (all_map_at IsOct (cell_of c.args.strip.now.top c.args.strip.now.more) c.args.strip.now.runs.items c.runs.i _ c.requires.octs (omega (arith, c.runs-test.true, c.len-i-end.ensures, c.args.strip.now.runs.ok))))

pub runs-preserved : goal.runs-preserved
runs-preserved c =
    rw c.in_ok-push.ensures.items
    (run_cells_more (band_of c.args.strip.now) c.args.band c.runs.i _ c.args.strip.now.runs.items _ c.octagon_of-oct.result c.runs.cells.items c.args.cells.now.items (omega (arith, c.runs-test.true, c.len-i-end.ensures, c.args.strip.now.runs.ok)) c.in_ok-run.ensures
    (cell_same c.args.strip.now.top _ c.args.strip.now.more _ _ c.octagon_of-oct.result (omega (arith, ints, c.requires.strip.top)) c.index.ensures c.octagon_of-oct.ensures) c.runs.invariant)
