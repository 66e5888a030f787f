use Rattle.plane.specs.Plane.{IsOct}
use Rattle.scan_runs.proofs.CellLaws.{all_band_at, good_band_at, numbered_more}
use Rattle.scan_runs.proofs.cell.numbered.Goals as goal

pub add_cells-requires-clause-strip : goal.add_cells-requires-clause-strip
add_cells-requires-clause-strip c = rw c.index-bands-i.is (good_band_at c.args.bands.now c.bands.i _ c.requires.bands c.bands-test.true)

pub add_cells-requires-clause-octs : goal.add_cells-requires-clause-octs
add_cells-requires-clause-octs c = rw c.index-bands-i.is (all_band_at IsOct c.args.bands.now c.bands.i _ c.requires.octs c.bands-test.true)

pub bands-preserved : goal.bands-preserved
bands-preserved c =
    numbered_more c.bands.i _ c.args.bands.now _ c.index-bands-i.result c.bands.cells.items c.add_cells.new.cells.items c.bands-test.true c.index-bands-i.is c.in_ok-number.ensures c.bands.invariant c.in_ok-add_cells.ensures
