use Rattle.scan_runs.proofs.OfSet.{cells_are_octs, cells_by, none_by}
use Rattle.scan_runs.proofs.cells_of.Goals as goal

pub numbered-requires-clause-octs : goal.numbered-requires-clause-octs
numbered-requires-clause-octs c =
    rw c.deref-2.ensures.value
    (cells_are_octs c.args.octs.now c.in_ok-strips.strips.items c.in_ok-bands.bands.items c.in_ok-strips.ensures.rows c.in_ok-strips.ensures.reach (rw c.deref.ensures.value at c.in_ok-bands.ensures))

pub returns-clause-cells : goal.returns-clause-cells
returns-clause-cells c =
    cells_by (λ v. v.items) c.args.octs.now c.in_ok-strips.strips.items c.in_ok-bands.bands.items c.numbered.result c.in_ok-strips.ensures.rows (rw c.deref.ensures.value at c.in_ok-bands.ensures)
    (rw c.deref-2.ensures.value at c.numbered.ensures)

pub returns-clause-none : goal.returns-clause-none
returns-clause-none c =
    none_by (λ v. v.items) c.args.octs.now c.in_ok-strips.strips.items c.in_ok-bands.bands.items c.numbered.result c.in_ok-strips.ensures.rows (rw c.deref.ensures.value at c.in_ok-bands.ensures)
    (rw c.deref-2.ensures.value at c.numbered.ensures)
