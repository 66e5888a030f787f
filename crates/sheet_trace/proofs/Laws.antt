-- The laws of the loops and rings of any sheet.
use Rattle.rings.proofs.Laws.{one_loops_law as one_loops, one_rings_law as one_rings, loops_cover_law as loops_cover, rings_cover_law as rings_cover, union_cover_law as union_cover}
use Rattle.sheet_trace.specs.Laws.{OneSheetLoopsLaw, OneSheetRingsLaw, SheetLoopsCoverLaw, SheetRingsCoverLaw, SheetUnionCoverLaw}
use Rattle.sheet_trace.proofs.Outlines.{orderly}

pub one_loops_law : OneSheetLoopsLaw
one_loops_law ss loops others o a b = one_loops ss loops others (orderly ss o) a b

pub one_rings_law : OneSheetRingsLaw
one_rings_law ss rings others o a b = one_rings ss rings others (orderly ss o) a b

pub loops_cover_law : SheetLoopsCoverLaw
loops_cover_law ss loops p o a = loops_cover ss loops p (orderly ss o) a

pub rings_cover_law : SheetRingsCoverLaw
rings_cover_law ss rings p o a = rings_cover ss rings p (orderly ss o) a

pub union_cover_law : SheetUnionCoverLaw
union_cover_law os ss rings p o c a = union_cover os ss rings p (orderly ss o) c a
