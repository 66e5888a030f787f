use Rattle.copper_shape.proofs.Areas.{line_ends, area_tight, area_around}
use Rattle.copper_shape.proofs.hulls_of.Goals as goal

pub segment_hulls-requires-clause-from : goal.segment_hulls-requires-clause-from
segment_hulls-requires-clause-from c = (line_ends 2000000000 c.in-Line.line.from c.in-Line.line.to c.args.core.now c.in-Line.ensures.value c.requires.within).0

pub segment_hulls-requires-clause-to : goal.segment_hulls-requires-clause-to
segment_hulls-requires-clause-to c = (line_ends 2000000000 c.in-Line.line.from c.in-Line.line.to c.args.core.now c.in-Line.ensures.value c.requires.within).1

pub area_hulls-requires-clause-tight : goal.area_hulls-requires-clause-tight
area_hulls-requires-clause-tight c = area_tight c.in-Area.bounds c.args.core.now c.in-Area.ensures.value c.requires.whole

pub area_hulls-requires-clause-within : goal.area_hulls-requires-clause-within
area_hulls-requires-clause-within c = area_around 2000000000 c.in-Area.bounds c.args.core.now c.in-Area.ensures.value c.requires.within
