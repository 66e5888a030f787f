use Rattle.cores.specs.Room.{spot}
use Rattle.cores.proofs.Cases.{area_tight, area_room, from_room, to_room, areas_case, area_case}
use Rattle.cores.proofs.close.is_close_to_area.Goals as goal

pub are_areas_close-requires-clause-second_tight : goal.are_areas_close-requires-clause-second_tight
are_areas_close-requires-clause-second_tight c = area_tight c.in-Area.c (rw c.in-Area.is at c.requires.whole)

pub are_areas_close-requires-clause-second_room : goal.are_areas_close-requires-clause-second_room
are_areas_close-requires-clause-second_room c = area_room 1200000000 c.in-Area.c (rw c.in-Area.is at c.requires.other_room)

pub is_area_close-requires-clause-s : goal.is_area_close-requires-clause-s
is_area_close-requires-clause-s c = from_room 1200000000 c.in-Line.w.from c.in-Line.w.to (rw c.in-Line.is at c.requires.other_room)

pub is_area_close-requires-clause-t : goal.is_area_close-requires-clause-t
is_area_close-requires-clause-t c = to_room 1200000000 c.in-Line.w.from c.in-Line.w.to (rw c.in-Line.is at c.requires.other_room)

pub returns-in-Area : goal.returns-in-Area
returns-in-Area c = rw c.in-Area.is (areas_case _ c.args.a c.args.b.now c.in-Area.c c.are_areas_close.ensures)

pub returns-in-Line : goal.returns-in-Line
returns-in-Line c = rw c.in-Line.is (area_case _ c.args.a c.args.b.now (spot c.in-Line.w.from) (spot c.in-Line.w.to) c.is_area_close.ensures)
