use Rattle.cores.proofs.Cases.{area_tight, area_room, from_room, to_room}
use Rattle.cores.proofs.close.are_close.Goals as goal

pub is_close_to_area-requires-clause-tight : goal.is_close_to_area-requires-clause-tight
is_close_to_area-requires-clause-tight c = area_tight c.in-Area.b (rw c.in-Area.is at c.requires.first_whole)

pub is_close_to_area-requires-clause-room : goal.is_close_to_area-requires-clause-room
is_close_to_area-requires-clause-room c = area_room 1200000000 c.in-Area.b (rw c.in-Area.is at c.requires.first_room)

pub is_close_to_line-requires-clause-from : goal.is_close_to_line-requires-clause-from
is_close_to_line-requires-clause-from c = from_room 1200000000 c.in-Line.w.from c.in-Line.w.to (rw c.in-Line.is at c.requires.first_room)

pub is_close_to_line-requires-clause-to : goal.is_close_to_line-requires-clause-to
is_close_to_line-requires-clause-to c = to_room 1200000000 c.in-Line.w.from c.in-Line.w.to (rw c.in-Line.is at c.requires.first_room)
