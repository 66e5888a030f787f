use Rattle.cores.specs.Room.{spot}
use Rattle.cores.proofs.Cases.{area_tight, area_room, from_room, to_room, line_case, lines_case}
use Rattle.cores.proofs.close.is_close_to_line.Goals as goal

pub is_area_close-requires-clause-tight : goal.is_area_close-requires-clause-tight
is_area_close-requires-clause-tight c = area_tight c.in-Area.b (rw c.in-Area.is at c.requires.whole)

pub is_area_close-requires-clause-room : goal.is_area_close-requires-clause-room
is_area_close-requires-clause-room c = area_room 1200000000 c.in-Area.b (rw c.in-Area.is at c.requires.other_room)

pub are_lines_close-requires-clause-u : goal.are_lines_close-requires-clause-u
are_lines_close-requires-clause-u c = from_room 1200000000 c.in-Line.v.from c.in-Line.v.to (rw c.in-Line.is at c.requires.other_room)

pub are_lines_close-requires-clause-v : goal.are_lines_close-requires-clause-v
are_lines_close-requires-clause-v c = to_room 1200000000 c.in-Line.v.from c.in-Line.v.to (rw c.in-Line.is at c.requires.other_room)

pub returns-in-Area : goal.returns-in-Area
returns-in-Area c = rw c.in-Area.is (line_case _ c.args.a c.in-Area.b (spot c.args.w.from) (spot c.args.w.to) c.is_area_close.ensures)

pub returns-in-Line : goal.returns-in-Line
returns-in-Line c =
    rw c.in-Line.is
    (lines_case _ c.args.a (spot c.args.w.from) (spot c.args.w.to) (spot c.in-Line.v.from) (spot c.in-Line.v.to) c.are_lines_close.ensures)
