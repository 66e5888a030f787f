use Rattle.cores.specs.Room.{spot}
use Rattle.cores.proofs.Cases.{area_in_room, line_in_room}
use Rattle.cores.proofs.close.is_in_room.Goals as goal

pub returns-in-Area : goal.returns-in-Area
returns-in-Area c = rw c.in-Area.is (area_in_room _ 1200000000 c.in-Area.b c.is_area_in_room.ensures)

pub returns-in-Line : goal.returns-in-Line
returns-in-Line c = rw c.in-Line.is (line_in_room _ 1200000000 (spot c.in-Line.w.from) (spot c.in-Line.w.to) c.is_line_in_room.ensures)
