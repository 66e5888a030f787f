use Rattle.std.proofs.Common.{◌≡◌, ◌-◌, ◌≤◌, length, take, Some}
use Rattle.desk.specs.Seen.{Told, with_complained}
use Rattle.desk.specs.Faults.{OnlyComplaining}
use Rattle.desk.specs.Room.{HasRoomTold}
use Rattle.desk.proofs.whole_files.complain_all.Given as goal

abbrev pub invariant-complaints : goal.invariant-complaints
invariant-complaints g l = record {
  within : l.given ≤ length l.bytes;
  so_far : Told (g.D.Desk.seen l.fn.desk) (λ s. g.D.Desk.seen l.desk ≡ Some (with_complained (take l.given l.bytes) s));
  room : HasRoomTold (g.D.Desk.room l.desk) (length l.bytes - l.given);
  later : (g.D.Desk.counts l.fn.desk).complaining ≤ (g.D.Desk.counts l.desk).complaining;
  others : OnlyComplaining (g.D.Desk.counts l.fn.desk) (g.D.Desk.counts l.desk);
}

abbrev pub decreases-complaints : goal.decreases-complaints
decreases-complaints g l = length l.bytes - l.given
