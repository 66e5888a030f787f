use Rattle.std.proofs.Common.{◌≡◌, ◌-◌, ◌≤◌, length, take, Some}
use Rattle.desk.specs.Seen.{Told, with_said}
use Rattle.desk.specs.Faults.{OnlySaying}
use Rattle.desk.specs.Room.{HasRoomTold, Spends}
use Rattle.desk.proofs.whole_files.say_all.Given as goal

abbrev pub invariant-sayings : goal.invariant-sayings
invariant-sayings g l = record {
  within : l.given ≤ length l.bytes;
  so_far : Told (g.D.Desk.seen l.fn.desk) (λ s. g.D.Desk.seen l.desk ≡ Some (with_said (take l.given l.bytes) s));
  room : HasRoomTold (g.D.Desk.room l.desk) (length l.bytes - l.given);
  spent : Spends (g.D.Desk.room l.fn.desk) (g.D.Desk.room l.desk) l.given;
  later : (g.D.Desk.counts l.fn.desk).saying ≤ (g.D.Desk.counts l.desk).saying;
  others : OnlySaying (g.D.Desk.counts l.fn.desk) (g.D.Desk.counts l.desk);
}

abbrev pub decreases-sayings : goal.decreases-sayings
decreases-sayings g l = length l.bytes - l.given
