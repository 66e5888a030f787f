use Rattle.std.proofs.Common.{◌≡◌, ◌+◌, ◌-◌, ◌≤◌, length, take, Some}
use Rattle.desk.specs.Seen.{Told, with_file}
use Rattle.desk.specs.Faults.{OnlyWriting}
use Rattle.desk.specs.Room.{cost_of, HasRoomTold, Spends}
use Rattle.desk.proofs.whole_files.write_all.Given as goal

abbrev pub invariant-writes : goal.invariant-writes
invariant-writes g l = record {
  within : l.given ≤ length l.bytes;
  so_far : Told (g.D.Desk.seen l.fn.desk) (λ s. g.D.Desk.seen l.desk ≡ Some (with_file l.name (take l.given l.bytes) s));
  made : cost_of (g.D.Desk.seen l.desk) l.name ≡ 0;
  room : HasRoomTold (g.D.Desk.room l.desk) (length l.bytes - l.given);
  spent : Spends (g.D.Desk.room l.fn.desk) (g.D.Desk.room l.desk) (cost_of (g.D.Desk.seen l.fn.desk) l.name + l.given);
  later : (g.D.Desk.counts l.fn.desk).writing ≤ (g.D.Desk.counts l.desk).writing;
  others : OnlyWriting (g.D.Desk.counts l.fn.desk) (g.D.Desk.counts l.desk);
}

abbrev pub decreases-writes : goal.decreases-writes
decreases-writes g l = length l.bytes - l.given
