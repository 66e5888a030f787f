use Rattle.std.proofs.Common.{◌≡◌, ◌-◌, ◌≤◌, length, take}
use Rattle.desk.specs.Seen.{Told, content}
use Rattle.desk.specs.Faults.{OnlyReading}
use Rattle.desk.proofs.whole_files.read_all.Given as goal

abbrev pub invariant-reads : goal.invariant-reads
invariant-reads g l = record {
  piece : length l.piece ≡ 65536;
  so_far : Told (g.D.Desk.seen l.fn.desk) (λ s. (l.all.items ≡ take (length l.all.items) (content l.name s)) × (length l.all.items ≤ length (content l.name s)));
  seen : g.D.Desk.seen l.desk ≡ g.D.Desk.seen l.fn.desk;
  room : g.D.Desk.room l.desk ≡ g.D.Desk.room l.fn.desk;
  later : (g.D.Desk.counts l.fn.desk).reading ≤ (g.D.Desk.counts l.desk).reading;
  others : OnlyReading (g.D.Desk.counts l.fn.desk) (g.D.Desk.counts l.desk);
}

abbrev pub decreases-reads : goal.decreases-reads
decreases-reads g l = 67108865 - length l.all.items
