use Rattle.std.proofs.Common.{◌≡◌, length}
use Rattle.kept_copper.proofs.Flags.{TellUpTo, IsFlagged}
use Rattle.kept_copper.proofs.staying.flags.Given as goal

abbrev pub invariant-each : goal.invariant-each
invariant-each l = record {
  count : length l.flags.items ≡ l.k;
  tell : TellUpTo (IsFlagged l.labels l.held l.begun l.spared) l.flags.items;
}
