use Rattle.std.proofs.Common.{◌≡◌, length}
use Rattle.kept_copper.specs.Stays.{IsSparedAt}
use Rattle.kept_copper.proofs.Flags.{TellUpTo}
use Rattle.kept_copper.proofs.staying.spared.Given as goal

abbrev pub invariant-each : goal.invariant-each
invariant-each l = record {
  count : length l.flags.items ≡ l.m;
  tell : TellUpTo (IsSparedAt l.islands l.pieces l.labels) l.flags.items;
}
