use Rattle.std.proofs.Common.{◌≡◌, length}
use Rattle.kept_copper.specs.Stays.{IsBegun}
use Rattle.kept_copper.proofs.Flags.{TellUpTo}
use Rattle.kept_copper.proofs.staying.begun.Given as goal

abbrev pub invariant-each : goal.invariant-each
invariant-each l = record {
  count : length l.flags.items ≡ l.m;
  tell : TellUpTo (IsBegun l.edges l.cells l.labels) l.flags.items;
}
