use Rattle.std.proofs.Common.{◌≡◌, ◌++◌, drop}
use Rattle.centres.specs.Walls.{stout_of}
use Rattle.zone_fill.proofs.walls.with_stout.Given as goal

abbrev pub invariant-each : goal.invariant-each
invariant-each l = l.all.items ++ stout_of (drop l.oct-index l.octs) ≡ l.fn.walls.items ++ stout_of l.octs
