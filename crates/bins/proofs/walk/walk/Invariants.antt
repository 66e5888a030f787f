use Rattle.std.proofs.Common.{◌≤◌, ◌-◌, length}
use Rattle.bins.specs.Inner.Blocks.{IsWalked}
use Rattle.bins.proofs.walk.walk.Given as goal

abbrev pub invariant-walk : goal.invariant-walk
invariant-walk l = (l.at ≤ length l.blocks) × IsWalked l.octs l.blocks l.oct l.at l.into.items

abbrev pub decreases-walk : goal.decreases-walk
decreases-walk l = length l.blocks - l.at
