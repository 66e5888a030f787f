use Rattle.std.proofs.Common.{rules}
use Rattle.std.proofs.lemmas.Slice.Eq.{slice_eq-Decides}
use Rattle.std.specs.Bool.{Decides}
use Rattle.std.proofs.Common.{◌≡◌}
use Rattle.ratsnest.proofs.Unique.{pair_decides}
use Rattle.ratsnest.proofs.is_same.Goals as goal

pub returns : goal.returns
returns c = let d : Decides c.eq.result (c.args.a.now ≡ c.args.b.now) = slice_eq-Decides pair_decides _ _ _ c.eq.ensures in search rules
