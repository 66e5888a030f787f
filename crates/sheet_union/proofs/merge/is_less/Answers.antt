use Rattle.std.proofs.Common.{refl}
use Rattle.sheet_union.proofs.Joined.{sum_is}
use Rattle.sheet_union.proofs.merge.is_less.Goals as goal

pub returns : goal.returns
returns c = rw (sum_is c.args.a c.args.b c.requires.a c.requires.b, sum_is c.args.c c.args.d c.requires.c c.requires.d) refl
