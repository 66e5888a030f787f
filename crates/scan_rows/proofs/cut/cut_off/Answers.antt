use Rattle.std.proofs.Common.{arith}
use Rattle.std.proofs.lemmas.Int.{ints}
use Rattle.scan_rows.specs.Inner.Cutting.{bounds, limit_of}
use Rattle.scan_rows.proofs.Pieces.{cut_as}
use Rattle.scan_rows.proofs.cut.cut_off.Goals as goal

pub returns-clause-cut : goal.returns-clause-cut
returns-clause-cut c =
    cut_as c.args.side (limit_of c.args.side c.args.other.now) _ (bounds c.args.b.now) (bounds c.beyond.result) (bounds c.inside.result) c.args.out.now.items c.add.new.out.items
    c.beyond.ensures.points c.inside.ensures.points c.in_ok-add.ensures (omega (arith, ints, c.limit_of-limit.ensures))
