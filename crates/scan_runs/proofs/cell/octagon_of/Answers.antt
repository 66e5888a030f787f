use Rattle.std.proofs.Common.{arith}
use Rattle.std.proofs.lemmas.Int.{ints}
use Rattle.scan_runs.proofs.Steps.{place_kept}
use Rattle.scan_runs.proofs.CellLaws.{ends_in_reach, ends_hull}
use Rattle.scan_runs.proofs.cell.octagon_of.Goals as goal

pub of_points-requires-clause-reach : goal.of_points-requires-clause-reach
of_points-requires-clause-reach c =
    ends_in_reach c.args.top c.args.more c.args.run _ _ _ _
    (record {
      ax = place_kept c.args.run.from 0 c.place_at.result (omega arith) c.requires.run.from c.place_at.ensures;
      ay = omega (arith, ints, c.requires.top);
      bx = place_kept c.args.run.to 0 c.place_at-2.result (omega arith) c.requires.run.to c.place_at-2.ensures;
      by = omega (arith, ints, c.requires.top);
      cx = place_kept c.args.run.from c.args.more c.place_at-3.result (omega (arith, ints, c.requires.top, c.requires.bottom)) c.requires.run.from c.place_at-3.ensures;
      cy = omega (arith, ints, c.requires.top, c.requires.bottom);
      dx = place_kept c.args.run.to c.args.more c.place_at-4.result (omega (arith, ints, c.requires.top, c.requires.bottom)) c.requires.run.to c.place_at-4.ensures;
      dy = omega (arith, ints, c.requires.top, c.requires.bottom);
    })
    c.requires.oct

pub returns : goal.returns
returns c =
    ends_hull c.args.top c.args.more c.args.run _ _ _ _ c.of_points.result
    (record {
      ax = place_kept c.args.run.from 0 c.place_at.result (omega arith) c.requires.run.from c.place_at.ensures;
      ay = omega (arith, ints, c.requires.top);
      bx = place_kept c.args.run.to 0 c.place_at-2.result (omega arith) c.requires.run.to c.place_at-2.ensures;
      by = omega (arith, ints, c.requires.top);
      cx = place_kept c.args.run.from c.args.more c.place_at-3.result (omega (arith, ints, c.requires.top, c.requires.bottom)) c.requires.run.from c.place_at-3.ensures;
      cy = omega (arith, ints, c.requires.top, c.requires.bottom);
      dx = place_kept c.args.run.to c.args.more c.place_at-4.result (omega (arith, ints, c.requires.top, c.requires.bottom)) c.requires.run.to c.place_at-4.ensures;
      dy = omega (arith, ints, c.requires.top, c.requires.bottom);
    })
    c.requires.oct c.of_points.ensures.oct c.of_points.ensures.holds c.of_points.ensures.least
