use Rattle.std.proofs.Common.{refl, arith}
use Rattle.sheet_trace.proofs.Rounds.{least_first, least_new, least_old}
use Rattle.sheet_trace.proofs.contour.least_place.Goals as goal
use Rattle.sheet_trace.proofs.contour.least_place.Goals.{then-is_less_from, else-is_less_from}

pub each-init : goal.each-init
each-init c = record { least = least_first c.args.corners.now _ (omega arith); within = omega arith }

pub each-preserved : goal.each-preserved
each-preserved c =
    let cs = c.args.corners.now in
    let step = c.each.step in
    elim c.if-is_less_from.branch [
      | then-is_less_from w ↦ rw w.best-is (record {
        least = least_new cs step c.each.best _ _ c.each-test.true refl c.is_less_from.ensures w.if-is_less_from.true c.each.invariant.least;
        within = omega arith;
      })
      | else-is_less_from w ↦ rw w.best-is (record {
        least = least_old cs step c.each.best _ _ c.each-test.true refl c.is_less_from.ensures w.if-is_less_from.false c.each.invariant.least;
        within = c.each.invariant.within;
      })
    ]
