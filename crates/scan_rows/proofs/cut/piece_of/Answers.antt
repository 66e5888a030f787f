use Rattle.std.proofs.Common.{arith}
use Rattle.std.specs.Prelude.{IsTrue}
use Rattle.std.proofs.lemmas.Int.{ints}
use Rattle.plane.proofs.Equal.{equal}
use Rattle.scan_rows.specs.Inner.Cutting.{bounds}
use Rattle.scan_rows.proofs.Pieces.{no_piece, piece_as, range_as}
use Rattle.scan_rows.proofs.cut.piece_of.Goals as goal

pub returns-then-not-ordered : goal.returns-then-not-ordered
returns-then-not-ordered c = no_piece (bounds c.args.b.now) (λ o. let t : IsTrue c.ordered.result = c.ordered.ensures.1 o in cc)

pub of_bounds-requires : goal.of_bounds-requires
of_bounds-requires c =
    range_as (bounds c.args.b.now) _ c.requires (c.ordered.ensures.0 (cc))
    (equal _ _ (record { x0 = omega (arith, ints); x1 = omega (arith, ints); y0 = omega (arith, ints); y1 = omega (arith, ints); s0 = omega (arith, ints); s1 = omega (arith, ints); d0 = omega (arith, ints); d1 = omega (arith, ints) }))

pub returns : goal.returns
returns c =
    piece_as c.of_bounds.result (bounds c.args.b.now) _ c.of_bounds.ensures.none c.of_bounds.ensures.points
    (equal _ _ (record { x0 = omega (arith, ints); x1 = omega (arith, ints); y0 = omega (arith, ints); y1 = omega (arith, ints); s0 = omega (arith, ints); s1 = omega (arith, ints); d0 = omega (arith, ints); d1 = omega (arith, ints) }))
