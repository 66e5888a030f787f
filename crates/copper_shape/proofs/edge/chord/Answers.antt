use Rattle.std.proofs.Common.{arith}
use Rattle.std.proofs.lemmas.Int.{ints}
use Rattle.copper_shape.proofs.Chords.{square_room, chord_is}
use Rattle.copper_shape.proofs.edge.chord.Goals as goal

pub overflow_add-width : goal.overflow_add-width
overflow_add-width c =
    let s = square_room c.abs_diff-width.result c.abs_diff-height.result (omega (arith, ints, c.abs_diff-width.ensures, c.requires.from.x, c.requires.to.x)) (omega (arith, ints, c.abs_diff-height.ensures, c.requires.from.y, c.requires.to.y)) in
    omega (arith, s)

pub up_root-requires : goal.up_root-requires
up_root-requires c =
    let s = square_room c.abs_diff-width.result c.abs_diff-height.result (omega (arith, ints, c.abs_diff-width.ensures, c.requires.from.x, c.requires.to.x)) (omega (arith, ints, c.abs_diff-height.ensures, c.requires.from.y, c.requires.to.y)) in
    omega (arith, s)

pub overflow_cast-result : goal.overflow_cast-result
overflow_cast-result c =
    let s = square_room c.abs_diff-width.result c.abs_diff-height.result (omega (arith, ints, c.abs_diff-width.ensures, c.requires.from.x, c.requires.to.x)) (omega (arith, ints, c.abs_diff-height.ensures, c.requires.from.y, c.requires.to.y)) in
    let m = c.up_root.ensures.least 2000000000 (omega (arith, s)) in
    omega (arith, m)

pub returns-clause-most : goal.returns-clause-most
returns-clause-most c =
    let s = square_room c.abs_diff-width.result c.abs_diff-height.result (omega (arith, ints, c.abs_diff-width.ensures, c.requires.from.x, c.requires.to.x)) (omega (arith, ints, c.abs_diff-height.ensures, c.requires.from.y, c.requires.to.y)) in
    c.up_root.ensures.least 2000000000 (omega (arith, s))

pub returns-clause-value : goal.returns-clause-value
returns-clause-value c =
    chord_is c.args.from c.args.to c.abs_diff-width.result c.abs_diff-height.result c.up_root.result
    (omega (arith, ints, c.abs_diff-width.ensures, c.requires.from.x, c.requires.to.x)) (omega (arith, ints, c.abs_diff-height.ensures, c.requires.from.y, c.requires.to.y))
    c.up_root.ensures.reaches c.up_root.ensures.least
