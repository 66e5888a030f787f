use Rattle.std.proofs.Common.{arith}
use Rattle.std.proofs.lemmas.Int.{ints}
use Rattle.copper_shape.proofs.Rounded.{code_cell}
use Rattle.copper_shape.proofs.cells.cell.Goals as goal

pub returns : goal.returns
returns c =
    code_cell c.args.n c.args.place c.down-west.result c.up-east.result c.down-north.result c.up-south.result _ _
    (omega (arith, ints, c.requires.place.x, c.requires.scale)) (omega (arith, ints, c.requires.place.y, c.requires.scale))
    c.down-west.ensures.value c.down-west.ensures.near c.up-east.ensures.value c.up-east.ensures.near
    c.down-north.ensures.value c.down-north.ensures.near c.up-south.ensures.value c.up-south.ensures.near
