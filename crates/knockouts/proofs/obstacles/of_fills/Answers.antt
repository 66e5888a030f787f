use Rattle.std.specs.Arc.{arc_value}
use Rattle.knockouts.proofs.Reading.{read_task}
use Rattle.knockouts.proofs.obstacles.of_fills.Goals as goal

pub of_fill-requires : goal.of_fill-requires
of_fill-requires c =
    rw c.deref.ensures
    (read_task arc_value c.args.board.now.board c.args.above.now c.each.fill-index c.fill-item.result c.each-test.true c.fill-item.is c.requires)
