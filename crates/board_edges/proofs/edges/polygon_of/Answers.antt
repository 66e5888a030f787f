use Rattle.std.proofs.Common.{◌∙◌}
use Rattle.board_language.specs.Edges.{corner_lists}
use Rattle.board_edges.proofs.Lists.{points_are}
use Rattle.board_edges.proofs.edges.polygon_of.Goals as goal

pub returns : goal.returns
returns c =
    rw (← (c.deref-2.ensures.value ∙ c.in_ok-corners.ensures.value
    ∙ points_are c.args.item.now.bytes c.deref.result.now c.in_ok-lists.lists.items (corner_lists c.args.item.now.bytes c.args.item.now.item) c.deref.ensures.value c.in_ok-lists.ensures))
    c.sides_of.ensures
