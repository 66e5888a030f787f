use Rattle.std.proofs.Common.{◌∙◌}
use Rattle.board_language.specs.Edges.{corner_lists}
use Rattle.board_edges.proofs.Lists.{others_are}
use Rattle.board_edges.proofs.kind.has_other_corner.Goals as goal

pub returns : goal.returns
returns c =
    c.has_other_point.ensures
    ∙ others_are c.args.item.now.bytes c.deref.result.now c.in_ok-lists.lists.items (corner_lists c.args.item.now.bytes c.args.item.now.item) c.deref.ensures.value c.in_ok-lists.ensures
