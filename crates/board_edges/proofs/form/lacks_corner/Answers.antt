use Rattle.std.proofs.Common.{◌∙◌}
use Rattle.board_language.specs.Edges.{corner_lists}
use Rattle.board_edges.proofs.Lists.{short_are}
use Rattle.board_edges.proofs.form.lacks_corner.Goals as goal

pub returns : goal.returns
returns c =
    c.has_short_point.ensures
    ∙ short_are c.args.item.now.bytes c.deref.result.now c.in_ok-lists.lists.items (corner_lists c.args.item.now.bytes c.args.item.now.item) c.deref.ensures.value c.in_ok-lists.ensures
