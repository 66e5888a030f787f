use Rattle.board_language.specs.Edges.{corner_lists}
use Rattle.board_edges.proofs.Lists.{faults_are}
use Rattle.board_edges.proofs.form.corners_fault.Goals as goal

pub returns : goal.returns
returns c =
    rw (← faults_are c.args.item.now.bytes c.deref.result.now c.in_ok-lists.lists.items (corner_lists c.args.item.now.bytes c.args.item.now.item) c.deref.ensures.value c.in_ok-lists.ensures)
    c.points_fault.ensures
