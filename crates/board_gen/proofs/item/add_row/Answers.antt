use Rattle.std.proofs.Common.{◌<◌, arith}
use Rattle.board_gen.proofs.Walks.{text_next, state_next, number_next}
use Rattle.board_gen.proofs.item.add_row.Goals as goal

pub cells-preserved : goal.cells-preserved
cells-preserved c =
    let within : c.cells.column < c.args.size = c.cells-test.true in
    let next = c.next-state.ensures in
    let number = c.number_behind-number.ensures.value in
    record {
      text =
          text_next c.args.size c.args.row c.cells.column c.cells.state c.cells.number c.next-state.result c.drawn-r.result c.place.result c.place-in-cells.result
          c.number_behind-number.result _ _ _ within next c.drawn-r.ensures c.place.ensures.value c.place-in-cells.ensures.value number c.in_ok-add_item.ensures
          c.cells.invariant.text;
      state = state_next c.args.size c.cells.column c.cells.state c.next-state.result _ within next c.cells.invariant.state;
      number =
          number_next c.args.size c.cells.column c.cells.state c.cells.number c.next-state.result c.drawn-r.result c.number_behind-number.result _ within next
          c.drawn-r.ensures number c.cells.invariant.number;
      most = omega (arith, c.number_behind-number.ensures.most, c.cells.invariant.most);
    }
