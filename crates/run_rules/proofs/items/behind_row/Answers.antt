use Rattle.std.proofs.Common.{◌<◌, arith, refl}
use Rattle.board_gen.proofs.Walks.{state_next, number_next}
use Rattle.run_rules.proofs.items.behind_row.Goals as goal

pub cells-preserved : goal.cells-preserved
cells-preserved c =
    let within : c.cells._column < c.args.size = c.cells-test.true in
    let next = c.next-state.ensures in
    record {
      state = state_next c.args.size c.cells._column c.cells.state c.next-state.result _ within next c.cells.invariant.state;
      items =
          number_next c.args.size c.cells._column c.cells.state c.cells.items c.next-state.result _ c.counted-items.result _ within next
          refl c.counted-items.ensures.value c.cells.invariant.items;
      most = omega (arith, c.counted-items.ensures.most, c.cells.invariant.most);
    }
