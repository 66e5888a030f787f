use Rattle.std.proofs.Common.{arith, map}
use Rattle.std.proofs.lemmas.List.{length-map}
use Rattle.std.specs.Arc.{arc_value}
use Rattle.fill_rules.specs.Made.{no_fill}
use Rattle.clusters.proofs.Ranks.{table_step}
use Rattle.clusters.proofs.filed.rank_table.Goals as goal

pub put-requires : goal.put-requires
put-requires c =
    let m = length-map c.args.fills.now arc_value in
    (table_step c.args.board.now.board (map arc_value c.args.fills.now) c.sound.ensures c.requires c.each.rank c.each.table.items c.task_of.result.zone c.task_of.result.layer c.fill_at.result.now
    c.each-test.true (omega (arith, m, c.each.invariant.within)) c.task_of.ensures (c.fill_at.ensures no_fill) c.each.invariant.table).0

pub each-preserved : goal.each-preserved
each-preserved c =
    let m = length-map c.args.fills.now arc_value in
    record {
      table = rw c.put.ensures
          ((table_step c.args.board.now.board (map arc_value c.args.fills.now) c.sound.ensures c.requires c.each.rank c.each.table.items c.task_of.result.zone c.task_of.result.layer c.fill_at.result.now
          c.each-test.true (omega (arith, m, c.each.invariant.within)) c.task_of.ensures (c.fill_at.ensures no_fill) c.each.invariant.table).1);
      within = omega (arith, c.each.invariant.within);
    }
