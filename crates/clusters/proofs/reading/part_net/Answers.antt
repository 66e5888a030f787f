use Rattle.std.proofs.Common.{sym, ◌∙◌, subst, map, arith}
use Rattle.std.proofs.lemmas.List.{length-map}
use Rattle.std.specs.Arc.{arc_value}
use Rattle.fill_rules.specs.Ranking.{IsTask}
use Rattle.fill_rules.specs.Made.{no_fill}
use Rattle.clusters.proofs.Ranks.{fill_task, fill_is_task}
use Rattle.clusters.proofs.NodeParts.{part_net, part_net_past}
use Rattle.clusters.proofs.reading.part_net.Goals as goal

pub returns-then-fill-fills : goal.returns-then-fill-fills
returns-then-fill-fills c =
    let m = length-map c.args.fills.now arc_value in
    part_net_past c.args.board.now.board c.args.fill c.args.first (omega (arith, m, c.requires.count, c.if-fill-fills.true))

pub zone_of-requires : goal.zone_of-requires
zone_of-requires c =
    let m = length-map c.args.fills.now arc_value in
    subst (IsTask c.args.board.now.board) (sym c.task_of.ensures)
    (fill_is_task c.args.board.now.board (map arc_value c.args.fills.now) c.requires c.args.fill c.fill_at.result.now (omega (arith, m, c.if-fill-fills.false)) (c.fill_at.ensures no_fill))

pub returns : goal.returns
returns c =
    let m = length-map c.args.fills.now arc_value in
    part_net c.args.board.now.board (record { zone = c.task_of.result.zone; layer = c.task_of.result.layer }) c.args.fill c.args.first c.zone_of.result.now c.zone_of.ensures
    (c.task_of.ensures ∙ fill_task c.args.board.now.board (map arc_value c.args.fills.now) c.requires c.args.fill c.fill_at.result.now (omega (arith, m, c.if-fill-fills.false)) (c.fill_at.ensures no_fill))
