use Rattle.std.proofs.Common.{sym, ◌∙◌, ap, arith, length, List}
use Rattle.std.proofs.lemmas.List.{length-map}
use Rattle.std.specs.Arc.{arc_value}
use Rattle.board_language.specs.declared.board.Zone.{Zone}
use Rattle.clusters.proofs.Ranks.{task_past}
use Rattle.fill_text.proofs.lines_of_nodes.task_at.Goals as goal

pub returns-then-rank-fills : goal.returns-then-rank-fills
returns-then-rank-fills c =
    let m = length-map c.args.fills.now arc_value in
    ap (λ (zs : List Zone). record { zone = length zs; layer = 0 }) c.zones.ensures
    ∙ sym (task_past c.args.board.now.board c.args.rank (omega (arith, m, c.requires.count, c.if-rank-fills.true)))
