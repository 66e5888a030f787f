use Rattle.std.proofs.Common.{sym, ◌∙◌, ap, subst, arith, List, map}
use Rattle.std.proofs.lemmas.List.{length-map}
use Rattle.std.specs.Prelude.{flat_map}
use Rattle.std.specs.List.{All}
use Rattle.std.specs.Arc.{arc_value}
use Rattle.plane.specs.Plane.{Bounds}
use Rattle.plane.specs.Corners.{corners_of}
use Rattle.octagon.specs.Room.{IsAround}
use Rattle.fill_rules.specs.Tasks.{task_at}
use Rattle.fill_rules.specs.Made.{no_fill}
use Rattle.fill_rules.specs.Clusters.{least_of}
use Rattle.clusters.proofs.Rooms.{read_near, part_near}
use Rattle.clusters.proofs.Corners.{corner_ends, corner_room}
use Rattle.clusters.proofs.NodeParts.{part_past, part_least}
use Rattle.clusters.proofs.anchors.part_end.Goals as goal

pub returns-then-fill-fills : goal.returns-then-fill-fills
returns-then-fill-fills c =
    let fs = map arc_value c.args.fills.now in
    let m = length-map c.args.fills.now arc_value in
    c.new.ensures.items
    ∙ sym (ap (λ (os : List Bounds). least_of (flat_map corners_of os)) (part_past c.args.board.now.board fs c.requires c.args.fill c.args.first (omega (arith, m, c.if-fill-fills.true))))

pub least_corner-corner-requires-clause-near : goal.least_corner-corner-requires-clause-near
least_corner-corner-requires-clause-near c =
    subst (All (IsAround 250000000)) (sym c.pieces_of.ensures)
    (read_near c.args.board.now.board c.sound.ensures (map arc_value c.args.fills.now) c.requires c.args.fill c.fill_at-fill.result.now (c.fill_at-fill.ensures no_fill))

pub end_at-requires : goal.end_at-requires
end_at-requires c =
    let b = c.args.board.now.board in
    let fs = map arc_value c.args.fills.now in
    corner_room _ _ (part_near b c.sound.ensures fs c.requires (task_at b c.args.fill) c.args.first)
    (part_least b fs c.requires c.args.fill c.args.first c.fill_at-fill.result.now _ _ _ (c.fill_at-fill.ensures no_fill) c.pieces_of.ensures c.parts_of.ensures c.least_corner-corner.ensures)

pub returns : goal.returns
returns c =
    c.in_ok-ends.ensures
    ∙ corner_ends _ _
    (part_least c.args.board.now.board (map arc_value c.args.fills.now) c.requires c.args.fill c.args.first c.fill_at-fill.result.now _ _ _ (c.fill_at-fill.ensures no_fill) c.pieces_of.ensures c.parts_of.ensures c.least_corner-corner.ensures)
