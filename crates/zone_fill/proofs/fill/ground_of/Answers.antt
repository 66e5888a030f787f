use Rattle.std.proofs.Common.{arith, ◌-◌, ◌/◌, map, ◌∙◌, take}
use Rattle.std.specs.Arc.{arc_value}
use Rattle.knockouts.specs.Obstacles.{need_of, IsNeedInRange}
use Rattle.zone_fill.proofs.Rooms.{frame_room}
use Rattle.zone_fill.proofs.Grounds.{gaps_within, bars_are, bars_range, spokes_wide, cells_room, frame_near, ground}
use Rattle.knockouts.proofs.Reading.{above_task, few_layers}
use Rattle.fills.specs.Fills.{task_of}
use Rattle.zone_fill.proofs.fill.ground_of.Goals as goal

pub zone_of-zone-requires : goal.zone_of-zone-requires
zone_of-zone-requires c = above_task c.args.board.now.board (task_of c.args.task) _ c.requires

pub spokes-requires : goal.spokes-requires
spokes-requires c = above_task c.args.board.now.board (task_of c.args.task) _ c.requires

pub walls_of-requires-clause-layer : goal.walls_of-requires-clause-layer
walls_of-requires-clause-layer c = few_layers c.args.board.now.board (task_of c.args.task) c.sound.ensures (above_task c.args.board.now.board (task_of c.args.task) _ c.requires)

pub walls_of-requires-clause-near : goal.walls_of-requires-clause-near
walls_of-requires-clause-near c = frame_room c.zone_of-zone.result.now.outline c.wide_frame-wide.result c.vertices.ensures.within c.wide_frame-wide.ensures.least

pub slice_bounds-bars-count : goal.slice_bounds-bars-count
slice_bounds-bars-count c =
    gaps_within c.args.board.now.board (task_of c.args.task) (map arc_value c.args.above.now) need_of c.in_ok-needs.needs.items c.in_ok-spokes.spokes.items c.len.result c.len-2.result
    c.gaps_law.ensures.spokes c.in_ok-needs.ensures.value c.in_ok-spokes.ensures (c.len.ensures ∙ c.in_ok-needs.needs.ok.0) (c.len-2.ensures ∙ c.in_ok-spokes.spokes.ok.0)

pub all_grown-requires-clause-octs : goal.all_grown-requires-clause-octs
all_grown-requires-clause-octs c =
    rw c.deref-4.ensures.value
    (cells_room c.frame_of-frame.result c.brush_radius-radius.result c.in_ok-rows.rows c.in_ok-cells.cells.items _ c.frame_of-frame.ensures.near c.in_ok-rows.ensures c.in_ok-cells.ensures.reach)

pub live_spokes-requires-clause-wide : goal.live_spokes-requires-clause-wide
live_spokes-requires-clause-wide c =
    rw c.deref-5.ensures.value (spokes_wide c.args.board.now.board (task_of c.args.task) (map arc_value c.args.above.now) c.in_ok-spokes.spokes.items c.sound.ensures c.requires c.in_ok-spokes.ensures)

pub live_spokes-requires-clause-bars : goal.live_spokes-requires-clause-bars
live_spokes-requires-clause-bars c = bars_range IsNeedInRange need_of _ c.deref.result.now (rw c.deref.ensures.value c.in_ok-needs.ensures.range)

pub returns-clause-ground : goal.returns-clause-ground
returns-clause-ground c =
    let b = c.args.board.now.board in
    let t = task_of c.args.task in
    let above = map arc_value c.args.above.now in
    let ns = c.in_ok-needs.needs.items in
    let ss = c.in_ok-spokes.spokes.items in
    let bars = bars_are b t above need_of ns ss c.len.result c.len-2.result c.gaps_law.ensures.spokes c.in_ok-needs.ensures.value c.in_ok-spokes.ensures
    (c.len.ensures ∙ c.in_ok-needs.needs.ok.0) (c.len-2.ensures ∙ c.in_ok-spokes.spokes.ok.0) in
    ground b t above c.zone_of-zone.result.now c.wide_frame-wide.result c.frame_of-frame.result c.areas.result.now c.in_ok-walls.walls.items ss c.in_ok-rows.rows c.in_ok-cells.cells.items
    c.in_ok-blots.blots.items c.in_ok-live.live.items (map need_of ns) (map need_of (take (c.len.result - c.len-2.result / 4) ns)) c.brush_radius-radius.result
    c.sound.ensures c.requires c.zone_of-zone.ensures c.areas.ensures c.frame_of-frame.ensures.corners c.wide_frame-wide.ensures.frame c.in_ok-walls.ensures.walls
    c.frame_of-frame.ensures.value (frame_near 250000000 (omega arith) c.frame_of-frame.result c.frame_of-frame.ensures.near) c.brush_radius-radius.ensures.value
    c.in_ok-needs.ensures.value bars c.in_ok-spokes.ensures (rw (c.deref-2.ensures.value, c.deref-3.ensures.value) at c.in_ok-rows.ensures) c.in_ok-cells.ensures.cells c.in_ok-cells.ensures.reach
    (rw c.deref-4.ensures.value at c.in_ok-blots.ensures) (rw (c.deref-5.ensures.value, c.deref-6.ensures.value, c.deref-7.ensures.value, c.deref.ensures.value) at c.in_ok-live.ensures)
