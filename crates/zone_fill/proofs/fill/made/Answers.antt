use Rattle.std.proofs.Common.{arith}
use Rattle.knockouts.proofs.Reading.{above_task}
use Rattle.fills.specs.Fills.{task_of}
use Rattle.zone_fill.proofs.Room.{anchors_near, edges_near}
use Rattle.zone_fill.proofs.Grounds.{made, blots_room, kept_room, kept_near, ground_radius}
use Rattle.zone_fill.proofs.fill.made.Goals as goal

pub anchors-requires : goal.anchors-requires
anchors-requires c = above_task c.args.board.now.board (task_of c.args.task) _ c.requires

pub zone_of-requires : goal.zone_of-requires
zone_of-requires c = above_task c.args.board.now.board (task_of c.args.task) _ c.requires

pub stays-requires-clause-edges : goal.stays-requires-clause-edges
stays-requires-clause-edges c = rw c.edges.ensures (edges_near c.args.board.now.board c.sound.ensures)

pub stays-requires-clause-anchors : goal.stays-requires-clause-anchors
stays-requires-clause-anchors c = rw (c.deref.ensures.value, c.in_ok-anchors.ensures) (anchors_near c.args.board.now.board (task_of c.args.task) c.sound.ensures)

pub stays-requires-clause-room : goal.stays-requires-clause-room
stays-requires-clause-room c =
    rw c.deref-4.ensures.value
    (blots_room c.args.board.now.board (task_of c.args.task) c.in_ok-ground.ground.radius c.in_ok-ground.ground.cells.items c.in_ok-ground.ground.blots.items c.in_ok-ground.ground.live.items
    c.sound.ensures (above_task c.args.board.now.board (task_of c.args.task) _ c.requires) c.in_ok-ground.ensures.ground)

pub all_grown-requires-clause-octs : goal.all_grown-requires-clause-octs
all_grown-requires-clause-octs c =
    let g = c.in_ok-ground.ground in
    rw c.deref-7.ensures.value
    (kept_room c.args.board.now.board (task_of c.args.task) g.radius g.cells.items g.blots.items g.live.items c.in_ok-kept.kept.items c.in_ok-flags.flags.items c.in_ok-ground.ensures.ground
    (rw (c.deref-5.ensures.value, c.deref-6.ensures.value) at c.in_ok-kept.ensures.value))

pub all_grown-requires-clause-radius : goal.all_grown-requires-clause-radius
all_grown-requires-clause-radius c =
    let g = c.in_ok-ground.ground in
    let most = ground_radius c.args.board.now.board (task_of c.args.task) g.radius g.cells.items g.blots.items g.live.items c.sound.ensures
    (above_task c.args.board.now.board (task_of c.args.task) _ c.requires) c.in_ok-ground.ensures.ground in
    omega (arith, most)

pub fill_of_cells-requires-clause-kept : goal.fill_of_cells-requires-clause-kept
fill_of_cells-requires-clause-kept c =
    let g = c.in_ok-ground.ground in
    rw c.deref-10.ensures.value
    (kept_near c.args.board.now.board (task_of c.args.task) g.radius g.cells.items g.blots.items g.live.items c.in_ok-kept.kept.items c.in_ok-flags.flags.items c.in_ok-ground.ensures.ground
    (rw (c.deref-5.ensures.value, c.deref-6.ensures.value) at c.in_ok-kept.ensures.value))

pub fill_of_cells-requires-clause-radius : goal.fill_of_cells-requires-clause-radius
fill_of_cells-requires-clause-radius c =
    let g = c.in_ok-ground.ground in
    let most = ground_radius c.args.board.now.board (task_of c.args.task) g.radius g.cells.items g.blots.items g.live.items c.sound.ensures
    (above_task c.args.board.now.board (task_of c.args.task) _ c.requires) c.in_ok-ground.ensures.ground in
    omega (arith, most)

pub returns : goal.returns
returns c =
    let g = c.in_ok-ground.ground in
    made c.args.board.now.board (task_of c.args.task) g.radius c.edges.result.now c.in_ok-anchors.anchors.items c.zone_of.result.now g.cells.items g.blots.items g.live.items
    c.in_ok-kept.kept.items c.in_ok-blots.blots.items c.in_ok-counted.counted.items c.in_ok-flags.flags.items _ c.sound.ensures c.in_ok-ground.ensures.ground c.edges.ensures c.in_ok-anchors.ensures c.zone_of.ensures
    (rw (c.deref.ensures.value, c.deref-2.ensures.value, c.deref-3.ensures.value, c.deref-4.ensures.value) at c.in_ok-flags.ensures)
    (rw (c.deref-5.ensures.value, c.deref-6.ensures.value) at c.in_ok-kept.ensures.value)
    (rw c.deref-7.ensures.value at c.in_ok-blots.ensures)
    (rw (c.deref-8.ensures.value, c.deref-9.ensures.value) at c.in_ok-counted.ensures)
    (rw c.deref-10.ensures.value at c.in_ok-fill.ensures)

pub fill_of_cells-requires-clause-apart : goal.fill_of_cells-requires-clause-apart
fill_of_cells-requires-clause-apart c = rw c.deref-10.ensures.value (c.in_ok-kept.ensures.apart (rw c.deref-5.ensures.value c.in_ok-ground.ensures.apart))
