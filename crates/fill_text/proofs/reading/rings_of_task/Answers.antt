use Rattle.std.proofs.Common.{◌≡◌, ◌∙◌, ap, ◌<◌, arith, length, get_or, subst, IfOk}
use Rattle.fill_text.proofs.ReadRings.{zones_many, rings_are}
use Rattle.fill_text.proofs.reading.rings_of_task.Goals as goal

pub bounds-zones-task : goal.bounds-zones-task
bounds-zones-task c =
    let m = zones_many c.args.root.now.bytes c.args.root.now.item c.requires.board.0 c.args.board.now.board c.args.zones.now c.requires.board.1 c.requires.zones in
    let l = c.requires.task.zone in
    omega (arith, l, m)

pub returns-clause-value : goal.returns-clause-value
returns-clause-value c =
    let b = c.args.board.now.board in
    let m = zones_many c.args.root.now.bytes c.args.root.now.item c.requires.board.0 b c.args.zones.now c.requires.board.1 c.requires.zones in
    let l : c.args.task.zone < length c.args.zones.now = let h = c.requires.task.zone in omega (arith, h, m) in
    let e = c.from.ensures in
    let n : c.from.result < length c.args.board.now.board.layers = let h = c.requires.task.layer in omega (arith, h, e) in
    subst (λ rings. IfOk c.rings_on.result (λ v. v.items ≡ rings))
    (rings_are c.args.root.now.bytes c.args.root.now.item c.requires.board.0 b c.args.zones.now c.requires.board.1 c.requires.zones c.args.task.zone l c.index-zones-task.result c.index-zones-task.is
    c.from.result c.args.task.layer c.bytes.result.now c.index-layers-from.result e n c.bytes.ensures
    (c.index-layers-from.is ∙ ap (λ ls. get_or ls c.from.result c.index-layers-from.result) c.layers.ensures))
    c.rings_on.ensures.value
