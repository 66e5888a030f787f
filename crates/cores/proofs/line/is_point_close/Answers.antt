use Rattle.cores.specs.Room.{spot}
use Rattle.cores.proofs.Plain.{offset_read}
use Rattle.cores.proofs.LineTests.{point_from}
use Rattle.cores.proofs.line.is_point_close.Goals as goal

pub returns : goal.returns
returns c =
    let p = c.requires.p in
    let s = c.requires.s in
    let t = c.requires.t in
    point_from _ c.args.a (spot c.args.p) (spot c.args.s) (spot c.args.t) _ _ _ _
    (offset_read _ _ _ s.x p.x c.offset.ensures.value) (offset_read _ _ _ s.y p.y c.offset-2.ensures.value)
    (offset_read _ _ _ s.x t.x c.offset-3.ensures.value) (offset_read _ _ _ s.y t.y c.offset-4.ensures.value) c.is_beside.ensures
