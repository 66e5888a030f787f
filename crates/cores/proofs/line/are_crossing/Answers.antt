use Rattle.cores.specs.Room.{spot}
use Rattle.cores.proofs.Plain.{offset_read}
use Rattle.cores.proofs.LineTests.{crossing_of}
use Rattle.cores.proofs.line.are_crossing.Goals as goal

pub returns : goal.returns
returns c =
    let s = c.requires.s in
    let t = c.requires.t in
    let u = c.requires.u in
    let v = c.requires.v in
    crossing_of _ (spot c.args.s) (spot c.args.t) (spot c.args.u) (spot c.args.v) _ _ _ _ _ _
    (offset_read _ _ _ u.x s.x c.offset.ensures.value) (offset_read _ _ _ u.y s.y c.offset-2.ensures.value)
    (offset_read _ _ _ s.x t.x c.offset-3.ensures.value) (offset_read _ _ _ s.y t.y c.offset-4.ensures.value)
    (offset_read _ _ _ u.x v.x c.offset-5.ensures.value) (offset_read _ _ _ u.y v.y c.offset-6.ensures.value) c.is_crossing.ensures
