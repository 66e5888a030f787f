use Rattle.octagon.proofs.Plain.{IsOct-IsSmall}
use Rattle.zone_fill.proofs.Seen.{seen}
use Rattle.zone_fill.proofs.Entering.{lying_by}
use Rattle.zone_fill.proofs.live.lies_in.Goals as goal

pub returns : goal.returns
returns c =
    let o = c.args.oct.now in
    let f = c.args.frame.now in
    let m = IsOct-IsSmall o c.x0.ensures.oct in
    let n = IsOct-IsSmall f c.x0-2.ensures.oct in
    lying_by c.all_four.result c.is_inner-x.result c.is_inner-y.result c.is_inner-s.result c.is_inner-d.result o f c.x0.ensures.oct.tight c.all_four.ensures
    (rw (c.x0.ensures.value, c.x1.ensures.value, c.x0-2.ensures.value, c.x1-2.ensures.value, seen o.x0 m.x0, seen o.x1 m.x1, seen f.x0 n.x0, seen f.x1 n.x1) at c.is_inner-x.ensures)
    (rw (c.y0.ensures.value, c.y1.ensures.value, c.y0-2.ensures.value, c.y1-2.ensures.value, seen o.y0 m.y0, seen o.y1 m.y1, seen f.y0 n.y0, seen f.y1 n.y1) at c.is_inner-y.ensures)
    (rw (c.s0.ensures.value, c.s1.ensures.value, c.s0-2.ensures.value, c.s1-2.ensures.value, seen o.s0 m.s0, seen o.s1 m.s1, seen f.s0 n.s0, seen f.s1 n.s1) at c.is_inner-s.ensures)
    (rw (c.d0.ensures.value, c.d1.ensures.value, c.d0-2.ensures.value, c.d1-2.ensures.value, seen o.d0 m.d0, seen o.d1 m.d1, seen f.d0 n.d0, seen f.d1 n.d1) at c.is_inner-d.ensures)
