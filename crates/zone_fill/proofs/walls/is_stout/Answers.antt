use Rattle.std.proofs.Common.{refl}
use Rattle.octagon.proofs.Plain.{IsOct-IsSmall}
use Rattle.zone_fill.proofs.Seen.{seen}
use Rattle.zone_fill.proofs.walls.is_stout.Goals as goal

pub returns : goal.returns
returns c =
    let o = c.args.oct.now in
    let m = IsOct-IsSmall o c.x0.ensures.oct in
    rw (
      c.are_all.ensures,
      c.is_less-x.ensures,
      c.is_less-y.ensures,
      c.is_less-s.ensures,
      c.is_less-d.ensures,
      c.x0.ensures.value,
      c.x1.ensures.value,
      c.y0.ensures.value,
      c.y1.ensures.value,
      c.s0.ensures.value,
      c.s1.ensures.value,
      c.d0.ensures.value,
      c.d1.ensures.value,
      seen o.x0 m.x0,
      seen o.x1 m.x1,
      seen o.y0 m.y0,
      seen o.y1 m.y1,
      seen o.s0 m.s0,
      seen o.s1 m.s1,
      seen o.d0 m.d0,
      seen o.d1 m.d1,
    ) refl
