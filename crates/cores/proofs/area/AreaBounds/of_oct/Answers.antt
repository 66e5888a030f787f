use Rattle.std.proofs.Common.{arith}
use Rattle.plane.proofs.Equal.{equal}
use Rattle.cores.proofs.Makers.{oct_small, read_near, quadrupled}
use Rattle.cores.proofs.area.AreaBounds.of_oct.Goals as goal

pub in_halves-requires-4 : goal.in_halves-requires-4
in_halves-requires-4 c = read_near 4398046511104 _ _ (omega arith) c.y1.ensures.value (oct_small c.args.oct.now c.x0.ensures.oct).y1

pub in_halves-requires-5 : goal.in_halves-requires-5
in_halves-requires-5 c = read_near 4398046511104 _ _ (omega arith) c.s0.ensures.value (oct_small c.args.oct.now c.x0.ensures.oct).s0

pub in_halves-requires-6 : goal.in_halves-requires-6
in_halves-requires-6 c = read_near 4398046511104 _ _ (omega arith) c.s1.ensures.value (oct_small c.args.oct.now c.x0.ensures.oct).s1

pub in_halves-requires-7 : goal.in_halves-requires-7
in_halves-requires-7 c = read_near 4398046511104 _ _ (omega arith) c.d0.ensures.value (oct_small c.args.oct.now c.x0.ensures.oct).d0

pub in_halves-requires-8 : goal.in_halves-requires-8
in_halves-requires-8 c = read_near 4398046511104 _ _ (omega arith) c.d1.ensures.value (oct_small c.args.oct.now c.x0.ensures.oct).d1

pub returns-clause-value : goal.returns-clause-value
returns-clause-value c =
    let s = oct_small c.args.oct.now c.x0.ensures.oct in
    equal _ _ (record {
      x0 = quadrupled c.in_halves.result c.x0.result _ c.in_halves.ensures.range s.x0 c.x0.ensures.value c.in_halves.ensures.value;
      x1 = quadrupled c.in_halves-2.result c.x1.result _ c.in_halves-2.ensures.range s.x1 c.x1.ensures.value c.in_halves-2.ensures.value;
      y0 = quadrupled c.in_halves-3.result c.y0.result _ c.in_halves-3.ensures.range s.y0 c.y0.ensures.value c.in_halves-3.ensures.value;
      y1 = quadrupled c.in_halves-4.result c.y1.result _ c.in_halves-4.ensures.range s.y1 c.y1.ensures.value c.in_halves-4.ensures.value;
      s0 = quadrupled c.in_halves-5.result c.s0.result _ c.in_halves-5.ensures.range s.s0 c.s0.ensures.value c.in_halves-5.ensures.value;
      s1 = quadrupled c.in_halves-6.result c.s1.result _ c.in_halves-6.ensures.range s.s1 c.s1.ensures.value c.in_halves-6.ensures.value;
      d0 = quadrupled c.in_halves-7.result c.d0.result _ c.in_halves-7.ensures.range s.d0 c.d0.ensures.value c.in_halves-7.ensures.value;
      d1 = quadrupled c.in_halves-8.result c.d1.result _ c.in_halves-8.ensures.range s.d1 c.d1.ensures.value c.in_halves-8.ensures.value;
    })
