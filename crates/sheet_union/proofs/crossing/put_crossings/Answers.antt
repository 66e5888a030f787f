use Rattle.std.proofs.Common.{rules}
use Rattle.sheet_union.proofs.Found.{both_halves, none_left}
use Rattle.sheet_union.proofs.crossing.put_crossings.Goals as goal

pub returns-then-x1-x0-2 : goal.returns-then-x1-x0-2
returns-then-x1-x0-2 c =
    none_left c.args.a.now c.args.b.now _ _ _ _ _ c.x1.ensures.value c.x0.ensures.value c.x1-2.ensures.value c.x0-2.ensures.value c.if-x1-x0.false c.if-x1-x0-2.true
    (search rules) (search rules) (search rules) (search rules)

pub returns : goal.returns
returns c =
    both_halves c.args.a.now c.args.b.now _ _ _ _ _ _ _ c.x1.ensures.value c.x0.ensures.value c.x1-2.ensures.value c.x0-2.ensures.value c.if-x1-x0.false c.if-x1-x0-2.false
    (search rules) (search rules) (search rules) (search rules) c.in_ok-put_half.ensures c.in_ok-put_half-2.ensures
