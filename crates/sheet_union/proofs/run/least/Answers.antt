use Rattle.sheet_union.proofs.Ranges.{plain, fewest_c, fewest_b, fewest_ac, fewest_a}
use Rattle.sheet_union.proofs.run.least.Goals as goal

pub returns-then-c-b : goal.returns-then-c-b
returns-then-c-b c = fewest_c c.args.a c.args.b c.args.c c.ranges.c (plain c.args.b c.args.a _ c.ranges.b c.ranges.a c.if-b-a.true) (plain c.args.c c.args.b _ c.ranges.c c.ranges.b c.if-c-b.true)

pub returns-else-c-b : goal.returns-else-c-b
returns-else-c-b c = fewest_b c.args.a c.args.b c.args.c c.ranges.b (plain c.args.b c.args.a _ c.ranges.b c.ranges.a c.if-b-a.true) (plain c.args.c c.args.b _ c.ranges.c c.ranges.b c.if-c-b.false)

pub returns-then-c-a : goal.returns-then-c-a
returns-then-c-a c = fewest_ac c.args.a c.args.b c.args.c c.ranges.c (plain c.args.b c.args.a _ c.ranges.b c.ranges.a c.if-b-a.false) (plain c.args.c c.args.a _ c.ranges.c c.ranges.a c.if-c-a.true)

pub returns-else-c-a : goal.returns-else-c-a
returns-else-c-a c = fewest_a c.args.a c.args.b c.args.c c.ranges.a (plain c.args.b c.args.a _ c.ranges.b c.ranges.a c.if-b-a.false) (plain c.args.c c.args.a _ c.ranges.c c.ranges.a c.if-c-a.false)
