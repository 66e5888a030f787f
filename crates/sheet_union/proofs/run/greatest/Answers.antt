use Rattle.sheet_union.proofs.Ranges.{plain, most_bc, most_b, most_c, most_a}
use Rattle.sheet_union.proofs.run.greatest.Goals as goal

pub returns-then-b-c : goal.returns-then-b-c
returns-then-b-c c = most_bc c.args.a c.args.b c.args.c c.ranges.c (plain c.args.a c.args.b _ c.ranges.a c.ranges.b c.if-a-b.true) (plain c.args.b c.args.c _ c.ranges.b c.ranges.c c.if-b-c.true)

pub returns-else-b-c : goal.returns-else-b-c
returns-else-b-c c = most_b c.args.a c.args.b c.args.c c.ranges.b (plain c.args.a c.args.b _ c.ranges.a c.ranges.b c.if-a-b.true) (plain c.args.b c.args.c _ c.ranges.b c.ranges.c c.if-b-c.false)

pub returns-then-a-c : goal.returns-then-a-c
returns-then-a-c c = most_c c.args.a c.args.b c.args.c c.ranges.c (plain c.args.a c.args.b _ c.ranges.a c.ranges.b c.if-a-b.false) (plain c.args.a c.args.c _ c.ranges.a c.ranges.c c.if-a-c.true)

pub returns-else-a-c : goal.returns-else-a-c
returns-else-a-c c = most_a c.args.a c.args.b c.args.c c.ranges.a (plain c.args.a c.args.b _ c.ranges.a c.ranges.b c.if-a-b.false) (plain c.args.a c.args.c _ c.ranges.a c.ranges.c c.if-a-c.false)
