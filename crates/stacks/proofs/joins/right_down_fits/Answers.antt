use Rattle.std.proofs.Common.{arith, inl, inr}
use Rattle.std.proofs.lemmas.Int.{ints}
use Rattle.stacks.proofs.Plain.{right_down_by}
use Rattle.stacks.proofs.joins.right_down_fits.Goals as goal

pub returns-then-q-p : goal.returns-then-q-p
returns-then-q-p c = λ t. right_down_by _ _ _ c.requires.p c.requires.q c.requires.h (inl (omega (arith, ints, c.if-q-p.true)))

pub returns : goal.returns
returns c = λ t. let a = c.all.ensures t in
    right_down_by _ _ _ c.requires.p c.requires.q c.requires.h
    (inr (record {
      right = (c.both_reach.ensures a.0).0;
      down = (c.both_reach.ensures a.0).1;
      left_down = c.keeps_twice.ensures a.1;
      right_up = c.keeps_twice-2.ensures a.2;
      left = c.keeps.ensures a.3;
      up = c.keeps-2.ensures a.4;
      left_up = c.overlap.ensures a.5;
    }))
