use Rattle.std.proofs.Common.{arith, inl, inr}
use Rattle.std.proofs.lemmas.Int.{ints}
use Rattle.stacks.proofs.Plain.{right_by}
use Rattle.stacks.proofs.joins.right_fits.Goals as goal

pub returns-then-q-p : goal.returns-then-q-p
returns-then-q-p c = λ t. right_by _ _ _ c.requires.p c.requires.q c.requires.h (inl (omega (arith, ints, c.if-q-p.true)))

pub returns : goal.returns
returns c = λ t. let a = c.all.ensures t in
    right_by _ _ _ c.requires.p c.requires.q c.requires.h
    (inr (record {
      right_down = (c.both_reach.ensures a.0).0;
      right_up = (c.both_reach.ensures a.0).1;
      down = c.keeps.ensures a.1;
      up = c.keeps-2.ensures a.2;
      left_down = c.keeps-3.ensures a.3;
      left_up = c.keeps-4.ensures a.4;
      left = c.overlap.ensures a.5;
    }))
