use Rattle.std.proofs.Common.{subst, ◌≡◌, ◌-◌, ℕ, arith}
use Rattle.islands.specs.Inner.Firsts.{AreFirstOf}
use Rattle.islands.proofs.FirstPlaces.{first_none, first_more}
use Rattle.islands.proofs.firsts.firsts_of.Goals as goal

pub each-init : goal.each-init
each-init c = record {
  below = omega (arith, c.in_ok-n.ensures);
  first = first_none c.args.places.now c.args.classes.now c.in_ok-n.n c.in_ok-firsts.firsts.items c.in_ok-n.ensures
      (omega (arith, c.in_ok-firsts.ensures.len, c.in_ok-firsts.firsts.ok));
}

pub each-preserved : goal.each-preserved
each-preserved c = record {
  below = omega (arith, c.each.invariant.below);
  first = first_more c.args.places.now c.args.classes.now c.each.n (c.each.n - 1) c.each.firsts.items (omega (arith, c.each-test.true))
      (omega (arith, c.each-test.true, c.each.invariant.below)) c.requires c.each.invariant.first;
}

pub returns : goal.returns
returns c =
    let e : c.each.n ≡ 0 = omega (arith, c.each-test.false) in
    subst (λ (n : ℕ). AreFirstOf c.args.places.now c.args.classes.now n c.each.firsts.items) e c.each.invariant.first
