use Rattle.std.proofs.Common.{refl}
use Rattle.std.proofs.lemmas.List.Elements.{All-push, All-nil}
use Rattle.sheet_union.specs.Near.{IsNearStrip}
use Rattle.sheet_union.proofs.Runs.{runs_step, runs_end}
use Rattle.sheet_union.proofs.run.runs_of.Goals as goal

pub each-init : goal.each-init
each-init c = record { value = rw c.new-out.ensures.items refl; near = rw c.new-out.ensures.items (All-nil (λ s. IsNearStrip s)) }

pub each-preserved : goal.each-preserved
each-preserved c = record {
  value = runs_step c.oct-item.result c.args.octs.now c.each.oct-index _ _ _ _ _ _ c.each-test.true c.oct-item.is c.run_of.ensures.value c.in_ok-push.ensures.items c.each.invariant.value;
  near = rw c.in_ok-push.ensures.items (All-push (λ s. IsNearStrip s) c.each.out.items c.run_of.result c.each.invariant.near c.run_of.ensures.near);
}

pub returns-clause-value : goal.returns-clause-value
returns-clause-value c = runs_end c.args.octs.now c.each.oct-index c.args.top c.args.bottom _ c.requires.top c.requires.bottom c.each-test.false c.each.invariant.value

pub returns-clause-near : goal.returns-clause-near
returns-clause-near c = c.each.invariant.near
