use Rattle.std.proofs.Common.{◌≡◌, ◌∙◌, ap, arith, length, replicate, false}
use Rattle.std.proofs.lemmas.List.{length-replicate}
use Rattle.sheet_trace.proofs.Walked.{all_begun, all_drawn}
use Rattle.sheet_trace.proofs.walk.drawings.Goals as goal

pub each-init : goal.each-init
each-init c =
    let none = c.new-drawings.ensures.items in
    let unset : c.as_mut_slice-used.result.now ≡ replicate (length c.args.edges.now) false = c.as_mut_slice-used.ensures.value ∙ c.in_ok-flags.ensures.items_if_clones_equal (λ y q. q) in
    record {
      all = all_begun c.args.edges.now _ _ none unset;
      few = (let q = ap length none in omega (arith, q));
      size = ap length unset ∙ length-replicate (length c.args.edges.now) false;
    }

pub returns : goal.returns
returns c = all_drawn c.args.edges.now c.each.first c.each.used _ _ (omega (arith, c.each-test.false)) c.each.invariant.all
