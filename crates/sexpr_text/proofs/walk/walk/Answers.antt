use Rattle.std.proofs.Common.{◌≡◌, ◌⊎◌, slice_index, inl, inr, arith, refl, sym, ◌∙◌, subst}
use Rattle.sexpr_text.specs.Faults.{IsFault}
use Rattle.sexpr_text.specs.Inner.Spot.{step}
use Rattle.sexpr_text.specs.Inner.Spot.TextSpot.{Lost}
use Rattle.sexpr_text.specs.Inner.Cut.{cut_step, cuts}
use Rattle.sexpr_text.specs.Inner.Cut.Cut.{Broken}
use Rattle.sexpr_text.specs.Inner.Seen.{seen, seen_cut}
use Rattle.sexpr_text.proofs.WalkSteps.{walk_stop, walk_spot, walk_cut, walk_fault, walk_tree}
use Rattle.sexpr_text.proofs.walk.walk.Goals as goal
use Rattle.sexpr_text.proofs.walk.walk.Goals.{then-is_off-via-then-is_off, then-is_off-via-else-is_off+then-is_bad}

pub each-init : goal.each-init
unfolding cuts
each-init c = record { within = omega arith; stands = refl; alive = λ q. cc; room = tt; cuts_so = refl; valid = λ q. cc }

pub returns-then-is_off : goal.returns-then-is_off
returns-then-is_off c =
    let d : (step (seen c.each.stand) (slice_index c.args.bytes.now c.each.at) ≡ Lost) ⊎ (cut_step (seen_cut c.each.cut) (slice_index c.args.bytes.now c.each.at) ≡ Broken) =
    elim c.then-is_off.branch [
      | then-is_off-via-then-is_off w ↦ inl (sym c.follow-next.ensures.step ∙ c.is_off.ensures.yes w.if-is_off.true)
      | then-is_off-via-else-is_off+then-is_bad w ↦ inr (sym c.follow_cut-later.ensures ∙ w.is_bad.ensures.yes w.if-is_bad.true)
    ] in
    subst (λ k. IsFault c.args.bytes.now c.each.at k) (sym c.kind_at-kind.ensures)
    (walk_stop c.args.bytes.now c.each.at (seen c.each.stand) (seen_cut c.each.cut) c.each-test.true c.each.invariant.stands c.each.invariant.alive c.each.invariant.cuts_so c.each.invariant.valid d)

pub each-preserved : goal.each-preserved
each-preserved c = record {
  within = omega arith;
  stands = walk_spot c.args.bytes.now c.each.at (seen c.each.stand) (seen c.follow-next.result) c.each.invariant.stands c.follow-next.ensures.step;
  alive = c.is_off.ensures.no c.if-is_off.false;
  room = c.follow-next.ensures.room;
  cuts_so = walk_cut c.args.bytes.now c.each.at (seen_cut c.each.cut) (seen_cut c.follow_cut-later.result) c.each-test.true c.each.invariant.cuts_so c.follow_cut-later.ensures;
  valid = c.is_bad.ensures.no c.if-is_bad.false;
}

pub returns-in_default : goal.returns-in_default
returns-in_default c =
    walk_tree c.args.bytes.now c.each.at (seen c.each.stand) (seen_cut c.each.cut) (omega (arith, c.each.invariant.within, c.each-test.false)) c.each.invariant.stands c.each.invariant.alive
    c.each.invariant.cuts_so c.each.invariant.valid (sym c.kind_at_end.ensures ∙ c.in_default.is)

pub returns : goal.returns
returns c =
    walk_fault c.args.bytes.now c.each.at (seen c.each.stand) (seen_cut c.each.cut) _ (omega (arith, c.each.invariant.within, c.each-test.false)) c.each.invariant.stands c.each.invariant.alive
    c.each.invariant.cuts_so c.each.invariant.valid (sym c.kind_at_end.ensures ∙ c.in-Some.is)
