use Rattle.std.proofs.Common.{arith, get_or}
use Rattle.std.specs.Prelude.{pos}
use Rattle.std.proofs.lemmas.List.Elements.{All-nil}
use Rattle.strips.specs.Strips.{in_nanometres}
use Rattle.sheet_union.specs.Near.{IsNearStrip}
use Rattle.sheet_union.proofs.State.{first_state, so_far_start}
use Rattle.sheet_union.proofs.Sweeping.{top_is, bottom_is, state_step, open_step, strips_step, strips_end}
use Rattle.sheet_union.proofs.sweep.swept.Goals as goal

pub slab-init : goal.slab-init
slab-init c = record {
  state = rw c.new-open.ensures.items (first_state c.args.octs.now (get_or c.args.rows.now 0 (pos 0)) c.requires.octs);
  within = omega arith;
  strips = rw c.new-strips.ensures.items (so_far_start (in_nanometres c.args.octs.now) c.args.rows.now);
  near = rw c.new-strips.ensures.items (All-nil (λ s. IsNearStrip s));
}

pub open_begun-requires : goal.open_begun-requires
open_begun-requires c = c.slab.invariant.within

pub slab-preserved : goal.slab-preserved
slab-preserved c =
    let rows = c.args.rows.now in
    let k = c.slab.k in
    let l = c.slab-test.true in
    let down = c.requires.rows.down in
    let near = c.requires.near in
    let opened = open_step c.args.octs.now rows k c.slab.open.items c.open_begun.new.opened.items c.deref.result.now c.in_ok-open.open.items c.deref-in-slab.result.now _ _ _ c.slab.auto.k l down
    (top_is rows k l near) (bottom_is rows k l near) c.in_ok-next.ensures.opened c.deref.ensures.value c.in_ok-open.ensures c.deref-in-slab.ensures.value c.slab.invariant.state in
    record {
      state = state_step c.args.octs.now rows k c.slab.open.items c.open_begun.new.opened.items c.deref.result.now _ _ _ _ _ c.slab.auto.k l down
          (top_is rows k l near) (bottom_is rows k l near) c.in_ok-next.ensures.opened c.deref.ensures.value c.in_ok-open.ensures c.in_ok-next.ensures.waiting c.slab.invariant.state;
      within = c.in_ok-next.ensures.place;
      strips = strips_step (in_nanometres c.args.octs.now) rows k _ _ c.slab.auto.k l
          (rw (top_is rows k l near, bottom_is rows k l near) at (c.in_ok-put_slab.ensures.slab (in_nanometres c.args.octs.now) (rw (top_is rows k l near, bottom_is rows k l near) opened)))
          c.slab.invariant.strips;
      near = c.in_ok-put_slab.ensures.near c.slab.invariant.near;
    }

pub returns-clause-strips : goal.returns-clause-strips
returns-clause-strips c = strips_end (in_nanometres c.args.octs.now) c.args.rows.now c.slab.k c.slab.strips.items c.slab-test.false c.slab.invariant.strips

pub returns-clause-near : goal.returns-clause-near
returns-clause-near c = c.slab.invariant.near
