use Rattle.std.proofs.lemmas.List.Sorted.{All-permutation}
use Rattle.sheet_union.specs.Near.{IsNearStrip}
use Rattle.sheet_union.proofs.Runs.{slab_added}
use Rattle.sheet_union.proofs.merge.put_slab.Goals as goal

pub put_merged-requires : goal.put_merged-requires
put_merged-requires c = rw c.deref.ensures.value (All-permutation (λ s. IsNearStrip s) _ _ c.in_ok-runs.ensures.order c.in_ok-runs_of.ensures.near)

pub returns-clause-slab : goal.returns-clause-slab
returns-clause-slab c =
    slab_added c.args.octs.now c.args.top c.args.bottom _ _ _ _ c.requires.top c.requires.bottom
    c.in_ok-runs_of.ensures.value c.in_ok-runs.ensures.order c.in_ok-runs.ensures.sorted (rw c.deref.ensures.value at c.in_ok-put_merged.ensures.strips)
