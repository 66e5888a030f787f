use Rattle.std.proofs.Common.{◌≡◌, sym, subst, rules, arith, ltb, leb, true, false, ◌≤◌, length, List}
use Rattle.std.specs.List.Sorted.{IsPartitionPoint}
use Rattle.std.proofs.lemmas.List.Sorted.{IsPartitionPoint-from_clause, IsPartitionedBy-ltb, IsPartitionedBy-leb}
use Rattle.plane.specs.Plane.{Bounds}
use Rattle.bins.specs.Meeting.{AreThoseMeeting}
use Rattle.clusters.specs.declared.patch.Patch.{Patch}
use Rattle.clusters.specs.Inner.Links.{ArePatchesInOrder}
use Rattle.clusters.proofs.Linking.{met_places, stretch_of, gathered_none, gathered_turn, gathered_end}
use Rattle.clusters.proofs.node_links.NodeLinksLinks.linked.Goals as goal

pub each-init : goal.each-init
each-init c =
    let ps = c.args.self.now.patches.items in
    let k = c.args.k in
    let low = subst (λ (xs : List Patch). IsPartitionPoint (λ (p : Patch). ltb p.node k ≡ true) (λ (p : Patch). ltb p.node k ≡ false) xs c.partition_point-first.result) c.deref.ensures.value
    (IsPartitionPoint-from_clause (λ (p : Patch). ltb p.node k) c.deref.result.now c.partition_point-first.result c.partition_point-first.ensures.partitioned
    (IsPartitionedBy-ltb (λ (p : Patch). p.node) c.deref.result.now k (subst ArePatchesInOrder (sym c.deref.ensures.value) c.requires.ready.order)) (λ a r q h. search rules)) in
    let high = subst (λ (xs : List Patch). IsPartitionPoint (λ (p : Patch). leb p.node k ≡ true) (λ (p : Patch). leb p.node k ≡ false) xs c.partition_point-end.result) c.deref-2.ensures.value
    (IsPartitionPoint-from_clause (λ (p : Patch). leb p.node k) c.deref-2.result.now c.partition_point-end.result c.partition_point-end.ensures.partitioned
    (IsPartitionedBy-leb (λ (p : Patch). p.node) c.deref-2.result.now k (subst ArePatchesInOrder (sym c.deref-2.ensures.value) c.requires.ready.order)) (λ a r q h. search rules)) in
    let s = stretch_of ps k _ _ low high (subst (λ (xs : List Patch). c.partition_point-end.result ≤ length xs) c.deref-2.ensures.value c.partition_point-end.ensures.bound) in
    record { stretch = s; gathered = rw (c.clear.ensures.items) (gathered_none ps k _ _ s) }

pub add_linked-requires-clause-places : goal.add_linked-requires-clause-places
add_linked-requires-clause-places c =
    rw (c.deref-in-each.ensures.value, c.deref-in-each-2.ensures.value)
    (met_places c.args.self.now.patches.items c.index-patch.result.now.hull c.meeting.new.into.items
    (subst (λ (os : List Bounds). AreThoseMeeting os c.index-patch.result.now.hull c.meeting.new.into.items) c.requires.ready.hulls c.in_ok-meeting.ensures.met))

pub each-preserved : goal.each-preserved
each-preserved c = record {
  stretch = c.each.invariant.stretch;
  gathered = gathered_turn c.args.self.now.patches.items c.deref-in-each.result.now c.args.k _ _ c.each.i c.index-patch.result.now _ c.meeting.new.into.items c.deref-in-each-2.result.now _ _
      c.each.invariant.stretch (omega arith) (omega (arith, c.each-test.true)) c.index-patch.ensures c.requires.ready.hulls c.in_ok-meeting.ensures.met c.deref-in-each.ensures.value
      c.deref-in-each-2.ensures.value c.in_ok-add_linked.ensures c.each.invariant.gathered;
}

pub returns : goal.returns
returns c = gathered_end c.args.self.now.patches.items c.args.k _ _ c.each.i c.each.into.items c.each.invariant.stretch (omega (arith, c.each-test.false)) c.each.invariant.gathered
