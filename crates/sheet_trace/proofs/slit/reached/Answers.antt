use Rattle.std.proofs.Common.{◌≡◌, ◌∙◌, rules, arith, to_z, of_z, w64}
use Rattle.std.proofs.lemmas.Int.{ints}
use Rattle.std.proofs.lemmas.List.Sorted.{IsPartitionPoint-from_clause}
use Rattle.sheet_trace.specs.declared.edge.BoundaryEdge.{BoundaryEdge}
use Rattle.sheet_trace.specs.Next.{is_before}
use Rattle.sheet_trace.proofs.Ranges.{first_partitioned}
use Rattle.sheet_trace.proofs.Reached.{none_before, last_before}
use Rattle.sheet_trace.proofs.slit.reached.Goals as goal

pub returns-then-place-eq0 : goal.returns-then-place-eq0
returns-then-place-eq0 c =
    let es = c.args.edges.now in
    let h = c.args.from in
    let i = c.partition_point-place.result in
    let p = IsPartitionPoint-from_clause (λ (e : BoundaryEdge). is_before e.start h) es i c.partition_point-place.ensures.partitioned (first_partitioned es h c.requires) (λ a r q k. search rules) in
    let e : to_z w64 (of_z w64 h.x) ≡ h.x = search (rules, arith, ints) in
    e ∙ none_before h es (record { start = h; finish = h }) i c.requires p c.if-place-eq0.true

pub returns : goal.returns
returns c =
    let es = c.args.edges.now in
    let h = c.args.from in
    let i = c.partition_point-place.result in
    let p = IsPartitionPoint-from_clause (λ (e : BoundaryEdge). is_before e.start h) es i c.partition_point-place.ensures.partitioned (first_partitioned es h c.requires) (λ a r q k. search rules) in
    let x = c.x_by.result in
    let e : to_z w64 (of_z w64 x) ≡ x = search (rules, arith, ints) in
    e ∙ c.x_by.ensures ∙ last_before h es _ i c.requires c.partition_point-place.ensures.bound p c.if-place-eq0.false
