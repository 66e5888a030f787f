use Rattle.std.proofs.Common.{rules, arith, ◌<◌, ◌≤◌, not}
use Rattle.std.proofs.lemmas.List.Sorted.{IsPartitionPoint-from_clause}
use Rattle.sheet_trace.specs.declared.edge.BoundaryEdge.{BoundaryEdge}
use Rattle.sheet_trace.specs.Next.{is_before}
use Rattle.sheet_trace.proofs.Ranges.{IsRange, first_partitioned, end_partitioned, some_place, best_first, best_new_by, best_old_by, best_next}
use Rattle.sheet_trace.proofs.next.next_place.Goals as goal
use Rattle.sheet_trace.proofs.next.next_place.Goals.{then-turn, else-turn}

pub each-init : goal.each-init
each-init c =
    let es = c.args.edges.now in
    let q = c.args.edge.now.finish in
    let i = c.partition_point-first.result in
    let j = c.partition_point-end.result in
    let r : IsRange es q i j = record {
      low = IsPartitionPoint-from_clause (λ (e : BoundaryEdge). is_before e.start q) es i c.partition_point-first.ensures.partitioned (first_partitioned es q c.requires.order) (λ a r q k. search rules);
      high = IsPartitionPoint-from_clause (λ (e : BoundaryEdge). not (is_before q e.start)) es j c.partition_point-end.ensures.partitioned (end_partitioned es q c.requires.order) (λ a r q k. search rules);
      within = c.partition_point-end.ensures.bound;
    } in
    let l = some_place es c.args.edge.now i j r c.requires.some in
    record { best = best_first es c.args.edge.now i j r l; within = (let w = c.partition_point-end.ensures.bound in omega (arith, l, w)) }

pub each-preserved : goal.each-preserved
each-preserved c =
    let es = c.args.edges.now in
    let q = c.args.edge.now.finish in
    let i = c.partition_point-first.result in
    let j = c.partition_point-end.result in
    let r : IsRange es q i j = record {
      low = IsPartitionPoint-from_clause (λ (e : BoundaryEdge). is_before e.start q) es i c.partition_point-first.ensures.partitioned (first_partitioned es q c.requires.order) (λ a r q k. search rules);
      high = IsPartitionPoint-from_clause (λ (e : BoundaryEdge). not (is_before q e.start)) es j c.partition_point-end.ensures.partitioned (end_partitioned es q c.requires.order) (λ a r q k. search rules);
      within = c.partition_point-end.ensures.bound;
    } in
    let e = c.args.edge.now in
    let n = c.each.place in
    let k = c.each.best in
    let f : i ≤ n = omega arith in
    let l : n < j = omega (arith, c.each-test.true) in
    elim c.if-turn.branch [
      | then-turn w ↦ rw w.best-is (record {
        best = best_new_by es e i j n k _ _ _ _ r f l c.turn.ensures c.turn-in-each.ensures w.if-turn.true c.each.invariant.within c.each.invariant.best;
        within = (let b = c.partition_point-end.ensures.bound in omega (arith, l, b));
      })
      | else-turn w ↦ rw w.best-is (record {
        best = best_old_by es e n k _ _ _ _ (let b = c.partition_point-end.ensures.bound in omega (arith, l, b)) c.turn.ensures c.turn-in-each.ensures w.if-turn.false c.each.invariant.within c.each.invariant.best;
        within = c.each.invariant.within;
      })
    ]

pub returns-clause-next : goal.returns-clause-next
returns-clause-next c =
    let es = c.args.edges.now in
    let q = c.args.edge.now.finish in
    let i = c.partition_point-first.result in
    let j = c.partition_point-end.result in
    let r : IsRange es q i j = record {
      low = IsPartitionPoint-from_clause (λ (e : BoundaryEdge). is_before e.start q) es i c.partition_point-first.ensures.partitioned (first_partitioned es q c.requires.order) (λ a r q k. search rules);
      high = IsPartitionPoint-from_clause (λ (e : BoundaryEdge). not (is_before q e.start)) es j c.partition_point-end.ensures.partitioned (end_partitioned es q c.requires.order) (λ a r q k. search rules);
      within = c.partition_point-end.ensures.bound;
    } in
    best_next es c.args.edge.now i j c.each.place c.each.best r (omega (arith, c.each-test.false)) c.each.invariant.within c.each.invariant.best
