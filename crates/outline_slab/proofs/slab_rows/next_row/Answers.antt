use Rattle.std.proofs.Common.{◌≡◌, rules, arith, get_or}
use Rattle.std.specs.Prelude.{pos, int_le}
use Rattle.std.proofs.lemmas.Int.{ints}
use Rattle.std.proofs.lemmas.List.Sorted.{IsPartitionPoint-from_clause}
use mir.Val.{to_z, of_z}
use mir.Syntax.{w64}
use Rattle.outline_slab.proofs.Rising.{partitioned, found_within, found_after, found_row, found_next}
use Rattle.outline_slab.proofs.slab_rows.next_row.Goals as goal

pub bounds-rows-place : goal.bounds-rows-place
bounds-rows-place c =
    let rows = c.args.rows.now in
    let y = c.args.y in
    let p = IsPartitionPoint-from_clause (λ z. int_le z y) rows c.partition_point-place.result c.partition_point-place.ensures.partitioned (partitioned rows y c.requires.rising) (λ a r q k. search (rules, arith, ints)) in
    found_within rows y c.partition_point-place.result c.requires.rising p c.requires.some

pub returns-clause-after : goal.returns-clause-after
returns-clause-after c =
    let rows = c.args.rows.now in
    let y = c.args.y in
    let i = c.partition_point-place.result in
    let p = IsPartitionPoint-from_clause (λ z. int_le z y) rows i c.partition_point-place.ensures.partitioned (partitioned rows y c.requires.rising) (λ a r q k. search (rules, arith, ints)) in
    let e : to_z w64 (of_z w64 (get_or rows i (pos 0))) ≡ get_or rows i (pos 0) = search (rules, arith, ints) in
    rw e (found_after rows y i c.requires.rising p (pos 0) c.requires.some)

pub returns-clause-row : goal.returns-clause-row
returns-clause-row c =
    let rows = c.args.rows.now in
    let y = c.args.y in
    let i = c.partition_point-place.result in
    let p = IsPartitionPoint-from_clause (λ z. int_le z y) rows i c.partition_point-place.ensures.partitioned (partitioned rows y c.requires.rising) (λ a r q k. search (rules, arith, ints)) in
    let e : to_z w64 (of_z w64 (get_or rows i (pos 0))) ≡ get_or rows i (pos 0) = search (rules, arith, ints) in
    rw e (found_row rows y i c.requires.rising p (pos 0) c.requires.some)

pub returns-clause-next : goal.returns-clause-next
returns-clause-next c =
    let rows = c.args.rows.now in
    let y = c.args.y in
    let i = c.partition_point-place.result in
    let p = IsPartitionPoint-from_clause (λ z. int_le z y) rows i c.partition_point-place.ensures.partitioned (partitioned rows y c.requires.rising) (λ a r q k. search (rules, arith, ints)) in
    let e : to_z w64 (of_z w64 (get_or rows i (pos 0))) ≡ get_or rows i (pos 0) = search (rules, arith, ints) in
    rw e (found_next rows y i c.requires.rising p (pos 0) c.requires.some)
