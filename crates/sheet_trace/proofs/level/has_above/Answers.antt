use Rattle.std.proofs.Common.{sym, ◌∙◌, rules, arith}
use Rattle.std.proofs.lemmas.List.Sorted.{IsPartitionPoint-from_clause}
use Rattle.sheet_trace.specs.Inner.Levels.{ends_by}
use Rattle.sheet_trace.proofs.Found.{above_partitioned, above_found, above_none, none_before}
use Rattle.sheet_trace.proofs.level.has_above.Goals as goal

pub returns-then-place-gt0 : goal.returns-then-place-gt0
returns-then-place-gt0 c =
    let ss = c.args.strips.now in
    let a = c.args.corner in
    let i = c.partition_point-place.result in
    let p = IsPartitionPoint-from_clause (λ s. ends_by a s) ss i c.partition_point-place.ensures.partitioned (above_partitioned a ss c.requires) (λ a r q k. search rules) in
    c.ends_over.ensures ∙ above_found a ss i _ c.requires c.partition_point-place.ensures.bound p (omega (arith, c.if-place-gt0.true))

pub returns-else-place-gt0 : goal.returns-else-place-gt0
returns-else-place-gt0 c =
    let ss = c.args.strips.now in
    let a = c.args.corner in
    let i = c.partition_point-place.result in
    let p = IsPartitionPoint-from_clause (λ s. ends_by a s) ss i c.partition_point-place.ensures.partitioned (above_partitioned a ss c.requires) (λ a r q k. search rules) in
    none_before i c.if-place-gt0.false ∙ sym (above_none a ss i p c.if-place-gt0.false)
