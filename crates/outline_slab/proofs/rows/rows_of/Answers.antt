use Rattle.std.proofs.Common.{arith}
use Rattle.std.proofs.lemmas.List.{length_push}
use Rattle.std.proofs.lemmas.List.Elements.{All-push}
use Rattle.outline_slab.specs.Inner.Search.{IsRow}
use Rattle.outline_slab.proofs.LeastPair.{pushed_index}
use Rattle.outline_slab.proofs.rows.rows_of.Goals as goal

pub each-preserved : goal.each-preserved
each-preserved c =
    let rows = c.each.rows.items in
    let r = c.row_of.result in
    rw c.in_ok-push.ensures.items
    (record {
      each = All-push (IsRow c.args.corners.now) rows r c.each.invariant.each c.row_of.ensures.row;
      count = (let n = length_push rows r in let m = c.each.invariant.count in omega (arith, n, m));
      index = pushed_index rows r c.each.i c.each.invariant.count c.each.invariant.index c.row_of.ensures.index;
    })
