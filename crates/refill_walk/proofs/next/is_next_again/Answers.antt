use Rattle.std.proofs.Common.{ap, length, arith}
use Rattle.std.proofs.lemmas.List.{length-map}
use Rattle.std.specs.Prelude.{Bool, List}
use Rattle.std.specs.Arc.{arc_value}
use Rattle.refill_laws.specs.Walked.{is_set}
use Rattle.refill_walk.proofs.Again.{same_again}
use Rattle.refill_walk.proofs.next.is_next_again.Goals as goal

pub is_filled_again-requires-clause-few : goal.is_filled_again-requires-clause-few
is_filled_again-requires-clause-few c =
    let m = length-map c.args.walk.now.fills.items arc_value in
    let d = ap (λ (bs : List Bool). length bs) c.deref.ensures.value in
    omega (arith, m, d, c.requires.more, c.requires.walked.walked.as_told)

pub returns : goal.returns
returns c =
    same_again c.args.it.now.board.now.board (is_set c.args.it.now.flags.now) c.deref.result.now c.args.walk.now.changed.items c.len-rank.result (length c.args.walk.now.fills.items)
    c.is_filled_again.result c.deref.ensures.value (omega (arith, c.len-rank.ensures, c.args.walk.now.fills.ok)) c.is_filled_again.ensures
