use Rattle.std.proofs.Common.{refl, inl, inr, arith}
use Rattle.std.proofs.lemmas.Bool.{both_ways}
use Rattle.std.proofs.lemmas.Result.{IfOk-weaker}
use Rattle.refill_walk.proofs.Results.{ok_two}
use Rattle.refill_walk.proofs.next.with_next.Goals as goal

pub with_kept-requires-clause-stays : goal.with_kept-requires-clause-stays
with_kept-requires-clause-stays g c = λ a. both_ways c.is_next_again.result c.if-is_next_again.false (c.is_next_again.ensures.1 a)

pub returns-then-is_next_again-clause-counts : goal.returns-then-is_next_again-clause-counts
returns-then-is_next_again-clause-counts g c =
    ok_two c.with_made.result _ _ _ (λ w p q. omega (arith, p, q)) c.with_made.ensures.count c.with_made.ensures.counts

pub returns-then-is_next_again-clause-most : goal.returns-then-is_next_again-clause-most
returns-then-is_next_again-clause-most g c =
    inr (c.is_next_again.ensures.0 c.if-is_next_again.true, c.with_made.ensures.most.0, c.with_made.ensures.most.1)

pub returns-clause-counts : goal.returns-clause-counts
returns-clause-counts g c = IfOk-weaker c.with_kept.result _ _ (λ w p. omega (arith, p)) c.with_kept.ensures.count

pub returns-clause-most : goal.returns-clause-most
returns-clause-most g c = inl refl
