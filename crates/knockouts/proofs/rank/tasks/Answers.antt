use Rattle.std.proofs.Common.{◌≡◌, refl, rules}
use Rattle.std.proofs.lemmas.Fn.{always_returns_same}
use Rattle.knockouts.proofs.Sorting.{sorted_is}
use Rattle.knockouts.proofs.Placing.{priority, ranked_from}
use Rattle.knockouts.proofs.Reading.{each_task}
use Rattle.knockouts.proofs.rank.tasks.Goals as goal

pub returns-clause-order : goal.returns-clause-order
returns-clause-order c =
    let b = c.args.board.now.board in
    let key = always_returns_same _ (λ a r. r ≡ record { 0 = priority b a.0.now }) _ (λ a r q k. search rules) in
    ranked_from b _ c.layers.result.now c.zones.result.now _ _ c.layers.ensures c.zones.ensures refl c.in_ok-ranked.ensures (sorted_is (priority b) _ _ (c.in_ok-sort_by_key.ensures.sorted _ key) (c.sort_by_key.ensures.stable _ key))

pub returns-clause-each : goal.returns-clause-each
returns-clause-each c = each_task c.args.board.now.board c.sort_by_key.new.self.items (returns-clause-order c)
