use Rattle.std.proofs.lemmas.List.{drop_more, drop_all}
use Rattle.fill_pool.proofs.Tables.{place_within, chosen_first, chosen_step, chosen_enough, chosen_all}
use Rattle.fill_pool.proofs.table.chosen.Goals as goal

pub each-init : goal.each-init
each-init c = chosen_first c.args.board.now.board c.args.rank _ c.args.ranks.now _ c.new-row.ensures.items c.requires.ranks

pub is_reaching-wanted-requires-clause-upper : goal.is_reaching-wanted-requires-clause-upper
is_reaching-wanted-requires-clause-upper c = place_within _ _ _ c.args.ranks.now c.each.upper-index 0 c.requires.ranks c.each-test.true

pub each-preserved : goal.each-preserved
each-preserved c =
    chosen_step c.args.board.now.board c.args.rank _ c.args.ranks.now c.each.row.items _ _ _ c.is_reaching-wanted.result (drop_more c.args.ranks.now c.each.upper-index 0 c.each-test.true)
    c.is_reaching-wanted.ensures c.in_ok-push_if.ensures c.each.invariant

pub returns-then-upper-rank : goal.returns-then-upper-rank
returns-then-upper-rank c =
    chosen_enough c.args.board.now.board c.args.rank _ _ c.args.ranks.now _ _ _ (drop_more c.args.ranks.now c.each.upper-index 0 c.each-test.true) c.if-upper-rank.true c.requires.rank c.requires.ranks c.each.invariant

pub returns : goal.returns
returns c =
    chosen_all c.args.board.now.board c.args.rank _ c.args.ranks.now _ _ (drop_all c.each.upper-index c.args.ranks.now c.each-test.false) c.requires.rank c.requires.ranks c.each.invariant
