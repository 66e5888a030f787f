use Rattle.std.proofs.Common.{subst, sym, length}
use Rattle.fill_rules.specs.Tasks.{ranked, layer_at}
use Rattle.fills.specs.Fills.{task_of}
use Rattle.fill_pool.specs.Inner.Tables.{ArePlacesOn}
use Rattle.fill_pool.proofs.Tables.{ranks_on_layer}
use Rattle.fill_pool.proofs.table.row_of.Goals as goal

pub chosen-requires-clause-ranks : goal.chosen-requires-clause-ranks
chosen-requires-clause-ranks c =
    let b = c.args.board.now.board in
    subst (λ ranks. ArePlacesOn (ranked b) (layer_at b c.args.rank) (length c.args.tasks.now) ranks) (sym c.as_slice-ranks.ensures.value)
    (ranks_on_layer task_of (λ list. list.items) b c.args.tasks.now c.args.layers.now _ c.args.rank _ c.index-layers-tasks.result c.requires.order c.requires.rank c.requires.layers (c.requires.each c.args.rank _ c.requires.rank).layer c.index-layers-tasks.is)
