use Rattle.board_items.specs.Known.{context}
use Rattle.board_model.proofs.Kept.{some_kept, none_kept}
use Rattle.board_model.proofs.zones.zone_kept.Goals as goal

pub returns-in_ok-zone_of : goal.returns-in_ok-zone_of
returns-in_ok-zone_of c =
    some_kept (context c.args.item.now.bytes c.args.known.now) _ _ c.has_few.result (c.has_few.ensures c.args.item.now.bytes) c.if-has_few.true c.in_ok-zone_of.ensures

pub returns-else-has_few : goal.returns-else-has_few
returns-else-has_few c = none_kept (context c.args.item.now.bytes c.args.known.now) _ c.has_few.result (c.has_few.ensures c.args.item.now.bytes) c.if-has_few.false
