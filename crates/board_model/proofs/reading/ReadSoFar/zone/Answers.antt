use Rattle.std.proofs.Common.{◌∙◌, sym, arith}
use Rattle.board_items.specs.Known.{context}
use Rattle.board_model.proofs.Rooms.{none_is, zone_room}
use Rattle.board_model.proofs.reading.ReadSoFar.zone.Goals as goal

pub add_zone-requires-clause-things : goal.add_zone-requires-clause-things
add_zone-requires-clause-things c =
    let kind = c.in_ok-kind.ensures in
    let none = sym kind.is_kind ∙ none_is c.in_ok-kind.kind c.is_none.result c.is_none.ensures c.if-is_none.true in
    let r = c.is_over.ensures.room (zone_room (context c.args.item.now.bytes c.args.known.now) c.args.item.now.item kind.outline c.is_double-double.result c.is_over.result none) in
    omega (arith, r.0)

pub add_zone-requires-clause-outlines : goal.add_zone-requires-clause-outlines
add_zone-requires-clause-outlines c =
    let kind = c.in_ok-kind.ensures in
    let none = sym kind.is_kind ∙ none_is c.in_ok-kind.kind c.is_none.result c.is_none.ensures c.if-is_none.true in
    let r = c.is_over.ensures.room (zone_room (context c.args.item.now.bytes c.args.known.now) c.args.item.now.item kind.outline c.is_double-double.result c.is_over.result none) in
    omega (arith, r.1)
