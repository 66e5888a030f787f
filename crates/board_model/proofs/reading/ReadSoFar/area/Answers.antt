use Rattle.std.proofs.Common.{◌∙◌, sym, arith}
use Rattle.board_items.specs.Known.{context}
use Rattle.board_model.proofs.Rooms.{none_is, area_room}
use Rattle.board_model.proofs.reading.ReadSoFar.area.Goals as goal

pub add_area-requires : goal.add_area-requires
add_area-requires c =
    let kind = c.in_ok-kind.ensures in
    let none = sym kind.is_kind ∙ none_is c.in_ok-kind.kind c.is_none.result c.is_none.ensures c.if-is_none.true in
    let r = c.is_over.ensures.room (area_room (context c.args.item.now.bytes c.args.known.now) c.args.item.now.item kind.outline c.is_double-double.result c.is_over.result none) in
    record { outlines = omega (arith, r.1) }
