use Rattle.std.proofs.Common.{◌∙◌, sym, arith}
use Rattle.board_items.specs.Known.{context}
use Rattle.board_model.proofs.Rooms.{none_is, via_room}
use Rattle.board_model.proofs.reading.ReadSoFar.via.Goals as goal

pub add_via-requires : goal.add_via-requires
add_via-requires c =
    let none = sym c.in_ok-kind.ensures ∙ none_is c.in_ok-kind.kind c.is_none.result c.is_none.ensures c.if-is_none.true in
    let r = c.is_over.ensures.room (via_room (context c.args.item.now.bytes c.args.known.now) c.args.item.now.item c.is_double.result c.is_over.result none) in
    record { room = omega (arith, r.0) }
