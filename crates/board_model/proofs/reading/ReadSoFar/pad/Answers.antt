use Rattle.std.proofs.Common.{◌∙◌, sym, arith}
use Rattle.board_items.specs.Known.{context}
use Rattle.board_model.proofs.Rooms.{none_is, pad_room}
use Rattle.board_model.proofs.reading.ReadSoFar.pad.Goals as goal

pub add_pad-requires : goal.add_pad-requires
add_pad-requires c =
    let none = sym c.in_ok-kind.ensures ∙ none_is c.in_ok-kind.kind c.is_none.result c.is_none.ensures c.if-is_none.true in
    let r = c.is_over.ensures.room (pad_room (context c.args.pad.now.bytes c.args.known.now) c.args.footprint.now.item c.args.pad.now.item c.is_over.result none) in
    record { room = omega (arith, r.0) }
