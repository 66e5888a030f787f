use Rattle.std.proofs.Common.{◌∙◌, sym, arith}
use Rattle.board_items.specs.Known.{context}
use Rattle.board_model.proofs.Rooms.{none_is, net_room}
use Rattle.board_model.proofs.reading.ReadSoFar.net.Goals as goal

pub add_net-requires : goal.add_net-requires
add_net-requires c =
    let none = sym c.in_ok-kind.ensures ∙ none_is c.in_ok-kind.kind c.is_none.result c.is_none.ensures c.if-is_none.true in
    let r = c.is_over.ensures.room (net_room (context c.args.net.now.bytes c.args.known.now) c.args.net.now.item c.is_declared-double.result c.is_over.result none) in
    record { room = omega (arith, r.0) }
