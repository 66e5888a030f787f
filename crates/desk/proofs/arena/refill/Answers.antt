use Rattle.std.proofs.Common.{rules, arith}
use Rattle.desk.proofs.Tables.{own_fits, refilled}
use Rattle.desk.proofs.arena.refill.Goals as goal

pub overflow_add-spot : goal.overflow_add-spot
overflow_add-spot c =
    let f = own_fits c.args.table.now.items c.args.bytes.now.items c.args.spot.index c.args.spot.at c.index-own.result.now c.requires.table c.requires.place.0 c.index-own.ensures c.requires.place.1 in
    search (rules, f)

pub splice-requires-clause-within : goal.splice-requires-clause-within
splice-requires-clause-within c =
    let f = own_fits c.args.table.now.items c.args.bytes.now.items c.args.spot.index c.args.spot.at c.index-own.result.now c.requires.table c.requires.place.0 c.index-own.ensures c.requires.place.1 in
    omega (arith, f, c.args.bytes.now.ok)

pub returns-clause-table : goal.returns-clause-table
returns-clause-table c = (refilled c.args.table.now.items c.args.bytes.now.items c.args.fresh.now c.splice.new.all.items c.args.spot.index c.args.spot.at c.index-own.result.now c.requires.table c.requires.place.0 c.index-own.ensures c.requires.place.1 c.splice.ensures.items).1

pub returns-clause-entries : goal.returns-clause-entries
returns-clause-entries c = (refilled c.args.table.now.items c.args.bytes.now.items c.args.fresh.now c.splice.new.all.items c.args.spot.index c.args.spot.at c.index-own.result.now c.requires.table c.requires.place.0 c.index-own.ensures c.requires.place.1 c.splice.ensures.items).0
