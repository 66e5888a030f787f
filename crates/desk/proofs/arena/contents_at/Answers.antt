use Rattle.std.proofs.Common.{◌≡◌, ◌∙◌, ◌+◌, ◌-◌, ap, sym, rules, arith, take, drop, slice_index_or}
use Rattle.std.proofs.lemmas.List.{get_or_default}
use Rattle.desk.specs.declared.arena.Lengths.{Lengths}
use Rattle.desk.proofs.Tables.{Cut, cut_at, contents_read, own_fits}
use Rattle.desk.proofs.arena.contents_at.Goals as goal

pub overflow_add-start : goal.overflow_add-start
overflow_add-start c =
    let own : Lengths = slice_index_or c.args.table.now c.args.spot.index (record { name = 0; contents = 0 }) in
    let f = own_fits c.args.table.now c.args.bytes.now c.args.spot.index c.args.spot.at own c.requires.table c.requires.place.0 (get_or_default c.args.table.now c.args.spot.index _ own c.requires.place.0) c.requires.place.1 in
    search (rules, f)

pub overflow_add-result : goal.overflow_add-result
overflow_add-result c =
    let own : Lengths = slice_index_or c.args.table.now c.args.spot.index (record { name = 0; contents = 0 }) in
    let f = own_fits c.args.table.now c.args.bytes.now c.args.spot.index c.args.spot.at own c.requires.table c.requires.place.0 (get_or_default c.args.table.now c.args.spot.index _ own c.requires.place.0) c.requires.place.1 in
    search (rules, f)

pub slice_bounds-result-end : goal.slice_bounds-result-end
slice_bounds-result-end c =
    let own : Lengths = slice_index_or c.args.table.now c.args.spot.index (record { name = 0; contents = 0 }) in
    let f = own_fits c.args.table.now c.args.bytes.now c.args.spot.index c.args.spot.at own c.requires.table c.requires.place.0 (get_or_default c.args.table.now c.args.spot.index _ own c.requires.place.0) c.requires.place.1 in
    search (rules, f)

pub returns : goal.returns
returns c =
    let own : Lengths = slice_index_or c.args.table.now c.args.spot.index (record { name = 0; contents = 0 }) in
    let k : Cut c.args.table.now c.args.bytes.now c.args.spot.index own = cut_at c.args.table.now c.args.bytes.now c.args.spot.index own c.requires.table c.requires.place.0 (get_or_default c.args.table.now c.args.spot.index _ own c.requires.place.0) in
    let same : c.args.spot.at + own.name + own.contents - (c.args.spot.at + own.name) ≡ own.contents = omega arith in
    ap (λ n. take n (drop (c.args.spot.at + own.name) c.args.bytes.now)) same
    ∙ contents_read c.args.table.now c.args.bytes.now c.args.spot.index own k c.args.spot.at c.requires.place.1
    ∙ ap (λ e. e.1) (sym k.entry_is)
