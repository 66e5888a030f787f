use Rattle.std.proofs.Common.{◌≡◌, ◌∙◌, ◌+◌, ◌-◌, ap, sym, rules, arith, take, drop, slice_index_or}
use Rattle.std.proofs.lemmas.List.{get_or_default}
use Rattle.desk.specs.declared.arena.Lengths.{Lengths}
use Rattle.desk.proofs.Tables.{Cut, cut_at, name_read, own_fits, next_offset, others_before, first_place, length-entries}
use Rattle.desk.proofs.arena.place_of.Goals as goal

pub overflow_add-at : goal.overflow_add-at
overflow_add-at c =
    let own : Lengths = slice_index_or c.args.table.now c.each.index (record { name = 0; contents = 0 }) in
    let f = own_fits c.args.table.now c.args.bytes.now c.each.index c.each.at own c.requires c.each-test.true (get_or_default c.args.table.now c.each.index _ own c.each-test.true) c.each.invariant.offset in
    search (rules, f)

pub slice_bounds-is_name-end : goal.slice_bounds-is_name-end
slice_bounds-is_name-end c =
    let own : Lengths = slice_index_or c.args.table.now c.each.index (record { name = 0; contents = 0 }) in
    let f = own_fits c.args.table.now c.args.bytes.now c.each.index c.each.at own c.requires c.each-test.true (get_or_default c.args.table.now c.each.index _ own c.each-test.true) c.each.invariant.offset in
    search (rules, f)

pub returns-then-is_name-clause-found : goal.returns-then-is_name-clause-found
returns-then-is_name-clause-found c =
    let own : Lengths = slice_index_or c.args.table.now c.each.index (record { name = 0; contents = 0 }) in
    let k : Cut c.args.table.now c.args.bytes.now c.each.index own = cut_at c.args.table.now c.args.bytes.now c.each.index own c.requires c.each-test.true (get_or_default c.args.table.now c.each.index _ own c.each-test.true) in
    let same : c.each.at + own.name - c.each.at ≡ own.name = omega arith in
    first_place c.args.table.now c.args.bytes.now c.args.name.now c.each.index own k c.each-test.true
    (sym (name_read c.args.table.now c.args.bytes.now c.each.index own k c.each.at c.each.invariant.offset) ∙ ap (λ n. take n (drop c.each.at c.args.bytes.now)) (sym same) ∙ c.is_name.ensures.yes c.if-is_name.true)
    c.each.invariant.others

pub overflow_add-at-in-each : goal.overflow_add-at-in-each
overflow_add-at-in-each c =
    let own : Lengths = slice_index_or c.args.table.now c.each.index (record { name = 0; contents = 0 }) in
    let f = own_fits c.args.table.now c.args.bytes.now c.each.index c.each.at own c.requires c.each-test.true (get_or_default c.args.table.now c.each.index _ own c.each-test.true) c.each.invariant.offset in
    search (rules, f)

pub overflow_add-at-in-each-2 : goal.overflow_add-at-in-each-2
overflow_add-at-in-each-2 c =
    let own : Lengths = slice_index_or c.args.table.now c.each.index (record { name = 0; contents = 0 }) in
    let f = own_fits c.args.table.now c.args.bytes.now c.each.index c.each.at own c.requires c.each-test.true (get_or_default c.args.table.now c.each.index _ own c.each-test.true) c.each.invariant.offset in
    search (rules, f)

pub each-preserved : goal.each-preserved
each-preserved c =
    let own : Lengths = slice_index_or c.args.table.now c.each.index (record { name = 0; contents = 0 }) in
    let is : own ≡ slice_index_or c.args.table.now c.each.index own = get_or_default c.args.table.now c.each.index _ own c.each-test.true in
    let k : Cut c.args.table.now c.args.bytes.now c.each.index own = cut_at c.args.table.now c.args.bytes.now c.each.index own c.requires c.each-test.true is in
    let same : c.each.at + own.name - c.each.at ≡ own.name = omega arith in
    record {
      within = omega arith;
      offset = next_offset c.args.table.now c.each.index c.each.at own c.each-test.true is c.each.invariant.offset;
      others = others_before c.args.table.now c.args.bytes.now c.args.name.now c.each.index own k
          (λ e. c.is_name.ensures.no c.if-is_name.false (ap (λ n. take n (drop c.each.at c.args.bytes.now)) same ∙ name_read c.args.table.now c.args.bytes.now c.each.index own k c.each.at c.each.invariant.offset ∙ e))
          c.each.invariant.others;
    }

pub returns-clause-none : goal.returns-clause-none
returns-clause-none c = λ j low. c.each.invariant.others j (omega (arith, low, length-entries c.args.table.now c.args.bytes.now, c.each-test.false))
