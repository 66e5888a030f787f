use Rattle.std.proofs.Common.{◌∙◌, ◌-◌, ◌<◌, ◌^◌, arith, length, map}
use Rattle.board_text.specs.Layers.{is_among}
use Rattle.board_text.proofs.Walks.{get_same}
use Rattle.board_items.proofs.Bits.{no_bit, all_bits, bit_more, set_below}
use Rattle.board_items.proofs.layer_lists.set_of.Goals as goal

pub each-init : goal.each-init
each-init c = no_bit (λ v. is_among (map (λ t. t.items) c.args.meant.now) v.items) c.args.copper.now

pub overflow_mul-set : goal.overflow_mul-set
overflow_mul-set c =
    let b : c.each.set < 2 ^ 31 = set_below (λ v. is_among (map (λ t. t.items) c.args.meant.now) v.items) c.args.copper.now c.each.step c.each.set c.requires.few c.each-test.true c.each.invariant in
    omega (arith, b)

pub overflow_add-set : goal.overflow_add-set
overflow_add-set c =
    let b : c.each.set < 2 ^ 31 = set_below (λ v. is_among (map (λ t. t.items) c.args.meant.now) v.items) c.args.copper.now c.each.step c.each.set c.requires.few c.each-test.true c.each.invariant in
    omega (arith, b, c.bit.ensures.most)

pub each-preserved : goal.each-preserved
each-preserved c =
    rw (c.bit.ensures.value, c.has_text.ensures, c.as_slice.ensures.value)
    (bit_more (λ v. is_among (map (λ t. t.items) c.args.meant.now) v.items) c.args.copper.now c.each.step c.index-copper-copper.result c.each.set c.each-test.true
    (λ d. c.index-copper-copper.is ∙ get_same c.args.copper.now (length c.args.copper.now - 1 - c.each.step) c.index-copper-copper.result d (omega (arith, c.each-test.true)))
    c.each.invariant)

pub returns : goal.returns
returns c = all_bits (is_among (map (λ t. t.items) c.args.meant.now)) (λ v. v.items) c.args.copper.now c.each.step c.each.set (omega (arith, c.each-test.false)) c.each.invariant
