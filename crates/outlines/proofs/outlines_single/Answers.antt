use Rattle.std.proofs.Common.{map}
use Rattle.std.specs.Arc.{arc_value}
use Rattle.rings.specs.Outlines.{AreOutlines}
use Rattle.fill_rules.specs.Made.{Made, no_fill}
use Rattle.outlines.specs.Drawn.{ArePiecesDrawable, IsCovering}
use Rattle.outlines.proofs.Each.{count_more, drawn_more, range_more, at_place}
use Rattle.outlines.proofs.outlines_single.Goals as goal

pub of_fill-requires : goal.of_fill-requires
of_fill-requires c =
    at_place (λ (f : Made). ArePiecesDrawable f.pieces) arc_value c.args.fills.now c.each.i no_fill c.fill_at.result.now c.requires c.each-test.true (c.fill_at.ensures no_fill)

pub each-preserved : goal.each-preserved
each-preserved c =
    let fs = map arc_value c.args.fills.now in
    let e = c.in_ok-push.ensures.items in
    record {
      count = count_more c.each.all.items _ _ c.each.i c.each.invariant.count e;
      outlines = drawn_more (λ f t. AreOutlines f.pieces t) fs c.each.all.items _ _ c.each.i _ c.each.invariant.count (c.fill_at.ensures no_fill) e c.each.invariant.outlines c.in_ok-of_fill.ensures.outlines;
      cover = drawn_more (λ f t. IsCovering f.pieces t) fs c.each.all.items _ _ c.each.i _ c.each.invariant.count (c.fill_at.ensures no_fill) e c.each.invariant.cover c.in_ok-of_fill.ensures.cover;
      range = rw e (range_more c.each.all.items _ c.each.invariant.range c.in_ok-of_fill.ensures.range);
    }
