use Rattle.std.proofs.Common.{arith, ap, ◌∙◌, slice_range}
use Rattle.sexpr_text.proofs.Told.{within_told}
use Rattle.sexpr_text.proofs.tree.Tree.bytes_of.Goals as goal

pub slice_bounds-result-count : goal.slice_bounds-result-count
slice_bounds-result-count c = let w = within_told _ _ _ _ _ c.requires.same c.requires.below c.span-span.ensures.node in omega (arith, w.0)

pub slice_bounds-result-start : goal.slice_bounds-result-start
slice_bounds-result-start c = let w = within_told _ _ _ _ _ c.requires.same c.requires.below c.span-span.ensures.node in omega (arith, w.0)

pub slice_bounds-result-end : goal.slice_bounds-result-end
slice_bounds-result-end c = let w = within_told _ _ _ _ _ c.requires.same c.requires.below c.span-span.ensures.node in omega (arith, w.1)

pub returns-clause-item : goal.returns-clause-item
returns-clause-item c item h =
    let s = c.span-span.ensures.item item h in
    ap (λ x. slice_range c.args.bytes.now x c.span-span.result.to) s.0 ∙ ap (λ x. slice_range c.args.bytes.now item.from x) s.1
