use Rattle.std.proofs.Common.{arith, sym, ◌∙◌}
use Rattle.std.proofs.lemmas.Result.{IfOk-weaker}
use Rattle.sexpr_text.proofs.Told.{within_told, quotes_told, no_list, content_told}
use Rattle.sexpr_text.proofs.tree.Tree.content.Goals as goal

pub overflow_add-span : goal.overflow_add-span
overflow_add-span c = let w = within_told _ _ _ _ _ c.requires.same c.requires.below c.span-span.ensures.node in omega (arith, w.0, w.1)

pub overflow_sub-span : goal.overflow_sub-span
overflow_sub-span c = let w = within_told _ _ _ _ _ c.requires.same c.requires.below c.span-span.ensures.node in omega (arith, w.0)

pub slice_bounds-unescape-count : goal.slice_bounds-unescape-count
slice_bounds-unescape-count c = let w = quotes_told _ _ _ _ _ _ c.requires.same c.requires.below c.span-span.ensures.node c.kind.ensures.node c.in-Text.is in omega (arith, w)

pub slice_bounds-unescape-start : goal.slice_bounds-unescape-start
slice_bounds-unescape-start c = let w = quotes_told _ _ _ _ _ _ c.requires.same c.requires.below c.span-span.ensures.node c.kind.ensures.node c.in-Text.is in omega (arith, w)

pub slice_bounds-unescape-end : goal.slice_bounds-unescape-end
slice_bounds-unescape-end c = let w = within_told _ _ _ _ _ c.requires.same c.requires.below c.span-span.ensures.node in omega (arith, w.1)

pub slice_bounds-from_slice-count : goal.slice_bounds-from_slice-count
slice_bounds-from_slice-count c = let w = within_told _ _ _ _ _ c.requires.same c.requires.below c.span-span.ensures.node in omega (arith, w.0)

pub slice_bounds-from_slice-start : goal.slice_bounds-from_slice-start
slice_bounds-from_slice-start c = let w = within_told _ _ _ _ _ c.requires.same c.requires.below c.span-span.ensures.node in omega (arith, w.0)

pub slice_bounds-from_slice-end : goal.slice_bounds-from_slice-end
slice_bounds-from_slice-end c = let w = within_told _ _ _ _ _ c.requires.same c.requires.below c.span-span.ensures.node in omega (arith, w.1)

pub unreachable-requires : goal.unreachable-requires
unreachable-requires c = no_list _ _ _ _ c.requires.same c.requires.below c.requires.leaf c.kind.ensures.node c.in-List.is

pub returns-in-Text-clause-item : goal.returns-in-Text-clause-item
returns-in-Text-clause-item c =
    IfOk-weaker c.unescape.result _ _ (λ v e item h. content_told c.args.bytes.now item _ _ _ v.items (sym c.in-Text.is ∙ c.kind.ensures.item item h) (c.span-span.ensures.item item h) e) c.unescape.ensures

pub returns-in_ok-from_slice-in-Word-clause-item : goal.returns-in_ok-from_slice-in-Word-clause-item
returns-in_ok-from_slice-in-Word-clause-item c item h =
    content_told c.args.bytes.now item _ _ _ _ (sym c.in-Word.is ∙ c.kind.ensures.item item h) (c.span-span.ensures.item item h) c.in_ok-from_slice-in-Word.ensures.items
