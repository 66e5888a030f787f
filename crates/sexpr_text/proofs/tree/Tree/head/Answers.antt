use Rattle.std.proofs.Common.{sym, ◌∙◌, ap}
use Rattle.std.specs.Option.{option_copied}
use Rattle.sexpr_text.proofs.Told.{within_told, no_head, head_told, other_head, no_word, first_below}
use Rattle.sexpr_text.proofs.tree.Tree.head.Goals as goal

pub returns-in_default-clause-item : goal.returns-in_default-clause-item
returns-in_default-clause-item c item h = no_head c.args.self.now item c.children-children.result.now (c.children-children.ensures.item item h) (sym c.first.ensures.value ∙ ap option_copied c.in_default.is)

pub returns-in-Word-clause-item : goal.returns-in-Word-clause-item
returns-in-Word-clause-item c item h =
    head_told c.args.self.now item c.children-children.result.now c.in-Some.first.now c.kind.result c.span.result.from c.span.result.to (c.children-children.ensures.item item h)
    (sym c.first.ensures.value ∙ ap option_copied c.in-Some.is) c.kind.ensures.item c.span.ensures.item c.in-Word.is

pub returns-in-Word-clause-within : goal.returns-in-Word-clause-within
returns-in-Word-clause-within c =
    within_told _ _ _ _ _ c.requires.same (first_below _ _ _ c.children-children.ensures.below (sym c.first.ensures.value ∙ ap option_copied c.in-Some.is)) c.span.ensures.node

pub returns-in-List : goal.returns-in-List
returns-in-List c = record {
  item = λ item h. other_head c.args.self.now item c.children-children.result.now c.in-Some.first.now c.kind.result (c.children-children.ensures.item item h)
      (sym c.first.ensures.value ∙ ap option_copied c.in-Some.is) c.kind.ensures.item (no_word _ c.in-List.is);
  within = tt;
}
