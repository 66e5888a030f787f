use Rattle.std.proofs.Common.{rules, tests, subst, ◌≡◌, map, IfOk}
use Rattle.std.proofs.lemmas.Iterator.Consumers.{map_from_collect, YieldsList-at, YieldsList-from_filter}
use Rattle.std.proofs.lemmas.Iterator.Splits.{YieldsList-from_slice_split}
use Rattle.edit_language.specs.Lines.{is_blank, has_bytes}
use Rattle.board_edit.proofs.Lines.{word_list}
use Rattle.board_edit.proofs.words.words_of.Goals as goal

pub returns : goal.returns
returns c =
    subst (λ ys. IfOk c.collect.result (λ v. map (λ word. word.now) v.items ≡ ys)) (word_list c.args.line.now)
    (map_from_collect _ c.collect.ensures.ran
    (YieldsList-from_filter _ has_bytes
    (YieldsList-at c.filter.ensures.source
    (YieldsList-from_slice_split _ is_blank c.args.line.now c.split.ensures.rest c.split.ensures.done c.split.ensures.closure (λ x r q k. search (rules, tests))))
    c.filter.ensures.closure (λ x r q k. search (rules, tests))))
