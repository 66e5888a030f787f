use Rattle.std.proofs.Common.{◌∙◌, sym, map}
use Rattle.board_edit.proofs.Misfits.{track_whole, via_whole, priority_whole}
use Rattle.board_edit.proofs.line.edit_of.Goals as goal

pub track_edit-requires : goal.track_edit-requires
track_edit-requires c = track_whole (map (λ word. word.now) c.args.words.now) (sym c.says_first.ensures ∙ c.if-says_first.true) c.requires

pub via_edit-requires : goal.via_edit-requires
via_edit-requires c = via_whole (map (λ word. word.now) c.args.words.now) (sym c.says_first-2.ensures ∙ c.if-says_first-2.true) c.requires

pub whole_at-value-requires-clause-whole : goal.whole_at-value-requires-clause-whole
whole_at-value-requires-clause-whole c =
    priority_whole (map (λ word. word.now) c.args.words.now) (sym c.says_first.ensures ∙ c.if-says_first.false) (sym c.says_first-2.ensures ∙ c.if-says_first-2.false)
    (sym c.says_first-3.ensures ∙ c.if-says_first-3.false) (sym c.says_first-else-says_first-3.ensures ∙ c.if-says_first-4.true) c.requires
