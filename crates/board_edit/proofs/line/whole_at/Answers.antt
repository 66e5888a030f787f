use Rattle.std.proofs.Common.{◌≡◌, ◌∙◌, ap, sym, subst, true}
use Rattle.grid_num.specs.Spelling.{number}
use Rattle.edit_language.specs.Forms.{is_whole_word}
use Rattle.board_edit.proofs.Numbers.{value}
use Rattle.board_edit.proofs.line.whole_at.Goals as goal

pub returns : goal.returns
returns c =
    c.whole_number.ensures
    ∙ value c.word_at.result.now (subst (λ w. is_whole_word w ≡ true) (sym c.word_at.ensures) c.requires.whole)
    ∙ ap number c.word_at.ensures
