use Rattle.std.proofs.Common.{◌∙◌}
use Rattle.board_edit.specs.Inner.Words.{meant}
use Rattle.board_edit.proofs.Misfits.{none_behind}
use Rattle.board_edit.proofs.fault.first_misfit.Goals as goal

pub returns : goal.returns
returns c =
    none_behind meant (λ word. word.now) c.args.wanted.now c.args.words.now c.words.place c.min-place-end.result c.min-place-end.ensures c.words-test.false ∙ c.words.invariant
