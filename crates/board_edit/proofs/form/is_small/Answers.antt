use Rattle.std.proofs.Common.{◌∙◌, ap}
use Rattle.std.specs.Prelude.{is_none}
use Rattle.board_edit.proofs.Numbers.{small, none_is}
use Rattle.board_edit.proofs.form.is_small.Goals as goal

pub returns : goal.returns
returns c =
    none_is c.whole_fault.result c.is_none.result c.is_none.ensures
    ∙ ap is_none c.whole_fault.ensures
    ∙ small c.args.digits.now c.requires.digits c.requires.some
