use Rattle.std.proofs.Common.{◌≡◌, ◌∙◌, rules}
use Rattle.board_text.specs.Numbers.{length_of}
use Rattle.board_text.proofs.Lengths.{length_is, zero_is}
use Rattle.board_text.proofs.number.length_of.Goals as goal

pub returns-in-Ok-clause-value : goal.returns-in-Ok-clause-value
returns-in-Ok-clause-value c =
    let e : c.get.result ≡ length_of c.args.text.now = c.get.ensures.value ∙ length_is c.args.text.now c.in-Ok.length c.in-Ok.ensures.found in
    search rules

pub returns-in-Err-clause-value : goal.returns-in-Err-clause-value
returns-in-Err-clause-value c = zero_is c.args.text.now c.in-Err.field-0 c.in-Err.ensures.fault
