use Rattle.std.proofs.Common.{subst}
use Rattle.sexpr_text.specs.Faults.{IsRefused}
use Rattle.board_edit.proofs.Boards.{rules_so}
use Rattle.board_edit.proofs.Refused.{faultless}
use Rattle.board_edit.proofs.change.board_of.Goals as goal

pub unreachable-requires : goal.unreachable-requires
unreachable-requires c =
    faultless c.args.text.now c.requires.0 c.in-Err-Bad.field-0-0.at c.in-Err-Bad.field-0-0.kind c.requires.1
    (subst (IsRefused c.args.text.now) c.in-Err-Bad.field-0-is c.in-Err-Bad.ensures.fault)

pub returns-in-Ok-read-clause-rules : goal.returns-in-Ok-read-clause-rules
returns-in-Ok-read-clause-rules c =
    let t = c.in-Ok.ensures.found in
    rules_so c.args.text.now t.root c.args.rules c.in-Ok-read.board (c.in-Ok-read.ensures.board t.root t.is_tree).1
