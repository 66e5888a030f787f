use Rattle.board_text.proofs.Areas.{area_is, no_area_is}
use Rattle.board_text.proofs.number.area_number.Goals as goal

pub returns-in-Ok : goal.returns-in-Ok
returns-in-Ok c = area_is c.args.text.now c.in-Ok.area c.in-Ok.ensures.found

pub returns-in-Err : goal.returns-in-Err
returns-in-Err c = no_area_is c.args.text.now c.in-Err.field-0 c.in-Err.ensures.fault
