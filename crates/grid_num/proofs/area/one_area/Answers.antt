use Rattle.grid_num.proofs.Areas.{one_area_of}
use Rattle.grid_num.proofs.area.one_area.Goals as goal

pub returns : goal.returns
returns c = one_area_of
