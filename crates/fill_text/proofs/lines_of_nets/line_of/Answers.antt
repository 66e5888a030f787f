use Rattle.std.proofs.Common.{refl}
use Rattle.fill_text.proofs.NetsSaid.{line_is}
use Rattle.fill_text.proofs.lines_of_nets.line_of.Goals as goal

pub returns-clause-line : goal.returns-clause-line
returns-clause-line c = line_is c.args.anchors.now c.args.pair c.dist_sq.result _ _ refl refl c.dist_sq.ensures
