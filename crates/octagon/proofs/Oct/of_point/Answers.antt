use Rattle.octagon.proofs.Hull.{code_at-IsOct}
use Rattle.octagon.proofs.Oct.of_point.Goals as goal

pub invariant_of-result : goal.invariant_of-result
invariant_of-result c = code_at-IsOct c.args.p.x c.args.p.y c.requires.x c.requires.y

pub returns-clause-oct : goal.returns-clause-oct
returns-clause-oct c = code_at-IsOct c.args.p.x c.args.p.y c.requires.x c.requires.y
