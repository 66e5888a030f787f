use Rattle.std.proofs.Common.{arith}
use Rattle.std.proofs.lemmas.Int.{ints}
use Rattle.cores.proofs.Plain.{square_fits, square_value, reach_value}
use Rattle.cores.proofs.LineTests.{end_case, middle_case}
use Rattle.cores.proofs.line.is_beside_by.Goals as goal

pub returns-then-long-along : goal.returns-then-long-along
returns-then-long-along c =
    let q = c.requires in
    end_case c.args.a c.args.far c.args.along c.args.long c.args.across q.a q.far q.along q.long (omega (arith, ints)) (omega (arith, ints))

pub overflow_mul-result-2 : goal.overflow_mul-result-2
overflow_mul-result-2 c = square_fits c.args.across c.requires.across

pub returns : goal.returns
returns c =
    middle_case c.args.a c.args.far c.args.along c.args.long c.args.across _ _ (square_value c.args.across c.requires.across)
    (reach_value c.args.a c.args.long c.requires.a c.requires.long) (omega (arith, ints)) (omega (arith, ints))
