use Rattle.sheet_trace.proofs.Laws.{one_loops_law, one_rings_law}
use Rattle.sheet_trace.proofs.one_law.Goals as goal

pub returns : goal.returns
returns c = record { loops = one_loops_law; rings = one_rings_law }
