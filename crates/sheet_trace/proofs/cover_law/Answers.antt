use Rattle.sheet_trace.proofs.Laws.{loops_cover_law, rings_cover_law, union_cover_law}
use Rattle.sheet_trace.proofs.cover_law.Goals as goal

pub returns : goal.returns
returns c = record { loops = loops_cover_law; rings = rings_cover_law; union = union_cover_law }
