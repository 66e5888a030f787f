use Rattle.grid_num.proofs.Shortest.{mm_is_shortest}
use Rattle.grid_num.proofs.write.shortest_spelling.Goals as goal

pub returns : goal.returns
returns c = mm_is_shortest
