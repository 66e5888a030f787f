use Rattle.std.proofs.Common.{refl}
use Rattle.board_gen.proofs.draw_law.Goals as goal

pub returns : goal.returns
returns c = record { first = refl; none = refl; least = refl; most = refl }
