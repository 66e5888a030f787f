use Rattle.same_points.proofs.Laws.{cut_order_law, cut_points_law, cut_boundary_law, cut_drawn_law}
use Rattle.same_points.proofs.cut_law.Goals as goal

pub returns : goal.returns
returns c = record { order = cut_order_law; points = cut_points_law; boundary = cut_boundary_law; drawn = cut_drawn_law }
