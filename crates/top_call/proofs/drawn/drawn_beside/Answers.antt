use Rattle.std.proofs.Common.{sym, subst, map}
use Rattle.std.specs.List.{All}
use Rattle.std.specs.Arc.{arc_value}
use Rattle.fill_rules.specs.Made.{Made}
use Rattle.outlines.specs.Drawn.{ArePiecesDrawable}
use Rattle.top_call.proofs.drawn.drawn_beside.Goals as goal

pub outlines-requires-after_bounds : goal.outlines-requires-after_bounds
outlines-requires-after_bounds g c κs within =
    subst (λ fs. All (λ (f : Made). ArePiecesDrawable f.pieces) (map arc_value fs)) (sym c.deref.ensures.value)
    (c.drawable_law.ensures.all c.args.board.now.board c.sound.ensures _ c.in_ok-fills.ensures)
