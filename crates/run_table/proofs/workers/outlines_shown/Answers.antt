use Rattle.std.proofs.Common.{map, subst, sym}
use Rattle.std.specs.List.{All}
use Rattle.std.specs.Arc.{arc_value}
use Rattle.fill_rules.specs.Made.{Made}
use Rattle.outlines.specs.Drawn.{ArePiecesDrawable}
use Rattle.run_table.proofs.workers.outlines_shown.Goals as goal

pub outlines_single-requires : goal.outlines_single-requires
outlines_single-requires g c =
    subst (λ fs. All (λ (f : Made). ArePiecesDrawable f.pieces) (map arc_value fs)) (sym c.deref.ensures.value)
    (c.drawable_law.ensures.all _ c.sound.ensures _ c.in_ok-fills.ensures)

pub outlines-requires-after_bounds : goal.outlines-requires-after_bounds
outlines-requires-after_bounds g c κs within =
    subst (λ fs. All (λ (f : Made). ArePiecesDrawable f.pieces) (map arc_value fs)) (sym c.deref-2.ensures.value)
    (c.drawable_law.ensures.all _ c.sound.ensures _ c.in_ok-fills.ensures)
