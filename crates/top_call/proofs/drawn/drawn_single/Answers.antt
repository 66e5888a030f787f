use Rattle.std.proofs.Common.{sym, subst, map}
use Rattle.std.specs.List.{All}
use Rattle.std.specs.Arc.{arc_value}
use Rattle.fill_rules.specs.Made.{Made}
use Rattle.outlines.specs.Drawn.{ArePiecesDrawable}
use Rattle.top_call.proofs.drawn.drawn_single.Goals as goal

pub outlines_single-requires : goal.outlines_single-requires
outlines_single-requires g c =
    subst (λ fs. All (λ (f : Made). ArePiecesDrawable f.pieces) (map arc_value fs)) (sym c.deref.ensures.value)
    (c.drawable_law.ensures.all c.args.board.now.board c.sound.ensures _ c.in_ok-fills.ensures.fills)
