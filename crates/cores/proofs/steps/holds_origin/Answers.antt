use Rattle.std.proofs.Common.{refl}
use Rattle.std.specs.Prelude.{pos}
use Rattle.cores.specs.Inner.Steps.{step_bounds}
use Rattle.cores.proofs.Plain.{wide_same}
use Rattle.cores.proofs.AreaTests.{between_plain, within_from}
use Rattle.cores.proofs.steps.holds_origin.Goals as goal

pub returns : goal.returns
returns c =
    let g = c.args.g in
    let n = c.requires in
    within_from (step_bounds g) (pos 0) (pos 0) _ _ _ _ _
    (between_plain _ _ _ _ g.x0 g.x1 (pos 0) (wide_same g.x0 n.x0) (wide_same g.x1 n.x1) refl c.is_between-x.ensures)
    (between_plain _ _ _ _ g.y0 g.y1 (pos 0) (wide_same g.y0 n.y0) (wide_same g.y1 n.y1) refl c.is_between-y.ensures)
    (between_plain _ _ _ _ g.s0 g.s1 (pos 0) (wide_same g.s0 n.s0) (wide_same g.s1 n.s1) refl c.is_between-s.ensures)
    (between_plain _ _ _ _ g.d0 g.d1 (pos 0) (wide_same g.d0 n.d0) (wide_same g.d1 n.d1) refl c.is_between-d.ensures)
    c.all.ensures
