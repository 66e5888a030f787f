use Rattle.std.proofs.Common.{sym, subst, ◌⊎◌}
use Rattle.std.specs.Prelude.{ℤ, ◌↔◌}
use Rattle.plane.specs.Plane.{StrictlyWithin}
use Rattle.grid_sets.specs.Points.{HasPoint}
use Rattle.zone_fill.proofs.Cutting.{one_more}
use Rattle.zone_fill.proofs.cuts.add_inside.Goals as goal

pub returns-in_ok-push : goal.returns-in_ok-push
returns-in_ok-push c =
    subst (λ t. (x y : ℤ) → HasPoint t x y ↔ (HasPoint c.args.cuts.now.items x y ⊎ StrictlyWithin c.args.oct.now x y)) (sym c.in_ok-push.ensures.items)
    (one_more c.args.cuts.now.items c.in-Some.inside (λ x y. StrictlyWithin c.args.oct.now x y) c.in-Some.ensures.points)
