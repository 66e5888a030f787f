use Rattle.std.proofs.Common.{ℕ, zero, suc, ◌<◌, arith, [], ◌∷◌, get_or}
use Rattle.plane.specs.Plane.{Bounds, Within}
use Rattle.grid_num.specs.declared.Point.{Point}
use Rattle.outline_slab.specs.Inner.Side.{side_edge}
use Rattle.outline_slab.proofs.Hulls.{hull_law}
use Rattle.outline_slab.proofs.side.Side.hull.Goals as goal

both : (a b : Point) (c : Bounds) → Within c a.x a.y → Within c b.x b.y → (k : ℕ) (d : Point) → k < 2 → Within c (get_or (a ∷ b ∷ []) k d).x (get_or (a ∷ b ∷ []) k d).y
both a b c h g zero d l = h
both a b c h g (suc zero) d l = g
both a b c h g (suc (suc k)) d l = absurd (omega arith)

pub returns : goal.returns
returns c =
    hull_law (side_edge c.args.self) c.of_points.result c.requires.octilinear
    (record {
      start = c.of_points.ensures.holds 0 c.args.self.start (omega arith);
      finish = c.of_points.ensures.holds 1 c.args.self.start (omega arith);
      least = λ b p s f i. c.of_points.ensures.least b p (λ k d l. both c.args.self.start c.args.self.finish b s f k d (omega arith)) i;
    })
