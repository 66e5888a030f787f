use Rattle.std.proofs.Common.{ℕ, zero, suc, ◌<◌, arith, [], ◌∷◌, get_or}
use Rattle.plane.specs.Plane.{Bounds, Within}
use Rattle.grid_num.specs.declared.Point.{Point}
use Rattle.slabs.proofs.Amid.{amid_law}
use Rattle.outline_slab.specs.Inner.Side.{side_edge}
use Rattle.outline_slab.proofs.Filled.{wide_inside}
use Rattle.outline_slab.proofs.slab_octs.amid.Goals as goal

four : (a b d e : Point) (c : Bounds) → Within c a.x a.y → Within c b.x b.y → Within c d.x d.y → Within c e.x e.y
    → (k : ℕ) (z : Point) → k < 4 → Within c (get_or (a ∷ b ∷ d ∷ e ∷ []) k z).x (get_or (a ∷ b ∷ d ∷ e ∷ []) k z).y
four a b d e c h g i j zero z l = h
four a b d e c h g i j (suc zero) z l = g
four a b d e c h g i j (suc (suc zero)) z l = i
four a b d e c h g i j (suc (suc (suc zero))) z l = j
four a b d e c h g i j (suc (suc (suc (suc k)))) z l = absurd (omega arith)

pub returns-clause-points : goal.returns-clause-points
returns-clause-points c = λ p.
    let l = c.args.left in
    let r = c.args.right in
    let h = c.of_points.ensures.holds in
    amid_law (side_edge l) (side_edge r) c.of_points.result p c.requires.left c.requires.right c.requires.framed
    (record {
      upper_left = h 0 l.start (omega arith);
      upper_right = h 1 l.start (omega arith);
      lower_left = h 2 l.start (omega arith);
      lower_right = h 3 l.start (omega arith);
      least = λ b q w x y z i. c.of_points.ensures.least b q (λ k d m. four l.start r.start l.finish r.finish b w x y z k d (omega arith)) i;
    })

pub returns-clause-wide : goal.returns-clause-wide
returns-clause-wide c = λ wide.
    let l = c.args.left in
    let h = c.of_points.ensures.holds in
    wide_inside (side_edge l) (side_edge c.args.right) c.of_points.result (h 0 l.start (omega arith)) (h 1 l.start (omega arith)) (h 2 l.start (omega arith)) (h 3 l.start (omega arith))
    c.requires.left.down c.requires.framed wide
