-- Two areas are close, by the decision, exactly where points of them are within reach.
use Rattle.std.proofs.Common.{◌≡◌, ℕ, ◌*◌, arith, ap, sym, subst, ◌∙◌}
use Rattle.std.specs.Prelude.{ℤ, pos, neg_ℤ, ◌+ℤ◌, ◌-ℤ◌, ◌*ℤ◌}
use Rattle.std.proofs.lemmas.Int.{ints}
use Rattle.touching.specs.Core.{area, InCore}
use Rattle.touching.specs.Inner.Decision.{IsOriginClose, steps_of}
use Rattle.touching.proofs.Short.{IsShort, rescaled}
use Rattle.touching.proofs.Pairs.{Pair, pair_of}
use Rattle.touching.proofs.Origin.{Found, origin_test, test_origin}
use Rattle.plane.specs.Plane.{Bounds, PlanePoint, Within, In, IsTight, times, plus, IsSame, sum_of, IsInSum}
use Rattle.grid_num.proofs.Products.{mul_add, mul_sub, mul_neg}
use Rattle.plane.proofs.Near.{turned, opposite, IsTight-sum}
use Rattle.plane.proofs.Points.{In-IsInSum}

step_in : (k : ℕ) (b c : Bounds) (x y z w : ℤ) → Within (times k b) x y → Within (times k c) z w → Within (times k (steps_of b c)) (x -ℤ z) (y -ℤ w)
unfolding steps_of
step_in k b c x y z w h g = record {
  x_low = omega (arith, ints, h.x_low, g.x_high, mul_sub k b.x0 c.x1);
  x_high = omega (arith, ints, h.x_high, g.x_low, mul_sub k b.x1 c.x0);
  y_low = omega (arith, ints, h.y_low, g.y_high, mul_sub k b.y0 c.y1);
  y_high = omega (arith, ints, h.y_high, g.y_low, mul_sub k b.y1 c.y0);
  s_low = omega (arith, ints, h.s_low, g.s_high, mul_sub k b.s0 c.s1);
  s_high = omega (arith, ints, h.s_high, g.s_low, mul_sub k b.s1 c.s0);
  d_low = omega (arith, ints, h.d_low, g.d_high, mul_sub k b.d0 c.d1);
  d_high = omega (arith, ints, h.d_high, g.d_low, mul_sub k b.d1 c.d0);
}

pub areas_close : (a : ℕ) (b c : Bounds) → Pair a (area b) (area c) → IsOriginClose a (steps_of b c)
unfolding InCore
areas_close a b c t =
    origin_test a (steps_of b c) (record { x = t.p.x -ℤ t.q.x; y = t.p.y -ℤ t.q.y; scale = t.p.scale; positive = t.p.positive })
    (step_in t.p.scale b c t.p.x t.p.y t.q.x t.q.y t.first (subst (λ (k : ℕ). Within (times k c) t.q.x t.q.y) (sym t.same) t.second))
    t.close

-- the area turned round the origin
tight_turned : (b : Bounds) → IsTight b → IsTight (turned b)
unfolding turned
tight_turned b t = record {
  top_left = omega (arith, ints, t.bottom_right);
  top = omega (arith, ints, t.bottom);
  top_right = omega (arith, ints, t.bottom_left);
  right = omega (arith, ints, t.left);
  bottom_right = omega (arith, ints, t.top_left);
  bottom = omega (arith, ints, t.top);
  bottom_left = omega (arith, ints, t.top_right);
  left = omega (arith, ints, t.right);
}

turned_in : (b : Bounds) (p : PlanePoint) → In (turned b) p → In b (opposite p)
unfolding turned opposite
turned_in b p w = record {
  x_low = omega (arith, ints, w.x_high, mul_neg p.scale b.x0);
  x_high = omega (arith, ints, w.x_low, mul_neg p.scale b.x1);
  y_low = omega (arith, ints, w.y_high, mul_neg p.scale b.y0);
  y_high = omega (arith, ints, w.y_low, mul_neg p.scale b.y1);
  s_low = omega (arith, ints, w.s_high, mul_neg p.scale b.s0);
  s_high = omega (arith, ints, w.s_low, mul_neg p.scale b.s1);
  d_low = omega (arith, ints, w.d_high, mul_neg p.scale b.d0);
  d_high = omega (arith, ints, w.d_low, mul_neg p.scale b.d1);
}

steps_tight : (b c : Bounds) → IsTight b → IsTight c → IsTight (steps_of b c)
unfolding steps_of turned
steps_tight b c t u = as_sum (IsTight-sum b (turned c) t (tight_turned c u))
  where
    as_sum : IsTight (sum_of b (turned c)) → IsTight (steps_of b c)
    as_sum s = record {
      top_left = omega (arith, ints, s.top_left);
      top = omega (arith, ints, s.top);
      top_right = omega (arith, ints, s.top_right);
      right = omega (arith, ints, s.right);
      bottom_right = omega (arith, ints, s.bottom_right);
      bottom = omega (arith, ints, s.bottom);
      bottom_left = omega (arith, ints, s.bottom_left);
      left = omega (arith, ints, s.left);
    }

step_sum : (b c : Bounds) (r : PlanePoint) → In (steps_of b c) r → In (sum_of b (turned c)) r
unfolding steps_of turned
step_sum b c r h = record {
  x_low = omega (arith, ints, h.x_low, mul_sub r.scale b.x0 c.x1, mul_add r.scale b.x0 (neg_ℤ c.x1), mul_neg r.scale c.x1);
  x_high = omega (arith, ints, h.x_high, mul_sub r.scale b.x1 c.x0, mul_add r.scale b.x1 (neg_ℤ c.x0), mul_neg r.scale c.x0);
  y_low = omega (arith, ints, h.y_low, mul_sub r.scale b.y0 c.y1, mul_add r.scale b.y0 (neg_ℤ c.y1), mul_neg r.scale c.y1);
  y_high = omega (arith, ints, h.y_high, mul_sub r.scale b.y1 c.y0, mul_add r.scale b.y1 (neg_ℤ c.y0), mul_neg r.scale c.y0);
  s_low = omega (arith, ints, h.s_low, mul_sub r.scale b.s0 c.s1, mul_add r.scale b.s0 (neg_ℤ c.s1), mul_neg r.scale c.s1);
  s_high = omega (arith, ints, h.s_high, mul_sub r.scale b.s1 c.s0, mul_add r.scale b.s1 (neg_ℤ c.s0), mul_neg r.scale c.s0);
  d_low = omega (arith, ints, h.d_low, mul_sub r.scale b.d0 c.d1, mul_add r.scale b.d0 (neg_ℤ c.d1), mul_neg r.scale c.d1);
  d_high = omega (arith, ints, h.d_high, mul_sub r.scale b.d1 c.d0, mul_add r.scale b.d1 (neg_ℤ c.d0), mul_neg r.scale c.d0);
}

pub close_areas : (a : ℕ) (b c : Bounds) → IsTight b → IsTight c → IsOriginClose a (steps_of b c) → Pair a (area b) (area c)
unfolding InCore opposite plus Found IsInSum
close_areas a b c t u h =
    let f = test_origin a (steps_of b c) (steps_tight b c t u) h in
    let s = In-IsInSum b (turned c) f.0 t (tight_turned c u) (step_sum b c f.0 f.1) in
    from_sum f.0 s.0 s.1 f.2 s.2 (turned_in c s.1 s.3) s.4
  where
    from_sum : (r p q : PlanePoint) → IsShort a r.scale r.x r.y → In b p → In c (opposite q) → IsSame (plus p q) r → Pair a (area b) (area c)
    from_sum r p q s h g e =
        pair_of a (area b) (area c) p (opposite q) h g
        (rescaled a r.scale (p.scale * q.scale) r.x r.y _ _ r.positive
        (ap (λ (z : ℤ). pos r.scale *ℤ z) (plus_is p.scale q.scale p.x q.x) ∙ e.x)
        (ap (λ (z : ℤ). pos r.scale *ℤ z) (plus_is p.scale q.scale p.y q.y) ∙ e.y) s)
      where
        plus_is : (k j : ℕ) (x y : ℤ) → (pos j *ℤ x -ℤ pos k *ℤ neg_ℤ y) ≡ (pos j *ℤ x +ℤ pos k *ℤ y)
        plus_is k j x y = omega (arith, ints, mul_neg k y)
