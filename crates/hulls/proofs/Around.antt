-- The least octagon round grid points.
use Rattle.std.proofs.Common.{◌<◌, arith, List, [], ◌∷◌, length}
use Rattle.std.specs.Prelude.{ℤ, pos, ◌≤ℤ◌}
use Rattle.std.specs.List.{All}
use Rattle.std.proofs.lemmas.List.Elements.{All-head, All-tail, All-cons, All-nil}
use Rattle.std.proofs.lemmas.Int.{ints, clamps}
use Rattle.grid_num.specs.declared.Point.{Point}
use Rattle.plane.specs.Plane.{PlanePoint, Bounds, Within, In, IsTight, grid_point}
use Rattle.grid_num.proofs.Products.{mul_le}
pub use Rattle.plane.proofs.Inside.{IsInside}
use Rattle.plane.proofs.Inside.{inside_in}
use Rattle.plane.proofs.Tight.{same_points}
use Rattle.hulls.specs.Cells.{octagon_at, widened, around}
use Rattle.hulls.specs.Laws.{LeastRoundLaw, OneLeastLaw}

abbrev pub Holds : Bounds → Point → Type 0
Holds b p = Within b p.x p.y

-- ---- one point
at_tight : (p : Point) → IsTight (octagon_at p)
at_tight p = record {
  top_left = omega (arith, ints);
  top = omega (arith, ints);
  top_right = omega (arith, ints);
  right = omega (arith, ints);
  bottom_right = omega (arith, ints);
  bottom = omega (arith, ints);
  bottom_left = omega (arith, ints);
  left = omega (arith, ints);
}

at_holds : (p : Point) → Holds (octagon_at p) p
at_holds p = record {
  x_low = omega (arith, ints);
  x_high = omega (arith, ints);
  y_low = omega (arith, ints);
  y_high = omega (arith, ints);
  s_low = omega (arith, ints);
  s_high = omega (arith, ints);
  d_low = omega (arith, ints);
  d_high = omega (arith, ints);
}

at_inside : (b : Bounds) (p : Point) → Holds b p → IsInside (octagon_at p) b
at_inside b p h = record { x0 = h.x_low; x1 = h.x_high; y0 = h.y_low; y1 = h.y_high; s0 = h.s_low; s1 = h.s_high; d0 = h.d_low; d1 = h.d_high }

-- ---- one point more
widened_tight : (b : Bounds) (p : Point) → IsTight b → IsTight (widened b p)
widened_tight b p t = record {
  top_left = omega (arith, ints, clamps, t.top_left);
  top = omega (arith, ints, clamps, t.top);
  top_right = omega (arith, ints, clamps, t.top_right);
  right = omega (arith, ints, clamps, t.right);
  bottom_right = omega (arith, ints, clamps, t.bottom_right);
  bottom = omega (arith, ints, clamps, t.bottom);
  bottom_left = omega (arith, ints, clamps, t.bottom_left);
  left = omega (arith, ints, clamps, t.left);
}

widened_new : (b : Bounds) (p : Point) → Holds (widened b p) p
widened_new b p = record {
  x_low = omega (arith, ints, clamps);
  x_high = omega (arith, ints, clamps);
  y_low = omega (arith, ints, clamps);
  y_high = omega (arith, ints, clamps);
  s_low = omega (arith, ints, clamps);
  s_high = omega (arith, ints, clamps);
  d_low = omega (arith, ints, clamps);
  d_high = omega (arith, ints, clamps);
}

widened_old : (b : Bounds) (p q : Point) → Holds b q → Holds (widened b p) q
widened_old b p q h = record {
  x_low = omega (arith, ints, clamps, h.x_low);
  x_high = omega (arith, ints, clamps, h.x_high);
  y_low = omega (arith, ints, clamps, h.y_low);
  y_high = omega (arith, ints, clamps, h.y_high);
  s_low = omega (arith, ints, clamps, h.s_low);
  s_high = omega (arith, ints, clamps, h.s_high);
  d_low = omega (arith, ints, clamps, h.d_low);
  d_high = omega (arith, ints, clamps, h.d_high);
}

widened_inside : (b c : Bounds) (p : Point) → IsInside b c → Holds c p → IsInside (widened b p) c
widened_inside b c p i h = record {
  x0 = omega (arith, ints, clamps, i.x0, h.x_low);
  x1 = omega (arith, ints, clamps, i.x1, h.x_high);
  y0 = omega (arith, ints, clamps, i.y0, h.y_low);
  y1 = omega (arith, ints, clamps, i.y1, h.y_high);
  s0 = omega (arith, ints, clamps, i.s0, h.s_low);
  s1 = omega (arith, ints, clamps, i.s1, h.s_high);
  d0 = omega (arith, ints, clamps, i.d0, h.d_low);
  d1 = omega (arith, ints, clamps, i.d1, h.d_high);
}

-- ---- all points
pub around_tight : (ps : List Point) → IsTight (around ps)
unfolding around
around_tight [] = at_tight (record { x = pos 0; y = pos 0 })
around_tight (p ∷ []) = at_tight p
around_tight (p ∷ (q ∷ qs)) = widened_tight (around (q ∷ qs)) p (around_tight (q ∷ qs))

pub around_holds : (ps : List Point) → All (Holds (around ps)) ps
unfolding around
around_holds [] = All-nil (Holds (around []))
around_holds (p ∷ []) = All-cons (Holds (octagon_at p)) p [] (at_holds p) (All-nil (Holds (octagon_at p)))
around_holds (p ∷ (q ∷ qs)) =
    let b = around (q ∷ qs) in
    All-cons (Holds (widened b p)) p (q ∷ qs) (widened_new b p)
    (λ k d l. widened_old b p _ (around_holds (q ∷ qs) k d l))

pub around_inside : (ps : List Point) (b : Bounds) → 0 < length ps → All (Holds b) ps → IsInside (around ps) b
unfolding around
around_inside [] b l h = absurd (omega arith)
around_inside (p ∷ []) b l h = at_inside b p (All-head (Holds b) p [] h)
around_inside (p ∷ (q ∷ qs)) b l h =
    widened_inside (around (q ∷ qs)) b p (around_inside (q ∷ qs) b (omega arith) (All-tail (Holds b) p (q ∷ qs) h)) (All-head (Holds b) p (q ∷ qs) h)

pub least_law : LeastRoundLaw
least_law ps l = record {
  tight = around_tight ps;
  holds = around_holds ps;
  least = λ b q h i. inside_in (around ps) b q (around_inside ps b l h) i;
}

-- ---- there is no other
to_grid : (b : Bounds) (x y : ℤ) → Within b x y → In b (grid_point x y)
to_grid b x y h = record {
  x_low = omega (arith, ints, h.x_low);
  x_high = omega (arith, ints, h.x_high);
  y_low = omega (arith, ints, h.y_low);
  y_high = omega (arith, ints, h.y_high);
  s_low = omega (arith, ints, h.s_low);
  s_high = omega (arith, ints, h.s_high);
  d_low = omega (arith, ints, h.d_low);
  d_high = omega (arith, ints, h.d_high);
}

from_grid : (b : Bounds) (x y : ℤ) → In b (grid_point x y) → Within b x y
from_grid b x y h = record {
  x_low = omega (arith, ints, h.x_low);
  x_high = omega (arith, ints, h.x_high);
  y_low = omega (arith, ints, h.y_low);
  y_high = omega (arith, ints, h.y_high);
  s_low = omega (arith, ints, h.s_low);
  s_high = omega (arith, ints, h.s_high);
  d_low = omega (arith, ints, h.d_low);
  d_high = omega (arith, ints, h.d_high);
}

pub one_least_law : OneLeastLaw
one_least_law ps r l i =
    same_points r (around ps) i.tight (around_tight ps)
    (λ x y. (
      λ w. from_grid (around ps) x y (i.least (around ps) (grid_point x y) (around_holds ps) (to_grid r x y w)),
      λ w. from_grid r x y (inside_in (around ps) r (grid_point x y) (around_inside ps r l i.holds) (to_grid (around ps) x y w)),
    ))
