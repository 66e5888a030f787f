-- The brush at a grid point lies in an octagon exactly where the grid point is in the shrunk octagon: each side of the octagon is
-- met by a corner of the brush.
use Rattle.std.proofs.Common.{ℕ, arith}
use Rattle.std.specs.Prelude.{ℤ, ◌+ℤ◌, ◌-ℤ◌, ◌≤ℤ◌}
use Rattle.std.proofs.lemmas.Int.{ints}
use Rattle.plane.specs.Plane.{PlanePoint, Bounds, Within, In, IsTight, ball_of, grid_point, moved}
use Rattle.plane.proofs.Near.{IsTight-ball}
use Rattle.plane.proofs.Tight.{tight-IsAttained}
use Rattle.plane.proofs.Inside.{IsInside, inside_in}
use Rattle.plane.proofs.Moved.{grid_law, IsTight-moved}
use Rattle.centres.specs.Centres.{shrunk}
use Rattle.centres.specs.Laws.{HomeLaw, LiesInLaw}

-- an octagon whose points lie in another one lies in it bound by bound
pub inside_by_points : (m o : Bounds) → IsTight m → ((p : PlanePoint) → In m p → In o p) → IsInside m o
inside_by_points m o t h =
    let at : (x y : ℤ) → Within m x y → Within o x y = λ x y w. (grid_law o x y).0 (h (grid_point x y) ((grid_law m x y).1 w)) in
    let a = tight-IsAttained m t in
    let x0 = at m.x0 a.x0.0 a.x0.1 in
    let x1 = at m.x1 a.x1.0 a.x1.1 in
    let y0 = at a.y0.0 m.y0 a.y0.1 in
    let y1 = at a.y1.0 m.y1 a.y1.1 in
    let s0 = at a.s0.0 (m.s0 -ℤ a.s0.0) a.s0.1 in
    let s1 = at a.s1.0 (m.s1 -ℤ a.s1.0) a.s1.1 in
    let d0 = at a.d0.0 (a.d0.0 -ℤ m.d0) a.d0.1 in
    let d1 = at a.d1.0 (a.d1.0 -ℤ m.d1) a.d1.1 in
    record {
      x0 = x0.x_low;
      x1 = x1.x_high;
      y0 = y0.y_low;
      y1 = y1.y_high;
      s0 = low_sum o.s0 m.s0 a.s0.0 s0.s_low;
      s1 = high_sum o.s1 m.s1 a.s1.0 s1.s_high;
      d0 = low_difference o.d0 m.d0 a.d0.0 d0.d_low;
      d1 = high_difference o.d1 m.d1 a.d1.0 d1.d_high;
    }
  where
    low_sum : (c b x : ℤ) → c ≤ℤ (x +ℤ (b -ℤ x)) → c ≤ℤ b
    low_sum c b x h = omega (arith, ints)

    high_sum : (c b x : ℤ) → (x +ℤ (b -ℤ x)) ≤ℤ c → b ≤ℤ c
    high_sum c b x h = omega (arith, ints)

    low_difference : (c b x : ℤ) → c ≤ℤ (x -ℤ (x -ℤ b)) → c ≤ℤ b
    low_difference c b x h = omega (arith, ints)

    high_difference : (c b x : ℤ) → (x -ℤ (x -ℤ b)) ≤ℤ c → b ≤ℤ c
    high_difference c b x h = omega (arith, ints)

shrunk_there : (o : Bounds) (r : ℕ) (x y : ℤ) → IsInside (moved (ball_of r) x y) o → Within (shrunk o r) x y
unfolding ball_of
shrunk_there o r x y i = record {
  x_low = omega (arith, ints, i.x0);
  x_high = omega (arith, ints, i.x1);
  y_low = omega (arith, ints, i.y0);
  y_high = omega (arith, ints, i.y1);
  s_low = omega (arith, ints, i.s0);
  s_high = omega (arith, ints, i.s1);
  d_low = omega (arith, ints, i.d0);
  d_high = omega (arith, ints, i.d1);
}

shrunk_back : (o : Bounds) (r : ℕ) (x y : ℤ) → Within (shrunk o r) x y → IsInside (moved (ball_of r) x y) o
unfolding ball_of
shrunk_back o r x y w = record {
  x0 = omega (arith, ints, w.x_low);
  x1 = omega (arith, ints, w.x_high);
  y0 = omega (arith, ints, w.y_low);
  y1 = omega (arith, ints, w.y_high);
  s0 = omega (arith, ints, w.s_low);
  s1 = omega (arith, ints, w.s_high);
  d0 = omega (arith, ints, w.d_low);
  d1 = omega (arith, ints, w.d_high);
}

pub home_law : HomeLaw
home_law o r x y = (
  λ h. shrunk_there o r x y (inside_by_points (moved (ball_of r) x y) o (IsTight-moved (ball_of r) x y (IsTight-ball r)) h),
  λ w p i. inside_in (moved (ball_of r) x y) o p (shrunk_back o r x y w) i,
)

pub lies_in_law : LiesInLaw
lies_in_law o f t = (
  λ h. let i = inside_by_points o f t h in record { x0 = i.x0; x1 = i.x1; y0 = i.y0; y1 = i.y1; s0 = i.s0; s1 = i.s1; d0 = i.d0; d1 = i.d1 },
  λ i p. inside_in o f p (record { x0 = i.x0; x1 = i.x1; y0 = i.y0; y1 = i.y1; s0 = i.s0; s1 = i.s1; d0 = i.d0; d1 = i.d1 }),
)
