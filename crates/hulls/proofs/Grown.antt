-- What is at most a radius away from a point of an octagon is in the octagon plus the one round the radius.
use Rattle.std.proofs.Common.{◌≡◌, refl, ◌∙◌, ap, ℕ, ◌+◌, ◌*◌, ◌-◌, ◌≤◌, inl, inr, arith, mul_comm}
use Rattle.std.specs.Prelude.{ℤ, pos, negsuc, ◌+ℤ◌, ◌-ℤ◌, ◌*ℤ◌, ◌≤ℤ◌}
use Rattle.std.specs.Int.RustNames.{unsigned_abs}
use Rattle.std.proofs.lemmas.Int.{ints}
use Rattle.std.proofs.lemmas.Bool.{cases_lt}
use Rattle.std.proofs.Math.Nat.{mul-le-mul_right}
use Rattle.plane.specs.Plane.{PlanePoint, Bounds, Within, In, times, minus, plus, sum_of, ball_of, IsSame}
use Rattle.grid_num.specs.Roots.{up2_of}
use Rattle.grid_num.proofs.Products.{mul_neg, mul_sub}
use Rattle.plane.proofs.Points.{mul_mul, In-plus, In-same}
use Rattle.grid_num.proofs.Roots.{up2_reaches, square_le}
use Rattle.touching.specs.Core.{IsReached}
use Rattle.hulls.specs.Hulls.{in_units}

pub square_is : (x : ℤ) → x *ℤ x ≡ pos (unsigned_abs x * unsigned_abs x)
square_is (pos x) = refl
square_is (negsuc x) = refl

double_product : (m n : ℕ) → 2 * (m * n) ≤ m * m + n * n
double_product m n = elim (cases_lt m n) [ inl l ↦ from_gap m n (n - m) (omega arith) | inr l ↦ from_gap' m n (m - n) (omega arith) ]
  where
    from_gap : (m n t : ℕ) → n ≡ m + t → 2 * (m * n) ≤ m * m + n * n
    from_gap m n t e = rw e (omega arith)

    from_gap' : (m n t : ℕ) → m ≡ n + t → 2 * (m * n) ≤ m * m + n * n
    from_gap' m n t e = rw e (omega arith)

pub root_le : (m n : ℕ) → m * m ≤ n * n → m ≤ n
root_le m n h = elim (cases_lt n m) [
  | inl l ↦ let s = square_le (n + 1) m (omega arith) in absurd (omega arith)
  | inr l ↦ l
]

straight : (u v m : ℕ) → u * u + v * v ≤ m * m → u ≤ m
straight u v m h = root_le u m (omega arith)

slanted : (u v m n : ℕ) → u * u + v * v ≤ m * m → 2 * (m * m) ≤ n * n → u + v ≤ n
slanted u v m n h l = root_le (u + v) n (omega (arith, double_product u v))

-- the reach along the slant of 4 a k
reach : (a k : ℕ) → 2 * ((4 * a * k) * (4 * a * k)) ≤ (4 * up2_of a * k) * (4 * up2_of a * k)
reach a k = let two : (2 * (a * a)) * (16 * (k * k)) ≤ (up2_of a * up2_of a) * (16 * (k * k)) = mul-le-mul_right (16 * (k * k)) (up2_reaches a) in omega arith

-- numbers of that size are within the ball's bounds, four to the unit
ball_bounds : (k a : ℕ) (x y : ℤ) → unsigned_abs x ≤ 4 * a * k → unsigned_abs y ≤ 4 * a * k → unsigned_abs x + unsigned_abs y ≤ 4 * up2_of a * k
    → Within (times k (times 4 (ball_of a))) x y
unfolding ball_of
ball_bounds k a x y hx hy hs = record {
  x_low = omega (arith, ints, mul_neg k (pos (4 * a)), ap (λ (z : ℤ). pos k *ℤ z) (mul_neg 4 (pos a)));
  x_high = omega (arith, ints);
  y_low = omega (arith, ints, mul_neg k (pos (4 * a)), ap (λ (z : ℤ). pos k *ℤ z) (mul_neg 4 (pos a)));
  y_high = omega (arith, ints);
  s_low = omega (arith, ints, mul_neg k (pos (4 * up2_of a)), ap (λ (z : ℤ). pos k *ℤ z) (mul_neg 4 (pos (up2_of a))));
  s_high = omega (arith, ints);
  d_low = omega (arith, ints, mul_neg k (pos (4 * up2_of a)), ap (λ (z : ℤ). pos k *ℤ z) (mul_neg 4 (pos (up2_of a))));
  d_high = omega (arith, ints);
}

-- a step of at most r is in the octagon round it
step_in : (r k a : ℕ) (x y : ℤ) → r ≤ 4 * a → unsigned_abs x * unsigned_abs x + unsigned_abs y * unsigned_abs y ≤ (r * k) * (r * k)
    → Within (times k (times 4 (ball_of a))) x y
step_in r k a x y le h =
    let u = unsigned_abs x in
    let v = unsigned_abs y in
    let wide : r * k ≤ 4 * a * k = mul-le-mul_right k le in
    let grown : (r * k) * (r * k) ≤ (4 * a * k) * (4 * a * k) = square_le (r * k) (4 * a * k) wide in
    let all : u * u + v * v ≤ (4 * a * k) * (4 * a * k) = omega arith in
    let turned : v * v + u * u ≤ (4 * a * k) * (4 * a * k) = omega arith in
    ball_bounds k a x y (straight u v (4 * a * k) all) (straight v u (4 * a * k) turned) (slanted u v (4 * a * k) (4 * up2_of a * k) all (reach a k))

scaled_in : (k : ℕ) (b : Bounds) (x y : ℤ) → Within (times k (times 4 b)) x y → Within (times (4 * k) b) x y
scaled_in k b x y w =
    let e : k * 4 ≡ 4 * k = mul_comm k 4 in
    record {
      x_low = omega (arith, ints, w.x_low, mul_mul k 4 b.x0, ap (λ (z : ℕ). pos z *ℤ b.x0) e);
      x_high = omega (arith, ints, w.x_high, mul_mul k 4 b.x1, ap (λ (z : ℕ). pos z *ℤ b.x1) e);
      y_low = omega (arith, ints, w.y_low, mul_mul k 4 b.y0, ap (λ (z : ℕ). pos z *ℤ b.y0) e);
      y_high = omega (arith, ints, w.y_high, mul_mul k 4 b.y1, ap (λ (z : ℕ). pos z *ℤ b.y1) e);
      s_low = omega (arith, ints, w.s_low, mul_mul k 4 b.s0, ap (λ (z : ℕ). pos z *ℤ b.s0) e);
      s_high = omega (arith, ints, w.s_high, mul_mul k 4 b.s1, ap (λ (z : ℕ). pos z *ℤ b.s1) e);
      d_low = omega (arith, ints, w.d_low, mul_mul k 4 b.d0, ap (λ (z : ℕ). pos z *ℤ b.d0) e);
      d_high = omega (arith, ints, w.d_high, mul_mul k 4 b.d1, ap (λ (z : ℕ). pos z *ℤ b.d1) e);
    }

-- the step from p to q, in halves: q - p
abbrev step : PlanePoint → PlanePoint → PlanePoint
step p q = minus q p

squares : (x y : ℤ) (m : ℕ) → (x *ℤ x +ℤ y *ℤ y) ≤ℤ pos m → unsigned_abs x * unsigned_abs x + unsigned_abs y * unsigned_abs y ≤ m
squares x y m h = omega (arith, ints, square_is x, square_is y)

turned_abs : (x y : ℤ) → unsigned_abs (x -ℤ y) ≡ unsigned_abs (y -ℤ x)
turned_abs x y = omega (arith, ints)

short_step : (r : ℕ) (p q : PlanePoint) → IsReached r p q
    → unsigned_abs (minus q p).x * unsigned_abs (minus q p).x + unsigned_abs (minus q p).y * unsigned_abs (minus q p).y
    ≤ (r * (minus q p).scale) * (r * (minus q p).scale)
unfolding IsReached minus
short_step r p q h =
    let j = p.scale in
    let k = q.scale in
    let s = squares (pos k *ℤ p.x -ℤ pos j *ℤ q.x) (pos k *ℤ p.y -ℤ pos j *ℤ q.y) ((r * (j * k)) * (r * (j * k))) h in
    rw (turned_abs (pos j *ℤ q.x) (pos k *ℤ p.x), turned_abs (pos j *ℤ q.y) (pos k *ℤ p.y), mul_comm k j) s

-- p and the step are q
halfway : (j k : ℕ) (x y : ℤ)
    → pos (4 * k) *ℤ (pos (4 * (k * j)) *ℤ x +ℤ pos (4 * j) *ℤ (pos j *ℤ y -ℤ pos k *ℤ x)) ≡ pos ((4 * j) * (4 * (k * j))) *ℤ y
halfway j k x y =
    let e : 4 * (k * j) ≡ (4 * j) * k = omega arith in
    let f : (4 * k) * ((4 * j) * j) ≡ (4 * j) * (4 * (k * j)) = omega arith in
    let inner : pos (4 * (k * j)) *ℤ x +ℤ pos (4 * j) *ℤ (pos j *ℤ y -ℤ pos k *ℤ x) ≡ pos ((4 * j) * j) *ℤ y
    = omega (arith, ints, ap (λ (z : ℕ). pos z *ℤ x) e, mul_sub (4 * j) (pos j *ℤ y) (pos k *ℤ x), mul_mul (4 * j) k x, mul_mul (4 * j) j y) in
    ap (λ (z : ℤ). pos (4 * k) *ℤ z) inner ∙ (mul_mul (4 * k) ((4 * j) * j) y ∙ ap (λ (n : ℕ). pos n *ℤ y) f)

there : (p q : PlanePoint) → IsSame (plus (in_units p) (in_units (minus q p))) (in_units q)
unfolding plus minus
there p q = record { x = halfway p.scale q.scale p.x q.x; y = halfway p.scale q.scale p.y q.y }

pub grown : (h : Bounds) (a r : ℕ) (p q : PlanePoint) → r ≤ 4 * a → In h (in_units p) → IsReached r p q → In (sum_of h (ball_of a)) (in_units q)
grown h a r p q le i reached =
    let d = minus q p in
    let w = scaled_in d.scale (ball_of a) d.x d.y (step_in r d.scale a d.x d.y le (short_step r p q reached)) in
    In-same (sum_of h (ball_of a)) (plus (in_units p) (in_units d)) (in_units q) (there p q)
    (In-plus h (ball_of a) (in_units p) (in_units d) i w)
