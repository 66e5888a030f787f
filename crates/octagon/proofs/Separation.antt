-- The laws of octagons, over plain bounds.
use Rattle.std.proofs.Common.{◌≡◌, ◌∙◌, ap, ℕ, ◌*◌, arith, lit≤}
use Rattle.std.specs.Prelude.{ℤ, pos, ◌+ℤ◌, ◌-ℤ◌, ◌*ℤ◌, ◌≤ℤ◌, ◌<ℤ◌, neg_ℤ}
use Rattle.std.proofs.lemmas.Int.{ints}
use Rattle.plane.specs.Plane.{PlanePoint, Bounds, StrictlyWithin, In, StrictlyIn, IsMeeting, AreNear, minus, ball_of, sum_of, moved}
use Rattle.grid_num.proofs.Products.{mul_le, mul_add, mul_sub, mul_lt_back}
use Rattle.plane.proofs.Points.{mul_mul, mul_swap, IsInSum-In, In-IsInSum, IsMeeting-overlap}
use Rattle.plane.proofs.Meet.{meeting_point}
use Rattle.plane.proofs.Near.{IsOverlappingStrictly, turned, AreNear-bounds, bounds-AreNear, IsNear-StrictlyIn, IsTight-ball}
use Rattle.plane.proofs.Moved.{IsTight-moved}
use Rattle.plane.proofs.Euclid.{euclid}
use Rattle.octagon.specs.Laws.{SumLaw, MeetingLaw, SeparationLaw, BarredLaw, OctDistanceLaw}

pub sum_law : SumLaw
sum_law b c p t u = (In-IsInSum b c p t u, IsInSum-In b c p)

pub meeting_law : MeetingLaw
unfolding IsMeeting
meeting_law b c t u = (
  λ m. meeting_point b c t u (IsMeeting-overlap b c m),
  λ w. (record { x = w.0; y = w.1; scale = 2; positive = lit≤ tt }, w.2, w.3),
)

-- ---- q and what is strictly in the ball from it
spread : (i j : ℕ) (c b : ℤ) → pos j *ℤ (pos i *ℤ (c +ℤ b)) ≡ pos j *ℤ (pos i *ℤ c) +ℤ pos j *ℤ (pos i *ℤ b)
spread i j c b = ap (λ (z : ℤ). pos j *ℤ z) (mul_add i c b) ∙ mul_add j (pos i *ℤ c) (pos i *ℤ b)

low_beyond : (i j : ℕ) (c b x y : ℤ) → (pos j *ℤ c) ≤ℤ y → (pos (i * j) *ℤ b) <ℤ (pos j *ℤ x -ℤ pos i *ℤ y) → (pos i *ℤ (c +ℤ b)) <ℤ x
low_beyond i j c b x y h l =
    mul_lt_back j (pos i *ℤ (c +ℤ b)) x
    (omega (arith, ints, mul_le i (pos j *ℤ c) y h, spread i j c b, mul_swap i j c, mul_swap i j b, mul_mul i j b))

high_beyond : (i j : ℕ) (c b x y : ℤ) → y ≤ℤ (pos j *ℤ c) → (pos j *ℤ x -ℤ pos i *ℤ y) <ℤ (pos (i * j) *ℤ b) → x <ℤ (pos i *ℤ (c +ℤ b))
high_beyond i j c b x y h l =
    mul_lt_back j x (pos i *ℤ (c +ℤ b))
    (omega (arith, ints, mul_le i y (pos j *ℤ c) h, spread i j c b, mul_swap i j c, mul_swap i j b, mul_mul i j b))

beyond : (b c : Bounds) (p q : PlanePoint) → In c q → StrictlyIn b (minus p q) → StrictlyIn (sum_of c b) p
unfolding minus
beyond b c p q h w =
    let i = p.scale in
    let j = q.scale in
    let sum : (pos j *ℤ p.x -ℤ pos i *ℤ q.x) +ℤ (pos j *ℤ p.y -ℤ pos i *ℤ q.y) ≡ pos j *ℤ (p.x +ℤ p.y) -ℤ pos i *ℤ (q.x +ℤ q.y)
    = omega (arith, ints, mul_add j p.x p.y, mul_add i q.x q.y) in
    let difference : (pos j *ℤ p.x -ℤ pos i *ℤ q.x) -ℤ (pos j *ℤ p.y -ℤ pos i *ℤ q.y) ≡ pos j *ℤ (p.x -ℤ p.y) -ℤ pos i *ℤ (q.x -ℤ q.y)
    = omega (arith, ints, mul_sub j p.x p.y, mul_sub i q.x q.y) in
    record {
      x_low = low_beyond i j c.x0 b.x0 p.x q.x h.x_low w.x_low;
      x_high = high_beyond i j c.x1 b.x1 p.x q.x h.x_high w.x_high;
      y_low = low_beyond i j c.y0 b.y0 p.y q.y h.y_low w.y_low;
      y_high = high_beyond i j c.y1 b.y1 p.y q.y h.y_high w.y_high;
      s_low = low_beyond i j c.s0 b.s0 (p.x +ℤ p.y) (q.x +ℤ q.y) h.s_low (rw sum at w.s_low);
      s_high = high_beyond i j c.s1 b.s1 (p.x +ℤ p.y) (q.x +ℤ q.y) h.s_high (rw sum at w.s_high);
      d_low = low_beyond i j c.d0 b.d0 (p.x -ℤ p.y) (q.x -ℤ q.y) h.d_low (rw difference at w.d_low);
      d_high = high_beyond i j c.d1 b.d1 (p.x -ℤ p.y) (q.x -ℤ q.y) h.d_high (rw difference at w.d_high);
    }

-- ---- a point in the one and strictly in the other
low_cross : (k : ℕ) (a b x : ℤ) → (pos k *ℤ a) ≤ℤ x → x <ℤ (pos k *ℤ b) → a <ℤ b
low_cross k a b x l h = mul_lt_back k a b (omega (arith, ints))

high_cross : (k : ℕ) (a b x : ℤ) → (pos k *ℤ a) <ℤ x → x ≤ℤ (pos k *ℤ b) → a <ℤ b
high_cross k a b x l h = mul_lt_back k a b (omega (arith, ints))

overlapping : (b c : Bounds) (p : PlanePoint) → In b p → StrictlyIn c p → IsOverlappingStrictly b c
overlapping b c p h w =
    let k = p.scale in
    record {
      x_low = low_cross k b.x0 c.x1 p.x h.x_low w.x_high;
      x_high = high_cross k c.x0 b.x1 p.x w.x_low h.x_high;
      y_low = low_cross k b.y0 c.y1 p.y h.y_low w.y_high;
      y_high = high_cross k c.y0 b.y1 p.y w.y_low h.y_high;
      s_low = low_cross k b.s0 c.s1 (p.x +ℤ p.y) h.s_low w.s_high;
      s_high = high_cross k c.s0 b.s1 (p.x +ℤ p.y) w.s_low h.s_high;
      d_low = low_cross k b.d0 c.d1 (p.x -ℤ p.y) h.d_low w.d_high;
      d_high = high_cross k c.d0 b.d1 (p.x -ℤ p.y) w.d_low h.d_high;
    }

-- what is added on the one side is taken away on the other
over_there : (b c d : Bounds) → IsOverlappingStrictly b (sum_of c d) → IsOverlappingStrictly (sum_of b (turned c)) d
unfolding turned
over_there b c d o = record {
  x_low = omega (arith, ints, o.x_low);
  x_high = omega (arith, ints, o.x_high);
  y_low = omega (arith, ints, o.y_low);
  y_high = omega (arith, ints, o.y_high);
  s_low = omega (arith, ints, o.s_low);
  s_high = omega (arith, ints, o.s_high);
  d_low = omega (arith, ints, o.d_low);
  d_high = omega (arith, ints, o.d_high);
}

pub separation_law : SeparationLaw
unfolding AreNear
separation_law a b c one t u = (
  λ n. (n.0, n.2, beyond (ball_of a) c n.0 n.1 n.3 (IsNear-StrictlyIn a n.0 n.1 n.4)),
  λ w. bounds-AreNear a b c one t u (over_there b c (ball_of a) (overlapping b (sum_of c (ball_of a)) w.0 w.1 w.2)),
)

-- ---- a brush at a grid point
abbrev round_of : ℤ → ℤ → Bounds
round_of a u = record { x0 = neg_ℤ a; x1 = a; y0 = neg_ℤ a; y1 = a; s0 = neg_ℤ u; s1 = u; d0 = neg_ℤ u; d1 = u }

barred : (a u b v : ℤ) (c : Bounds) (x y : ℤ) → IsOverlappingStrictly (sum_of (moved (round_of b v) x y) (turned c)) (round_of a u)
    → StrictlyWithin (sum_of (sum_of c (round_of a u)) (round_of b v)) x y
unfolding turned
barred a u b v c x y o = record {
  x_low = omega (arith, ints, o.x_high);
  x_high = omega (arith, ints, o.x_low);
  y_low = omega (arith, ints, o.y_high);
  y_high = omega (arith, ints, o.y_low);
  s_low = omega (arith, ints, o.s_high);
  s_high = omega (arith, ints, o.s_low);
  d_low = omega (arith, ints, o.d_high);
  d_high = omega (arith, ints, o.d_low);
}

barred_back : (a u b v : ℤ) (c : Bounds) (x y : ℤ) → StrictlyWithin (sum_of (sum_of c (round_of a u)) (round_of b v)) x y
    → IsOverlappingStrictly (sum_of (moved (round_of b v) x y) (turned c)) (round_of a u)
unfolding turned
barred_back a u b v c x y o = record {
  x_low = omega (arith, ints, o.x_high);
  x_high = omega (arith, ints, o.x_low);
  y_low = omega (arith, ints, o.y_high);
  y_high = omega (arith, ints, o.y_low);
  s_low = omega (arith, ints, o.s_high);
  s_high = omega (arith, ints, o.s_low);
  d_low = omega (arith, ints, o.d_high);
  d_high = omega (arith, ints, o.d_low);
}

to_round : (a b : ℕ) (c : Bounds) (x y : ℤ) → IsOverlappingStrictly (sum_of (moved (ball_of b) x y) (turned c)) (ball_of a)
    → StrictlyWithin (sum_of (sum_of c (ball_of a)) (ball_of b)) x y
unfolding ball_of
to_round a b c x y o = barred (pos a) _ (pos b) _ c x y o

from_round : (a b : ℕ) (c : Bounds) (x y : ℤ) → StrictlyWithin (sum_of (sum_of c (ball_of a)) (ball_of b)) x y
    → IsOverlappingStrictly (sum_of (moved (ball_of b) x y) (turned c)) (ball_of a)
unfolding ball_of
from_round a b c x y o = barred_back (pos a) _ (pos b) _ c x y o

pub barred_law : BarredLaw
barred_law a b c x y one t = (
  λ n. to_round a b c x y (AreNear-bounds a (moved (ball_of b) x y) c n),
  λ w. bounds-AreNear a (moved (ball_of b) x y) c one (IsTight-moved (ball_of b) x y (IsTight-ball b)) t (from_round a b c x y w),
)

pub distance_law : OctDistanceLaw
unfolding AreNear
distance_law a b c f p q i k = euclid a p q (λ n. f (p, q, i, k, n))
