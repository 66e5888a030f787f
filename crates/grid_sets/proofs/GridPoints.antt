-- A tight octagon and a stout one whose bounds overlap have a common grid point.
use Rattle.std.proofs.Common.{◌≡◌, ℕ, ◌+◌, ◌*◌, ◌≤◌, ◌<◌, ◌⊎◌, ◌/◌, ◌%◌, inl, inr, refl, arith}
use Rattle.std.specs.Prelude.{ℤ, pos, negsuc, neg_ℤ, ◌+ℤ◌, ◌-ℤ◌, ◌*ℤ◌, ◌≤ℤ◌, ◌<ℤ◌}
use Rattle.std.proofs.lemmas.Int.{ints, by_lt_z}
use Rattle.plane.specs.Plane.{Bounds, Within, IsTight}
use Rattle.plane.specs.Narrow.{IsOrdered, IsHalfUp}
use Rattle.plane.proofs.Meet.{IsOverlapping, IsMeet, meet_bounds, consistent}
use Rattle.plane.proofs.Sum.{IsConsistent, lub2}
use Rattle.plane.proofs.Narrow.{x_point}
use Rattle.grid_num.proofs.Products.{mul_add, mul_neg}

-- its diagonal sides stay clear of its straight ones
pub record IsStout (c : Bounds) : Type 0 where
  pub s : c.s0 <ℤ c.s1
  pub d : c.d0 <ℤ c.d1
  pub left : (c.s0 +ℤ c.d0) <ℤ (c.x0 +ℤ c.x0)
  pub right : (c.x1 +ℤ c.x1) <ℤ (c.s1 +ℤ c.d1)
  pub top : (c.s0 -ℤ c.d1) <ℤ (c.y0 +ℤ c.y0)
  pub bottom : (c.y1 +ℤ c.y1) <ℤ (c.s1 -ℤ c.d0)

-- ---- division
pub record IsFloor (k : ℕ) (a m : ℤ) : Type 0 where
  pub low : (pos k *ℤ m) ≤ℤ a
  pub high : a <ℤ (pos k *ℤ m +ℤ pos k)

pub record IsCeiling (k : ℕ) (a m : ℤ) : Type 0 where
  pub low : a ≤ℤ (pos k *ℤ m)
  pub high : (pos k *ℤ m) <ℤ (a +ℤ pos k)

divided : (k n : ℕ) → 1 ≤ k → (q : ℕ) × (r : ℕ) × (k * q + r ≡ n) × (r < k)
divided k n h = (n / k, n % k, omega arith, omega arith)

pub floor : (k : ℕ) (a : ℤ) → 1 ≤ k → (m : ℤ) × IsFloor k a m
floor k (pos n) h =
    let t = divided k n h in
    let e : pos k *ℤ pos t.0 ≡ pos (k * t.0) = refl in
    (pos t.0, record { low = omega (arith, ints, e, t.2, t.3); high = omega (arith, ints, e, t.2, t.3) })
floor k (negsuc n) h =
    let t = divided k n h in
    let e : pos k *ℤ pos t.0 ≡ pos (k * t.0) = refl in
    let one : pos k *ℤ pos 1 ≡ pos k = omega (arith, ints) in
    let f = mul_neg k (pos t.0 +ℤ pos 1) in
    let g = mul_add k (pos t.0) (pos 1) in
    (neg_ℤ (pos t.0 +ℤ pos 1), record { low = omega (arith, ints, e, f, g, one, t.2, t.3); high = omega (arith, ints, e, f, g, one, t.2, t.3) })

pub ceiling : (k : ℕ) (a : ℤ) → 1 ≤ k → (m : ℤ) × IsCeiling k a m
ceiling k a h =
    let f = floor k (neg_ℤ a) h in
    let e = mul_neg k f.0 in
    (neg_ℤ f.0, record { low = omega (arith, ints, e, f.1.low); high = omega (arith, ints, e, f.1.high) })

half_up : (a : ℤ) → (h : ℤ) × IsHalfUp a h
half_up a =
    let c = ceiling 2 a (omega arith) in
    (c.0, record { low = omega (arith, ints, c.1.low); high = omega (arith, ints, c.1.high) })

-- a common point of the plane has whole coordinates, or there is another common point
even : (b c : Bounds) → IsTight b → IsTight c → IsStout c → IsOverlapping b c → (s d h : ℤ)
    → ((s ≡ b.s0) ⊎ (s ≡ c.s0)) → ((d ≡ b.d0) ⊎ (d ≡ c.d0)) → ((s ≡ b.s1) ⊎ (s ≡ c.s1)) → ((d ≡ b.d1) ⊎ (d ≡ c.d1))
    → (h +ℤ h) ≡ (s +ℤ d +ℤ pos 1) → ⊥
even b c t u w o s d h h1 h2 h3 h4 e = omega (arith, ints)

-- h is no more than each upper bound that x has
half_below : (s d h u : ℤ) → IsHalfUp (s +ℤ d) h → (s +ℤ d) ≤ℤ (u +ℤ u) → h ≤ℤ u
half_below s d h u k l = omega (arith, ints)

half_between : (s0 s1 d0 d1 h : ℤ) → IsHalfUp (s0 +ℤ d0) h → s0 ≤ℤ s1 → d0 ≤ℤ d1
    → (s0 ≡ s1 → d0 ≡ d1 → (h +ℤ h) ≡ (s0 +ℤ d0 +ℤ pos 1) → ⊥) → (h +ℤ h) ≤ℤ (s1 +ℤ d1)
half_between s0 s1 d0 d1 h k ls ld f =
    by_lt_z {P = (h +ℤ h) ≤ℤ (s1 +ℤ d1)} (s1 +ℤ d1) (h +ℤ h)
    (λ m. absurd (f (omega (arith, ints)) (omega (arith, ints)) (omega (arith, ints))))
    (λ m. m)

-- the x of a common grid point: the greatest of its lower bounds
x_between : (r : Bounds) (h : ℤ) → IsConsistent r → IsHalfUp (r.s0 +ℤ r.d0) h → (h +ℤ h) ≤ℤ (r.s1 +ℤ r.d1)
    → (x : ℤ) × (r.x0 ≤ℤ x) × ((r.s0 -ℤ r.y1) ≤ℤ x) × ((r.d0 +ℤ r.y0) ≤ℤ x) × (h ≤ℤ x) × (x ≤ℤ r.x1) × (x ≤ℤ (r.s1 -ℤ r.y0)) × (x ≤ℤ (r.d1 +ℤ r.y1)) × ((x +ℤ x) ≤ℤ (r.s1 +ℤ r.d1))
x_between r h c k l =
    let m = lub2 r.x0 (r.s0 -ℤ r.y1) in
    let n = lub2 (r.d0 +ℤ r.y0) h in
    let t = lub2 m.0 n.0 in
    let g : (u : ℤ) → r.x0 ≤ℤ u → (r.s0 -ℤ r.y1) ≤ℤ u → (r.d0 +ℤ r.y0) ≤ℤ u → h ≤ℤ u → t.0 ≤ℤ u = λ u a b e f. t.3 u (m.3 u a b) (n.3 u e f) in
    let q = floor 2 (r.s1 +ℤ r.d1) (omega arith) in
    let top : t.0 ≤ℤ q.0 = g q.0 (omega (arith, ints, q.1.high, c.xsd)) (omega (arith, ints, q.1.high, c.ss, c.sdy)) (omega (arith, ints, q.1.high, c.dd, c.ysd)) (omega (arith, ints, q.1.high, l)) in (
      t.0,
      omega (arith, ints, m.1, t.1),
      omega (arith, ints, m.2, t.1),
      omega (arith, ints, n.1, t.2),
      omega (arith, ints, n.2, t.2),
      g r.x1 c.xx (omega (arith, ints, c.sxy)) (omega (arith, ints, c.dyx)) (half_below r.s0 r.d0 h r.x1 k c.sdx),
      g (r.s1 -ℤ r.y0) (omega (arith, ints, c.xys)) (omega (arith, ints, c.ss, c.yy)) (omega (arith, ints, c.ysd)) (half_below r.s0 r.d0 h (r.s1 -ℤ r.y0) k (omega (arith, ints, c.ss, c.ysd))),
      g (r.d1 +ℤ r.y1) (omega (arith, ints, c.xyd)) (omega (arith, ints, c.sdy)) (omega (arith, ints, c.dd, c.yy)) (half_below r.s0 r.d0 h (r.d1 +ℤ r.y1) k (omega (arith, ints, c.dd, c.sdy))),
      omega (arith, ints, q.1.low, top),
    )

consistent_ordered : (r : Bounds) → IsConsistent r → IsOrdered r
consistent_ordered r c = record { x = c.xx; y = c.yy; s = c.ss; d = c.dd }

grid_point_of : (r : Bounds) (h : ℤ) → IsConsistent r → IsHalfUp (r.s0 +ℤ r.d0) h → (h +ℤ h) ≤ℤ (r.s1 +ℤ r.d1) → (x : ℤ) × (y : ℤ) × Within r x y
grid_point_of r h c k l =
    let t = x_between r h c k l in
    let p = x_point r t.0 (consistent_ordered r c) t.1 t.2 t.3 (omega (arith, ints, k.low, t.4)) t.5 t.6 t.7 t.8 in
    (t.0, p.0, p.1)

within_both : (b c r : Bounds) (x y : ℤ) → IsMeet b c r → Within r x y → Within b x y × Within c x y
within_both b c r x y m w = (
  record { x_low = omega (arith, ints); x_high = omega (arith, ints); y_low = omega (arith, ints); y_high = omega (arith, ints); s_low = omega (arith, ints); s_high = omega (arith, ints); d_low = omega (arith, ints); d_high = omega (arith, ints) },
  record { x_low = omega (arith, ints); x_high = omega (arith, ints); y_low = omega (arith, ints); y_high = omega (arith, ints); s_low = omega (arith, ints); s_high = omega (arith, ints); d_low = omega (arith, ints); d_high = omega (arith, ints) },
)

pub common_grid_point : (b c : Bounds) → IsTight b → IsTight c → IsStout c → IsOverlapping b c → (x : ℤ) × (y : ℤ) × Within b x y × Within c x y
common_grid_point b c t u w o =
    let m = meet_bounds b c in
    let r = m.0 in
    let h = half_up (r.s0 +ℤ r.d0) in
    let k = consistent b c r t u o m.1 in
    let f : (h.0 +ℤ h.0) ≤ℤ (r.s1 +ℤ r.d1) =
    half_between r.s0 r.s1 r.d0 r.d1 h.0 h.1 k.ss k.dd
    (λ es ed e. even b c t u w o r.s0 r.d0 h.0 m.1.s0 m.1.d0 (along r.s0 r.s1 b.s1 c.s1 es m.1.s1) (along r.d0 r.d1 b.d1 c.d1 ed m.1.d1) e) in
    let p = grid_point_of r h.0 k h.1 f in
    let v = within_both b c r p.0 p.1 m.1 p.2 in
    (p.0, p.1, v.0, v.1)
  where
    along : (s t a b : ℤ) → s ≡ t → ((t ≡ a) ⊎ (t ≡ b)) → ((s ≡ a) ⊎ (s ≡ b))
    along s t a b e (inl h) = inl (omega (arith, ints))
    along s t a b e (inr h) = inr (omega (arith, ints))
