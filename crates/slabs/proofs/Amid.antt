-- The octagon round the four ends of two cuts of a slab has just the points between them.
use Rattle.std.proofs.Common.{◌≡◌, ℕ, ◌⊎◌, inl, inr, arith}
use Rattle.std.specs.Prelude.{ℤ, pos, ◌+ℤ◌, ◌-ℤ◌, ◌*ℤ◌, ◌≤ℤ◌, ◌<ℤ◌}
use Rattle.std.proofs.lemmas.Int.{ints}
use Rattle.plane.specs.Plane.{PlanePoint, Bounds, Within, In}
use Rattle.grid_num.proofs.Products.{mul_add, mul_sub, mul_le}
use Rattle.plane.specs.Covering.{Edge}
use Rattle.plane.proofs.On.{at}
use Rattle.slabs.specs.Slabs.{IsAt, IsFramed, IsAmid}
use Rattle.slabs.specs.Inner.Cutting.{IsFourHull, AmidLaw}
use Rattle.slabs.proofs.At.{somewhere}

-- ---- bounds with one changed
with_x0 : (b : Bounds) (a x y : ℤ) → Within b x y → a ≤ℤ x → Within (record b { x0 = a }) x y
with_x0 b a x y w h = record { x_low = h; x_high = w.x_high; y_low = w.y_low; y_high = w.y_high; s_low = w.s_low; s_high = w.s_high; d_low = w.d_low; d_high = w.d_high }

with_x1 : (b : Bounds) (a x y : ℤ) → Within b x y → x ≤ℤ a → Within (record b { x1 = a }) x y
with_x1 b a x y w h = record { x_low = w.x_low; x_high = h; y_low = w.y_low; y_high = w.y_high; s_low = w.s_low; s_high = w.s_high; d_low = w.d_low; d_high = w.d_high }

with_y : (b : Bounds) (a c x y : ℤ) → Within b x y → a ≤ℤ y → y ≤ℤ c → Within (record b { y0 = a; y1 = c }) x y
with_y b a c x y w h g = record { x_low = w.x_low; x_high = w.x_high; y_low = h; y_high = g; s_low = w.s_low; s_high = w.s_high; d_low = w.d_low; d_high = w.d_high }

with_s0 : (b : Bounds) (a x y : ℤ) → Within b x y → a ≤ℤ (x +ℤ y) → Within (record b { s0 = a }) x y
with_s0 b a x y w h = record { x_low = w.x_low; x_high = w.x_high; y_low = w.y_low; y_high = w.y_high; s_low = h; s_high = w.s_high; d_low = w.d_low; d_high = w.d_high }

with_s1 : (b : Bounds) (a x y : ℤ) → Within b x y → (x +ℤ y) ≤ℤ a → Within (record b { s1 = a }) x y
with_s1 b a x y w h = record { x_low = w.x_low; x_high = w.x_high; y_low = w.y_low; y_high = w.y_high; s_low = w.s_low; s_high = h; d_low = w.d_low; d_high = w.d_high }

with_d0 : (b : Bounds) (a x y : ℤ) → Within b x y → a ≤ℤ (x -ℤ y) → Within (record b { d0 = a }) x y
with_d0 b a x y w h = record { x_low = w.x_low; x_high = w.x_high; y_low = w.y_low; y_high = w.y_high; s_low = w.s_low; s_high = w.s_high; d_low = h; d_high = w.d_high }

with_d1 : (b : Bounds) (a x y : ℤ) → Within b x y → (x -ℤ y) ≤ℤ a → Within (record b { d1 = a }) x y
with_d1 b a x y w h = record { x_low = w.x_low; x_high = w.x_high; y_low = w.y_low; y_high = w.y_high; s_low = w.s_low; s_high = w.s_high; d_low = w.d_low; d_high = h }

-- ---- from the octagon to between
rows_of : (l r : Edge) (b : Bounds) (p : PlanePoint) → IsFramed l r → l.start.y <ℤ l.finish.y → IsFourHull l r b → In b p → ((pos p.scale *ℤ l.start.y) ≤ℤ p.y) × (p.y ≤ℤ (pos p.scale *ℤ l.finish.y))
rows_of l r b p f d h i =
    let t = f.top in
    let u = f.bottom in
    let j = h.least (record b { y0 = l.start.y; y1 = l.finish.y }) p
    (with_y b _ _ _ _ h.upper_left (omega (arith, ints)) (omega (arith, ints)))
    (with_y b _ _ _ _ h.upper_right (omega (arith, ints)) (omega (arith, ints)))
    (with_y b _ _ _ _ h.lower_left (omega (arith, ints)) (omega (arith, ints)))
    (with_y b _ _ _ _ h.lower_right (omega (arith, ints)) (omega (arith, ints))) i in
    (j.y_low, j.y_high)

left_of : (l r : Edge) (b : Bounds) (p : PlanePoint) (z : ℤ) → IsFramed l r → IsFourHull l r b → In b p → IsAt l p.scale p.y z → z ≤ℤ p.x
unfolding IsAt
left_of l r b p z f h i (inl w) =
    let j = h.least (record b { x0 = l.start.x }) p
    (with_x0 b _ _ _ h.upper_left (omega (arith, ints)))
    (with_x0 b _ _ _ h.upper_right (omega (arith, ints, f.upper)))
    (with_x0 b _ _ _ h.lower_left (omega (arith, ints, w.0)))
    (with_x0 b _ _ _ h.lower_right (omega (arith, ints, w.0, f.lower))) i in
    let g = j.x_low in
    omega (arith, ints, g, w.1)
left_of l r b p z f h i (inr (inl w)) =
    let j = h.least (record b { d0 = l.start.x -ℤ l.start.y }) p
    (with_d0 b _ _ _ h.upper_left (omega (arith, ints)))
    (with_d0 b _ _ _ h.upper_right (omega (arith, ints, f.upper, f.top)))
    (with_d0 b _ _ _ h.lower_left (omega (arith, ints, w.0)))
    (with_d0 b _ _ _ h.lower_right (omega (arith, ints, w.0, f.lower, f.bottom))) i in
    let g = j.d_low in
    omega (arith, ints, g, w.1, mul_sub p.scale l.start.x l.start.y)
left_of l r b p z f h i (inr (inr w)) =
    let j = h.least (record b { s0 = l.start.x +ℤ l.start.y }) p
    (with_s0 b _ _ _ h.upper_left (omega (arith, ints)))
    (with_s0 b _ _ _ h.upper_right (omega (arith, ints, f.upper, f.top)))
    (with_s0 b _ _ _ h.lower_left (omega (arith, ints, w.0)))
    (with_s0 b _ _ _ h.lower_right (omega (arith, ints, w.0, f.lower, f.bottom))) i in
    let g = j.s_low in
    omega (arith, ints, g, w.1, mul_add p.scale l.start.x l.start.y)

right_of : (l r : Edge) (b : Bounds) (p : PlanePoint) (z : ℤ) → IsFramed l r → IsFourHull l r b → In b p → IsAt r p.scale p.y z → p.x ≤ℤ z
unfolding IsAt
right_of l r b p z f h i (inl w) =
    let j = h.least (record b { x1 = r.start.x }) p
    (with_x1 b _ _ _ h.upper_left (omega (arith, ints, f.upper)))
    (with_x1 b _ _ _ h.upper_right (omega (arith, ints)))
    (with_x1 b _ _ _ h.lower_left (omega (arith, ints, w.0, f.lower)))
    (with_x1 b _ _ _ h.lower_right (omega (arith, ints, w.0))) i in
    let g = j.x_high in
    omega (arith, ints, g, w.1)
right_of l r b p z f h i (inr (inl w)) =
    let j = h.least (record b { d1 = r.start.x -ℤ r.start.y }) p
    (with_d1 b _ _ _ h.upper_left (omega (arith, ints, f.upper, f.top)))
    (with_d1 b _ _ _ h.upper_right (omega (arith, ints)))
    (with_d1 b _ _ _ h.lower_left (omega (arith, ints, w.0, f.lower, f.bottom)))
    (with_d1 b _ _ _ h.lower_right (omega (arith, ints, w.0))) i in
    let g = j.d_high in
    omega (arith, ints, g, w.1, mul_sub p.scale r.start.x r.start.y)
right_of l r b p z f h i (inr (inr w)) =
    let j = h.least (record b { s1 = r.start.x +ℤ r.start.y }) p
    (with_s1 b _ _ _ h.upper_left (omega (arith, ints, f.upper, f.top)))
    (with_s1 b _ _ _ h.upper_right (omega (arith, ints)))
    (with_s1 b _ _ _ h.lower_left (omega (arith, ints, w.0, f.lower, f.bottom)))
    (with_s1 b _ _ _ h.lower_right (omega (arith, ints, w.0))) i in
    let g = j.s_high in
    omega (arith, ints, g, w.1, mul_add p.scale r.start.x r.start.y)

-- ---- from between to the octagon
-- the place where the cut passes the row of p is in the octagon
record IsNear (b : Bounds) (p : PlanePoint) (z : ℤ) : Type 0 where
  x_low : (pos p.scale *ℤ b.x0) ≤ℤ z
  x_high : z ≤ℤ (pos p.scale *ℤ b.x1)
  s_low : (pos p.scale *ℤ b.s0) ≤ℤ (z +ℤ p.y)
  s_high : (z +ℤ p.y) ≤ℤ (pos p.scale *ℤ b.s1)
  d_low : (pos p.scale *ℤ b.d0) ≤ℤ (z -ℤ p.y)
  d_high : (z -ℤ p.y) ≤ℤ (pos p.scale *ℤ b.d1)

-- a bound that holds at both ends, each value linear along the cut
low_along : (k : ℕ) (a u v t b y w : ℤ) → a ≤ℤ u → a ≤ℤ v
    → (pos k *ℤ t) ≤ℤ y → y ≤ℤ (pos k *ℤ b)
    → ((v ≡ u) × (w ≡ pos k *ℤ u)) ⊎ (((v -ℤ u ≡ b -ℤ t) × (w ≡ pos k *ℤ u +ℤ (y -ℤ pos k *ℤ t))) ⊎ (((v -ℤ u ≡ t -ℤ b) × (w ≡ pos k *ℤ u -ℤ (y -ℤ pos k *ℤ t)))
    ⊎ (((v -ℤ u ≡ (b -ℤ t) +ℤ (b -ℤ t)) × (w ≡ pos k *ℤ u +ℤ ((y -ℤ pos k *ℤ t) +ℤ (y -ℤ pos k *ℤ t)))) ⊎ ((v -ℤ u ≡ (t -ℤ b) +ℤ (t -ℤ b)) × (w ≡ pos k *ℤ u -ℤ ((y -ℤ pos k *ℤ t) +ℤ (y -ℤ pos k *ℤ t)))))))
    → ((pos k *ℤ a) ≤ℤ w)
low_along k a u v t b y w g h l m (inl c) = let n = mul_le k a u g in omega (arith, ints, n, c.1)
low_along k a u v t b y w g h l m (inr (inl c)) = let n = mul_le k a u g in omega (arith, ints, n, c.1, l)
low_along k a u v t b y w g h l m (inr (inr (inl c))) =
    let n = mul_le k a v h in
    let e = at k (v -ℤ u) (t -ℤ b) c.0 in
    let f1 = mul_sub k v u in
    let f2 = mul_sub k t b in
    omega (arith, ints, n, c.1, m, e, f1, f2)
low_along k a u v t b y w g h l m (inr (inr (inr (inl c)))) = let n = mul_le k a u g in omega (arith, ints, n, c.1, l)
low_along k a u v t b y w g h l m (inr (inr (inr (inr c)))) =
    let n = mul_le k a v h in
    let e = at k (v -ℤ u) ((t -ℤ b) +ℤ (t -ℤ b)) c.0 in
    let f1 = mul_sub k v u in
    let f2 = mul_sub k t b in
    let f3 = mul_add k (t -ℤ b) (t -ℤ b) in
    omega (arith, ints, n, c.1, m, e, f1, f2, f3)

high_along : (k : ℕ) (a u v t b y w : ℤ) → u ≤ℤ a → v ≤ℤ a
    → (pos k *ℤ t) ≤ℤ y → y ≤ℤ (pos k *ℤ b)
    → ((v ≡ u) × (w ≡ pos k *ℤ u)) ⊎ (((v -ℤ u ≡ b -ℤ t) × (w ≡ pos k *ℤ u +ℤ (y -ℤ pos k *ℤ t))) ⊎ (((v -ℤ u ≡ t -ℤ b) × (w ≡ pos k *ℤ u -ℤ (y -ℤ pos k *ℤ t)))
    ⊎ (((v -ℤ u ≡ (b -ℤ t) +ℤ (b -ℤ t)) × (w ≡ pos k *ℤ u +ℤ ((y -ℤ pos k *ℤ t) +ℤ (y -ℤ pos k *ℤ t)))) ⊎ ((v -ℤ u ≡ (t -ℤ b) +ℤ (t -ℤ b)) × (w ≡ pos k *ℤ u -ℤ ((y -ℤ pos k *ℤ t) +ℤ (y -ℤ pos k *ℤ t)))))))
    → (w ≤ℤ (pos k *ℤ a))
high_along k a u v t b y w g h l m (inl c) = let n = mul_le k u a g in omega (arith, ints, n, c.1)
high_along k a u v t b y w g h l m (inr (inl c)) =
    let n = mul_le k v a h in
    let e = at k (v -ℤ u) (b -ℤ t) c.0 in
    let f1 = mul_sub k v u in
    let f2 = mul_sub k b t in
    omega (arith, ints, n, c.1, m, e, f1, f2)
high_along k a u v t b y w g h l m (inr (inr (inl c))) = let n = mul_le k u a g in omega (arith, ints, n, c.1, l)
high_along k a u v t b y w g h l m (inr (inr (inr (inl c)))) =
    let n = mul_le k v a h in
    let e = at k (v -ℤ u) ((b -ℤ t) +ℤ (b -ℤ t)) c.0 in
    let f1 = mul_sub k v u in
    let f2 = mul_sub k b t in
    let f3 = mul_add k (b -ℤ t) (b -ℤ t) in
    omega (arith, ints, n, c.1, m, e, f1, f2, f3)
high_along k a u v t b y w g h l m (inr (inr (inr (inr c)))) = let n = mul_le k u a g in omega (arith, ints, n, c.1, l)

near : (c : Edge) (b : Bounds) (p : PlanePoint) (z : ℤ) → Within b c.start.x c.start.y → Within b c.finish.x c.finish.y
    → (pos p.scale *ℤ c.start.y) ≤ℤ p.y → p.y ≤ℤ (pos p.scale *ℤ c.finish.y) → IsAt c p.scale p.y z → IsNear b p z
unfolding IsAt
near c b p z g h l m (inl w) =
    let k = p.scale in
    let sum = mul_add k c.start.x c.start.y in
    let difference = mul_sub k c.start.x c.start.y in
    let x = w.0 in
    record {
      x_low = low_along k b.x0 c.start.x c.finish.x c.start.y c.finish.y p.y z g.x_low h.x_low l m (inl w);
      x_high = high_along k b.x1 c.start.x c.finish.x c.start.y c.finish.y p.y z g.x_high h.x_high l m (inl w);
      s_low = low_along k b.s0 (c.start.x +ℤ c.start.y) (c.finish.x +ℤ c.finish.y) c.start.y c.finish.y p.y (z +ℤ p.y) g.s_low h.s_low l m (inr (inl (omega (arith, ints), omega (arith, ints, w.1, sum))));
      s_high = high_along k b.s1 (c.start.x +ℤ c.start.y) (c.finish.x +ℤ c.finish.y) c.start.y c.finish.y p.y (z +ℤ p.y) g.s_high h.s_high l m (inr (inl (omega (arith, ints), omega (arith, ints, w.1, sum))));
      d_low = low_along k b.d0 (c.start.x -ℤ c.start.y) (c.finish.x -ℤ c.finish.y) c.start.y c.finish.y p.y (z -ℤ p.y) g.d_low h.d_low l m (inr (inr (inl (omega (arith, ints), omega (arith, ints, w.1, difference)))));
      d_high = high_along k b.d1 (c.start.x -ℤ c.start.y) (c.finish.x -ℤ c.finish.y) c.start.y c.finish.y p.y (z -ℤ p.y) g.d_high h.d_high l m (inr (inr (inl (omega (arith, ints), omega (arith, ints, w.1, difference)))));
    }
near c b p z g h l m (inr (inl w)) =
    let k = p.scale in
    let sum = mul_add k c.start.x c.start.y in
    let difference = mul_sub k c.start.x c.start.y in
    let x = w.0 in
    record {
      x_low = low_along k b.x0 c.start.x c.finish.x c.start.y c.finish.y p.y z g.x_low h.x_low l m (inr (inl w));
      x_high = high_along k b.x1 c.start.x c.finish.x c.start.y c.finish.y p.y z g.x_high h.x_high l m (inr (inl w));
      s_low = low_along k b.s0 (c.start.x +ℤ c.start.y) (c.finish.x +ℤ c.finish.y) c.start.y c.finish.y p.y (z +ℤ p.y) g.s_low h.s_low l m (inr (inr (inr (inl (omega (arith, ints), omega (arith, ints, w.1, sum))))));
      s_high = high_along k b.s1 (c.start.x +ℤ c.start.y) (c.finish.x +ℤ c.finish.y) c.start.y c.finish.y p.y (z +ℤ p.y) g.s_high h.s_high l m (inr (inr (inr (inl (omega (arith, ints), omega (arith, ints, w.1, sum))))));
      d_low = low_along k b.d0 (c.start.x -ℤ c.start.y) (c.finish.x -ℤ c.finish.y) c.start.y c.finish.y p.y (z -ℤ p.y) g.d_low h.d_low l m (inl (omega (arith, ints), omega (arith, ints, w.1, difference)));
      d_high = high_along k b.d1 (c.start.x -ℤ c.start.y) (c.finish.x -ℤ c.finish.y) c.start.y c.finish.y p.y (z -ℤ p.y) g.d_high h.d_high l m (inl (omega (arith, ints), omega (arith, ints, w.1, difference)));
    }
near c b p z g h l m (inr (inr w)) =
    let k = p.scale in
    let sum = mul_add k c.start.x c.start.y in
    let difference = mul_sub k c.start.x c.start.y in
    let x = w.0 in
    let turn : c.finish.x -ℤ c.start.x ≡ c.start.y -ℤ c.finish.y = omega (arith, ints, x) in
    record {
      x_low = low_along k b.x0 c.start.x c.finish.x c.start.y c.finish.y p.y z g.x_low h.x_low l m (inr (inr (inl (turn, w.1))));
      x_high = high_along k b.x1 c.start.x c.finish.x c.start.y c.finish.y p.y z g.x_high h.x_high l m (inr (inr (inl (turn, w.1))));
      s_low = low_along k b.s0 (c.start.x +ℤ c.start.y) (c.finish.x +ℤ c.finish.y) c.start.y c.finish.y p.y (z +ℤ p.y) g.s_low h.s_low l m (inl (omega (arith, ints), omega (arith, ints, w.1, sum)));
      s_high = high_along k b.s1 (c.start.x +ℤ c.start.y) (c.finish.x +ℤ c.finish.y) c.start.y c.finish.y p.y (z +ℤ p.y) g.s_high h.s_high l m (inl (omega (arith, ints), omega (arith, ints, w.1, sum)));
      d_low = low_along k b.d0 (c.start.x -ℤ c.start.y) (c.finish.x -ℤ c.finish.y) c.start.y c.finish.y p.y (z -ℤ p.y) g.d_low h.d_low l m (inr (inr (inr (inr (omega (arith, ints), omega (arith, ints, w.1, difference))))));
      d_high = high_along k b.d1 (c.start.x -ℤ c.start.y) (c.finish.x -ℤ c.finish.y) c.start.y c.finish.y p.y (z -ℤ p.y) g.d_high h.d_high l m (inr (inr (inr (inr (omega (arith, ints), omega (arith, ints, w.1, difference))))));
    }

amid_in : (l r : Edge) (b : Bounds) (p : PlanePoint) → IsFramed l r → IsFourHull l r b → IsAmid l r p → In b p
amid_in l r b p f h a =
    let k = p.scale in
    let t : (pos k *ℤ r.start.y) ≤ℤ p.y = rw (← f.top) a.top in
    let u : p.y ≤ℤ (pos k *ℤ r.finish.y) = rw (← f.bottom) a.bottom in
    let x = near l b p a.left.0 h.upper_left h.lower_left a.top a.bottom a.left.1 in
    let y = near r b p a.right.0 h.upper_right h.lower_right t u a.right.1 in
    let zl = a.left.2 in
    let zr = a.right.2 in
    record {
      x_low = omega (arith, ints, x.x_low, zl);
      x_high = omega (arith, ints, y.x_high, zr);
      y_low = omega (arith, ints, mul_le k b.y0 l.start.y h.upper_left.y_low, a.top);
      y_high = omega (arith, ints, mul_le k l.finish.y b.y1 h.lower_left.y_high, a.bottom);
      s_low = omega (arith, ints, x.s_low, zl);
      s_high = omega (arith, ints, y.s_high, zr);
      d_low = omega (arith, ints, x.d_low, zl);
      d_high = omega (arith, ints, y.d_high, zr);
    }

pub amid_law : AmidLaw
amid_law l r b p cl cr framed h = (
  λ i.
      (let z = somewhere l p.scale p.y cl.steep in
      let u = somewhere r p.scale p.y cr.steep in
      let q = rows_of l r b p framed cl.down h i in
      record { top = q.0; bottom = q.1; left = (z.0, z.1, left_of l r b p z.0 framed h i z.1); right = (u.0, u.1, right_of l r b p u.0 framed h i u.1) }),
  λ a. amid_in l r b p framed h a,
)
