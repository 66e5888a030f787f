-- A cell plus a brush is the brush at each grid point of the cell.
use Rattle.std.proofs.Common.{◌≡◌, ℕ, ◌+◌, ◌*◌, ◌-◌, ◌≤◌, inl, inr, subst, arith}
use Rattle.std.specs.Prelude.{ℤ, pos, neg_ℤ, ◌+ℤ◌, ◌-ℤ◌, ◌*ℤ◌, ◌≤ℤ◌, ◌<ℤ◌}
use Rattle.std.proofs.lemmas.Int.{ints}
use Rattle.std.proofs.lemmas.Bool.{cases_lt}
use Rattle.plane.specs.Plane.{Bounds, Within, IsTight, times, sum_of, ball_of, moved}
use Rattle.grid_num.specs.Roots.{up2_of}
use Rattle.plane.proofs.Meet.{IsOverlapping}
use Rattle.grid_num.proofs.Products.{mul_add, mul_sub, mul_le, mul_lt_back, mul_neg}
use Rattle.grid_num.proofs.Roots.{up2_reaches, up2_least, square_le}
use Rattle.plane.proofs.Points.{IsInSum-In, In-IsInSum}
use Rattle.grid_sets.specs.Brush.{IsBrushed, BrushLaw}
use Rattle.grid_sets.proofs.GridPoints.{IsFloor, IsCeiling, floor, ceiling, IsStout, common_grid_point}

-- ---- the brush's numbers
slanted_more : (b : ℕ) → 10 ≤ b → b + 3 ≤ up2_of b
slanted_more b h = elim (cases_lt (up2_of b) (b + 3)) [
  | inr l ↦ l
  | inl l ↦ absurd (small (b - 10) b (up2_of b) (omega arith) (omega arith) (up2_reaches b))
]
  where
    fewer : (t : ℕ) → 2 * ((t + 10) * (t + 10)) ≤ ((t + 10) + 2) * ((t + 10) + 2) → ⊥
    fewer t l = omega arith

    small : (t b u : ℕ) → b ≡ t + 10 → u ≤ b + 2 → 2 * (b * b) ≤ u * u → ⊥
    small t b u e l r =
        let s : u * u ≤ (b + 2) * (b + 2) = square_le u (b + 2) l in
        let m : 2 * (b * b) ≤ (b + 2) * (b + 2) = omega (arith, s, r) in
        let P : ℕ → Type 0 = λ v. 2 * (v * v) ≤ (v + 2) * (v + 2) in
        fewer t (subst P e m)

slanted_less : (b : ℕ) → 10 ≤ b → up2_of b + 3 ≤ 2 * b
slanted_less b h = less (b - 10) b (omega arith)
  where
    wide : (t m : ℕ) → m ≡ 2 * t + 17 → 2 * ((t + 10) * (t + 10)) ≤ m * m
    wide t m e = rw e (omega arith)

    less : (t b : ℕ) → b ≡ t + 10 → up2_of b + 3 ≤ 2 * b
    less t b e = let l = up2_least b (2 * b - 3) (rw e (wide t (2 * (t + 10) - 3) (omega arith))) in omega arith

-- ---- p rounded down and up along x, y, x + y and x - y
record IsRounded (k : ℕ) (x y : ℤ) (f c : ℤ) (g e : ℤ) (s t : ℤ) (d u : ℤ) : Type 0 where
  xf : IsFloor k x f
  xc : IsCeiling k x c
  yf : IsFloor k y g
  yc : IsCeiling k y e
  sf : IsFloor k (x +ℤ y) s
  sc : IsCeiling k (x +ℤ y) t
  df : IsFloor k (x -ℤ y) d
  dc : IsCeiling k (x -ℤ y) u

-- how the eight numbers lie to each other
record IsLying (f c g e s t d u : ℤ) : Type 0 where
  x0 : f ≤ℤ c
  x1 : c ≤ℤ (f +ℤ pos 1)
  y0 : g ≤ℤ e
  y1 : e ≤ℤ (g +ℤ pos 1)
  s0 : (f +ℤ g) ≤ℤ s
  s1 : s ≤ℤ t
  s2 : t ≤ℤ (c +ℤ e)
  d0 : (f -ℤ e) ≤ℤ d
  d1 : d ≤ℤ u
  d2 : u ≤ℤ (c -ℤ g)

less_one : (k : ℕ) (a b : ℤ) → (pos k *ℤ a) <ℤ (pos k *ℤ b +ℤ pos k) → a ≤ℤ b
less_one k a b h =
    let one : pos k *ℤ pos 1 ≡ pos k = omega (arith, ints) in
    let l = mul_lt_back k a (b +ℤ pos 1) (omega (arith, ints, mul_add k b (pos 1), one, h)) in
    omega (arith, ints, l)

less_two : (k : ℕ) (a b : ℤ) → (pos k *ℤ a) <ℤ (pos k *ℤ b +ℤ (pos k +ℤ pos k)) → a ≤ℤ (b +ℤ pos 1)
less_two k a b h =
    let one : pos k *ℤ pos 1 ≡ pos k = omega (arith, ints) in
    less_one k a (b +ℤ pos 1) (omega (arith, ints, mul_add k b (pos 1), one, h))

lying : (k : ℕ) (x y f c g e s t d u : ℤ) → 1 ≤ k → IsRounded k x y f c g e s t d u → IsLying f c g e s t d u
lying k x y f c g e s t d u one r = record {
  x0 = less_one k f c (omega (arith, ints, r.xf, r.xc));
  x1 = less_two k c f (omega (arith, ints, r.xf, r.xc));
  y0 = less_one k g e (omega (arith, ints, r.yf, r.yc));
  y1 = less_two k e g (omega (arith, ints, r.yf, r.yc));
  s0 = less_one k (f +ℤ g) s (omega (arith, ints, mul_add k f g, r.xf, r.yf, r.sf));
  s1 = less_one k s t (omega (arith, ints, r.sf, r.sc));
  s2 = less_one k t (c +ℤ e) (omega (arith, ints, mul_add k c e, r.xc, r.yc, r.sc));
  d0 = less_one k (f -ℤ e) d (omega (arith, ints, mul_sub k f e, r.xf, r.yc, r.df));
  d1 = less_one k d u (omega (arith, ints, r.df, r.dc));
  d2 = less_one k u (c -ℤ g) (omega (arith, ints, mul_sub k c g, r.xc, r.yf, r.dc));
}

-- the grid points whose brush has p
abbrev reach : ℤ → ℤ → ℤ → ℤ → ℤ → ℤ → ℤ → ℤ → ℤ → ℤ → Bounds
reach b w f c g e s t d u =
    record { x0 = c -ℤ b; x1 = f +ℤ b; y0 = e -ℤ b; y1 = g +ℤ b; s0 = t -ℤ w; s1 = s +ℤ w; d0 = u -ℤ w; d1 = d +ℤ w }

reach-IsTight : (b w f c g e s t d u : ℤ) → (b +ℤ pos 3) ≤ℤ w → (w +ℤ pos 3) ≤ℤ (b +ℤ b) → IsLying f c g e s t d u → IsTight (reach b w f c g e s t d u)
reach-IsTight b w f c g e s t d u h l r = record {
  top_left = omega (arith, ints);
  top = omega (arith, ints);
  top_right = omega (arith, ints);
  right = omega (arith, ints);
  bottom_right = omega (arith, ints);
  bottom = omega (arith, ints);
  bottom_left = omega (arith, ints);
  left = omega (arith, ints);
}

reach-IsStout : (b w f c g e s t d u : ℤ) → pos 10 ≤ℤ b → (b +ℤ pos 3) ≤ℤ w → (w +ℤ pos 3) ≤ℤ (b +ℤ b) → IsLying f c g e s t d u → IsStout (reach b w f c g e s t d u)
reach-IsStout b w f c g e s t d u one h l r = record {
  s = omega (arith, ints);
  d = omega (arith, ints);
  left = omega (arith, ints);
  right = omega (arith, ints);
  top = omega (arith, ints);
  bottom = omega (arith, ints);
}

-- p is in q plus the brush: what lies below and above
low_over : (k : ℕ) (a b x f : ℤ) → IsFloor k x f → (pos k *ℤ (a -ℤ b)) ≤ℤ x → a ≤ℤ (f +ℤ b)
low_over k a b x f r h = let l = less_one k (a -ℤ b) f (omega (arith, ints)) in omega (arith, ints)

high_over : (k : ℕ) (a b x c : ℤ) → IsCeiling k x c → x ≤ℤ (pos k *ℤ (a +ℤ b)) → (c -ℤ b) ≤ℤ a
high_over k a b x c r h = let l = less_one k c (a +ℤ b) (omega (arith, ints)) in omega (arith, ints)

overlap : (k : ℕ) (q : Bounds) (b w x y f c g e s t d u : ℤ) → IsRounded k x y f c g e s t d u
    → Within (times k (sum_of q (record { x0 = neg_ℤ b; x1 = b; y0 = neg_ℤ b; y1 = b; s0 = neg_ℤ w; s1 = w; d0 = neg_ℤ w; d1 = w }))) x y
    → IsOverlapping q (reach b w f c g e s t d u)
overlap k q b w x y f c g e s t d u r h = record {
  x_low = low_over k q.x0 b x f r.xf h.x_low;
  x_high = high_over k q.x1 b x c r.xc h.x_high;
  y_low = low_over k q.y0 b y g r.yf h.y_low;
  y_high = high_over k q.y1 b y e r.yc h.y_high;
  s_low = low_over k q.s0 w (x +ℤ y) s r.sf h.s_low;
  s_high = high_over k q.s1 w (x +ℤ y) t r.sc h.s_high;
  d_low = low_over k q.d0 w (x -ℤ y) d r.df h.d_low;
  d_high = high_over k q.d1 w (x -ℤ y) u r.dc h.d_high;
}

abbrev pub brush_of : ℤ → ℤ → Bounds
brush_of b w = record { x0 = neg_ℤ b; x1 = b; y0 = neg_ℤ b; y1 = b; s0 = neg_ℤ w; s1 = w; d0 = neg_ℤ w; d1 = w }

-- a grid point within reach has p in its brush
ceiling_far : (k : ℕ) (b x c v : ℤ) → IsCeiling k x c → (c -ℤ b) ≤ℤ v → (x -ℤ pos k *ℤ v) ≤ℤ (pos k *ℤ b)
ceiling_far k b x c v r h = omega (arith, ints, mul_le k (c -ℤ b) v h, mul_sub k c b, r.low)

floor_far : (k : ℕ) (b x f v : ℤ) → IsFloor k x f → v ≤ℤ (f +ℤ b) → (pos k *ℤ neg_ℤ b) ≤ℤ (x -ℤ pos k *ℤ v)
floor_far k b x f v r h = omega (arith, ints, mul_le k v (f +ℤ b) h, mul_add k f b, mul_neg k b, r.low)

reached : (k : ℕ) (b w x y f c g e s t d u v z : ℤ) → IsRounded k x y f c g e s t d u → Within (reach b w f c g e s t d u) v z
    → Within (times k (brush_of b w)) (x -ℤ pos k *ℤ v) (y -ℤ pos k *ℤ z)
reached k b w x y f c g e s t d u v z r h = record {
  x_low = floor_far k b x f v r.xf h.x_high;
  x_high = ceiling_far k b x c v r.xc h.x_low;
  y_low = floor_far k b y g z r.yf h.y_high;
  y_high = ceiling_far k b y e z r.yc h.y_low;
  s_low = omega (arith, ints, mul_add k v z, floor_far k w (x +ℤ y) s (v +ℤ z) r.sf h.s_high);
  s_high = omega (arith, ints, mul_add k v z, ceiling_far k w (x +ℤ y) t (v +ℤ z) r.sc h.s_low);
  d_low = omega (arith, ints, mul_sub k v z, floor_far k w (x -ℤ y) d (v -ℤ z) r.df h.d_high);
  d_high = omega (arith, ints, mul_sub k v z, ceiling_far k w (x -ℤ y) u (v -ℤ z) r.dc h.d_low);
}

at_scale : (k : ℕ) (q : Bounds) (b w x y : ℤ) → 1 ≤ k → pos 10 ≤ℤ b → (b +ℤ pos 3) ≤ℤ w → (w +ℤ pos 3) ≤ℤ (b +ℤ b) → IsTight q
    → Within (times k (sum_of q (brush_of b w))) x y
    → (v : ℤ) × (z : ℤ) × Within q v z × Within (times k (brush_of b w)) (x -ℤ pos k *ℤ v) (y -ℤ pos k *ℤ z)
at_scale k q b w x y one ten h l t i =
    let f = floor k x one in
    let c = ceiling k x one in
    let g = floor k y one in
    let e = ceiling k y one in
    let s = floor k (x +ℤ y) one in
    let s' = ceiling k (x +ℤ y) one in
    let d = floor k (x -ℤ y) one in
    let d' = ceiling k (x -ℤ y) one in
    let r : IsRounded k x y f.0 c.0 g.0 e.0 s.0 s'.0 d.0 d'.0 = record { xf = f.1; xc = c.1; yf = g.1; yc = e.1; sf = s.1; sc = s'.1; df = d.1; dc = d'.1 } in
    let n = lying k x y f.0 c.0 g.0 e.0 s.0 s'.0 d.0 d'.0 one r in
    let a = common_grid_point q (reach b w f.0 c.0 g.0 e.0 s.0 s'.0 d.0 d'.0) t
    (reach-IsTight b w f.0 c.0 g.0 e.0 s.0 s'.0 d.0 d'.0 h l n)
    (reach-IsStout b w f.0 c.0 g.0 e.0 s.0 s'.0 d.0 d'.0 ten h l n)
    (overlap k q b w x y f.0 c.0 g.0 e.0 s.0 s'.0 d.0 d'.0 r i) in
    (a.0, a.1, a.2, reached k b w x y f.0 c.0 g.0 e.0 s.0 s'.0 d.0 d'.0 a.0 a.1 r a.3)

brush-IsTight : (b w : ℤ) → b ≤ℤ w → w ≤ℤ (b +ℤ b) → IsTight (brush_of b w)
brush-IsTight b w h l = record {
  top_left = omega (arith, ints);
  top = omega (arith, ints);
  top_right = omega (arith, ints);
  right = omega (arith, ints);
  bottom_right = omega (arith, ints);
  bottom = omega (arith, ints);
  bottom_left = omega (arith, ints);
  left = omega (arith, ints);
}

-- a brush at a grid point of q is in q plus the brush
back : (k : ℕ) (q : Bounds) (b w x y v z : ℤ) → Within q v z → Within (times k (moved (brush_of b w) v z)) x y
    → Within (times k (sum_of q (brush_of b w))) x y
back k q b w x y v z i h = record {
  x_low = omega (arith, ints, mul_le k q.x0 v i.x_low, mul_add k q.x0 (neg_ℤ b), mul_add k (neg_ℤ b) v, h.x_low);
  x_high = omega (arith, ints, mul_le k v q.x1 i.x_high, mul_add k q.x1 b, mul_add k b v, h.x_high);
  y_low = omega (arith, ints, mul_le k q.y0 z i.y_low, mul_add k q.y0 (neg_ℤ b), mul_add k (neg_ℤ b) z, h.y_low);
  y_high = omega (arith, ints, mul_le k z q.y1 i.y_high, mul_add k q.y1 b, mul_add k b z, h.y_high);
  s_low = omega (arith, ints, mul_le k q.s0 (v +ℤ z) i.s_low, mul_add k q.s0 (neg_ℤ w), mul_add k (neg_ℤ w) (v +ℤ z), h.s_low);
  s_high = omega (arith, ints, mul_le k (v +ℤ z) q.s1 i.s_high, mul_add k q.s1 w, mul_add k w (v +ℤ z), h.s_high);
  d_low = omega (arith, ints, mul_le k q.d0 (v -ℤ z) i.d_low, mul_add k q.d0 (neg_ℤ w), mul_add k (neg_ℤ w) (v -ℤ z), h.d_low);
  d_high = omega (arith, ints, mul_le k (v -ℤ z) q.d1 i.d_high, mul_add k q.d1 w, mul_add k w (v -ℤ z), h.d_high);
}

-- the point moved back is in the brush: so it is in the brush that is moved there
there : (k : ℕ) (b w x y v z : ℤ) → Within (times k (brush_of b w)) (x -ℤ pos k *ℤ v) (y -ℤ pos k *ℤ z)
    → Within (times k (moved (brush_of b w) v z)) x y
there k b w x y v z h = record {
  x_low = omega (arith, ints, mul_add k (neg_ℤ b) v, h.x_low);
  x_high = omega (arith, ints, mul_add k b v, h.x_high);
  y_low = omega (arith, ints, mul_add k (neg_ℤ b) z, h.y_low);
  y_high = omega (arith, ints, mul_add k b z, h.y_high);
  s_low = omega (arith, ints, mul_add k (neg_ℤ w) (v +ℤ z), mul_add k v z, h.s_low);
  s_high = omega (arith, ints, mul_add k w (v +ℤ z), mul_add k v z, h.s_high);
  d_low = omega (arith, ints, mul_add k (neg_ℤ w) (v -ℤ z), mul_sub k v z, h.d_low);
  d_high = omega (arith, ints, mul_add k w (v -ℤ z), mul_sub k v z, h.d_high);
}

pub brush_law : BrushLaw
unfolding ball_of IsBrushed
brush_law b q p ten t =
    let w = pos (up2_of b) in
    let more = slanted_more b ten in
    let less = slanted_less b ten in
    let u = brush-IsTight (pos b) w (omega (arith, ints)) (omega (arith, ints)) in (
      λ i. let a = at_scale p.scale q (pos b) w p.x p.y p.positive (omega (arith, ints)) (omega (arith, ints)) (omega (arith, ints)) t (IsInSum-In q (ball_of b) p i) in
          (a.0, a.1, a.2, there p.scale (pos b) w p.x p.y a.0 a.1 a.3),
      λ i. In-IsInSum q (ball_of b) p t u (back p.scale q (pos b) w p.x p.y i.0 i.1 i.2 i.3),
    )
