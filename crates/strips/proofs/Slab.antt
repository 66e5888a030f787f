-- One slab: lines by their two ends, the run of an octagon, and two runs joined.
use Rattle.std.proofs.Common.{◌≡◌, refl, ◌∙◌, ap, ℕ, ◌⊎◌, ◌≤◌, inl, inr, arith}
use Rattle.std.specs.Prelude.{ℤ, pos, ◌+ℤ◌, ◌-ℤ◌, ◌*ℤ◌, ◌≤ℤ◌, ◌<ℤ◌, ◌↔◌}
use Rattle.std.proofs.lemmas.Int.{ints, by_lt_z}
use Rattle.plane.specs.Plane.{PlanePoint, Bounds, Within, times, In, IsTight}
use Rattle.grid_num.proofs.Products.{mul_le, mul_add, mul_sub, mul_lt}
use Rattle.plane.proofs.Times.{IsTight-times}
use Rattle.plane.proofs.Counts.{level_run, rise_run, fall_run, scale_less}
use Rattle.strips.specs.declared.Strip.{Strip}
use Rattle.strips.specs.Strips.{IsInStrip, IsSloped}

-- the sides of a strip, though they may lie on each other
pub record IsRun (s : Strip) : Type 0 where
  pub left : IsSloped s.top s.bottom s.left s.left_end
  pub right : IsSloped s.top s.bottom s.right s.right_end
  pub start : s.left ≤ℤ s.right
  pub finish : s.left_end ≤ℤ s.right_end

-- the side from l to le is at v in the row y
abbrev pub IsAt : ℤ → ℤ → ℤ → ℤ → ℤ → ℤ → Type 0
IsAt t u l le y v =
    ((le ≡ l) × (v ≡ l)) ⊎ (((le -ℤ l ≡ u -ℤ t) × (v ≡ l +ℤ (y -ℤ t))) ⊎ ((le -ℤ l ≡ t -ℤ u) × (v ≡ l -ℤ (y -ℤ t))))

pub line_at : (t u l le y : ℤ) → IsSloped t u l le → (v : ℤ) × IsAt t u l le y v
line_at t u l le y (inl e) = (l, inl (e, refl))
line_at t u l le y (inr (inl e)) = (l +ℤ (y -ℤ t), inr (inl (e, refl)))
line_at t u l le y (inr (inr e)) = (l -ℤ (y -ℤ t), inr (inr (e, refl)))

-- lines in order at both ends are in order between
pub line_le : (t u y l le v m me w : ℤ) → t ≤ℤ y → y ≤ℤ u → IsAt t u l le y v → IsAt t u m me y w → l ≤ℤ m → le ≤ℤ me → v ≤ℤ w
line_le t u y l le v m me w h1 h2 a b g1 g2 = omega (arith, ints)

pub sloped_times : (k : ℕ) (t u l le : ℤ) → IsSloped t u l le → IsSloped (pos k *ℤ t) (pos k *ℤ u) (pos k *ℤ l) (pos k *ℤ le)
sloped_times k t u l le (inl e) = inl (ap (λ (z : ℤ). pos k *ℤ z) e)
sloped_times k t u l le (inr (inl e)) = inr (inl (let h = ap (λ (z : ℤ). pos k *ℤ z) e in omega (arith, ints, mul_sub k le l, mul_sub k u t)))
sloped_times k t u l le (inr (inr e)) = inr (inr (let h = ap (λ (z : ℤ). pos k *ℤ z) e in omega (arith, ints, mul_sub k le l, mul_sub k t u)))

-- ---- a strip by its two lines
most_scale : (d c e : ℤ) → pos 0 <ℤ d → c ≤ℤ e → (d *ℤ c) ≤ℤ (d *ℤ e)
most_scale d c e h l =
    by_lt_z {P = (d *ℤ c) ≤ℤ (d *ℤ e)} c e (λ s. let m = scale_less d c e h s in omega (arith, ints))
    (λ g. let s : c ≡ e = omega (arith, ints) in let t : d *ℤ c ≡ d *ℤ e = ap (λ (z : ℤ). d *ℤ z) s in omega (arith, ints))

most_back : (d c e : ℤ) → pos 0 <ℤ d → (d *ℤ c) ≤ℤ (d *ℤ e) → c ≤ℤ e
most_back d c e h l = by_lt_z {P = c ≤ℤ e} e c (λ s. absurd (let m = scale_less d e c h s in omega (arith, ints))) (λ s. s)

-- the run of a line over the height d, at r below its top, is d times m
run_is : (k : ℕ) (t u l le y v : ℤ) → IsSloped t u l le → IsAt (pos k *ℤ t) (pos k *ℤ u) (pos k *ℤ l) (pos k *ℤ le) y v → 1 ≤ k → t <ℤ u
    → (le -ℤ l) *ℤ (y -ℤ pos k *ℤ t) ≡ (u -ℤ t) *ℤ (v -ℤ pos k *ℤ l)
run_is k t u l le y v (inl e) a one d =
    level_run (le -ℤ l) (u -ℤ t) (y -ℤ pos k *ℤ t) (omega (arith, ints))
    ∙ ap (λ (z : ℤ). (u -ℤ t) *ℤ z) (let h = ap (λ (z : ℤ). pos k *ℤ z) e in let g = mul_lt k t u one d in omega (arith, ints))
run_is k t u l le y v (inr (inl e)) a one d =
    rise_run (le -ℤ l) (u -ℤ t) (y -ℤ pos k *ℤ t) e
    ∙ ap (λ (z : ℤ). (u -ℤ t) *ℤ z) (let h = ap (λ (z : ℤ). pos k *ℤ z) e in let g = mul_lt k t u one d in omega (arith, ints, mul_sub k le l, mul_sub k u t))
run_is k t u l le y v (inr (inr e)) a one d =
    fall_run (le -ℤ l) (u -ℤ t) (y -ℤ pos k *ℤ t) (omega (arith, ints))
    ∙ ap (λ (z : ℤ). (u -ℤ t) *ℤ z) (let h = ap (λ (z : ℤ). pos k *ℤ z) e in let g = mul_lt k t u one d in omega (arith, ints, mul_sub k le l, mul_sub k t u))

-- p is in the strip where it is between the rows, and between the lines in its row
pub record IsBetween (s : Strip) (p : PlanePoint) (v w : ℤ) : Type 0 where
  pub top : (pos p.scale *ℤ s.top) ≤ℤ p.y
  pub bottom : p.y ≤ℤ (pos p.scale *ℤ s.bottom)
  pub left : v ≤ℤ p.x
  pub right : p.x ≤ℤ w

abbrev pub IsLeftAt : Strip → PlanePoint → ℤ → Type 0
IsLeftAt s p v = IsAt (pos p.scale *ℤ s.top) (pos p.scale *ℤ s.bottom) (pos p.scale *ℤ s.left) (pos p.scale *ℤ s.left_end) p.y v

abbrev pub IsRightAt : Strip → PlanePoint → ℤ → Type 0
IsRightAt s p v = IsAt (pos p.scale *ℤ s.top) (pos p.scale *ℤ s.bottom) (pos p.scale *ℤ s.right) (pos p.scale *ℤ s.right_end) p.y v

pub strip_between : (s : Strip) (p : PlanePoint) (v w : ℤ) → s.top <ℤ s.bottom → IsRun s → IsLeftAt s p v → IsRightAt s p w → IsInStrip s p → IsBetween s p v w
strip_between s p v w d r a b i =
    let e = run_is p.scale s.top s.bottom s.left s.left_end p.y v r.left a p.positive d in
    let f = run_is p.scale s.top s.bottom s.right s.right_end p.y w r.right b p.positive d in
    let g = most_back (s.bottom -ℤ s.top) (v -ℤ pos p.scale *ℤ s.left) (p.x -ℤ pos p.scale *ℤ s.left) (omega (arith, ints)) (rw (← e) i.left) in
    let h = most_back (s.bottom -ℤ s.top) (p.x -ℤ pos p.scale *ℤ s.right) (w -ℤ pos p.scale *ℤ s.right) (omega (arith, ints)) (rw (← f) i.right) in
    record { top = i.top; bottom = i.bottom; left = omega (arith, ints, g); right = omega (arith, ints, h) }

pub between_strip : (s : Strip) (p : PlanePoint) (v w : ℤ) → s.top <ℤ s.bottom → IsRun s → IsLeftAt s p v → IsRightAt s p w → IsBetween s p v w → IsInStrip s p
between_strip s p v w d r a b i =
    let e = run_is p.scale s.top s.bottom s.left s.left_end p.y v r.left a p.positive d in
    let f = run_is p.scale s.top s.bottom s.right s.right_end p.y w r.right b p.positive d in
    record {
      top = i.top;
      bottom = i.bottom;
      left = rw e (most_scale (s.bottom -ℤ s.top) (v -ℤ pos p.scale *ℤ s.left) (p.x -ℤ pos p.scale *ℤ s.left) (omega (arith, ints)) (let h = i.left in omega (arith, ints)));
      right = rw f (most_scale (s.bottom -ℤ s.top) (p.x -ℤ pos p.scale *ℤ s.right) (w -ℤ pos p.scale *ℤ s.right) (omega (arith, ints)) (let h = i.right in omega (arith, ints)));
    }

-- ---- the run of an octagon
pub record IsMost (a b c m : ℤ) : Type 0 where
  pub first : a ≤ℤ m
  pub second : b ≤ℤ m
  pub third : c ≤ℤ m
  pub is : (m ≡ a) ⊎ ((m ≡ b) ⊎ (m ≡ c))

pub record IsFewest (a b c m : ℤ) : Type 0 where
  pub first : m ≤ℤ a
  pub second : m ≤ℤ b
  pub third : m ≤ℤ c
  pub is : (m ≡ a) ⊎ ((m ≡ b) ⊎ (m ≡ c))

-- no corner of b is strictly between the rows, and b reaches across
pub record IsAcross (b : Bounds) (t u : ℤ) : Type 0 where
  pub down : t <ℤ u
  pub top : b.y0 ≤ℤ t
  pub bottom : u ≤ℤ b.y1
  pub left_upper : ((b.s0 -ℤ b.x0) ≤ℤ t) ⊎ (u ≤ℤ (b.s0 -ℤ b.x0))
  pub left_lower : ((b.x0 -ℤ b.d0) ≤ℤ t) ⊎ (u ≤ℤ (b.x0 -ℤ b.d0))
  pub right_upper : ((b.x1 -ℤ b.d1) ≤ℤ t) ⊎ (u ≤ℤ (b.x1 -ℤ b.d1))
  pub right_lower : ((b.s1 -ℤ b.x1) ≤ℤ t) ⊎ (u ≤ℤ (b.s1 -ℤ b.x1))

-- s is what b has between the rows
pub record IsRunOf (b : Bounds) (s : Strip) : Type 0 where
  pub left : IsMost b.x0 (b.s0 -ℤ s.top) (b.d0 +ℤ s.top) s.left
  pub left_end : IsMost b.x0 (b.s0 -ℤ s.bottom) (b.d0 +ℤ s.bottom) s.left_end
  pub right : IsFewest b.x1 (b.s1 -ℤ s.top) (b.d1 +ℤ s.top) s.right
  pub right_end : IsFewest b.x1 (b.s1 -ℤ s.bottom) (b.d1 +ℤ s.bottom) s.right_end

pub left_sloped : (b : Bounds) (s : Strip) → IsTight b → IsAcross b s.top s.bottom → IsRunOf b s → IsSloped s.top s.bottom s.left s.left_end
left_sloped b s g a r =
    let m = r.left in
    let n = r.left_end in
    elim (a.left_upper) [
      | inr h ↦ inr (inr (omega (arith, ints)))
      | inl h0 ↦ elim (a.left_lower) [ inl h ↦ inr (inl (omega (arith, ints))) | inr h ↦ inl (omega (arith, ints)) ]
    ]

pub right_sloped : (b : Bounds) (s : Strip) → IsTight b → IsAcross b s.top s.bottom → IsRunOf b s → IsSloped s.top s.bottom s.right s.right_end
right_sloped b s g a r =
    let m = r.right in
    let n = r.right_end in
    elim (a.right_upper) [
      | inr h ↦ inr (inl (omega (arith, ints)))
      | inl h0 ↦ elim (a.right_lower) [ inl h ↦ inr (inr (omega (arith, ints))) | inr h ↦ inl (omega (arith, ints)) ]
    ]

pub run_IsRun : (b : Bounds) (s : Strip) → IsTight b → IsAcross b s.top s.bottom → IsRunOf b s → IsRun s
run_IsRun b s g a r =
    record {
      left = left_sloped b s g a r;
      right = right_sloped b s g a r;
      start = let m = r.left.is in let n = r.right.is in omega (arith, ints);
      finish = let m = r.left_end.is in let n = r.right_end.is in omega (arith, ints);
    }

-- the left line in a row between is the greatest of the three left bounds there
pub left_law : (x0 s0 d0 t u l le y v : ℤ) → t <ℤ u → t ≤ℤ y → y ≤ℤ u → (s0 +ℤ d0) ≤ℤ (x0 +ℤ x0)
    → (((s0 -ℤ x0) ≤ℤ t) ⊎ (u ≤ℤ (s0 -ℤ x0))) → (((x0 -ℤ d0) ≤ℤ t) ⊎ (u ≤ℤ (x0 -ℤ d0)))
    → IsMost x0 (s0 -ℤ t) (d0 +ℤ t) l → IsMost x0 (s0 -ℤ u) (d0 +ℤ u) le → IsAt t u l le y v → IsMost x0 (s0 -ℤ y) (d0 +ℤ y) v
left_law x0 s0 d0 t u l le y v d h1 h2 g (inr a) b m n at = record { first = omega (arith, ints); second = omega (arith, ints); third = omega (arith, ints); is = inr (inl (omega (arith, ints))) }
left_law x0 s0 d0 t u l le y v d h1 h2 g (inl a) (inl b) m n at = record { first = omega (arith, ints); second = omega (arith, ints); third = omega (arith, ints); is = inr (inr (omega (arith, ints))) }
left_law x0 s0 d0 t u l le y v d h1 h2 g (inl a) (inr b) m n at = record { first = omega (arith, ints); second = omega (arith, ints); third = omega (arith, ints); is = inl (omega (arith, ints)) }

pub right_law : (x1 s1 d1 t u l le y v : ℤ) → t <ℤ u → t ≤ℤ y → y ≤ℤ u → (x1 +ℤ x1) ≤ℤ (s1 +ℤ d1)
    → (((x1 -ℤ d1) ≤ℤ t) ⊎ (u ≤ℤ (x1 -ℤ d1))) → (((s1 -ℤ x1) ≤ℤ t) ⊎ (u ≤ℤ (s1 -ℤ x1)))
    → IsFewest x1 (s1 -ℤ t) (d1 +ℤ t) l → IsFewest x1 (s1 -ℤ u) (d1 +ℤ u) le → IsAt t u l le y v → IsFewest x1 (s1 -ℤ y) (d1 +ℤ y) v
right_law x1 s1 d1 t u l le y v d h1 h2 g (inr a) b m n at = record { first = omega (arith, ints); second = omega (arith, ints); third = omega (arith, ints); is = inr (inr (omega (arith, ints))) }
right_law x1 s1 d1 t u l le y v d h1 h2 g (inl a) (inl b) m n at = record { first = omega (arith, ints); second = omega (arith, ints); third = omega (arith, ints); is = inr (inl (omega (arith, ints))) }
right_law x1 s1 d1 t u l le y v d h1 h2 g (inl a) (inr b) m n at = record { first = omega (arith, ints); second = omega (arith, ints); third = omega (arith, ints); is = inl (omega (arith, ints)) }

scale_equal : (k : ℕ) (a b c : ℤ) → a ≡ b -ℤ c → pos k *ℤ a ≡ pos k *ℤ b -ℤ pos k *ℤ c
scale_equal k a b c e = ap (λ (z : ℤ). pos k *ℤ z) e ∙ mul_sub k b c

scale_equal_add : (k : ℕ) (a b c : ℤ) → a ≡ b +ℤ c → pos k *ℤ a ≡ pos k *ℤ b +ℤ pos k *ℤ c
scale_equal_add k a b c e = ap (λ (z : ℤ). pos k *ℤ z) e ∙ mul_add k b c

most_times : (k : ℕ) (x s d t m : ℤ) → IsMost x (s -ℤ t) (d +ℤ t) m → IsMost (pos k *ℤ x) (pos k *ℤ s -ℤ pos k *ℤ t) (pos k *ℤ d +ℤ pos k *ℤ t) (pos k *ℤ m)
most_times k x s d t m h =
    record {
      first = mul_le k x m h.first;
      second = omega (arith, ints, mul_le k (s -ℤ t) m h.second, mul_sub k s t);
      third = omega (arith, ints, mul_le k (d +ℤ t) m h.third, mul_add k d t);
      is = elim (h.is) [ inl e ↦ inl (ap (λ (z : ℤ). pos k *ℤ z) e) | inr e ↦ inr (elim e [ inl e ↦ inl (scale_equal k m s t e) | inr e ↦ inr (scale_equal_add k m d t e) ]) ];
    }

fewest_times : (k : ℕ) (x s d t m : ℤ) → IsFewest x (s -ℤ t) (d +ℤ t) m → IsFewest (pos k *ℤ x) (pos k *ℤ s -ℤ pos k *ℤ t) (pos k *ℤ d +ℤ pos k *ℤ t) (pos k *ℤ m)
fewest_times k x s d t m h =
    record {
      first = mul_le k m x h.first;
      second = omega (arith, ints, mul_le k m (s -ℤ t) h.second, mul_sub k s t);
      third = omega (arith, ints, mul_le k m (d +ℤ t) h.third, mul_add k d t);
      is = elim (h.is) [ inl e ↦ inl (ap (λ (z : ℤ). pos k *ℤ z) e) | inr e ↦ inr (elim e [ inl e ↦ inl (scale_equal k m s t e) | inr e ↦ inr (scale_equal_add k m d t e) ]) ];
    }

rows_times : (k : ℕ) (a b t u : ℤ) → (((a -ℤ b) ≤ℤ t) ⊎ (u ≤ℤ (a -ℤ b)))
    → ((((pos k *ℤ a) -ℤ (pos k *ℤ b)) ≤ℤ (pos k *ℤ t)) ⊎ ((pos k *ℤ u) ≤ℤ ((pos k *ℤ a) -ℤ (pos k *ℤ b))))
rows_times k a b t u (inl h) = inl (omega (arith, ints, mul_le k (a -ℤ b) t h, mul_sub k a b))
rows_times k a b t u (inr h) = inr (omega (arith, ints, mul_le k u (a -ℤ b) h, mul_sub k a b))

-- between the rows the run has exactly the points of the octagon
pub run_law : (b : Bounds) (s : Strip) (p : PlanePoint) → IsTight b → IsAcross b s.top s.bottom → IsRunOf b s
    → (pos p.scale *ℤ s.top) ≤ℤ p.y → p.y ≤ℤ (pos p.scale *ℤ s.bottom) → IsInStrip s p ↔ In b p
run_law b s p g a r h1 h2 =
    let k = p.scale in
    let run = run_IsRun b s g a r in
    let v = line_at (pos k *ℤ s.top) (pos k *ℤ s.bottom) (pos k *ℤ s.left) (pos k *ℤ s.left_end) p.y (sloped_times k s.top s.bottom s.left s.left_end run.left) in
    let w = line_at (pos k *ℤ s.top) (pos k *ℤ s.bottom) (pos k *ℤ s.right) (pos k *ℤ s.right_end) p.y (sloped_times k s.top s.bottom s.right s.right_end run.right) in
    let tight = IsTight-times k b g in
    let d = mul_lt k s.top s.bottom p.positive a.down in
    let m = left_law (pos k *ℤ b.x0) (pos k *ℤ b.s0) (pos k *ℤ b.d0) (pos k *ℤ s.top) (pos k *ℤ s.bottom) (pos k *ℤ s.left) (pos k *ℤ s.left_end) p.y v.0 d h1 h2 tight.left
    (rows_times k b.s0 b.x0 s.top s.bottom a.left_upper) (rows_times k b.x0 b.d0 s.top s.bottom a.left_lower)
    (most_times k b.x0 b.s0 b.d0 s.top s.left r.left) (most_times k b.x0 b.s0 b.d0 s.bottom s.left_end r.left_end) v.1 in
    let n = right_law (pos k *ℤ b.x1) (pos k *ℤ b.s1) (pos k *ℤ b.d1) (pos k *ℤ s.top) (pos k *ℤ s.bottom) (pos k *ℤ s.right) (pos k *ℤ s.right_end) p.y w.0 d h1 h2 tight.right
    (rows_times k b.x1 b.d1 s.top s.bottom a.right_upper) (rows_times k b.s1 b.x1 s.top s.bottom a.right_lower)
    (fewest_times k b.x1 b.s1 b.d1 s.top s.right r.right) (fewest_times k b.x1 b.s1 b.d1 s.bottom s.right_end r.right_end) w.1 in (
      λ i. (let z = strip_between s p v.0 w.0 a.down run v.1 w.1 i in finish (times k b) p.x p.y v.0 w.0 m n (omega (arith, ints, mul_le k b.y0 s.top a.top)) (omega (arith, ints, mul_le k s.bottom b.y1 a.bottom)) z.left z.right),
      λ i. between_strip s p v.0 w.0 a.down run v.1 w.1 (let z = begin (times k b) p.x p.y v.0 w.0 m n i in record { top = h1; bottom = h2; left = z.0; right = z.1 }),
    )
  where
    finish : (c : Bounds) (x y v w : ℤ) → IsMost c.x0 (c.s0 -ℤ y) (c.d0 +ℤ y) v → IsFewest c.x1 (c.s1 -ℤ y) (c.d1 +ℤ y) w → c.y0 ≤ℤ y → y ≤ℤ c.y1 → v ≤ℤ x → x ≤ℤ w → Within c x y
    finish c x y v w m n h1 h2 h3 h4 = omega (arith, ints)

    begin : (c : Bounds) (x y v w : ℤ) → IsMost c.x0 (c.s0 -ℤ y) (c.d0 +ℤ y) v → IsFewest c.x1 (c.s1 -ℤ y) (c.d1 +ℤ y) w → Within c x y → (v ≤ℤ x) × (x ≤ℤ w)
    begin c x y v w m n i = omega (arith, ints)

-- ---- two runs of one slab
abbrev pub strip : ℤ → ℤ → ℤ → ℤ → ℤ → ℤ → Strip
strip t u l le r re = record { top = t; bottom = u; left = l; left_end = le; right = r; right_end = re }

-- the lines of a are nowhere right of those of b
pub record IsNotRight (l le m me : ℤ) : Type 0 where
  pub start : l ≤ℤ m
  pub finish : le ≤ℤ me

joined_plain : (t u al ale ar are bl ble br bre : ℤ) (p : PlanePoint) (v w m n : ℤ) → t <ℤ u
    → (pos p.scale *ℤ t) ≤ℤ p.y → p.y ≤ℤ (pos p.scale *ℤ u)
    → IsNotRight al ale bl ble → IsNotRight bl ble ar are
    → IsLeftAt (strip t u al ale ar are) p v → IsRightAt (strip t u al ale ar are) p w
    → IsLeftAt (strip t u bl ble br bre) p m → IsRightAt (strip t u bl ble br bre) p n
    → (v ≤ℤ m) × (m ≤ℤ w) × (IsNotRight br bre ar are → n ≤ℤ w) × (IsNotRight ar are br bre → w ≤ℤ n)
joined_plain t u al ale ar are bl ble br bre p v w m n d h1 h2 f g a1 a2 b1 b2 =
    let k = p.scale in (
      line_le (pos k *ℤ t) (pos k *ℤ u) p.y (pos k *ℤ al) (pos k *ℤ ale) v (pos k *ℤ bl) (pos k *ℤ ble) m h1 h2 a1 b1 (mul_le k al bl f.start) (mul_le k ale ble f.finish),
      line_le (pos k *ℤ t) (pos k *ℤ u) p.y (pos k *ℤ bl) (pos k *ℤ ble) m (pos k *ℤ ar) (pos k *ℤ are) w h1 h2 b1 a2 (mul_le k bl ar g.start) (mul_le k ble are g.finish),
      λ e. line_le (pos k *ℤ t) (pos k *ℤ u) p.y (pos k *ℤ br) (pos k *ℤ bre) n (pos k *ℤ ar) (pos k *ℤ are) w h1 h2 b2 a2 (mul_le k br ar e.start) (mul_le k bre are e.finish),
      λ e. line_le (pos k *ℤ t) (pos k *ℤ u) p.y (pos k *ℤ ar) (pos k *ℤ are) w (pos k *ℤ br) (pos k *ℤ bre) n h1 h2 a2 b2 (mul_le k ar br e.start) (mul_le k are bre e.finish),
    )

abbrev pub Sides : Strip → PlanePoint → Type 0
Sides s p = (v : ℤ) × (w : ℤ) × IsLeftAt s p v × IsRightAt s p w

pub sides : (s : Strip) (p : PlanePoint) → IsRun s → Sides s p
sides s p r =
    let k = p.scale in
    let v = line_at (pos k *ℤ s.top) (pos k *ℤ s.bottom) (pos k *ℤ s.left) (pos k *ℤ s.left_end) p.y (sloped_times k s.top s.bottom s.left s.left_end r.left) in
    let w = line_at (pos k *ℤ s.top) (pos k *ℤ s.bottom) (pos k *ℤ s.right) (pos k *ℤ s.right_end) p.y (sloped_times k s.top s.bottom s.right s.right_end r.right) in
    (v.0, w.0, v.1, w.1)

-- a run that neither begins before a nor ends after it adds nothing
pub kept_law : (t u al ale ar are bl ble br bre : ℤ) (p : PlanePoint) → t <ℤ u
    → IsRun (strip t u al ale ar are) → IsRun (strip t u bl ble br bre)
    → IsNotRight al ale bl ble → IsNotRight bl ble ar are → IsNotRight br bre ar are
    → IsInStrip (strip t u bl ble br bre) p → IsInStrip (strip t u al ale ar are) p
kept_law t u al ale ar are bl ble br bre p d ra rb f g n i =
    let a = sides (strip t u al ale ar are) p ra in
    let b = sides (strip t u bl ble br bre) p rb in
    let z = strip_between (strip t u bl ble br bre) p b.0 b.1 d rb b.2 b.3 i in
    let h = joined_plain t u al ale ar are bl ble br bre p a.0 a.1 b.0 b.1 d z.top z.bottom f g a.2 a.3 b.2 b.3 in
    let h0 = h.0 in
    let h2 = h.2 n in
    let l = z.left in
    let r = z.right in
    between_strip (strip t u al ale ar are) p a.0 a.1 d ra a.2 a.3
    (record { top = z.top; bottom = z.bottom; left = omega (arith, ints, h0, l); right = omega (arith, ints, h2, r) })

-- .. and one that ends after it and does not begin after its end is joined to it
pub grown_run : (t u al ale ar are bl ble br bre : ℤ)
    → IsRun (strip t u al ale ar are) → IsRun (strip t u bl ble br bre) → IsNotRight al ale bl ble → IsRun (strip t u al ale br bre)
grown_run t u al ale ar are bl ble br bre ra rb f = record { left = ra.left; right = rb.right; start = omega (arith, ints); finish = omega (arith, ints) }

pub grown_law : (t u al ale ar are bl ble br bre : ℤ) (p : PlanePoint) → t <ℤ u
    → IsRun (strip t u al ale ar are) → IsRun (strip t u bl ble br bre)
    → IsNotRight al ale bl ble → IsNotRight bl ble ar are → IsNotRight ar are br bre
    → IsInStrip (strip t u al ale br bre) p ↔ (IsInStrip (strip t u al ale ar are) p ⊎ IsInStrip (strip t u bl ble br bre) p)
grown_law t u al ale ar are bl ble br bre p d ra rb f g n = (to, from)
  where
    rc : IsRun (strip t u al ale br bre)
    rc = grown_run t u al ale ar are bl ble br bre ra rb f

    a : Sides (strip t u al ale ar are) p
    a = sides (strip t u al ale ar are) p ra

    b : Sides (strip t u bl ble br bre) p
    b = sides (strip t u bl ble br bre) p rb

    to : IsInStrip (strip t u al ale br bre) p → IsInStrip (strip t u al ale ar are) p ⊎ IsInStrip (strip t u bl ble br bre) p
    to i =
        let z = strip_between (strip t u al ale br bre) p a.0 b.1 d rc a.2 b.3 i in
        let h = joined_plain t u al ale ar are bl ble br bre p a.0 a.1 b.0 b.1 d z.top z.bottom f g a.2 a.3 b.2 b.3 in
        let h1 = h.1 in
        by_lt_z {P = IsInStrip (strip t u al ale ar are) p ⊎ IsInStrip (strip t u bl ble br bre) p} a.1 p.x
        (λ l. inr (between_strip (strip t u bl ble br bre) p b.0 b.1 d rb b.2 b.3 (record { top = z.top; bottom = z.bottom; left = omega (arith, ints, h1, l); right = z.right })))
        (λ l. inl (between_strip (strip t u al ale ar are) p a.0 a.1 d ra a.2 a.3 (record { top = z.top; bottom = z.bottom; left = z.left; right = l })))

    from : IsInStrip (strip t u al ale ar are) p ⊎ IsInStrip (strip t u bl ble br bre) p → IsInStrip (strip t u al ale br bre) p
    from (inl i) =
        let z = strip_between (strip t u al ale ar are) p a.0 a.1 d ra a.2 a.3 i in
        let h = joined_plain t u al ale ar are bl ble br bre p a.0 a.1 b.0 b.1 d z.top z.bottom f g a.2 a.3 b.2 b.3 in
        let h3 = h.3 n in
        let r = z.right in
        between_strip (strip t u al ale br bre) p a.0 b.1 d rc a.2 b.3 (record { top = z.top; bottom = z.bottom; left = z.left; right = omega (arith, ints, h3, r) })
    from (inr i) =
        let z = strip_between (strip t u bl ble br bre) p b.0 b.1 d rb b.2 b.3 i in
        let h = joined_plain t u al ale ar are bl ble br bre p a.0 a.1 b.0 b.1 d z.top z.bottom f g a.2 a.3 b.2 b.3 in
        let h0 = h.0 in
        let l = z.left in
        between_strip (strip t u al ale br bre) p a.0 b.1 d rc a.2 b.3 (record { top = z.top; bottom = z.bottom; left = omega (arith, ints, h0, l); right = z.right })
