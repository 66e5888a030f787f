-- The two parts of a strip that is cut at a row.
use Rattle.std.proofs.Common.{◌≡◌, refl, sym, subst, ap, ◌∙◌, ℕ, ◌⊎◌, inl, inr, arith, List, [], ◌∷◌}
use Rattle.std.specs.Prelude.{ℤ, pos, ◌+ℤ◌, ◌-ℤ◌, ◌*ℤ◌, ◌<ℤ◌, ◌≤ℤ◌, Any}
use Rattle.std.proofs.lemmas.Int.{ints, by_lt_z}
use Rattle.plane.specs.Plane.{PlanePoint}
use Rattle.grid_num.proofs.Products.{mul_lt, mul_add, mul_sub}
use Rattle.plane.proofs.Counts.{less_true, less_false}
use Rattle.strips.specs.declared.Strip.{Strip}
use Rattle.strips.specs.Strips.{IsInStrip, IsSloped, IsTrapezoid}
use Rattle.strips.proofs.Slab.{IsAt, IsBetween, IsLeftAt, IsRightAt, strip_between, between_strip, sides}
use Rattle.rings.proofs.Lists.{Has, has_left, has_right, has_parts}
use Rattle.rings.proofs.Slits.{has_any, any_has}
use Rattle.rings.proofs.Sides.{AreOrdered}
use Rattle.rings.proofs.Rows.{run_of}
use Rattle.same_points.specs.Cuts.{side_at, upper_part, lower_part, upper, lower, above, below, cut}
use Rattle.same_points.specs.Laws.{HaveSamePoints}
use Rattle.same_points.proofs.Sides.{side_is}

-- ---- a side and its two parts
pub slope_first : (t u l le r x : ℤ) → IsAt t u l le r x → IsSloped t r l x
slope_first t u l le r x (inl a) = inl a.1
slope_first t u l le r x (inr (inl a)) = inr (inl (let b = a.1 in omega (arith, ints, b)))
slope_first t u l le r x (inr (inr a)) = inr (inr (let b = a.1 in omega (arith, ints, b)))

pub slope_second : (t u l le r x : ℤ) → IsAt t u l le r x → IsSloped r u x le
slope_second t u l le r x (inl a) = inl (a.0 ∙ sym a.1)
slope_second t u l le r x (inr (inl a)) = inr (inl (let b = a.1 in let c = a.0 in omega (arith, ints, b, c)))
slope_second t u l le r x (inr (inr a)) = inr (inr (let b = a.1 in let c = a.0 in omega (arith, ints, b, c)))

-- a line that is at x in the row r and at v in the row y
at_first : (t u l le r x y v : ℤ) → t <ℤ u → IsAt t u l le r x → IsAt t u l le y v → IsAt t r l x y v
at_first t u l le r x y v d (inl a) b = let c = a.0 in let e = a.1 in inl (e, omega (arith, ints, c, d, b))
at_first t u l le r x y v d (inr (inl a)) b = let c = a.0 in let e = a.1 in inr (inl (omega (arith, ints, e), omega (arith, ints, c, d, b)))
at_first t u l le r x y v d (inr (inr a)) b = let c = a.0 in let e = a.1 in inr (inr (omega (arith, ints, e), omega (arith, ints, c, d, b)))

at_second : (t u l le r x y v : ℤ) → t <ℤ u → IsAt t u l le r x → IsAt t u l le y v → IsAt r u x le y v
at_second t u l le r x y v d (inl a) b = let c = a.0 in let e = a.1 in inl (c ∙ sym e, omega (arith, ints, c, d, e, b))
at_second t u l le r x y v d (inr (inl a)) b = let c = a.0 in let e = a.1 in inr (inl (omega (arith, ints, c, e), omega (arith, ints, c, d, e, b)))
at_second t u l le r x y v d (inr (inr a)) b = let c = a.0 in let e = a.1 in inr (inr (omega (arith, ints, c, e), omega (arith, ints, c, d, e, b)))

at_times : (k : ℕ) (t u l le r x : ℤ) → IsAt t u l le r x → IsAt (pos k *ℤ t) (pos k *ℤ u) (pos k *ℤ l) (pos k *ℤ le) (pos k *ℤ r) (pos k *ℤ x)
at_times k t u l le r x (inl a) = inl (ap (λ (z : ℤ). pos k *ℤ z) a.0, ap (λ (z : ℤ). pos k *ℤ z) a.1)
at_times k t u l le r x (inr (inl a)) =
    let b = ap (λ (z : ℤ). pos k *ℤ z) a.0 in
    let c = ap (λ (z : ℤ). pos k *ℤ z) a.1 in
    inr (inl (omega (arith, ints, b, mul_sub k le l, mul_sub k u t), omega (arith, ints, c, mul_add k l (r -ℤ t), mul_sub k r t)))
at_times k t u l le r x (inr (inr a)) =
    let b = ap (λ (z : ℤ). pos k *ℤ z) a.0 in
    let c = ap (λ (z : ℤ). pos k *ℤ z) a.1 in
    inr (inr (omega (arith, ints, b, mul_sub k le l, mul_sub k t u), omega (arith, ints, c, mul_sub k l (r -ℤ t), mul_sub k r t)))

-- lines that are in order at both ends, and apart at one of them, are apart strictly between
pub line_less : (t u y l le v m me w : ℤ) → t <ℤ y → y <ℤ u → IsAt t u l le y v → IsAt t u m me y w → l ≤ℤ m → le ≤ℤ me → (l +ℤ le) <ℤ (m +ℤ me) → v <ℤ w
line_less t u y l le v m me w h1 h2 a b g1 g2 g3 = omega (arith, ints)

-- ---- a strip that is crossed by the row
pub record IsCrossing (r : ℤ) (s : Strip) : Type 0 where
  pub over : s.top <ℤ r
  pub under : r <ℤ s.bottom

abbrev pub left_in : ℤ → Strip → ℤ
left_in r s = side_at s.top s.bottom s.left s.left_end r

abbrev pub right_in : ℤ → Strip → ℤ
right_in r s = side_at s.top s.bottom s.right s.right_end r

pub left_at : (r : ℤ) (s : Strip) → IsTrapezoid s → IsAt s.top s.bottom s.left s.left_end r (left_in r s)
left_at r s h = side_is s.top s.bottom s.left s.left_end r (inl h.down) h.left

pub right_at : (r : ℤ) (s : Strip) → IsTrapezoid s → IsAt s.top s.bottom s.right s.right_end r (right_in r s)
right_at r s h = side_is s.top s.bottom s.right s.right_end r (inl h.down) h.right

pub wide_in : (r : ℤ) (s : Strip) → IsTrapezoid s → IsCrossing r s → left_in r s <ℤ right_in r s
wide_in r s h c = line_less s.top s.bottom r s.left s.left_end (left_in r s) s.right s.right_end (right_in r s) c.over c.under (left_at r s h) (right_at r s h) h.start h.finish h.wide

pub upper_shape : (r : ℤ) (s : Strip) → IsTrapezoid s → IsCrossing r s → IsTrapezoid (upper_part r s)
upper_shape r s h c =
    let w = wide_in r s h c in
    let f = h.start in
    record {
      down = c.over;
      left = slope_first s.top s.bottom s.left s.left_end r (left_in r s) (left_at r s h);
      right = slope_first s.top s.bottom s.right s.right_end r (right_in r s) (right_at r s h);
      start = h.start;
      finish = weak (left_in r s) (right_in r s) w;
      wide = sum_less s.left (left_in r s) s.right (right_in r s) f w;
    }
  where
    weak : (a b : ℤ) → a <ℤ b → a ≤ℤ b
    weak a b l = omega (arith, ints, l)

    sum_less : (a b c d : ℤ) → a ≤ℤ c → b <ℤ d → (a +ℤ b) <ℤ (c +ℤ d)
    sum_less a b c d l m = omega (arith, ints, l, m)

pub lower_shape : (r : ℤ) (s : Strip) → IsTrapezoid s → IsCrossing r s → IsTrapezoid (lower_part r s)
lower_shape r s h c =
    let w = wide_in r s h c in
    let f = h.finish in
    record {
      down = c.under;
      left = slope_second s.top s.bottom s.left s.left_end r (left_in r s) (left_at r s h);
      right = slope_second s.top s.bottom s.right s.right_end r (right_in r s) (right_at r s h);
      start = weak (left_in r s) (right_in r s) w;
      finish = h.finish;
      wide = sum_less (left_in r s) s.left_end (right_in r s) s.right_end w f;
    }
  where
    weak : (a b : ℤ) → a <ℤ b → a ≤ℤ b
    weak a b l = omega (arith, ints, l)

    sum_less : (a b c d : ℤ) → a <ℤ c → b ≤ℤ d → (a +ℤ b) <ℤ (c +ℤ d)
    sum_less a b c d l m = omega (arith, ints, l, m)

-- ---- points
record AreLines (s : Strip) (p : PlanePoint) (v w : ℤ) : Type 0 where
  left : IsLeftAt s p v
  right : IsRightAt s p w

upper_lines : (r : ℤ) (s : Strip) (p : PlanePoint) (v w : ℤ) → IsTrapezoid s → AreLines s p v w → AreLines (upper_part r s) p v w
upper_lines r s p v w h a =
    let k = p.scale in
    let d = mul_lt k s.top s.bottom p.positive h.down in
    record {
      left = at_first (pos k *ℤ s.top) (pos k *ℤ s.bottom) (pos k *ℤ s.left) (pos k *ℤ s.left_end) (pos k *ℤ r) (pos k *ℤ left_in r s) p.y v d
          (at_times k s.top s.bottom s.left s.left_end r (left_in r s) (left_at r s h)) a.left;
      right = at_first (pos k *ℤ s.top) (pos k *ℤ s.bottom) (pos k *ℤ s.right) (pos k *ℤ s.right_end) (pos k *ℤ r) (pos k *ℤ right_in r s) p.y w d
          (at_times k s.top s.bottom s.right s.right_end r (right_in r s) (right_at r s h)) a.right;
    }

lower_lines : (r : ℤ) (s : Strip) (p : PlanePoint) (v w : ℤ) → IsTrapezoid s → AreLines s p v w → AreLines (lower_part r s) p v w
lower_lines r s p v w h a =
    let k = p.scale in
    let d = mul_lt k s.top s.bottom p.positive h.down in
    record {
      left = at_second (pos k *ℤ s.top) (pos k *ℤ s.bottom) (pos k *ℤ s.left) (pos k *ℤ s.left_end) (pos k *ℤ r) (pos k *ℤ left_in r s) p.y v d
          (at_times k s.top s.bottom s.left s.left_end r (left_in r s) (left_at r s h)) a.left;
      right = at_second (pos k *ℤ s.top) (pos k *ℤ s.bottom) (pos k *ℤ s.right) (pos k *ℤ s.right_end) (pos k *ℤ r) (pos k *ℤ right_in r s) p.y w d
          (at_times k s.top s.bottom s.right s.right_end r (right_in r s) (right_at r s h)) a.right;
    }

between : (s : Strip) (p : PlanePoint) (v w : ℤ) → IsTrapezoid s → AreLines s p v w → IsInStrip s p → IsBetween s p v w
between s p v w h a i = strip_between s p v w h.down (run_of s h) a.left a.right i

inside : (s : Strip) (p : PlanePoint) (v w : ℤ) → IsTrapezoid s → AreLines s p v w → IsBetween s p v w → IsInStrip s p
inside s p v w h a i = between_strip s p v w h.down (run_of s h) a.left a.right i

lines_of : (s : Strip) (p : PlanePoint) → IsTrapezoid s → (v : ℤ) × (w : ℤ) × AreLines s p v w
lines_of s p h = let z = sides s p (run_of s h) in (z.0, z.1, record { left = z.2; right = z.3 })

pub upper_in : (r : ℤ) (s : Strip) (p : PlanePoint) → IsTrapezoid s → IsCrossing r s → IsInStrip s p → p.y ≤ℤ (pos p.scale *ℤ r) → IsInStrip (upper_part r s) p
upper_in r s p h c i l =
    let z = lines_of s p h in
    let b = between s p z.0 z.1 h z.2 i in
    inside (upper_part r s) p z.0 z.1 (upper_shape r s h c) (upper_lines r s p z.0 z.1 h z.2) (record { top = b.top; bottom = l; left = b.left; right = b.right })

pub lower_in : (r : ℤ) (s : Strip) (p : PlanePoint) → IsTrapezoid s → IsCrossing r s → IsInStrip s p → (pos p.scale *ℤ r) ≤ℤ p.y → IsInStrip (lower_part r s) p
lower_in r s p h c i l =
    let z = lines_of s p h in
    let b = between s p z.0 z.1 h z.2 i in
    inside (lower_part r s) p z.0 z.1 (lower_shape r s h c) (lower_lines r s p z.0 z.1 h z.2) (record { top = l; bottom = b.bottom; left = b.left; right = b.right })

pub in_upper : (r : ℤ) (s : Strip) (p : PlanePoint) → IsTrapezoid s → IsCrossing r s → IsInStrip (upper_part r s) p → IsInStrip s p
in_upper r s p h c i =
    let z = lines_of s p h in
    let b = between (upper_part r s) p z.0 z.1 (upper_shape r s h c) (upper_lines r s p z.0 z.1 h z.2) i in
    let m = mul_lt p.scale r s.bottom p.positive c.under in
    let l = b.bottom in
    inside s p z.0 z.1 h z.2 (record { top = b.top; bottom = omega (arith, ints, m, l); left = b.left; right = b.right })

pub in_lower : (r : ℤ) (s : Strip) (p : PlanePoint) → IsTrapezoid s → IsCrossing r s → IsInStrip (lower_part r s) p → IsInStrip s p
in_lower r s p h c i =
    let z = lines_of s p h in
    let b = between (lower_part r s) p z.0 z.1 (lower_shape r s h c) (lower_lines r s p z.0 z.1 h z.2) i in
    let m = mul_lt p.scale s.top r p.positive c.over in
    let l = b.top in
    inside s p z.0 z.1 h z.2 (record { top = omega (arith, ints, m, l); bottom = b.bottom; left = b.left; right = b.right })

-- ---- the pieces of all strips
pub data IsPiece (r : ℤ) (ss : List Strip) (x : Strip) : Type 0 where
  Whole : Has ss x → (x.bottom ≤ℤ r) ⊎ (r ≤ℤ x.top) → IsPiece r ss x
  Upper : (s : Strip) → Has ss s → IsCrossing r s → x ≡ upper_part r s → IsPiece r ss x
  Lower : (s : Strip) → Has ss s → IsCrossing r s → x ≡ lower_part r s → IsPiece r ss x

more_piece : (r : ℤ) (s : Strip) (ss : List Strip) (x : Strip) → IsPiece r ss x → IsPiece r (s ∷ ss) x
unfolding Has
more_piece r s ss x (Whole h l) = Whole (inr h) l
more_piece r s ss x (Upper z h c k) = Upper z (inr h) c k
more_piece r s ss x (Lower z h c k) = Lower z (inr h) c k

-- where a strip is, by its rows
pub data Stands (r : ℤ) (s : Strip) : Type 0 where
  Over : s.bottom ≤ℤ r → Stands r s
  Under : r ≤ℤ s.top → Stands r s
  Across : IsCrossing r s → Stands r s

pub stands : (r : ℤ) (s : Strip) → Stands r s
stands r s = by_lt_z {P = Stands r s} s.top r (λ l. by_lt_z {P = Stands r s} r s.bottom (λ m. Across (record { over = l; under = m })) (λ m. Over m)) (λ l. Under l)

pub upper_across : (r : ℤ) (s : Strip) → r <ℤ s.bottom → upper r s ≡ upper_part r s
unfolding upper
upper_across r s l = let k = less_true r s.bottom l in rw k refl

pub upper_over : (r : ℤ) (s : Strip) → s.bottom ≤ℤ r → upper r s ≡ s
unfolding upper
upper_over r s l = let k = less_false r s.bottom l in rw k refl

pub lower_across : (r : ℤ) (s : Strip) → s.top <ℤ r → lower r s ≡ lower_part r s
unfolding lower
lower_across r s l = let k = less_true s.top r l in rw k refl

pub lower_under : (r : ℤ) (s : Strip) → r ≤ℤ s.top → lower r s ≡ s
unfolding lower
lower_under r s l = let k = less_false s.top r l in rw k refl

pub above_more : (r : ℤ) (s : Strip) (ss : List Strip) → s.top <ℤ r → above r (s ∷ ss) ≡ upper r s ∷ above r ss
unfolding above
above_more r s ss l = let k = less_true s.top r l in rw k refl

pub above_same : (r : ℤ) (s : Strip) (ss : List Strip) → r ≤ℤ s.top → above r (s ∷ ss) ≡ above r ss
unfolding above
above_same r s ss l = let k = less_false s.top r l in rw k refl

pub below_more : (r : ℤ) (s : Strip) (ss : List Strip) → r <ℤ s.bottom → below r (s ∷ ss) ≡ lower r s ∷ below r ss
unfolding below
below_more r s ss l = let k = less_true r s.bottom l in rw k refl

pub below_same : (r : ℤ) (s : Strip) (ss : List Strip) → s.bottom ≤ℤ r → below r (s ∷ ss) ≡ below r ss
unfolding below
below_same r s ss l = let k = less_false r s.bottom l in rw k refl

-- all strips have their top above their bottom
pub AreDown : List Strip → Type 0
AreDown ss = (s : Strip) → Has ss s → s.top <ℤ s.bottom

-- what of a list is above the row: the strip it is a part of
pub record IsAbove (r : ℤ) (ss : List Strip) (x : Strip) : Type 0 where
  pub strip : Strip
  pub one : Has ss strip
  pub over : strip.top <ℤ r
  pub is : x ≡ upper r strip

pub record IsBelow (r : ℤ) (ss : List Strip) (x : Strip) : Type 0 where
  pub strip : Strip
  pub one : Has ss strip
  pub under : r <ℤ strip.bottom
  pub is : x ≡ lower r strip

pub above_has : (r : ℤ) (ss : List Strip) (x : Strip) → Has (above r ss) x → IsAbove r ss x
unfolding above Has
above_has r [] x h = absurd h
above_has r (s ∷ ss) x h = at (by_lt_z {P = (s.top <ℤ r) ⊎ (r ≤ℤ s.top)} s.top r (λ l. inl l) (λ l. inr l)) (λ i. above_has r ss x i)
  where
    more : IsAbove r ss x → IsAbove r (s ∷ ss) x
    more a = record { strip = a.strip; one = inr a.one; over = a.over; is = a.is }

    at : (s.top <ℤ r) ⊎ (r ≤ℤ s.top) → (Has (above r ss) x → IsAbove r ss x) → IsAbove r (s ∷ ss) x
    at (inl l) f = elim (subst (λ zs. Has zs x) (above_more r s ss l) h) [ inl k ↦ record { strip = s; one = inl refl; over = l; is = sym k } | inr i ↦ more (f i) ]
    at (inr l) f = more (f (subst (λ zs. Has zs x) (above_same r s ss l) h))

pub below_has : (r : ℤ) (ss : List Strip) (x : Strip) → Has (below r ss) x → IsBelow r ss x
unfolding below Has
below_has r [] x h = absurd h
below_has r (s ∷ ss) x h = at (by_lt_z {P = (r <ℤ s.bottom) ⊎ (s.bottom ≤ℤ r)} r s.bottom (λ l. inl l) (λ l. inr l)) (λ i. below_has r ss x i)
  where
    more : IsBelow r ss x → IsBelow r (s ∷ ss) x
    more a = record { strip = a.strip; one = inr a.one; under = a.under; is = a.is }

    at : (r <ℤ s.bottom) ⊎ (s.bottom ≤ℤ r) → (Has (below r ss) x → IsBelow r ss x) → IsBelow r (s ∷ ss) x
    at (inl l) f = elim (subst (λ zs. Has zs x) (below_more r s ss l) h) [ inl k ↦ record { strip = s; one = inl refl; under = l; is = sym k } | inr i ↦ more (f i) ]
    at (inr l) f = more (f (subst (λ zs. Has zs x) (below_same r s ss l) h))

pub has_above : (r : ℤ) (ss : List Strip) (s : Strip) → Has ss s → s.top <ℤ r → Has (above r ss) (upper r s)
unfolding above Has
has_above r [] s h l = absurd h
has_above r (t ∷ ss) s (inl k) l = subst (λ z. Has (above r (t ∷ ss)) (upper r z)) k (subst (λ zs. Has zs (upper r t)) (sym (above_more r t ss (subst (λ (z : Strip). z.top <ℤ r) (sym k) l))) (inl refl))
has_above r (t ∷ ss) s (inr h) l = at (by_lt_z {P = (t.top <ℤ r) ⊎ (r ≤ℤ t.top)} t.top r (λ l. inl l) (λ l. inr l)) (has_above r ss s h l)
  where
    at : (t.top <ℤ r) ⊎ (r ≤ℤ t.top) → Has (above r ss) (upper r s) → Has (above r (t ∷ ss)) (upper r s)
    at (inl m) i = subst (λ zs. Has zs (upper r s)) (sym (above_more r t ss m)) (inr i)
    at (inr m) i = subst (λ zs. Has zs (upper r s)) (sym (above_same r t ss m)) i

pub has_below : (r : ℤ) (ss : List Strip) (s : Strip) → Has ss s → r <ℤ s.bottom → Has (below r ss) (lower r s)
unfolding below Has
has_below r [] s h l = absurd h
has_below r (t ∷ ss) s (inl k) l = subst (λ z. Has (below r (t ∷ ss)) (lower r z)) k (subst (λ zs. Has zs (lower r t)) (sym (below_more r t ss (subst (λ (z : Strip). r <ℤ z.bottom) (sym k) l))) (inl refl))
has_below r (t ∷ ss) s (inr h) l = at (by_lt_z {P = (r <ℤ t.bottom) ⊎ (t.bottom ≤ℤ r)} r t.bottom (λ l. inl l) (λ l. inr l)) (has_below r ss s h l)
  where
    at : (r <ℤ t.bottom) ⊎ (t.bottom ≤ℤ r) → Has (below r ss) (lower r s) → Has (below r (t ∷ ss)) (lower r s)
    at (inl m) i = subst (λ zs. Has zs (lower r s)) (sym (below_more r t ss m)) (inr i)
    at (inr m) i = subst (λ zs. Has zs (lower r s)) (sym (below_same r t ss m)) i

pub piece_of : (r : ℤ) (ss : List Strip) (x : Strip) → Has (cut r ss) x → IsPiece r ss x
unfolding cut
piece_of r ss x h = elim (has_parts (above r ss) (below r ss) x h) [
  | inl i ↦ from_above (above_has r ss x i)
  | inr i ↦ from_below (below_has r ss x i)
]
  where
    from_above : IsAbove r ss x → IsPiece r ss x
    from_above a = by_lt_z {P = IsPiece r ss x} r (a.strip).bottom
        (λ l. Upper a.strip a.one (record { over = a.over; under = l }) (a.is ∙ upper_across r a.strip l))
        (λ l. let k = a.is ∙ upper_over r a.strip l in Whole (subst (Has ss) (sym k) a.one) (inl (subst (λ (z : Strip). z.bottom ≤ℤ r) (sym k) l)))

    from_below : IsBelow r ss x → IsPiece r ss x
    from_below a = by_lt_z {P = IsPiece r ss x} (a.strip).top r
        (λ l. Lower a.strip a.one (record { over = l; under = a.under }) (a.is ∙ lower_across r a.strip l))
        (λ l. let k = a.is ∙ lower_under r a.strip l in Whole (subst (Has ss) (sym k) a.one) (inr (subst (λ (z : Strip). r ≤ℤ z.top) (sym k) l)))

pub has_over : (r : ℤ) (ss : List Strip) (s : Strip) → Has ss s → s.top <ℤ s.bottom → s.bottom ≤ℤ r → Has (cut r ss) s
unfolding cut
has_over r ss s h d l = has_left (above r ss) (below r ss) s (subst (Has (above r ss)) (upper_over r s l) (has_above r ss s h (omega (arith, ints, d, l))))

pub has_under : (r : ℤ) (ss : List Strip) (s : Strip) → Has ss s → s.top <ℤ s.bottom → r ≤ℤ s.top → Has (cut r ss) s
unfolding cut
has_under r ss s h d l = has_right (above r ss) (below r ss) s (subst (Has (below r ss)) (lower_under r s l) (has_below r ss s h (omega (arith, ints, d, l))))

pub has_upper : (r : ℤ) (ss : List Strip) (s : Strip) → Has ss s → IsCrossing r s → Has (cut r ss) (upper_part r s)
unfolding cut
has_upper r ss s h c = has_left (above r ss) (below r ss) (upper_part r s) (subst (Has (above r ss)) (upper_across r s c.under) (has_above r ss s h c.over))

pub has_lower : (r : ℤ) (ss : List Strip) (s : Strip) → Has ss s → IsCrossing r s → Has (cut r ss) (lower_part r s)
unfolding cut
has_lower r ss s h c = has_right (above r ss) (below r ss) (lower_part r s) (subst (Has (below r ss)) (lower_across r s c.over) (has_below r ss s h c.under))

-- ---- the same points
pub cut_points : (r : ℤ) (ss : List Strip) → AreOrdered ss → HaveSamePoints ss (cut r ss)
unfolding HaveSamePoints
cut_points r ss o p = (λ a. let x = any_has (λ s. IsInStrip s p) ss a in there x.0 x.1 x.2 (stands r x.0), λ a. let x = any_has (λ s. IsInStrip s p) (cut r ss) a in back x.0 x.2 (piece_of r ss x.0 x.1))
  where
    there : (s : Strip) → Has ss s → IsInStrip s p → Stands r s → Any (λ s. IsInStrip s p) (cut r ss)
    there s h i (Over l) = has_any (λ s. IsInStrip s p) (cut r ss) s (has_over r ss s h (o.shape s h).down l) i
    there s h i (Under l) = has_any (λ s. IsInStrip s p) (cut r ss) s (has_under r ss s h (o.shape s h).down l) i
    there s h i (Across c) =
        by_lt_z {P = Any (λ s. IsInStrip s p) (cut r ss)} p.y (pos p.scale *ℤ r)
        (λ l. has_any (λ s. IsInStrip s p) (cut r ss) (upper_part r s) (has_upper r ss s h c) (upper_in r s p (o.shape s h) c i (weak p.y (pos p.scale *ℤ r) l)))
        (λ l. has_any (λ s. IsInStrip s p) (cut r ss) (lower_part r s) (has_lower r ss s h c) (lower_in r s p (o.shape s h) c i l))
      where
        weak : (a b : ℤ) → a <ℤ b → a ≤ℤ b
        weak a b l = omega (arith, ints, l)

    back : (x : Strip) → IsInStrip x p → IsPiece r ss x → Any (λ s. IsInStrip s p) ss
    back x i (Whole h l) = has_any (λ s. IsInStrip s p) ss x h i
    back x i (Upper s h c k) = has_any (λ s. IsInStrip s p) ss s h (in_upper r s p (o.shape s h) c (subst (λ z. IsInStrip z p) k i))
    back x i (Lower s h c k) = has_any (λ s. IsInStrip s p) ss s h (in_lower r s p (o.shape s h) c (subst (λ z. IsInStrip z p) k i))
