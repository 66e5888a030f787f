-- Octagons have one list of strips.
use Rattle.std.proofs.Common.{◌≡◌, subst, refl, sym, ◌∙◌, ap, ℕ, zero, suc, ◌*◌, ◌<◌, ◌≤◌, ◌⊎◌, inl, inr, arith, lit≤, List, [], ◌∷◌, length, get_or}
use Rattle.std.specs.Prelude.{ℤ, pos, ◌+ℤ◌, ◌-ℤ◌, ◌*ℤ◌, ◌≤ℤ◌, ◌<ℤ◌, Any, All, AllPairs, Contains}
use Rattle.std.proofs.lemmas.Int.{ints, by_lt_z}
use Rattle.plane.specs.Plane.{PlanePoint, Bounds}
use Rattle.grid_num.proofs.Products.{mul_le, mul_lt, mul_add}
use Rattle.plane.proofs.Points.{mul_mul}
use Rattle.strips.specs.declared.Strip.{Strip}
use Rattle.strips.specs.Strips.{IsInStrip, IsCutRow, IsSlab, IsSloped, IsTrapezoid, IsStripBefore, IsBetweenRows, AreStrips}
use Rattle.strips.specs.Laws.{OnceLaw}
use Rattle.strips.proofs.Slab.{IsRun, IsAt, IsLeftAt, IsRightAt, line_at, line_le, sloped_times, strip_between, between_strip, sides}

run : (s : Strip) → IsTrapezoid s → IsRun s
run s h = record { left = h.left; right = h.right; start = h.start; finish = h.finish }

-- ---- a row at twice the scale
positive_twice : (k : ℕ) → 1 ≤ k → 1 ≤ 2 * k
positive_twice k h = omega (arith, h)

-- the place x in the row of p, at twice its scale
abbrev twice_at : PlanePoint → ℤ → PlanePoint
twice_at p x = record { x = x; y = pos 2 *ℤ p.y; scale = 2 * p.scale; positive = positive_twice p.scale p.positive }

doubled : (k : ℕ) (t u l le y v : ℤ) → IsAt (pos k *ℤ t) (pos k *ℤ u) (pos k *ℤ l) (pos k *ℤ le) y v
    → IsAt (pos (2 * k) *ℤ t) (pos (2 * k) *ℤ u) (pos (2 * k) *ℤ l) (pos (2 * k) *ℤ le) (pos 2 *ℤ y) (pos 2 *ℤ v)
doubled k t u l le y v (inl a) =
    let b = a.0 in
    let c = a.1 in
    inl (omega (arith, ints, b, mul_mul 2 k l, mul_mul 2 k le), omega (arith, ints, c, mul_mul 2 k l))
doubled k t u l le y v (inr (inl a)) =
    let b = a.0 in
    let c = a.1 in
    inr (inl (omega (arith, ints, b, mul_mul 2 k l, mul_mul 2 k le, mul_mul 2 k t, mul_mul 2 k u), omega (arith, ints, c, mul_mul 2 k l, mul_mul 2 k t)))
doubled k t u l le y v (inr (inr a)) =
    let b = a.0 in
    let c = a.1 in
    inr (inr (omega (arith, ints, b, mul_mul 2 k l, mul_mul 2 k le, mul_mul 2 k t, mul_mul 2 k u), omega (arith, ints, c, mul_mul 2 k l, mul_mul 2 k t)))

twice_left : (s : Strip) (p : PlanePoint) (v x : ℤ) → IsLeftAt s p v → IsLeftAt s (twice_at p x) (pos 2 *ℤ v)
twice_left s p v x a = doubled p.scale s.top s.bottom s.left s.left_end p.y v a

twice_right : (s : Strip) (p : PlanePoint) (v x : ℤ) → IsRightAt s p v → IsRightAt s (twice_at p x) (pos 2 *ℤ v)
twice_right s p v x a = doubled p.scale s.top s.bottom s.right s.right_end p.y v a

twice_between : (t u : ℤ) (p : PlanePoint) (x : ℤ) → IsBetweenRows t u p → IsBetweenRows t u (twice_at p x)
twice_between t u p x h =
    let a = h.top in
    let b = h.bottom in
    record { top = omega (arith, ints, a, mul_mul 2 p.scale t); bottom = omega (arith, ints, b, mul_mul 2 p.scale u) }

-- lines that are in order at both ends, and apart at one of them, are apart strictly between
line_less : (t u y l le v m me w : ℤ) → t <ℤ y → y <ℤ u → IsAt t u l le y v → IsAt t u m me y w → l ≤ℤ m → le ≤ℤ me → (l +ℤ le) <ℤ (m +ℤ me) → v <ℤ w
line_less t u y l le v m me w h1 h2 a b g1 g2 g3 = omega (arith, ints)

-- ---- two strips of one list
abbrev Related : Strip → Strip → Type 0
Related a b = (a ≡ b) ⊎ (IsStripBefore a b ⊎ IsStripBefore b a)

default : {X : Type 0} (xs : List X) (k : ℕ) (d x : X) → k < length xs → get_or xs k x ≡ x → get_or xs k d ≡ x
default [] k d x l e = absurd (omega (arith, l))
default (y ∷ ys) zero d x l e = e
default (y ∷ ys) (suc k) d x l e = default ys k d x (omega (arith, l)) e

three : (i j : ℕ) → (i < j) ⊎ ((j < i) ⊎ (i ≡ j))
three zero zero = inr (inr refl)
three zero (suc j) = inl (omega arith)
three (suc i) zero = inr (inl (omega arith))
three (suc i) (suc j) = elim (three i j) [ inl l ↦ inl (omega (arith, l)) | inr m ↦ elim m [ inl l ↦ inr (inl (omega (arith, l))) | inr e ↦ inr (inr (ap suc e)) ] ]

related : (ss : List Strip) → AllPairs IsStripBefore ss → (a b : Strip) → Contains ss a → Contains ss b → Related a b
related ss h a b c d =
    elim (three c.0 d.0) [
      | inl l ↦ inr (inl (both a b (h c.0 d.0 a l d.1) c.2 (default ss d.0 a b d.1 d.2)))
      | inr m ↦ elim m [
        | inl l ↦ inr (inr (both b a (h d.0 c.0 a l c.1) (default ss d.0 a b d.1 d.2) c.2))
        | inr e ↦ inl (sym c.2 ∙ (ap (λ k. get_or ss k a) e ∙ default ss d.0 a b d.1 d.2))
      ]
    ]
  where
    both : {x y : Strip} (v w : Strip) → IsStripBefore x y → x ≡ v → y ≡ w → IsStripBefore v w
    both {x} {y} v w f e g = subst (λ z. IsStripBefore v z) g (subst (λ z. IsStripBefore z y) e f)

-- no strip is just on the left of r in a row strictly between
left_gap : (r q : Strip) (p : PlanePoint) (v : ℤ) → IsTrapezoid r → IsTrapezoid q → IsBetweenRows r.top r.bottom p → IsLeftAt r p v → Related r q
    → IsInStrip q (twice_at p (pos 2 *ℤ v -ℤ pos 1)) → ⊥
left_gap r q p v hr hq b a (inl e) i =
    let z = sides q p (run q hq) in
    let c = strip_between q (twice_at p (pos 2 *ℤ v -ℤ pos 1)) (pos 2 *ℤ v) (pos 2 *ℤ z.1) hq.down (run q hq)
    (twice_left q p v (pos 2 *ℤ v -ℤ pos 1) (subst (λ (s : Strip). IsLeftAt s p v) e a)) (twice_right q p z.1 (pos 2 *ℤ v -ℤ pos 1) z.3) i in
    let m = c.left in
    omega (arith, ints, m)
left_gap r q p v hr hq b a (inr (inl (inl h))) i =
    let m = i.top in
    let n = b.bottom in
    omega (arith, ints, m, n, mul_mul 2 p.scale r.bottom, mul_le (2 * p.scale) r.bottom q.top h)
left_gap r q p v hr hq b a (inr (inl (inr (e, f, h)))) i =
    let z = sides q p (run q hq) in
    let c = strip_between q (twice_at p (pos 2 *ℤ v -ℤ pos 1)) (pos 2 *ℤ z.0) (pos 2 *ℤ z.1) hq.down (run q hq)
    (twice_left q p z.0 (pos 2 *ℤ v -ℤ pos 1) z.2) (twice_right q p z.1 (pos 2 *ℤ v -ℤ pos 1) z.3) i in
    let m = c.left in
    let k = p.scale in
    let s1 = hr.start in
    let s2 = hr.finish in
    let h1 = h.start in
    let h2 = h.finish in
    let b1 = b.top in
    let b2 = b.bottom in
    let w = line_le (pos k *ℤ r.top) (pos k *ℤ r.bottom) p.y (pos k *ℤ r.left) (pos k *ℤ r.left_end) v (pos k *ℤ q.left) (pos k *ℤ q.left_end) z.0
    (omega (arith, ints, b1)) (omega (arith, ints, b2)) a
    (subst (λ (x : ℤ). IsAt (pos k *ℤ x) (pos k *ℤ r.bottom) (pos k *ℤ q.left) (pos k *ℤ q.left_end) p.y z.0) (sym e)
    (subst (λ (x : ℤ). IsAt (pos k *ℤ q.top) (pos k *ℤ x) (pos k *ℤ q.left) (pos k *ℤ q.left_end) p.y z.0) (sym f) z.2))
    (mul_le k r.left q.left (omega (arith, ints, s1, h1))) (mul_le k r.left_end q.left_end (omega (arith, ints, s2, h2))) in
    omega (arith, ints, m, w)
left_gap r q p v hr hq b a (inr (inr (inl h))) i =
    let m = i.bottom in
    let n = b.top in
    omega (arith, ints, m, n, mul_mul 2 p.scale r.top, mul_le (2 * p.scale) q.bottom r.top h)
left_gap r q p v hr hq b a (inr (inr (inr (e, f, h)))) i =
    let z = sides q p (run q hq) in
    let c = strip_between q (twice_at p (pos 2 *ℤ v -ℤ pos 1)) (pos 2 *ℤ z.0) (pos 2 *ℤ z.1) hq.down (run q hq)
    (twice_left q p z.0 (pos 2 *ℤ v -ℤ pos 1) z.2) (twice_right q p z.1 (pos 2 *ℤ v -ℤ pos 1) z.3) i in
    let m = c.right in
    let k = p.scale in
    let w = line_less (pos k *ℤ r.top) (pos k *ℤ r.bottom) p.y (pos k *ℤ q.right) (pos k *ℤ q.right_end) z.1 (pos k *ℤ r.left) (pos k *ℤ r.left_end) v
    b.top b.bottom
    (subst (λ (x : ℤ). IsAt (pos k *ℤ x) (pos k *ℤ r.bottom) (pos k *ℤ q.right) (pos k *ℤ q.right_end) p.y z.1) e
    (subst (λ (x : ℤ). IsAt (pos k *ℤ q.top) (pos k *ℤ x) (pos k *ℤ q.right) (pos k *ℤ q.right_end) p.y z.1) f z.3))
    a (mul_le k q.right r.left h.start) (mul_le k q.right_end r.left_end h.finish)
    (let g = mul_lt k (q.right +ℤ q.right_end) (r.left +ℤ r.left_end) p.positive h.gap in omega (arith, ints, g, mul_add k q.right q.right_end, mul_add k r.left r.left_end)) in
    omega (arith, ints, m, w)

-- nor just on its right
right_gap : (r q : Strip) (p : PlanePoint) (v : ℤ) → IsTrapezoid r → IsTrapezoid q → IsBetweenRows r.top r.bottom p → IsRightAt r p v → Related r q
    → IsInStrip q (twice_at p (pos 2 *ℤ v +ℤ pos 1)) → ⊥
right_gap r q p v hr hq b a (inl e) i =
    let z = sides q p (run q hq) in
    let c = strip_between q (twice_at p (pos 2 *ℤ v +ℤ pos 1)) (pos 2 *ℤ z.0) (pos 2 *ℤ v) hq.down (run q hq)
    (twice_left q p z.0 (pos 2 *ℤ v +ℤ pos 1) z.2) (twice_right q p v (pos 2 *ℤ v +ℤ pos 1) (subst (λ (s : Strip). IsRightAt s p v) e a)) i in
    let m = c.right in
    omega (arith, ints, m)
right_gap r q p v hr hq b a (inr (inl (inl h))) i =
    let m = i.top in
    let n = b.bottom in
    omega (arith, ints, m, n, mul_mul 2 p.scale r.bottom, mul_le (2 * p.scale) r.bottom q.top h)
right_gap r q p v hr hq b a (inr (inl (inr (e, f, h)))) i =
    let z = sides q p (run q hq) in
    let c = strip_between q (twice_at p (pos 2 *ℤ v +ℤ pos 1)) (pos 2 *ℤ z.0) (pos 2 *ℤ z.1) hq.down (run q hq)
    (twice_left q p z.0 (pos 2 *ℤ v +ℤ pos 1) z.2) (twice_right q p z.1 (pos 2 *ℤ v +ℤ pos 1) z.3) i in
    let m = c.left in
    let k = p.scale in
    let w = line_less (pos k *ℤ r.top) (pos k *ℤ r.bottom) p.y (pos k *ℤ r.right) (pos k *ℤ r.right_end) v (pos k *ℤ q.left) (pos k *ℤ q.left_end) z.0
    b.top b.bottom a
    (subst (λ (x : ℤ). IsAt (pos k *ℤ x) (pos k *ℤ r.bottom) (pos k *ℤ q.left) (pos k *ℤ q.left_end) p.y z.0) (sym e)
    (subst (λ (x : ℤ). IsAt (pos k *ℤ q.top) (pos k *ℤ x) (pos k *ℤ q.left) (pos k *ℤ q.left_end) p.y z.0) (sym f) z.2))
    (mul_le k r.right q.left h.start) (mul_le k r.right_end q.left_end h.finish)
    (let g = mul_lt k (r.right +ℤ r.right_end) (q.left +ℤ q.left_end) p.positive h.gap in omega (arith, ints, g, mul_add k r.right r.right_end, mul_add k q.left q.left_end)) in
    omega (arith, ints, m, w)
right_gap r q p v hr hq b a (inr (inr (inl h))) i =
    let m = i.bottom in
    let n = b.top in
    omega (arith, ints, m, n, mul_mul 2 p.scale r.top, mul_le (2 * p.scale) q.bottom r.top h)
right_gap r q p v hr hq b a (inr (inr (inr (e, f, h)))) i =
    let z = sides q p (run q hq) in
    let c = strip_between q (twice_at p (pos 2 *ℤ v +ℤ pos 1)) (pos 2 *ℤ z.0) (pos 2 *ℤ z.1) hq.down (run q hq)
    (twice_left q p z.0 (pos 2 *ℤ v +ℤ pos 1) z.2) (twice_right q p z.1 (pos 2 *ℤ v +ℤ pos 1) z.3) i in
    let m = c.right in
    let k = p.scale in
    let s1 = hr.start in
    let s2 = hr.finish in
    let h1 = h.start in
    let h2 = h.finish in
    let b1 = b.top in
    let b2 = b.bottom in
    let w = line_le (pos k *ℤ r.top) (pos k *ℤ r.bottom) p.y (pos k *ℤ q.right) (pos k *ℤ q.right_end) z.1 (pos k *ℤ r.right) (pos k *ℤ r.right_end) v
    (omega (arith, ints, b1)) (omega (arith, ints, b2))
    (subst (λ (x : ℤ). IsAt (pos k *ℤ x) (pos k *ℤ r.bottom) (pos k *ℤ q.right) (pos k *ℤ q.right_end) p.y z.1) e
    (subst (λ (x : ℤ). IsAt (pos k *ℤ q.top) (pos k *ℤ x) (pos k *ℤ q.right) (pos k *ℤ q.right_end) p.y z.1) f z.3))
    a (mul_le k q.right r.right (omega (arith, ints, s1, h1))) (mul_le k q.right_end r.right_end (omega (arith, ints, s2, h2))) in
    omega (arith, ints, m, w)

-- ---- strips of two lists
holds : (P : Strip → Type 0) (ss : List Strip) (s : Strip) → All P ss → Contains ss s → P s
holds P ss s h c = subst P c.2 (h c.0 s c.1)

slab_of : (os : List Bounds) (ss : List Strip) (s : Strip) → AreStrips os ss → Contains ss s → IsSlab os s.top s.bottom
slab_of os ss s h c = holds (λ s. IsSlab os s.top s.bottom) ss s h.slabs c

shape_of : (os : List Bounds) (ss : List Strip) (s : Strip) → AreStrips os ss → Contains ss s → IsTrapezoid s
shape_of os ss s h c = holds (λ s. IsTrapezoid s) ss s h.shapes c

common : (os : List Bounds) (ss ts : List Strip) (t u : ℤ) (p : PlanePoint) → AreStrips os ss → AreStrips os ts → IsSlab os t u → IsBetweenRows t u p
    → Any (λ s. IsInStrip s p) ss → Any (λ s. IsInStrip s p) ts
common os ss ts t u p f g d b i = (g.runs t u p d b).1 ((f.runs t u p d b).0 i)

-- s and r are of one slab, s in the one list and r in the other
record IsPair (os : List Bounds) (ss ts : List Strip) (s r : Strip) : Type 0 where
  first : AreStrips os ss
  second : AreStrips os ts
  in_first : Contains ss s
  in_second : Contains ts r
  top : s.top ≡ r.top
  bottom : s.bottom ≡ r.bottom

turned : (os : List Bounds) (ss ts : List Strip) (s r : Strip) → IsPair os ss ts s r → IsPair os ts ss r s
turned os ss ts s r h = record { first = h.second; second = h.first; in_first = h.in_second; in_second = h.in_first; top = sym h.top; bottom = sym h.bottom }

in_rows : (s r : Strip) (p : PlanePoint) → s.top ≡ r.top → s.bottom ≡ r.bottom → IsBetweenRows r.top r.bottom p → IsBetweenRows s.top s.bottom p
in_rows s r p e f b = subst (λ (z : ℤ). IsBetweenRows z s.bottom p) (sym e) (subst (λ (z : ℤ). IsBetweenRows r.top z p) (sym f) b)

no_left : (os : List Bounds) (ss ts : List Strip) (s r : Strip) (p : PlanePoint) (v w v' : ℤ) → IsPair os ss ts s r → IsBetweenRows r.top r.bottom p
    → IsLeftAt s p v → IsRightAt s p w → IsLeftAt r p v' → v' ≤ℤ w → v <ℤ v' → ⊥
no_left os ss ts s r p v w v' h b a1 a2 a3 l m =
    let x = pos 2 *ℤ v' -ℤ pos 1 in
    let hs = shape_of os ss s h.first h.in_first in
    let c = twice_between s.top s.bottom p x (in_rows s r p h.top h.bottom b) in
    let c1 = c.top in
    let c2 = c.bottom in
    let i = between_strip s (twice_at p x) (pos 2 *ℤ v) (pos 2 *ℤ w) hs.down (run s hs) (twice_left s p v x a1) (twice_right s p w x a2)
    (record { top = omega (arith, ints, c1); bottom = omega (arith, ints, c2); left = left_side v v' p m; right = right_side v' w p l }) in
    let k = h.in_first in
    let j = common os ss ts r.top r.bottom (twice_at p x) h.first h.second (slab_of os ts r h.second h.in_second) (twice_between r.top r.bottom p x b) (k.0, s, k.1, k.2, i) in
    left_gap r j.1 p v' (shape_of os ts r h.second h.in_second) (shape_of os ts j.1 h.second (j.0, j.2, j.3)) b a3 (related ts (h.second).order r j.1 h.in_second (j.0, j.2, j.3)) j.4
  where
    left_side : (v v' : ℤ) (p : PlanePoint) → v <ℤ v' → (pos 2 *ℤ v) ≤ℤ (twice_at p (pos 2 *ℤ v' -ℤ pos 1)).x
    left_side v v' p m = omega (arith, ints, m)

    right_side : (v' w : ℤ) (p : PlanePoint) → v' ≤ℤ w → (twice_at p (pos 2 *ℤ v' -ℤ pos 1)).x ≤ℤ (pos 2 *ℤ w)
    right_side v' w p l = omega (arith, ints, l)

no_right : (os : List Bounds) (ss ts : List Strip) (s r : Strip) (p : PlanePoint) (v w w' : ℤ) → IsPair os ss ts s r → IsBetweenRows r.top r.bottom p
    → IsLeftAt s p v → IsRightAt s p w → IsRightAt r p w' → v ≤ℤ w' → w' <ℤ w → ⊥
no_right os ss ts s r p v w w' h b a1 a2 a3 l m =
    let x = pos 2 *ℤ w' +ℤ pos 1 in
    let hs = shape_of os ss s h.first h.in_first in
    let c = twice_between s.top s.bottom p x (in_rows s r p h.top h.bottom b) in
    let c1 = c.top in
    let c2 = c.bottom in
    let i = between_strip s (twice_at p x) (pos 2 *ℤ v) (pos 2 *ℤ w) hs.down (run s hs) (twice_left s p v x a1) (twice_right s p w x a2)
    (record { top = omega (arith, ints, c1); bottom = omega (arith, ints, c2); left = left_side v w' p l; right = right_side w' w p m }) in
    let k = h.in_first in
    let j = common os ss ts r.top r.bottom (twice_at p x) h.first h.second (slab_of os ts r h.second h.in_second) (twice_between r.top r.bottom p x b) (k.0, s, k.1, k.2, i) in
    right_gap r j.1 p w' (shape_of os ts r h.second h.in_second) (shape_of os ts j.1 h.second (j.0, j.2, j.3)) b a3 (related ts (h.second).order r j.1 h.in_second (j.0, j.2, j.3)) j.4
  where
    left_side : (v w' : ℤ) (p : PlanePoint) → v ≤ℤ w' → (pos 2 *ℤ v) ≤ℤ (twice_at p (pos 2 *ℤ w' +ℤ pos 1)).x
    left_side v w' p l = omega (arith, ints, l)

    right_side : (w' w : ℤ) (p : PlanePoint) → w' <ℤ w → (twice_at p (pos 2 *ℤ w' +ℤ pos 1)).x ≤ℤ (pos 2 *ℤ w)
    right_side w' w p m = omega (arith, ints, m)

-- where they share a point in a row, they have the same sides there
same_sides : (os : List Bounds) (ss ts : List Strip) (s r : Strip) (p : PlanePoint) (v w v' w' : ℤ) → IsPair os ss ts s r → IsBetweenRows r.top r.bottom p
    → IsLeftAt s p v → IsRightAt s p w → IsLeftAt r p v' → IsRightAt r p w' → v' ≤ℤ w → v ≤ℤ w' → (v ≡ v') × (w ≡ w')
same_sides os ss ts s r p v w v' w' h b a1 a2 a3 a4 l m =
    let g = turned os ss ts s r h in
    let c = in_rows s r p h.top h.bottom b in (
      equal v v' (λ n. no_left os ss ts s r p v w v' h b a1 a2 a3 l n) (λ n. no_left os ts ss r s p v' w' v g c a3 a4 a1 m n),
      equal w w' (λ n. no_right os ts ss r s p v' w' w g c a3 a4 a2 l n) (λ n. no_right os ss ts s r p v w w' h b a1 a2 a4 m n),
    )
  where
    equal : (x y : ℤ) → (x <ℤ y → ⊥) → (y <ℤ x → ⊥) → x ≡ y
    equal x y f g = by_lt_z {P = x ≡ y} x y (λ n. absurd (f n)) (λ n. by_lt_z {P = x ≡ y} y x (λ k. absurd (g k)) (λ k. omega (arith, ints, n, k)))

-- ---- two rows: the middle one, and one a little below it
abbrev middle : Strip → PlanePoint
middle s = record { x = pos 0; y = s.top +ℤ s.bottom; scale = 2; positive = lit≤ tt }

middle_at : (t u l le : ℤ) → IsSloped t u l le → IsAt (pos 2 *ℤ t) (pos 2 *ℤ u) (pos 2 *ℤ l) (pos 2 *ℤ le) (t +ℤ u) (l +ℤ le)
middle_at t u l le (inl e) = inl (omega (arith, ints, e), omega (arith, ints, e))
middle_at t u l le (inr (inl e)) = inr (inl (omega (arith, ints, e), omega (arith, ints, e)))
middle_at t u l le (inr (inr e)) = inr (inr (omega (arith, ints, e), omega (arith, ints, e)))

abbrev lower : Strip → PlanePoint
lower s = record { x = pos 0; y = pos 4 *ℤ (s.top +ℤ s.bottom) +ℤ pos 1; scale = 8; positive = lit≤ tt }

abbrev LowerAt : ℤ → ℤ → ℤ → ℤ → ℤ → Type 0
LowerAt t u l le v = IsAt (pos 8 *ℤ t) (pos 8 *ℤ u) (pos 8 *ℤ l) (pos 8 *ℤ le) (pos 4 *ℤ (t +ℤ u) +ℤ pos 1) v

middle_row : (t u : ℤ) → t <ℤ u → ((pos 2 *ℤ t) <ℤ (t +ℤ u)) × ((t +ℤ u) <ℤ (pos 2 *ℤ u))
middle_row t u d = (omega (arith, ints, d), omega (arith, ints, d))

middle_between : (s : Strip) → s.top <ℤ s.bottom → IsBetweenRows s.top s.bottom (middle s)
middle_between s d = let w = middle_row s.top s.bottom d in record { top = w.0; bottom = w.1 }

lower_row : (t u : ℤ) → t <ℤ u → ((pos 8 *ℤ t) <ℤ (pos 4 *ℤ (t +ℤ u) +ℤ pos 1)) × ((pos 4 *ℤ (t +ℤ u) +ℤ pos 1) <ℤ (pos 8 *ℤ u))
lower_row t u d = (omega (arith, ints, d), omega (arith, ints, d))

lower_between : (s : Strip) → s.top <ℤ s.bottom → IsBetweenRows s.top s.bottom (lower s)
lower_between s d = let w = lower_row s.top s.bottom d in record { top = w.0; bottom = w.1 }

-- there a side is within 1 of four times the sum of its ends
lower_near : (t u l le v : ℤ) → LowerAt t u l le v → ((pos 4 *ℤ (l +ℤ le) -ℤ pos 1) ≤ℤ v) × (v ≤ℤ (pos 4 *ℤ (l +ℤ le) +ℤ pos 1))
lower_near t u l le v (inl a) = let b = a.0 in let c = a.1 in (omega (arith, ints, b, c), omega (arith, ints, b, c))
lower_near t u l le v (inr (inl a)) = let b = a.0 in let c = a.1 in (omega (arith, ints, b, c), omega (arith, ints, b, c))
lower_near t u l le v (inr (inr a)) = let b = a.0 in let c = a.1 in (omega (arith, ints, b, c), omega (arith, ints, b, c))

-- and the two rows tell the side
side_told : (t u l le m me v : ℤ) → t <ℤ u → LowerAt t u l le v → LowerAt t u m me v → l +ℤ le ≡ m +ℤ me → (l ≡ m) × (le ≡ me)
side_told t u l le m me v d a b e = (omega (arith, ints), omega (arith, ints))

-- ---- the same strip
moved : (k : ℕ) (y l le v : ℤ) (s r : Strip) → s.top ≡ r.top → s.bottom ≡ r.bottom → IsAt (pos k *ℤ r.top) (pos k *ℤ r.bottom) (pos k *ℤ l) (pos k *ℤ le) y v
    → IsAt (pos k *ℤ s.top) (pos k *ℤ s.bottom) (pos k *ℤ l) (pos k *ℤ le) y v
moved k y l le v s r e f a =
    subst (λ (z : ℤ). IsAt (pos k *ℤ z) (pos k *ℤ s.bottom) (pos k *ℤ l) (pos k *ℤ le) y v) (sym e)
    (subst (λ (z : ℤ). IsAt (pos k *ℤ r.top) (pos k *ℤ z) (pos k *ℤ l) (pos k *ℤ le) y v) (sym f) a)

slope_moved : (l le : ℤ) (s r : Strip) → s.top ≡ r.top → s.bottom ≡ r.bottom → IsSloped s.top s.bottom l le → IsSloped r.top r.bottom l le
slope_moved l le s r e f a = subst (λ (z : ℤ). IsSloped z r.bottom l le) e (subst (λ (z : ℤ). IsSloped s.top z l le) f a)

at_lower : (r : Strip) (l le : ℤ) → IsSloped r.top r.bottom l le → (v : ℤ) × LowerAt r.top r.bottom l le v
at_lower r l le a = line_at (pos 8 *ℤ r.top) (pos 8 *ℤ r.bottom) (pos 8 *ℤ l) (pos 8 *ℤ le) (pos 4 *ℤ (r.top +ℤ r.bottom) +ℤ pos 1) (sloped_times 8 r.top r.bottom l le a)

abbrev strip_of : ℤ → ℤ → ℤ → ℤ → ℤ → ℤ → Strip
strip_of t u l le r re = record { top = t; bottom = u; left = l; left_end = le; right = r; right_end = re }

strip_is : (s r : Strip) → s.top ≡ r.top → s.bottom ≡ r.bottom → s.left ≡ r.left → s.left_end ≡ r.left_end → s.right ≡ r.right → s.right_end ≡ r.right_end → s ≡ r
strip_is s r a b c d e f =
    ap (λ (z : ℤ). strip_of z s.bottom s.left s.left_end s.right s.right_end) a
    ∙ (ap (λ (z : ℤ). strip_of r.top z s.left s.left_end s.right s.right_end) b
    ∙ (ap (λ (z : ℤ). strip_of r.top r.bottom z s.left_end s.right s.right_end) c
    ∙ (ap (λ (z : ℤ). strip_of r.top r.bottom r.left z s.right s.right_end) d
    ∙ (ap (λ (z : ℤ). strip_of r.top r.bottom r.left r.left_end z s.right_end) e
    ∙ ap (λ (z : ℤ). strip_of r.top r.bottom r.left r.left_end r.right z) f))))

-- with the same sides in the middle they share points a little below it, and so they have the same sides there, too
same_ends : (os : List Bounds) (ss ts : List Strip) (s r : Strip) → IsPair os ss ts s r → IsTrapezoid s → IsTrapezoid r
    → s.left +ℤ s.left_end ≡ r.left +ℤ r.left_end → s.right +ℤ s.right_end ≡ r.right +ℤ r.right_end → s ≡ r
same_ends os ss ts s r h hs hr a b =
    let e = h.top in
    let f = h.bottom in
    let d = hr.down in
    let wide = hr.wide in
    let v = at_lower r s.left s.left_end (slope_moved s.left s.left_end s r e f hs.left) in
    let w = at_lower r s.right s.right_end (slope_moved s.right s.right_end s r e f hs.right) in
    let v' = at_lower r r.left r.left_end hr.left in
    let w' = at_lower r r.right r.right_end hr.right in
    let n1 = lower_near r.top r.bottom s.left s.left_end v.0 v.1 in
    let n2 = lower_near r.top r.bottom s.right s.right_end w.0 w.1 in
    let n3 = lower_near r.top r.bottom r.left r.left_end v'.0 v'.1 in
    let n4 = lower_near r.top r.bottom r.right r.right_end w'.0 w'.1 in
    let m1 = n1.1 in
    let m2 = n2.0 in
    let m3 = n3.1 in
    let m4 = n4.0 in
    let c = same_sides os ss ts s r (lower r) v.0 w.0 v'.0 w'.0 h (lower_between r d)
    (moved 8 (pos 4 *ℤ (r.top +ℤ r.bottom) +ℤ pos 1) s.left s.left_end v.0 s r e f v.1)
    (moved 8 (pos 4 *ℤ (r.top +ℤ r.bottom) +ℤ pos 1) s.right s.right_end w.0 s r e f w.1)
    v'.1 w'.1 (omega (arith, ints, m2, m3, wide, b)) (omega (arith, ints, m1, m4, wide, a)) in
    let x = side_told r.top r.bottom s.left s.left_end r.left r.left_end v.0 d v.1 (subst (LowerAt r.top r.bottom r.left r.left_end) (sym c.0) v'.1) a in
    let y = side_told r.top r.bottom s.right s.right_end r.right r.right_end w.0 d w.1 (subst (LowerAt r.top r.bottom r.right r.right_end) (sym c.1) w'.1) b in
    strip_is s r e f x.0 x.1 y.0 y.1

same_strip : (os : List Bounds) (ss ts : List Strip) (s r : Strip) → IsPair os ss ts s r
    → (s.left +ℤ s.left_end) <ℤ (r.right +ℤ r.right_end) → (r.left +ℤ r.left_end) <ℤ (s.right +ℤ s.right_end) → s ≡ r
same_strip os ss ts s r h m n =
    let hs = shape_of os ss s h.first h.in_first in
    let hr = shape_of os ts r h.second h.in_second in
    let e = h.top in
    let f = h.bottom in
    let d = hr.down in
    let a = same_sides os ss ts s r (middle r) (s.left +ℤ s.left_end) (s.right +ℤ s.right_end) (r.left +ℤ r.left_end) (r.right +ℤ r.right_end) h
    (middle_between r d)
    (moved 2 (r.top +ℤ r.bottom) s.left s.left_end (s.left +ℤ s.left_end) s r e f (middle_at r.top r.bottom s.left s.left_end (slope_moved s.left s.left_end s r e f hs.left)))
    (moved 2 (r.top +ℤ r.bottom) s.right s.right_end (s.right +ℤ s.right_end) s r e f (middle_at r.top r.bottom s.right s.right_end (slope_moved s.right s.right_end s r e f hs.right)))
    (middle_at r.top r.bottom r.left r.left_end hr.left) (middle_at r.top r.bottom r.right r.right_end hr.right)
    (omega (arith, ints, n)) (omega (arith, ints, m)) in
    same_ends os ss ts s r h hs hr a.0 a.1

-- ---- each strip of the one list is in the other
-- a cut is not strictly between the rows of a slab
aside : (os : List Bounds) (t u r : ℤ) → IsSlab os t u → IsCutRow os r → (r ≤ℤ t) ⊎ (u ≤ℤ r)
aside os t u r f c =
    by_lt_z {P = (r ≤ℤ t) ⊎ (u ≤ℤ r)} t r
    (λ l. by_lt_z {P = (r ≤ℤ t) ⊎ (u ≤ℤ r)} r u (λ m. absurd (f.clean r l m c)) (λ m. inr m))
    (λ l. inl l)

-- a slab that has a row strictly between t and u is that slab
slab_same : (os : List Bounds) (t u t' u' y : ℤ) → IsSlab os t u → IsSlab os t' u' → (pos 4 *ℤ t) <ℤ y → y <ℤ (pos 4 *ℤ u) → (pos 4 *ℤ t') ≤ℤ y → y ≤ℤ (pos 4 *ℤ u')
    → (t ≡ t') × (u ≡ u')
slab_same os t u t' u' y f g h1 h2 h3 h4 =
    plain (aside os t u t' f g.top) (aside os t u u' f g.bottom) (aside os t' u' t g f.top) (aside os t' u' u g f.bottom) f.down g.down
  where
    plain : ((t' ≤ℤ t) ⊎ (u ≤ℤ t')) → ((u' ≤ℤ t) ⊎ (u ≤ℤ u')) → ((t ≤ℤ t') ⊎ (u' ≤ℤ t)) → ((u ≤ℤ t') ⊎ (u' ≤ℤ u)) → t <ℤ u → t' <ℤ u' → (t ≡ t') × (u ≡ u')
    plain a b c d x z = (omega (arith, ints), omega (arith, ints))

any_of : (P : Strip → Type 0) (ss : List Strip) (s : Strip) → Contains ss s → P s → Any P ss
any_of P ss s c h = (c.0, s, c.1, c.2, h)

-- the middle of the middle row of s, at scale 4
centre : Strip → PlanePoint
centre s = twice_at (middle s) ((s.left +ℤ s.left_end) +ℤ (s.right +ℤ s.right_end))

in_own : (s : Strip) → IsTrapezoid s → IsInStrip s (centre s)
unfolding centre
in_own s h =
    let x = (s.left +ℤ s.left_end) +ℤ (s.right +ℤ s.right_end) in
    let b = twice_between s.top s.bottom (middle s) x (middle_between s h.down) in
    let b1 = b.top in
    let b2 = b.bottom in
    let w = h.wide in
    between_strip s (twice_at (middle s) x) (pos 2 *ℤ (s.left +ℤ s.left_end)) (pos 2 *ℤ (s.right +ℤ s.right_end)) h.down (run s h)
    (twice_left s (middle s) (s.left +ℤ s.left_end) x (middle_at s.top s.bottom s.left s.left_end h.left))
    (twice_right s (middle s) (s.right +ℤ s.right_end) x (middle_at s.top s.bottom s.right s.right_end h.right))
    (record { top = weak b1; bottom = weak b2; left = left_side (s.left +ℤ s.left_end) (s.right +ℤ s.right_end) w; right = right_side (s.left +ℤ s.left_end) (s.right +ℤ s.right_end) w })
  where
    weak : {a b : ℤ} → a <ℤ b → a ≤ℤ b
    weak {a} {b} l = omega (arith, ints, l)

    left_side : (l r : ℤ) → l <ℤ r → (pos 2 *ℤ l) ≤ℤ (l +ℤ r)
    left_side l r w = omega (arith, ints, w)

    right_side : (l r : ℤ) → l <ℤ r → (l +ℤ r) ≤ℤ (pos 2 *ℤ r)
    right_side l r w = omega (arith, ints, w)

-- the strip of the other list that has the centre of s is s
at_centre : (os : List Bounds) (ss ts : List Strip) (s r : Strip) → AreStrips os ss → AreStrips os ts → Contains ss s → Contains ts r → IsInStrip r (centre s) → s ≡ r
unfolding centre
at_centre os ss ts s r f g c d i =
    let hs = shape_of os ss s f c in
    let hr = shape_of os ts r g d in
    let x = (s.left +ℤ s.left_end) +ℤ (s.right +ℤ s.right_end) in
    let b = twice_between s.top s.bottom (middle s) x (middle_between s hs.down) in
    let e = slab_same os s.top s.bottom r.top r.bottom (pos 2 *ℤ (s.top +ℤ s.bottom)) (slab_of os ss s f c) (slab_of os ts r g d) b.top b.bottom i.top i.bottom in
    let l = moved 2 (s.top +ℤ s.bottom) r.left r.left_end (r.left +ℤ r.left_end) r s (sym e.0) (sym e.1)
    (middle_at s.top s.bottom r.left r.left_end (slope_moved r.left r.left_end r s (sym e.0) (sym e.1) hr.left)) in
    let m = moved 2 (s.top +ℤ s.bottom) r.right r.right_end (r.right +ℤ r.right_end) r s (sym e.0) (sym e.1)
    (middle_at s.top s.bottom r.right r.right_end (slope_moved r.right r.right_end r s (sym e.0) (sym e.1) hr.right)) in
    let z = strip_between r (twice_at (middle s) x) (pos 2 *ℤ (r.left +ℤ r.left_end)) (pos 2 *ℤ (r.right +ℤ r.right_end)) hr.down (run r hr)
    (twice_left r (middle s) (r.left +ℤ r.left_end) x l) (twice_right r (middle s) (r.right +ℤ r.right_end) x m) i in
    let w = hs.wide in
    let q = apart (s.left +ℤ s.left_end) (s.right +ℤ s.right_end) (r.left +ℤ r.left_end) (r.right +ℤ r.right_end) w z.left z.right in
    same_strip os ss ts s r (record { first = f; second = g; in_first = c; in_second = d; top = e.0; bottom = e.1 }) q.0 q.1
  where
    apart : (a b c d : ℤ) → a <ℤ b → (pos 2 *ℤ c) ≤ℤ (a +ℤ b) → (a +ℤ b) ≤ℤ (pos 2 *ℤ d) → (a <ℤ d) × (c <ℤ b)
    apart a b c d h k l = (omega (arith, ints, h, l), omega (arith, ints, h, k))

centre_between : (s : Strip) → IsTrapezoid s → IsBetweenRows s.top s.bottom (centre s)
unfolding centre
centre_between s h = twice_between s.top s.bottom (middle s) ((s.left +ℤ s.left_end) +ℤ (s.right +ℤ s.right_end)) (middle_between s h.down)

in_other : (os : List Bounds) (ss ts : List Strip) (s : Strip) → AreStrips os ss → AreStrips os ts → Contains ss s → Contains ts s
in_other os ss ts s f g c =
    let hs = shape_of os ss s f c in
    let j = common os ss ts s.top s.bottom (centre s) f g (slab_of os ss s f c) (centre_between s hs) (any_of (λ z. IsInStrip z (centre s)) ss s c (in_own s hs)) in
    let d : Contains ts j.1 = (j.0, j.2, j.3) in
    subst (Contains ts) (sym (at_centre os ss ts s j.1 f g c d j.4)) d

-- ---- two lists in order, with the same strips
asymmetric : (a b : Strip) → IsTrapezoid a → IsTrapezoid b → IsStripBefore a b → IsStripBefore b a → ⊥
asymmetric a b f g (inl h) (inl k) = let x = f.down in let y = g.down in omega (arith, ints, h, k, x, y)
asymmetric a b f g (inl h) (inr k) = let x = f.down in let e = k.0 in omega (arith, ints, h, x, e)
asymmetric a b f g (inr h) (inl k) = let y = g.down in let e = h.0 in omega (arith, ints, k, y, e)
asymmetric a b f g (inr h) (inr k) =
    let m = h.2 in
    let n = k.2 in
    let m1 = m.gap in
    let n1 = n.gap in
    let x = f.wide in
    let y = g.wide in
    omega (arith, ints, m1, n1, x, y)

cons_cases : (y : Strip) (ys : List Strip) (x : Strip) → Contains (y ∷ ys) x → (x ≡ y) ⊎ Contains ys x
cons_cases y ys x c = at c.0 c.1 c.2
  where
    at : (k : ℕ) → k < length (y ∷ ys) → get_or (y ∷ ys) k x ≡ x → (x ≡ y) ⊎ Contains ys x
    at zero l e = inl (sym e)
    at (suc k) l e = inr (k, omega (arith, l), e)

cons_head : (y : Strip) (ys : List Strip) → Contains (y ∷ ys) y
cons_head y ys = (zero, omega arith, refl)

cons_tail : (y : Strip) (ys : List Strip) (x : Strip) → Contains ys x → Contains (y ∷ ys) x
cons_tail y ys x c = (suc c.0, (let l = c.1 in omega (arith, l)), c.2)

first_before : (y : Strip) (ys : List Strip) (x : Strip) → AllPairs IsStripBefore (y ∷ ys) → Contains ys x → IsStripBefore y x
first_before y ys x h c = subst (IsStripBefore y) c.2 (h zero (suc c.0) x (omega arith) (let l = c.1 in omega (arith, l)))

tail_order : (y : Strip) (ys : List Strip) → AllPairs IsStripBefore (y ∷ ys) → AllPairs IsStripBefore ys
tail_order y ys h i j d l m = h (suc i) (suc j) d (omega (arith, l)) (omega (arith, m))

tail_shapes : (y : Strip) (ys : List Strip) → All IsTrapezoid (y ∷ ys) → All IsTrapezoid ys
tail_shapes y ys h k d l = h (suc k) d (omega (arith, l))

record IsInOrder (ss : List Strip) : Type 0 where
  shapes : All IsTrapezoid ss
  order : AllPairs IsStripBefore ss

-- an element of the rest of the one list is one of the rest of the other, since the first is before it
rest_in : (s : Strip) (ss ts : List Strip) (x : Strip) → IsInOrder (s ∷ ss) → Contains ss x → Contains (s ∷ ts) x → Contains ts x
rest_in s ss ts x h c d =
    elim (cons_cases s ts x d) [
      | inl e ↦ absurd (
          let b = subst (IsStripBefore s) e (first_before s ss x h.order c) in
          let f = holds IsTrapezoid (s ∷ ss) s h.shapes (cons_head s ss) in
          asymmetric s s f f b b)
      | inr i ↦ i
    ]

same_first : (s t : Strip) (ss ts : List Strip) → IsInOrder (s ∷ ss) → IsInOrder (t ∷ ts) → Contains (t ∷ ts) s → Contains (s ∷ ss) t → s ≡ t
same_first s t ss ts f g c d =
    elim (cons_cases t ts s c) [
      | inl e ↦ e
      | inr i ↦ elim (cons_cases s ss t d) [
        | inl e ↦ sym e
        | inr j ↦ absurd (asymmetric s t (holds IsTrapezoid (s ∷ ss) s f.shapes (cons_head s ss)) (holds IsTrapezoid (t ∷ ts) t g.shapes (cons_head t ts))
            (first_before s ss t f.order j) (first_before t ts s g.order i))
      ]
    ]

same_list : (ss ts : List Strip) → IsInOrder ss → IsInOrder ts → ((x : Strip) → Contains ss x → Contains ts x) → ((x : Strip) → Contains ts x → Contains ss x) → ss ≡ ts
same_list [] [] f g h k = refl
same_list [] (t ∷ ts) f g h k = absurd (let c = k t (cons_head t ts) in let l = c.1 in omega (arith, l))
same_list (s ∷ ss) [] f g h k = absurd (let c = h s (cons_head s ss) in let l = c.1 in omega (arith, l))
same_list (s ∷ ss) (t ∷ ts) f g h k =
    let e = same_first s t ss ts f g (h s (cons_head s ss)) (k t (cons_head t ts)) in
    ap (λ z. z ∷ ss) e ∙ ap (λ l. t ∷ l)
    (same_list ss ts (record { shapes = tail_shapes s ss f.shapes; order = tail_order s ss f.order }) (record { shapes = tail_shapes t ts g.shapes; order = tail_order t ts g.order })
    (λ x c. rest_in s ss ts x f c (subst (λ z. Contains (z ∷ ts) x) (sym e) (h x (cons_tail s ss x c))))
    (λ x c. rest_in t ts ss x g c (subst (λ z. Contains (z ∷ ss) x) e (k x (cons_tail t ts x c)))))

pub once_law : OnceLaw
once_law os ss ts f g =
    same_list ss ts (record { shapes = f.shapes; order = f.order }) (record { shapes = g.shapes; order = g.order })
    (λ x c. in_other os ss ts x f g c) (λ x c. in_other os ts ss x g f c)
