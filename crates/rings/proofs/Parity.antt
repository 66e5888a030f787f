-- The sides of strips, counted together, cover the strips.
use Rattle.std.proofs.Common.{◌≡◌, subst, refl, sym, ap, ℕ, ◌+◌, ◌%◌, ◌⊎◌, inl, inr, arith, List, [], ◌∷◌, ◌++◌, get_or}
use Rattle.std.specs.Prelude.{ℤ, pos, ◌+ℤ◌, ◌-ℤ◌, ◌*ℤ◌, ◌≤ℤ◌, ◌<ℤ◌, ◌↔◌, Any, All}
use Rattle.std.proofs.lemmas.Int.{ints, by_lt_z}
use Rattle.std.proofs.lemmas.List.Sums.{sum_by-cons, sum_by-le}
use Rattle.plane.specs.Plane.{PlanePoint}
use Rattle.grid_num.proofs.Products.{mul_lt, mul_le, mul_add, mul_sub}
use Rattle.plane.specs.Covering.{Edge, IsOn, crossing, crossings, down_crossing, Covers}
use Rattle.plane.proofs.Counts.{Counts, upright, rise, fall, none_up}
use Rattle.plane.proofs.On.{on_upright, upright_on, on_rise, rise_on, on_fall, fall_on}
use Rattle.plane.specs.Edges.{IsOctilinear, turned_back}
use Rattle.plane.proofs.CoverLaws.{on_turned, crossings_append}
use Rattle.plane.proofs.Lists.{any_none, any_head, any_tail, any_cases, any_left, any_parts}
use Rattle.strips.specs.declared.Strip.{Strip}
use Rattle.strips.specs.Strips.{IsInStrip, IsSloped, IsStripBefore}
use Rattle.rings.specs.Boundary.{left_edge, right_edge, side_edges}
use Rattle.strips.proofs.Slab.{IsRun, IsAt, line_le, strip_between, between_strip, IsLeftAt, IsRightAt, sides}

-- ---- one line
moved : (n : ℕ) (low high y line u line' u' : ℤ) → u -ℤ line ≡ u' -ℤ line' → Counts n low high y line u → Counts n low high y line' u'
moved n low high y line u line' u' e (inl w) = let h = w.3 in inl (w.0, w.1, w.2, omega (arith, ints, h, e))
moved n low high y line u line' u' e (inr (z, inl w)) = inr (z, inl w)
moved n low high y line u line' u' e (inr (z, inr (inl w))) = inr (z, inr (inl w))
moved n low high y line u line' u' e (inr (z, inr (inr w))) = inr (z, inr (inr (omega (arith, ints))))

down_line : (t u l le : ℤ) (p : PlanePoint) (v : ℤ) → t <ℤ u → IsSloped t u l le
    → IsAt (pos p.scale *ℤ t) (pos p.scale *ℤ u) (pos p.scale *ℤ l) (pos p.scale *ℤ le) p.y v
    → Counts (down_crossing (record { x = l; y = t }) (record { x = le; y = u }) p) (pos p.scale *ℤ t) (pos p.scale *ℤ u) p.y v p.x
down_line t u l le p v d (inl e) a =
    moved (down_crossing (record { x = l; y = t }) (record { x = le; y = u }) p) (pos p.scale *ℤ t) (pos p.scale *ℤ u) p.y (pos p.scale *ℤ l) p.x v p.x
    (let k = mul_lt p.scale t u p.positive d in let f = ap (λ (z : ℤ). pos p.scale *ℤ z) e in omega (arith, ints))
    (upright (record { x = l; y = t }) (record { x = le; y = u }) p (sym e))
down_line t u l le p v d (inr (inl e)) a =
    moved (down_crossing (record { x = l; y = t }) (record { x = le; y = u }) p) (pos p.scale *ℤ t) (pos p.scale *ℤ u) p.y (pos p.scale *ℤ (l -ℤ t)) (p.x -ℤ p.y) v p.x
    (let k = mul_lt p.scale t u p.positive d in let f = ap (λ (z : ℤ). pos p.scale *ℤ z) e in omega (arith, ints, mul_sub p.scale le l, mul_sub p.scale u t, mul_sub p.scale l t))
    (rise (record { x = l; y = t }) (record { x = le; y = u }) p e)
down_line t u l le p v d (inr (inr e)) a =
    moved (down_crossing (record { x = l; y = t }) (record { x = le; y = u }) p) (pos p.scale *ℤ t) (pos p.scale *ℤ u) p.y (pos p.scale *ℤ (l +ℤ t)) (p.x +ℤ p.y) v p.x
    (let k = mul_lt p.scale t u p.positive d in let f = ap (λ (z : ℤ). pos p.scale *ℤ z) e in omega (arith, ints, mul_sub p.scale le l, mul_sub p.scale t u, mul_add p.scale l t))
    (fall (record { x = l; y = t }) (record { x = le; y = u }) p (omega (arith, ints)))

-- ---- the points of a side
abbrev down_edge : ℤ → ℤ → ℤ → ℤ → Edge
down_edge t u l le = record { start = record { x = l; y = t }; finish = record { x = le; y = u } }

abbrev LineAt : ℤ → ℤ → ℤ → ℤ → PlanePoint → ℤ → Type 0
LineAt t u l le p v = IsAt (pos p.scale *ℤ t) (pos p.scale *ℤ u) (pos p.scale *ℤ l) (pos p.scale *ℤ le) p.y v

on_down : (t u l le : ℤ) (p : PlanePoint) (v : ℤ) → t <ℤ u → IsSloped t u l le → LineAt t u l le p v
    → IsOn (down_edge t u l le) p → ((pos p.scale *ℤ t) ≤ℤ p.y) × (p.y ≤ℤ (pos p.scale *ℤ u)) × (p.x ≡ v)
on_down t u l le p v d (inl e) a o =
    let k = mul_lt p.scale t u p.positive d in
    let f = ap (λ (z : ℤ). pos p.scale *ℤ z) e in
    let g = on_upright (down_edge t u l le) p (sym e) o in
    let h = o.along in
    (omega (arith, ints), omega (arith, ints), omega (arith, ints))
on_down t u l le p v d (inr (inl e)) a o =
    let k = mul_lt p.scale t u p.positive d in
    let f = ap (λ (z : ℤ). pos p.scale *ℤ z) e in
    let g = on_rise (down_edge t u l le) p e o in
    let h = o.along in
    (omega (arith, ints), omega (arith, ints), omega (arith, ints, mul_sub p.scale le l, mul_sub p.scale u t, mul_sub p.scale l t))
on_down t u l le p v d (inr (inr e)) a o =
    let k = mul_lt p.scale t u p.positive d in
    let f = ap (λ (z : ℤ). pos p.scale *ℤ z) e in
    let g = on_fall (down_edge t u l le) p (omega (arith, ints)) o in
    let h = o.along in
    (omega (arith, ints), omega (arith, ints), omega (arith, ints, mul_sub p.scale le l, mul_sub p.scale t u, mul_add p.scale l t))

down_on : (t u l le : ℤ) (p : PlanePoint) (v : ℤ) → t <ℤ u → IsSloped t u l le → LineAt t u l le p v
    → (pos p.scale *ℤ t) ≤ℤ p.y → p.y ≤ℤ (pos p.scale *ℤ u) → p.x ≡ v → IsOn (down_edge t u l le) p
down_on t u l le p v d (inl e) a h1 h2 x =
    let k = mul_lt p.scale t u p.positive d in
    let f = ap (λ (z : ℤ). pos p.scale *ℤ z) e in
    upright_on (down_edge t u l le) p (sym e) (omega (arith, ints)) (inl (h1, h2))
down_on t u l le p v d (inr (inl e)) a h1 h2 x =
    let k = mul_lt p.scale t u p.positive d in
    let f = ap (λ (z : ℤ). pos p.scale *ℤ z) e in
    rise_on (down_edge t u l le) p e (omega (arith, ints, mul_sub p.scale le l, mul_sub p.scale u t, mul_sub p.scale l t)) (inl (h1, h2))
down_on t u l le p v d (inr (inr e)) a h1 h2 x =
    let k = mul_lt p.scale t u p.positive d in
    let f = ap (λ (z : ℤ). pos p.scale *ℤ z) e in
    fall_on (down_edge t u l le) p (omega (arith, ints)) (omega (arith, ints, mul_sub p.scale le l, mul_sub p.scale t u, mul_add p.scale l t)) (inl (h1, h2))

sloped_octilinear : (t u l le : ℤ) → IsSloped t u l le → IsOctilinear (down_edge t u l le)
unfolding IsOctilinear
sloped_octilinear t u l le (inl e) = inr (inl (sym e))
sloped_octilinear t u l le (inr (inl e)) = inr (inr (inl e))
sloped_octilinear t u l le (inr (inr e)) = inr (inr (inr (omega (arith, ints))))

octilinear_turned : (e : Edge) → IsOctilinear e → IsOctilinear (turned_back e)
unfolding IsOctilinear turned_back
octilinear_turned e (inl h) = inl (sym h)
octilinear_turned e (inr (inl h)) = inr (inl (sym h))
octilinear_turned e (inr (inr (inl h))) = inr (inr (inl (omega (arith, ints))))
octilinear_turned e (inr (inr (inr h))) = inr (inr (inr (omega (arith, ints))))

left_down : (s : Strip) (p : PlanePoint) → IsRun s → IsOn (left_edge s) p → IsOn (down_edge s.top s.bottom s.left s.left_end) p
unfolding turned_back
left_down s p r o = on_turned p (left_edge s) (octilinear_turned (down_edge s.top s.bottom s.left s.left_end) (sloped_octilinear s.top s.bottom s.left s.left_end r.left)) o

down_left : (s : Strip) (p : PlanePoint) → IsRun s → IsOn (down_edge s.top s.bottom s.left s.left_end) p → IsOn (left_edge s) p
unfolding turned_back
down_left s p r o = on_turned p (down_edge s.top s.bottom s.left s.left_end) (sloped_octilinear s.top s.bottom s.left s.left_end r.left) o

-- ---- one strip
-- p is between the rows but not in the last, and between the sides but not on the left one
pub record IsHalf (low high y v w x : ℤ) : Type 0 where
  pub top : low ≤ℤ y
  pub bottom : y <ℤ high
  pub left : v <ℤ x
  pub right : x ≤ℤ w

abbrev pub IsHalfIn : Strip → PlanePoint → ℤ → ℤ → Type 0
IsHalfIn s p v w = IsHalf (pos p.scale *ℤ s.top) (pos p.scale *ℤ s.bottom) p.y v w p.x

pair_plain : (low high y v w x : ℤ) (n m : ℕ) → (low ≤ℤ y → y ≤ℤ high → v ≤ℤ w) → Counts n low high y v x → Counts m low high y w x
    → (((n + m) % 2 ≡ 1) × IsHalf low high y v w x) ⊎ (((n + m) % 2 ≡ 0) × (IsHalf low high y v w x → ⊥))
pair_plain low high y v w x n m f (inl (e, h1, h2, h3)) (inl (g, k1, k2, k3)) = inr (omega arith, λ q. let z = q.right in omega (arith, ints))
pair_plain low high y v w x n m f (inl (e, h1, h2, h3)) (inr (g, k)) = inl (omega arith, record { top = h1; bottom = h2; left = h3; right = omega (arith, ints) })
pair_plain low high y v w x n m f (inr (e, h)) (inl (g, k1, k2, k3)) = absurd (let z = f k1 (omega (arith, ints)) in omega (arith, ints))
pair_plain low high y v w x n m f (inr (e, h)) (inr (g, k)) = inr (omega arith, λ q. let z1 = q.top in let z2 = q.bottom in let z3 = q.left in omega (arith, ints))

-- both sides of a strip together
pub pair : PlanePoint → Strip → ℕ
pair p s = crossing p (left_edge s) + crossing p (right_edge s)

run_sides : (s : Strip) (p : PlanePoint) (v w : ℤ) → IsRun s → IsLeftAt s p v → IsRightAt s p w → (pos p.scale *ℤ s.top) ≤ℤ p.y → p.y ≤ℤ (pos p.scale *ℤ s.bottom) → v ≤ℤ w
run_sides s p v w r a b h1 h2 =
    line_le (pos p.scale *ℤ s.top) (pos p.scale *ℤ s.bottom) p.y (pos p.scale *ℤ s.left) (pos p.scale *ℤ s.left_end) v (pos p.scale *ℤ s.right) (pos p.scale *ℤ s.right_end) w h1 h2 a b
    (mul_le p.scale s.left s.right r.start) (mul_le p.scale s.left_end s.right_end r.finish)

pair_is : (s : Strip) (p : PlanePoint) → s.top <ℤ s.bottom
    → pair p s ≡ down_crossing (record { x = s.left; y = s.top }) (record { x = s.left_end; y = s.bottom }) p + down_crossing (record { x = s.right; y = s.top }) (record { x = s.right_end; y = s.bottom }) p
unfolding pair crossing
pair_is s p d =
    omega (
      arith,
      none_up (record { x = s.left_end; y = s.bottom }) (record { x = s.left; y = s.top }) p (omega (arith, ints)),
      none_up (record { x = s.right_end; y = s.bottom }) (record { x = s.right; y = s.top }) p (omega (arith, ints)),
    )

pub IsPairCount : ℕ → Strip → PlanePoint → ℤ → ℤ → Type 0
IsPairCount n s p v w = ((n % 2 ≡ 1) × IsHalfIn s p v w) ⊎ ((n % 2 ≡ 0) × (IsHalfIn s p v w → ⊥))

pair_counts : (s : Strip) (p : PlanePoint) (v w : ℤ) → s.top <ℤ s.bottom → IsRun s → IsLeftAt s p v → IsRightAt s p w → IsPairCount (pair p s) s p v w
unfolding IsPairCount
pair_counts s p v w d r a b =
    rw (pair_is s p d)
    (pair_plain (pos p.scale *ℤ s.top) (pos p.scale *ℤ s.bottom) p.y v w p.x
    (down_crossing (record { x = s.left; y = s.top }) (record { x = s.left_end; y = s.bottom }) p) (down_crossing (record { x = s.right; y = s.top }) (record { x = s.right_end; y = s.bottom }) p)
    (run_sides s p v w r a b) (down_line s.top s.bottom s.left s.left_end p v d r.left a) (down_line s.top s.bottom s.right s.right_end p w d r.right b))

-- ---- a list of strips
-- in the strip, neither in its last row nor on its left side
pub record IsHalfOpen (s : Strip) (p : PlanePoint) : Type 0 where
  pub inside : IsInStrip s p
  pub above : p.y <ℤ (pos p.scale *ℤ s.bottom)
  pub off : IsOn (left_edge s) p → ⊥

half_open : (s : Strip) (p : PlanePoint) (v w : ℤ) → s.top <ℤ s.bottom → IsRun s → IsLeftAt s p v → IsRightAt s p w → IsHalfIn s p v w → IsHalfOpen s p
half_open s p v w d r a b h =
    let t = h.top in
    let u = h.bottom in
    let l = h.left in
    record {
      inside = between_strip s p v w d r a b (record { top = t; bottom = omega (arith, ints, u); left = omega (arith, ints, l); right = h.right });
      above = u;
      off = λ o. (let z = on_down s.top s.bottom s.left s.left_end p v d r.left a (left_down s p r o) in let e = z.2 in omega (arith, ints, l, e));
    }

open_half : (s : Strip) (p : PlanePoint) (v w : ℤ) → s.top <ℤ s.bottom → IsRun s → IsLeftAt s p v → IsRightAt s p w → IsHalfOpen s p → IsHalfIn s p v w
open_half s p v w d r a b h =
    let z = strip_between s p v w d r a b h.inside in
    let l = z.left in
    record {
      top = z.top;
      bottom = h.above;
      left = by_lt_z {P = v <ℤ p.x} v p.x (λ m. m) (λ m. absurd (h.off (down_left s p r (down_on s.top s.bottom s.left s.left_end p v d r.left a z.top z.bottom (omega (arith, ints, l, m))))));
      right = z.right;
    }

-- each strip has rows and sides in order
abbrev pub IsSound : Strip → Type 0
IsSound s = (s.top <ℤ s.bottom) × IsRun s

unfoldable pub AreSound : List Strip → Type 0
AreSound [] = Unit {0}
AreSound (s ∷ ss) = IsSound s × AreSound ss

unfoldable pub IsBeforeAll : Strip → List Strip → Type 0
IsBeforeAll a [] = Unit {0}
IsBeforeAll a (b ∷ bs) = IsStripBefore a b × IsBeforeAll a bs

unfoldable pub AreInOrder : List Strip → Type 0
AreInOrder [] = Unit {0}
AreInOrder (s ∷ ss) = IsBeforeAll s ss × AreInOrder ss

pub total : PlanePoint → List Strip → ℕ
total p [] = 0
total p (s ∷ ss) = pair p s + total p ss

pair_odd : (s : Strip) (p : PlanePoint) → IsSound s → ((pair p s % 2 ≡ 1) × IsHalfOpen s p) ⊎ ((pair p s % 2 ≡ 0) × (IsHalfOpen s p → ⊥))
unfolding IsPairCount
pair_odd s p k =
    let d = k.0 in
    let r = k.1 in
    let z = sides s p r in
    elim (pair_counts s p z.0 z.1 d r z.2 z.3) [
      | inl h ↦ inl (h.0, half_open s p z.0 z.1 d r z.2 z.3 h.1)
      | inr h ↦ inr (h.0, λ o. h.1 (open_half s p z.0 z.1 d r z.2 z.3 o))
    ]

-- no point is half open in two strips
not_both : (a b : Strip) (p : PlanePoint) → IsSound a → IsSound b → IsStripBefore a b → IsHalfOpen a p → IsHalfOpen b p → ⊥
not_both a b p ka kb (inl h) x y =
    let u = x.above in
    let i = y.inside in
    let t = i.top in
    omega (arith, ints, mul_le p.scale a.bottom b.top h, u, t)
not_both a b p ka kb (inr (e, f, h)) x y =
    let za = sides a p ka.1 in
    let zb = sides b p kb.1 in
    let ha = open_half a p za.0 za.1 ka.0 ka.1 za.2 za.3 x in
    let hb = open_half b p zb.0 zb.1 kb.0 kb.1 zb.2 zb.3 y in
    let r = ha.right in
    let l = hb.left in
    let n = line_le (pos p.scale *ℤ a.top) (pos p.scale *ℤ a.bottom) p.y (pos p.scale *ℤ a.right) (pos p.scale *ℤ a.right_end) za.1 (pos p.scale *ℤ b.left) (pos p.scale *ℤ b.left_end) zb.0
    ha.top (let u = ha.bottom in omega (arith, ints, u)) za.3
    (subst (λ (z : ℤ). IsAt (pos p.scale *ℤ z) (pos p.scale *ℤ a.bottom) (pos p.scale *ℤ b.left) (pos p.scale *ℤ b.left_end) p.y zb.0) (sym e)
    (subst (λ (z : ℤ). IsAt (pos p.scale *ℤ b.top) (pos p.scale *ℤ z) (pos p.scale *ℤ b.left) (pos p.scale *ℤ b.left_end) p.y zb.0) (sym f) zb.2))
    (mul_le p.scale a.right b.left h.start) (mul_le p.scale a.right_end b.left_end h.finish) in
    omega (arith, ints, r, l, n)

abbrev SomeOpen : PlanePoint → List Strip → Type 0
SomeOpen p ss = Any (λ s. IsHalfOpen s p) ss

none_after : (a : Strip) (ss : List Strip) (p : PlanePoint) → IsSound a → AreSound ss → IsBeforeAll a ss → IsHalfOpen a p → SomeOpen p ss → ⊥
unfolding AreSound IsBeforeAll
none_after a [] p k ks b h i = any_none (λ s. IsHalfOpen s p) i
none_after a (s ∷ ss) p k ks b h i =
    elim (any_cases (λ s. IsHalfOpen s p) s ss i) [ inl j ↦ not_both a s p k ks.0 b.0 h j | inr j ↦ none_after a ss p k ks.1 b.1 h j ]

total_odd : (ss : List Strip) (p : PlanePoint) → AreSound ss → AreInOrder ss → ((total p ss % 2 ≡ 1) × SomeOpen p ss) ⊎ ((total p ss % 2 ≡ 0) × (SomeOpen p ss → ⊥))
unfolding AreSound AreInOrder total
total_odd [] p k o = inr (refl, λ i. any_none (λ s. IsHalfOpen s p) i)
total_odd (s ∷ ss) p k o = both (pair p s) (total p ss) (pair_odd s p k.0) (total_odd ss p k.1 o.1)
  where
    both : (n m : ℕ) → (((n % 2 ≡ 1) × IsHalfOpen s p) ⊎ ((n % 2 ≡ 0) × (IsHalfOpen s p → ⊥))) → (((m % 2 ≡ 1) × SomeOpen p ss) ⊎ ((m % 2 ≡ 0) × (SomeOpen p ss → ⊥)))
        → (((n + m) % 2 ≡ 1) × SomeOpen p (s ∷ ss)) ⊎ (((n + m) % 2 ≡ 0) × (SomeOpen p (s ∷ ss) → ⊥))
    both n m (inl x) (inl y) = absurd (none_after s ss p k.0 k.1 o.0 x.1 y.1)
    both n m (inl (e, h)) (inr (f, g)) = inl (omega arith, any_head (λ s. IsHalfOpen s p) s ss h)
    both n m (inr (e, h)) (inl (f, g)) = inl (omega arith, any_tail (λ s. IsHalfOpen s p) s ss g)
    both n m (inr (e, h)) (inr (f, g)) = inr (omega arith, λ i. elim (any_cases (λ s. IsHalfOpen s p) s ss i) [ inl j ↦ h j | inr j ↦ g j ])

sides_total : (ss : List Strip) (p : PlanePoint) → crossings (side_edges ss) p ≡ total p ss
unfolding total pair side_edges
sides_total [] p = refl
sides_total (s ∷ ss) p =
    let a = sum_by-cons (crossing p) (left_edge s) (right_edge s ∷ side_edges ss) in
    let b = sum_by-cons (crossing p) (right_edge s) (side_edges ss) in
    let c = sides_total ss p in
    omega arith

-- ---- level edges do not count
level_none : (p : PlanePoint) (e : Edge) → e.start.y ≡ e.finish.y → crossing p e ≡ 0
unfolding crossing
level_none p e h = omega (arith, none_up e.start e.finish p (omega (arith, ints)), none_up e.finish e.start p (omega (arith, ints)))

levels_none : (p : PlanePoint) (es : List Edge) → All (λ e. e.start.y ≡ e.finish.y) es → crossings es p ≡ 0
levels_none p es h = let s = sum_by-le (crossing p) 0 es (λ k d l. (let z = level_none p (get_or es k d) (h k d l) in omega arith)) in omega arith

-- ---- the law
abbrev SomeIn : PlanePoint → List Strip → Type 0
SomeIn p ss = Any (λ s. IsInStrip s p) ss

abbrev OnSome : PlanePoint → List Edge → Type 0
OnSome p es = Any (λ e. IsOn e p) es

on_left_in : (s : Strip) (p : PlanePoint) → IsSound s → IsOn (left_edge s) p → IsInStrip s p
on_left_in s p k o =
    let z = sides s p k.1 in
    let h = on_down s.top s.bottom s.left s.left_end p z.0 k.0 (k.1).left z.2 (left_down s p k.1 o) in
    let n = run_sides s p z.0 z.1 k.1 z.2 z.3 h.0 h.1 in
    let e = h.2 in
    between_strip s p z.0 z.1 k.0 k.1 z.2 z.3 (record { top = h.0; bottom = h.1; left = omega (arith, ints, e); right = omega (arith, ints, e, n) })

on_right_in : (s : Strip) (p : PlanePoint) → IsSound s → IsOn (right_edge s) p → IsInStrip s p
on_right_in s p k o =
    let z = sides s p k.1 in
    let h = on_down s.top s.bottom s.right s.right_end p z.1 k.0 (k.1).right z.3 o in
    let n = run_sides s p z.0 z.1 k.1 z.2 z.3 h.0 h.1 in
    let e = h.2 in
    between_strip s p z.0 z.1 k.0 k.1 z.2 z.3 (record { top = h.0; bottom = h.1; left = omega (arith, ints, e, n); right = omega (arith, ints, e) })

on_sides_in : (ss : List Strip) (p : PlanePoint) → AreSound ss → OnSome p (side_edges ss) → SomeIn p ss
unfolding AreSound side_edges
on_sides_in [] p k i = absurd (any_none (λ e. IsOn e p) i)
on_sides_in (s ∷ ss) p k i =
    elim (any_cases (λ e. IsOn e p) (left_edge s) (right_edge s ∷ side_edges ss) i) [
      | inl j ↦ any_head (λ s. IsInStrip s p) s ss (on_left_in s p k.0 j)
      | inr i ↦
          elim (any_cases (λ e. IsOn e p) (right_edge s) (side_edges ss) i) [
            | inl j ↦ any_head (λ s. IsInStrip s p) s ss (on_right_in s p k.0 j)
            | inr j ↦ any_tail (λ s. IsInStrip s p) s ss (on_sides_in ss p k.1 j)
          ]
    ]

-- a point of a strip that is not in its last row is on its left side or half open in it
open_or_left : (ss : List Strip) (p : PlanePoint) → AreSound ss → Any (λ s. IsInStrip s p × (p.y <ℤ (pos p.scale *ℤ s.bottom))) ss → OnSome p (side_edges ss) ⊎ SomeOpen p ss
unfolding AreSound side_edges
open_or_left [] p k i = absurd (any_none (λ s. IsInStrip s p × (p.y <ℤ (pos p.scale *ℤ s.bottom))) i)
open_or_left (s ∷ ss) p k i =
    elim (any_cases (λ s. IsInStrip s p × (p.y <ℤ (pos p.scale *ℤ s.bottom))) s ss i) [
      | inl j ↦ here s k.0 j.0 j.1
      | inr j ↦
          elim (open_or_left ss p k.1 j) [
            | inl x ↦ inl (any_tail (λ e. IsOn e p) (left_edge s) (right_edge s ∷ side_edges ss) (any_tail (λ e. IsOn e p) (right_edge s) (side_edges ss) x))
            | inr x ↦ inr (any_tail (λ s. IsHalfOpen s p) s ss x)
          ]
    ]
  where
    here : (s : Strip) → IsSound s → IsInStrip s p → p.y <ℤ (pos p.scale *ℤ s.bottom) → OnSome p (left_edge s ∷ right_edge s ∷ side_edges ss) ⊎ SomeOpen p (s ∷ ss)
    here s k i u =
        let z = sides s p k.1 in
        let b = strip_between s p z.0 z.1 k.0 k.1 z.2 z.3 i in
        let l = b.left in
        by_lt_z {P = OnSome p (left_edge s ∷ right_edge s ∷ side_edges ss) ⊎ SomeOpen p (s ∷ ss)} z.0 p.x
        (λ m. inr (any_head (λ s. IsHalfOpen s p) s ss (half_open s p z.0 z.1 k.0 k.1 z.2 z.3 (record { top = b.top; bottom = u; left = m; right = b.right }))))
        (λ m. inl (any_head (λ e. IsOn e p) (left_edge s) (right_edge s ∷ side_edges ss)
        (down_left s p k.1 (down_on s.top s.bottom s.left s.left_end p z.0 k.0 (k.1).left z.2 b.top b.bottom (omega (arith, ints, l, m))))))

open_in : (ss : List Strip) (p : PlanePoint) → SomeOpen p ss → SomeIn p ss
open_in ss p i = let h = i.4 in (i.0, i.1, i.2, i.3, h.inside)

-- level edges on the strips, such that a point of a strip's last row that no strip has in its first row is on one of them or on a side
pub record IsLevelCover (ss : List Strip) (hs : List Edge) : Type 0 where
  pub level : All (λ e. e.start.y ≡ e.finish.y) hs
  pub within : (p : PlanePoint) → Any (λ e. IsOn e p) hs → Any (λ s. IsInStrip s p) ss
  pub all : (p : PlanePoint) → Any (λ s. IsInStrip s p × (p.y ≡ pos p.scale *ℤ s.bottom)) ss
      → (Any (λ e. IsOn e p) (side_edges ss ++ hs) ⊎ Any (λ s. IsInStrip s p × (p.y ≡ pos p.scale *ℤ s.top)) ss)

crossings_all : (ss : List Strip) (hs : List Edge) (p : PlanePoint) → IsLevelCover ss hs → crossings (side_edges ss ++ hs) p ≡ total p ss
crossings_all ss hs p l =
    let a = crossings_append p (side_edges ss) hs in
    let b = sides_total ss p in
    let c = levels_none p hs l.level in
    omega arith

-- a point of a strip's first row is not in its last
at_top : (ss : List Strip) (p : PlanePoint) → AreSound ss → Any (λ s. IsInStrip s p × (p.y ≡ pos p.scale *ℤ s.top)) ss → Any (λ s. IsInStrip s p × (p.y <ℤ (pos p.scale *ℤ s.bottom))) ss
unfolding AreSound
at_top [] p k i = absurd (any_none (λ s. IsInStrip s p × (p.y ≡ pos p.scale *ℤ s.top)) i)
at_top (s ∷ ss) p k i =
    elim (any_cases (λ s. IsInStrip s p × (p.y ≡ pos p.scale *ℤ s.top)) s ss i) [
      | inl j ↦
          any_head (λ s. IsInStrip s p × (p.y <ℤ (pos p.scale *ℤ s.bottom))) s ss
          (j.0, (let d = mul_lt p.scale s.top s.bottom p.positive (k.0).0 in let e = j.1 in omega (arith, ints, d, e)))
      | inr j ↦ any_tail (λ s. IsInStrip s p × (p.y <ℤ (pos p.scale *ℤ s.bottom))) s ss (at_top ss p k.1 j)
    ]

-- the sides and the level parts cover exactly the strips
pub boundary_law : (ss : List Strip) (hs : List Edge) (p : PlanePoint) → AreSound ss → AreInOrder ss → IsLevelCover ss hs
    → Covers (side_edges ss ++ hs) p ↔ Any (λ s. IsInStrip s p) ss
unfolding Covers
boundary_law ss hs p k o l = (to, from)
  where
    to : Covers (side_edges ss ++ hs) p → SomeIn p ss
    to (inl i) = elim (any_parts (λ e. IsOn e p) (side_edges ss) hs i) [ inl j ↦ on_sides_in ss p k j | inr j ↦ l.within p j ]
    to (inr i) =
        let e = crossings_all ss hs p l in
        elim (total_odd ss p k o) [ inl h ↦ open_in ss p h.1 | inr h ↦ absurd (let z = h.0 in omega arith) ]

    early : Any (λ s. IsInStrip s p × (p.y <ℤ (pos p.scale *ℤ s.bottom))) ss → Covers (side_edges ss ++ hs) p
    early i =
        elim (open_or_left ss p k i) [
          | inl j ↦ inl (any_left (λ e. IsOn e p) (side_edges ss) hs j)
          | inr j ↦ inr (let e = crossings_all ss hs p l in elim (total_odd ss p k o) [ inl h ↦ (let z = h.0 in omega arith) | inr h ↦ absurd (h.1 j) ])
        ]

    from : SomeIn p ss → Covers (side_edges ss ++ hs) p
    from i =
        let h = i.4 in
        by_lt_z {P = Covers (side_edges ss ++ hs) p} p.y (pos p.scale *ℤ (i.1).bottom)
        (λ m. early (i.0, i.1, i.2, i.3, (h, m)))
        (λ m.
        let b = h.bottom in
        elim (l.all p (i.0, i.1, i.2, i.3, (h, omega (arith, ints, b, m)))) [
          | inl j ↦ inl j
          | inr j ↦ early (at_top ss p k j)
        ])
