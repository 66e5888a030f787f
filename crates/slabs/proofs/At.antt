-- Where a cut passes a row: order, common points and crossings in linear form.
use Rattle.std.proofs.Common.{◌≡◌, refl, sym, ◌∙◌, ℕ, ◌⊎◌, inl, inr, arith}
use Rattle.std.specs.Prelude.{ℤ, pos, neg_ℤ, ◌+ℤ◌, ◌-ℤ◌, ◌*ℤ◌, ◌≤ℤ◌, ◌<ℤ◌}
use Rattle.std.proofs.lemmas.Int.{ints}
use Rattle.plane.specs.Plane.{PlanePoint}
use Rattle.grid_num.proofs.Products.{mul_add, mul_sub, mul_le, mul_lt}
use Rattle.plane.specs.Covering.{Edge, IsOn, Between, crossing, down_crossing}
use Rattle.plane.proofs.Counts.{Counts, none_up, upright, rise, fall}
use Rattle.plane.proofs.On.{at, on_upright, upright_on, on_rise, rise_on, on_fall, fall_on}
use Rattle.slabs.specs.Slabs.{IsAt, IsInLine, IsSteep}

-- from the top row t, where the cut is at u, to the bottom row b, where it is at v, it passes row y at z
abbrev pub Passes : ℤ → ℤ → ℤ → ℤ → ℤ → ℤ → Type 0
Passes t b u v y z =
    ((v ≡ u) × (z ≡ u))
    ⊎ (((v -ℤ u ≡ b -ℤ t) × (z ≡ u +ℤ (y -ℤ t))) ⊎ ((v -ℤ u ≡ neg_ℤ (b -ℤ t)) × (z ≡ u -ℤ (y -ℤ t))))

pub ordered : (t b u v u' v' y z z' : ℤ) → u ≤ℤ u' → v ≤ℤ v' → t ≤ℤ y → y ≤ℤ b → Passes t b u v y z → Passes t b u' v' y z' → z ≤ℤ z'
ordered t b u v u' v' y z z' g h l m (inl a) (inl c) = omega (arith, ints)
ordered t b u v u' v' y z z' g h l m (inl a) (inr (inl c)) = omega (arith, ints)
ordered t b u v u' v' y z z' g h l m (inl a) (inr (inr c)) = omega (arith, ints)
ordered t b u v u' v' y z z' g h l m (inr (inl a)) (inl c) = omega (arith, ints)
ordered t b u v u' v' y z z' g h l m (inr (inl a)) (inr (inl c)) = omega (arith, ints)
ordered t b u v u' v' y z z' g h l m (inr (inl a)) (inr (inr c)) = omega (arith, ints)
ordered t b u v u' v' y z z' g h l m (inr (inr a)) (inl c) = omega (arith, ints)
ordered t b u v u' v' y z z' g h l m (inr (inr a)) (inr (inl c)) = omega (arith, ints)
ordered t b u v u' v' y z z' g h l m (inr (inr a)) (inr (inr c)) = omega (arith, ints)

pub passes : (c : Edge) (k : ℕ) (y z : ℤ) → IsAt c k y z → Passes (pos k *ℤ c.start.y) (pos k *ℤ c.finish.y) (pos k *ℤ c.start.x) (pos k *ℤ c.finish.x) y z
unfolding IsAt
passes c k y z (inl a) = inl (at k c.finish.x c.start.x a.0, a.1)
passes c k y z (inr (inl a)) =
    let m = at k (c.finish.x -ℤ c.start.x) (c.finish.y -ℤ c.start.y) a.0 in
    let f = mul_sub k c.finish.x c.start.x in
    let g = mul_sub k c.finish.y c.start.y in
    inr (inl (omega (arith, ints, m, f, g), a.1))
passes c k y z (inr (inr a)) =
    let m = at k (c.finish.x -ℤ c.start.x) (c.start.y -ℤ c.finish.y) (omega (arith, ints, a.0)) in
    let f = mul_sub k c.finish.x c.start.x in
    let g = mul_sub k c.start.y c.finish.y in
    inr (inr (omega (arith, ints, m, f, g), a.1))

-- a cut passes each row
pub somewhere : (c : Edge) (k : ℕ) (y : ℤ) → IsSteep c → (z : ℤ) × IsAt c k y z
unfolding IsAt
somewhere c k y (inl a) = (pos k *ℤ c.start.x, inl (a, refl))
somewhere c k y (inr (inl a)) = (pos k *ℤ c.start.x +ℤ (y -ℤ pos k *ℤ c.start.y), inr (inl (a, refl)))
somewhere c k y (inr (inr a)) = (pos k *ℤ c.start.x -ℤ (y -ℤ pos k *ℤ c.start.y), inr (inr (a, refl)))

pub steep : (e c : Edge) → IsInLine e c → IsSteep c
unfolding IsInLine
steep e c (inl a) = inl (omega (arith, ints, a))
steep e c (inr (inl a)) = inr (inl (omega (arith, ints, a)))
steep e c (inr (inr a)) = inr (inr (omega (arith, ints, a)))

-- cuts of one slab that change their order have a common point strictly inside the slab
pub swapped : (c d : Edge) → c.start.y <ℤ c.finish.y → c.start.y ≡ d.start.y → c.finish.y ≡ d.finish.y → c.start.x <ℤ d.start.x → d.finish.x <ℤ c.finish.x
    → IsSteep c → IsSteep d
    → (y : ℤ) × (z : ℤ) × ((pos 2 *ℤ c.start.y) <ℤ y) × (y <ℤ (pos 2 *ℤ c.finish.y)) × IsAt c 2 y z × IsAt d 2 y z
unfolding IsAt
swapped c d n t b l r (inl s) (inl w) = absurd (omega (arith, ints))
swapped c d n t b l r (inl s) (inr (inl w)) = absurd (omega (arith, ints))
swapped c d n t b l r (inl s) (inr (inr w)) =
    (pos 2 *ℤ c.start.y +ℤ pos 2 *ℤ (d.start.x -ℤ c.start.x), pos 2 *ℤ c.start.x, omega (arith, ints), omega (arith, ints), inl (s, refl), inr (inr (w, omega (arith, ints))))
swapped c d n t b l r (inr (inl s)) (inl w) =
    (pos 2 *ℤ c.start.y +ℤ pos 2 *ℤ (d.start.x -ℤ c.start.x), pos 2 *ℤ d.start.x, omega (arith, ints), omega (arith, ints), inr (inl (s, omega (arith, ints))), inl (w, refl))
swapped c d n t b l r (inr (inl s)) (inr (inl w)) = absurd (omega (arith, ints))
swapped c d n t b l r (inr (inl s)) (inr (inr w)) =
    (pos 2 *ℤ c.start.y +ℤ (d.start.x -ℤ c.start.x), c.start.x +ℤ d.start.x, omega (arith, ints), omega (arith, ints), inr (inl (s, omega (arith, ints))), inr (inr (w, omega (arith, ints))))
swapped c d n t b l r (inr (inr s)) (inl w) = absurd (omega (arith, ints))
swapped c d n t b l r (inr (inr s)) (inr (inl w)) = absurd (omega (arith, ints))
swapped c d n t b l r (inr (inr s)) (inr (inr w)) = absurd (omega (arith, ints))

-- ---- points of cuts
between_scaled : (k : ℕ) (a b t u y : ℤ) → Between a b t → Between a b u → (pos k *ℤ t) ≤ℤ y → y ≤ℤ (pos k *ℤ u) → Between (pos k *ℤ a) (pos k *ℤ b) y
between_scaled k a b t u y (inl g) (inl h) l m = inl (omega (arith, ints, l, mul_le k a t g.0), omega (arith, ints, m, mul_le k u b h.1))
between_scaled k a b t u y (inl g) (inr h) l m = inl (omega (arith, ints, l, mul_le k a t g.0), omega (arith, ints, m, mul_le k u b (omega (arith, ints, g, h))))
between_scaled k a b t u y (inr g) (inl h) l m = inl (omega (arith, ints, l, mul_le k a t (omega (arith, ints, g, h))), omega (arith, ints, m, mul_le k u b h.1))
between_scaled k a b t u y (inr g) (inr h) l m = inr (omega (arith, ints, l, mul_le k b t g.0), omega (arith, ints, m, mul_le k u a h.1))

-- a point of a cut is on its edge
pub cut_on : (e c : Edge) (p : PlanePoint) → c.start.y <ℤ c.finish.y → IsInLine e c → Between e.start.y e.finish.y c.start.y → Between e.start.y e.finish.y c.finish.y
    → (pos p.scale *ℤ c.start.y) ≤ℤ p.y → p.y ≤ℤ (pos p.scale *ℤ c.finish.y) → IsAt c p.scale p.y p.x → IsOn e p
unfolding IsInLine IsAt
cut_on e c p d (inl a) f g l m w =
    let s = at p.scale c.start.x e.start.x a.1 in
    upright_on e p a.0 (omega (arith, ints, d, a, w, s)) (between_scaled p.scale e.start.y e.finish.y c.start.y c.finish.y p.y f g l m)
cut_on e c p d (inr (inl a)) f g l m w =
    let s = at p.scale (c.start.x -ℤ c.start.y) (e.start.x -ℤ e.start.y) a.1 in
    let n = mul_sub p.scale c.start.x c.start.y in
    rise_on e p a.0 (omega (arith, ints, d, a, w, s, n)) (between_scaled p.scale e.start.y e.finish.y c.start.y c.finish.y p.y f g l m)
cut_on e c p d (inr (inr a)) f g l m w =
    let s = at p.scale (c.start.x +ℤ c.start.y) (e.start.x +ℤ e.start.y) a.1 in
    let n = mul_add p.scale c.start.x c.start.y in
    fall_on e p a.0 (omega (arith, ints, d, a, w, s, n)) (between_scaled p.scale e.start.y e.finish.y c.start.y c.finish.y p.y f g l m)

-- and where a point is on a cut, the cut passes the row of the point there
pub on_at : (c : Edge) (p : PlanePoint) → IsSteep c → IsOn c p → IsAt c p.scale p.y p.x
unfolding IsAt
on_at c p (inl a) o = inl (a, on_upright c p (sym a) o)
on_at c p (inr (inl a)) o = let w = on_rise c p a o in let m = mul_sub p.scale c.start.x c.start.y in inr (inl (a, omega (arith, ints, w, m)))
on_at c p (inr (inr a)) o = let w = on_fall c p a o in let m = mul_add p.scale c.start.x c.start.y in inr (inr (a, omega (arith, ints, w, m)))

pub along_down : (c : Edge) (p : PlanePoint) → c.start.y <ℤ c.finish.y → IsOn c p → ((pos p.scale *ℤ c.start.y) ≤ℤ p.y) × (p.y ≤ℤ (pos p.scale *ℤ c.finish.y))
along_down c p d o =
    let m = mul_lt p.scale c.start.y c.finish.y p.positive d in
    let b = o.along in
    (omega (arith, ints, m, b), omega (arith, ints, m, b))

-- ---- crossings of cuts
recount : (n : ℕ) (low high y line u z x : ℤ) → Counts n low high y line u → u -ℤ line ≡ x -ℤ z → Counts n low high y z x
recount n low high y line u z x (inl w) e = inl (w.0, w.1, w.2, omega (arith, ints, e, w.3))
recount n low high y line u z x (inr (f, inl w)) e = inr (f, inl w)
recount n low high y line u z x (inr (f, inr (inl w))) e = inr (f, inr (inl w))
recount n low high y line u z x (inr (f, inr (inr w))) e = inr (f, inr (inr (omega (arith, ints, e, w))))

same_count : (n m : ℕ) (low high y z x : ℤ) → m ≡ n → Counts n low high y z x → Counts m low high y z x
same_count n m low high y z x e (inl w) = inl (e ∙ w.0, w.1, w.2, w.3)
same_count n m low high y z x e (inr w) = inr (e ∙ w.0, w.1)

pub crosses : (c : Edge) (p : PlanePoint) (z : ℤ) → c.start.y <ℤ c.finish.y → IsAt c p.scale p.y z
    → Counts (crossing p c) (pos p.scale *ℤ c.start.y) (pos p.scale *ℤ c.finish.y) p.y z p.x
unfolding IsAt crossing
crosses c p z d w =
    let n = none_up c.finish c.start p (omega (arith, ints, d)) in
    same_count (down_crossing c.start c.finish p) _ (pos p.scale *ℤ c.start.y) (pos p.scale *ℤ c.finish.y) p.y z p.x (omega (arith, n)) (down w)
  where
    down : ((c.finish.x ≡ c.start.x) × (z ≡ pos p.scale *ℤ c.start.x))
        ⊎ (((c.finish.x -ℤ c.start.x ≡ c.finish.y -ℤ c.start.y) × (z ≡ pos p.scale *ℤ c.start.x +ℤ (p.y -ℤ pos p.scale *ℤ c.start.y)))
        ⊎ ((c.finish.x -ℤ c.start.x ≡ neg_ℤ (c.finish.y -ℤ c.start.y)) × (z ≡ pos p.scale *ℤ c.start.x -ℤ (p.y -ℤ pos p.scale *ℤ c.start.y))))
        → Counts (down_crossing c.start c.finish p) (pos p.scale *ℤ c.start.y) (pos p.scale *ℤ c.finish.y) p.y z p.x
    down (inl a) = recount _ _ _ _ (pos p.scale *ℤ c.start.x) p.x z p.x (upright c.start c.finish p (sym a.0)) (omega (arith, ints, a.1))
    down (inr (inl a)) =
        recount _ _ _ _ (pos p.scale *ℤ (c.start.x -ℤ c.start.y)) (p.x -ℤ p.y) z p.x (rise c.start c.finish p a.0) (omega (arith, ints, a.1, mul_sub p.scale c.start.x c.start.y))
    down (inr (inr a)) =
        recount _ _ _ _ (pos p.scale *ℤ (c.start.x +ℤ c.start.y)) (p.x +ℤ p.y) z p.x (fall c.start c.finish p a.0) (omega (arith, ints, a.1, mul_add p.scale c.start.x c.start.y))
