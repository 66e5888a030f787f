-- Which cuts are crossed on the way from a point to the left: those of its slab up to some place.
use Rattle.std.proofs.Common.{◌≡◌, ℕ, ◌+◌, ◌≤◌, ◌⊎◌, inl, inr, arith, List}
use Rattle.std.specs.Prelude.{ℤ, pos, ◌*ℤ◌, ◌≤ℤ◌, ◌<ℤ◌}
use Rattle.std.proofs.lemmas.Int.{ints, by_lt_z}
use Rattle.plane.specs.Plane.{PlanePoint, grid_point}
use Rattle.grid_num.proofs.Products.{mul_le}
use Rattle.plane.specs.Covering.{Edge, Between, crossing}
use Rattle.plane.specs.Ends.{crossing_below}
use Rattle.plane.proofs.Counts.{Counts}
use Rattle.slabs.specs.Slabs.{IsAmong, IsAt, IsInLine, IsCutOfEdge, IsFramed, IsWay}
use Rattle.slabs.proofs.At.{Passes, passes, ordered, somewhere, steep, crosses}
use Rattle.plane.proofs.Below.{CountsBelow}
use Rattle.slabs.proofs.Below.{crosses_below}
use Rattle.slabs.proofs.Order.{one_of}
use Rattle.slabs.proofs.Pairs.{IsMarking, IsTop}

pub way : (rows : List ℤ) (e c : Edge) → IsCutOfEdge rows e c → IsWay c
way rows e c a = record { down = a.down; steep = steep e c a.line }

pub order_at : (c d : Edge) (k : ℕ) (y z z' : ℤ) → IsFramed c d → IsAt c k y z → IsAt d k y z' → (pos k *ℤ c.start.y) ≤ℤ y → y ≤ℤ (pos k *ℤ c.finish.y) → z ≤ℤ z'
order_at c d k y z z' f a b l m =
    let q : Passes (pos k *ℤ c.start.y) (pos k *ℤ c.finish.y) (pos k *ℤ d.start.x) (pos k *ℤ d.finish.x) y z' = rw (f.top, f.bottom) (passes d k y z' b) in
    ordered (pos k *ℤ c.start.y) (pos k *ℤ c.finish.y) (pos k *ℤ c.start.x) (pos k *ℤ c.finish.x) (pos k *ℤ d.start.x) (pos k *ℤ d.finish.x) y z z'
    (mul_le k c.start.x d.start.x f.upper) (mul_le k c.finish.x d.finish.x f.lower) l m (passes c k y z a) q

-- ---- the end of lesser y counts
count_bit : (n : ℕ) (low high y z x : ℤ) → Counts n low high y z x → n ≤ 1
count_bit n low high y z x (inl h) = omega (arith, h.0)
count_bit n low high y z x (inr h) = omega (arith, h.0)

count_falls : (n m : ℕ) (low high y z z' x : ℤ) → Counts n low high y z x → Counts m low high y z' x → (low ≤ℤ y → y ≤ℤ high → z ≤ℤ z') → m ≤ n
count_falls n m low high y z z' x a (inr b) f = omega (arith, b.0)
count_falls n m low high y z z' x (inl a) (inl b) f = omega (arith, a.0, b.0)
count_falls n m low high y z z' x (inr a) (inl b) f = let g = f b.1 (omega (arith, ints, b)) in absurd (omega (arith, ints, a, b, g))

count_once : (n m : ℕ) (low high low' high' y z z' x : ℤ) → Counts n low high y z x → Counts m low' high' y z' x → high ≤ℤ low' → n + m ≤ 1
count_once n m low high low' high' y z z' x (inl a) (inl b) l = absurd (omega (arith, ints))
count_once n m low high low' high' y z z' x (inl a) (inr b) l = omega (arith, a.0, b.0)
count_once n m low high low' high' y z z' x (inr a) (inl b) l = omega (arith, a.0, b.0)
count_once n m low high low' high' y z z' x (inr a) (inr b) l = omega (arith, a.0, b.0)

pub crossing_marks : (p : PlanePoint) → IsMarking (crossing p)
crossing_marks p = record {
  bit = λ c w. (let z = somewhere c p.scale p.y w.steep in count_bit _ _ _ _ _ _ (crosses c p z.0 w.down z.1));
  falls = λ c d w v f.
      (let z = somewhere c p.scale p.y w.steep in
      let u = somewhere d p.scale p.y v.steep in
      let b : Counts (crossing p d) (pos p.scale *ℤ c.start.y) (pos p.scale *ℤ c.finish.y) p.y u.0 p.x = rw (f.top, f.bottom) (crosses d p u.0 v.down u.1) in
      count_falls _ _ _ _ _ _ _ _ (crosses c p z.0 w.down z.1) b (λ l m. order_at c d p.scale p.y z.0 u.0 f z.1 u.1 l m));
  once = λ c d w v l.
      (let z = somewhere c p.scale p.y w.steep in
      let u = somewhere d p.scale p.y v.steep in
      count_once _ _ _ _ _ _ _ _ _ _ (crosses c p z.0 w.down z.1) (crosses d p u.0 v.down u.1) (mul_le p.scale c.finish.y d.start.y l));
}

-- ---- the end of greater y counts
below_bit : (n : ℕ) (low high y z x : ℤ) → CountsBelow n low high y z x → n ≤ 1
below_bit n low high y z x (inl h) = omega (arith, h.0)
below_bit n low high y z x (inr h) = omega (arith, h.0)

below_falls : (n m : ℕ) (low high y z z' x : ℤ) → CountsBelow n low high y z x → CountsBelow m low high y z' x → (low ≤ℤ y → y ≤ℤ high → z ≤ℤ z') → m ≤ n
below_falls n m low high y z z' x a (inr b) f = omega (arith, b.0)
below_falls n m low high y z z' x (inl a) (inl b) f = omega (arith, a.0, b.0)
below_falls n m low high y z z' x (inr a) (inl b) f = let g = f (omega (arith, ints, b)) b.2 in absurd (omega (arith, ints, a, b, g))

below_once : (n m : ℕ) (low high low' high' y z z' x : ℤ) → CountsBelow n low high y z x → CountsBelow m low' high' y z' x → high ≤ℤ low' → n + m ≤ 1
below_once n m low high low' high' y z z' x (inl a) (inl b) l = absurd (omega (arith, ints))
below_once n m low high low' high' y z z' x (inl a) (inr b) l = omega (arith, a.0, b.0)
below_once n m low high low' high' y z z' x (inr a) (inl b) l = omega (arith, a.0, b.0)
below_once n m low high low' high' y z z' x (inr a) (inr b) l = omega (arith, a.0, b.0)

pub below_marks : (p : PlanePoint) → IsMarking (crossing_below p)
below_marks p = record {
  bit = λ c w. (let z = somewhere c p.scale p.y w.steep in below_bit _ _ _ _ _ _ (crosses_below c p z.0 w.down z.1));
  falls = λ c d w v f.
      (let z = somewhere c p.scale p.y w.steep in
      let u = somewhere d p.scale p.y v.steep in
      let b : CountsBelow (crossing_below p d) (pos p.scale *ℤ c.start.y) (pos p.scale *ℤ c.finish.y) p.y u.0 p.x = rw (f.top, f.bottom) (crosses_below d p u.0 v.down u.1) in
      below_falls _ _ _ _ _ _ _ _ (crosses_below c p z.0 w.down z.1) b (λ l m. order_at c d p.scale p.y z.0 u.0 f z.1 u.1 l m));
  once = λ c d w v l.
      (let z = somewhere c p.scale p.y w.steep in
      let u = somewhere d p.scale p.y v.steep in
      below_once _ _ _ _ _ _ _ _ _ _ (crosses_below c p z.0 w.down z.1) (crosses_below d p u.0 v.down u.1) (mul_le p.scale c.finish.y d.start.y l));
}

-- ---- far to the right, in a row, just the cuts that start there are crossed
left_of_far : (e c : Edge) (far : ℤ) → IsInLine e c → Between e.start.y e.finish.y c.start.y → e.start.x <ℤ far → e.finish.x <ℤ far → c.start.x <ℤ far
unfolding IsInLine
left_of_far e c far (inl a) f l m = omega (arith, ints)
left_of_far e c far (inr (inl a)) f l m = omega (arith, ints)
left_of_far e c far (inr (inr a)) f l m = omega (arith, ints)

start_at : (c : Edge) (y z : ℤ) → c.start.y ≡ y → IsAt c 1 y z → z ≡ c.start.x
unfolding IsAt
start_at c y z e (inl a) = omega (arith, ints)
start_at c y z e (inr (inl a)) = omega (arith, ints)
start_at c y z e (inr (inr a)) = omega (arith, ints)

count_here : (n : ℕ) (c : Edge) (y z far : ℤ) → c.start.y <ℤ c.finish.y → c.start.y ≡ y → z <ℤ far → Counts n (pos 1 *ℤ c.start.y) (pos 1 *ℤ c.finish.y) y z far → n ≡ 1
count_here n c y z far d e l (inl h) = h.0
count_here n c y z far d e l (inr h) = absurd (omega (arith, ints, h, d, e, l))

count_else : (n : ℕ) (c : Edge) (y z far : ℤ) → (y <ℤ c.start.y) ⊎ (c.finish.y ≤ℤ y) → Counts n (pos 1 *ℤ c.start.y) (pos 1 *ℤ c.finish.y) y z far → n ≡ 0
count_else n c y z far o (inl h) = absurd (omega (arith, ints, h, o))
count_else n c y z far o (inr h) = h.0

pub top_marks : (rows : List ℤ) (e c : Edge) (far y : ℤ) → IsCutOfEdge rows e c → e.start.x <ℤ far → e.finish.x <ℤ far → IsAmong rows y → IsTop (λ (y : ℤ). crossing (grid_point far y)) y c
top_marks rows e c far y a l m row =
    let w = way rows e c a in
    let p = grid_point far y in
    let z = somewhere c 1 y w.steep in
    let n = crosses c p z.0 w.down z.1 in
    let out : (y <ℤ c.start.y) ⊎ (c.finish.y ≤ℤ y) → c.start.y ≡ y → ⊥ = λ o e. omega (arith, ints, o, e, w.down) in
    let no : (y <ℤ c.start.y) ⊎ (c.finish.y ≤ℤ y) → IsTop (λ (y : ℤ). crossing (grid_point far y)) y c = λ o. inr (out o, count_else (crossing p c) c y z.0 far o n) in
    by_lt_z {P = IsTop (λ (y : ℤ). crossing (grid_point far y)) y c} y c.start.y
    (λ h. no (inl h))
    (λ h. by_lt_z {P = IsTop (λ (y : ℤ). crossing (grid_point far y)) y c} c.start.y y
    (λ g. no (inr (elim (one_of (λ v. (v ≤ℤ c.start.y) ⊎ (c.finish.y ≤ℤ v)) rows y a.next row) [ inl v ↦ absurd (omega (arith, ints, v, g)) | inr v ↦ v ])))
    (λ g. (let e1 : c.start.y ≡ y = omega (arith, ints, h, g) in
    let s = start_at c y z.0 e1 z.1 in
    let f = left_of_far e c far a.line a.from l m in
    inl (e1, count_here (crossing p c) c y z.0 far w.down e1 (omega (arith, ints, s, f)) n))))
