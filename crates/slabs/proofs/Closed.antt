-- Closed chains cross each row an even number of times.
use Rattle.std.proofs.Common.{◌≡◌, refl, sym, ℕ, zero, suc, ◌+◌, ◌%◌, ◌<◌, ◌⊎◌, inl, inr, arith, List, [], ◌∷◌, ◌++◌, length, get_or, cond}
use Rattle.std.specs.Prelude.{ℤ, pos, ◌+ℤ◌, ◌*ℤ◌, ◌≤ℤ◌, ◌<ℤ◌, sum_by, int_le}
use Rattle.std.specs.List.{All}
use Rattle.std.proofs.lemmas.Int.{ints, by_lt_z}
use Rattle.std.proofs.lemmas.List.Sums.{sum_by-cons, sum_by-append}
use Rattle.plane.specs.Plane.{PlanePoint, grid_point}
use Rattle.grid_num.proofs.Products.{mul_lt}
use Rattle.grid_num.specs.declared.Point.{Point}
use Rattle.plane.specs.Covering.{Edge, IsOn, crossing, edges_to, edges_of}
use Rattle.plane.specs.Edges.{turned_back, IsOctilinear, AreOctilinear}
use Rattle.plane.specs.Ends.{crossing_below}
use Rattle.plane.proofs.Counts.{Counts, most_true, most_false, none_up}
use Rattle.plane.proofs.On.{at}
use Rattle.plane.proofs.CoverLaws.{crossing_turned}
use Rattle.plane.proofs.Rows.{ends_law}
use Rattle.plane.proofs.Lists.{any_left, any_right, any_parts}
use Rattle.slabs.specs.Slabs.{IsLeftOf, IsSteep, MoreRowsLaw, ClosedTogetherLaw, ChainLaw}
use Rattle.slabs.proofs.At.{Passes, passes, somewhere, crosses}
use Rattle.slabs.proofs.Order.{all_head, all_tail}

-- ---- a place right of all edges
greater : (a b : ℤ) → (m : ℤ) × (a ≤ℤ m) × (b ≤ℤ m)
greater a b = by_lt_z {P = (m : ℤ) × (a ≤ℤ m) × (b ≤ℤ m)} a b (λ l. (b, omega (arith, ints), omega (arith, ints))) (λ l. (a, omega (arith, ints), l))

abbrev IsShort : ℤ → Edge → Type 0
IsShort far e = (e.start.x <ℤ far) × (e.finish.x <ℤ far)

pub far_of : (es : List Edge) → (far : ℤ) × All (λ e. (e.start.x <ℤ far) × (e.finish.x <ℤ far)) es
far_of [] = (pos 0, λ k d h. absurd (omega (arith, h)))
far_of (e ∷ es) =
    let w = far_of es in
    let m = greater e.start.x e.finish.x in
    let n = greater m.0 w.0 in
    (n.0 +ℤ pos 1, at n.0 w.0 w.1 n.2 (omega (arith, ints, m.1, n.1), omega (arith, ints, m.2, n.1)))
  where
    at : (n f : ℤ) → All (IsShort f) es → f ≤ℤ n → IsShort (n +ℤ pos 1) e → (k : ℕ) (d : Edge) → k < length (e ∷ es) → IsShort (n +ℤ pos 1) (get_or (e ∷ es) k d)
    at n f all l one zero d h = one
    at n f all l one (suc k) d h =
        let o = all k d (omega (arith, h)) in
        (omega (arith, ints, o.0, l), omega (arith, ints, o.1, l))

pub far_left : (es : List Edge) (far y : ℤ) → All (λ e. (e.start.x <ℤ far) × (e.finish.x <ℤ far)) es → All (IsLeftOf (grid_point far y)) es
far_left es far y all = λ k d h. (let o = all k d h in record { start = omega (arith, ints, o.0); finish = omega (arith, ints, o.1) })

-- ---- one edge and its ends in a row: an even number
-- 1 where the corner is in the row of p or above it
unfoldable above : PlanePoint → Point → ℕ
above p v = cond (int_le (pos p.scale *ℤ v.y) p.y) 1 0

above_is : (p : PlanePoint) (v : Point) → (((pos p.scale *ℤ v.y) ≤ℤ p.y) × (above p v ≡ 1)) ⊎ ((p.y <ℤ (pos p.scale *ℤ v.y)) × (above p v ≡ 0))
unfolding above
above_is p v =
    by_lt_z {P = (((pos p.scale *ℤ v.y) ≤ℤ p.y) × (cond (int_le (pos p.scale *ℤ v.y) p.y) 1 0 ≡ 1)) ⊎ ((p.y <ℤ (pos p.scale *ℤ v.y)) × (cond (int_le (pos p.scale *ℤ v.y) p.y) 1 0 ≡ 0))} p.y (pos p.scale *ℤ v.y)
    (λ l. let e = most_false (pos p.scale *ℤ v.y) p.y l in rw e (inr (l, refl)))
    (λ l. let e = most_true (pos p.scale *ℤ v.y) p.y l in rw e (inl (l, refl)))

left_at : (t b u v y z x : ℤ) → u <ℤ x → v <ℤ x → t ≤ℤ y → y ≤ℤ b → Passes t b u v y z → z <ℤ x
left_at t b u v y z x l m g h (inl a) = omega (arith, ints)
left_at t b u v y z x l m g h (inr (inl a)) = omega (arith, ints)
left_at t b u v y z x l m g h (inr (inr a)) = omega (arith, ints)

even_plain : (n f g : ℕ) (low high y z x : ℤ) → low <ℤ high → (low ≤ℤ y → y ≤ℤ high → z <ℤ x) → Counts n low high y z x
    → ((low ≤ℤ y) × (f ≡ 1)) ⊎ ((y <ℤ low) × (f ≡ 0)) → ((high ≤ℤ y) × (g ≡ 1)) ⊎ ((y <ℤ high) × (g ≡ 0)) → (n + f + g) % 2 ≡ 0
even_plain n f g low high y z x d left c (inl a) (inl b) = let w = b.0 in let u = a.1 in let v = b.1 in let k = no c w in omega (arith, k, u, v)
  where
    no : Counts n low high y z x → high ≤ℤ y → n ≡ 0
    no (inl h) w = absurd (omega (arith, ints, h, w))
    no (inr h) w = h.0
even_plain n f g low high y z x d left c (inl a) (inr b) = let u = a.1 in let v = b.1 in let k = yes c a.0 b.0 in omega (arith, k, u, v)
  where
    yes : Counts n low high y z x → low ≤ℤ y → y <ℤ high → n ≡ 1
    yes (inl h) w o = h.0
    yes (inr h) w o = let q = left w (omega (arith, ints, o)) in absurd (omega (arith, ints, h, w, o, q))
even_plain n f g low high y z x d left c (inr a) (inl b) = absurd (omega (arith, ints, a.0, b.0, d))
even_plain n f g low high y z x d left c (inr a) (inr b) = let w = a.0 in let u = a.1 in let v = b.1 in let k = no c w in omega (arith, k, u, v)
  where
    no : Counts n low high y z x → y <ℤ low → n ≡ 0
    no (inl h) w = absurd (omega (arith, ints, h, w))
    no (inr h) w = h.0

pub steep_of : (e : Edge) → IsOctilinear e → e.start.y <ℤ e.finish.y → IsSteep e
unfolding IsOctilinear
steep_of e (inl h) d = absurd (omega (arith, ints, h, d))
steep_of e (inr (inl h)) d = inl (sym h)
steep_of e (inr (inr h)) d = inr h

even_down : (e : Edge) (p : PlanePoint) → IsOctilinear e → IsLeftOf p e → e.start.y <ℤ e.finish.y → (crossing p e + above p e.start + above p e.finish) % 2 ≡ 0
even_down e p o l d =
    let k = p.scale in
    let z = somewhere e k p.y (steep_of e o d) in
    even_plain (crossing p e) (above p e.start) (above p e.finish) (pos k *ℤ e.start.y) (pos k *ℤ e.finish.y) p.y z.0 p.x (mul_lt k e.start.y e.finish.y p.positive d)
    (λ g h. left_at (pos k *ℤ e.start.y) (pos k *ℤ e.finish.y) (pos k *ℤ e.start.x) (pos k *ℤ e.finish.x) p.y z.0 p.x l.start l.finish g h (passes e k p.y z.0 z.1))
    (crosses e p z.0 d z.1) (above_is p e.start) (above_is p e.finish)

pub turned_octilinear : (e : Edge) → IsOctilinear e → IsOctilinear (turned_back e)
unfolding IsOctilinear turned_back
turned_octilinear e (inl h) = inl (sym h)
turned_octilinear e (inr (inl h)) = inr (inl (sym h))
turned_octilinear e (inr (inr (inl h))) = inr (inr (inl (omega (arith, ints))))
turned_octilinear e (inr (inr (inr h))) = inr (inr (inr (omega (arith, ints))))

even_up : (e : Edge) (p : PlanePoint) → IsOctilinear e → IsLeftOf p e → e.finish.y <ℤ e.start.y → (crossing p e + above p e.start + above p e.finish) % 2 ≡ 0
unfolding turned_back
even_up e p o l d =
    let h = even_down (turned_back e) p (turned_octilinear e o) (record { start = l.finish; finish = l.start }) d in
    let t = crossing_turned p e in
    omega (arith, h, t)

level_crossing : (e : Edge) (p : PlanePoint) → e.start.y ≡ e.finish.y → crossing p e ≡ 0
unfolding crossing
level_crossing e p h = omega (arith, none_up e.start e.finish p (omega (arith, ints)), none_up e.finish e.start p (omega (arith, ints)))

pub level_none : (e : Edge) (p : PlanePoint) → e.start.y ≡ e.finish.y → crossing p e ≡ 0
level_none e p h = level_crossing e p h

even_level : (e : Edge) (p : PlanePoint) → e.start.y ≡ e.finish.y → (crossing p e + above p e.start + above p e.finish) % 2 ≡ 0
even_level e p h =
    let n = level_crossing e p h in
    let k = at p.scale e.start.y e.finish.y h in
    let a = above_is p e.start in
    let b = above_is p e.finish in
    same (pos p.scale *ℤ e.start.y) (pos p.scale *ℤ e.finish.y) p.y (crossing p e) (above p e.start) (above p e.finish) n k a b
  where
    same : (t b y : ℤ) (n f g : ℕ) → n ≡ 0 → t ≡ b → ((t ≤ℤ y) × (f ≡ 1)) ⊎ ((y <ℤ t) × (f ≡ 0)) → ((b ≤ℤ y) × (g ≡ 1)) ⊎ ((y <ℤ b) × (g ≡ 0)) → (n + f + g) % 2 ≡ 0
    same t b y n f g o e (inl u) (inl v) = omega (arith, o, u.1, v.1)
    same t b y n f g o e (inl u) (inr v) = absurd (omega (arith, ints, e, u.0, v.0))
    same t b y n f g o e (inr u) (inl v) = absurd (omega (arith, ints, e, u.0, v.0))
    same t b y n f g o e (inr u) (inr v) = omega (arith, o, u.1, v.1)

even_edge : (e : Edge) (p : PlanePoint) → IsOctilinear e → IsLeftOf p e → (crossing p e + above p e.start + above p e.finish) % 2 ≡ 0
even_edge e p o l =
    by_lt_z {P = (crossing p e + above p e.start + above p e.finish) % 2 ≡ 0} e.start.y e.finish.y
    (λ d. even_down e p o l d)
    (λ d. by_lt_z {P = (crossing p e + above p e.start + above p e.finish) % 2 ≡ 0} e.finish.y e.start.y
    (λ u. even_up e p o l u)
    (λ u. even_level e p (omega (arith, ints))))

-- ---- chains
even_chain : (z a : Point) (cs : List Point) (p : PlanePoint) → AreOctilinear (edges_to z a cs) → All (IsLeftOf p) (edges_to z a cs)
    → (sum_by (crossing p) (edges_to z a cs) + above p a + above p z) % 2 ≡ 0
unfolding AreOctilinear
even_chain z a [] p o l =
    let e : Edge = record { start = a; finish = z } in
    let h = even_edge e p o.0 (all_head (IsLeftOf p) e [] l) in
    let s = sum_by-cons (crossing p) e [] in
    omega (arith, h, s)
even_chain z a (b ∷ cs) p o l =
    let e : Edge = record { start = a; finish = b } in
    let h = even_edge e p o.0 (all_head (IsLeftOf p) e (edges_to z b cs) l) in
    let g = even_chain z b cs p o.1 (all_tail (IsLeftOf p) e (edges_to z b cs) l) in
    let s = sum_by-cons (crossing p) e (edges_to z b cs) in
    omega (arith, h, g, s)

pub even_law : (cs : List Point) (p : PlanePoint) → AreOctilinear (edges_of cs) → All (IsLeftOf p) (edges_of cs) → sum_by (crossing p) (edges_of cs) % 2 ≡ 0
even_law [] p o l = refl
even_law (a ∷ cs) p o l = let h = even_chain a a cs p o l in omega (arith, h)

pub chain_law : ChainLaw
chain_law rows cs o apart = record {
  octilinear = o;
  apart = apart;
  even = λ p l. even_law cs p o l;
  ends = λ p off. ends_law cs p o off;
}

-- ---- more rows, and two lists together
pub rows_law : MoreRowsLaw
rows_law rows more es sub closed = record {
  octilinear = closed.octilinear;
  apart = λ e f p i j oe of off. closed.apart e f p i j oe of (λ z w h. off z (sub z w) h);
  even = closed.even;
  ends = closed.ends;
}

octilinear_append : (es fs : List Edge) → AreOctilinear es → AreOctilinear fs → AreOctilinear (es ++ fs)
unfolding AreOctilinear
octilinear_append [] fs a b = b
octilinear_append (e ∷ es) fs a b = (a.0, octilinear_append es fs a.1 b)

all_left : {X : Type 0} (P : X → Type 0) (xs ys : List X) → All P (xs ++ ys) → All P xs
all_left {X = X} P [] ys a = λ k d h. absurd (omega (arith, h))
all_left {X = X} P (x ∷ xs) ys a = at (all_left P xs ys (all_tail P x (xs ++ ys) a))
  where
    at : All P xs → (k : ℕ) (d : X) → k < length (x ∷ xs) → P (get_or (x ∷ xs) k d)
    at rest zero d h = all_head P x (xs ++ ys) a
    at rest (suc k) d h = rest k d (omega (arith, h))

all_right : {X : Type 0} (P : X → Type 0) (xs ys : List X) → All P (xs ++ ys) → All P ys
all_right P [] ys a = a
all_right P (x ∷ xs) ys a = all_right P xs ys (all_tail P x (xs ++ ys) a)

pub together_law : ClosedTogetherLaw
together_law rows es fs a b cross = record {
  octilinear = octilinear_append es fs a.octilinear b.octilinear;
  apart = λ e f p i j oe of off. elim (any_parts (λ x. x ≡ e) es fs i) [
    | inl i ↦ elim (any_parts (λ x. x ≡ f) es fs j) [ inl j ↦ a.apart e f p i j oe of off | inr j ↦ absurd (cross e f p i j oe of) ]
    | inr i ↦ elim (any_parts (λ x. x ≡ f) es fs j) [ inl j ↦ absurd (cross f e p j i of oe) | inr j ↦ b.apart e f p i j oe of off ]
  ];
  even = λ p l.
      (let s = sum_by-append (crossing p) es fs in
      let m = a.even p (all_left (IsLeftOf p) es fs l) in
      let n = b.even p (all_right (IsLeftOf p) es fs l) in
      omega (arith, s, m, n));
  ends = λ p off.
      (let s = sum_by-append (crossing p) es fs in
      let t = sum_by-append (crossing_below p) es fs in
      let m = a.ends p (λ i. off (any_left (λ e. IsOn e p) es fs i)) in
      let n = b.ends p (λ i. off (any_right (λ e. IsOn e p) es fs i)) in
      omega (arith, s, t, m, n));
}
