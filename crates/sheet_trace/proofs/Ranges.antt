-- The next edge is found among those that begin where an edge ends.
use Rattle.std.proofs.Common.{◌≡◌, refl, sym, subst, ap, ◌∙◌, ℕ, zero, suc, ◌+◌, ◌<◌, ◌≤◌, ◌⊎◌, inl, inr, arith, List, length, get_or, Bool, true, false, not}
use Rattle.std.specs.Prelude.{◌≤ℤ◌, ◌<ℤ◌}
use Rattle.std.specs.List.Sorted.{IsPartitionedBy, IsPartitionPoint}
use Rattle.std.proofs.lemmas.Int.{ints, by_lt_z}
use Rattle.std.proofs.lemmas.Bool.{false≢true, cases_lt}
use Rattle.std.proofs.lemmas.List.{get_or_default}
use Rattle.grid_num.specs.declared.Point.{Point}
use Rattle.rings.specs.Turning.{direction, turn_to}
use Rattle.rings.proofs.Lists.{has_of, of_has}
use Rattle.rings.proofs.Order.{point_same}
use Rattle.sheet_trace.specs.declared.edge.BoundaryEdge.{BoundaryEdge}
use Rattle.sheet_trace.specs.Edges.{edge_of, edges_in}
use Rattle.sheet_trace.specs.Next.{AreByStart, HasNext, IsNextAt, is_before, heading, turn_between, IsBestBefore}
use Rattle.sheet_trace.proofs.Found.{bool_cases}
use Rattle.sheet_trace.proofs.Parts.{index_has, edges_has, has_edges}

-- ---- the order of corners
abbrev pub NotLater : Point → Point → Type 0
NotLater a b = (a.y <ℤ b.y) ⊎ ((a.y ≡ b.y) × (a.x ≤ℤ b.x))

pub before_not : (a b : Point) → NotLater a b → is_before b a ≡ false
unfolding is_before
before_not a b (inl l) = grind (arith, ints)
before_not a b (inr m) = let m0 = m.0 in let m1 = m.1 in grind (arith, ints, m0, m1)

pub not_before : (a b : Point) → is_before b a ≡ false → NotLater a b
unfolding is_before
not_before a b h = by_lt_z {P = NotLater a b} a.y b.y (λ l. inl l) (λ l. inr (grind (arith, ints, l, h), grind (arith, ints, l, h)))

pub before_told : (a b : Point) → is_before a b ≡ true → NotLater a b
unfolding is_before
before_told a b h = by_lt_z {P = NotLater a b} a.y b.y (λ l. inl l) (λ l. inr (grind (arith, ints, l, h), grind (arith, ints, l, h)))

later_on : (a b c : Point) → NotLater a b → NotLater b c → NotLater a c
later_on a b c (inl l) (inl m) = inl (omega (arith, ints, l, m))
later_on a b c (inl l) (inr m) = let m0 = m.0 in inl (omega (arith, ints, l, m0))
later_on a b c (inr l) (inl m) = let l0 = l.0 in inl (omega (arith, ints, l0, m))
later_on a b c (inr l) (inr m) = let l1 = l.1 in let m1 = m.1 in inr (l.0 ∙ m.0, omega (arith, ints, l1, m1))

both_ways : (a b : Point) → NotLater a b → NotLater b a → a ≡ b
both_ways a b (inl l) (inl m) = absurd (omega (arith, ints, l, m))
both_ways a b (inl l) (inr m) = let m0 = m.0 in absurd (omega (arith, ints, l, m0))
both_ways a b (inr l) (inl m) = let l0 = l.0 in absurd (omega (arith, ints, l0, m))
both_ways a b (inr l) (inr m) = let l1 = l.1 in let m1 = m.1 in point_same a b (omega (arith, ints, l1, m1)) l.0

later_self : (a b : Point) → a ≡ b → NotLater a b
later_self a b e = inr (ap (λ z. z.y) e, (let k = ap (λ z. z.x) e in omega (arith, ints, k)))

-- ---- edges in order
abbrev pub start_at : List BoundaryEdge → ℕ → BoundaryEdge → Point
start_at es k d = (get_or es k d).start

pub in_order : (es : List BoundaryEdge) → AreByStart es → (i j : ℕ) (d : BoundaryEdge) → i ≤ j → j < length es → NotLater (start_at es i d) (start_at es j d)
in_order es o i zero d l m = later_self (start_at es i d) (start_at es 0 d) (let e : i ≡ 0 = omega (arith, l) in ap (λ k. start_at es k d) e)
in_order es o i (suc j) d l m = at (cases_lt i (suc j)) (λ k. in_order es o i j d k (omega (arith, m)))
  where
    at : (i < suc j) ⊎ (suc j ≤ i) → (i ≤ j → NotLater (start_at es i d) (start_at es j d)) → NotLater (start_at es i d) (start_at es (suc j) d)
    at (inr g) f = later_self (start_at es i d) (start_at es (suc j) d) (let e : i ≡ suc j = omega (arith, l, g) in ap (λ k. start_at es k d) e)
    at (inl g) f =
        let e : j + 1 ≡ suc j = omega arith in
        later_on (start_at es i d) (start_at es j d) (start_at es (suc j) d) (f (omega (arith, g))) (subst (λ n. NotLater (start_at es j d) (start_at es n d)) e (o j d (omega (arith, m))))

pub first_partitioned : (es : List BoundaryEdge) (q : Point) → AreByStart es → IsPartitionedBy (λ e. is_before e.start q) es
first_partitioned es q o i j d l m h = elim (bool_cases (is_before (start_at es i d) q)) [
  | inl k ↦ k
  | inr k ↦ absurd (false≢true (sym (before_not q (start_at es j d) (later_on q (start_at es i d) (start_at es j d) (not_before q (start_at es i d) k) (in_order es o i j d l m))) ∙ h))
]

not_not : (b : Bool) → not b ≡ true → b ≡ false
not_not true h = absurd (false≢true h)
not_not false h = refl

not_of : (b : Bool) → b ≡ false → not b ≡ true
not_of b h = ap not h

pub end_partitioned : (es : List BoundaryEdge) (q : Point) → AreByStart es → IsPartitionedBy (λ e. not (is_before q e.start)) es
end_partitioned es q o i j d l m h =
    not_of (is_before q (start_at es i d)) (before_not (start_at es i d) q (later_on (start_at es i d) (start_at es j d) q (in_order es o i j d l m) (not_before (start_at es j d) q (not_not (is_before q (start_at es j d)) h))))

-- ---- the edges that begin where e ends stand from one place to another
pub record IsRange (es : List BoundaryEdge) (q : Point) (first end : ℕ) : Type 0 where
  pub low : IsPartitionPoint (λ e. is_before e.start q ≡ true) (λ e. is_before e.start q ≡ false) es first
  pub high : IsPartitionPoint (λ e. not (is_before q e.start) ≡ true) (λ e. not (is_before q e.start) ≡ false) es end
  pub within : end ≤ length es

pub in_range : (es : List BoundaryEdge) (q : Point) (first end k : ℕ) (d : BoundaryEdge) → IsRange es q first end → first ≤ k → k < end → start_at es k d ≡ q
in_range es q first end k d r l m =
    let w = r.within in
    both_ways (start_at es k d) q (not_before (start_at es k d) q (not_not (is_before q (start_at es k d)) (r.high.0 k d (omega arith) m)))
    (not_before q (start_at es k d) (r.low.1 k d l (omega (arith, m, w))))

pub range_has : (es : List BoundaryEdge) (q : Point) (first end k : ℕ) (d : BoundaryEdge) → IsRange es q first end → k < length es → start_at es k d ≡ q → (first ≤ k) × (k < end)
range_has es q first end k d r l e = (low (cases_lt k first), high (cases_lt k end))
  where
    low : (k < first) ⊎ (first ≤ k) → first ≤ k
    low (inr m) = m
    low (inl m) = absurd (false≢true (sym (before_not q (start_at es k d) (later_self q (start_at es k d) (sym e))) ∙ r.low.0 k d (omega arith) m))

    high : (k < end) ⊎ (end ≤ k) → k < end
    high (inl m) = m
    high (inr m) = absurd (false≢true (sym (r.high.1 k d m l) ∙ not_of (is_before q (start_at es k d)) (before_not (start_at es k d) q (later_self (start_at es k d) q e))))

-- one of them is the next edge, so there is one
pub some_place : (es : List BoundaryEdge) (e : BoundaryEdge) (first end : ℕ) → IsRange es e.finish first end → HasNext es e → first < end
some_place es e first end r n =
    let h = has_edges es n.0 (has_of (edges_in es) n.0 n.1.one) in
    let k = of_has es h.0 h.1 in
    let s : start_at es k.0 h.0 ≡ e.finish = ap (λ z. z.start) k.2 ∙ (ap (λ z. z.start) h.2 ∙ n.1.joins) in
    let p = range_has es e.finish first end k.0 h.0 r k.1 s in
    let p0 = p.0 in let p1 = p.1 in omega (arith, p0, p1)

-- ---- the best of them
pub best_first : (es : List BoundaryEdge) (e : BoundaryEdge) (first end : ℕ) → IsRange es e.finish first end → first < end → IsBestBefore es e (first + 1) first
best_first es e first end r l =
    let w = r.within in
    record {
      before = omega arith;
      joins = λ d. in_range es e.finish first end first d r (omega arith) l;
      least = λ i d m j. (
          let p = range_has es e.finish first end i d r (omega (arith, m, l, w)) j in
          let p0 = p.0 in
          let k : i ≡ first = omega (arith, p0, m) in
          let t : turn_between e (get_or es first d) ≡ turn_between e (get_or es i d) = ap (λ z. turn_between e (get_or es z d)) (sym k) in
          omega (arith, t));
    }

same_place : (es : List BoundaryEdge) (k : ℕ) (c d : BoundaryEdge) → k < length es → get_or es k c ≡ get_or es k d
same_place es k c d l = get_or_default es k c d l

pub best_new : (es : List BoundaryEdge) (e : BoundaryEdge) (first end n k : ℕ) (c : BoundaryEdge) → IsRange es e.finish first end → first ≤ n → n < end
    → turn_between e (get_or es n c) < turn_between e (get_or es k c) → k < length es → IsBestBefore es e n k → IsBestBefore es e (n + 1) n
best_new es e first end n k c r f l t v b =
    let w = r.within in
    record {
      before = omega arith;
      joins = λ d. in_range es e.finish first end n d r f l;
      least = λ i d m j. (
          let tn : turn_between e (get_or es n d) ≡ turn_between e (get_or es n c) = ap (turn_between e) (same_place es n d c (omega (arith, l, w))) in
          let tk : turn_between e (get_or es k d) ≡ turn_between e (get_or es k c) = ap (turn_between e) (same_place es k d c v) in
          elim (cases_lt i n) [
            | inl g ↦ (let q = b.least i d g j in omega (arith, t, tn, tk, q))
            | inr g ↦ (let z : n ≡ i = omega (arith, g, m) in let q : turn_between e (get_or es n d) ≡ turn_between e (get_or es i d) = ap (λ y. turn_between e (get_or es y d)) z in omega (arith, q))
          ]);
    }

pub best_old : (es : List BoundaryEdge) (e : BoundaryEdge) (n k : ℕ) (c : BoundaryEdge) → n < length es
    → turn_between e (get_or es k c) ≤ turn_between e (get_or es n c) → k < length es → IsBestBefore es e n k → IsBestBefore es e (n + 1) k
best_old es e n k c l t v b =
    let s = b.before in
    record {
      before = omega (arith, s);
      joins = b.joins;
      least = λ i d m j. (
          let tn : turn_between e (get_or es n d) ≡ turn_between e (get_or es n c) = ap (turn_between e) (same_place es n d c l) in
          let tk : turn_between e (get_or es k d) ≡ turn_between e (get_or es k c) = ap (turn_between e) (same_place es k d c v) in
          elim (cases_lt i n) [
            | inl g ↦ b.least i d g j
            | inr g ↦ (let z : n ≡ i = omega (arith, g, m) in let q : turn_between e (get_or es n d) ≡ turn_between e (get_or es i d) = ap (λ y. turn_between e (get_or es y d)) z in omega (arith, q, t, tn, tk))
          ]);
    }

pub turn_is : (e f : BoundaryEdge) → turn_between e f ≡ turn_to (edge_of e) (direction (edge_of f))
unfolding turn_between heading turn_to direction
turn_is e f = refl

pub best_new_by : (es : List BoundaryEdge) (e : BoundaryEdge) (first end n k x y : ℕ) (c d : BoundaryEdge) → IsRange es e.finish first end → first ≤ n → n < end
    → x ≡ turn_between e (get_or es n c) → y ≡ turn_between e (get_or es k d) → x < y → k < length es → IsBestBefore es e n k → IsBestBefore es e (n + 1) n
best_new_by es e first end n k x y c d r f l p q t v b =
    let z : turn_between e (get_or es k d) ≡ turn_between e (get_or es k c) = ap (turn_between e) (same_place es k d c v) in
    best_new es e first end n k c r f l (omega (arith, p, q, t, z)) v b

pub best_old_by : (es : List BoundaryEdge) (e : BoundaryEdge) (n k x y : ℕ) (c d : BoundaryEdge) → n < length es
    → x ≡ turn_between e (get_or es n c) → y ≡ turn_between e (get_or es k d) → y ≤ x → k < length es → IsBestBefore es e n k → IsBestBefore es e (n + 1) k
best_old_by es e n k x y c d l p q t v b =
    let z : turn_between e (get_or es k d) ≡ turn_between e (get_or es k c) = ap (turn_between e) (same_place es k d c v) in
    best_old es e n k c l (omega (arith, p, q, t, z)) v b

pub best_next : (es : List BoundaryEdge) (e : BoundaryEdge) (first end n k : ℕ) → IsRange es e.finish first end → end ≤ n → k < length es → IsBestBefore es e n k → IsNextAt es e k
unfolding IsNextAt
best_next es e first end n k r m v b = λ d. record {
  one = of_has (edges_in es) (edge_of (get_or es k d)) (edges_has es (get_or es k d) (index_has es k d v));
  joins = b.joins d;
  first = λ g c j. (
      let h = has_edges es g (has_of (edges_in es) g c) in
      let i = of_has es h.0 h.1 in
      let s : start_at es i.0 h.0 ≡ e.finish = ap (λ z. z.start) i.2 ∙ (ap (λ z. z.start) h.2 ∙ j) in
      let p = (range_has es e.finish first end i.0 h.0 r i.1 s).1 in
      let l = b.least i.0 h.0 (omega (arith, p, m)) s in
      let x = turn_is e (get_or es k d) in
      let y = turn_is e (get_or es i.0 h.0) in
      let z : turn_between e (get_or es k h.0) ≡ turn_between e (get_or es k d) = ap (turn_between e) (same_place es k h.0 d v) in
      let u : turn_to (edge_of e) (direction (edge_of (get_or es i.0 h.0))) ≡ turn_to (edge_of e) (direction g) = ap (λ q. turn_to (edge_of e) (direction q)) (ap edge_of i.2 ∙ h.2) in
      omega (arith, l, x, y, z, u));
}
