-- Chains in a smaller unit.
use Rattle.std.proofs.Common.{◌≡◌, refl, sym, ◌∙◌, ap, ℕ, zero, suc, ◌*◌, ◌≤◌, inl, inr, arith, List, [], ◌∷◌, ◌++◌, Bool, cond}
use Rattle.std.specs.Prelude.{ℤ, pos, ◌-ℤ◌, ◌*ℤ◌, int_lt, int_le, ◌&&◌, ◌↔◌, Any, map}
use Rattle.std.proofs.lemmas.Int.{ints, by_lt_z}
use Rattle.std.proofs.lemmas.List.Sums.{sum_by-cons}
use lib.IntN.{*ℤ_comm}
use Rattle.plane.specs.Plane.{PlanePoint}
use Rattle.grid_num.proofs.Products.{mul_le, mul_lt, mul_sub}
use Rattle.plane.proofs.Points.{mul_mul}
use Rattle.grid_num.specs.declared.Point.{Point}
use Rattle.plane.specs.Covering.{Edge, IsOn, Between, down_crossing, crossing, crossings, Covers, edges_to, edges_of, edges_of_all}
use Rattle.plane.specs.Units.{finer, IsSamePlace, FinerBoundsLaw, FinerCoverLaw, StrictFinerCoverLaw, FinerCoverAllLaw}
use Rattle.plane.proofs.Counts.{less_true, less_false}
use Rattle.plane.proofs.On.{same_pos}
use Rattle.plane.proofs.Lists.{any_none, any_head, any_tail, any_cases, any_left, any_right, any_parts}
use Rattle.plane.proofs.CoverLaws.{pull, crossings_append}

abbrev edge : Point → Point → Edge
edge a b = record { start = a; finish = b }

abbrev on : PlanePoint → Edge → Type 0
on p e = IsOn e p

at_least_one : (s k n : ℕ) → n ≡ s * k → 1 ≤ n → 1 ≤ k
at_least_one s zero n e h = omega arith
at_least_one s (suc k) n e h = omega arith

pub same_place_one : (k : ℕ) (p q : PlanePoint) → IsSamePlace k p q → 1 ≤ k
same_place_one k p q w = at_least_one p.scale k q.scale w.scale q.positive

-- a coordinate at the scale of the point
scaled : (k : ℕ) (p q : PlanePoint) → IsSamePlace k p q → (a : ℤ) → pos p.scale *ℤ (pos k *ℤ a) ≡ pos q.scale *ℤ a
scaled k p q w a = mul_mul p.scale k a ∙ ap (λ (n : ℕ). pos n *ℤ a) (sym w.scale)

pub finer_bounds_law : FinerBoundsLaw
finer_bounds_law k b p q w =
    let x0 = scaled k p q w b.x0 in
    let x1 = scaled k p q w b.x1 in
    let y0 = scaled k p q w b.y0 in
    let y1 = scaled k p q w b.y1 in
    let s0 = scaled k p q w b.s0 in
    let s1 = scaled k p q w b.s1 in
    let d0 = scaled k p q w b.d0 in
    let d1 = scaled k p q w b.d1 in
    let x = w.x in
    let y = w.y in (
      λ i. record {
        x_low = omega (arith, ints, i.x_low, x0, x);
        x_high = omega (arith, ints, i.x_high, x1, x);
        y_low = omega (arith, ints, i.y_low, y0, y);
        y_high = omega (arith, ints, i.y_high, y1, y);
        s_low = omega (arith, ints, i.s_low, s0, x, y);
        s_high = omega (arith, ints, i.s_high, s1, x, y);
        d_low = omega (arith, ints, i.d_low, d0, x, y);
        d_high = omega (arith, ints, i.d_high, d1, x, y);
      },
      λ i. record {
        x_low = omega (arith, ints, i.x_low, x0, x);
        x_high = omega (arith, ints, i.x_high, x1, x);
        y_low = omega (arith, ints, i.y_low, y0, y);
        y_high = omega (arith, ints, i.y_high, y1, y);
        s_low = omega (arith, ints, i.s_low, s0, x, y);
        s_high = omega (arith, ints, i.s_high, s1, x, y);
        d_low = omega (arith, ints, i.d_low, d0, x, y);
        d_high = omega (arith, ints, i.d_high, d1, x, y);
      },
    )

-- ---- the way of an edge times the way to the point
ways : (k : ℕ) (a b v z u : ℤ) → v ≡ u → (pos k *ℤ b -ℤ pos k *ℤ a) *ℤ (z -ℤ v) ≡ pos k *ℤ ((b -ℤ a) *ℤ (z -ℤ u))
ways k a b v z u e =
    ap (λ (m : ℤ). m *ℤ (z -ℤ v)) (sym (mul_sub k b a))
    ∙ (*ℤ_comm (pos k *ℤ (b -ℤ a)) (z -ℤ v) ∙ (pull (z -ℤ v) (b -ℤ a) k ∙ ap (λ (m : ℤ). pos k *ℤ m) (*ℤ_comm (z -ℤ v) (b -ℤ a) ∙ ap (λ (m : ℤ). (b -ℤ a) *ℤ (z -ℤ m)) e)))

between_same : (a b z a' b' z' : ℤ) → a ≡ a' → b ≡ b' → z ≡ z' → Between a b z → Between a' b' z'
between_same a b z a' b' z' e f g (inl h) = inl (omega (arith, ints, h), omega (arith, ints, h))
between_same a b z a' b' z' e f g (inr h) = inr (omega (arith, ints, h), omega (arith, ints, h))

-- both products of an edge, at q, times k
record IsWay (k : ℕ) (a b : Point) (p q : PlanePoint) : Type 0 where
  rise : ((pos k *ℤ b.y) -ℤ (pos k *ℤ a.y)) *ℤ (p.x -ℤ pos p.scale *ℤ (pos k *ℤ a.x)) ≡ pos k *ℤ ((b.y -ℤ a.y) *ℤ (q.x -ℤ pos q.scale *ℤ a.x))
  run : ((pos k *ℤ b.x) -ℤ (pos k *ℤ a.x)) *ℤ (p.y -ℤ pos p.scale *ℤ (pos k *ℤ a.y)) ≡ pos k *ℤ ((b.x -ℤ a.x) *ℤ (q.y -ℤ pos q.scale *ℤ a.y))

way_of : (k : ℕ) (a b : Point) (p q : PlanePoint) → IsSamePlace k p q → IsWay k a b p q
way_of k a b p q w = record {
  rise = ways k a.y b.y (pos p.scale *ℤ (pos k *ℤ a.x)) p.x (pos q.scale *ℤ a.x) (scaled k p q w a.x)
      ∙ ap (λ (m : ℤ). pos k *ℤ ((b.y -ℤ a.y) *ℤ (m -ℤ pos q.scale *ℤ a.x))) (sym w.x);
  run = ways k a.x b.x (pos p.scale *ℤ (pos k *ℤ a.y)) p.y (pos q.scale *ℤ a.y) (scaled k p q w a.y)
      ∙ ap (λ (m : ℤ). pos k *ℤ ((b.x -ℤ a.x) *ℤ (m -ℤ pos q.scale *ℤ a.y))) (sym w.y);
}

on_finer : (k : ℕ) (a b : Point) (p q : PlanePoint) → IsSamePlace k p q → IsOn (edge (finer k a) (finer k b)) p ↔ IsOn (edge a b) q
on_finer k a b p q w =
    let m = way_of k a b p q w in
    let ax = scaled k p q w a.x in
    let bx = scaled k p q w b.x in
    let ay = scaled k p q w a.y in
    let by = scaled k p q w b.y in (
      λ o. record {
        line = same_pos k _ _ (same_place_one k p q w) (sym m.rise ∙ (o.line ∙ m.run));
        across = between_same _ _ _ _ _ _ ax bx (sym w.x) o.across;
        along = between_same _ _ _ _ _ _ ay by (sym w.y) o.along;
      },
      λ o. record {
        line = m.rise ∙ (ap (λ (z : ℤ). pos k *ℤ z) o.line ∙ sym m.run);
        across = between_same _ _ _ _ _ _ (sym ax) (sym bx) w.x o.across;
        along = between_same _ _ _ _ _ _ (sym ay) (sym by) w.y o.along;
      },
    )

-- ---- crossings
less_same : (k : ℕ) (a b c d : ℤ) → 1 ≤ k → a ≡ pos k *ℤ c → b ≡ pos k *ℤ d → int_lt a b ≡ int_lt c d
less_same k a b c d one e f =
    by_lt_z {P = int_lt a b ≡ int_lt c d} c d
    (λ l. let m = mul_lt k c d one l in less_true a b (omega (arith, ints, e, f, m)) ∙ sym (less_true c d l))
    (λ l. let m = mul_le k d c l in less_false a b (omega (arith, ints, e, f, m)) ∙ sym (less_false c d l))

abbrev counted : Bool → Bool → Bool → ℕ
counted s t u = cond (s && (t && u)) 1 0

down_same : (a b y a' b' y' : ℤ) (t t' : Bool) → a ≡ a' → b ≡ b' → y ≡ y' → t ≡ t'
    → counted (int_le a y) (int_lt y b) t ≡ counted (int_le a' y') (int_lt y' b') t'
down_same a b y a' b' y' t t' e f g h = cc

down_finer : (k : ℕ) (a b : Point) (p q : PlanePoint) → IsSamePlace k p q → down_crossing (finer k a) (finer k b) p ≡ down_crossing a b q
down_finer k a b p q w =
    let m = way_of k a b p q w in
    down_same _ _ _ _ _ _ _ _ (scaled k p q w a.y) (scaled k p q w b.y) (sym w.y) (less_same k _ _ _ _ (same_place_one k p q w) m.run m.rise)

crossing_finer : (k : ℕ) (a b : Point) (p q : PlanePoint) → IsSamePlace k p q → crossing p (edge (finer k a) (finer k b)) ≡ crossing q (edge a b)
unfolding crossing
crossing_finer k a b p q w = let e = down_finer k a b p q w in let f = down_finer k b a p q w in omega (arith, e, f)

-- ---- chains
record IsFiner (p q : PlanePoint) (es fs : List Edge) : Type 0 where
  count : crossings es p ≡ crossings fs q
  some : Any (on p) es ↔ Any (on q) fs

finer_one : (k : ℕ) (a b : Point) (p q : PlanePoint) (es fs : List Edge) → IsSamePlace k p q → IsFiner p q es fs
    → IsFiner p q (edge (finer k a) (finer k b) ∷ es) (edge a b ∷ fs)
finer_one k a b p q es fs w h =
    let o = on_finer k a b p q w in
    record {
      count =
          let s = sum_by-cons (crossing p) (edge (finer k a) (finer k b)) es in
          let t = sum_by-cons (crossing q) (edge a b) fs in
          let c = crossing_finer k a b p q w in
          let d = h.count in
          omega (arith, s, t, c, d);
      some = (
        λ i. elim (any_cases (on p) (edge (finer k a) (finer k b)) es i) [
          | inl j ↦ any_head (on q) (edge a b) fs (o.0 j)
          | inr j ↦ any_tail (on q) (edge a b) fs (h.some.0 j)
        ],
        λ i. elim (any_cases (on q) (edge a b) fs i) [
          | inl j ↦ any_head (on p) (edge (finer k a) (finer k b)) es (o.1 j)
          | inr j ↦ any_tail (on p) (edge (finer k a) (finer k b)) es (h.some.1 j)
        ],
      );
    }

finer_none : (p q : PlanePoint) → IsFiner p q [] []
finer_none p q = record { count = refl; some = (λ i. absurd (any_none (on p) i), λ i. absurd (any_none (on q) i)) }

finer_to : (k : ℕ) (z a : Point) (cs : List Point) (p q : PlanePoint) → IsSamePlace k p q
    → IsFiner p q (edges_to (finer k z) (finer k a) (map (finer k) cs)) (edges_to z a cs)
finer_to k z a [] p q w = finer_one k a z p q [] [] w (finer_none p q)
finer_to k z a (c ∷ cs) p q w =
    finer_one k a c p q (edges_to (finer k z) (finer k c) (map (finer k) cs)) (edges_to z c cs) w (finer_to k z c cs p q w)

finer_chain : (k : ℕ) (cs : List Point) (p q : PlanePoint) → IsSamePlace k p q → IsFiner p q (edges_of (map (finer k) cs)) (edges_of cs)
finer_chain k [] p q w = finer_none p q
finer_chain k (a ∷ cs) p q w = finer_to k a a cs p q w

finer_append : (p q : PlanePoint) (es fs gs hs : List Edge) → IsFiner p q es fs → IsFiner p q gs hs → IsFiner p q (es ++ gs) (fs ++ hs)
finer_append p q es fs gs hs a b =
    record {
      count = (let x = crossings_append p es gs in let y = crossings_append q fs hs in let c = a.count in let d = b.count in omega (arith, x, y, c, d));
      some = (
        λ i. elim (any_parts (on p) es gs i) [ inl j ↦ any_left (on q) fs hs (a.some.0 j) | inr j ↦ any_right (on q) fs hs (b.some.0 j) ],
        λ i. elim (any_parts (on q) fs hs i) [ inl j ↦ any_left (on p) es gs (a.some.1 j) | inr j ↦ any_right (on p) es gs (b.some.1 j) ],
      );
    }

finer_chains : (k : ℕ) (chains : List (List Point)) (p q : PlanePoint) → IsSamePlace k p q
    → IsFiner p q (edges_of_all (map (map (finer k)) chains)) (edges_of_all chains)
finer_chains k [] p q w = finer_none p q
finer_chains k (c ∷ cs) p q w =
    finer_append p q (edges_of (map (finer k) c)) (edges_of c) (edges_of_all (map (map (finer k)) cs)) (edges_of_all cs) (finer_chain k c p q w) (finer_chains k cs p q w)

-- ---- the laws
covers_finer : (p q : PlanePoint) (es fs : List Edge) → IsFiner p q es fs → Covers es p ↔ Covers fs q
unfolding Covers
covers_finer p q es fs h =
    let c = h.count in (
      λ g. elim g [ inl i ↦ inl (h.some.0 i) | inr i ↦ inr (omega arith) ],
      λ g. elim g [ inl i ↦ inl (h.some.1 i) | inr i ↦ inr (omega arith) ],
    )

pub finer_cover_law : FinerCoverLaw
finer_cover_law k cs p q w = covers_finer p q (edges_of (map (finer k) cs)) (edges_of cs) (finer_chain k cs p q w)

pub finer_cover_all_law : FinerCoverAllLaw
finer_cover_all_law k chains p q w =
    covers_finer p q (edges_of_all (map (map (finer k)) chains)) (edges_of_all chains) (finer_chains k chains p q w)

pub strict_finer_cover_law : StrictFinerCoverLaw
strict_finer_cover_law k cs p q w =
    let h = finer_chain k cs p q w in
    let c = h.count in (
      λ g. let o = g.odd in record { odd = omega arith; off = λ i. g.off (h.some.1 i) },
      λ g. let o = g.odd in record { odd = omega arith; off = λ i. g.off (h.some.0 i) },
    )
