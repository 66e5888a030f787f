-- How large products by a scale are, and what the tests of a side at a place mean.
use Rattle.std.proofs.Common.{◌≡◌, refl, sym, ◌∙◌, ap, subst, ℕ, ◌+◌, ◌*◌, ◌<◌, ◌≤◌, ◌^◌, inl, inr, arith, Bool, true, false, cond, List, length, get_or, take}
use Rattle.std.specs.Prelude.{ℤ, pos, negsuc, ◌-ℤ◌, ◌*ℤ◌, ◌≤ℤ◌, ◌<ℤ◌, ◌↔◌, IsTrue, int_lt, int_le, ◌&&◌, sum_by}
use Rattle.std.specs.Int.RustNames.{unsigned_abs}
use Rattle.std.proofs.Math.Nat.{mul-le-mul_left}
use Rattle.std.specs.List.{All}
use Rattle.std.proofs.lemmas.Int.{ints, by_lt_z, unsigned_abs-mul, to_z-of_z, fits_signed_from_abs}
use Rattle.std.proofs.lemmas.List.{take_all, get_or_default}
use Rattle.std.proofs.lemmas.List.Sums.{sum_by_more}
use mir.Val.{to_z, of_z, SFits}
use mir.Syntax.{w64, w128}
use Rattle.std.proofs.lemmas.Bool.{true≢false}
use Rattle.plane.specs.Plane.{PlanePoint}
use Rattle.plane.specs.Narrow.{IsNearZero}
use Rattle.grid_num.specs.declared.Point.{Point}
use Rattle.plane.specs.Covering.{Edge, IsOn, IsOdd, Between, Covers, crossing, crossings, down_crossing, edges_of}
use Rattle.plane.proofs.Counts.{less_true, less_false, most_true, most_false, none_up}
use Rattle.plane.proofs.Lists.{covers_on, covers_odd, covers_cases}
use Rattle.outline_slab.specs.Rules.{IsInSpan, IsPointWithin, edge, no_edge}
use Rattle.outline_slab.specs.Places.{IsPlaceAt}
use Rattle.outline_slab.proofs.Chain.{edges_length}

-- ---- ranges
pub near_abs : (m : ℕ) (z : ℤ) → IsNearZero m z → unsigned_abs z ≤ m
near_abs m (pos n) h = let l = h.high in omega (arith, ints)
near_abs m (negsuc n) h = let l = h.low in omega (arith, ints)

pub abs_near : (m : ℕ) (z : ℤ) → unsigned_abs z ≤ m → IsNearZero m z
abs_near m (pos n) h = record { low = omega (arith, ints); high = omega (arith, ints) }
abs_near m (negsuc n) h = record { low = omega (arith, ints); high = omega (arith, ints) }

wider : (m n : ℕ) (z : ℤ) → m ≤ n → IsNearZero m z → IsNearZero n z
wider m n z h w = record { low = (let l = w.low in omega (arith, ints)); high = (let l = w.high in omega (arith, ints)) }

-- a number within m, times at most 1024
pub times_near : (k : ℕ) (z : ℤ) → k ≤ 1024 → IsNearZero 500000000 z → IsNearZero 512000000000 (pos k *ℤ z)
times_near k z h w = abs_near 512000000000 (pos k *ℤ z)
    (let a : unsigned_abs (pos k *ℤ z) ≡ k * unsigned_abs z = unsigned_abs-mul (pos k) z in
    let b = near_abs 500000000 z w in
    let c = mul-le-mul_left k b in
    omega (arith, a, b, c))

pub span_fits : (z : ℤ) → IsNearZero 500000000 z → SFits w64 z
span_fits z w = fits_signed_from_abs w64 z (let a = near_abs 500000000 z w in omega arith)

pub reach_fits : (z : ℤ) → IsNearZero (2 ^ 50) z → SFits w64 z
reach_fits z w = fits_signed_from_abs w64 z (let a = near_abs (2 ^ 50) z w in omega arith)

-- ---- tests as bits
le_is : (t : Bool) (a b : ℤ) → IsTrue t ↔ (a ≤ℤ b) → int_le a b ≡ t
le_is true a b h = most_true a b (h.0 refl)
le_is false a b h = by_lt_z {P = int_le a b ≡ false} b a (λ l. most_false a b l) (λ l. absurd (true≢false (sym (h.1 l))))

lt_is : (t : Bool) (a b : ℤ) → IsTrue t ↔ (a <ℤ b) → int_lt a b ≡ t
lt_is true a b h = less_true a b (h.0 refl)
lt_is false a b h = by_lt_z {P = int_lt a b ≡ false} a b (λ l. absurd (true≢false (sym (h.1 l)))) (λ l. less_false a b l)

both_is : (r t u : Bool) → IsTrue r ↔ (IsTrue t × IsTrue u) → (t && u) ≡ r
both_is true t u h = let w = h.0 refl in rw (w.0, w.1) refl
both_is false false u h = refl
both_is false true false h = refl
both_is false true true h = sym (h.1 (refl, refl))

pub down_is : (a b : Point) (p : Point) (k : ℕ) (q : PlanePoint) (r s t u v : Bool) (run rise : ℤ) → IsPlaceAt p k q
    → run ≡ (b.x -ℤ a.x) *ℤ (p.y -ℤ pos k *ℤ a.y) → rise ≡ (b.y -ℤ a.y) *ℤ (p.x -ℤ pos k *ℤ a.x)
    → IsTrue r ↔ (IsTrue t × IsTrue s) → IsTrue s ↔ (IsTrue u × IsTrue v)
    → IsTrue t ↔ ((pos k *ℤ a.y) ≤ℤ p.y) → IsTrue u ↔ (p.y <ℤ (pos k *ℤ b.y)) → IsTrue v ↔ (run <ℤ rise)
    → down_crossing a b q ≡ cond r 1 0
down_is a b p k q r s t u v run rise w e f rs us at au av =
    rw (w.x, w.y, w.scale, ← e, ← f, le_is t _ _ at, lt_is u _ _ au, lt_is v run rise av, both_is s u v us, both_is r t s rs) refl

-- an edge crosses as one of its two directions does
pub down_crosses : (e : Edge) (q : PlanePoint) (n : ℕ) → e.start.y ≤ℤ e.finish.y → down_crossing e.start e.finish q ≡ n → crossing q e ≡ n
unfolding crossing
down_crosses e q n h d = let z = none_up e.finish e.start q h in omega arith

pub up_crosses : (e : Edge) (q : PlanePoint) (n : ℕ) → e.finish.y ≤ℤ e.start.y → down_crossing e.finish e.start q ≡ n → crossing q e ≡ n
unfolding crossing
up_crosses e q n h d = let z = none_up e.start e.finish q h in omega arith

-- ---- on an edge
pub on_is : (e : Edge) (p : Point) (k : ℕ) (q : PlanePoint) (r s t u v : Bool) (run rise : ℤ) → IsPlaceAt p k q
    → run ≡ (e.finish.x -ℤ e.start.x) *ℤ (p.y -ℤ pos k *ℤ e.start.y) → rise ≡ (e.finish.y -ℤ e.start.y) *ℤ (p.x -ℤ pos k *ℤ e.start.x)
    → IsTrue r ↔ (IsTrue t × IsTrue s) → IsTrue s ↔ (IsTrue u × IsTrue v)
    → IsTrue t ↔ (rise ≡ run) → IsTrue u ↔ Between (pos k *ℤ e.start.x) (pos k *ℤ e.finish.x) p.x → IsTrue v ↔ Between (pos k *ℤ e.start.y) (pos k *ℤ e.finish.y) p.y
    → IsTrue r ↔ IsOn e q
on_is e p k q r s t u v run rise w a b rs us at au av = (
  λ h.
      (let line = sym b ∙ (at.0 (rs.0 h).0 ∙ a) in
      let x = au.0 (us.0 (rs.0 h).1).0 in
      let y = av.0 (us.0 (rs.0 h).1).1 in
      record { line = rw (w.x, w.y, w.scale) line; across = rw (w.x, w.scale) x; along = rw (w.y, w.scale) y }),
  λ o.
      (let line = rw (w.x, w.y, w.scale) at o.line in
      let x = rw (w.x, w.scale) at o.across in
      let y = rw (w.y, w.scale) at o.along in
      rs.1 (at.1 (b ∙ (line ∙ sym a)), us.1 (au.1 x, av.1 y))),
)

-- ---- a product of two i64 in an i128
pub product_is : (a b c d r : ℤ) → r ≡ a *ℤ b → a ≡ c → b ≡ d → SFits w128 r → to_z w128 (of_z w128 r) ≡ c *ℤ d
product_is a b c d r e f g fits = to_z-of_z w128 r fits ∙ (e ∙ (ap (λ (z : ℤ). z *ℤ b) f ∙ ap (λ (z : ℤ). c *ℤ z) g))

-- ---- going along the edges
pub parity_step : (es : List Edge) (q : PlanePoint) (i : ℕ) (d : Edge) (r : Bool) (m : ℕ) → i < length es → crossing q (get_or es i d) ≡ m
    → IsTrue r ↔ IsOdd (sum_by (crossing q) (take i es) + m) → IsTrue r ↔ IsOdd (sum_by (crossing q) (take (i + 1) es))
parity_step es q i d r m h e p = rw (sum_by_more (crossing q) es i d h, e) p

pub covered_is : (es : List Edge) (q : PlanePoint) (i : ℕ) (r : Bool) → length es ≤ i → IsTrue r ↔ IsOdd (sum_by (crossing q) (take i es))
    → ((k : ℕ) (d : Edge) → k < i → IsOn (get_or es k d) q → ⊥) → IsTrue r ↔ Covers es q
covered_is es q i r h p off =
    let e : take i es ≡ es = take_all i es h in
    let f : IsTrue r ↔ IsOdd (crossings es q) = subst (λ (fs : List Edge). IsTrue r ↔ IsOdd (sum_by (crossing q) fs)) e p in (
      λ t. covers_odd es q (f.0 t),
      λ c. elim (covers_cases es q c) [
        | inl a ↦ absurd (off a.0 a.1 (let l = a.2 in omega arith) (subst (λ (e : Edge). IsOn e q) (sym a.3) a.4))
        | inr o ↦ f.1 o
      ],
    )

pub passed_is : (cs : List Point) (q : PlanePoint) (i : ℕ) → i < length cs → IsOn (edge cs i) q → Covers (edges_of cs) q
passed_is cs q i h o =
    let l : i < length (edges_of cs) = (let n = edges_length cs in omega arith) in
    covers_on (edges_of cs) q (i, edge cs i, l, get_or_default (edges_of cs) i (edge cs i) no_edge l, o)

-- units of 2 nm within a quarter of a metre are within the span of nanometres
pub units_in_span : (cs : List Point) → All (IsPointWithin 250000000) cs → All IsInSpan cs
units_in_span cs h = λ k d l. let w = h k d l in record {
  x = wider 250000000 500000000 _ (omega arith) w.x;
  y = wider 250000000 500000000 _ (omega arith) w.y;
}
