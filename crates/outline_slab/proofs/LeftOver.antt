-- What fills up the outline and the rectangle round it, counted together, fills up what the outline leaves of the
-- rectangle, its rim counted in: a point of the rim is in each octagon that has the point moved inward a little.
use Rattle.std.proofs.Common.{◌≡◌, refl, sym, subst, ℕ, zero, suc, ◌+◌, ◌*◌, ◌%◌, ◌≤◌, ◌⊎◌, inl, inr, arith, List, ◌++◌, get_or}
use Rattle.std.specs.Prelude.{ℤ, pos, neg_ℤ, ◌+ℤ◌, ◌-ℤ◌, ◌*ℤ◌, ◌≤ℤ◌, ◌<ℤ◌, sum_by}
use Rattle.std.specs.List.{All}
use Rattle.std.proofs.lemmas.Int.{ints, by_lt_z}
use Rattle.std.proofs.lemmas.List.Sums.{sum_by-append}
use Rattle.plane.specs.Plane.{PlanePoint, Bounds, In, StrictlyIn, StrictlyWithin, box_of, positive_product}
use Rattle.grid_num.proofs.Products.{mul_add, mul_sub, mul_le, mul_lt}
use Rattle.grid_num.specs.declared.Point.{Point}
use Rattle.plane.specs.Covering.{Edge, IsOn, crossing, Covers, StrictlyCovers, edges_of}
use Rattle.plane.specs.Edges.{AreOctilinear}
use Rattle.plane.specs.Corners.{box_corners}
use Rattle.plane.proofs.Points.{mul_mul}
use Rattle.plane.proofs.Repeats.{strict_box_cover_law}
use Rattle.plane.proofs.Lists.{any_parts, covers_on, covers_odd, covers_cases}
use Rattle.slabs.specs.Outside.{IsFrame}
use Rattle.slabs.proofs.Closed.{even_law}
use Rattle.slabs.proofs.Outside.{ends_all, none_crossed}
use Rattle.outline_slab.specs.Rules.{IsSimple}
use Rattle.outline_slab.specs.Filled.{IsInStout, AreFilling, IsLeftOver}
use Rattle.outline_slab.proofs.Frames.{wide}
use Rattle.outline_slab.proofs.Simple.{closed_chain}

-- ---- a point four times as fine, moved by less than a half of the old unit
abbrev nudged : PlanePoint → ℤ → ℤ → PlanePoint
nudged p t u = record { x = pos 4 *ℤ p.x +ℤ t; y = pos 4 *ℤ p.y +ℤ u; scale = 4 * p.scale; positive = positive_product 4 p.scale (omega arith) p.positive }

record IsSlight (t : ℤ) : Type 0 where
  low : neg_ℤ (pos 1) ≤ℤ t
  high : t ≤ℤ pos 1

-- what has the moved point has the point: bounds are whole numbers
from_low : (k : ℕ) (b z w : ℤ) → (pos (4 * k) *ℤ b) ≤ℤ w → w ≤ℤ (pos 4 *ℤ z +ℤ pos 2) → (pos k *ℤ b) ≤ℤ z
from_low k b z w h g = let m = mul_mul 4 k b in omega (arith, ints)

from_high : (k : ℕ) (b z w : ℤ) → w ≤ℤ (pos (4 * k) *ℤ b) → (pos 4 *ℤ z -ℤ pos 2) ≤ℤ w → z ≤ℤ (pos k *ℤ b)
from_high k b z w h g = let m = mul_mul 4 k b in omega (arith, ints)

back : (o : Bounds) (p : PlanePoint) (t u : ℤ) → IsSlight t → IsSlight u → In o (nudged p t u) → In o p
back o p t u a b i =
    let k = p.scale in
    let tl = a.low in
    let th = a.high in
    let ul = b.low in
    let uh = b.high in
    record {
      x_low = from_low k o.x0 p.x _ i.x_low (omega (arith, ints));
      x_high = from_high k o.x1 p.x _ i.x_high (omega (arith, ints));
      y_low = from_low k o.y0 p.y _ i.y_low (omega (arith, ints));
      y_high = from_high k o.y1 p.y _ i.y_high (omega (arith, ints));
      s_low = from_low k o.s0 (p.x +ℤ p.y) _ i.s_low (omega (arith, ints));
      s_high = from_high k o.s1 (p.x +ℤ p.y) _ i.s_high (omega (arith, ints));
      d_low = from_low k o.d0 (p.x -ℤ p.y) _ i.d_low (omega (arith, ints));
      d_high = from_high k o.d1 (p.x -ℤ p.y) _ i.d_high (omega (arith, ints));
    }

-- from a to b, and moved inward at an end
record IsInward (a b z t : ℤ) : Type 0 where
  slight : IsSlight t
  low : (pos 4 *ℤ a) <ℤ (pos 4 *ℤ z +ℤ t)
  high : (pos 4 *ℤ z +ℤ t) <ℤ (pos 4 *ℤ b)

inward : (a b z : ℤ) → a <ℤ b → a ≤ℤ z → z ≤ℤ b → (t : ℤ) × IsInward a b z t
inward a b z h l g =
    by_lt_z {P = (t : ℤ) × IsInward a b z t} a z
    (λ m. by_lt_z {P = (t : ℤ) × IsInward a b z t} z b
    (λ n. (pos 0, record { slight = record { low = omega (arith, ints); high = omega (arith, ints) }; low = omega (arith, ints); high = omega (arith, ints) }))
    (λ n. (neg_ℤ (pos 1), record { slight = record { low = omega (arith, ints); high = omega (arith, ints) }; low = omega (arith, ints); high = omega (arith, ints) })))
    (λ m. (pos 1, record { slight = record { low = omega (arith, ints); high = omega (arith, ints) }; low = omega (arith, ints); high = omega (arith, ints) }))

mixed : (a b c : ℕ) → (a % 2 ≡ 1 → ⊥) → b % 2 ≡ 1 → c ≡ a + b → c % 2 ≡ 1
mixed a b c n h s = by_parity (a % 2) refl
  where
    by_parity : (m : ℕ) → a % 2 ≡ m → c % 2 ≡ 1
    by_parity zero e = omega (arith, e, h, s)
    by_parity (suc zero) e = absurd (n e)
    by_parity (suc (suc m)) e = absurd (omega (arith, e))

-- at an end, and moved by less than a unit
under : (k : ℕ) (a z t : ℤ) → 1 ≤ k → t ≤ℤ pos 1 → z ≤ℤ (pos k *ℤ a) → (pos 4 *ℤ z +ℤ t) <ℤ (pos (4 * k) *ℤ (a +ℤ pos 1))
under k a z t one h g =
    let m = mul_mul 4 k (a +ℤ pos 1) in
    let i = mul_lt k a (a +ℤ pos 1) one (omega (arith, ints)) in
    omega (arith, ints)

over : (k : ℕ) (a z t : ℤ) → 1 ≤ k → neg_ℤ (pos 1) ≤ℤ t → (pos k *ℤ a) ≤ℤ z → (pos (4 * k) *ℤ (a -ℤ pos 1)) <ℤ (pos 4 *ℤ z +ℤ t)
over k a z t one h g =
    let m = mul_mul 4 k (a -ℤ pos 1) in
    let i = mul_lt k (a -ℤ pos 1) a one (omega (arith, ints)) in
    omega (arith, ints)

-- ---- a chain in a rectangle
module _ (x0 x1 y0 y1 : ℤ) (cs : List Point) where
  abbrev Rim : List Edge
  Rim = edges_of (box_corners x0 x1 y0 y1)

  abbrev Box : Bounds
  Box = box_of x0 x1 y0 y1

  strictly : (p : PlanePoint) → (pos p.scale *ℤ x0) <ℤ p.x → p.x <ℤ (pos p.scale *ℤ x1) → (pos p.scale *ℤ y0) <ℤ p.y → p.y <ℤ (pos p.scale *ℤ y1) → StrictlyIn Box p
  strictly p a b c d = record {
    x_low = a;
    x_high = b;
    y_low = c;
    y_high = d;
    s_low = omega (arith, ints, mul_add p.scale x0 y0, a, c);
    s_high = omega (arith, ints, mul_add p.scale x1 y1, b, d);
    d_low = omega (arith, ints, mul_sub p.scale x0 y1, a, d);
    d_high = omega (arith, ints, mul_sub p.scale x1 y0, b, c);
  }

  -- what the chain doesn't cover strictly inside the rectangle
  pub between : (p : PlanePoint) → x0 ≤ℤ x1 → y0 ≤ℤ y1 → StrictlyIn Box p → (Covers (edges_of cs) p → ⊥) → StrictlyCovers (edges_of cs ++ Rim) p
  between p hx hy s n =
      let sum = sum_by-append (crossing p) (edges_of cs) Rim in
      let w = (strict_box_cover_law x0 x1 y0 y1 p hx hy).1 s in
      record {
        odd = mixed _ _ _ (λ q. n (covers_odd (edges_of cs) p q)) w.odd sum;
        off = λ a. elim (any_parts (λ e. IsOn e p) (edges_of cs) Rim a) [ inl b ↦ n (covers_on (edges_of cs) p b) | inr b ↦ w.off b ];
      }

  -- ---- less than a unit from the rim nothing is covered
  abbrev IsNearRim : PlanePoint → Type 0
  IsNearRim q =
      (q.x <ℤ (pos q.scale *ℤ (x0 +ℤ pos 1)))
      ⊎ (((pos q.scale *ℤ (x1 -ℤ pos 1)) <ℤ q.x) ⊎ ((q.y <ℤ (pos q.scale *ℤ (y0 +ℤ pos 1))) ⊎ ((pos q.scale *ℤ (y1 -ℤ pos 1)) <ℤ q.y)))

  abbrev IsAround : Type 0
  IsAround = All (λ e. StrictlyWithin Box e.start.x e.start.y × StrictlyWithin Box e.finish.x e.finish.y) (edges_of cs)

  not_on : (e : Edge) (q : PlanePoint) → StrictlyWithin Box e.start.x e.start.y → StrictlyWithin Box e.finish.x e.finish.y → IsOn e q → IsNearRim q → ⊥
  not_on e q a b o (inl h) =
      let l1 = mul_le q.scale (x0 +ℤ pos 1) e.start.x (omega (arith, ints, a.x_low)) in
      let l2 = mul_le q.scale (x0 +ℤ pos 1) e.finish.x (omega (arith, ints, b.x_low)) in
      let across = o.across in
      omega (arith, ints, l1, l2, across, h)
  not_on e q a b o (inr (inl h)) =
      let l1 = mul_le q.scale e.start.x (x1 -ℤ pos 1) (omega (arith, ints, a.x_high)) in
      let l2 = mul_le q.scale e.finish.x (x1 -ℤ pos 1) (omega (arith, ints, b.x_high)) in
      let across = o.across in
      omega (arith, ints, l1, l2, across, h)
  not_on e q a b o (inr (inr (inl h))) =
      let l1 = mul_le q.scale (y0 +ℤ pos 1) e.start.y (omega (arith, ints, a.y_low)) in
      let l2 = mul_le q.scale (y0 +ℤ pos 1) e.finish.y (omega (arith, ints, b.y_low)) in
      let along = o.along in
      omega (arith, ints, l1, l2, along, h)
  not_on e q a b o (inr (inr (inr h))) =
      let l1 = mul_le q.scale e.start.y (y1 -ℤ pos 1) (omega (arith, ints, a.y_high)) in
      let l2 = mul_le q.scale e.finish.y (y1 -ℤ pos 1) (omega (arith, ints, b.y_high)) in
      let along = o.along in
      omega (arith, ints, l1, l2, along, h)

  even_near : (q : PlanePoint) → AreOctilinear (edges_of cs) → IsAround → IsNearRim q → sum_by (crossing q) (edges_of cs) % 2 ≡ 0
  even_near q o all (inl h) =
      let n = none_crossed (edges_of cs) q o (λ k d l c.
      (let w = all k d l in
      let a = mul_le q.scale (x0 +ℤ pos 1) (get_or (edges_of cs) k d).start.x (omega (arith, ints, w.0.x_low)) in
      let b = mul_le q.scale (x0 +ℤ pos 1) (get_or (edges_of cs) k d).finish.x (omega (arith, ints, w.1.x_low)) in
      let c1 = c.1 in
      omega (arith, ints, a, b, c1, h))) in
      omega (arith, n)
  even_near q o all (inr (inl h)) =
      even_law cs q o (λ k d l.
      (let w = all k d l in
      let a = mul_le q.scale (get_or (edges_of cs) k d).start.x (x1 -ℤ pos 1) (omega (arith, ints, w.0.x_high)) in
      let b = mul_le q.scale (get_or (edges_of cs) k d).finish.x (x1 -ℤ pos 1) (omega (arith, ints, w.1.x_high)) in
      record { start = omega (arith, ints, a, h); finish = omega (arith, ints, b, h) }))
  even_near q o all (inr (inr (inl h))) =
      let n = none_crossed (edges_of cs) q o (λ k d l c.
      (let w = all k d l in
      let a = mul_le q.scale (y0 +ℤ pos 1) (get_or (edges_of cs) k d).start.y (omega (arith, ints, w.0.y_low)) in
      let b = mul_le q.scale (y0 +ℤ pos 1) (get_or (edges_of cs) k d).finish.y (omega (arith, ints, w.1.y_low)) in
      let c1 = c.0 in
      omega (arith, ints, a, b, c1, h))) in
      omega (arith, n)
  even_near q o all (inr (inr (inr h))) =
      let n = none_crossed (edges_of cs) q o (λ k d l c.
      (let w = all k d l in
      let a = mul_le q.scale (get_or (edges_of cs) k d).start.y (y1 -ℤ pos 1) (omega (arith, ints, w.0.y_high)) in
      let b = mul_le q.scale (get_or (edges_of cs) k d).finish.y (y1 -ℤ pos 1) (omega (arith, ints, w.1.y_high)) in
      let c1 = c.0 in
      omega (arith, ints, a, b, c1, h))) in
      omega (arith, n)

  near_uncovered : (q : PlanePoint) → AreOctilinear (edges_of cs) → IsAround → IsNearRim q → Covers (edges_of cs) q → ⊥
  near_uncovered q o all near c =
      elim (covers_cases (edges_of cs) q c) [
        | inl a ↦
            (let w = subst (λ (e : Edge). StrictlyWithin Box e.start.x e.start.y × StrictlyWithin Box e.finish.x e.finish.y) a.3 (all a.0 a.1 a.2) in
            not_on a.1 q w.0 w.1 a.4 near)
        | inr odd ↦ (let even = even_near q o all near in omega (arith, odd, even))
      ]

  -- ---- a point of the rim, moved inward
  abbrev IsOnRim : PlanePoint → Type 0
  IsOnRim p = (p.x ≤ℤ (pos p.scale *ℤ x0)) ⊎ (((pos p.scale *ℤ x1) ≤ℤ p.x) ⊎ ((p.y ≤ℤ (pos p.scale *ℤ y0)) ⊎ ((pos p.scale *ℤ y1) ≤ℤ p.y)))

  near : (p : PlanePoint) (t u : ℤ) → IsSlight t → IsSlight u → IsOnRim p → IsNearRim (nudged p t u)
  near p t u a b (inl h) = inl (under p.scale x0 p.x t p.positive a.high h)
  near p t u a b (inr (inl h)) = inr (inl (over p.scale x1 p.x t p.positive a.low h))
  near p t u a b (inr (inr (inl h))) = inr (inr (inl (under p.scale y0 p.y u p.positive b.high h)))
  near p t u a b (inr (inr (inr h))) = inr (inr (inr (over p.scale y1 p.y u p.positive b.low h)))

  abbrev Side : PlanePoint → Type 0
  Side p = StrictlyIn Box p ⊎ IsOnRim p

  side : (p : PlanePoint) → Side p
  side p =
      by_lt_z {P = Side p} (pos p.scale *ℤ x0) p.x
      (λ a. by_lt_z {P = Side p} p.x (pos p.scale *ℤ x1)
      (λ b. by_lt_z {P = Side p} (pos p.scale *ℤ y0) p.y
      (λ c. by_lt_z {P = Side p} p.y (pos p.scale *ℤ y1)
      (λ d. inl (strictly p a b c d))
      (λ d. inr (inr (inr (inr d)))))
      (λ c. inr (inr (inr (inl c)))))
      (λ b. inr (inr (inl b))))
      (λ a. inr (inl a))

  moved_in : (octs : List Bounds) (p : PlanePoint) (t u : ℤ) → IsSlight t → IsSlight u → IsInStout octs (nudged p t u) → IsInStout octs p
  moved_in octs p t u a b w = (w.0, w.1, w.2, w.3, (back w.1 p t u a b w.4.0, w.4.1))

  pub left_over : (octs : List Bounds) → x0 <ℤ x1 → y0 <ℤ y1 → AreOctilinear (edges_of cs) → IsAround → AreFilling octs (StrictlyCovers (edges_of cs ++ Rim))
      → AreFilling octs (IsLeftOver (edges_of cs) Box)
  left_over octs hx hy o all fill p h =
      let k = p.scale in
      let lx : x0 ≤ℤ x1 = omega (arith, ints, hx) in
      let ly : y0 ≤ℤ y1 = omega (arith, ints, hy) in
      elim (side p) [
        | inl s ↦ fill p (between p lx ly s h.1)
        | inr r ↦
            (let wx = mul_lt k x0 x1 p.positive hx in
            let wy = mul_lt k y0 y1 p.positive hy in
            let t = inward (pos k *ℤ x0) (pos k *ℤ x1) p.x wx h.0.x_low h.0.x_high in
            let u = inward (pos k *ℤ y0) (pos k *ℤ y1) p.y wy h.0.y_low h.0.y_high in
            let q = nudged p t.0 u.0 in
            let s = strictly q (rw (← mul_mul 4 k x0) t.1.low) (rw (← mul_mul 4 k x1) t.1.high) (rw (← mul_mul 4 k y0) u.1.low) (rw (← mul_mul 4 k y1) u.1.high) in
            moved_in octs p t.0 u.0 t.1.slight u.1.slight
            (fill q (between q lx ly s (near_uncovered q o all (near p t.0 u.0 t.1.slight u.1.slight r)))))
      ]

pub filling_outside : (cs : List Point) (b : Bounds) (octs : List Bounds) (es : List Edge) → IsSimple cs → IsFrame cs b → es ≡ edges_of cs ++ edges_of (box_corners b.x0 b.x1 b.y0 b.y1)
    → AreFilling octs (StrictlyCovers es) → AreFilling octs (IsLeftOver (edges_of cs) b)
filling_outside cs b octs es s f same fill =
    let w = wide cs b s f in
    let around = subst (λ (c : Bounds). All (λ v. StrictlyWithin c v.x v.y) cs) f.box f.around in
    let ends = ends_all (λ v. StrictlyWithin (box_of b.x0 b.x1 b.y0 b.y1) v.x v.y) cs around in
    let g = subst (λ (q : List Edge). AreFilling octs (StrictlyCovers q)) same fill in
    let out = left_over b.x0 b.x1 b.y0 b.y1 cs octs w.0 w.1 (closed_chain cs s).octilinear ends g in
    subst (λ (c : Bounds). AreFilling octs (IsLeftOver (edges_of cs) c)) (sym f.box) out
