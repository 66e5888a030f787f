-- A chain and the rectangle round it cover together what the chain leaves of the rectangle.
use Rattle.std.proofs.Common.{◌≡◌, refl, sym, ◌∙◌, subst, ℕ, zero, suc, ◌+◌, ◌%◌, ◌<◌, ◌⊎◌, inl, inr, arith, List, [], ◌∷◌, ◌++◌, length, get_or}
use Rattle.std.specs.Prelude.{ℤ, pos, ◌*ℤ◌, ◌≤ℤ◌, ◌<ℤ◌, sum_by, Any}
use Rattle.std.specs.List.{All}
use Rattle.std.proofs.lemmas.Int.{ints, by_lt_z}
use Rattle.std.proofs.lemmas.List.Sums.{sum_by-cons, sum_by-append}
use Rattle.plane.specs.Plane.{PlanePoint, In, StrictlyIn, StrictlyWithin, box_of}
use Rattle.grid_num.proofs.Products.{mul_add, mul_sub, mul_lt}
use Rattle.grid_num.specs.declared.Point.{Point}
use Rattle.plane.specs.Covering.{Edge, IsOn, crossing, Covers, edges_to, edges_of}
use Rattle.plane.specs.Edges.{turned_back, IsOctilinear, AreOctilinear}
use Rattle.plane.specs.Corners.{box_corners}
use Rattle.plane.proofs.CoverLaws.{crossing_turned}
use Rattle.plane.proofs.Repeats.{box_cover_law, strict_box_cover_law}
use Rattle.plane.proofs.Lists.{any_left, any_right, any_parts, covers_on, covers_odd, covers_cases}
use Rattle.slabs.specs.Outside.{IsOutside, OutsideLaw}
use Rattle.slabs.proofs.At.{Passes, passes, somewhere, crosses}
use Rattle.slabs.proofs.Order.{all_head, all_tail}
use Rattle.slabs.proofs.Closed.{steep_of, turned_octilinear, level_none, even_law}
use Rattle.slabs.proofs.Law.{told_some}

-- ---- what holds of all corners holds of the ends of all edges
to_all : (P : Point → Type 0) (z a : Point) (cs : List Point) → P z → P a → All P cs → All (λ e. P e.start × P e.finish) (edges_to z a cs)
to_all P z a [] h g all = λ k d l. only k d l
  where
    only : (k : ℕ) (d : Edge) → k < 1 → P (get_or (edges_to z a []) k d).start × P (get_or (edges_to z a []) k d).finish
    only zero d l = (g, h)
    only (suc k) d l = absurd (omega (arith, l))
to_all P z a (b ∷ cs) h g all = at (all_head P b cs all) (to_all P z b cs h (all_head P b cs all) (all_tail P b cs all))
  where
    at : P b → All (λ e. P e.start × P e.finish) (edges_to z b cs) → (k : ℕ) (d : Edge) → k < length (edges_to z a (b ∷ cs))
        → P (get_or (edges_to z a (b ∷ cs)) k d).start × P (get_or (edges_to z a (b ∷ cs)) k d).finish
    at w rest zero d l = (g, w)
    at w rest (suc k) d l = rest k d (omega (arith, l))

pub ends_all : (P : Point → Type 0) (cs : List Point) → All P cs → All (λ e. P e.start × P e.finish) (edges_of cs)
ends_all P [] all = λ k d l. absurd (omega (arith, l))
ends_all P (a ∷ cs) all = to_all P a a cs (all_head P a cs all) (all_head P a cs all) (all_tail P a cs all)

-- ---- where an edge is crossed
-- the row of p is between the ends, and one of them is left of p
abbrev pub IsCrossed : Edge → PlanePoint → Type 0
IsCrossed e p =
    ((((pos p.scale *ℤ e.start.y) ≤ℤ p.y) × (p.y <ℤ (pos p.scale *ℤ e.finish.y))) ⊎ (((pos p.scale *ℤ e.finish.y) ≤ℤ p.y) × (p.y <ℤ (pos p.scale *ℤ e.start.y))))
    × (((pos p.scale *ℤ e.start.x) <ℤ p.x) ⊎ ((pos p.scale *ℤ e.finish.x) <ℤ p.x))

one_left : (t b u v y z x : ℤ) → t ≤ℤ y → y <ℤ b → z <ℤ x → Passes t b u v y z → (u <ℤ x) ⊎ (v <ℤ x)
one_left t b u v y z x l m h w = by_lt_z {P = (u <ℤ x) ⊎ (v <ℤ x)} u x (λ g. inl g) (λ g. inr (right g w))
  where
    right : x ≤ℤ u → Passes t b u v y z → v <ℤ x
    right g (inl a) = omega (arith, ints)
    right g (inr (inl a)) = omega (arith, ints)
    right g (inr (inr a)) = omega (arith, ints)

crossed_down : (e : Edge) (p : PlanePoint) → IsOctilinear e → e.start.y <ℤ e.finish.y → (crossing p e ≡ 0) ⊎ IsCrossed e p
crossed_down e p o d =
    let k = p.scale in
    let z = somewhere e k p.y (steep_of e o d) in
    elim (crosses e p z.0 d z.1) [
      | inl h ↦ inr (inl (h.1, h.2), one_left (pos k *ℤ e.start.y) (pos k *ℤ e.finish.y) (pos k *ℤ e.start.x) (pos k *ℤ e.finish.x) p.y z.0 p.x h.1 h.2 h.3 (passes e k p.y z.0 z.1))
      | inr h ↦ inl h.0
    ]

other_way : (e : Edge) (p : PlanePoint) → (crossing p (turned_back e) ≡ 0) ⊎ IsCrossed (turned_back e) p → (crossing p e ≡ 0) ⊎ IsCrossed e p
unfolding turned_back
other_way e p (inl h) = inl (sym (crossing_turned p e) ∙ h)
other_way e p (inr (inl r, inl c)) = inr (inr r, inr c)
other_way e p (inr (inl r, inr c)) = inr (inr r, inl c)
other_way e p (inr (inr r, inl c)) = inr (inl r, inr c)
other_way e p (inr (inr r, inr c)) = inr (inl r, inl c)

crossed_at : (e : Edge) (p : PlanePoint) → IsOctilinear e → (crossing p e ≡ 0) ⊎ IsCrossed e p
unfolding turned_back
crossed_at e p o =
    by_lt_z {P = (crossing p e ≡ 0) ⊎ IsCrossed e p} e.start.y e.finish.y
    (λ d. crossed_down e p o d)
    (λ d. by_lt_z {P = (crossing p e ≡ 0) ⊎ IsCrossed e p} e.finish.y e.start.y
    (λ u. other_way e p (crossed_down (turned_back e) p (turned_octilinear e o) u))
    (λ u. inl (level_none e p (omega (arith, ints)))))

pub none_crossed : (es : List Edge) (p : PlanePoint) → AreOctilinear es → All (λ e. IsCrossed e p → ⊥) es → sum_by (crossing p) es ≡ 0
unfolding AreOctilinear
none_crossed [] p o all = refl
none_crossed (e ∷ es) p o all =
    let rest = none_crossed es p o.1 (all_tail (λ e. IsCrossed e p → ⊥) e es all) in
    let s = sum_by-cons (crossing p) e es in
    elim (crossed_at e p o.0) [ inl h ↦ omega (arith, h, rest, s) | inr h ↦ absurd (all_head (λ e. IsCrossed e p → ⊥) e es all h) ]

-- ---- the rectangle
module _ (x0 x1 y0 y1 : ℤ) (cs : List Point) (p : PlanePoint) where
  -- an end of each edge is strictly inside
  abbrev IsAround : Type 0
  IsAround = All (λ e. StrictlyWithin (box_of x0 x1 y0 y1) e.start.x e.start.y × StrictlyWithin (box_of x0 x1 y0 y1) e.finish.x e.finish.y) (edges_of cs)

  pub strictly : (e : Edge) → StrictlyWithin (box_of x0 x1 y0 y1) e.start.x e.start.y → StrictlyWithin (box_of x0 x1 y0 y1) e.finish.x e.finish.y → IsOn e p
      → StrictlyIn (box_of x0 x1 y0 y1) p
  strictly e a b o =
      let k = p.scale in
      let one = p.positive in
      let l1 = mul_lt k x0 e.start.x one a.x_low in
      let l2 = mul_lt k x0 e.finish.x one b.x_low in
      let h1 = mul_lt k e.start.x x1 one a.x_high in
      let h2 = mul_lt k e.finish.x x1 one b.x_high in
      let m1 = mul_lt k y0 e.start.y one a.y_low in
      let m2 = mul_lt k y0 e.finish.y one b.y_low in
      let n1 = mul_lt k e.start.y y1 one a.y_high in
      let n2 = mul_lt k e.finish.y y1 one b.y_high in
      let across = o.across in
      let along = o.along in
      let x_low : (pos k *ℤ x0) <ℤ p.x = omega (arith, ints, l1, l2, across) in
      let x_high : p.x <ℤ (pos k *ℤ x1) = omega (arith, ints, h1, h2, across) in
      let y_low : (pos k *ℤ y0) <ℤ p.y = omega (arith, ints, m1, m2, along) in
      let y_high : p.y <ℤ (pos k *ℤ y1) = omega (arith, ints, n1, n2, along) in
      record {
        x_low = x_low;
        x_high = x_high;
        y_low = y_low;
        y_high = y_high;
        s_low = omega (arith, ints, mul_add k x0 y0, x_low, y_low);
        s_high = omega (arith, ints, mul_add k x1 y1, x_high, y_high);
        d_low = omega (arith, ints, mul_sub k x0 y1, x_low, y_high);
        d_high = omega (arith, ints, mul_sub k x1 y0, x_high, y_low);
      }

  on_strictly : IsAround → Any (λ e. IsOn e p) (edges_of cs) → StrictlyIn (box_of x0 x1 y0 y1) p
  on_strictly all a =
      let w = subst (λ (e : Edge). StrictlyWithin (box_of x0 x1 y0 y1) e.start.x e.start.y × StrictlyWithin (box_of x0 x1 y0 y1) e.finish.x e.finish.y) a.3 (all a.0 a.1 a.2) in
      strictly a.1 w.0 w.1 a.4

  abbrev Goal : Type 0
  Goal = StrictlyIn (box_of x0 x1 y0 y1) p ⊎ ((p.x ≤ℤ (pos p.scale *ℤ x0)) ⊎ (((pos p.scale *ℤ x1) ≤ℤ p.x) ⊎ ((p.y ≤ℤ (pos p.scale *ℤ y0)) ⊎ ((pos p.scale *ℤ y1) ≤ℤ p.y))))

  -- p is strictly inside, or beyond one of the four sides
  beyond : StrictlyIn (box_of x0 x1 y0 y1) p
      ⊎ ((p.x ≤ℤ (pos p.scale *ℤ x0)) ⊎ (((pos p.scale *ℤ x1) ≤ℤ p.x) ⊎ ((p.y ≤ℤ (pos p.scale *ℤ y0)) ⊎ ((pos p.scale *ℤ y1) ≤ℤ p.y))))
  beyond =
      by_lt_z {P = Goal} (pos p.scale *ℤ x0) p.x
      (λ a. by_lt_z {P = Goal} p.x (pos p.scale *ℤ x1)
      (λ b. by_lt_z {P = Goal} (pos p.scale *ℤ y0) p.y
      (λ c. by_lt_z {P = Goal} p.y (pos p.scale *ℤ y1)
      (λ d. inl (record {
        x_low = a;
        x_high = b;
        y_low = c;
        y_high = d;
        s_low = omega (arith, ints, mul_add p.scale x0 y0, a, c);
        s_high = omega (arith, ints, mul_add p.scale x1 y1, b, d);
        d_low = omega (arith, ints, mul_sub p.scale x0 y1, a, d);
        d_high = omega (arith, ints, mul_sub p.scale x1 y0, b, c);
      }))
      (λ d. inr (inr (inr (inr d)))))
      (λ c. inr (inr (inr (inl c)))))
      (λ b. inr (inr (inl b))))
      (λ a. inr (inl a))

  even_beyond : AreOctilinear (edges_of cs) → IsAround
      → (p.x ≤ℤ (pos p.scale *ℤ x0)) ⊎ (((pos p.scale *ℤ x1) ≤ℤ p.x) ⊎ ((p.y ≤ℤ (pos p.scale *ℤ y0)) ⊎ ((pos p.scale *ℤ y1) ≤ℤ p.y)))
      → sum_by (crossing p) (edges_of cs) % 2 ≡ 0
  even_beyond o all (inl h) =
      let n = none_crossed (edges_of cs) p o (λ k d l c.
      (let w = all k d l in
      let a = mul_lt p.scale x0 _ p.positive w.0.x_low in
      let b = mul_lt p.scale x0 _ p.positive w.1.x_low in
      let c1 = c.1 in
      omega (arith, ints, a, b, c1, h))) in
      omega (arith, n)
  even_beyond o all (inr (inl h)) =
      even_law cs p o (λ k d l.
      (let w = all k d l in
      let a = mul_lt p.scale _ x1 p.positive w.0.x_high in
      let b = mul_lt p.scale _ x1 p.positive w.1.x_high in
      record { start = omega (arith, ints, a, h); finish = omega (arith, ints, b, h) }))
  even_beyond o all (inr (inr (inl h))) =
      let n = none_crossed (edges_of cs) p o (λ k d l c.
      (let w = all k d l in
      let a = mul_lt p.scale y0 _ p.positive w.0.y_low in
      let b = mul_lt p.scale y0 _ p.positive w.1.y_low in
      let c1 = c.0 in
      omega (arith, ints, a, b, c1, h))) in
      omega (arith, n)
  even_beyond o all (inr (inr (inr h))) =
      let n = none_crossed (edges_of cs) p o (λ k d l c.
      (let w = all k d l in
      let a = mul_lt p.scale _ y1 p.positive w.0.y_high in
      let b = mul_lt p.scale _ y1 p.positive w.1.y_high in
      let c1 = c.0 in
      omega (arith, ints, a, b, c1, h))) in
      omega (arith, n)

  -- on the rim, p is beyond
  abbrev pub Rim : List Edge
  Rim = edges_of (box_corners x0 x1 y0 y1)

  pub rim_not_strictly : x0 ≤ℤ x1 → y0 ≤ℤ y1 → Any (λ e. IsOn e p) Rim → StrictlyIn (box_of x0 x1 y0 y1) p → ⊥
  rim_not_strictly h g a s = ((strict_box_cover_law x0 x1 y0 y1 p h g).1 s).off a

  uncovered : (n : ℕ) → sum_by (crossing p) (edges_of cs) ≡ n → n % 2 ≡ 0 → (Any (λ e. IsOn e p) (edges_of cs) → ⊥) → Covers (edges_of cs) p → ⊥
  uncovered n e even off c = elim (covers_cases (edges_of cs) p c) [ inl a ↦ off a | inr o ↦ omega (arith, e, even, o) ]

  to_outside : x0 <ℤ x1 → y0 <ℤ y1 → AreOctilinear (edges_of cs) → IsAround → Covers (edges_of cs ++ Rim) p → IsOutside (edges_of cs) (box_of x0 x1 y0 y1) p
  unfolding IsOutside
  to_outside hx hy o all c =
      let lx : x0 ≤ℤ x1 = omega (arith, ints, hx) in
      let ly : y0 ≤ℤ y1 = omega (arith, ints, hy) in
      let sum = sum_by-append (crossing p) (edges_of cs) Rim in
      let inside : StrictlyIn (box_of x0 x1 y0 y1) p → In (box_of x0 x1 y0 y1) p = λ s.
      record {
        x_low = omega (arith, ints, s.x_low);
        x_high = omega (arith, ints, s.x_high);
        y_low = omega (arith, ints, s.y_low);
        y_high = omega (arith, ints, s.y_high);
        s_low = omega (arith, ints, s.s_low);
        s_high = omega (arith, ints, s.s_high);
        d_low = omega (arith, ints, s.d_low);
        d_high = omega (arith, ints, s.d_high);
      } in
      elim (told_some (edges_of cs) p) [
        | inl a ↦ (inside (on_strictly all a), inr a)
        | inr off ↦ elim beyond [
          | inl s ↦ (
            inside s,
            inl (elim (covers_cases (edges_of cs ++ Rim) p c) [
              | inl a ↦ absurd (elim (any_parts (λ e. IsOn e p) (edges_of cs) Rim a) [ inl b ↦ off b | inr b ↦ rim_not_strictly lx ly b s ])
              | inr odd ↦ uncovered _ refl (let w = ((strict_box_cover_law x0 x1 y0 y1 p lx ly).1 s).odd in omega (arith, odd, w, sum)) off
            ]),
          )
          | inr b ↦
              (let even = even_beyond o all b in (
                elim (covers_cases (edges_of cs ++ Rim) p c) [
                  | inl a ↦ elim (any_parts (λ e. IsOn e p) (edges_of cs) Rim a) [ inl d ↦ absurd (off d) | inr d ↦ (box_cover_law x0 x1 y0 y1 p lx ly).0 (covers_on Rim p d) ]
                  | inr odd ↦ (box_cover_law x0 x1 y0 y1 p lx ly).0 (covers_odd Rim p (omega (arith, odd, even, sum)))
                ],
                inl (uncovered _ refl even off),
              ))
        ]
      ]

  from_outside : x0 <ℤ x1 → y0 <ℤ y1 → IsOutside (edges_of cs) (box_of x0 x1 y0 y1) p → Covers (edges_of cs ++ Rim) p
  unfolding IsOutside
  from_outside hx hy h =
      let lx : x0 ≤ℤ x1 = omega (arith, ints, hx) in
      let ly : y0 ≤ℤ y1 = omega (arith, ints, hy) in
      let sum = sum_by-append (crossing p) (edges_of cs) Rim in
      elim (h.1) [
        | inr a ↦ covers_on (edges_of cs ++ Rim) p (any_left (λ e. IsOn e p) (edges_of cs) Rim a)
        | inl n ↦ elim (covers_cases Rim p ((box_cover_law x0 x1 y0 y1 p lx ly).1 h.0)) [
          | inl a ↦ covers_on (edges_of cs ++ Rim) p (any_right (λ e. IsOn e p) (edges_of cs) Rim a)
          | inr odd ↦
              (let not_odd : sum_by (crossing p) (edges_of cs) % 2 ≡ 1 → ⊥ = λ q. n (covers_odd (edges_of cs) p q) in
              covers_odd (edges_of cs ++ Rim) p (mixed _ _ _ not_odd odd sum))
        ]
      ]
    where
      mixed : (a b c : ℕ) → (a % 2 ≡ 1 → ⊥) → b % 2 ≡ 1 → c ≡ a + b → c % 2 ≡ 1
      mixed a b c n h s = by_parity (a % 2) refl
        where
          by_parity : (m : ℕ) → a % 2 ≡ m → c % 2 ≡ 1
          by_parity zero e = omega (arith, e, h, s)
          by_parity (suc zero) e = absurd (n e)
          by_parity (suc (suc m)) e = absurd (omega (arith, e))

pub outside_law : OutsideLaw
outside_law x0 x1 y0 y1 cs p hx hy o all =
    let ends = ends_all (λ v. StrictlyWithin (box_of x0 x1 y0 y1) v.x v.y) cs all in
    (λ c. to_outside x0 x1 y0 y1 cs p hx hy o ends c, λ h. from_outside x0 x1 y0 y1 cs p hx hy h)
