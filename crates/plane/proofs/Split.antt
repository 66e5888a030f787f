-- An edge cut at a point of it counts and covers as its two parts do.
use Rattle.std.proofs.Common.{◌≡◌, refl, sym, ◌∙◌, ℕ, ◌+◌, ◌%◌, ◌⊎◌, inl, inr, arith, List, [], ◌∷◌}
use Rattle.std.specs.Prelude.{ℤ, pos, neg_ℤ, ◌+ℤ◌, ◌-ℤ◌, ◌*ℤ◌, ◌≤ℤ◌, ◌↔◌, Any}
use Rattle.std.proofs.lemmas.Int.{ints, by_lt_z}
use Rattle.std.proofs.lemmas.List.Sums.{sum_by-cons}
use Rattle.std.specs.List.Sorted.{IsPermutation}
use Rattle.std.proofs.lemmas.List.Sorted.{sum_by-IsPermutation, IsPermutation-sym}
use Rattle.plane.specs.Plane.{PlanePoint}
use Rattle.grid_num.proofs.Products.{mul_le}
use Rattle.grid_num.specs.declared.Point.{Point}
use Rattle.plane.specs.Covering.{Edge, IsOn, crossing, crossings, down_crossing, Covers, StrictlyCovers}
use Rattle.plane.specs.Edges.{turned_back, both_ways, IsOnWay}
use Rattle.plane.specs.CoverLaws.{SlitsLaw, OrderLaw}
use Rattle.plane.proofs.Counts.{Counts, upright, rise, fall, none_up}
use Rattle.plane.proofs.On.{at, on_upright, upright_on, on_rise, rise_on, on_fall, fall_on}
use Rattle.plane.proofs.Lists.{any_head, any_tail, any_cases, any_left, any_parts}
use Rattle.plane.proofs.CoverLaws.{crossing_turned, crossings_append, any_permutation}

abbrev edge : Point → Point → Edge
edge a b = record { start = a; finish = b }

split_counts : (n n1 n2 : ℕ) (low mid high y line line' u : ℤ) → low ≤ℤ mid → mid ≤ℤ high → line ≡ line'
    → Counts n low high y line u → Counts n1 low mid y line u → Counts n2 mid high y line' u → n ≡ n1 + n2
split_counts n n1 n2 low mid high y line line' u h1 h2 e (inl a) b c = omega (arith, ints)
split_counts n n1 n2 low mid high y line line' u h1 h2 e (inr a) (inl b) c = omega (arith, ints)
split_counts n n1 n2 low mid high y line line' u h1 h2 e (inr a) (inr b) (inl c) = omega (arith, ints)
split_counts n n1 n2 low mid high y line line' u h1 h2 e (inr a) (inr b) (inr c) = omega (arith, ints)

-- the counts of the two parts add up
pub split_crossing : (a b c : Point) (p : PlanePoint) → IsOnWay a b c → crossing p (edge a c) ≡ crossing p (edge a b) + crossing p (edge b c)
unfolding IsOnWay crossing
split_crossing a b c p w =
    let h1 = w.0 in
    let h2 = w.1 in
    let z1 = none_up c a p (omega (arith, ints, h1, h2)) in
    let z2 = none_up b a p h1 in
    let z3 = none_up c b p h2 in
    let k1 = mul_le p.scale a.y b.y h1 in
    let k2 = mul_le p.scale b.y c.y h2 in
    let m : down_crossing a c p ≡ down_crossing a b p + down_crossing b c p =
    elim (w.2) [
      | inl e ↦
          split_counts (down_crossing a c p) (down_crossing a b p) (down_crossing b c p) (pos p.scale *ℤ a.y) (pos p.scale *ℤ b.y) (pos p.scale *ℤ c.y) p.y (pos p.scale *ℤ a.x) (pos p.scale *ℤ b.x) p.x k1 k2
          (at p.scale a.x b.x e.0) (upright a c p (e.0 ∙ e.1)) (upright a b p e.0) (upright b c p e.1)
      | inr f ↦
          elim f [
            | inl e ↦ (let e0 = e.0 in let e1 = e.1 in
                split_counts (down_crossing a c p) (down_crossing a b p) (down_crossing b c p) (pos p.scale *ℤ a.y) (pos p.scale *ℤ b.y) (pos p.scale *ℤ c.y) p.y (pos p.scale *ℤ (a.x -ℤ a.y)) (pos p.scale *ℤ (b.x -ℤ b.y)) (p.x -ℤ p.y) k1 k2
                (at p.scale (a.x -ℤ a.y) (b.x -ℤ b.y) (omega (arith, ints, e0))) (rise a c p (omega (arith, ints, e0, e1))) (rise a b p e0) (rise b c p e1))
            | inr e ↦ (let e0 = e.0 in let e1 = e.1 in
                split_counts (down_crossing a c p) (down_crossing a b p) (down_crossing b c p) (pos p.scale *ℤ a.y) (pos p.scale *ℤ b.y) (pos p.scale *ℤ c.y) p.y (pos p.scale *ℤ (a.x +ℤ a.y)) (pos p.scale *ℤ (b.x +ℤ b.y)) (p.x +ℤ p.y) k1 k2
                (at p.scale (a.x +ℤ a.y) (b.x +ℤ b.y) (omega (arith, ints, e0))) (fall a c p (omega (arith, ints, e0, e1))) (fall a b p e0) (fall b c p e1))
          ]
    ] in
    omega (arith, m, z1, z2, z3)

-- .. and the points are those of the two parts
pub split_on : (a b c : Point) (p : PlanePoint) → IsOnWay a b c → IsOn (edge a c) p ↔ (IsOn (edge a b) p ⊎ IsOn (edge b c) p)
unfolding IsOnWay
split_on a b c p (h1, h2, inl e) =
    let k1 = mul_le p.scale a.y b.y h1 in
    let k2 = mul_le p.scale b.y c.y h2 in
    let x1 = at p.scale a.x b.x e.0 in (
      λ o. (let x = on_upright (edge a c) p (e.0 ∙ e.1) o in let y = o.along in
          by_lt_z {P = IsOn (edge a b) p ⊎ IsOn (edge b c) p} p.y (pos p.scale *ℤ b.y)
          (λ m. inl (upright_on (edge a b) p e.0 x (inl (omega (arith, ints, y, k1, k2, m), omega (arith, ints, m)))))
          (λ m. inr (upright_on (edge b c) p e.1 (x ∙ x1) (inl (m, omega (arith, ints, y, k1, k2, m)))))),
      λ o. elim o [
        | inl o ↦ (let y = o.along in upright_on (edge a c) p (e.0 ∙ e.1) (on_upright (edge a b) p e.0 o) (inl (omega (arith, ints, y, k1, k2), omega (arith, ints, y, k1, k2))))
        | inr o ↦ (let y = o.along in upright_on (edge a c) p (e.0 ∙ e.1) (on_upright (edge b c) p e.1 o ∙ sym x1) (inl (omega (arith, ints, y, k1, k2), omega (arith, ints, y, k1, k2))))
      ],
    )
split_on a b c p (h1, h2, inr (inl e)) =
    let k1 = mul_le p.scale a.y b.y h1 in
    let k2 = mul_le p.scale b.y c.y h2 in
    let e0 = e.0 in
    let e1 = e.1 in
    let x1 = at p.scale (a.x -ℤ a.y) (b.x -ℤ b.y) (omega (arith, ints, e0)) in
    let f : c.x -ℤ a.x ≡ c.y -ℤ a.y = omega (arith, ints, e0, e1) in (
      λ o. (let x = on_rise (edge a c) p f o in let y = o.along in
          by_lt_z {P = IsOn (edge a b) p ⊎ IsOn (edge b c) p} p.y (pos p.scale *ℤ b.y)
          (λ m. inl (rise_on (edge a b) p e0 x (inl (omega (arith, ints, y, k1, k2, m), omega (arith, ints, m)))))
          (λ m. inr (rise_on (edge b c) p e1 (x ∙ x1) (inl (m, omega (arith, ints, y, k1, k2, m)))))),
      λ o. elim o [
        | inl o ↦ (let y = o.along in rise_on (edge a c) p f (on_rise (edge a b) p e0 o) (inl (omega (arith, ints, y, k1, k2), omega (arith, ints, y, k1, k2))))
        | inr o ↦ (let y = o.along in rise_on (edge a c) p f (on_rise (edge b c) p e1 o ∙ sym x1) (inl (omega (arith, ints, y, k1, k2), omega (arith, ints, y, k1, k2))))
      ],
    )
split_on a b c p (h1, h2, inr (inr e)) =
    let k1 = mul_le p.scale a.y b.y h1 in
    let k2 = mul_le p.scale b.y c.y h2 in
    let e0 = e.0 in
    let e1 = e.1 in
    let x1 = at p.scale (a.x +ℤ a.y) (b.x +ℤ b.y) (omega (arith, ints, e0)) in
    let f : c.x -ℤ a.x ≡ neg_ℤ (c.y -ℤ a.y) = omega (arith, ints, e0, e1) in (
      λ o. (let x = on_fall (edge a c) p f o in let y = o.along in
          by_lt_z {P = IsOn (edge a b) p ⊎ IsOn (edge b c) p} p.y (pos p.scale *ℤ b.y)
          (λ m. inl (fall_on (edge a b) p e0 x (inl (omega (arith, ints, y, k1, k2, m), omega (arith, ints, m)))))
          (λ m. inr (fall_on (edge b c) p e1 (x ∙ x1) (inl (m, omega (arith, ints, y, k1, k2, m)))))),
      λ o. elim o [
        | inl o ↦ (let y = o.along in fall_on (edge a c) p f (on_fall (edge a b) p e0 o) (inl (omega (arith, ints, y, k1, k2), omega (arith, ints, y, k1, k2))))
        | inr o ↦ (let y = o.along in fall_on (edge a c) p f (on_fall (edge b c) p e1 o ∙ sym x1) (inl (omega (arith, ints, y, k1, k2), omega (arith, ints, y, k1, k2))))
      ],
    )

-- ---- lists that count and cover alike
pub record AreAlike (es fs : List Edge) : Type 0 where
  pub count : (p : PlanePoint) → crossings es p ≡ crossings fs p
  pub on : (p : PlanePoint) → Any (λ e. IsOn e p) es ↔ Any (λ e. IsOn e p) fs

pub alike_covers : (es fs : List Edge) (p : PlanePoint) → AreAlike es fs → Covers es p ↔ Covers fs p
unfolding Covers
alike_covers es fs p a =
    let c = a.count p in (
      λ h. elim h [ inl i ↦ inl ((a.on p).0 i) | inr i ↦ inr (omega arith) ],
      λ h. elim h [ inl i ↦ inl ((a.on p).1 i) | inr i ↦ inr (omega arith) ],
    )

pub alike_strictly : (es fs : List Edge) (p : PlanePoint) → AreAlike es fs → StrictlyCovers es p ↔ StrictlyCovers fs p
alike_strictly es fs p a =
    let c = a.count p in (
      λ h. let o = h.odd in record { odd = omega arith; off = λ i. h.off ((a.on p).1 i) },
      λ h. let o = h.odd in record { odd = omega arith; off = λ i. h.off ((a.on p).0 i) },
    )

pub alike_order : (es fs : List Edge) → IsPermutation es fs → AreAlike es fs
alike_order es fs h = record {
  count = λ p. sym (sum_by-IsPermutation (crossing p) es fs h);
  on = λ p. (any_permutation (λ e. IsOn e p) es fs h, any_permutation (λ e. IsOn e p) fs es (IsPermutation-sym es fs h));
}

pub alike_split : (a b c : Point) (es : List Edge) → IsOnWay a b c → AreAlike (edge a c ∷ es) (edge a b ∷ edge b c ∷ es)
alike_split a b c es w =
    record {
      count = λ p.
          let x = sum_by-cons (crossing p) (edge a c) es in
          let y = sum_by-cons (crossing p) (edge a b) (edge b c ∷ es) in
          let z = sum_by-cons (crossing p) (edge b c) es in
          let s = split_crossing a b c p w in
          omega (arith, x, y, z, s);
      on = λ p. (to p, from p);
    }
  where
    to : (p : PlanePoint) → Any (λ e. IsOn e p) (edge a c ∷ es) → Any (λ e. IsOn e p) (edge a b ∷ edge b c ∷ es)
    to p i =
        elim (any_cases (λ e. IsOn e p) (edge a c) es i) [
          | inl j ↦ elim ((split_on a b c p w).0 j) [ inl k ↦ any_head (λ e. IsOn e p) (edge a b) (edge b c ∷ es) k | inr k ↦ any_tail (λ e. IsOn e p) (edge a b) (edge b c ∷ es) (any_head (λ e. IsOn e p) (edge b c) es k) ]
          | inr j ↦ any_tail (λ e. IsOn e p) (edge a b) (edge b c ∷ es) (any_tail (λ e. IsOn e p) (edge b c) es j)
        ]

    from : (p : PlanePoint) → Any (λ e. IsOn e p) (edge a b ∷ edge b c ∷ es) → Any (λ e. IsOn e p) (edge a c ∷ es)
    from p i =
        elim (any_cases (λ e. IsOn e p) (edge a b) (edge b c ∷ es) i) [
          | inl j ↦ any_head (λ e. IsOn e p) (edge a c) es ((split_on a b c p w).1 (inl j))
          | inr i ↦
              elim (any_cases (λ e. IsOn e p) (edge b c) es i) [
                | inl j ↦ any_head (λ e. IsOn e p) (edge a c) es ((split_on a b c p w).1 (inr j))
                | inr j ↦ any_tail (λ e. IsOn e p) (edge a c) es j
              ]
        ]

-- ---- slits: both ways along edges whose points are covered anyway
pub slits_even : (p : PlanePoint) (es : List Edge) → crossings (both_ways es) p % 2 ≡ 0
unfolding both_ways
slits_even p [] = refl
slits_even p (e ∷ es) =
    let a = sum_by-cons (crossing p) e (turned_back e ∷ both_ways es) in
    let b = sum_by-cons (crossing p) (turned_back e) (both_ways es) in
    let c = crossing_turned p e in
    let d = slits_even p es in
    omega (arith, a, b, c, d)

pub slits_law : SlitsLaw
unfolding Covers
slits_law es ss p h =
    let a = crossings_append p es (both_ways ss) in
    let b = slits_even p ss in (
      λ c. elim c [
        | inl i ↦ elim (any_parts (λ e. IsOn e p) es (both_ways ss) i) [ inl j ↦ inl j | inr j ↦ h j ]
        | inr i ↦ inr (omega (arith, a, b, i))
      ],
      λ c. elim c [ inl i ↦ inl (any_left (λ e. IsOn e p) es (both_ways ss) i) | inr i ↦ inr (omega (arith, a, b, i)) ],
    )

pub order_law : OrderLaw
order_law es fs p h = alike_covers es fs p (alike_order es fs h)
