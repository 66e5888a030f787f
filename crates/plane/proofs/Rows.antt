-- For closed chains it does not matter which end of an edge counts.
use Rattle.std.proofs.Common.{◌≡◌, refl, sym, ◌∙◌, ℕ, ◌+◌, ◌%◌, ◌⊎◌, inl, inr, arith, List, [], ◌∷◌, true, cond}
use Rattle.std.specs.Prelude.{ℤ, pos, neg_ℤ, ◌+ℤ◌, ◌-ℤ◌, ◌*ℤ◌, ◌≤ℤ◌, ◌<ℤ◌, Any, sum_by, int_lt, int_le, ◌&&◌}
use Rattle.std.proofs.lemmas.Int.{ints, by_lt_z}
use Rattle.std.proofs.lemmas.List.Sums.{sum_by-cons}
use Rattle.plane.specs.Plane.{PlanePoint}
use Rattle.grid_num.proofs.Products.{mul_add, mul_sub, mul_lt}
use Rattle.grid_num.specs.declared.Point.{Point}
use Rattle.plane.specs.Covering.{IsOn, crossing, down_crossing, edges_to}
use Rattle.plane.specs.Ends.{down_crossing_below, crossing_below}
use Rattle.plane.specs.Edges.{IsOctilinear, AreOctilinear}
use Rattle.plane.specs.CoverLaws.{EndsLaw}
use Rattle.plane.proofs.Counts.{Counts, less_true, less_false, most_true, most_false, upright, rise, fall, none_up}
use Rattle.plane.proofs.Below.{CountsBelow, below_from, lower_end, upright_below, rise_below, fall_below}
use Rattle.plane.proofs.On.{at, level_on}
use Rattle.plane.proofs.Lists.{any_head, any_tail}

-- 1 where the corner is in the row of p, to its left
unfoldable pub left_in_row : PlanePoint → Point → ℕ
left_in_row p v = cond (int_le (pos p.scale *ℤ v.y) p.y && (int_le p.y (pos p.scale *ℤ v.y) && int_lt (pos p.scale *ℤ v.x) p.x)) 1 0

abbrev CountsAt : ℕ → ℤ → ℤ → ℤ → ℤ → Type 0
CountsAt n row y line u =
    ((n ≡ 1) × (y ≡ row) × (line <ℤ u)) ⊎ ((n ≡ 0) × ((y <ℤ row) ⊎ ((row <ℤ y) ⊎ (u ≤ℤ line))))

in_row : (p : PlanePoint) (v : Point) → CountsAt (left_in_row p v) (pos p.scale *ℤ v.y) p.y (pos p.scale *ℤ v.x) p.x
unfolding left_in_row
in_row p v = row_from (pos p.scale *ℤ v.y) p.y (pos p.scale *ℤ v.x) p.x
  where
    row_from : (row y line u : ℤ) → CountsAt (cond (int_le row y && (int_le y row && int_lt line u)) 1 0) row y line u
    row_from row y line u =
        by_lt_z {P = CountsAt (cond (int_le row y && (int_le y row && int_lt line u)) 1 0) row y line u} y row
        (λ h. let e = most_false row y h in rw e (inr (refl, inl h)))
        (λ h. let e = most_true row y h in rw e
        (by_lt_z {P = CountsAt (cond (true && (int_le y row && int_lt line u)) 1 0) row y line u} row y
        (λ k. let f = most_false y row k in rw f (inr (refl, inr (inl k))))
        (λ k. let f = most_true y row k in rw f
        (by_lt_z {P = CountsAt (cond (true && (true && int_lt line u)) 1 0) row y line u} line u
        (λ l. let t = less_true line u l in rw t (inl (refl, omega (arith, ints), l)))
        (λ l. let t = less_false line u l in rw t (inr (refl, inr (inr l))))))))

-- ---- one edge: the two counts and its ends in the row come to an even number
-- line and line' are where the two ends are
even_plain : (low high y line u fa fb x la lb : ℤ) (n m f g : ℕ) → low <ℤ high
    → (y ≡ low → u -ℤ line ≡ x -ℤ la) → (y ≡ high → u -ℤ line ≡ x -ℤ lb)
    → Counts n low high y line u → CountsBelow m low high y line u → CountsAt f low y la x → CountsAt g high y lb x → (n + m + f + g) % 2 ≡ 0
even_plain low high y line u fa fb x la lb n m f g d ea eb h1 h2 h3 h4 =
    by_lt_z {P = (n + m + f + g) % 2 ≡ 0} y low
    (λ l. omega (arith, ints, l))
    (λ l. by_lt_z {P = (n + m + f + g) % 2 ≡ 0} low y
    (λ k. by_lt_z {P = (n + m + f + g) % 2 ≡ 0} y high
    (λ i. omega (arith, ints, k, i))
    (λ i. by_lt_z {P = (n + m + f + g) % 2 ≡ 0} high y
    (λ j. omega (arith, ints, j))
    (λ j. let e = eb (omega (arith, ints, i, j)) in omega (arith, ints, e, i, j))))
    (λ k. let e = ea (omega (arith, ints, l, k)) in omega (arith, ints, e, k, l)))

none_up_below : (a b : Point) (p : PlanePoint) → b.y ≤ℤ a.y → down_crossing_below a b p ≡ 0
none_up_below a b p h =
    elim (below_from (pos p.scale *ℤ a.y) (pos p.scale *ℤ b.y) p.y
    ((b.x -ℤ a.x) *ℤ (p.y -ℤ pos p.scale *ℤ a.y)) ((b.y -ℤ a.y) *ℤ (p.x -ℤ pos p.scale *ℤ a.x)) (pos 0) (pos 1)
    (λ f l c. omega (arith, ints))
    (λ f l c. absurd (let m = lower_end p.scale a.y b.y p.y f l in omega (arith, ints))))
    [ inl w ↦ absurd (let m = lower_end p.scale a.y b.y p.y w.1 w.2 in omega (arith, ints)) | inr w ↦ w.0 ]

-- downward
even_down : (a b : Point) (p : PlanePoint) → a.y <ℤ b.y
    → ((a.x ≡ b.x) ⊎ ((b.x -ℤ a.x ≡ b.y -ℤ a.y) ⊎ (b.x -ℤ a.x ≡ neg_ℤ (b.y -ℤ a.y))))
    → (down_crossing a b p + down_crossing_below a b p + left_in_row p a + left_in_row p b) % 2 ≡ 0
even_down a b p d (inl e) =
    even_plain (pos p.scale *ℤ a.y) (pos p.scale *ℤ b.y) p.y (pos p.scale *ℤ a.x) p.x (pos 0) (pos 0) p.x (pos p.scale *ℤ a.x) (pos p.scale *ℤ b.x)
    (down_crossing a b p) (down_crossing_below a b p) (left_in_row p a) (left_in_row p b) (mul_lt p.scale a.y b.y p.positive d)
    (λ h. refl) (λ h. let f = at p.scale a.x b.x e in omega (arith, ints))
    (upright a b p e) (upright_below a b p e) (in_row p a) (in_row p b)
even_down a b p d (inr (inl e)) =
    even_plain (pos p.scale *ℤ a.y) (pos p.scale *ℤ b.y) p.y (pos p.scale *ℤ (a.x -ℤ a.y)) (p.x -ℤ p.y) (pos 0) (pos 0) p.x (pos p.scale *ℤ a.x) (pos p.scale *ℤ b.x)
    (down_crossing a b p) (down_crossing_below a b p) (left_in_row p a) (left_in_row p b) (mul_lt p.scale a.y b.y p.positive d)
    (λ h. omega (arith, ints, h, mul_sub p.scale a.x a.y))
    (λ h. let f = at p.scale (a.x -ℤ a.y) (b.x -ℤ b.y) (omega (arith, ints, e)) in omega (arith, ints, h, f, mul_sub p.scale b.x b.y))
    (rise a b p e) (rise_below a b p e) (in_row p a) (in_row p b)
even_down a b p d (inr (inr e)) =
    even_plain (pos p.scale *ℤ a.y) (pos p.scale *ℤ b.y) p.y (pos p.scale *ℤ (a.x +ℤ a.y)) (p.x +ℤ p.y) (pos 0) (pos 0) p.x (pos p.scale *ℤ a.x) (pos p.scale *ℤ b.x)
    (down_crossing a b p) (down_crossing_below a b p) (left_in_row p a) (left_in_row p b) (mul_lt p.scale a.y b.y p.positive d)
    (λ h. omega (arith, ints, h, mul_add p.scale a.x a.y))
    (λ h. let f = at p.scale (a.x +ℤ a.y) (b.x +ℤ b.y) (omega (arith, ints, e)) in omega (arith, ints, h, f, mul_add p.scale b.x b.y))
    (fall a b p e) (fall_below a b p e) (in_row p a) (in_row p b)

slanted : (a b : Point) → a.y <ℤ b.y → IsOctilinear (record { start = a; finish = b }) → (a.x ≡ b.x) ⊎ ((b.x -ℤ a.x ≡ b.y -ℤ a.y) ⊎ (b.x -ℤ a.x ≡ neg_ℤ (b.y -ℤ a.y)))
unfolding IsOctilinear
slanted a b d (inl h) = absurd (omega (arith, ints))
slanted a b d (inr h) = h

octilinear_back : (a b : Point) → IsOctilinear (record { start = a; finish = b }) → IsOctilinear (record { start = b; finish = a })
unfolding IsOctilinear
octilinear_back a b (inl h) = inl (sym h)
octilinear_back a b (inr (inl h)) = inr (inl (sym h))
octilinear_back a b (inr (inr (inl h))) = inr (inr (inl (omega (arith, ints))))
octilinear_back a b (inr (inr (inr h))) = inr (inr (inr (omega (arith, ints))))

-- level, and p not on the edge
even_level : (a b : Point) (p : PlanePoint) → a.y ≡ b.y → (IsOn (record { start = a; finish = b }) p → ⊥) → (left_in_row p a + left_in_row p b) % 2 ≡ 0
even_level a b p e off = go (in_row p a) (in_row p b)
  where
    rows : pos p.scale *ℤ a.y ≡ pos p.scale *ℤ b.y
    rows = at p.scale a.y b.y e

    go : CountsAt (left_in_row p a) (pos p.scale *ℤ a.y) p.y (pos p.scale *ℤ a.x) p.x → CountsAt (left_in_row p b) (pos p.scale *ℤ b.y) p.y (pos p.scale *ℤ b.x) p.x → (left_in_row p a + left_in_row p b) % 2 ≡ 0
    go (inl x) (inl y) = let f = x.0 in let g = y.0 in omega (arith, f, g)
    go (inr x) (inr y) = let f = x.0 in let g = y.0 in omega (arith, f, g)
    go (inl (f, h, l)) (inr (g, inl k)) = absurd (omega (arith, ints, h, k, rows))
    go (inl (f, h, l)) (inr (g, inr (inl k))) = absurd (omega (arith, ints, h, k, rows))
    go (inl (f, h, l)) (inr (g, inr (inr k))) = absurd (off (level_on (record { start = a; finish = b }) p e h (inl (omega (arith, ints, l), k))))
    go (inr (f, inl k)) (inl (g, h, l)) = absurd (omega (arith, ints, h, k, rows))
    go (inr (f, inr (inl k))) (inl (g, h, l)) = absurd (omega (arith, ints, h, k, rows))
    go (inr (f, inr (inr k))) (inl (g, h, l)) = absurd (off (level_on (record { start = a; finish = b }) p e (h ∙ sym rows) (inr (omega (arith, ints, l), k))))

pub even_edge : (a b : Point) (p : PlanePoint) → IsOctilinear (record { start = a; finish = b }) → (IsOn (record { start = a; finish = b }) p → ⊥)
    → (crossing p (record { start = a; finish = b }) + crossing_below p (record { start = a; finish = b }) + left_in_row p a + left_in_row p b) % 2 ≡ 0
unfolding crossing crossing_below
even_edge a b p o off =
    by_lt_z {P = ((down_crossing a b p + down_crossing b a p) + (down_crossing_below a b p + down_crossing_below b a p) + left_in_row p a + left_in_row p b) % 2 ≡ 0} a.y b.y
    (λ d. let h = even_down a b p d (slanted a b d o) in let y = none_up b a p (omega (arith, ints)) in let z = none_up_below b a p (omega (arith, ints)) in omega (arith, h, y, z))
    (λ d. by_lt_z {P = ((down_crossing a b p + down_crossing b a p) + (down_crossing_below a b p + down_crossing_below b a p) + left_in_row p a + left_in_row p b) % 2 ≡ 0} b.y a.y
    (λ k. let h = even_down b a p k (slanted b a k (octilinear_back a b o)) in let y = none_up a b p d in let z = none_up_below a b p d in omega (arith, h, y, z))
    (λ k.
    let e : a.y ≡ b.y = omega (arith, ints, d, k) in
    let h = even_level a b p e off in
    let y1 = none_up a b p d in let z1 = none_up_below a b p d in let y2 = none_up b a p k in let z2 = none_up_below b a p k in
    omega (arith, h, y1, z1, y2, z2)))

-- ---- chains
chain_even : (z a : Point) (cs : List Point) (p : PlanePoint) → AreOctilinear (edges_to z a cs) → (Any (λ e. IsOn e p) (edges_to z a cs) → ⊥)
    → (sum_by (crossing p) (edges_to z a cs) + sum_by (crossing_below p) (edges_to z a cs) + left_in_row p a + left_in_row p z) % 2 ≡ 0
unfolding AreOctilinear
chain_even z a [] p o off =
    let h = even_edge a z p o.0 (λ i. off (any_head (λ e. IsOn e p) (record { start = a; finish = z }) [] i)) in
    let x = sum_by-cons (crossing p) (record { start = a; finish = z }) [] in
    let y = sum_by-cons (crossing_below p) (record { start = a; finish = z }) [] in
    omega (arith, h, x, y)
chain_even z a (b ∷ cs) p o off =
    let h = even_edge a b p o.0 (λ i. off (any_head (λ e. IsOn e p) (record { start = a; finish = b }) (edges_to z b cs) i)) in
    let g = chain_even z b cs p o.1 (λ i. off (any_tail (λ e. IsOn e p) (record { start = a; finish = b }) (edges_to z b cs) i)) in
    let x = sum_by-cons (crossing p) (record { start = a; finish = b }) (edges_to z b cs) in
    let y = sum_by-cons (crossing_below p) (record { start = a; finish = b }) (edges_to z b cs) in
    omega (arith, h, g, x, y)

-- off its edges, a closed chain crosses a row the same number of times modulo 2, whichever end counts
pub ends_law : EndsLaw
ends_law [] p o off = refl
ends_law (a ∷ cs) p o off = let h = chain_even a a cs p o off in omega (arith, h)
