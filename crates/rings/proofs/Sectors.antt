-- Which of the eight sectors around a point have copper next to it. Sector k is between the directions k and k + 1.
--
--      \ 2 | 1 /        A strip below the row of the point has copper in a sector where, just below the point, the line
--     3 \  |  / 0       through the sector's middle is between the strip's sides; a strip above it likewise. The
--     ----- -----       lines' slopes, as twice the way to the right per way down, or up, are 4, 1, -1 and -4.
--     4 /  |  \ 7
--      / 5 | 6 \
use Rattle.std.proofs.Common.{◌≡◌, sym, subst, ap, ◌∙◌, ℕ, zero, suc, ◌+◌, ◌%◌, ◌⊎◌, inl, inr, arith, List}
use Rattle.std.specs.Prelude.{ℤ, pos, negsuc, ◌-ℤ◌, ◌*ℤ◌, ◌<ℤ◌, ◌≤ℤ◌}
use Rattle.std.proofs.lemmas.Int.{ints, by_lt_z}
use Rattle.grid_num.specs.declared.Point.{Point}
use Rattle.strips.specs.declared.Strip.{Strip}
use Rattle.strips.specs.Strips.{IsTrapezoid}
use Rattle.rings.proofs.Lists.{Has, found}
use Rattle.rings.proofs.Sides.{AreOrdered, beside, LeftAt, RightAt}
use Rattle.rings.proofs.Levels.{both_cases, equal_cases, most_cases}

-- the strip below the row of v has copper along the line of slope m
pub record IsBelowAlong (s : Strip) (v : Point) (m : ℤ) : Type 0 where
  pub row : s.top ≡ v.y
  pub left : (s.left <ℤ v.x) ⊎ ((s.left ≡ v.x) × ((pos 2 *ℤ (s.left_end -ℤ s.left)) ≤ℤ (m *ℤ (s.bottom -ℤ s.top))))
  pub right : (v.x <ℤ s.right) ⊎ ((s.right ≡ v.x) × ((m *ℤ (s.bottom -ℤ s.top)) ≤ℤ (pos 2 *ℤ (s.right_end -ℤ s.right))))

-- and one above it
pub record IsAboveAlong (s : Strip) (v : Point) (m : ℤ) : Type 0 where
  pub row : s.bottom ≡ v.y
  pub left : (s.left_end <ℤ v.x) ⊎ ((s.left_end ≡ v.x) × ((pos 2 *ℤ (s.left -ℤ s.left_end)) ≤ℤ (m *ℤ (s.bottom -ℤ s.top))))
  pub right : (v.x <ℤ s.right_end) ⊎ ((s.right_end ≡ v.x) × ((m *ℤ (s.bottom -ℤ s.top)) ≤ℤ (pos 2 *ℤ (s.right -ℤ s.right_end))))

unfoldable pub IsSector : ℕ → Strip → Point → Type 0
IsSector zero s v = IsAboveAlong s v (pos 4)
IsSector (suc zero) s v = IsAboveAlong s v (pos 1)
IsSector (suc (suc zero)) s v = IsAboveAlong s v (negsuc 0)
IsSector (suc (suc (suc zero))) s v = IsAboveAlong s v (negsuc 3)
IsSector (suc (suc (suc (suc zero)))) s v = IsBelowAlong s v (negsuc 3)
IsSector (suc (suc (suc (suc (suc zero))))) s v = IsBelowAlong s v (negsuc 0)
IsSector (suc (suc (suc (suc (suc (suc zero)))))) s v = IsBelowAlong s v (pos 1)
IsSector (suc (suc (suc (suc (suc (suc (suc zero))))))) s v = IsBelowAlong s v (pos 4)
IsSector (suc (suc (suc (suc (suc (suc (suc (suc k)))))))) s v = ⊥

-- some strip has copper in the sector
pub record HasCopper (ss : List Strip) (v : Point) (k : ℕ) : Type 0 where
  pub strip : Strip
  pub one : Has ss strip
  pub is : IsSector k strip v

either_cases : {A B : Type 0} → A ⊎ (A → ⊥) → B ⊎ (B → ⊥) → (A ⊎ B) ⊎ (A ⊎ B → ⊥)
either_cases (inl a) b = inl (inl a)
either_cases (inr n) (inl b) = inl (inr b)
either_cases (inr n) (inr m) = inr (λ p. elim p [ inl a ↦ n a | inr b ↦ m b ])

pub less_cases : (a b : ℤ) → (a <ℤ b) ⊎ (a <ℤ b → ⊥)
less_cases a b = by_lt_z {P = (a <ℤ b) ⊎ (a <ℤ b → ⊥)} a b (λ l. inl l) (λ l. inr (λ k. omega (arith, ints, k, l)))

below_cases : (s : Strip) (v : Point) (m : ℤ) → IsBelowAlong s v m ⊎ (IsBelowAlong s v m → ⊥)
below_cases s v m = elim (both_cases (equal_cases s.top v.y) (both_cases
    (either_cases (less_cases s.left v.x) (both_cases (equal_cases s.left v.x) (most_cases (pos 2 *ℤ (s.left_end -ℤ s.left)) (m *ℤ (s.bottom -ℤ s.top)))))
    (either_cases (less_cases v.x s.right) (both_cases (equal_cases s.right v.x) (most_cases (m *ℤ (s.bottom -ℤ s.top)) (pos 2 *ℤ (s.right_end -ℤ s.right))))))) [
      | inl h ↦ inl (record { row = h.0; left = (h.1).0; right = (h.1).1 })
      | inr n ↦ inr (λ h. n (h.row, (h.left, h.right)))
    ]

above_cases : (s : Strip) (v : Point) (m : ℤ) → IsAboveAlong s v m ⊎ (IsAboveAlong s v m → ⊥)
above_cases s v m = elim (both_cases (equal_cases s.bottom v.y) (both_cases
    (either_cases (less_cases s.left_end v.x) (both_cases (equal_cases s.left_end v.x) (most_cases (pos 2 *ℤ (s.left -ℤ s.left_end)) (m *ℤ (s.bottom -ℤ s.top)))))
    (either_cases (less_cases v.x s.right_end) (both_cases (equal_cases s.right_end v.x) (most_cases (m *ℤ (s.bottom -ℤ s.top)) (pos 2 *ℤ (s.right -ℤ s.right_end))))))) [
      | inl h ↦ inl (record { row = h.0; left = (h.1).0; right = (h.1).1 })
      | inr n ↦ inr (λ h. n (h.row, (h.left, h.right)))
    ]

sector_cases : (k : ℕ) (s : Strip) (v : Point) → IsSector k s v ⊎ (IsSector k s v → ⊥)
unfolding IsSector
sector_cases zero s v = above_cases s v (pos 4)
sector_cases (suc zero) s v = above_cases s v (pos 1)
sector_cases (suc (suc zero)) s v = above_cases s v (negsuc 0)
sector_cases (suc (suc (suc zero))) s v = above_cases s v (negsuc 3)
sector_cases (suc (suc (suc (suc zero)))) s v = below_cases s v (negsuc 3)
sector_cases (suc (suc (suc (suc (suc zero))))) s v = below_cases s v (negsuc 0)
sector_cases (suc (suc (suc (suc (suc (suc zero)))))) s v = below_cases s v (pos 1)
sector_cases (suc (suc (suc (suc (suc (suc (suc zero))))))) s v = below_cases s v (pos 4)
sector_cases (suc (suc (suc (suc (suc (suc (suc (suc k)))))))) s v = inr (λ h. h)

pub copper_cases : (ss : List Strip) (v : Point) (k : ℕ) → HasCopper ss v k ⊎ (HasCopper ss v k → ⊥)
copper_cases ss v k = elim (found (λ s. IsSector k s v) (λ s. sector_cases k s v) ss) [
  | inl f ↦ inl (record { strip = f.0; one = f.1; is = f.2 })
  | inr f ↦ inr (λ h. f h.strip h.one h.is)
]

-- ---- the sides of strips that meet v
-- the sector that follows counterclockwise after a side up to v, or before one down from v, has copper
pub left_up_copper : (d : ℕ) (s : Strip) (v : Point) → IsTrapezoid s → LeftAt d s → s.left ≡ v.x → s.top ≡ v.y → (k : ℕ) → (d + 4) % 8 ≡ k → IsSector k s v
unfolding LeftAt IsSector
left_up_copper d s v st (inl (e, f)) x y k q =
    let sd = st.down in let sw = st.wide in let sl = st.left in let sr = st.right in let sb = st.start in let se = st.finish in
    subst (λ k. IsSector k s v) (let c = ap (λ (c : ℕ). (c + 4) % 8) e in sym c ∙ q) (record {
      row = y;
      left = by_lt_z {P = (s.left <ℤ v.x) ⊎ ((s.left ≡ v.x) × ((pos 2 *ℤ (s.left_end -ℤ s.left)) ≤ℤ (negsuc 0 *ℤ (s.bottom -ℤ s.top))))} s.left v.x (λ l. inl l) (λ l. elim (equal_cases s.left v.x) [ inl z ↦ inr (z, omega (arith, ints, f, sd, sw, sl, sr, sb, se, x, z)) | inr z ↦ absurd (z (omega (arith, ints, l, f, sd, sw, sl, sr, sb, se, x))) ]);
      right = by_lt_z {P = (v.x <ℤ s.right) ⊎ ((s.right ≡ v.x) × ((negsuc 0 *ℤ (s.bottom -ℤ s.top)) ≤ℤ (pos 2 *ℤ (s.right_end -ℤ s.right))))} v.x s.right (λ l. inl l) (λ l. elim (equal_cases s.right v.x) [ inl z ↦ inr (z, omega (arith, ints, f, sd, sw, sl, sr, sb, se, x, z)) | inr z ↦ absurd (z (omega (arith, ints, l, f, sd, sw, sl, sr, sb, se, x))) ]);
    })
left_up_copper d s v st (inr (inl (e, f))) x y k q =
    let sd = st.down in let sw = st.wide in let sl = st.left in let sr = st.right in let sb = st.start in let se = st.finish in
    subst (λ k. IsSector k s v) (let c = ap (λ (c : ℕ). (c + 4) % 8) e in sym c ∙ q) (record {
      row = y;
      left = by_lt_z {P = (s.left <ℤ v.x) ⊎ ((s.left ≡ v.x) × ((pos 2 *ℤ (s.left_end -ℤ s.left)) ≤ℤ (pos 1 *ℤ (s.bottom -ℤ s.top))))} s.left v.x (λ l. inl l) (λ l. elim (equal_cases s.left v.x) [ inl z ↦ inr (z, omega (arith, ints, f, sd, sw, sl, sr, sb, se, x, z)) | inr z ↦ absurd (z (omega (arith, ints, l, f, sd, sw, sl, sr, sb, se, x))) ]);
      right = by_lt_z {P = (v.x <ℤ s.right) ⊎ ((s.right ≡ v.x) × ((pos 1 *ℤ (s.bottom -ℤ s.top)) ≤ℤ (pos 2 *ℤ (s.right_end -ℤ s.right))))} v.x s.right (λ l. inl l) (λ l. elim (equal_cases s.right v.x) [ inl z ↦ inr (z, omega (arith, ints, f, sd, sw, sl, sr, sb, se, x, z)) | inr z ↦ absurd (z (omega (arith, ints, l, f, sd, sw, sl, sr, sb, se, x))) ]);
    })
left_up_copper d s v st (inr (inr (e, f))) x y k q =
    let sd = st.down in let sw = st.wide in let sl = st.left in let sr = st.right in let sb = st.start in let se = st.finish in
    subst (λ k. IsSector k s v) (let c = ap (λ (c : ℕ). (c + 4) % 8) e in sym c ∙ q) (record {
      row = y;
      left = by_lt_z {P = (s.left <ℤ v.x) ⊎ ((s.left ≡ v.x) × ((pos 2 *ℤ (s.left_end -ℤ s.left)) ≤ℤ (pos 4 *ℤ (s.bottom -ℤ s.top))))} s.left v.x (λ l. inl l) (λ l. elim (equal_cases s.left v.x) [ inl z ↦ inr (z, omega (arith, ints, f, sd, sw, sl, sr, sb, se, x, z)) | inr z ↦ absurd (z (omega (arith, ints, l, f, sd, sw, sl, sr, sb, se, x))) ]);
      right = by_lt_z {P = (v.x <ℤ s.right) ⊎ ((s.right ≡ v.x) × ((pos 4 *ℤ (s.bottom -ℤ s.top)) ≤ℤ (pos 2 *ℤ (s.right_end -ℤ s.right))))} v.x s.right (λ l. inl l) (λ l. elim (equal_cases s.right v.x) [ inl z ↦ inr (z, omega (arith, ints, f, sd, sw, sl, sr, sb, se, x, z)) | inr z ↦ absurd (z (omega (arith, ints, l, f, sd, sw, sl, sr, sb, se, x))) ]);
    })

pub right_down_copper : (d : ℕ) (s : Strip) (v : Point) → IsTrapezoid s → RightAt d s → s.right_end ≡ v.x → s.bottom ≡ v.y → (k : ℕ) → (d + 4) % 8 ≡ k → IsSector k s v
unfolding RightAt IsSector
right_down_copper d s v st (inl (e, f)) x y k q =
    let sd = st.down in let sw = st.wide in let sl = st.left in let sr = st.right in let sb = st.start in let se = st.finish in
    subst (λ k. IsSector k s v) (let c = ap (λ (c : ℕ). (c + 4) % 8) e in sym c ∙ q) (record {
      row = y;
      left = by_lt_z {P = (s.left_end <ℤ v.x) ⊎ ((s.left_end ≡ v.x) × ((pos 2 *ℤ (s.left -ℤ s.left_end)) ≤ℤ (pos 1 *ℤ (s.bottom -ℤ s.top))))} s.left_end v.x (λ l. inl l) (λ l. elim (equal_cases s.left_end v.x) [ inl z ↦ inr (z, omega (arith, ints, f, sd, sw, sl, sr, sb, se, x, z)) | inr z ↦ absurd (z (omega (arith, ints, l, f, sd, sw, sl, sr, sb, se, x))) ]);
      right = by_lt_z {P = (v.x <ℤ s.right_end) ⊎ ((s.right_end ≡ v.x) × ((pos 1 *ℤ (s.bottom -ℤ s.top)) ≤ℤ (pos 2 *ℤ (s.right -ℤ s.right_end))))} v.x s.right_end (λ l. inl l) (λ l. elim (equal_cases s.right_end v.x) [ inl z ↦ inr (z, omega (arith, ints, f, sd, sw, sl, sr, sb, se, x, z)) | inr z ↦ absurd (z (omega (arith, ints, l, f, sd, sw, sl, sr, sb, se, x))) ]);
    })
right_down_copper d s v st (inr (inl (e, f))) x y k q =
    let sd = st.down in let sw = st.wide in let sl = st.left in let sr = st.right in let sb = st.start in let se = st.finish in
    subst (λ k. IsSector k s v) (let c = ap (λ (c : ℕ). (c + 4) % 8) e in sym c ∙ q) (record {
      row = y;
      left = by_lt_z {P = (s.left_end <ℤ v.x) ⊎ ((s.left_end ≡ v.x) × ((pos 2 *ℤ (s.left -ℤ s.left_end)) ≤ℤ (negsuc 0 *ℤ (s.bottom -ℤ s.top))))} s.left_end v.x (λ l. inl l) (λ l. elim (equal_cases s.left_end v.x) [ inl z ↦ inr (z, omega (arith, ints, f, sd, sw, sl, sr, sb, se, x, z)) | inr z ↦ absurd (z (omega (arith, ints, l, f, sd, sw, sl, sr, sb, se, x))) ]);
      right = by_lt_z {P = (v.x <ℤ s.right_end) ⊎ ((s.right_end ≡ v.x) × ((negsuc 0 *ℤ (s.bottom -ℤ s.top)) ≤ℤ (pos 2 *ℤ (s.right -ℤ s.right_end))))} v.x s.right_end (λ l. inl l) (λ l. elim (equal_cases s.right_end v.x) [ inl z ↦ inr (z, omega (arith, ints, f, sd, sw, sl, sr, sb, se, x, z)) | inr z ↦ absurd (z (omega (arith, ints, l, f, sd, sw, sl, sr, sb, se, x))) ]);
    })
right_down_copper d s v st (inr (inr (e, f))) x y k q =
    let sd = st.down in let sw = st.wide in let sl = st.left in let sr = st.right in let sb = st.start in let se = st.finish in
    subst (λ k. IsSector k s v) (let c = ap (λ (c : ℕ). (c + 4) % 8) e in sym c ∙ q) (record {
      row = y;
      left = by_lt_z {P = (s.left_end <ℤ v.x) ⊎ ((s.left_end ≡ v.x) × ((pos 2 *ℤ (s.left -ℤ s.left_end)) ≤ℤ (negsuc 3 *ℤ (s.bottom -ℤ s.top))))} s.left_end v.x (λ l. inl l) (λ l. elim (equal_cases s.left_end v.x) [ inl z ↦ inr (z, omega (arith, ints, f, sd, sw, sl, sr, sb, se, x, z)) | inr z ↦ absurd (z (omega (arith, ints, l, f, sd, sw, sl, sr, sb, se, x))) ]);
      right = by_lt_z {P = (v.x <ℤ s.right_end) ⊎ ((s.right_end ≡ v.x) × ((negsuc 3 *ℤ (s.bottom -ℤ s.top)) ≤ℤ (pos 2 *ℤ (s.right -ℤ s.right_end))))} v.x s.right_end (λ l. inl l) (λ l. elim (equal_cases s.right_end v.x) [ inl z ↦ inr (z, omega (arith, ints, f, sd, sw, sl, sr, sb, se, x, z)) | inr z ↦ absurd (z (omega (arith, ints, l, f, sd, sw, sl, sr, sb, se, x))) ]);
    })

pub left_from_copper : (d : ℕ) (s : Strip) (v : Point) → IsTrapezoid s → LeftAt d s → s.left_end ≡ v.x → s.bottom ≡ v.y → (k : ℕ) → (d + 7) % 8 ≡ k → IsSector k s v
unfolding LeftAt IsSector
left_from_copper d s v st (inl (e, f)) x y k q =
    let sd = st.down in let sw = st.wide in let sl = st.left in let sr = st.right in let sb = st.start in let se = st.finish in
    subst (λ k. IsSector k s v) (let c = ap (λ (c : ℕ). (c + 7) % 8) e in sym c ∙ q) (record {
      row = y;
      left = by_lt_z {P = (s.left_end <ℤ v.x) ⊎ ((s.left_end ≡ v.x) × ((pos 2 *ℤ (s.left -ℤ s.left_end)) ≤ℤ (pos 4 *ℤ (s.bottom -ℤ s.top))))} s.left_end v.x (λ l. inl l) (λ l. elim (equal_cases s.left_end v.x) [ inl z ↦ inr (z, omega (arith, ints, f, sd, sw, sl, sr, sb, se, x, z)) | inr z ↦ absurd (z (omega (arith, ints, l, f, sd, sw, sl, sr, sb, se, x))) ]);
      right = by_lt_z {P = (v.x <ℤ s.right_end) ⊎ ((s.right_end ≡ v.x) × ((pos 4 *ℤ (s.bottom -ℤ s.top)) ≤ℤ (pos 2 *ℤ (s.right -ℤ s.right_end))))} v.x s.right_end (λ l. inl l) (λ l. elim (equal_cases s.right_end v.x) [ inl z ↦ inr (z, omega (arith, ints, f, sd, sw, sl, sr, sb, se, x, z)) | inr z ↦ absurd (z (omega (arith, ints, l, f, sd, sw, sl, sr, sb, se, x))) ]);
    })
left_from_copper d s v st (inr (inl (e, f))) x y k q =
    let sd = st.down in let sw = st.wide in let sl = st.left in let sr = st.right in let sb = st.start in let se = st.finish in
    subst (λ k. IsSector k s v) (let c = ap (λ (c : ℕ). (c + 7) % 8) e in sym c ∙ q) (record {
      row = y;
      left = by_lt_z {P = (s.left_end <ℤ v.x) ⊎ ((s.left_end ≡ v.x) × ((pos 2 *ℤ (s.left -ℤ s.left_end)) ≤ℤ (pos 1 *ℤ (s.bottom -ℤ s.top))))} s.left_end v.x (λ l. inl l) (λ l. elim (equal_cases s.left_end v.x) [ inl z ↦ inr (z, omega (arith, ints, f, sd, sw, sl, sr, sb, se, x, z)) | inr z ↦ absurd (z (omega (arith, ints, l, f, sd, sw, sl, sr, sb, se, x))) ]);
      right = by_lt_z {P = (v.x <ℤ s.right_end) ⊎ ((s.right_end ≡ v.x) × ((pos 1 *ℤ (s.bottom -ℤ s.top)) ≤ℤ (pos 2 *ℤ (s.right -ℤ s.right_end))))} v.x s.right_end (λ l. inl l) (λ l. elim (equal_cases s.right_end v.x) [ inl z ↦ inr (z, omega (arith, ints, f, sd, sw, sl, sr, sb, se, x, z)) | inr z ↦ absurd (z (omega (arith, ints, l, f, sd, sw, sl, sr, sb, se, x))) ]);
    })
left_from_copper d s v st (inr (inr (e, f))) x y k q =
    let sd = st.down in let sw = st.wide in let sl = st.left in let sr = st.right in let sb = st.start in let se = st.finish in
    subst (λ k. IsSector k s v) (let c = ap (λ (c : ℕ). (c + 7) % 8) e in sym c ∙ q) (record {
      row = y;
      left = by_lt_z {P = (s.left_end <ℤ v.x) ⊎ ((s.left_end ≡ v.x) × ((pos 2 *ℤ (s.left -ℤ s.left_end)) ≤ℤ (negsuc 0 *ℤ (s.bottom -ℤ s.top))))} s.left_end v.x (λ l. inl l) (λ l. elim (equal_cases s.left_end v.x) [ inl z ↦ inr (z, omega (arith, ints, f, sd, sw, sl, sr, sb, se, x, z)) | inr z ↦ absurd (z (omega (arith, ints, l, f, sd, sw, sl, sr, sb, se, x))) ]);
      right = by_lt_z {P = (v.x <ℤ s.right_end) ⊎ ((s.right_end ≡ v.x) × ((negsuc 0 *ℤ (s.bottom -ℤ s.top)) ≤ℤ (pos 2 *ℤ (s.right -ℤ s.right_end))))} v.x s.right_end (λ l. inl l) (λ l. elim (equal_cases s.right_end v.x) [ inl z ↦ inr (z, omega (arith, ints, f, sd, sw, sl, sr, sb, se, x, z)) | inr z ↦ absurd (z (omega (arith, ints, l, f, sd, sw, sl, sr, sb, se, x))) ]);
    })

pub right_from_copper : (d : ℕ) (s : Strip) (v : Point) → IsTrapezoid s → RightAt d s → s.right ≡ v.x → s.top ≡ v.y → (k : ℕ) → (d + 7) % 8 ≡ k → IsSector k s v
unfolding RightAt IsSector
right_from_copper d s v st (inl (e, f)) x y k q =
    let sd = st.down in let sw = st.wide in let sl = st.left in let sr = st.right in let sb = st.start in let se = st.finish in
    subst (λ k. IsSector k s v) (let c = ap (λ (c : ℕ). (c + 7) % 8) e in sym c ∙ q) (record {
      row = y;
      left = by_lt_z {P = (s.left <ℤ v.x) ⊎ ((s.left ≡ v.x) × ((pos 2 *ℤ (s.left_end -ℤ s.left)) ≤ℤ (negsuc 3 *ℤ (s.bottom -ℤ s.top))))} s.left v.x (λ l. inl l) (λ l. elim (equal_cases s.left v.x) [ inl z ↦ inr (z, omega (arith, ints, f, sd, sw, sl, sr, sb, se, x, z)) | inr z ↦ absurd (z (omega (arith, ints, l, f, sd, sw, sl, sr, sb, se, x))) ]);
      right = by_lt_z {P = (v.x <ℤ s.right) ⊎ ((s.right ≡ v.x) × ((negsuc 3 *ℤ (s.bottom -ℤ s.top)) ≤ℤ (pos 2 *ℤ (s.right_end -ℤ s.right))))} v.x s.right (λ l. inl l) (λ l. elim (equal_cases s.right v.x) [ inl z ↦ inr (z, omega (arith, ints, f, sd, sw, sl, sr, sb, se, x, z)) | inr z ↦ absurd (z (omega (arith, ints, l, f, sd, sw, sl, sr, sb, se, x))) ]);
    })
right_from_copper d s v st (inr (inl (e, f))) x y k q =
    let sd = st.down in let sw = st.wide in let sl = st.left in let sr = st.right in let sb = st.start in let se = st.finish in
    subst (λ k. IsSector k s v) (let c = ap (λ (c : ℕ). (c + 7) % 8) e in sym c ∙ q) (record {
      row = y;
      left = by_lt_z {P = (s.left <ℤ v.x) ⊎ ((s.left ≡ v.x) × ((pos 2 *ℤ (s.left_end -ℤ s.left)) ≤ℤ (negsuc 0 *ℤ (s.bottom -ℤ s.top))))} s.left v.x (λ l. inl l) (λ l. elim (equal_cases s.left v.x) [ inl z ↦ inr (z, omega (arith, ints, f, sd, sw, sl, sr, sb, se, x, z)) | inr z ↦ absurd (z (omega (arith, ints, l, f, sd, sw, sl, sr, sb, se, x))) ]);
      right = by_lt_z {P = (v.x <ℤ s.right) ⊎ ((s.right ≡ v.x) × ((negsuc 0 *ℤ (s.bottom -ℤ s.top)) ≤ℤ (pos 2 *ℤ (s.right_end -ℤ s.right))))} v.x s.right (λ l. inl l) (λ l. elim (equal_cases s.right v.x) [ inl z ↦ inr (z, omega (arith, ints, f, sd, sw, sl, sr, sb, se, x, z)) | inr z ↦ absurd (z (omega (arith, ints, l, f, sd, sw, sl, sr, sb, se, x))) ]);
    })
right_from_copper d s v st (inr (inr (e, f))) x y k q =
    let sd = st.down in let sw = st.wide in let sl = st.left in let sr = st.right in let sb = st.start in let se = st.finish in
    subst (λ k. IsSector k s v) (let c = ap (λ (c : ℕ). (c + 7) % 8) e in sym c ∙ q) (record {
      row = y;
      left = by_lt_z {P = (s.left <ℤ v.x) ⊎ ((s.left ≡ v.x) × ((pos 2 *ℤ (s.left_end -ℤ s.left)) ≤ℤ (pos 1 *ℤ (s.bottom -ℤ s.top))))} s.left v.x (λ l. inl l) (λ l. elim (equal_cases s.left v.x) [ inl z ↦ inr (z, omega (arith, ints, f, sd, sw, sl, sr, sb, se, x, z)) | inr z ↦ absurd (z (omega (arith, ints, l, f, sd, sw, sl, sr, sb, se, x))) ]);
      right = by_lt_z {P = (v.x <ℤ s.right) ⊎ ((s.right ≡ v.x) × ((pos 1 *ℤ (s.bottom -ℤ s.top)) ≤ℤ (pos 2 *ℤ (s.right_end -ℤ s.right))))} v.x s.right (λ l. inl l) (λ l. elim (equal_cases s.right v.x) [ inl z ↦ inr (z, omega (arith, ints, f, sd, sw, sl, sr, sb, se, x, z)) | inr z ↦ absurd (z (omega (arith, ints, l, f, sd, sw, sl, sr, sb, se, x))) ]);
    })

-- and the sector on the other side of the side has none
pub left_up_none : (ss : List Strip) → AreOrdered ss → (d : ℕ) (s t : Strip) (v : Point) → Has ss s → Has ss t → LeftAt d s → s.left ≡ v.x → s.top ≡ v.y → (k : ℕ) → (d + 3) % 8 ≡ k → IsSector k t v → ⊥
unfolding LeftAt IsSector
left_up_none ss o d s t v h j (inl (e, f)) x y k q i =
    let i = subst (λ k. IsSector k t v) (let c = ap (λ (c : ℕ). (c + 3) % 8) e in sym q ∙ c) i in
    let ir = i.row in let il = i.left in let ie = i.right in
    let st = o.shape s h in let tt = o.shape t j in
    let sd = st.down in let sw = st.wide in let sl = st.left in let sr = st.right in let sb = st.start in let se = st.finish in
    let td = tt.down in let tw = tt.wide in let tl = tt.left in let tr = tt.right in
    let c = beside ss o s t h j (omega (arith, ints, ir, y, sd, td)) (omega (arith, ints, ir, y, sd, td)) in
    let ct = c.top in let cb = c.bottom in
    elim c.are [
      | inl z ↦ (let z1 = ap (λ w. w.left) z in let z2 = ap (λ w. w.left_end) z in let z3 = ap (λ w. w.right) z in let z4 = ap (λ w. w.right_end) z in omega (arith, ints, il, ie, z1, z2, z3, z4, ct, cb, f, x, sd))
      | inr z ↦ elim z [
        | inl z ↦ (let z1 = z.start in let z2 = z.finish in let z3 = z.gap in omega (arith, ints, il, ie, z1, z2, z3, ct, cb, f, x, sd, sb, se, sw, tl))
        | inr z ↦ (let z1 = z.start in let z2 = z.finish in let z3 = z.gap in omega (arith, ints, il, ie, z1, z2, z3, ct, cb, f, x, sd, sb, se, sw, tr))
      ]
    ]
left_up_none ss o d s t v h j (inr (inl (e, f))) x y k q i =
    let i = subst (λ k. IsSector k t v) (let c = ap (λ (c : ℕ). (c + 3) % 8) e in sym q ∙ c) i in
    let ir = i.row in let il = i.left in let ie = i.right in
    let st = o.shape s h in let tt = o.shape t j in
    let sd = st.down in let sw = st.wide in let sl = st.left in let sr = st.right in let sb = st.start in let se = st.finish in
    let td = tt.down in let tw = tt.wide in let tl = tt.left in let tr = tt.right in
    let c = beside ss o s t h j (omega (arith, ints, ir, y, sd, td)) (omega (arith, ints, ir, y, sd, td)) in
    let ct = c.top in let cb = c.bottom in
    elim c.are [
      | inl z ↦ (let z1 = ap (λ w. w.left) z in let z2 = ap (λ w. w.left_end) z in let z3 = ap (λ w. w.right) z in let z4 = ap (λ w. w.right_end) z in omega (arith, ints, il, ie, z1, z2, z3, z4, ct, cb, f, x, sd))
      | inr z ↦ elim z [
        | inl z ↦ (let z1 = z.start in let z2 = z.finish in let z3 = z.gap in omega (arith, ints, il, ie, z1, z2, z3, ct, cb, f, x, sd, sb, se, sw, tl))
        | inr z ↦ (let z1 = z.start in let z2 = z.finish in let z3 = z.gap in omega (arith, ints, il, ie, z1, z2, z3, ct, cb, f, x, sd, sb, se, sw, tr))
      ]
    ]
left_up_none ss o d s t v h j (inr (inr (e, f))) x y k q i =
    let i = subst (λ k. IsSector k t v) (let c = ap (λ (c : ℕ). (c + 3) % 8) e in sym q ∙ c) i in
    let ir = i.row in let il = i.left in let ie = i.right in
    let st = o.shape s h in let tt = o.shape t j in
    let sd = st.down in let sw = st.wide in let sl = st.left in let sr = st.right in let sb = st.start in let se = st.finish in
    let td = tt.down in let tw = tt.wide in let tl = tt.left in let tr = tt.right in
    let c = beside ss o s t h j (omega (arith, ints, ir, y, sd, td)) (omega (arith, ints, ir, y, sd, td)) in
    let ct = c.top in let cb = c.bottom in
    elim c.are [
      | inl z ↦ (let z1 = ap (λ w. w.left) z in let z2 = ap (λ w. w.left_end) z in let z3 = ap (λ w. w.right) z in let z4 = ap (λ w. w.right_end) z in omega (arith, ints, il, ie, z1, z2, z3, z4, ct, cb, f, x, sd))
      | inr z ↦ elim z [
        | inl z ↦ (let z1 = z.start in let z2 = z.finish in let z3 = z.gap in omega (arith, ints, il, ie, z1, z2, z3, ct, cb, f, x, sd, sb, se, sw, tl))
        | inr z ↦ (let z1 = z.start in let z2 = z.finish in let z3 = z.gap in omega (arith, ints, il, ie, z1, z2, z3, ct, cb, f, x, sd, sb, se, sw, tr))
      ]
    ]

pub right_down_none : (ss : List Strip) → AreOrdered ss → (d : ℕ) (s t : Strip) (v : Point) → Has ss s → Has ss t → RightAt d s → s.right_end ≡ v.x → s.bottom ≡ v.y → (k : ℕ) → (d + 3) % 8 ≡ k → IsSector k t v → ⊥
unfolding RightAt IsSector
right_down_none ss o d s t v h j (inl (e, f)) x y k q i =
    let i = subst (λ k. IsSector k t v) (let c = ap (λ (c : ℕ). (c + 3) % 8) e in sym q ∙ c) i in
    let ir = i.row in let il = i.left in let ie = i.right in
    let st = o.shape s h in let tt = o.shape t j in
    let sd = st.down in let sw = st.wide in let sl = st.left in let sr = st.right in let sb = st.start in let se = st.finish in
    let td = tt.down in let tw = tt.wide in let tl = tt.left in let tr = tt.right in
    let c = beside ss o s t h j (omega (arith, ints, ir, y, sd, td)) (omega (arith, ints, ir, y, sd, td)) in
    let ct = c.top in let cb = c.bottom in
    elim c.are [
      | inl z ↦ (let z1 = ap (λ w. w.left) z in let z2 = ap (λ w. w.left_end) z in let z3 = ap (λ w. w.right) z in let z4 = ap (λ w. w.right_end) z in omega (arith, ints, il, ie, z1, z2, z3, z4, ct, cb, f, x, sd))
      | inr z ↦ elim z [
        | inl z ↦ (let z1 = z.start in let z2 = z.finish in let z3 = z.gap in omega (arith, ints, il, ie, z1, z2, z3, ct, cb, f, x, sd, sb, se, sw, tl))
        | inr z ↦ (let z1 = z.start in let z2 = z.finish in let z3 = z.gap in omega (arith, ints, il, ie, z1, z2, z3, ct, cb, f, x, sd, sb, se, sw, tr))
      ]
    ]
right_down_none ss o d s t v h j (inr (inl (e, f))) x y k q i =
    let i = subst (λ k. IsSector k t v) (let c = ap (λ (c : ℕ). (c + 3) % 8) e in sym q ∙ c) i in
    let ir = i.row in let il = i.left in let ie = i.right in
    let st = o.shape s h in let tt = o.shape t j in
    let sd = st.down in let sw = st.wide in let sl = st.left in let sr = st.right in let sb = st.start in let se = st.finish in
    let td = tt.down in let tw = tt.wide in let tl = tt.left in let tr = tt.right in
    let c = beside ss o s t h j (omega (arith, ints, ir, y, sd, td)) (omega (arith, ints, ir, y, sd, td)) in
    let ct = c.top in let cb = c.bottom in
    elim c.are [
      | inl z ↦ (let z1 = ap (λ w. w.left) z in let z2 = ap (λ w. w.left_end) z in let z3 = ap (λ w. w.right) z in let z4 = ap (λ w. w.right_end) z in omega (arith, ints, il, ie, z1, z2, z3, z4, ct, cb, f, x, sd))
      | inr z ↦ elim z [
        | inl z ↦ (let z1 = z.start in let z2 = z.finish in let z3 = z.gap in omega (arith, ints, il, ie, z1, z2, z3, ct, cb, f, x, sd, sb, se, sw, tl))
        | inr z ↦ (let z1 = z.start in let z2 = z.finish in let z3 = z.gap in omega (arith, ints, il, ie, z1, z2, z3, ct, cb, f, x, sd, sb, se, sw, tr))
      ]
    ]
right_down_none ss o d s t v h j (inr (inr (e, f))) x y k q i =
    let i = subst (λ k. IsSector k t v) (let c = ap (λ (c : ℕ). (c + 3) % 8) e in sym q ∙ c) i in
    let ir = i.row in let il = i.left in let ie = i.right in
    let st = o.shape s h in let tt = o.shape t j in
    let sd = st.down in let sw = st.wide in let sl = st.left in let sr = st.right in let sb = st.start in let se = st.finish in
    let td = tt.down in let tw = tt.wide in let tl = tt.left in let tr = tt.right in
    let c = beside ss o s t h j (omega (arith, ints, ir, y, sd, td)) (omega (arith, ints, ir, y, sd, td)) in
    let ct = c.top in let cb = c.bottom in
    elim c.are [
      | inl z ↦ (let z1 = ap (λ w. w.left) z in let z2 = ap (λ w. w.left_end) z in let z3 = ap (λ w. w.right) z in let z4 = ap (λ w. w.right_end) z in omega (arith, ints, il, ie, z1, z2, z3, z4, ct, cb, f, x, sd))
      | inr z ↦ elim z [
        | inl z ↦ (let z1 = z.start in let z2 = z.finish in let z3 = z.gap in omega (arith, ints, il, ie, z1, z2, z3, ct, cb, f, x, sd, sb, se, sw, tl))
        | inr z ↦ (let z1 = z.start in let z2 = z.finish in let z3 = z.gap in omega (arith, ints, il, ie, z1, z2, z3, ct, cb, f, x, sd, sb, se, sw, tr))
      ]
    ]

pub left_from_none : (ss : List Strip) → AreOrdered ss → (d : ℕ) (s t : Strip) (v : Point) → Has ss s → Has ss t → LeftAt d s → s.left_end ≡ v.x → s.bottom ≡ v.y → (k : ℕ) → (d + 8) % 8 ≡ k → IsSector k t v → ⊥
unfolding LeftAt IsSector
left_from_none ss o d s t v h j (inl (e, f)) x y k q i =
    let i = subst (λ k. IsSector k t v) (let c = ap (λ (c : ℕ). (c + 8) % 8) e in sym q ∙ c) i in
    let ir = i.row in let il = i.left in let ie = i.right in
    let st = o.shape s h in let tt = o.shape t j in
    let sd = st.down in let sw = st.wide in let sl = st.left in let sr = st.right in let sb = st.start in let se = st.finish in
    let td = tt.down in let tw = tt.wide in let tl = tt.left in let tr = tt.right in
    let c = beside ss o s t h j (omega (arith, ints, ir, y, sd, td)) (omega (arith, ints, ir, y, sd, td)) in
    let ct = c.top in let cb = c.bottom in
    elim c.are [
      | inl z ↦ (let z1 = ap (λ w. w.left) z in let z2 = ap (λ w. w.left_end) z in let z3 = ap (λ w. w.right) z in let z4 = ap (λ w. w.right_end) z in omega (arith, ints, il, ie, z1, z2, z3, z4, ct, cb, f, x, sd))
      | inr z ↦ elim z [
        | inl z ↦ (let z1 = z.start in let z2 = z.finish in let z3 = z.gap in omega (arith, ints, il, ie, z1, z2, z3, ct, cb, f, x, sd, sb, se, sw, tl))
        | inr z ↦ (let z1 = z.start in let z2 = z.finish in let z3 = z.gap in omega (arith, ints, il, ie, z1, z2, z3, ct, cb, f, x, sd, sb, se, sw, tr))
      ]
    ]
left_from_none ss o d s t v h j (inr (inl (e, f))) x y k q i =
    let i = subst (λ k. IsSector k t v) (let c = ap (λ (c : ℕ). (c + 8) % 8) e in sym q ∙ c) i in
    let ir = i.row in let il = i.left in let ie = i.right in
    let st = o.shape s h in let tt = o.shape t j in
    let sd = st.down in let sw = st.wide in let sl = st.left in let sr = st.right in let sb = st.start in let se = st.finish in
    let td = tt.down in let tw = tt.wide in let tl = tt.left in let tr = tt.right in
    let c = beside ss o s t h j (omega (arith, ints, ir, y, sd, td)) (omega (arith, ints, ir, y, sd, td)) in
    let ct = c.top in let cb = c.bottom in
    elim c.are [
      | inl z ↦ (let z1 = ap (λ w. w.left) z in let z2 = ap (λ w. w.left_end) z in let z3 = ap (λ w. w.right) z in let z4 = ap (λ w. w.right_end) z in omega (arith, ints, il, ie, z1, z2, z3, z4, ct, cb, f, x, sd))
      | inr z ↦ elim z [
        | inl z ↦ (let z1 = z.start in let z2 = z.finish in let z3 = z.gap in omega (arith, ints, il, ie, z1, z2, z3, ct, cb, f, x, sd, sb, se, sw, tl))
        | inr z ↦ (let z1 = z.start in let z2 = z.finish in let z3 = z.gap in omega (arith, ints, il, ie, z1, z2, z3, ct, cb, f, x, sd, sb, se, sw, tr))
      ]
    ]
left_from_none ss o d s t v h j (inr (inr (e, f))) x y k q i =
    let i = subst (λ k. IsSector k t v) (let c = ap (λ (c : ℕ). (c + 8) % 8) e in sym q ∙ c) i in
    let ir = i.row in let il = i.left in let ie = i.right in
    let st = o.shape s h in let tt = o.shape t j in
    let sd = st.down in let sw = st.wide in let sl = st.left in let sr = st.right in let sb = st.start in let se = st.finish in
    let td = tt.down in let tw = tt.wide in let tl = tt.left in let tr = tt.right in
    let c = beside ss o s t h j (omega (arith, ints, ir, y, sd, td)) (omega (arith, ints, ir, y, sd, td)) in
    let ct = c.top in let cb = c.bottom in
    elim c.are [
      | inl z ↦ (let z1 = ap (λ w. w.left) z in let z2 = ap (λ w. w.left_end) z in let z3 = ap (λ w. w.right) z in let z4 = ap (λ w. w.right_end) z in omega (arith, ints, il, ie, z1, z2, z3, z4, ct, cb, f, x, sd))
      | inr z ↦ elim z [
        | inl z ↦ (let z1 = z.start in let z2 = z.finish in let z3 = z.gap in omega (arith, ints, il, ie, z1, z2, z3, ct, cb, f, x, sd, sb, se, sw, tl))
        | inr z ↦ (let z1 = z.start in let z2 = z.finish in let z3 = z.gap in omega (arith, ints, il, ie, z1, z2, z3, ct, cb, f, x, sd, sb, se, sw, tr))
      ]
    ]

pub right_from_none : (ss : List Strip) → AreOrdered ss → (d : ℕ) (s t : Strip) (v : Point) → Has ss s → Has ss t → RightAt d s → s.right ≡ v.x → s.top ≡ v.y → (k : ℕ) → (d + 8) % 8 ≡ k → IsSector k t v → ⊥
unfolding RightAt IsSector
right_from_none ss o d s t v h j (inl (e, f)) x y k q i =
    let i = subst (λ k. IsSector k t v) (let c = ap (λ (c : ℕ). (c + 8) % 8) e in sym q ∙ c) i in
    let ir = i.row in let il = i.left in let ie = i.right in
    let st = o.shape s h in let tt = o.shape t j in
    let sd = st.down in let sw = st.wide in let sl = st.left in let sr = st.right in let sb = st.start in let se = st.finish in
    let td = tt.down in let tw = tt.wide in let tl = tt.left in let tr = tt.right in
    let c = beside ss o s t h j (omega (arith, ints, ir, y, sd, td)) (omega (arith, ints, ir, y, sd, td)) in
    let ct = c.top in let cb = c.bottom in
    elim c.are [
      | inl z ↦ (let z1 = ap (λ w. w.left) z in let z2 = ap (λ w. w.left_end) z in let z3 = ap (λ w. w.right) z in let z4 = ap (λ w. w.right_end) z in omega (arith, ints, il, ie, z1, z2, z3, z4, ct, cb, f, x, sd))
      | inr z ↦ elim z [
        | inl z ↦ (let z1 = z.start in let z2 = z.finish in let z3 = z.gap in omega (arith, ints, il, ie, z1, z2, z3, ct, cb, f, x, sd, sb, se, sw, tl))
        | inr z ↦ (let z1 = z.start in let z2 = z.finish in let z3 = z.gap in omega (arith, ints, il, ie, z1, z2, z3, ct, cb, f, x, sd, sb, se, sw, tr))
      ]
    ]
right_from_none ss o d s t v h j (inr (inl (e, f))) x y k q i =
    let i = subst (λ k. IsSector k t v) (let c = ap (λ (c : ℕ). (c + 8) % 8) e in sym q ∙ c) i in
    let ir = i.row in let il = i.left in let ie = i.right in
    let st = o.shape s h in let tt = o.shape t j in
    let sd = st.down in let sw = st.wide in let sl = st.left in let sr = st.right in let sb = st.start in let se = st.finish in
    let td = tt.down in let tw = tt.wide in let tl = tt.left in let tr = tt.right in
    let c = beside ss o s t h j (omega (arith, ints, ir, y, sd, td)) (omega (arith, ints, ir, y, sd, td)) in
    let ct = c.top in let cb = c.bottom in
    elim c.are [
      | inl z ↦ (let z1 = ap (λ w. w.left) z in let z2 = ap (λ w. w.left_end) z in let z3 = ap (λ w. w.right) z in let z4 = ap (λ w. w.right_end) z in omega (arith, ints, il, ie, z1, z2, z3, z4, ct, cb, f, x, sd))
      | inr z ↦ elim z [
        | inl z ↦ (let z1 = z.start in let z2 = z.finish in let z3 = z.gap in omega (arith, ints, il, ie, z1, z2, z3, ct, cb, f, x, sd, sb, se, sw, tl))
        | inr z ↦ (let z1 = z.start in let z2 = z.finish in let z3 = z.gap in omega (arith, ints, il, ie, z1, z2, z3, ct, cb, f, x, sd, sb, se, sw, tr))
      ]
    ]
right_from_none ss o d s t v h j (inr (inr (e, f))) x y k q i =
    let i = subst (λ k. IsSector k t v) (let c = ap (λ (c : ℕ). (c + 8) % 8) e in sym q ∙ c) i in
    let ir = i.row in let il = i.left in let ie = i.right in
    let st = o.shape s h in let tt = o.shape t j in
    let sd = st.down in let sw = st.wide in let sl = st.left in let sr = st.right in let sb = st.start in let se = st.finish in
    let td = tt.down in let tw = tt.wide in let tl = tt.left in let tr = tt.right in
    let c = beside ss o s t h j (omega (arith, ints, ir, y, sd, td)) (omega (arith, ints, ir, y, sd, td)) in
    let ct = c.top in let cb = c.bottom in
    elim c.are [
      | inl z ↦ (let z1 = ap (λ w. w.left) z in let z2 = ap (λ w. w.left_end) z in let z3 = ap (λ w. w.right) z in let z4 = ap (λ w. w.right_end) z in omega (arith, ints, il, ie, z1, z2, z3, z4, ct, cb, f, x, sd))
      | inr z ↦ elim z [
        | inl z ↦ (let z1 = z.start in let z2 = z.finish in let z3 = z.gap in omega (arith, ints, il, ie, z1, z2, z3, ct, cb, f, x, sd, sb, se, sw, tl))
        | inr z ↦ (let z1 = z.start in let z2 = z.finish in let z3 = z.gap in omega (arith, ints, il, ie, z1, z2, z3, ct, cb, f, x, sd, sb, se, sw, tr))
      ]
    ]
