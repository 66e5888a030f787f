-- Places of two lines that are within reach walk together towards the common point of the lines, or to an end.
use Rattle.std.proofs.Common.{◌≡◌, ℕ, zero, suc, ◌+◌, ◌≤◌, ◌*◌, ◌⊎◌, inl, inr, ⊎_elim, arith, ap, sym, subst, ◌∙◌}
use Rattle.std.specs.Prelude.{ℤ, pos, ◌+ℤ◌, ◌-ℤ◌, ◌*ℤ◌, ◌≤ℤ◌}
use Rattle.std.proofs.lemmas.Int.{ints, by_lt_z}
use lib.IntN.{zero-*ℤ}
use Rattle.touching.specs.Inner.Decision.{IsSquare}
use Rattle.touching.proofs.Walk.{Starts, Keeps, Hits, walk}
use Rattle.touching.proofs.Short.{IsShort, shrunk, natural}
use Rattle.touching.proofs.LineEnds.{AreNear, EndNear, on_way, Slacks, AtEnd, ended}
use Rattle.grid_num.proofs.Products.{mul_sub, mul_le_back}

same_place : (a b c : ℕ) (n m l w x y : ℤ) → n ≡ pos a → m ≡ pos b → l ≡ pos c
    → (n *ℤ w +ℤ m *ℤ x -ℤ l *ℤ y) ≡ (pos a *ℤ w +ℤ pos b *ℤ x -ℤ pos c *ℤ y)
same_place a b c n m l w x y en em el =
    omega (arith, ints, ap (λ (z : ℤ). z *ℤ w) en, ap (λ (z : ℤ). z *ℤ x) em, ap (λ (z : ℤ). z *ℤ y) el)

hit_end : (u v n m l a b c : ℕ) (s t k : ℤ)
    → (pos u *ℤ pos n +ℤ pos v *ℤ s) ≡ pos a → (pos u *ℤ pos m +ℤ pos v *ℤ t) ≡ pos b → (pos u *ℤ pos l +ℤ pos v *ℤ k) ≡ pos c
    → Hits u v (Slacks n m l s t k) → AtEnd a b c
unfolding Hits Slacks AtEnd
hit_end u v n m l a b c s t k ea eb ec (inl h) = inl (inl (omega (arith, ints, h, eb)))
hit_end u v n m l a b c s t k ea eb ec (inr (inl h)) =
    inl (inr (omega (arith, ints, h, ea, eb, mul_sub u (pos n) (pos m), mul_sub v s t)))
hit_end u v n m l a b c s t k ea eb ec (inr (inr (inl h))) = inr (inl (omega (arith, ints, h, ec)))
hit_end u v n m l a b c s t k ea eb ec (inr (inr (inr (inl h)))) =
    inr (inr (omega (arith, ints, h, ea, ec, mul_sub u (pos n) (pos l), mul_sub v s k)))
hit_end u v n m l a b c s t k ea eb ec (inr (inr (inr (inr h)))) = absurd h

module _ (r : ℕ) (wx wy vx vy yx yy : ℤ) (h : AreNear r wx wy vx vy yx yy) (s t k : ℤ) where
  moved : (p : ℕ) → s ≡ pos p → (s *ℤ wx +ℤ t *ℤ vx -ℤ k *ℤ yx) ≡ pos 0 → (s *ℤ wy +ℤ t *ℤ vy -ℤ k *ℤ yy) ≡ pos 0
      → (u v : ℕ) → 1 ≤ u → Keeps u v (Slacks h.n h.m h.l s t k) → Hits u v (Slacks h.n h.m h.l s t k) → EndNear r wx wy vx vy yx yy
  unfolding Keeps Slacks
  moved p es ex ey u v one keeps hits =
      let a : ℕ = u * h.n + v * p in
      let ea : (pos u *ℤ pos h.n +ℤ pos v *ℤ s) ≡ pos a = ap (λ (z : ℤ). pos u *ℤ pos h.n +ℤ pos v *ℤ z) es ∙ omega (arith, ints) in
      let b = natural (pos u *ℤ pos h.m +ℤ pos v *ℤ t) keeps.0 in
      let c = natural (pos u *ℤ pos h.l +ℤ pos v *ℤ k) keeps.1.1.0 in
      let x = sym (same_place a b.0 c.0 _ _ _ wx vx yx ea b.1 c.1) ∙ on_way u v (pos h.n) (pos h.m) (pos h.l) s t k wx vx yx ex in
      let y = sym (same_place a b.0 c.0 _ _ _ wy vy yy ea b.1 c.1) ∙ on_way u v (pos h.n) (pos h.m) (pos h.l) s t k wy vy yy ey in
      let short = shrunk r h.n a u _ _ (omega arith) h.close in
      ended r wx wy vx vy yx yy (record {
        n = a;
        m = b.0;
        l = c.0;
        some = at_least u h.n v p one h.some;
        on_first = omega (arith, ints, ea, b.1, keeps.1.0, mul_sub u (pos h.n) (pos h.m), mul_sub v s t);
        on_second = omega (arith, ints, ea, c.1, keeps.1.1.1.0, mul_sub u (pos h.n) (pos h.l), mul_sub v s k);
        close =
            subst (λ (z : ℤ). IsShort r a z (pos a *ℤ wy +ℤ pos b.0 *ℤ vy -ℤ pos c.0 *ℤ yy)) (sym x)
            (subst (λ (z : ℤ). IsShort r a (pos u *ℤ (pos h.n *ℤ wx +ℤ pos h.m *ℤ vx -ℤ pos h.l *ℤ yx)) z) (sym y) short);
      }) (hit_end u v h.n h.m h.l a b.0 c.0 s t k ea b.1 c.1 hits)
    where
      at_least : (u n v p : ℕ) → 1 ≤ u → 1 ≤ n → 1 ≤ u * n + v * p
      at_least zero n v p one some = omega arith
      at_least (suc u) zero v p one some = omega arith
      at_least (suc u) (suc n) v p one some = omega arith

  arrived : (v : ℕ) → 1 ≤ v → Keeps 0 v (Slacks h.n h.m h.l s t k) → (pos 0 ≤ℤ t) × (t ≤ℤ s) × (pos 0 ≤ℤ k) × (k ≤ℤ s)
  unfolding Keeps Slacks
  arrived v one keeps =
      let a : pos 0 ≤ℤ t = mul_le_back v (pos 0) t one (omega (arith, ints, keeps.0)) in
      let b : pos 0 ≤ℤ (s -ℤ t) = mul_le_back v (pos 0) (s -ℤ t) one (omega (arith, ints, keeps.1.0, zero-*ℤ (pos h.n -ℤ pos h.m))) in
      let c : pos 0 ≤ℤ k = mul_le_back v (pos 0) k one (omega (arith, ints, keeps.1.1.0)) in
      let d : pos 0 ≤ℤ (s -ℤ k) = mul_le_back v (pos 0) (s -ℤ k) one (omega (arith, ints, keeps.1.1.1.0, zero-*ℤ (pos h.n -ℤ pos h.l))) in
      (a, omega (arith, ints), c, omega (arith, ints))

  pub run : (p : ℕ) → s ≡ pos p → (s *ℤ wx +ℤ t *ℤ vx -ℤ k *ℤ yx) ≡ pos 0 → (s *ℤ wy +ℤ t *ℤ vy -ℤ k *ℤ yy) ≡ pos 0
      → (s ≡ pos 0 → t ≡ pos 0 → k ≡ pos 0 → ⊥) → IsSquare s t k ⊎ EndNear r wx wy vx vy yx yy
  unfolding Starts Slacks
  run p es ex ey some =
      let e = walk (Slacks h.n h.m h.l s t k)
      (omega (arith, ints), (omega (arith, ints, h.on_first), (omega (arith, ints), (omega (arith, ints, h.on_second), tt)))) in
      ⊎_elim {C = IsSquare s t k ⊎ EndNear r wx wy vx vy yx yy}
      (λ z.
      let f = arrived e.v (omega (arith, e.some, z)) (subst (λ (u : ℕ). Keeps u e.v (Slacks h.n h.m h.l s t k)) z e.keeps) in
      by_lt_z {P = IsSquare s t k ⊎ EndNear r wx wy vx vy yx yy} (pos 0) s
      (λ l. inl (record { some = l; t_low = f.0; t_high = f.1; u_low = f.2; u_high = f.3 }))
      (λ l. absurd (some (omega (arith, ints)) (omega (arith, ints)) (omega (arith, ints)))))
      (λ m. inr (moved p es ex ey e.u e.v m.0 e.keeps m.1))
      e.ends
