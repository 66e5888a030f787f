-- Two lines within reach of one another: an end of one as the place of it.
use Rattle.std.proofs.Common.{◌≡◌, ℕ, ◌≤◌, ◌⊎◌, inl, inr, arith, ap, subst}
use Rattle.std.specs.Prelude.{ℤ, pos, neg_ℤ, ◌+ℤ◌, ◌-ℤ◌, ◌*ℤ◌, List, [], ◌∷◌}
use Rattle.std.proofs.lemmas.Int.{ints}
use Rattle.touching.proofs.Walk.{Slack}
use Rattle.touching.proofs.Ring.{blend}
use Rattle.touching.proofs.Short.{IsShort}
use Rattle.touching.proofs.PointToLine.{IsNear}
use Rattle.grid_num.proofs.Products.{mul_add, mul_sub, mul_neg}

-- with w from the second line's start to the first's, v along the first and y along the second, the places m / n of the
-- first and l / n of the second are within reach of one another
pub record AreNear (r : ℕ) (wx wy vx vy yx yy : ℤ) : Type 0 where
  pub n : ℕ
  pub m : ℕ
  pub l : ℕ
  pub some : 1 ≤ n
  pub on_first : m ≤ n
  pub on_second : l ≤ n
  pub close : IsShort r n (pos n *ℤ wx +ℤ pos m *ℤ vx -ℤ pos l *ℤ yx) (pos n *ℤ wy +ℤ pos m *ℤ vy -ℤ pos l *ℤ yy)

-- an end of one is within reach of the other
unfoldable pub EndNear : ℕ → ℤ → ℤ → ℤ → ℤ → ℤ → ℤ → Type 0
EndNear r wx wy vx vy yx yy =
    (IsNear r wx wy yx yy ⊎ IsNear r (wx +ℤ vx) (wy +ℤ vy) yx yy)
    ⊎ (IsNear r wx wy (neg_ℤ vx) (neg_ℤ vy) ⊎ IsNear r (wx -ℤ yx) (wy -ℤ yy) (neg_ℤ vx) (neg_ℤ vy))

-- the difference on the way is that at the start times its weight
pub on_way : (u v : ℕ) (n m l s t k w x y : ℤ) → (s *ℤ w +ℤ t *ℤ x -ℤ k *ℤ y) ≡ pos 0
    → ((pos u *ℤ n +ℤ pos v *ℤ s) *ℤ w +ℤ (pos u *ℤ m +ℤ pos v *ℤ t) *ℤ x -ℤ (pos u *ℤ l +ℤ pos v *ℤ k) *ℤ y)
    ≡ pos u *ℤ (n *ℤ w +ℤ m *ℤ x -ℤ l *ℤ y)
on_way u v n m l s t k w x y e =
    omega (
      arith,
      ints,
      blend u v n s w,
      blend u v m t x,
      blend u v l k y,
      mul_sub u (n *ℤ w +ℤ m *ℤ x) (l *ℤ y),
      mul_add u (n *ℤ w) (m *ℤ x),
      mul_sub v (s *ℤ w +ℤ t *ℤ x) (k *ℤ y),
      mul_add v (s *ℤ w) (t *ℤ x),
      ap (λ (z : ℤ). pos v *ℤ z) e,
    )

unfoldable pub Slacks : ℕ → ℕ → ℕ → ℤ → ℤ → ℤ → List Slack
Slacks n m l s t k =
    record { start = pos m; target = t }
    ∷ (record { start = pos n -ℤ pos m; target = s -ℤ t }
    ∷ (record { start = pos l; target = k }
    ∷ (record { start = pos n -ℤ pos l; target = s -ℤ k }
    ∷ [])))

-- an end of one: a place is 0 or whole
unfoldable pub AtEnd : ℕ → ℕ → ℕ → Type 0
AtEnd n m l = ((m ≡ 0) ⊎ (m ≡ n)) ⊎ ((l ≡ 0) ⊎ (l ≡ n))

pub ended : (r : ℕ) (wx wy vx vy yx yy : ℤ) (h : AreNear r wx wy vx vy yx yy) → AtEnd h.n h.m h.l → EndNear r wx wy vx vy yx yy
unfolding AtEnd EndNear
ended r wx wy vx vy yx yy h (inl (inl e)) = inl (inl (record {
  n = h.n;
  j = h.l;
  some = h.some;
  inside = h.on_second;
  close = subst (λ (z : ℤ). IsShort r h.n z (pos h.n *ℤ wy -ℤ pos h.l *ℤ yy)) (start h.n h.m h.l wx vx yx e)
      (subst (λ (z : ℤ). IsShort r h.n (pos h.n *ℤ wx +ℤ pos h.m *ℤ vx -ℤ pos h.l *ℤ yx) z) (start h.n h.m h.l wy vy yy e) h.close);
}))
  where
    start : (n m l : ℕ) (w v y : ℤ) → m ≡ 0 → (pos n *ℤ w +ℤ pos m *ℤ v -ℤ pos l *ℤ y) ≡ (pos n *ℤ w -ℤ pos l *ℤ y)
    start n m l w v y e = omega (arith, ints, ap (λ (k : ℕ). pos k *ℤ v) e)
ended r wx wy vx vy yx yy h (inl (inr e)) = inl (inr (record {
  n = h.n;
  j = h.l;
  some = h.some;
  inside = h.on_second;
  close = subst (λ (z : ℤ). IsShort r h.n z (pos h.n *ℤ (wy +ℤ vy) -ℤ pos h.l *ℤ yy)) (whole h.n h.m h.l wx vx yx e)
      (subst (λ (z : ℤ). IsShort r h.n (pos h.n *ℤ wx +ℤ pos h.m *ℤ vx -ℤ pos h.l *ℤ yx) z) (whole h.n h.m h.l wy vy yy e) h.close);
}))
  where
    whole : (n m l : ℕ) (w v y : ℤ) → m ≡ n → (pos n *ℤ w +ℤ pos m *ℤ v -ℤ pos l *ℤ y) ≡ (pos n *ℤ (w +ℤ v) -ℤ pos l *ℤ y)
    whole n m l w v y e = omega (arith, ints, ap (λ (k : ℕ). pos k *ℤ v) e, mul_add n w v)
ended r wx wy vx vy yx yy h (inr (inl e)) = inr (inl (record {
  n = h.n;
  j = h.m;
  some = h.some;
  inside = h.on_first;
  close = subst (λ (z : ℤ). IsShort r h.n z (pos h.n *ℤ wy -ℤ pos h.m *ℤ neg_ℤ vy)) (start h.n h.m h.l wx vx yx e)
      (subst (λ (z : ℤ). IsShort r h.n (pos h.n *ℤ wx +ℤ pos h.m *ℤ vx -ℤ pos h.l *ℤ yx) z) (start h.n h.m h.l wy vy yy e) h.close);
}))
  where
    start : (n m l : ℕ) (w v y : ℤ) → l ≡ 0 → (pos n *ℤ w +ℤ pos m *ℤ v -ℤ pos l *ℤ y) ≡ (pos n *ℤ w -ℤ pos m *ℤ neg_ℤ v)
    start n m l w v y e = omega (arith, ints, ap (λ (k : ℕ). pos k *ℤ y) e, mul_neg m v)
ended r wx wy vx vy yx yy h (inr (inr e)) = inr (inr (record {
  n = h.n;
  j = h.m;
  some = h.some;
  inside = h.on_first;
  close = subst (λ (z : ℤ). IsShort r h.n z (pos h.n *ℤ (wy -ℤ yy) -ℤ pos h.m *ℤ neg_ℤ vy)) (whole h.n h.m h.l wx vx yx e)
      (subst (λ (z : ℤ). IsShort r h.n (pos h.n *ℤ wx +ℤ pos h.m *ℤ vx -ℤ pos h.l *ℤ yx) z) (whole h.n h.m h.l wy vy yy e) h.close);
}))
  where
    whole : (n m l : ℕ) (w v y : ℤ) → l ≡ n → (pos n *ℤ w +ℤ pos m *ℤ v -ℤ pos l *ℤ y) ≡ (pos n *ℤ (w -ℤ y) -ℤ pos m *ℤ neg_ℤ v)
    whole n m l w v y e = omega (arith, ints, ap (λ (k : ℕ). pos k *ℤ y) e, mul_sub n w y, mul_neg m v)
