-- A straight walk through a convex set that is given by linear bounds leaves it on a bound, or reaches its target.
use Rattle.std.proofs.Common.{◌≡◌, refl, ℕ, zero, suc, ◌+◌, ◌≤◌, ◌<◌, ◌*◌, ◌⊎◌, inl, inr, ⊎_elim, arith}
use Rattle.std.specs.Prelude.{ℤ, pos, negsuc, ◌+ℤ◌, ◌*ℤ◌, ◌≤ℤ◌, ◌<ℤ◌, List, [], ◌∷◌}
use Rattle.std.proofs.lemmas.Int.{ints, by_lt_z}
use Rattle.std.proofs.lemmas.Bool.{cases_lt}
use Rattle.std.proofs.Math.Nat.{mul-le-mul_right}

pub record Slack : Type 0 where
  pub start : ℤ
  pub target : ℤ

-- what is left of it at a mean of the two
abbrev pub mean : ℕ → ℕ → Slack → ℤ
mean u v s = pos u *ℤ s.start +ℤ pos v *ℤ s.target

unfoldable pub Starts : List Slack → Type 0
Starts [] = Unit {0}
Starts (s ∷ ss) = (pos 0 ≤ℤ s.start) × Starts ss

unfoldable pub Keeps : ℕ → ℕ → List Slack → Type 0
Keeps u v [] = Unit {0}
Keeps u v (s ∷ ss) = (pos 0 ≤ℤ mean u v s) × Keeps u v ss

unfoldable pub Hits : ℕ → ℕ → List Slack → Type 0
Hits u v [] = ⊥
Hits u v (s ∷ ss) = (mean u v s ≡ pos 0) ⊎ Hits u v ss

-- the walk ends at the target, or on a bound
pub record Exit (ss : List Slack) : Type 0 where
  pub u : ℕ
  pub v : ℕ
  pub some : 1 ≤ u + v
  pub keeps : Keeps u v ss
  pub ends : (u ≡ 0) ⊎ ((1 ≤ u) × Hits u v ss)

crossing : (u v g n j m : ℕ) → u * g < v * n → v * m ≤ u * j → g * m ≤ n * j
crossing u v g n j m less high = elim (cases_lt (n * j) (g * m)) [
  | inl l ↦
      let a : (n * j + 1) * v ≤ (g * m) * v = mul-le-mul_right v (omega arith) in
      let b : (v * m) * g ≤ (u * j) * g = mul-le-mul_right g high in
      let c : (u * g) * j ≤ (v * n) * j = mul-le-mul_right j (omega arith) in
      absurd (none u v g n j m less a b c)
  | inr l ↦ l
]
  where
    none : (u v g n j m : ℕ) → u * g < v * n → (n * j + 1) * v ≤ (g * m) * v → (v * m) * g ≤ (u * j) * g → (u * g) * j ≤ (v * n) * j → ⊥
    none u zero g n j m less a b c = omega arith
    none u (suc v) g n j m less a b c = omega arith

-- a bound that held further on holds on the way
earlier : (u v g n : ℕ) (a b : ℤ) → u * g < v * n → pos 0 ≤ℤ a → pos 0 ≤ℤ (pos u *ℤ a +ℤ pos v *ℤ b) → pos 0 ≤ℤ (pos n *ℤ a +ℤ pos g *ℤ b)
earlier u v g n (pos j) (pos m) less h k = omega (arith, ints)
earlier u v g n (pos j) (negsuc m) less h k =
    let c = crossing u v g n j (m + 1) less (omega (arith, ints)) in
    omega (arith, ints)
earlier u v g n (negsuc j) b less h k = omega (arith, ints)

all_earlier : (u v g n : ℕ) (ss : List Slack) → u * g < v * n → Starts ss → Keeps u v ss → Keeps n g ss
unfolding Starts Keeps
all_earlier u v g n [] less h k = tt
all_earlier u v g n (s ∷ ss) less h k = (earlier u v g n s.start s.target less h.0 k.0, all_earlier u v g n ss less h.1 k.1)

further : (ss : List Slack) (a b : ℤ) → Starts ss → pos 0 ≤ℤ a → (e : Exit ss) → (pos e.u *ℤ a +ℤ pos e.v *ℤ b) <ℤ pos 0
    → Exit (record { start = a; target = b } ∷ ss)
unfolding Starts Keeps Hits
further ss (pos g) (pos n) starts h e l = absurd (omega (arith, ints))
further ss (negsuc g) b starts h e l = absurd (omega (arith, ints))
further ss (pos g) (negsuc n) starts h e l = record {
  u = n + 1;
  v = g;
  some = omega arith;
  keeps = (omega (arith, ints), all_earlier e.u e.v g (n + 1) ss (omega (arith, ints)) starts e.keeps);
  ends = inr (omega arith, inl (omega (arith, ints)));
}

pub walk : (ss : List Slack) → Starts ss → Exit ss
unfolding Starts Keeps Hits
walk [] h = record { u = 0; v = 1; some = omega arith; keeps = tt; ends = inl refl }
walk (s ∷ ss) h =
    let e = walk ss h.1 in
    by_lt_z {P = Exit (s ∷ ss)} (mean e.u e.v s) (pos 0)
    (λ l. further ss s.start s.target h.1 h.0 e l)
    (λ l. record {
      u = e.u;
      v = e.v;
      some = e.some;
      keeps = (l, e.keeps);
      ends = ⊎_elim {C = (e.u ≡ 0) ⊎ ((1 ≤ e.u) × Hits e.u e.v (s ∷ ss))} (λ z. inl z) (λ p. inr (p.0, inr p.1)) e.ends;
    })
