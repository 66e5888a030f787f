-- The points of a band's rows.
use Rattle.std.proofs.Common.{◌≡◌, ◌⊎◌, inl, inr, ℕ, zero, suc, ◌+◌, ◌≤◌, ◌<◌, List, [], ◌∷◌, ◌++◌, map, subst, arith}
use Rattle.std.specs.Prelude.{ℤ, pos, ◌+ℤ◌, ◌↔◌}
use Rattle.std.proofs.lemmas.Bool.{cases_lt}
use Rattle.grid_sets.specs.Rows.{Row, OnRuns, OnRows}
use Rattle.grid_sets.specs.Bands.{run_down, Band, rows_from}

pub on_band : (b : Band) (k n : ℕ) (x y : ℤ) → OnRows (rows_from b k n) x y → (i : ℕ) × (k ≤ i) × (i < k + n) × (y ≡ b.top +ℤ pos i) × OnRuns (map (run_down i) b.runs) x
on_band b k zero x y h = absurd h
on_band b k (suc n) x y (inl h) = (k, omega arith, omega arith, h.0, h.1)
on_band b k (suc n) x y (inr h) = let r = on_band b (suc k) n x y h in (r.0, omega arith, omega arith, r.3, r.4)

pub band_on : (b : Band) (k n i : ℕ) (x y : ℤ) → k ≤ i → i < k + n → y ≡ b.top +ℤ pos i → OnRuns (map (run_down i) b.runs) x → OnRows (rows_from b k n) x y
band_on b k zero i x y h l e o = absurd (omega arith)
band_on b k (suc n) i x y h l e o = elim (cases_lt k i) [
  | inl m ↦ inr (band_on b (suc k) n i x y (omega arith) (omega arith) e o)
  | inr m ↦ let z : i ≡ k = omega arith in inl (subst (λ (j : ℕ). (y ≡ b.top +ℤ pos j) × OnRuns (map (run_down j) b.runs) x) z (e, o))
]

pub on_rows : (rs ts : List Row) (x y : ℤ) → OnRows (rs ++ ts) x y ↔ (OnRows rs x y ⊎ OnRows ts x y)
on_rows [] ts x y = (λ h. inr h, λ h. elim h [ inl e ↦ absurd e | inr k ↦ k ])
on_rows (r ∷ rs) ts x y =
    let i = on_rows rs ts x y in (
      λ h. elim h [ inl w ↦ inl (inl w) | inr k ↦ elim (i.0 k) [ inl m ↦ inl (inr m) | inr m ↦ inr m ] ],
      λ h. elim h [ inl k ↦ elim k [ inl w ↦ inl w | inr m ↦ inr (i.1 (inl m)) ] | inr m ↦ inr (i.1 (inr m)) ],
    )
