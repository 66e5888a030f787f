-- The points of the cells are those of the rows.
use Rattle.std.proofs.Common.{◌≡◌, sym, subst, ◌⊎◌, inl, inr, ℕ, suc, ◌+◌, ◌≤◌, ◌<◌, List, [], ◌∷◌, ◌++◌, map, arith}
use Rattle.std.specs.Prelude.{ℤ, pos, ◌+ℤ◌, ◌↔◌}
use Rattle.plane.specs.Plane.{Bounds}
use Rattle.grid_sets.specs.Rows.{Row, OnRuns, OnRows}
use Rattle.grid_sets.specs.Bands.{run_down, Band, rows_of}
use Rattle.grid_sets.specs.Cells.{cell_of, cells_of}
use Rattle.grid_sets.specs.Points.{HasPoint}
use Rattle.grid_sets.specs.Laws.{CellPointsLaw}
use Rattle.grid_sets.specs.declared.Slant.{Slant}
use Rattle.grid_sets.proofs.Cells.{run_in_cell, cell_row}
use Rattle.grid_sets.proofs.OnBands.{on_band, band_on, on_rows}

pub runs_cell : (top : ℤ) (n k : ℕ) (ss : List Slant) (x : ℤ) → k ≤ n → OnRuns (map (run_down k) ss) x → HasPoint (map (cell_of top n) ss) x (top +ℤ pos k)
runs_cell top n k [] x l h = absurd h
runs_cell top n k (s ∷ ss) x l (inl h) = inl (run_in_cell top n k s x l h)
runs_cell top n k (s ∷ ss) x l (inr h) = inr (runs_cell top n k ss x l h)

pub cell_runs : (top : ℤ) (n : ℕ) (ss : List Slant) (x y : ℤ) → HasPoint (map (cell_of top n) ss) x y → (k : ℕ) × (k ≤ n) × (y ≡ top +ℤ pos k) × OnRuns (map (run_down k) ss) x
cell_runs top n [] x y h = absurd h
cell_runs top n (s ∷ ss) x y (inl h) = let r = cell_row top n s x y h in (r.0, r.1, r.2, inl r.3)
cell_runs top n (s ∷ ss) x y (inr h) = let r = cell_runs top n ss x y h in (r.0, r.1, r.2, inr r.3)

pub has_either : (os ps : List Bounds) (x y : ℤ) → HasPoint (os ++ ps) x y ↔ (HasPoint os x y ⊎ HasPoint ps x y)
has_either [] ps x y = (λ h. inr h, λ h. elim h [ inl e ↦ absurd e | inr k ↦ k ])
has_either (o ∷ os) ps x y =
    let i = has_either os ps x y in (
      λ h. elim h [ inl w ↦ inl (inl w) | inr k ↦ elim (i.0 k) [ inl m ↦ inl (inr m) | inr m ↦ inr m ] ],
      λ h. elim h [ inl k ↦ elim k [ inl w ↦ inl w | inr m ↦ inr (i.1 (inl m)) ] | inr m ↦ inr (i.1 (inr m)) ],
    )

pub band_points : (b : Band) (x y : ℤ) → OnRows (rows_of b) x y ↔ HasPoint (map (cell_of b.top b.more) b.runs) x y
band_points b x y = (
  λ h. there (on_band b 0 (suc b.more) x y h),
  λ h. let r = cell_runs b.top b.more b.runs x y h in band_on b 0 (suc b.more) r.0 x y (omega arith) (omega (arith, r.1)) r.2 r.3,
)
  where
    there : (i : ℕ) × (0 ≤ i) × (i < 0 + suc b.more) × (y ≡ b.top +ℤ pos i) × OnRuns (map (run_down i) b.runs) x → HasPoint (map (cell_of b.top b.more) b.runs) x y
    there r = subst (λ (v : ℤ). HasPoint (map (cell_of b.top b.more) b.runs) x v) (sym r.3) (runs_cell b.top b.more r.0 b.runs x (omega (arith, r.2)) r.4)

pub cells_points : CellPointsLaw
cells_points rows [] x y h = (λ k. subst (λ (v : List Row). OnRows v x y) h k, λ k. absurd k)
cells_points rows (b ∷ bs) x y h =
    let i = band_points b x y in
    let j = cells_points h.0 bs x y h.3 in
    let l = on_rows (rows_of b) h.0 x y in
    let m = has_either (map (cell_of b.top b.more) b.runs) (cells_of bs) x y in (
      λ k. m.1 (elim (l.0 (subst (λ (v : List Row). OnRows v x y) h.1 k)) [ inl p ↦ inl (i.0 p) | inr p ↦ inr (j.0 p) ]),
      λ k. subst (λ (v : List Row). OnRows v x y) (sym h.1) (l.1 (elim (m.0 k) [ inl p ↦ inl (i.1 p) | inr p ↦ inr (j.1 p) ])),
    )
