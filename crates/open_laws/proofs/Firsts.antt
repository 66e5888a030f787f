-- The first points of cells, in the order of least y, then least x.
use Rattle.std.proofs.Common.{◌≡◌, subst, inl, inr, ℕ, suc, List, [], ◌∷◌, ◌++◌, map, arith}
use Rattle.std.specs.Prelude.{ℤ, pos, ◌+ℤ◌, ◌-ℤ◌, ◌≤ℤ◌, ◌<ℤ◌}
use Rattle.std.proofs.lemmas.Int.{ints, by_lt_z}
use Rattle.std.specs.List.{All}
use Rattle.plane.specs.Plane.{Bounds, Within, IsTight}
use Rattle.plane.proofs.Tight.{top_left_y}
use Rattle.grid_sets.proofs.Apart.{cells_tight_law}
use Rattle.grid_sets.specs.Rows.{Run, AscendingRuns, Row, AreMaximalRuns, Descending}
use Rattle.grid_sets.specs.Bands.{place_after, run_down, Band, row_of, rows_from, rows_of, AreBandsOf}
use Rattle.grid_sets.specs.Cells.{cell_of, cells_of}
use Rattle.grid_sets.specs.Points.{HasPoint}
use Rattle.grid_sets.specs.declared.Move.{Move}
use Rattle.grid_sets.specs.declared.Move.TheVariants.{Left, Still, Right}
use Rattle.grid_sets.specs.declared.Slant.{Slant}
use Rattle.grid_sets.proofs.Unique.{on_top}
use Rattle.grid_sets.proofs.OnBands.{on_rows}
use Rattle.grid_sets.proofs.CellPoints.{has_either, cells_points}
use Rattle.open_laws.specs.Open.{IsBefore, AreFirsts}
use Rattle.open_laws.specs.Laws.{FirstsLaw}

-- (x, y) is (u, v) or comes before it
abbrev IsUpTo : ℤ → ℤ → ℤ → ℤ → Type 0
IsUpTo x y u v = IsBefore (record { x = x; y = y }) (record { x = u; y = v })

-- the left end of each octagon's top side comes before all grid points of that octagon and of those after it
AreInOrder : List Bounds → Type 0
AreInOrder [] = Unit {0}
AreInOrder (o ∷ os) = ((u v : ℤ) → HasPoint (o ∷ os) u v → IsUpTo (o.s0 -ℤ o.y0) o.y0 u v) × AreInOrder os

moved_zero : (m : Move) (a : ℤ) → place_after m 0 a ≡ a
moved_zero Left a = omega (arith, ints)
moved_zero Still a = omega (arith, ints)
moved_zero Right a = omega (arith, ints)

-- ---- one cell
cell_first : (top : ℤ) (n : ℕ) (s : Slant) (low u v : ℤ) → low ≤ℤ s.from.place → Within (cell_of top n s) u v → IsUpTo low top u v
cell_first top n s low u v h w = by_row low s.from.place top u v h w.y_low w.s_low
  where
    by_row : (low a top u v : ℤ) → low ≤ℤ a → top ≤ℤ v → (a +ℤ top) ≤ℤ (u +ℤ v) → IsUpTo low top u v
    by_row low a top u v h k l =
        by_lt_z {P = IsUpTo low top u v} top v (λ t. inl t) (λ t. inr (omega (arith, ints), omega (arith, ints)))

-- ---- the cells of one band, whose runs ascend in the first row
runs_after : (top : ℤ) (n : ℕ) (low : ℤ) (ss : List Slant) (u v : ℤ) → AscendingRuns low (map (run_down 0) ss) → HasPoint (map (cell_of top n) ss) u v → IsUpTo low top u v
runs_after top n low [] u v a h = absurd h
runs_after top n low (s ∷ ss) u v a (inl w) = let e = moved_zero s.from.go s.from.place in cell_first top n s low u v (from_at low s.from.place _ e a.0) w
  where
    from_at : (low a c : ℤ) → c ≡ a → low ≤ℤ c → low ≤ℤ a
    from_at low a c e h = omega (arith, ints)
runs_after top n low (s ∷ ss) u v a (inr h) =
    sooner low ((run_down 0 s).to +ℤ pos 2) top u v (less low (run_down 0 s).from (run_down 0 s).to a.0 a.1) (runs_after top n ((run_down 0 s).to +ℤ pos 2) ss u v a.2 h)
  where
    less : (low a c : ℤ) → low ≤ℤ a → a ≤ℤ c → low ≤ℤ (c +ℤ pos 2)
    less low a c h k = omega (arith, ints)

    sooner : (low least top u v : ℤ) → low ≤ℤ least → IsUpTo least top u v → IsUpTo low top u v
    sooner low least top u v h (inl t) = inl t
    sooner low least top u v h (inr t) = inr (t.0, omega (arith, ints, t.1))

-- and then those of the bands below
runs_first : (top : ℤ) (n : ℕ) (low : ℤ) (ss : List Slant) (ps : List Bounds) → AscendingRuns low (map (run_down 0) ss)
    → ((u v : ℤ) → HasPoint ps u v → top <ℤ v) → AreInOrder ps → AreInOrder (map (cell_of top n) ss ++ ps)
unfolding AreInOrder
runs_first top n low [] ps a b f = f
runs_first top n low (s ∷ ss) ps a b f = (
  λ u v h. cornered top s.from.place u v (elim ((has_either (map (cell_of top n) (s ∷ ss)) ps u v).0 h) [
    | inl k ↦ runs_after top n s.from.place (s ∷ ss) u v (again low _ s.from.place (run_down 0 s).to (map (run_down 0) ss) (moved_zero s.from.go s.from.place) a) k
    | inr k ↦ inl (b u v k)
  ]),
  runs_first top n ((run_down 0 s).to +ℤ pos 2) ss ps a.2 b f,
)
  where
    cornered : (top a u v : ℤ) → IsUpTo a top u v → IsUpTo ((a +ℤ top) -ℤ top) top u v
    cornered top a u v (inl t) = inl t
    cornered top a u v (inr t) = inr (t.0, omega (arith, ints, t.1))

    again : (low c a e : ℤ) (rs : List Run) → c ≡ a → (low ≤ℤ c) × (c ≤ℤ e) × AscendingRuns (e +ℤ pos 2) rs → (a ≤ℤ c) × (c ≤ℤ e) × AscendingRuns (e +ℤ pos 2) rs
    again low c a e rs h k = (omega (arith, ints), k.1, k.2)

-- ---- all bands
filled : (rs : List Run) → AreMaximalRuns rs → (low : ℤ) × AscendingRuns low rs
filled [] h = absurd h
filled (r ∷ rs) h = h

later_rows : (top : ℤ) (rs ts : List Row) → Descending top (rs ++ ts) → (low : ℤ) × Descending low ts
later_rows top [] ts d = (top, d)
later_rows top (r ∷ rs) ts d = later_rows (r.y +ℤ pos 1) rs ts d.2

cells_first : (top : ℤ) (rows : List Row) (bs : List Band) → Descending top rows → AreBandsOf rows bs → AreInOrder (cells_of bs)
unfolding AreInOrder
cells_first top rows [] d h = tt
cells_first top rows (b ∷ bs) d h =
    let e : Descending top (rows_of b ++ h.0) = subst (Descending top) h.1 d in
    let r = later_rows top (rows_of b) h.0 e in
    let a = filled (map (run_down 0) b.runs) e.1 in
    runs_first b.top b.more a.0 b.runs (cells_of bs) a.1
    (λ u v k. below b.top v (on_top ((row_of b 0).y +ℤ pos 1) (rows_from b 1 b.more ++ h.0) u v e.2
    ((on_rows (rows_from b 1 b.more) h.0 u v).1 (inr ((cells_points h.0 bs u v h.3).1 k)))))
    (cells_first r.0 h.0 bs r.1 h.3)
  where
    below : (top v : ℤ) → ((top +ℤ pos 0) +ℤ pos 1) ≤ℤ v → top <ℤ v
    below top v h = omega (arith, ints)

-- ---- and each is in its cell
with_tight : (os : List Bounds) → AreInOrder os → All IsTight os → AreFirsts os
unfolding AreInOrder AreFirsts
with_tight [] h t = tt
with_tight (o ∷ os) h t = (top_left_y o (t 0 o (omega arith)), (λ q k. h.0 q.x q.y k), with_tight os h.1 (λ k d l. t (suc k) d (omega (arith, l))))

pub firsts : FirstsLaw
firsts rows bands a h = with_tight (cells_of bands) (cells_first a.top rows bands a.descending h) (cells_tight_law rows bands a h)
