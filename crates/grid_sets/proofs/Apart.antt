-- The cells of bands are apart, and each is tight.
use Rattle.std.proofs.Common.{◌≡◌, subst, ℕ, zero, suc, ◌+◌, ◌≤◌, ◌<◌, inl, inr, List, [], ◌∷◌, ◌++◌, map, arith}
use Rattle.std.specs.Prelude.{ℤ, pos, ◌+ℤ◌, ◌≤ℤ◌, ◌<ℤ◌}
use Rattle.std.specs.List.{All}
use Rattle.std.proofs.lemmas.Int.{ints}
use Rattle.std.proofs.lemmas.List.Elements.{All-nil, All-cons, All-append}
use Rattle.plane.specs.Plane.{Bounds, IsTight}
use Rattle.grid_sets.specs.Rows.{IsOnRun, OnRuns, AscendingRuns, Row, OnRows, AreMaximalRuns, Descending}
use Rattle.grid_sets.specs.Bands.{run_down, Band, row_of, rows_from, rows_of, AreBandsOf}
use Rattle.grid_sets.specs.Cells.{cell_of, cells_of}
use Rattle.grid_sets.specs.Points.{HasPoint, AreApart}
use Rattle.grid_sets.specs.Laws.{CellsApartLaw, CellsTightLaw}
use Rattle.grid_sets.specs.declared.Slant.{Slant}
use Rattle.grid_sets.proofs.Unique.{on_from, on_top}
use Rattle.grid_sets.proofs.Cells.{cell_row, cell-IsTight}
use Rattle.grid_sets.proofs.CellPoints.{cell_runs, has_either, cells_points, band_points}

-- ---- rows of which the first ones are known
later_rows : (top : ℤ) (rs ts : List Row) → Descending top (rs ++ ts) → (low : ℤ) × Descending low ts
later_rows top [] ts d = (top, d)
later_rows top (r ∷ rs) ts d = later_rows (r.y +ℤ pos 1) rs ts d.2

below_first : (top : ℤ) (r : Row) (ts : List Row) (x y : ℤ) → Descending top (r ∷ ts) → OnRows ts x y → r.y <ℤ y
below_first top r ts x y d h = let l = on_top (r.y +ℤ pos 1) ts x y d.2 h in omega (arith, ints)

on_later : (rs ts : List Row) (x y : ℤ) → OnRows ts x y → OnRows (rs ++ ts) x y
on_later [] ts x y h = h
on_later (r ∷ rs) ts x y h = inr (on_later rs ts x y h)

-- no row is in both parts
parted : (top : ℤ) (rs ts : List Row) (x y : ℤ) → Descending top (rs ++ ts) → OnRows rs x y → OnRows ts x y → ⊥
parted top [] ts x y d h i = absurd h
parted top (r ∷ rs) ts x y d (inl h) i = let l = below_first top r (rs ++ ts) x y d (on_later rs ts x y i) in omega (arith, ints, h.0)
parted top (r ∷ rs) ts x y d (inr h) i = parted (r.y +ℤ pos 1) rs ts x y d.2 h i

-- each row of a band has points
band_filled : (top : ℤ) (b : Band) (k n i : ℕ) (ts : List Row) → Descending top (rows_from b k n ++ ts) → i < n → AreMaximalRuns (map (run_down (k + i)) b.runs)
band_filled top b k zero i ts d l = absurd (omega arith)
band_filled top b k (suc n) zero ts d l = let z : k ≡ k + 0 = omega arith in subst (λ (v : ℕ). AreMaximalRuns (map (run_down v) b.runs)) z d.1
band_filled top b k (suc n) (suc i) ts d l =
    let r = band_filled ((row_of b k).y +ℤ pos 1) b (suc k) n i ts d.2 (omega arith) in
    let z : suc k + i ≡ k + suc i = omega arith in
    subst (λ (v : ℕ). AreMaximalRuns (map (run_down v) b.runs)) z r

-- ---- one band
record AreAscending (k : ℕ) (ss : List Slant) : Type 0 where
  low : ℤ
  ascending : AscendingRuns low (map (run_down k) ss)

filled_ascending : (k : ℕ) (ss : List Slant) → AreMaximalRuns (map (run_down k) ss) → AreAscending k ss
filled_ascending k [] h = absurd h
filled_ascending k (s ∷ ss) h = record { low = h.0; ascending = h.1 }

rest_ascending : (k : ℕ) (s : Slant) (ss : List Slant) → AreAscending k (s ∷ ss) → AreAscending k ss
rest_ascending k s ss a = record { low = (run_down k s).to +ℤ pos 2; ascending = a.ascending.2 }

after_first : (k : ℕ) (s : Slant) (ss : List Slant) (x : ℤ) → AreAscending k (s ∷ ss) → IsOnRun (run_down k s) x → OnRuns (map (run_down k) ss) x → ⊥
after_first k s ss x a h i = let l = on_from ((run_down k s).to +ℤ pos 2) (map (run_down k) ss) x a.ascending.2 i in omega (arith, ints, h.high)

row_once : (top y : ℤ) (k j : ℕ) → y ≡ top +ℤ pos k → y ≡ top +ℤ pos j → j ≡ k
row_once top y k j e f = omega (arith, ints)

runs_apart : (top : ℤ) (n : ℕ) (ss : List Slant) → ((k : ℕ) → k ≤ n → AreAscending k ss) → AreApart (map (cell_of top n) ss)
runs_apart top n [] h = tt
runs_apart top n (s ∷ ss) h = (
  λ x y w i. once x y (cell_row top n s x y w) (cell_runs top n ss x y i),
  runs_apart top n ss (λ k l. rest_ascending k s ss (h k l)),
)
  where
    once : (x y : ℤ) → (k : ℕ) × (k ≤ n) × (y ≡ top +ℤ pos k) × IsOnRun (run_down k s) x → (k : ℕ) × (k ≤ n) × (y ≡ top +ℤ pos k) × OnRuns (map (run_down k) ss) x → ⊥
    once x y p q =
        let e : q.0 ≡ p.0 = row_once top y p.0 q.0 p.2 q.2 in
        after_first p.0 s ss x (h p.0 p.1) p.3 (subst (λ (v : ℕ). OnRuns (map (run_down v) ss) x) e q.3)

pub apart_either : (os ps : List Bounds) → AreApart os → AreApart ps → ((x y : ℤ) → HasPoint os x y → HasPoint ps x y → ⊥) → AreApart (os ++ ps)
apart_either [] ps a b f = b
apart_either (o ∷ os) ps a b f = (
  λ x y w h. elim ((has_either os ps x y).0 h) [ inl m ↦ a.0 x y w m | inr m ↦ f x y (inl w) m ],
  apart_either os ps a.1 b (λ x y m n. f x y (inr m) n),
)

rows_filled : (top : ℤ) (b : Band) (rest : List Row) → Descending top (rows_of b ++ rest) → (k : ℕ) → k ≤ b.more → AreAscending k b.runs
rows_filled top b rest d k l =
    let f = band_filled top b 0 (suc b.more) k rest d (omega arith) in
    let z : 0 + k ≡ k = omega arith in
    filled_ascending k b.runs (subst (λ (v : ℕ). AreMaximalRuns (map (run_down v) b.runs)) z f)

cells_apart : (top : ℤ) (rows : List Row) (bs : List Band) → Descending top rows → AreBandsOf rows bs → AreApart (cells_of bs)
cells_apart top rows [] d h = tt
cells_apart top rows (b ∷ bs) d h =
    let e : Descending top (rows_of b ++ h.0) = subst (Descending top) h.1 d in
    let r = later_rows top (rows_of b) h.0 e in
    apart_either (map (cell_of b.top b.more) b.runs) (cells_of bs)
    (runs_apart b.top b.more b.runs (rows_filled top b h.0 e))
    (cells_apart r.0 h.0 bs r.1 h.3)
    (λ x y m n. parted top (rows_of b) h.0 x y e ((band_points b x y).1 m) ((cells_points h.0 bs x y h.3).1 n))

pub cells_apart_law : CellsApartLaw
cells_apart_law rows bands a h = cells_apart a.top rows bands a.descending h

-- ---- tight
first_in : (k : ℕ) (s : Slant) (ss : List Slant) → AreAscending k (s ∷ ss) → (run_down k s).from ≤ℤ (run_down k s).to
first_in k s ss a = a.ascending.1

runs_tight : (top : ℤ) (n : ℕ) (ss : List Slant) → ((k : ℕ) → k ≤ n → AreAscending k ss) → All IsTight (map (cell_of top n) ss)
runs_tight top n [] h = All-nil IsTight
runs_tight top n (s ∷ ss) h =
    All-cons IsTight (cell_of top n s) (map (cell_of top n) ss)
    (cell-IsTight top n s (first_in 0 s ss (h 0 (omega arith))) (first_in n s ss (h n (omega arith))))
    (runs_tight top n ss (λ k l. rest_ascending k s ss (h k l)))

cells_tight : (top : ℤ) (rows : List Row) (bs : List Band) → Descending top rows → AreBandsOf rows bs → All IsTight (cells_of bs)
cells_tight top rows [] d h = All-nil IsTight
cells_tight top rows (b ∷ bs) d h =
    let e : Descending top (rows_of b ++ h.0) = subst (Descending top) h.1 d in
    let r = later_rows top (rows_of b) h.0 e in
    All-append IsTight (map (cell_of b.top b.more) b.runs) (cells_of bs)
    (runs_tight b.top b.more b.runs (rows_filled top b h.0 e))
    (cells_tight r.0 h.0 bs r.1 h.3)

pub cells_tight_law : CellsTightLaw
cells_tight_law rows bands a h = cells_tight a.top rows bands a.descending h
