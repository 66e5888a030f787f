-- Finite sets of grid points by their rows.
use Rattle.std.specs.Prelude.{◌≡◌, ◌⊎◌, ◌↔◌, List, [], ◌∷◌, ℤ, pos, ◌+ℤ◌, ◌≤ℤ◌}

-- the grid points of one row from one x to another, both counted in
pub record Run : Type 0 where
  pub from : ℤ
  pub to : ℤ

-- x is on the run
pub record IsOnRun (r : Run) (x : ℤ) : Type 0 where
  pub low : r.from ≤ℤ x
  pub high : x ≤ℤ r.to

-- x is on one of the runs
abbrev pub OnRuns : List Run → ℤ → Type 0
OnRuns [] x = ⊥
OnRuns (r ∷ rs) x = IsOnRun r x ⊎ OnRuns rs x

-- The runs are maximal: they go from left to right, none is empty, and between two of them a point is missing. The
-- first one begins at low or later.
abbrev pub AscendingRuns : ℤ → List Run → Type 0
AscendingRuns low [] = Unit {0}
AscendingRuns low (r ∷ rs) = (low ≤ℤ r.from) × (r.from ≤ℤ r.to) × AscendingRuns (r.to +ℤ pos 2) rs

-- they are the maximal runs of the numbers that P holds of
pub record AreRunsOf (P : ℤ → Type 0) (runs : List Run) : Type 0 where
  pub low : ℤ
  pub ascending : AscendingRuns low runs
  pub same : (x : ℤ) → OnRuns runs x ↔ P x

-- the runs at one y
pub record Row : Type 0 where
  pub y : ℤ
  pub runs : List Run

-- the point is on one of the rows
abbrev pub OnRows : List Row → ℤ → ℤ → Type 0
OnRows [] x y = ⊥
OnRows (r ∷ rs) x y = ((y ≡ r.y) × OnRuns r.runs x) ⊎ OnRows rs x y

-- there is a run, and the runs are maximal
abbrev pub AreMaximalRuns : List Run → Type 0
AreMaximalRuns [] = ⊥
AreMaximalRuns (r ∷ rs) = (low : ℤ) × AscendingRuns low (r ∷ rs)

-- each row is below the one before it, and has points; the first one is at top or below
abbrev pub Descending : ℤ → List Row → Type 0
Descending top [] = Unit {0}
Descending top (r ∷ rs) = (top ≤ℤ r.y) × AreMaximalRuns r.runs × Descending (r.y +ℤ pos 1) rs

-- they are the rows of some finite set, from the top: one for each y that has points, with its maximal runs
pub record AreRows (rows : List Row) : Type 0 where
  pub top : ℤ
  pub descending : Descending top rows

-- they are the rows of the set of points that P holds of
pub record AreRowsOf (P : ℤ → ℤ → Type 0) (rows : List Row) : Type 0 where
  pub are : AreRows rows
  pub same : (x y : ℤ) → OnRows rows x y ↔ P x y
