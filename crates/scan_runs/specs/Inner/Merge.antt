-- Runs put together on one row, and rows put together below each other.
use Rattle.std.specs.Prelude.{◌⊎◌, ◌↔◌, ℕ, ◌≤◌, List, map, ℤ, pos, ◌+ℤ◌, ◌≤ℤ◌}
use Rattle.grid_sets.specs.Rows.{Run, IsOnRun, OnRuns, AscendingRuns, Row, OnRows, Descending}
use Rattle.grid_sets.specs.Bands.{run_down}
use Rattle.grid_sets.specs.declared.Slant.{Slant}

-- the runs ascend from somewhere
pub record AreSorted (runs : List Run) : Type 0 where
  pub low : ℤ
  pub ascending : AscendingRuns low runs

-- on each row, s is the two as one run
pub record IsUnionOfRuns (n : ℕ) (a b s : Slant) : Type 0 where
  pub filled : (k : ℕ) → k ≤ n → (run_down k a).from ≤ℤ (run_down k a).to → (run_down k b).from ≤ℤ (run_down k b).to → (run_down k s).from ≤ℤ (run_down k s).to
  pub same : (k : ℕ) (x : ℤ) → k ≤ n → IsOnRun (run_down k s) x ↔ (IsOnRun (run_down k a) x ⊎ IsOnRun (run_down k b) x)

-- they are the rows of the set from top to bottom
pub record AreRowsBetween (P : ℤ → ℤ → Type 0) (top bottom : ℤ) (rows : List Row) : Type 0 where
  pub descending : Descending top rows
  pub there : (x y : ℤ) → OnRows rows x y → (top ≤ℤ y) × (y ≤ℤ bottom) × P x y
  pub back : (x y : ℤ) → top ≤ℤ y → y ≤ℤ bottom → P x y → OnRows rows x y

-- on each of its rows, the slants are the runs of the set
pub record AreStraight (P : ℤ → ℤ → Type 0) (top : ℤ) (n : ℕ) (ss : List Slant) : Type 0 where
  pub sorted : (k : ℕ) → k ≤ n → AreSorted (map (run_down k) ss)
  pub same : (k : ℕ) (x : ℤ) → k ≤ n → OnRuns (map (run_down k) ss) x ↔ P x (top +ℤ pos k)
