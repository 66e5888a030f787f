-- Parts that are walked from left to right and joined where they touch.
use Rattle.std.specs.Prelude.{◌≡◌, ◌⊎◌, ◌↔◌, ℕ, ◌+◌, ◌<◌, ◌≤◌, List, [], ◌∷◌, ◌++◌, map, length, ℤ, ◌+ℤ◌, ◌≤ℤ◌}
use Rattle.std.specs.List.{slice_index_or}
use Rattle.grid_sets.specs.Rows.{OnRuns}
use Rattle.grid_sets.specs.Bands.{reach, run_down}
use Rattle.grid_sets.specs.declared.Slant.{Slant}
use Rattle.scan_runs.specs.Inner.Merge.{AreSorted}
use Rattle.scan_runs.specs.Inner.Parts.{IsPart, AreSmall}

-- twice where the slant begins on the first row, and once where it begins on the row below
abbrev pub begin_key : Slant → ℤ
begin_key s = reach 0 s.from +ℤ reach 0 s.from +ℤ reach 1 s.from

-- on the first row, none begins left of the one before it
abbrev pub AreFromLeft : List Slant → Type 0
AreFromLeft ss = (k : ℕ) (d : Slant) → k + 1 < length ss
    → (slice_index_or ss k d).from.place ≤ℤ (slice_index_or ss (k + 1) d).from.place

-- on each row the runs are maximal, and have the points of the parts
pub record AreMerged (n : ℕ) (parts runs : List Slant) : Type 0 where
  pub sorted : (k : ℕ) → k ≤ n → AreSorted (map (run_down k) runs)
  pub same : (k : ℕ) (x : ℤ) → k ≤ n
      → OnRuns (map (run_down k) runs) x ↔ OnRuns (map (run_down k) parts) x
  pub small : AreSmall runs

-- one part further, whatever parts the runs before it are of; the last run is the one that is held back
pub record IsPut (n : ℕ) (held part : Slant) (old new : List Slant) (next : Slant) : Type 0 where
  pub more : (parts : List Slant) → AreMerged n parts (old ++ held ∷ []) → IsPart n part
      → AreMerged n (parts ++ part ∷ []) (new ++ next ∷ [])
  pub from : (next.from ≡ held.from) ⊎ (next.from ≡ part.from)
