-- Strips put together to greedy bands.
use Rattle.std.specs.Prelude.{◌≡◌, ℕ, ◌≤◌, ◌^◌, suc, ◌+◌, List, [], ◌∷◌, ◌++◌, map, ℤ, pos, ◌+ℤ◌, ◌≤ℤ◌}
use Rattle.plane.specs.Narrow.{IsNearZero}
use Rattle.grid_sets.specs.Rows.{Row}
use Rattle.grid_sets.specs.Bands.{reach, run_down, Band, row_of, rows_from, rows_of, AreMovedAlike, AreStill, AreBandsOf}
use Rattle.grid_sets.specs.declared.End.{End}
use Rattle.grid_sets.specs.declared.Slant.{Slant}
use Rattle.scan_runs.specs.Strips.{band_of}
use Rattle.scan_runs.specs.declared.strip.RowStrip.{RowStrip}

-- ends of bands: a step beyond those of strips
abbrev pub IsGoodEnd : End → Type 0
IsGoodEnd e = IsNearZero (2 ^ 44) e.place

-- both ends are
pub record IsGoodSlant (s : Slant) : Type 0 where
  pub from : IsGoodEnd s.from
  pub to : IsGoodEnd s.to

-- all of them are
abbrev pub AreGoodRuns : List Slant → Type 0
AreGoodRuns [] = Unit {0}
AreGoodRuns (s ∷ ss) = IsGoodSlant s × AreGoodRuns ss

-- what the code can count with
pub record IsGoodBand (s : RowStrip) : Type 0 where
  pub runs : AreGoodRuns s.runs.items
  pub top : IsNearZero (2 ^ 40) s.top
  pub bottom : (s.top +ℤ pos s.more) ≤ℤ pos (2 ^ 40)

-- all of them are
abbrev pub AreGoodBands : List RowStrip → Type 0
AreGoodBands [] = Unit {0}
AreGoodBands (s ∷ ss) = IsGoodBand s × AreGoodBands ss

-- the end steps from the one place to the other in one row
pub record IsEndStep (a b : ℤ) (e : End) : Type 0 where
  pub last : reach 0 e ≡ a
  pub new : reach 1 e ≡ b
  pub good : IsGoodEnd e

-- no end steps so
abbrev pub HasNoEndStep : ℤ → ℤ → Type 0
HasNoEndStep a b = (e : End) → reach 0 e ≡ a → reach 1 e ≡ b → ⊥

-- the run steps from the one, n rows down, to the other
pub record IsStepTo (n : ℕ) (a b s : Slant) : Type 0 where
  pub last : run_down 0 s ≡ run_down n a
  pub new : run_down 1 s ≡ run_down 0 b
  pub good : IsGoodSlant s

-- no run steps so
abbrev pub HasNoStep : ℕ → Slant → Slant → Type 0
HasNoStep n a b = (s : Slant) → run_down 0 s ≡ run_down n a → run_down 1 s ≡ run_down 0 b → ⊥

-- no list of runs steps so
abbrev pub HaveNoSteps : ℕ → List Slant → List Slant → Type 0
HaveNoSteps n upper lower = (ss : List Slant) → map (run_down 0) ss ≡ map (run_down n) upper → map (run_down 1) ss ≡ map (run_down 0) lower → ⊥

-- the run, a row further down
pub record IsAdvancedRun (s t : Slant) : Type 0 where
  pub rows : (k : ℕ) → run_down k t ≡ run_down (suc k) s
  pub good : IsGoodSlant t

-- all runs, a row further down
pub record AreAdvanced (old new : List Slant) : Type 0 where
  pub rows : (k : ℕ) → map (run_down k) new ≡ map (run_down (suc k)) old
  pub good : AreGoodRuns new

-- the same row, with still ends
pub record AreStilled (old new : List Slant) : Type 0 where
  pub rows : map (run_down 0) new ≡ map (run_down 0) old
  pub still : AreStill new
  pub good : AreGoodRuns new

-- each run steps from the last row of the one to the first row of the other
pub record AreSteps (n : ℕ) (upper lower steps : List Slant) : Type 0 where
  pub last : map (run_down 0) steps ≡ map (run_down n) upper
  pub new : map (run_down 1) steps ≡ map (run_down 0) lower
  pub small : AreGoodRuns steps

-- the strips are the greedy bands of the rows
pub record AreGrouped (rows : List Row) (done : List RowStrip) : Type 0 where
  pub bands : AreBandsOf rows (map band_of done)
  pub small : AreGoodBands done

-- the rows of the strip were put below the bands
pub record IsTakenIn (s : RowStrip) (old new : List RowStrip) : Type 0 where
  pub more : (rows : List Row) → AreGrouped rows old → AreGrouped (rows ++ rows_of (band_of s)) new

-- the same rows, and a single row's ends are still
pub record IsSettled (top : ℤ) (more : ℕ) (runs : List Slant) (s : RowStrip) : Type 0 where
  pub rows : rows_of (band_of s) ≡ rows_of (record { top = top; more = more; runs = runs })
  pub still : s.more ≡ 0 → AreStill s.runs.items
  pub small : IsGoodBand s

-- the steps with which the row joins the band above it
pub record JoinsBySteps (b : Band) (r : Row) (steps : List Slant) : Type 0 where
  pub next : r.y ≡ b.top +ℤ pos (suc b.more)
  pub last : map (run_down 0) steps ≡ map (run_down b.more) b.runs
  pub new : map (run_down 1) steps ≡ r.runs
  pub alike : 1 ≤ b.more → AreMovedAlike steps b.runs

-- the band with one row more
pub record IsLonger (b : Band) (r : Row) (c : Band) : Type 0 where
  pub rows : rows_of c ≡ rows_of b ++ r ∷ []
  pub last : row_of c c.more ≡ r
  pub more : 1 ≤ c.more

-- of the strip, the rows below its first one were put below the bands, of which the last one ends with the first row
pub record IsRestTaken (s : RowStrip) (init : List RowStrip) (c : RowStrip) (new : List RowStrip) : Type 0 where
  pub more : (rows : List Row) → AreGrouped rows (init ++ c ∷ []) → AreGrouped (rows ++ rows_from (band_of s) 1 s.more) new

-- the strip without its first row
pub record IsRestOf (s t : RowStrip) : Type 0 where
  pub rows : rows_of (band_of t) ≡ rows_from (band_of s) 1 s.more
  pub first : row_of (band_of t) 0 ≡ row_of (band_of s) 1
  pub still : t.more ≡ 0 → AreStill t.runs.items
  pub small : IsGoodBand t

-- the steps with which the row joins the band
pub record IsJoinedSteps (b : Band) (r : Row) (steps : List Slant) : Type 0 where
  pub joined : JoinsBySteps b r steps
  pub good : AreGoodRuns steps

-- the band with the row
pub record IsLongerStrip (last : RowStrip) (r : Row) (s : RowStrip) : Type 0 where
  pub longer : IsLonger (band_of last) r (band_of s)
  pub good : IsGoodBand s

-- the band with as many rows more as the strip has below its first one
pub record IsBandExtended (strip band s : RowStrip) : Type 0 where
  pub is : band_of s ≡ record { top = band.top; more = band.more + strip.more; runs = band.runs.items }
  pub good : IsGoodBand s
