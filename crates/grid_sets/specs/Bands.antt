-- The greedy bands of rows.
use Rattle.std.specs.Prelude.{◌≡◌, ℕ, zero, suc, ◌≤◌, List, [], ◌∷◌, ◌++◌, map, ℤ, pos, ◌+ℤ◌, ◌-ℤ◌}
use Rattle.grid_sets.specs.Rows.{Run, Row}
use Rattle.grid_sets.specs.declared.Move.{Move}
use Rattle.grid_sets.specs.declared.Move.TheVariants.{Left, Still, Right}
use Rattle.grid_sets.specs.declared.End.{End}
use Rattle.grid_sets.specs.declared.Slant.{Slant}

-- where a number is after k moves
abbrev pub place_after : Move → ℕ → ℤ → ℤ
place_after Left k a = a -ℤ pos k
place_after Still k a = a
place_after Right k a = a +ℤ pos k

-- where an end is, k rows below the first one
abbrev pub reach : ℕ → End → ℤ
reach k e = place_after e.go k e.place

-- the run, k rows below the first one
abbrev pub run_down : ℕ → Slant → Run
run_down k s = record { from = reach k s.from; to = reach k s.to }

-- A band: its first row's y, how many more rows it has, and its runs. Each row below the first one is at the next y,
-- and has the runs of the row above with their ends moved.
--
--     top        ######   ####      the ends of the left run move by -1 and 0,
--     top + 1   #######    ####     those of the right one both by 1
--     top + 2  ########     ####    more = 2
pub record Band : Type 0 where
  pub top : ℤ
  pub more : ℕ
  pub runs : List Slant

-- its row k below the first one
abbrev pub row_of : Band → ℕ → Row
row_of b k = record { y = b.top +ℤ pos k; runs = map (run_down k) b.runs }

-- n rows of the band, from row k on
abbrev pub rows_from : Band → ℕ → ℕ → List Row
rows_from b k zero = []
rows_from b k (suc n) = row_of b k ∷ rows_from b (suc k) n

-- all its rows, from the top
abbrev pub rows_of : Band → List Row
rows_of b = rows_from b 0 (suc b.more)

-- both ends have the same moves
pub record IsMovedAlike (s t : Slant) : Type 0 where
  pub from : s.from.go ≡ t.from.go
  pub to : s.to.go ≡ t.to.go

-- as many runs, with the same moves one by one
abbrev pub AreMovedAlike : List Slant → List Slant → Type 0
AreMovedAlike [] [] = Unit {0}
AreMovedAlike [] (t ∷ ts) = ⊥
AreMovedAlike (s ∷ ss) [] = ⊥
AreMovedAlike (s ∷ ss) (t ∷ ts) = IsMovedAlike s t × AreMovedAlike ss ts

-- no end moves
abbrev pub AreStill : List Slant → Type 0
AreStill [] = Unit {0}
AreStill (s ∷ ss) = (s.from.go ≡ Still) × (s.to.go ≡ Still) × AreStill ss

-- The row joins the band above it: it is the neighbour of the band's last row, has as many runs, each run end moves by
-- -1, 0 or 1 from that row to this one, and where the band has two rows or more these are the band's moves.
pub record IsJoining (b : Band) (r : Row) : Type 0 where
  pub next : r.y ≡ b.top +ℤ pos (suc b.more)
  pub steps : List Slant
  pub last : map (run_down 0) steps ≡ map (run_down b.more) b.runs
  pub new : map (run_down 1) steps ≡ r.runs
  pub alike : 1 ≤ b.more → AreMovedAlike steps b.runs

-- no row is left, or the next one doesn't join
abbrev pub BandEnds : Band → List Row → Type 0
BandEnds b [] = Unit {0}
BandEnds b (r ∷ rs) = ¬ (IsJoining b r)

-- They are the greedy bands of the rows, from the top: the first row begins a band, a band takes the rows that follow as
-- long as they join it, and the next row begins a new one. A band's moves are those from its first row to its second
-- one; the ends of a single row are still.
abbrev pub AreBandsOf : List Row → List Band → Type 0
AreBandsOf rows [] = rows ≡ []
AreBandsOf rows (b ∷ bs) =
    (rest : List Row) × (rows ≡ rows_of b ++ rest) × BandEnds b rest × AreBandsOf rest bs × (b.more ≡ 0 → AreStill b.runs)
