-- What a sweep over the rows from the top has in hand: the strips of one slab, and those of all slabs so far.
use Rattle.std.specs.Prelude.{◌≡◌, ℕ, ◌+◌, ◌<◌, List, [], ◌∷◌, ◌++◌, length, ℤ, ◌+ℤ◌, ◌≤ℤ◌, ◌<ℤ◌, All, AllPairs, Contains, slice_index_or}
use Rattle.std.specs.List.Sorted.{IsPermutation}
use Rattle.plane.specs.Plane.{Bounds}
use Rattle.strips.specs.declared.Strip.{Strip}
use Rattle.strips.specs.Strips.{IsCutRow}
use Rattle.strips.specs.Inner.Runs.{ReachesAcross, runs_of}
use Rattle.strips.specs.Inner.Merge.{merged}

-- the left sides of the runs of one slab never go back to the left
abbrev pub AreFromLeft : List Strip → Type 0
AreFromLeft ss = (k : ℕ) (d : Strip) → k + 1 < length ss → ((slice_index_or ss k d).left +ℤ (slice_index_or ss k d).left_end) ≤ℤ ((slice_index_or ss (k + 1) d).left +ℤ (slice_index_or ss (k + 1) d).left_end)

-- the octagons that are open between the rows t and u: those that reach across
pub record AreOpen (os : List Bounds) (t u : ℤ) (bs : List Bounds) : Type 0 where
  pub each : All (λ b. Contains os b × ReachesAcross b t u) bs
  pub all : (b : Bounds) → Contains os b → ReachesAcross b t u → Contains bs b

-- ss is made of the runs of the open octagons, taken from the left and joined
pub record AreSlabStrips (os : List Bounds) (t u : ℤ) (ss : List Strip) : Type 0 where
  pub octs : List Bounds
  pub reaching : AreOpen os t u octs
  pub runs : List Strip
  pub order : IsPermutation (runs_of octs t u) runs
  pub sorted : AreFromLeft runs
  pub is : ss ≡ merged runs

-- the strips of each slab, one after another
unfoldable pub AreSheetStrips : List Bounds → List ℤ → List Strip → Type 0
AreSheetStrips os [] ss = ss ≡ []
AreSheetStrips os (t ∷ []) ss = ss ≡ []
AreSheetStrips os (t ∷ u ∷ rs) ss = (xs : List Strip) × (ys : List Strip) × AreSlabStrips os t u xs × AreSheetStrips os (u ∷ rs) ys × (ss ≡ xs ++ ys)

-- the rows that cut, each once, from the top
pub record AreCutRows (os : List Bounds) (rs : List ℤ) : Type 0 where
  pub each : All (λ r. IsCutRow os r) rs
  pub all : (r : ℤ) → IsCutRow os r → Contains rs r
  pub down : AllPairs (λ r q. r <ℤ q) rs
