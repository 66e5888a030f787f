-- The first rule of outlines that corners, given in nanometres, break, and where.
use Rattle.std.specs.Prelude.{◌≡◌, ℕ, ◌<◌, ◌≤◌, ◌⊎◌, List, length, slice_index_or, Option, MatchOption}
use Rattle.std.specs.List.{All}
use Rattle.grid_num.specs.declared.Point.{Point}
use Rattle.plane.specs.Covering.{edges_of}
use Rattle.outline_slab.specs.Rules.{IsOnGrid, IsSide, AreCrossing, NoneCrossing, IsOutline}
use Rattle.outline_slab.specs.declared.error.OutlineFault.{OutlineFault}
use Rattle.outline_slab.specs.declared.error.OutlineFault.TheVariants.{Short, OffGrid, OffAngle, Crossing}
use Rattle.outline_slab.specs.declared.error.OutlineError.{OutlineError}
use Rattle.outline_slab.specs.declared.error.OutlineError.TheVariants.{Memory, Bad}

-- item i is the first one that breaks the rule
pub record IsFirstOff (X : Type 0) (Rule : X → Type 0) (xs : List X) (i : ℕ) : Type 0 where
  pub within : i < length xs
  pub off : (d : X) → Rule (slice_index_or xs i d) → ⊥
  pub before : (k : ℕ) (d : X) → k < i → Rule (slice_index_or xs k d)

-- the pair (k, l) comes before the pair (i, j)
abbrev pub IsPairBefore : ℕ → ℕ → ℕ → ℕ → Type 0
IsPairBefore k l i j = (k < i) ⊎ ((k ≡ i) × (l < j))

-- edges i and j cross, and no pair of edges that comes before does
pub record IsLeastCrossing (cs : List Point) (i j : ℕ) : Type 0 where
  pub order : i < j
  pub within : j < length cs
  pub crossing : AreCrossing cs i j
  pub least : (k l : ℕ) → k < l → l < length cs → IsPairBefore k l i j → AreCrossing cs k l → ⊥

-- what was found: nothing where no edges cross, or the least pair of edges that do
abbrev pub IsFoundCrossing : List Point → Option (ℕ × ℕ) → Type 0
IsFoundCrossing cs found = MatchOption found (NoneCrossing cs) (λ pair. IsLeastCrossing cs pair.0 pair.1)

-- the rules in their order: each fault says that the rules before it hold
abbrev pub HasOutlineFault : List Point → OutlineFault → Type 0
HasOutlineFault cs Short = length cs < 3
HasOutlineFault cs (OffGrid i) = (3 ≤ length cs) × IsFirstOff Point IsOnGrid cs i
HasOutlineFault cs (OffAngle i) = (3 ≤ length cs) × All IsOnGrid cs × IsFirstOff _ IsSide (edges_of cs) i
HasOutlineFault cs (Crossing i j) = (3 ≤ length cs) × All IsOnGrid cs × All IsSide (edges_of cs) × IsLeastCrossing cs i j

-- why no outline was made: want of memory, or the first rule that is broken
abbrev pub IsCause : List Point → OutlineError → Type 0
IsCause cs Memory = Unit {0}
IsCause cs (Bad fault) = HasOutlineFault cs fault

-- at most one fault fits the corners
abbrev pub OneFaultLaw : Type 0
OneFaultLaw = (cs : List Point) (f g : OutlineFault) → HasOutlineFault cs f → HasOutlineFault cs g → f ≡ g

-- corners that break no rule have no fault
abbrev pub NoFaultLaw : Type 0
NoFaultLaw = (cs : List Point) (f : OutlineFault) → IsOutline cs → HasOutlineFault cs f → ⊥
