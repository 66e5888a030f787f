-- What the calls do to the points of lists of octagons.
use Rattle.std.specs.Prelude.{◌⊎◌, ◌↔◌, List, [], ◌∷◌, ℤ}
use Rattle.plane.specs.Plane.{Bounds, Within}
use Rattle.grid_sets.specs.Points.{HasPoint, AreApart}

-- one of the sets has the grid point
abbrev pub IsInSomeSet : List (List Bounds) → ℤ → ℤ → Type 0
IsInSomeSet [] x y = ⊥
IsInSomeSet (os ∷ more) x y = HasPoint os x y ⊎ IsInSomeSet more x y

-- the new set has what the old one has and the octagon doesn't
abbrev pub LosesOct : (o : Bounds) (old new : List Bounds) → Type 0
LosesOct o old new = (x y : ℤ) → HasPoint new x y ↔ (HasPoint old x y × ¬ (Within o x y))

-- the new set has what the old one has and none of the octagons does
abbrev pub LosesAll : (others old new : List Bounds) → Type 0
LosesAll others old new = (x y : ℤ) → HasPoint new x y ↔ (HasPoint old x y × ¬ (HasPoint others x y))

-- the new set has what the old one has and what one of the sets has
abbrev pub GainsSets : (sets : List (List Bounds)) (old new : List Bounds) → Type 0
GainsSets sets old new = (x y : ℤ) → HasPoint new x y ↔ (HasPoint old x y ⊎ IsInSomeSet sets x y)

-- the new list has what the old one has and o doesn't
pub record IsWithout (o : Bounds) (old new : List Bounds) : Type 0 where
  pub same : (x y : ℤ) → HasPoint new x y ↔ (HasPoint old x y × ¬ (Within o x y))
  pub apart : AreApart new

-- the new list has what the old one has and none of the others does
pub record IsWithoutAll (others old new : List Bounds) : Type 0 where
  pub same : (x y : ℤ) → HasPoint new x y ↔ (HasPoint old x y × ¬ (HasPoint others x y))
  pub apart : AreApart new

-- the new list has what the old one has and what one of the others has
pub record IsJoined (others old new : List Bounds) : Type 0 where
  pub same : (x y : ℤ) → HasPoint new x y ↔ (HasPoint old x y ⊎ HasPoint others x y)
  pub apart : AreApart new

-- the new list also has what own has and the other doesn't; it is apart if the old one was, and had no point of own
pub record IsRestAdded (own other : Bounds) (old new : List Bounds) : Type 0 where
  pub same : (x y : ℤ) → HasPoint new x y ↔ (HasPoint old x y ⊎ (Within own x y × ¬ (Within other x y)))
  pub apart : AreApart old → ((x y : ℤ) → Within own x y → HasPoint old x y → ⊥) → AreApart new
