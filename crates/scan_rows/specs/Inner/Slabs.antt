-- Parts of octagons by rows.
use Rattle.std.specs.Prelude.{◌⊎◌, ◌↔◌, List, ℤ}
use Rattle.plane.specs.Plane.{Bounds, Within}
use Rattle.grid_sets.specs.Points.{HasPoint, AreApart}

-- the new list also has what the octagon has in these rows; it is apart if the old one was, and had no point of the octagon
pub record IsPartAdded (P : ℤ → Type 0) (oct : Bounds) (old new : List Bounds) : Type 0 where
  pub same : (x y : ℤ) → HasPoint new x y ↔ (HasPoint old x y ⊎ (Within oct x y × P y))
  pub apart : AreApart old → ((x y : ℤ) → Within oct x y → HasPoint old x y → ⊥) → AreApart new

-- the parts have the points of the octagons in these rows
pub record ArePartsOf (P : ℤ → Type 0) (octs parts : List Bounds) : Type 0 where
  pub same : (x y : ℤ) → HasPoint parts x y ↔ (HasPoint octs x y × P y)
  pub apart : AreApart parts

-- the lists have the same points in these rows
abbrev pub AgreeWhere : (ℤ → Type 0) → (octs others : List Bounds) → Type 0
AgreeWhere P octs others = (x y : ℤ) → P y → HasPoint others x y ↔ HasPoint octs x y

-- the new list also has what the octagons have and none that is near; it is apart if the old one was, and had no point of the
-- octagons
pub record IsLeftAdded (near octs old new : List Bounds) : Type 0 where
  pub same : (x y : ℤ) → HasPoint new x y ↔ (HasPoint old x y ⊎ (HasPoint octs x y × ¬ (HasPoint near x y)))
  pub apart : AreApart old → ((x y : ℤ) → HasPoint old x y → HasPoint octs x y → ⊥) → AreApart new

-- What is done of taking others away: done has what is left of the octagons in the rows so far, and nothing of what is yet to do;
-- of that the later ones are to be taken away
pub record IsUnderWay (others octs done left later : List Bounds) : Type 0 where
  pub same : (x y : ℤ) → (HasPoint octs x y × ¬ (HasPoint others x y)) ↔ (HasPoint done x y ⊎ (HasPoint left x y × ¬ (HasPoint later x y)))
  pub done_apart : AreApart done
  pub left_apart : AreApart left
  pub beside : (x y : ℤ) → HasPoint done x y → HasPoint left x y → ⊥
