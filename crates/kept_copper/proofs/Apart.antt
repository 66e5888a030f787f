-- Cells have no common grid point, and so have those of them that are chosen.
use Rattle.std.proofs.Common.{◌≡◌, sym, subst, inl, inr, Bool, true, false, List, [], ◌∷◌}
use Rattle.std.specs.Prelude.{ℤ}
use Rattle.plane.specs.Plane.{Bounds}
use Rattle.grid_sets.specs.Points.{HasPoint, AreApart}
use Rattle.scan_runs.specs.declared.cell.Cell.{Cell}
use Rattle.scan_runs.specs.Cells.{AreCellsOf, octs_of, TilesLaw}
use Rattle.components.specs.Kept.{flagged}

flagged_points : (fs : List Bool) (os : List Bounds) (x y : ℤ) → HasPoint (flagged fs os) x y → HasPoint os x y
flagged_points [] os x y h = absurd h
flagged_points (f ∷ fs) [] x y h = absurd h
flagged_points (true ∷ fs) (o ∷ os) x y (inl w) = inl w
flagged_points (true ∷ fs) (o ∷ os) x y (inr h) = inr (flagged_points fs os x y h)
flagged_points (false ∷ fs) (o ∷ os) x y h = inr (flagged_points fs os x y h)

flagged_apart : (fs : List Bool) (os : List Bounds) → AreApart os → AreApart (flagged fs os)
flagged_apart [] os a = tt
flagged_apart (f ∷ fs) [] a = tt
flagged_apart (true ∷ fs) (o ∷ os) a = ((λ x y w h. a.0 x y w (flagged_points fs os x y h)), flagged_apart fs os a.1)
flagged_apart (false ∷ fs) (o ∷ os) a = flagged_apart fs os a.1

pub chosen_apart : (fs : List Bool) (os chosen : List Bounds) → chosen ≡ flagged fs os → AreApart os → AreApart chosen
chosen_apart fs os chosen e a = subst (λ t. AreApart t) (sym e) (flagged_apart fs os a)

pub cells_apart : TilesLaw → (os : List Bounds) (cells : List Cell) (octs : List Bounds) → octs ≡ octs_of cells → AreCellsOf (HasPoint os) cells → AreApart octs
cells_apart law os cells octs e a = subst (λ t. AreApart t) (sym e) (law os cells a).apart
