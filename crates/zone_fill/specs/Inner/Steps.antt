-- What the loops have done so far.
use Rattle.std.specs.Prelude.{◌↔◌, ℕ, ℤ, List, [], ◌∷◌, ◌++◌, Any}
use Rattle.plane.specs.Plane.{Bounds}
use Rattle.grid_num.specs.declared.Point.{Point}
use Rattle.grid_sets.specs.Points.{HasPoint}
use Rattle.board_language.specs.declared.board.Area.{Area}
use Rattle.centres.specs.Walls.{AreWallsOf}

-- where walls are those of some rule areas, more are those of them and of a
abbrev pub AddsArea : ℕ → Area → (walls more : List Bounds) → Type 0
AddsArea layer a walls more =
    (outline : List Point) (areas : List Area) (frame : Bounds)
    → AreWallsOf outline layer areas frame walls → AreWallsOf outline layer (areas ++ a ∷ []) frame more

-- the octagons have exactly the grid points that S gives one of the things
pub record AreCutsFor {A : Type 0} (S : A → ℤ → ℤ → Type 0) (things : List A) (cuts : List Bounds) : Type 0 where
  pub same : (x y : ℤ) → HasPoint cuts x y ↔ Any (λ a. S a x y) things
