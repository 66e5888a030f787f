-- Walls, one rule area further.
use Rattle.std.proofs.Common.{◌≡◌, sym, subst, ℕ, ◌+◌, ◌<◌, List, [], ◌∷◌, ◌++◌, length, get_or, take}
use Rattle.std.specs.Prelude.{true, false}
use Rattle.std.specs.List.{All}
use Rattle.std.proofs.lemmas.List.{take_more}
use Rattle.plane.specs.Plane.{Bounds, IsTight, IsOct}
use Rattle.plane.specs.Covering.{Covers, StrictlyCovers, edges_of}
use Rattle.grid_num.specs.declared.Point.{Point}
use Rattle.slabs.specs.Outside.{IsOutside}
use Rattle.outline_slab.specs.Cuts.{HaveJust}
use Rattle.outline_slab.specs.Filled.{AreFilling, IsLeftOver}
use Rattle.board_language.specs.declared.board.Area.{Area}
use Rattle.board_language.specs.Copper.{has_layer}
use Rattle.centres.specs.Walls.{AreWallsOf, stout_of}
use Rattle.centres.proofs.Walls.{walls_law}
use Rattle.zone_fill.specs.Inner.Steps.{AddsArea}

tight_of : (os : List Bounds) → All IsOct os → All IsTight os
tight_of os h k d l = (h k d l).tight

pub outside_walls : (outline : List Point) (layer : ℕ) (frame : Bounds) (octs walls : List Bounds) → All IsOct octs
    → HaveJust octs (IsOutside (edges_of outline) frame) → AreFilling octs (IsLeftOver (edges_of outline) frame) → walls ≡ stout_of octs
    → AreWallsOf outline layer [] frame walls
outside_walls outline layer frame octs walls o j f e = subst (λ t. AreWallsOf outline layer [] frame t) (sym e) (walls_law.outline outline layer frame octs (tight_of octs o) j f)

pub adds_none : (layer : ℕ) (a : Area) (walls : List Bounds) → has_layer a.layers layer ≡ false → AddsArea layer a walls walls
adds_none layer a walls e outline areas frame w = walls_law.elsewhere outline layer areas frame walls a w e

pub adds_some : (layer : ℕ) (a : Area) (walls octs more : List Bounds) → has_layer a.layers layer ≡ true → All IsOct octs
    → HaveJust octs (Covers (edges_of a.outline)) → AreFilling octs (StrictlyCovers (edges_of a.outline)) → more ≡ walls ++ stout_of octs
    → AddsArea layer a walls more
adds_some layer a walls octs more e o j f m outline areas frame w =
    subst (λ t. AreWallsOf outline layer (areas ++ a ∷ []) frame t) (sym m) (walls_law.area outline layer areas frame walls a octs w e (tight_of octs o) j f)

pub areas_more : (outline : List Point) (layer : ℕ) (areas : List Area) (frame : Bounds) (a : Area) (i : ℕ) (walls more : List Bounds)
    → i < length areas → a ≡ get_or areas i a → AreWallsOf outline layer (take i areas) frame walls → AddsArea layer a walls more
    → AreWallsOf outline layer (take (i + 1) areas) frame more
areas_more outline layer areas frame a i walls more l e w adds =
    subst (λ t. AreWallsOf outline layer t frame more) (sym (take_more areas i a l))
    (subst (λ (b : Area). AreWallsOf outline layer (take i areas ++ b ∷ []) frame more) e (adds outline (take i areas) frame w))
