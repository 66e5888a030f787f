-- The gaps round pads that are joined by spokes, and those spokes.
use Rattle.std.specs.Prelude.{◌≡◌, ℕ, ◌*◌, [], ◌∷◌, length}
use Rattle.classes.specs.Classes.{IsOneOf}
use Rattle.board_language.specs.declared.board.Pad.{Pad}
use Rattle.board_language.specs.Board.{Board}
use Rattle.board_language.specs.Facts.{IsSoundBoard, HasOneHull}
use Rattle.fill_rules.specs.Tasks.{Settings}
use Rattle.fill_rules.specs.Needs.{keep_when}
use Rattle.fill_rules.specs.Reliefs.{gap_of, is_thermal, thermal_needs, spokes_of}
use Rattle.knockouts.specs.Obstacles.{gap_needs}

-- each gap has four spokes across it
abbrev pub GapsLaw : Type 0
GapsLaw = (b : Board) (z : Settings) (l : ℕ) → length (spokes_of b z l) ≡ 4 * length (thermal_needs b z l)

-- and a pad that is joined by spokes has one gap, round its one hull
abbrev pub OneGapLaw : Type 0
OneGapLaw =
    (b : Board) → IsSoundBoard b → (z : Settings) (l : ℕ) (p : Pad) → IsOneOf p b.pads
    → (h : HasOneHull p) × (gap_needs z l p ≡ keep_when (is_thermal z l p) (record { oct = h.hull; need = gap_of z p } ∷ []))
