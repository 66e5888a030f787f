-- The laws of changes: what an accepted edit changes of a board, and that the boards before and after it differ in that alone.
use Rattle.std.specs.Prelude.{ℕ, ◌≤◌, ◌<◌, List, [], ◌∷◌, length}
use Rattle.board_language.specs.declared.board.Track.{Track}
use Rattle.board_language.specs.declared.board.Via.{Via}
use Rattle.board_language.specs.declared.board.Rules.{Rules}
use Rattle.board_language.specs.Board.{Board}
use Rattle.fill_rules.specs.Tasks.{ranked}
use Rattle.fill_rules.specs.Dirty.{IsUntouched}
use Rattle.fill_rules.specs.Edits.{AreSameBut, IsSameButZone}
use Rattle.edit_language.specs.declared.edit.Edit.{Edit}
use Rattle.edit_language.specs.declared.edit.Edit.TheVariants as edits
use Rattle.edit_language.specs.Scripts.{IsWritten}
use Rattle.edit_language.specs.Edited.{IsAcceptedEdit, IsBoardOf}
use Rattle.dirty_rules.specs.Dirty.{IsDirtying, IsSameButPriority, AreOldRanks}
use Rattle.edit_changes.specs.Changes.{with_priority, with_clearance, IsTrackAdded, IsViaAdded, IsTrackDropped, IsViaDropped, IsZoneChanged, IsChange}

-- an edit that a line of a script gives, and that is accepted, changes the board as it says
abbrev pub ChangeLaw : Type 0
ChangeLaw =
    (text new : List ℕ) (rules : Rules) (b d : Board) (edit : Edit) → IsWritten edit → IsAcceptedEdit text edit new
    → IsBoardOf text rules b → IsBoardOf new rules d → IsChange text new rules edit b d

-- ---- what the dirty set asks of the two boards

-- with a new track they are the same but for that track
abbrev pub TrackAddedLaw : Type 0
TrackAddedLaw =
    (new : List ℕ) (rules : Rules) (stamp : List ℕ) (named : Track) (b d : Board) (h : IsTrackAdded new rules stamp named b d) → AreSameBut b d (h.track ∷ []) []

-- with a new via, for that via
abbrev pub ViaAddedLaw : Type 0
ViaAddedLaw =
    (new : List ℕ) (rules : Rules) (stamp : List ℕ) (named : Via) (b d : Board) (h : IsViaAdded new rules stamp named b d) → AreSameBut b d [] (h.via ∷ [])

-- without a track that is dropped, for that track
abbrev pub TrackDroppedLaw : Type 0
TrackDroppedLaw =
    (text : List ℕ) (rules : Rules) (stamp : List ℕ) (b d : Board) → IsBoardOf text rules b → (h : IsTrackDropped text rules stamp b d)
    → AreSameBut b d (h.track ∷ []) []

-- without a via, for that via
abbrev pub ViaDroppedLaw : Type 0
ViaDroppedLaw =
    (text : List ℕ) (rules : Rules) (stamp : List ℕ) (b d : Board) → IsBoardOf text rules b → (h : IsViaDropped text rules stamp b d)
    → AreSameBut b d [] (h.via ∷ [])

-- with another priority of a zone, for the priority of that zone
abbrev pub PrioritySetLaw : Type 0
PrioritySetLaw =
    (text stamp : List ℕ) (value : ℕ) (b d : Board) (h : IsZoneChanged text stamp (with_priority value) b d) → IsSameButPriority b d h.number

-- with another clearance, for the settings of that zone
abbrev pub ClearanceSetLaw : Type 0
ClearanceSetLaw =
    (text stamp : List ℕ) (value : ℕ) (b d : Board) (h : IsZoneChanged text stamp (with_clearance value) b d) → IsSameButZone b d h.number

-- ---- both together

-- The task of rank k is untouched by the edit. A new priority may give tasks other ranks, so there `old` tells the rank before.
unfoldable pub IsLeftAlone : Edit → Board → Board → ℕ → Type 0
IsLeftAlone (edits.Track from to width layer net stamp) b d k = IsUntouched b d (λ (j : ℕ). j) k
IsLeftAlone (edits.Via at size drill top bottom net stamp) b d k = IsUntouched b d (λ (j : ℕ). j) k
IsLeftAlone (edits.Drop stamp) b d k = IsUntouched b d (λ (j : ℕ). j) k
IsLeftAlone (edits.Priority stamp value) b d k = (old : ℕ → ℕ) → AreOldRanks b d old → IsUntouched b d old k
IsLeftAlone (edits.Clearance stamp value) b d k = IsUntouched b d (λ (j : ℕ). j) k

-- a task that an accepted edit doesn't dirty directly is untouched
abbrev pub LeftAloneLaw : Type 0
LeftAloneLaw =
    (text new : List ℕ) (rules : Rules) (b d : Board) (edit : Edit) → IsWritten edit → IsAcceptedEdit text edit new
    → IsBoardOf text rules b → IsBoardOf new rules d → 1 ≤ d.rules.floor → (k : ℕ) → k < length (ranked d)
    → (IsDirtying text new rules b d edit k → ⊥) → IsLeftAlone edit b d k
