-- The laws of the dirty set.
use Rattle.std.specs.Prelude.{◌≡◌, ℕ, ◌≤◌, ◌<◌, Bool, true, List, [], ◌∷◌, length}
use Rattle.grid_num.specs.declared.Point.{Point}
use Rattle.board_language.specs.declared.board.Track.{Track}
use Rattle.board_language.specs.declared.board.Via.{Via}
use Rattle.board_language.specs.declared.board.Rules.{Rules}
use Rattle.board_language.specs.Board.{Board}
use Rattle.fill_rules.specs.Tasks.{ranked, task_at}
use Rattle.fill_rules.specs.Reach.{IsReaching}
use Rattle.fill_rules.specs.Dirty.{IsUntouched}
use Rattle.fill_rules.specs.Edits.{AreSameBut, IsSameButZone}
use Rattle.edit_language.specs.declared.edit.Edit.{Edit}
use Rattle.edit_language.specs.declared.edit.Edit.TheVariants as edits
use Rattle.dirty_rules.specs.Dirty.{HasTrack, HasVia, IsDirtying, IsZoneDirtying, IsDirtied, IsInDirtySet, IsSameButPriority, AreOldRanks}

-- ---- the dirty set is the least with two rules

-- what an edit dirties directly is in it
abbrev pub FirstRuleLaw : Type 0
FirstRuleLaw =
    (text : List ℕ) (list : List Edit) (rules : Rules) (last : Board) (changed : ℕ → Bool) (k : ℕ)
    → IsDirtied text list rules (task_at last k) → IsInDirtySet text list rules last changed k

-- and so is what a task of it reaches whose fill changed
abbrev pub SecondRuleLaw : Type 0
SecondRuleLaw =
    (text : List ℕ) (list : List Edit) (rules : Rules) (last : Board) (changed : ℕ → Bool) (m k : ℕ)
    → IsInDirtySet text list rules last changed m → changed m ≡ true → IsReaching last m k → IsInDirtySet text list rules last changed k

-- each set with these two rules has all of it
abbrev pub LeastSetLaw : Type 0
LeastSetLaw =
    (text : List ℕ) (list : List Edit) (rules : Rules) (last : Board) (changed member : ℕ → Bool)
    → ((k : ℕ) → IsDirtied text list rules (task_at last k) → member k ≡ true)
    → ((m k : ℕ) → member m ≡ true → changed m ≡ true → IsReaching last m k → member k ≡ true)
    → (k : ℕ) → IsInDirtySet text list rules last changed k → member k ≡ true

-- ---- what an edit of a zone leaves untouched

-- a task that a zone's new clearance doesn't dirty
abbrev pub ClearanceLaw : Type 0
ClearanceLaw =
    (b d : Board) (n : ℕ) → IsSameButZone b d n → 1 ≤ d.rules.floor → (k : ℕ) → k < length (ranked d)
    → (IsZoneDirtying b d n (task_at d k) → ⊥) → IsUntouched b d (λ (j : ℕ). j) k

-- and one that a zone's new priority doesn't dirty, though it may have another rank then
abbrev pub PriorityLaw : Type 0
PriorityLaw =
    (b d : Board) (n : ℕ) → IsSameButPriority b d n → 1 ≤ d.rules.floor → (old : ℕ → ℕ) → AreOldRanks b d old
    → (k : ℕ) → k < length (ranked d) → (IsZoneDirtying b d n (task_at d k) → ⊥) → IsUntouched b d old k

-- ---- what a track or via that comes or goes leaves untouched

-- a task that an added track doesn't dirty, where the boards are the same but for the track
abbrev pub TrackLaw : Type 0
TrackLaw =
    (text new : List ℕ) (rules : Rules) (b d : Board) (from to : Point) (width : ℕ) (layer : List ℕ) (net : ℕ) (stamp : List ℕ) (track : Track)
    → HasTrack new rules stamp track → AreSameBut b d (track ∷ []) [] → 1 ≤ d.rules.floor → (k : ℕ)
    → (IsDirtying text new rules b d (edits.Track from to width layer net stamp) k → ⊥) → IsUntouched b d (λ (j : ℕ). j) k

-- an added via
abbrev pub ViaLaw : Type 0
ViaLaw =
    (text new : List ℕ) (rules : Rules) (b d : Board) (at : Point) (size drill : ℕ) (top bottom : List ℕ) (net : ℕ) (stamp : List ℕ) (via : Via)
    → HasVia new rules stamp via → AreSameBut b d [] (via ∷ []) → 1 ≤ d.rules.floor → (k : ℕ)
    → (IsDirtying text new rules b d (edits.Via at size drill top bottom net stamp) k → ⊥) → IsUntouched b d (λ (j : ℕ). j) k

-- a track that is dropped, by where it was
abbrev pub DropTrackLaw : Type 0
DropTrackLaw =
    (text new : List ℕ) (rules : Rules) (b d : Board) (stamp : List ℕ) (track : Track)
    → HasTrack text rules stamp track → AreSameBut b d (track ∷ []) [] → 1 ≤ d.rules.floor → (k : ℕ)
    → (IsDirtying text new rules b d (edits.Drop stamp) k → ⊥) → IsUntouched b d (λ (j : ℕ). j) k

-- and a via
abbrev pub DropViaLaw : Type 0
DropViaLaw =
    (text new : List ℕ) (rules : Rules) (b d : Board) (stamp : List ℕ) (via : Via)
    → HasVia text rules stamp via → AreSameBut b d [] (via ∷ []) → 1 ≤ d.rules.floor → (k : ℕ)
    → (IsDirtying text new rules b d (edits.Drop stamp) k → ⊥) → IsUntouched b d (λ (j : ℕ). j) k
