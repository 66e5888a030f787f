-- Which tasks a list of edits dirties: those that an edit dirties directly, and those that changed fills reach.
use Rattle.std.specs.Prelude.{◌≡◌, ◌⊎◌, ℕ, ◌<◌, Bool, true, List, ◌∷◌, ◌++◌, length, map, slice_get, get_or, Some}
use Rattle.sexpr_text.specs.Items.{Item}
use Rattle.sexpr_text.specs.Trees.{IsRoot}
use Rattle.board_language.specs.declared.board.Track.{Track}
use Rattle.board_language.specs.declared.board.Via.{Via}
use Rattle.board_language.specs.declared.board.Zone.{Zone}
use Rattle.board_language.specs.declared.board.Rules.{Rules}
use Rattle.board_language.specs.Board.{Board}
use Rattle.board_language.specs.Reading.{board_of}
use Rattle.fill_rules.specs.Tasks.{Task, settings_of, no_zone, ranked, task_at}
use Rattle.fill_rules.specs.Reach.{IsReaching}
use Rattle.fill_rules.specs.Edits.{unplaced, unplaced_via, IsTrackDirtying, IsViaDirtying}
use Rattle.fill_rules.specs.Dirty.{unlined, IsDirty, Spreads}
use Rattle.edit_language.specs.declared.edit.Edit.{Edit}
use Rattle.edit_language.specs.declared.edit.Edit.TheVariants as edits
use Rattle.board_language.specs.Stamps.{stamp_of}
use Rattle.board_text.specs.declared.stamped.Stamped.TheVariants as stamps
use Rattle.edit_language.specs.Edited.{IsAcceptedEdit, IsEdited, IsBoardOf}

-- ---- ranks: an edit may give a task another rank, and never takes the task away

-- the task has this rank on the board
pub record IsRankOf (b : Board) (k : ℕ) (t : Task) : Type 0 where
  pub within : k < length (ranked b)
  pub is : task_at b k ≡ t

-- on this board the one task reaches the other
pub record IsReachingTask (b : Board) (s t : Task) : Type 0 where
  pub rank : ℕ
  pub below : ℕ
  pub first : IsRankOf b rank s
  pub second : IsRankOf b below t
  pub reaching : IsReaching b rank below

-- on this board the one reaches the other, or is reached by it
abbrev pub AreTasksInReach : Board → Task → Task → Type 0
AreTasksInReach b s t = IsReachingTask b s t ⊎ IsReachingTask b t s

-- ---- what an edit dirties directly, on the board before it and the board after it

-- A new priority or clearance of the zone of number n dirties each task of the zone, and each task that on one of the two
-- boards reaches a task of the zone or is reached by one.
unfoldable pub IsZoneDirtying : Board → Board → ℕ → Task → Type 0
IsZoneDirtying b d n t = (t.zone ≡ n) ⊎ ((s : Task) × (s.zone ≡ n) × (AreTasksInReach b s t ⊎ AreTasksInReach d s t))

-- the track that has the stamp in the board of this text
pub record HasTrack (text : List ℕ) (rules : Rules) (stamp : List ℕ) (track : Track) : Type 0 where
  pub root : Item
  pub is_root : IsRoot text root
  pub number : ℕ
  pub stamped : stamp_of text root stamp ≡ Some (stamps.Track number)
  pub is : slice_get (board_of text root rules).tracks number ≡ Some track

-- the via that has it
pub record HasVia (text : List ℕ) (rules : Rules) (stamp : List ℕ) (via : Via) : Type 0 where
  pub root : Item
  pub is_root : IsRoot text root
  pub number : ℕ
  pub stamped : stamp_of text root stamp ≡ Some (stamps.Via number)
  pub is : slice_get (board_of text root rules).vias number ≡ Some via

-- the number of the copper zone that has it
pub record HasZone (text : List ℕ) (stamp : List ℕ) (number : ℕ) : Type 0 where
  pub root : Item
  pub is_root : IsRoot text root
  pub stamped : stamp_of text root stamp ≡ Some (stamps.Zone number)

-- A track of the text dirties the tasks on its layer that it comes near to, whatever the nets.
abbrev pub IsDirtyingAsTrack : List ℕ → Rules → List ℕ → Board → ℕ → Type 0
IsDirtyingAsTrack text rules stamp d k = (track : Track) × HasTrack text rules stamp track × IsTrackDirtying d k track

-- And a via those on one of its layers.
abbrev pub IsDirtyingAsVia : List ℕ → Rules → List ℕ → Board → ℕ → Type 0
IsDirtyingAsVia text rules stamp d k = (via : Via) × HasVia text rules stamp via × IsViaDirtying d k via

-- A change of a zone dirties the zone's tasks and those in reach of them, before or after.
abbrev pub IsDirtyingAsZone : List ℕ → List ℕ → Board → Board → ℕ → Type 0
IsDirtyingAsZone text stamp b d k = (n : ℕ) × HasZone text stamp n × IsZoneDirtying b d n (task_at d k)

-- The edit makes the new text of the old one, and the board d of the board b. It dirties the task of rank k on d directly: a
-- new track or via by where it is now, one that is dropped by where it was.
unfoldable pub IsDirtying : List ℕ → List ℕ → Rules → Board → Board → Edit → ℕ → Type 0
IsDirtying text new rules b d (edits.Track from to width layer net stamp) k = IsDirtyingAsTrack new rules stamp d k
IsDirtying text new rules b d (edits.Via at size drill top bottom net stamp) k = IsDirtyingAsVia new rules stamp d k
IsDirtying text new rules b d (edits.Drop stamp) k = IsDirtyingAsTrack text rules stamp d k ⊎ IsDirtyingAsVia text rules stamp d k
IsDirtying text new rules b d (edits.Priority stamp value) k = IsDirtyingAsZone text stamp b d k
IsDirtying text new rules b d (edits.Clearance stamp value) k = IsDirtyingAsZone text stamp b d k

-- ---- a list of edits

-- one of the edits dirties the task directly, on the boards before and after that one edit
pub record IsDirtied (text : List ℕ) (list : List Edit) (rules : Rules) (t : Task) : Type 0 where
  pub before : List Edit
  pub edit : Edit
  pub after : List Edit
  pub stands : list ≡ before ++ edit ∷ after
  pub so_far : List ℕ
  pub next : List ℕ
  pub front : IsEdited text before so_far
  pub accepted : IsAcceptedEdit so_far edit next
  pub old : Board
  pub new : Board
  pub old_is : IsBoardOf so_far rules old
  pub new_is : IsBoardOf next rules new
  pub rank : ℕ
  pub rank_is : IsRankOf new rank t
  pub dirties : IsDirtying so_far next rules old new edit rank

-- The dirty set of a list of edits, by ranks on the last board: the tasks that an edit dirties directly, and those that are
-- reached, on the last board, from one of the set whose fill changed. `changed` tells whose did, as a list of pieces.
unfoldable pub IsInDirtySet : List ℕ → List Edit → Rules → Board → (ℕ → Bool) → ℕ → Type 0
IsInDirtySet text list rules last changed k =
    IsDirty (λ (m : ℕ). IsDirtied text list rules (task_at last m)) (Spreads last (λ (m : ℕ). changed m ≡ true)) k

-- ---- a new priority

-- the layers of a zone, as a set
abbrev pub layers_of : Zone → ℕ
layers_of z = z.layers

-- the boards are the same but for places in the file, and for the priority of the zone of number n
pub record IsSameButPriority (b d : Board) (n : ℕ) : Type 0 where
  pub layers : length b.layers ≡ length d.layers
  pub tracks : map unplaced b.tracks ≡ map unplaced d.tracks
  pub vias : map unplaced_via b.vias ≡ map unplaced_via d.vias
  pub pads : map unlined b.pads ≡ map unlined d.pads
  pub settings : map settings_of b.zones ≡ map settings_of d.zones
  pub zone_layers : map layers_of b.zones ≡ map layers_of d.zones
  pub others : (m : ℕ) → (m ≡ n → ⊥) → (get_or b.zones m no_zone).priority ≡ (get_or d.zones m no_zone).priority
  pub areas : b.areas ≡ d.areas
  pub edges : b.edges ≡ d.edges
  pub rules : b.rules ≡ d.rules

-- `old` tells the rank on b of each task of d
abbrev pub AreOldRanks : Board → Board → (ℕ → ℕ) → Type 0
AreOldRanks b d old = (m : ℕ) → m < length (ranked d) → IsRankOf b (old m) (task_at d m)
