-- What a stamp stands for on a board: a track, a via or the number of a zone.
use Rattle.std.specs.Prelude.{◌≡◌, ◌⊎◌, ℕ, slice_get, Option, None, Some}
use Rattle.board_text.specs.declared.stamped.Stamped.{Stamped}
use Rattle.board_text.specs.declared.stamped.Stamped.TheVariants as things
use Rattle.board_language.specs.declared.board.Track.{Track}
use Rattle.board_language.specs.declared.board.Via.{Via}
use Rattle.board_language.specs.Board.{Board}
use Rattle.board_items.specs.Stamps.{stamped}
use Rattle.board_model.specs.Whole.{Whole}
use Rattle.edit_language.specs.declared.edit.Edit.{Edit}
use Rattle.edit_language.specs.declared.edit.Edit.TheVariants as edits
use Rattle.fill_rules.specs.Edits.{IsTrackDirtying, IsViaDirtying}
use Rattle.dirty_rules.specs.Dirty.{IsZoneDirtying}
use Rattle.fill_rules.specs.Tasks.{task_at}

-- the track
abbrev pub track_in : Board → Option Stamped → Option Track
track_in b None = None
track_in b (Some (things.Track n)) = slice_get b.tracks n
track_in b (Some (things.Via n)) = None
track_in b (Some (things.Zone n)) = None
track_in b (Some things.Other) = None

-- the via
abbrev pub via_in : Board → Option Stamped → Option Via
via_in b None = None
via_in b (Some (things.Track n)) = None
via_in b (Some (things.Via n)) = slice_get b.vias n
via_in b (Some (things.Zone n)) = None
via_in b (Some things.Other) = None

-- the number of the zone
abbrev pub zone_number_in : Option Stamped → Option ℕ
zone_number_in None = None
zone_number_in (Some (things.Track n)) = None
zone_number_in (Some (things.Via n)) = None
zone_number_in (Some (things.Zone n)) = Some n
zone_number_in (Some things.Other) = None

-- the track, where there is one, dirties the task of rank k
unfoldable pub IsDirtyingTrack : Board → Option Track → ℕ → Type 0
IsDirtyingTrack b o k = (track : Track) × (o ≡ Some track) × IsTrackDirtying b k track

-- the via does
unfoldable pub IsDirtyingVia : Board → Option Via → ℕ → Type 0
IsDirtyingVia b o k = (via : Via) × (o ≡ Some via) × IsViaDirtying b k via

-- a new priority or clearance of the zone of this number, where there is one, does
unfoldable pub IsDirtyingZone : Board → Board → Option ℕ → ℕ → Type 0
IsDirtyingZone b d o k = (n : ℕ) × (o ≡ Some n) × IsZoneDirtying b d n (task_at d k)

-- the track or via of the one board that this is dirties the task of rank k of the other
unfoldable pub IsDirtyingCopper : Board → Board → Option Stamped → ℕ → Type 0
IsDirtyingCopper b d o k = IsDirtyingTrack d (track_in b o) k ⊎ IsDirtyingVia d (via_in b o) k

-- the edit dirties it, by what has its stamp: on the new board where something comes, on the old one otherwise
unfoldable pub IsDirtyingNamed : Whole → Whole → Edit → ℕ → Type 0
IsDirtyingNamed old new (edits.Track from to width layer net stamp) k = IsDirtyingTrack new.board (track_in new.board (stamped new.stamps stamp)) k
IsDirtyingNamed old new (edits.Via at size drill top bottom net stamp) k = IsDirtyingVia new.board (via_in new.board (stamped new.stamps stamp)) k
IsDirtyingNamed old new (edits.Drop stamp) k = IsDirtyingCopper old.board new.board (stamped old.stamps stamp) k
IsDirtyingNamed old new (edits.Priority stamp value) k = IsDirtyingZone old.board new.board (zone_number_in (stamped old.stamps stamp)) k
IsDirtyingNamed old new (edits.Clearance stamp value) k = IsDirtyingZone old.board new.board (zone_number_in (stamped old.stamps stamp)) k
