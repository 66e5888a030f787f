-- What an accepted edit changes of a board: a track or via more or less, or one zone's priority or clearance. All else is the
-- same but for places in the file.
use Rattle.std.specs.Prelude.{◌≡◌, ◌⊎◌, ℕ, zero, suc, List, [], ◌∷◌, ◌++◌, map}
use Rattle.grid_num.specs.declared.Point.{Point}
use Rattle.board_text.specs.Layers.{layer_number, layers_between}
use Rattle.board_language.specs.declared.board.Track.{Track}
use Rattle.board_language.specs.declared.board.Via.{Via}
use Rattle.board_language.specs.declared.board.Zone.{Zone}
use Rattle.board_language.specs.declared.board.Rules.{Rules}
use Rattle.board_language.specs.Board.{Board}
use Rattle.fill_rules.specs.Dirty.{unlined}
use Rattle.fill_rules.specs.Edits.{unplaced, unplaced_via}
use Rattle.edit_language.specs.declared.edit.Edit.{Edit}
use Rattle.edit_language.specs.declared.edit.Edit.TheVariants as edits
use Rattle.dirty_rules.specs.Dirty.{HasTrack, HasVia, HasZone}
use Rattle.same_boards.specs.Alike.{unplaced_zone}

-- the list with the element of this number changed
abbrev pub changed_at : {X : Type 0} → ℕ → (X → X) → List X → List X
changed_at n f [] = []
changed_at zero f (x ∷ xs) = f x ∷ xs
changed_at (suc n) f (x ∷ xs) = x ∷ changed_at n f xs

-- the list without the element of this number
abbrev pub left_without : {X : Type 0} → ℕ → List X → List X
left_without n [] = []
left_without zero (x ∷ xs) = xs
left_without (suc n) (x ∷ xs) = x ∷ left_without n xs

-- ---- what stays

-- what is no track, via or zone is the same on both boards
pub record HaveSameRest (b d : Board) : Type 0 where
  pub layers : b.layers ≡ d.layers
  pub nets : b.nets ≡ d.nets
  pub pads : map unlined b.pads ≡ map unlined d.pads
  pub areas : b.areas ≡ d.areas
  pub edges : b.edges ≡ d.edges
  pub rules : b.rules ≡ d.rules

-- ---- tracks and vias that come

-- the track with these values, wherever it stands in the file, on a board with these layers
abbrev pub track_named : List (List ℕ) → Point → Point → ℕ → List ℕ → ℕ → Track
track_named layers from to width layer net =
    record { from = from; to = to; width = width; layer = layer_number layers layer; net = net; span = record { from = 0; to = 0 }; line = 0 }

-- the via with these values, on all layers from the one named to the other
abbrev pub via_named : List (List ℕ) → Point → ℕ → List ℕ → List ℕ → ℕ → Via
via_named layers at size top bottom net =
    record { at = at; size = size; layers = layers_between layers top bottom; net = net; span = record { from = 0; to = 0 }; line = 0 }

-- the track that has the stamp in the new text has the values named, and stands behind those of the old board
pub record IsTrackAdded (new : List ℕ) (rules : Rules) (stamp : List ℕ) (named : Track) (b d : Board) : Type 0 where
  pub track : Track
  pub is : HasTrack new rules stamp track
  pub is_named : unplaced track ≡ named
  pub tracks : map unplaced d.tracks ≡ map unplaced b.tracks ++ named ∷ []
  pub vias : map unplaced_via b.vias ≡ map unplaced_via d.vias
  pub zones : map unplaced_zone b.zones ≡ map unplaced_zone d.zones
  pub rest : HaveSameRest b d

-- and so does the via
pub record IsViaAdded (new : List ℕ) (rules : Rules) (stamp : List ℕ) (named : Via) (b d : Board) : Type 0 where
  pub via : Via
  pub is : HasVia new rules stamp via
  pub is_named : unplaced_via via ≡ named
  pub tracks : map unplaced b.tracks ≡ map unplaced d.tracks
  pub vias : map unplaced_via d.vias ≡ map unplaced_via b.vias ++ named ∷ []
  pub zones : map unplaced_zone b.zones ≡ map unplaced_zone d.zones
  pub rest : HaveSameRest b d

-- ---- tracks and vias that go

-- the track that has the stamp in the old text is gone
pub record IsTrackDropped (text : List ℕ) (rules : Rules) (stamp : List ℕ) (b d : Board) : Type 0 where
  pub track : Track
  pub is : HasTrack text rules stamp track
  pub tracks : map unplaced d.tracks ≡ left_without is.number (map unplaced b.tracks)
  pub vias : map unplaced_via b.vias ≡ map unplaced_via d.vias
  pub zones : map unplaced_zone b.zones ≡ map unplaced_zone d.zones
  pub rest : HaveSameRest b d

-- the via is
pub record IsViaDropped (text : List ℕ) (rules : Rules) (stamp : List ℕ) (b d : Board) : Type 0 where
  pub via : Via
  pub is : HasVia text rules stamp via
  pub tracks : map unplaced b.tracks ≡ map unplaced d.tracks
  pub vias : map unplaced_via d.vias ≡ left_without is.number (map unplaced_via b.vias)
  pub zones : map unplaced_zone b.zones ≡ map unplaced_zone d.zones
  pub rest : HaveSameRest b d

-- ---- a zone's priority and clearance

-- the zone with another priority
abbrev pub with_priority : ℕ → Zone → Zone
with_priority value z =
    record {
      outline = z.outline;
      layers = z.layers;
      net = z.net;
      priority = value;
      join = z.join;
      clearance = z.clearance;
      thickness = z.thickness;
      gap = z.gap;
      bridge = z.bridge;
      islands = z.islands;
      spans = z.spans;
      span = z.span;
      line = z.line;
    }

-- the zone with another clearance
abbrev pub with_clearance : ℕ → Zone → Zone
with_clearance value z =
    record {
      outline = z.outline;
      layers = z.layers;
      net = z.net;
      priority = z.priority;
      join = z.join;
      clearance = value;
      thickness = z.thickness;
      gap = z.gap;
      bridge = z.bridge;
      islands = z.islands;
      spans = z.spans;
      span = z.span;
      line = z.line;
    }

-- of the zone that has the stamp in the old text this is changed
pub record IsZoneChanged (text : List ℕ) (stamp : List ℕ) (change : Zone → Zone) (b d : Board) : Type 0 where
  pub number : ℕ
  pub is : HasZone text stamp number
  pub tracks : map unplaced b.tracks ≡ map unplaced d.tracks
  pub vias : map unplaced_via b.vias ≡ map unplaced_via d.vias
  pub zones : map unplaced_zone d.zones ≡ changed_at number change (map unplaced_zone b.zones)
  pub rest : HaveSameRest b d

-- ---- all edits

-- The edit, which makes the new text of the old one, leads from the one board to the other.
unfoldable pub IsChange : List ℕ → List ℕ → Rules → Edit → Board → Board → Type 0
IsChange text new rules (edits.Track from to width layer net stamp) b d = IsTrackAdded new rules stamp (track_named b.layers from to width layer net) b d
IsChange text new rules (edits.Via at size drill top bottom net stamp) b d = IsViaAdded new rules stamp (via_named b.layers at size top bottom net) b d
IsChange text new rules (edits.Drop stamp) b d = IsTrackDropped text rules stamp b d ⊎ IsViaDropped text rules stamp b d
IsChange text new rules (edits.Priority stamp value) b d = IsZoneChanged text stamp (with_priority value) b d
IsChange text new rules (edits.Clearance stamp value) b d = IsZoneChanged text stamp (with_clearance value) b d
