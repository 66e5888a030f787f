-- Tracks and vias that come or go, and which tasks that dirties directly.
use Rattle.std.specs.Prelude.{◌≡◌, ◌⊎◌, ℕ, ◌≤◌, true, List, map, length, get_or}
use Rattle.plane.specs.Plane.{Bounds, AreNear}
use Rattle.hulls.specs.Cells.{around}
use Rattle.classes.specs.Classes.{IsOneOf}
use Rattle.board_language.specs.declared.board.Track.{Track}
use Rattle.board_language.specs.declared.board.Via.{Via}
use Rattle.board_language.specs.declared.board.Zone.{Zone}
use Rattle.board_language.specs.Board.{Board}
use Rattle.board_language.specs.Copper.{has_layer, hulls_round}
use Rattle.fill_rules.specs.Tasks.{Settings, settings_of, no_zone, task_at, zone_at, layer_at}
use Rattle.fill_rules.specs.Needs.{item_need, track_copper, via_copper}
use Rattle.fill_rules.specs.Reach.{IsReaching}
use Rattle.fill_rules.specs.Dirty.{unlined, IsUntouched}

-- a track and a via, wherever they stand in the file
abbrev pub unplaced : Track → Track
unplaced t = record { from = t.from; to = t.to; width = t.width; layer = t.layer; net = t.net; span = record { from = 0; to = 0 }; line = 0 }

-- a via, wherever it stands in the file
abbrev pub unplaced_via : Via → Via
unplaced_via v = record { at = v.at; size = v.size; layers = v.layers; net = v.net; span = record { from = 0; to = 0 }; line = 0 }

-- what of a zone decides its tasks and their rank
pub record Placing : Type 0 where
  pub layers : ℕ
  pub priority : ℕ

-- what a zone says of where it ranks
abbrev pub placing : Zone → Placing
placing z = record { layers = z.layers; priority = z.priority }

-- what of a zone counts for its tasks and their fills
pub record Counting : Type 0 where
  pub settings : Settings
  pub layers : ℕ
  pub priority : ℕ

-- what a zone says that counts for fills
abbrev pub counting : Zone → Counting
counting z = record { settings = settings_of z; layers = z.layers; priority = z.priority }

-- each of the one list is, but for its place, one of the other or one of those that changed
abbrev pub AreAmong : {A : Type 0} → (A → A) → List A → List A → List A → Type 0
AreAmong {A} alike changed xs ys = (x : A) → IsOneOf x xs → IsOneOf (alike x) (map alike ys) ⊎ IsOneOf (alike x) (map alike changed)

-- the boards are the same but for places in the file, and for these tracks and vias, which one board may have and the
-- other not
pub record AreSameBut (b d : Board) (ts : List Track) (vs : List Via) : Type 0 where
  pub layers : length b.layers ≡ length d.layers
  pub tracks : AreAmong unplaced ts b.tracks d.tracks
  pub tracks_back : AreAmong unplaced ts d.tracks b.tracks
  pub vias : AreAmong unplaced_via vs b.vias d.vias
  pub vias_back : AreAmong unplaced_via vs d.vias b.vias
  pub pads : map unlined b.pads ≡ map unlined d.pads
  pub zones : map counting b.zones ≡ map counting d.zones
  pub areas : b.areas ≡ d.areas
  pub edges : b.edges ≡ d.edges
  pub rules : b.rules ≡ d.rules

-- a hull of the copper holds a point near, at the need, to a point of the frame of the task's outline, whatever the nets
abbrev pub IsBeside : Board → ℕ → List Bounds → Type 0
IsBeside b k hulls = (h : Bounds) × IsOneOf h hulls × AreNear (item_need b (zone_at b k) 0) (around (zone_at b k).outline) h

-- a track that comes or goes dirties the tasks on its layer that it comes near to
pub record IsTrackDirtying (b : Board) (k : ℕ) (t : Track) : Type 0 where
  pub layer : t.layer ≡ layer_at b k
  pub beside : IsBeside b k (hulls_round (track_copper t))

-- and a via those on one of its layers
pub record IsViaDirtying (b : Board) (k : ℕ) (v : Via) : Type 0 where
  pub layer : has_layer v.layers (layer_at b k) ≡ true
  pub beside : IsBeside b k (hulls_round (via_copper v))

-- a task that none of the tracks and vias that came or went dirties is untouched
abbrev pub DirectLaw : Type 0
DirectLaw =
    (b d : Board) (ts : List Track) (vs : List Via) → AreSameBut b d ts vs → 1 ≤ d.rules.floor → (k : ℕ)
    → ((t : Track) → IsOneOf t ts → IsTrackDirtying d k t → ⊥) → ((v : Via) → IsOneOf v vs → IsViaDirtying d k v → ⊥)
    → IsUntouched b d (λ (j : ℕ). j) k

-- the boards are the same but for places in the file, and for the settings of the zone of number n
pub record IsSameButZone (b d : Board) (n : ℕ) : Type 0 where
  pub layers : length b.layers ≡ length d.layers
  pub tracks : map unplaced b.tracks ≡ map unplaced d.tracks
  pub vias : map unplaced_via b.vias ≡ map unplaced_via d.vias
  pub pads : map unlined b.pads ≡ map unlined d.pads
  pub places : map placing b.zones ≡ map placing d.zones
  pub others : (m : ℕ) → (m ≡ n → ⊥) → settings_of (get_or b.zones m no_zone) ≡ settings_of (get_or d.zones m no_zone)
  pub areas : b.areas ≡ d.areas
  pub edges : b.edges ≡ d.edges
  pub rules : b.rules ≡ d.rules

-- a clearance that changes leaves each task untouched that isn't of the zone, and that no task of the zone reaches, on the
-- board before or after
abbrev pub SettingsLaw : Type 0
SettingsLaw =
    (b d : Board) (n : ℕ) → IsSameButZone b d n → 1 ≤ d.rules.floor → (k : ℕ) → ((task_at d k).zone ≡ n → ⊥)
    → ((j : ℕ) → (task_at d j).zone ≡ n → IsReaching b j k ⊎ IsReaching d j k → ⊥)
    → IsUntouched b d (λ (j : ℕ). j) k
