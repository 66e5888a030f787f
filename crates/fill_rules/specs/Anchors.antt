-- What holds an island in place.
use Rattle.std.specs.Prelude.{ℕ, Bool, true, false, not, ◌&&◌, ◌==◌, List, [], ◌∷◌, ◌++◌, flat_map}
use Rattle.copper_shape.specs.Shapes.{Copper}
use Rattle.board_language.specs.declared.board.Track.{Track}
use Rattle.board_language.specs.declared.board.Via.{Via}
use Rattle.board_language.specs.declared.board.Pad.{Pad}
use Rattle.board_language.specs.Board.{Board}
use Rattle.board_language.specs.Copper.{has_layer}
use Rattle.fill_rules.specs.Tasks.{Settings}
use Rattle.fill_rules.specs.Needs.{Role, Foreign, Relieved, Joined, Unjoined, role, is_on, track_copper, via_copper, keep_when}

-- whether the pad's copper is joined all round, so that it anchors
abbrev pub is_joined : Role → Bool
is_joined Joined = true
is_joined Foreign = false
is_joined Relieved = false
is_joined Unjoined = false

-- a pad on the layer that is joined all round anchors by its shape
abbrev pub pad_anchors : Settings → ℕ → Pad → List Copper
pad_anchors z l p = keep_when (is_on l p && is_joined (role z p)) (p.shape ∷ [])

-- a via of the zone's net that has copper on the layer anchors
abbrev pub via_anchors : Settings → ℕ → Via → List Copper
via_anchors z l v = keep_when (has_layer v.layers l && (v.net == z.net)) (via_copper v ∷ [])

-- and a track of its net on the layer
abbrev pub track_anchors : Settings → ℕ → Track → List Copper
track_anchors z l t = keep_when ((t.layer == l) && (t.net == z.net)) (track_copper t ∷ [])

-- copper of the zone's net on the layer that anchors an island it touches: solid pads, vias and tracks; a zone without a
-- net has none
unfoldable pub anchors_of : Board → Settings → ℕ → List Copper
anchors_of b z l =
    keep_when (not (z.net == 0)) (flat_map (pad_anchors z l) b.pads ++ (flat_map (via_anchors z l) b.vias ++ flat_map (track_anchors z l) b.tracks))
