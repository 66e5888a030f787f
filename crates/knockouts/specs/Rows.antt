-- A row worked by hand: what bars copper of a task comes first, and the gaps last.
use Rattle.std.specs.Prelude.{◌≡◌, pos, [], ◌∷◌}
use Rattle.plane.specs.Plane.{ball_of, box_of}
use Rattle.fill_rules.specs.Rows.{three_zones}
use Rattle.knockouts.specs.Obstacles.{needs_of}

-- On the board of `three_zones`, below a fill of one piece, a ball of 0.125 mm: the zone of net 1 keeps away from the piece by
-- 0.2 mm, which is the clearance of both zones, and then its brush's centres from the pad of its net by the gap of 0.5 mm.
abbrev pub NeedsRow : Type 0
NeedsRow =
    needs_of three_zones (record { zone = 0; layer = 0 })
    (record { task = record { zone = 2; layer = 0 }; pieces = ball_of 62500 ∷ []; spokes = 0; parts = 0 ∷ [] } ∷ [])
    ≡ record { oct = ball_of 62500; need = 100000 }
    ∷ record { oct = box_of (pos 2250000) (pos 2750000) (pos 2250000) (pos 2750000); need = 250000 }
    ∷ []
