-- How a ring is written: a `filled_polygon` of the zone, with its layer and its corners.
--
--         (filled_polygon
--           (layer "F.Cu")
--           (pts
--             (xy 0.073222 0)
--           )
--         )
use Rattle.std.specs.Prelude.{ℕ, ◌==◌, ◌||◌, List, [], ◌∷◌, ◌++◌, if◌then◌else◌}
use Rattle.std.specs.List.{flat_map}
use lib.Chars.{codes}
use Rattle.grid_num.specs.declared.Point.{Point}
use Rattle.grid_num.specs.Written.{mm_of}

-- a name between quotes, with a backslash before each quote and each backslash
abbrev pub quoted : List ℕ → List ℕ
quoted [] = []
quoted (c ∷ cs) = if c == 34 || c == 92 then 92 ∷ c ∷ quoted cs else c ∷ quoted cs

-- a corner in millimetres, on a line of its own
abbrev pub corner_text : Point → List ℕ
corner_text corner = codes "\n        (xy " ++ (mm_of corner.x ++ (codes " " ++ (mm_of corner.y ++ codes ")")))

-- a ring on a layer, from a line feed on; the last line has none at its end
abbrev pub ring_text : List ℕ → List Point → List ℕ
ring_text layer corners =
    codes "\n    (filled_polygon\n      (layer \"" ++ (quoted layer ++ (codes "\")\n      (pts" ++ (flat_map corner_text corners ++ codes "\n      )\n    )")))
