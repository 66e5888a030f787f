-- The text of the board that is made of a seed, byte for byte.
use Rattle.std.specs.Prelude.{ℕ, zero, suc, ◌+◌, ◌*◌, ◌-◌, ◌/◌, ◌%◌, ◌^◌, ◌==◌, List, [], ◌++◌, pos, if◌then◌else◌}
use Rattle.std.specs.Fmt.{decimal}
use Rattle.grid_num.specs.Written.{mm_of}
use lib.Chars.{codes}

-- ---- draws

-- a linear congruential step
abbrev pub next : ℕ → ℕ
next s = (s * 6364136223846793005 + 1442695040888963407) % 2 ^ 64

-- the upper half of the state
abbrev pub drawn : ℕ → ℕ
drawn s = s / 2 ^ 33

-- the state after so many draws
abbrev pub state_after : ℕ → ℕ → ℕ
state_after s zero = s
state_after s (suc n) = state_after (next s) n

-- ---- a cell of 2 mm

-- its centre along the row or the column, moved by up to 0.2 mm to either side, in nanometres
abbrev pub place : ℕ → ℕ → ℕ
place cell moved = 2000000 * cell + 1000000 + 4000 * (moved % 101) - 50 * 4000

-- a point in millimetres
abbrev pub corner_in_mm : ℕ → ℕ → List ℕ
corner_in_mm x y = mm_of (pos x) ++ (codes " " ++ mm_of (pos y))

-- an item's stamp has the item's number
abbrev pub item_stamp_text : ℕ → List ℕ
item_stamp_text i = codes " (tstamp g" ++ (decimal i ++ codes "))\n")

-- the line of a via
abbrev pub via_text : List ℕ → ℕ → ℕ → ℕ → List ℕ
via_text net x y i =
    codes "  (via (at " ++ (corner_in_mm x y ++ (codes ") (size 0.6) (drill 0.3) (layers \"F.Cu\" \"B.Cu\") (net " ++ (net ++ (codes ")" ++ item_stamp_text i))))

-- from half a millimetre left of the place to half a millimetre right and a quarter below
abbrev pub track_text : ℕ → ℕ → ℕ → List ℕ
track_text x y i =
    codes "  (segment (start " ++ (corner_in_mm (x - 500000) y ++ (codes ") (end " ++ (corner_in_mm (x + 500000) (y + 250000) ++ (codes ") (width 0.25) (layer \"F.Cu\") (net 2)" ++ item_stamp_text i))))

-- a cell has a via of net 1, a via of net 2, a track of net 2 or nothing, by the drawn number
abbrev pub item_text : ℕ → ℕ → ℕ → ℕ → List ℕ
item_text r x y i =
    if r % 4 == 0 then via_text (codes "1") x y i
    else if r % 4 == 1 then via_text (codes "2") x y i
    else if r % 4 == 2 then track_text x y i
    else []

-- items are numbered from 1
abbrev pub number_behind : ℕ → ℕ → ℕ
number_behind r i = if r % 4 == 3 then i else suc i

-- the number of the next item, n cells further on
abbrev pub number_after_cells : ℕ → ℕ → ℕ → ℕ
number_after_cells s i zero = i
number_after_cells s i (suc n) = number_after_cells (next s) (number_behind (drawn (next s)) i) n

-- ---- rows of cells: one draw for each cell

-- the cells of a row from a column on, so many
abbrev pub row_text : ℕ → ℕ → ℕ → ℕ → ℕ → List ℕ
row_text row column s i zero = []
row_text row column s i (suc n) =
    item_text (drawn (next s)) (place column (drawn (next s) / 4)) (place row (drawn (next s) / 404)) i
    ++ row_text row (suc column) (next s) (number_behind (drawn (next s)) i) n

-- the rows from one on, so many
abbrev pub rows_text : ℕ → ℕ → ℕ → ℕ → ℕ → List ℕ
rows_text size row s i zero = []
rows_text size row s i (suc n) = row_text row 0 s i size ++ rows_text size (suc row) (state_after s size) (number_after_cells s i size) n

-- ---- the board

-- the head of the board, its layers and its nets
abbrev pub opening_lines : List ℕ
opening_lines = codes "(kicad_pcb (version 20221018) (generator zonefill)\n  (layers (0 \"F.Cu\" signal) (31 \"B.Cu\" signal))\n  (net 0 \"\")\n  (net 1 \"GND\")\n  (net 2 \"VCC\")\n"

-- the first line of the zone on the front
abbrev pub front_text : List ℕ
front_text = codes "  (zone (net 1) (net_name \"GND\") (layer \"F.Cu\") (tstamp zf) (hatch edge 0.5)\n"

-- the first line of the zone on the back
abbrev pub back_text : List ℕ
back_text = codes "  (zone (net 2) (net_name \"VCC\") (layer \"B.Cu\") (tstamp zb) (hatch edge 0.5)\n"

-- what both zones say of their fill, up to the first corner
abbrev pub settings_text : List ℕ
settings_text = codes "    (connect_pads (clearance 0.2))\n    (min_thickness 0.25)\n    (fill yes (thermal_gap 0.5) (thermal_bridge_width 0.5) (island_removal_mode 1))\n    (polygon (pts (xy 0 0) (xy "

-- the zones are as wide and high as all cells
abbrev pub corners_text : ℕ → List ℕ
corners_text size =
    mm_of (pos (2000000 * size)) ++ (codes " 0) (xy " ++ (corner_in_mm (2000000 * size) (2000000 * size) ++ (codes ") (xy 0 " ++ (mm_of (pos (2000000 * size)) ++ codes ")))\n  )\n"))))

-- a zone by its first line: the square of so many cells
abbrev pub zone_text : List ℕ → ℕ → List ℕ
zone_text line size = line ++ (settings_text ++ corners_text size)

-- the board of a seed and a size: its items row by row, and then its two zones
abbrev pub generated : ℕ → ℕ → List ℕ
generated seed size = opening_lines ++ (rows_text size 0 seed 1 size ++ ((zone_text front_text size ++ zone_text back_text size) ++ codes ")\n"))
