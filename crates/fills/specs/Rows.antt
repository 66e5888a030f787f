-- Rows worked by hand: the pieces of a few kept centres, in numbers.
use Rattle.std.specs.Prelude.{◌≡◌, List, [], ◌∷◌, map, pos, negsuc}
use Rattle.plane.specs.Plane.{Bounds}
use Rattle.grid_sets.specs.Rows.{Row, AreRows}
use Rattle.grid_sets.specs.Bands.{Band, AreBandsOf}
use Rattle.grid_sets.specs.Cells.{cells_of}
use Rattle.grid_sets.specs.declared.Move.TheVariants.{Left, Still}
use Rattle.fills.specs.Fills.{brushed}

--    y = 10      o o o o            x from 0 to 3
--    y = 11    o o o o o            x from -1 to 3: the left end moves by -1
--    y = 12        o o o   o o      x from 1 to 3 and from 5 to 6: two runs, so a new band
abbrev pub kept_rows : List Row
kept_rows =
    record { y = pos 10; runs = record { from = pos 0; to = pos 3 } ∷ [] }
    ∷ record { y = pos 11; runs = record { from = negsuc 0; to = pos 3 } ∷ [] }
    ∷ record { y = pos 12; runs = record { from = pos 1; to = pos 3 } ∷ record { from = pos 5; to = pos 6 } ∷ [] }
    ∷ []

-- the two bands of these rows
abbrev pub kept_bands : List Band
kept_bands =
    record { top = pos 10; more = 1; runs = record { from = record { place = pos 0; go = Left }; to = record { place = pos 3; go = Still } } ∷ [] }
    ∷ record {
      top = pos 12;
      more = 0;
      runs =
          record { from = record { place = pos 1; go = Still }; to = record { place = pos 3; go = Still } }
          ∷ record { from = record { place = pos 5; go = Still }; to = record { place = pos 6; go = Still } }
          ∷ [];
    }
    ∷ []

-- with the least brush, of 250 units, which reaches 354 along the diagonals
abbrev pub three_pieces : List Bounds
three_pieces =
    record { x0 = negsuc 250; x1 = pos 253; y0 = negsuc 239; y1 = pos 261; s0 = negsuc 343; s1 = pos 368; d0 = negsuc 365; d1 = pos 347 }
    ∷ record { x0 = negsuc 248; x1 = pos 253; y0 = negsuc 237; y1 = pos 262; s0 = negsuc 340; s1 = pos 369; d0 = negsuc 364; d1 = pos 345 }
    ∷ record { x0 = negsuc 244; x1 = pos 256; y0 = negsuc 237; y1 = pos 262; s0 = negsuc 336; s1 = pos 372; d0 = negsuc 360; d1 = pos 348 }
    ∷ []

-- the rows are grouped into these bands, and their cells plus the brush are these pieces
pub record PiecesRow : Type 0 where
  pub rows : AreRows kept_rows
  pub bands : AreBandsOf kept_rows kept_bands
  pub pieces : map (brushed 250) (cells_of kept_bands) ≡ three_pieces
