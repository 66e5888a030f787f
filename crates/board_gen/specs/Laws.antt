-- What the first draws are.
use Rattle.std.specs.Prelude.{◌≡◌, []}
use Rattle.board_gen.specs.Generated.{next, drawn, place, rows_text}

-- what is drawn first of the seed 0, and how far from the middle of a cell its item may stand
pub record DrawLaw : Type 0 where
  -- of the seed 0
  pub first : drawn (next 0) ≡ 167951807
  -- so a board of one cell has no item
  pub none : rows_text 1 0 0 1 1 ≡ []
  -- the centre of the third cell from 0, as it is moved least and most
  pub least : place 2 0 ≡ 4800000
  pub most : place 2 100 ≡ 5200000
