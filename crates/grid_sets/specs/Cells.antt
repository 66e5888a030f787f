-- The cells of bands, and what they cover with a brush.
use Rattle.std.specs.Prelude.{◌⊎◌, ℕ, List, [], ◌∷◌, ◌++◌, map, ℤ, pos, ◌+ℤ◌, ◌-ℤ◌}
use Rattle.plane.specs.Plane.{Bounds, PlanePoint, In, ball_of, IsInSum, moved}
use Rattle.grid_sets.specs.Rows.{Row, OnRows}
use Rattle.grid_sets.specs.Bands.{reach, Band}
use Rattle.grid_sets.specs.declared.Move.{Move}
use Rattle.grid_sets.specs.declared.Move.TheVariants.{Left, Still, Right}
use Rattle.grid_sets.specs.declared.Slant.{Slant}

-- the least place of an end over n more rows
abbrev pub leftmost : Move → ℕ → ℤ → ℤ
leftmost Left n a = a -ℤ pos n
leftmost Still n a = a
leftmost Right n a = a

-- the greatest
abbrev pub rightmost : Move → ℕ → ℤ → ℤ
rightmost Left n a = a
rightmost Still n a = a
rightmost Right n a = a +ℤ pos n

-- The octagon of one run through a row and n more rows below it. An end that moves lies along a slanted side.
abbrev pub cell_of : ℤ → ℕ → Slant → Bounds
cell_of top n s =
    record {
      x0 = leftmost s.from.go n s.from.place;
      x1 = rightmost s.to.go n s.to.place;
      y0 = top;
      y1 = top +ℤ pos n;
      s0 = s.from.place +ℤ top;
      s1 = reach n s.to +ℤ (top +ℤ pos n);
      d0 = reach n s.from -ℤ (top +ℤ pos n);
      d1 = s.to.place -ℤ top;
    }

-- band by band, and in each band run by run
abbrev pub cells_of : List Band → List Bounds
cells_of [] = []
cells_of (b ∷ bs) = map (cell_of b.top b.more) b.runs ++ cells_of bs

-- one of the octagons plus the brush has the point
abbrev pub OnBrushed : ℕ → List Bounds → PlanePoint → Type 0
OnBrushed b [] p = ⊥
OnBrushed b (c ∷ cs) p = IsInSum c (ball_of b) p ⊎ OnBrushed b cs p

-- the brush at some point of the rows has the point
unfoldable pub IsBrushedByRows : ℕ → List Row → PlanePoint → Type 0
IsBrushedByRows b rows p = (x : ℤ) × (y : ℤ) × OnRows rows x y × In (moved (ball_of b) x y) p
