-- Strips that are cut at further rows.
--
--      ____________            ____________
--     /            \          /____________\    row of the cut
--    /______________\        /______________\
use Rattle.std.specs.Prelude.{ℤ, ◌+ℤ◌, ◌-ℤ◌, List, [], ◌∷◌, ◌++◌, int_lt, if◌then◌else◌}
use Rattle.std.specs.Ordering.{int_eq}
use Rattle.strips.specs.declared.Strip.{Strip}

-- where the side from l in the row t to le in the row u is in the row r
unfoldable pub side_at : ℤ → ℤ → ℤ → ℤ → ℤ → ℤ
side_at t u l le r = if int_eq le l then l else (if int_eq (le -ℤ l) (u -ℤ t) then l +ℤ (r -ℤ t) else l -ℤ (r -ℤ t))

-- the part of a strip above the row r, which is strictly between the strip's rows
abbrev pub upper_part : ℤ → Strip → Strip
upper_part r s = record {
  top = s.top;
  bottom = r;
  left = s.left;
  left_end = side_at s.top s.bottom s.left s.left_end r;
  right = s.right;
  right_end = side_at s.top s.bottom s.right s.right_end r;
}

-- and the part below it
abbrev pub lower_part : ℤ → Strip → Strip
lower_part r s = record {
  top = r;
  bottom = s.bottom;
  left = side_at s.top s.bottom s.left s.left_end r;
  left_end = s.left_end;
  right = side_at s.top s.bottom s.right s.right_end r;
  right_end = s.right_end;
}

-- what is above the row of a strip that begins above it
unfoldable pub upper : ℤ → Strip → Strip
upper r s = if int_lt r s.bottom then upper_part r s else s

-- what is below the row of a strip that ends below it
unfoldable pub lower : ℤ → Strip → Strip
lower r s = if int_lt s.top r then lower_part r s else s

-- what is above the row of all strips
unfoldable pub above : ℤ → List Strip → List Strip
above r [] = []
above r (s ∷ ss) = if int_lt s.top r then upper r s ∷ above r ss else above r ss

-- and what is below it
unfoldable pub below : ℤ → List Strip → List Strip
below r [] = []
below r (s ∷ ss) = if int_lt r s.bottom then lower r s ∷ below r ss else below r ss

-- the strips, cut at the row r
unfoldable pub cut : ℤ → List Strip → List Strip
cut r ss = above r ss ++ below r ss

-- the strips, cut at all these rows
unfoldable pub all_cut : List ℤ → List Strip → List Strip
all_cut [] ss = ss
all_cut (r ∷ rs) ss = all_cut rs (cut r ss)

-- the first and the last row of each strip
unfoldable pub strip_rows : List Strip → List ℤ
strip_rows [] = []
strip_rows (s ∷ ss) = s.top ∷ s.bottom ∷ strip_rows ss
