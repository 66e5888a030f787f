-- The runs of octagons between two rows that they reach across.
use Rattle.std.specs.Prelude.{List, map, ℤ, ◌+ℤ◌, ◌-ℤ◌, ◌≤ℤ◌, int_lt, if◌then◌else◌}
use Rattle.plane.specs.Plane.{Bounds}
use Rattle.strips.specs.declared.Strip.{Strip}

-- the greatest of the three
unfoldable pub greatest : ℤ → ℤ → ℤ → ℤ
greatest a b c = if int_lt a b then (if int_lt b c then c else b) else (if int_lt a c then c else a)

-- the least of the three
unfoldable pub least : ℤ → ℤ → ℤ → ℤ
least a b c = if int_lt b a then (if int_lt c b then c else b) else (if int_lt c a then c else a)

-- where the octagon's row y begins: on its left side, or on one of the slanted sides above and below it
abbrev pub left_at : Bounds → ℤ → ℤ
left_at b y = greatest b.x0 (b.s0 -ℤ y) (b.d0 +ℤ y)

-- where it ends
abbrev pub right_at : Bounds → ℤ → ℤ
right_at b y = least b.x1 (b.s1 -ℤ y) (b.d1 +ℤ y)

-- what the octagon has between the rows t and u
abbrev pub run_at : Bounds → ℤ → ℤ → Strip
run_at b t u = record { top = t; bottom = u; left = left_at b t; left_end = left_at b u; right = right_at b t; right_end = right_at b u }

-- between the rows t and u there is nothing that ends or begins in b: it has points in all of them
abbrev pub ReachesAcross : Bounds → ℤ → ℤ → Type 0
ReachesAcross b t u = (b.y0 ≤ℤ t) × (u ≤ℤ b.y1)

-- what each of the octagons has between the rows
abbrev pub runs_of : List Bounds → ℤ → ℤ → List Strip
runs_of bs t u = map (λ b. run_at b t u) bs
