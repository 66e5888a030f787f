-- The rows of the crossings of two octagons, as the code finds them: each pair of sides of two slanting directions, or of an upright
-- and a slanting one, meets in one place, and the row counts where this place is on both octagons. (Level sides cross nothing
-- but in their own rows, which are rows of corners.) Octagons are in units of 2 nm here, places and rows in nanometres.
use Rattle.std.specs.Prelude.{List, [], ◌∷◌, ◌++◌, ℤ, pos, ◌+ℤ◌, ◌-ℤ◌, ◌*ℤ◌, Bool, int_lt, int_le, ◌&&◌, if◌then◌else◌}
use Rattle.plane.specs.Plane.{Bounds}

-- whether a value is between twice a lower bound and twice an upper one
abbrev pub is_within_twice : ℤ → ℤ → ℤ → Bool
is_within_twice low v high = int_le (pos 2 *ℤ low) v && int_le v (pos 2 *ℤ high)

-- whether the place (x, y) is on the octagon
unfoldable pub is_on_oct : Bounds → ℤ → ℤ → Bool
is_on_oct b x y = is_within_twice b.x0 x b.x1 && (is_within_twice b.y0 y b.y1 && (is_within_twice b.s0 (x +ℤ y) b.s1 && is_within_twice b.d0 (x -ℤ y) b.d1))

-- the row of the place, if it is on both
unfoldable pub met : Bounds → Bounds → ℤ → ℤ → List ℤ
met a b x y = if is_on_oct a x y then (if is_on_oct b x y then y ∷ [] else []) else []

-- an upright side at x and a rising side at d
abbrev pub on_rising : Bounds → Bounds → ℤ → ℤ → List ℤ
on_rising a b x d = met a b (pos 2 *ℤ x) (pos 2 *ℤ x -ℤ pos 2 *ℤ d)

-- an upright side at x and a falling side at s
abbrev pub on_falling : Bounds → Bounds → ℤ → ℤ → List ℤ
on_falling a b x s = met a b (pos 2 *ℤ x) (pos 2 *ℤ s -ℤ pos 2 *ℤ x)

-- a rising side at d and a falling side at s
abbrev pub on_slants : Bounds → Bounds → ℤ → ℤ → List ℤ
on_slants a b d s = met a b (s +ℤ d) (s -ℤ d)

-- an upright side of a at x, with the slanting sides of b
unfoldable pub upright_rows : Bounds → Bounds → ℤ → List ℤ
upright_rows a b x = on_rising a b x b.d0 ++ on_rising a b x b.d1 ++ on_falling a b x b.s0 ++ on_falling a b x b.s1

-- a rising side of a at d, with the falling sides of b
unfoldable pub rising_rows : Bounds → Bounds → ℤ → List ℤ
rising_rows a b d = on_slants a b d b.s0 ++ on_slants a b d b.s1

-- the upright and the rising sides of a, with the sides of b of the directions that come after theirs
unfoldable pub half_rows : Bounds → Bounds → List ℤ
half_rows a b = upright_rows a b a.x0 ++ upright_rows a b a.x1 ++ rising_rows a b a.d0 ++ rising_rows a b a.d1

-- all crossings of the two; none, where one is on the left of the other
unfoldable pub crossing_rows : Bounds → Bounds → List ℤ
crossing_rows a b = if int_lt a.x1 b.x0 then [] else (if int_lt b.x1 a.x0 then [] else half_rows a b ++ half_rows b a)

-- a with octagons that begin no higher than it, from the top, until one begins below it
unfoldable pub later_rows : Bounds → List Bounds → List ℤ
later_rows a [] = []
later_rows a (b ∷ bs) = if int_lt a.y1 b.y0 then [] else crossing_rows a b ++ later_rows a bs

-- the rows of the corners of a, and of its crossings with later ones
unfoldable pub cut_rows_of : Bounds → List Bounds → List ℤ
cut_rows_of a bs = ((pos 2 *ℤ a.y0) ∷ (pos 2 *ℤ a.y1) ∷ []) ++ half_rows a a ++ later_rows a bs

-- the rows of all, from the top
unfoldable pub all_rows : List Bounds → List ℤ
all_rows [] = []
all_rows (a ∷ bs) = cut_rows_of a bs ++ all_rows bs
