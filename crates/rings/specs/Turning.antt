-- The directions of edges, and the rule by which one goes on at a corner. x grows to the right and y downward, and each
-- edge is level, upright or slanted by 45 degrees.
use Rattle.std.specs.Prelude.{◌≡◌, ℕ, ◌+◌, ◌-◌, ◌%◌, ◌≤◌, List, int_lt, if◌then◌else◌, Contains}
use Rattle.plane.specs.Covering.{Edge}

-- the direction of an edge in eighths of a turn, counterclockwise on the screen from due right
--
--        3   2   1
--          \ | /
--        4 --+-- 0
--          / | \
--        5   6   7
unfoldable pub direction : Edge → ℕ
direction e =
    if int_lt e.start.x e.finish.x
    then (if int_lt e.finish.y e.start.y then 1 else (if int_lt e.start.y e.finish.y then 7 else 0))
    else
    (if int_lt e.finish.x e.start.x
    then (if int_lt e.finish.y e.start.y then 3 else (if int_lt e.start.y e.finish.y then 5 else 4))
    else (if int_lt e.finish.y e.start.y then 2 else 6))

-- how far one turns counterclockwise at the end of e, from the way back, until one looks in direction d: 1 to 8 eighths,
-- straight back being 8 (the way back is direction e + 4, and 11 is 16 - 4 - 1)
unfoldable pub turn_to : Edge → ℕ → ℕ
turn_to e d = (d + 11 - direction e) % 8 + 1

-- f is the next edge after e: of those that go out where e ends, the one that is met first when one turns so
pub record IsNextEdge (es : List Edge) (e f : Edge) : Type 0 where
  pub one : Contains es f
  pub joins : f.start ≡ e.finish
  pub first : (g : Edge) → Contains es g → g.start ≡ e.finish → turn_to e (direction f) ≤ turn_to e (direction g)
