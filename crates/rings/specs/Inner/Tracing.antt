-- The loops and rings of boundary edges as a computation over lists: a plain program, quadratic in the edges. What it gives is right, as the
-- laws say; what is right is said elsewhere, without it.
use Rattle.std.specs.Prelude.{ℕ, ℤ, zero, suc, Bool, true, false, not, ◌&&◌, ◌||◌, nat_lt, int_lt, List, [], ◌∷◌, ◌++◌, length, map, if◌then◌else◌}
use Rattle.std.specs.List.{filter, list_all}
use Rattle.std.specs.Ordering.{int_eq}
use Rattle.grid_num.specs.declared.Point.{Point}
use Rattle.plane.specs.Covering.{Edge}
use Rattle.rings.specs.Turning.{direction, turn_to}
use Rattle.rings.specs.Walks.{Visit, visits, visit_corner, bends}
use Rattle.rings.specs.Loops.{Loop}
use Rattle.rings.specs.Rings.{holes_of, with_slits}

-- ---- tests
unfoldable pub is_same_point : Point → Point → Bool
is_same_point a b = int_eq a.x b.x && int_eq a.y b.y

-- both ends are
unfoldable pub is_same_edge : Edge → Edge → Bool
is_same_edge e f = is_same_point e.start f.start && is_same_point e.finish f.finish

-- the edge is in the list
unfoldable pub is_one_of : List Edge → Edge → Bool
is_one_of [] e = false
is_one_of (f ∷ fs) e = is_same_edge e f || is_one_of fs e

-- ---- the next edge: the one of the least turn of those that go out
pub record Best : Type 0 where
  pub turn : ℕ
  pub edge : Edge

-- the edge of the lesser turn, if it goes out where e ends
unfoldable pub better : Edge → Best → Edge → Best
better e b g =
    if is_same_point g.start e.finish && nat_lt (turn_to e (direction g)) b.turn
    then record { turn = turn_to e (direction g); edge = g }
    else b

-- over a list
unfoldable pub best_of : Edge → Best → List Edge → Best
best_of e b [] = b
best_of e b (g ∷ gs) = best_of e (better e b g) gs

-- the next edge after e; no turn is 9
unfoldable pub next_of : List Edge → Edge → Edge
next_of es e = (best_of e (record { turn = 9; edge = e }) es).edge

-- ---- a walk: from edge to next edge until the first one comes again, and by then at most as many as there are
unfoldable pub follow : ℕ → List Edge → Edge → Edge → List Edge
follow zero es a e = []
follow (suc k) es a e = if is_same_edge e a then [] else e ∷ follow k es a (next_of es e)

-- the walk that begins with a
unfoldable pub walk_of : List Edge → Edge → List Edge
walk_of es a = a ∷ follow (length es) es a (next_of es a)

-- ---- all walks: one after another from the first edge that is left
unfoldable pub walks_of : ℕ → List Edge → List Edge → List (List Edge)
walks_of zero es left = []
walks_of (suc k) es [] = []
walks_of (suc k) es (a ∷ left) = walk_of es a ∷ walks_of k es (filter (λ e. not (is_one_of (walk_of es a) e)) left)

-- ---- the order of corners and of lists of them
unfoldable pub is_less_point : Point → Point → Bool
is_less_point a b = int_lt a.y b.y || (int_eq a.y b.y && int_lt a.x b.x)

-- lists by their first corner that differs
unfoldable pub is_less_list : List Point → List Point → Bool
is_less_list cs [] = false
is_less_list [] (d ∷ ds) = true
is_less_list (c ∷ cs) (d ∷ ds) = is_less_point c d || (is_same_point c d && is_less_list cs ds)

-- ---- the contour of a walk: the least of the lists that begin at one of its bends
unfoldable pub lesser_list : List Point → List Point → List Point
lesser_list cs ds = if is_less_list cs ds then cs else ds

-- the least of the lists that begin with a corner of back
unfoldable pub least_from : List Point → List Point → List Point
least_from front [] = front
least_from front (b ∷ back) = lesser_list (b ∷ back ++ front) (least_from (front ++ b ∷ []) back)

-- the contour of a walk
unfoldable pub contour_of : List Edge → List Point
contour_of w = least_from [] (bends w)

-- ---- walks by their contours
pub record Drawing : Type 0 where
  pub walk : List Edge
  pub corners : List Point

-- the drawing is put where it belongs
unfoldable pub put_in_order : Drawing → List Drawing → List Drawing
put_in_order d [] = d ∷ []
put_in_order d (e ∷ ds) = if is_less_list d.corners e.corners then d ∷ e ∷ ds else e ∷ put_in_order d ds

-- the drawings of walks in their order
unfoldable pub in_corner_order : List (List Edge) → List Drawing
in_corner_order [] = []
in_corner_order (w ∷ ws) = put_in_order (record { walk = w; corners = contour_of w }) (in_corner_order ws)

-- all drawings of the edges
unfoldable pub drawings_of : List Edge → List Drawing
drawings_of es = in_corner_order (walks_of (length es) es es)

-- ---- loops
unfoldable pub is_open_left : List Edge → Visit → Bool
is_open_left w v =
    nat_lt (turn_to v.comes 4) (turn_to v.comes (direction v.goes)) && list_all (λ u. not (is_less_point (visit_corner u) (visit_corner v))) (visits w)

-- one of the visits passes
unfoldable pub some_visit : (Visit → Bool) → List Visit → Bool
some_visit p [] = false
some_visit p (v ∷ vs) = p v || some_visit p vs

-- the loop that is drawn
unfoldable pub loop_of : Drawing → Loop
loop_of d = record { corners = d.corners; hole = some_visit (is_open_left d.walk) (visits d.walk) }

-- all loops of the edges
unfoldable pub loops_by : List Edge → List Loop
loops_by es = map loop_of (drawings_of es)

-- ---- slits: to the greatest x on the left of the hole's first corner, of the corners in its row
pub record Reach : Type 0 where
  pub some : Bool
  pub x : ℤ

-- the farther one of what was reached and the start of e
unfoldable pub reach_more : Point → Reach → Edge → Reach
reach_more h r e =
    if (int_eq e.start.y h.y && int_lt e.start.x h.x) && (not r.some || int_lt r.x e.start.x)
    then record { some = true; x = e.start.x }
    else r

-- over all edges
unfoldable pub slit_reach : Point → Reach → List Edge → Reach
slit_reach h r [] = r
slit_reach h r (e ∷ es) = slit_reach h (reach_more h r e) es

-- the slit of the corner h
unfoldable pub slit_by : List Edge → Point → Edge
slit_by es h = record { start = h; finish = record { x = (slit_reach h (record { some = false; x = h.x }) es).x; y = h.y } }

-- the slits of holes
unfoldable pub slits_by : List Edge → List (List Point) → List Edge
slits_by es [] = []
slits_by es ([] ∷ holes) = slits_by es holes
slits_by es ((h ∷ cs) ∷ holes) = slit_by es h ∷ slits_by es holes

-- ---- rings
unfoldable pub rings_by : List Edge → List (List Point)
rings_by es = map (λ d. d.corners) (drawings_of (with_slits es (slits_by es (holes_of (loops_by es)))))
