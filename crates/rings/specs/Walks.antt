-- Walks along edges, from corner to corner until they close, and the contours that they draw.
use Rattle.std.specs.Prelude.{◌≡◌, ◌⊎◌, Bool, not, nat_eq, List, [], ◌∷◌, ◌++◌, map, ◌<ℤ◌, AllPairs}
use Rattle.std.specs.List.{All, AllZip, filter}
use Rattle.std.specs.List.Sorted.{IsPermutation}
use Rattle.grid_num.specs.declared.Point.{Point}
use Rattle.plane.specs.Covering.{Edge}
use Rattle.rings.specs.Turning.{direction, IsNextEdge}

-- what happens at a corner of a walk: the edge by which one comes, and the edge by which one goes on
pub record Visit : Type 0 where
  pub comes : Edge
  pub goes : Edge

-- the last of a walk that begins with a
unfoldable pub last_of : Edge → List Edge → Edge
last_of a [] = a
last_of a (b ∷ bs) = last_of b bs

-- the visits of a walk behind the edge a
unfoldable pub visits_after : Edge → List Edge → List Visit
visits_after a [] = []
visits_after a (b ∷ bs) = record { comes = a; goes = b } ∷ visits_after b bs

-- the visits of a closed walk: at the start of each edge, where one comes by the edge before it, and by the last edge
-- where it is the first
unfoldable pub visits : List Edge → List Visit
visits [] = []
visits (a ∷ bs) = visits_after (last_of a bs) (a ∷ bs)

-- an orbit of the rule: some edges, where each is followed by its next edge and the last by the first
pub record IsWalk (es w : List Edge) : Type 0 where
  pub some : w ≡ [] → ⊥
  pub next : All (λ v. IsNextEdge es v.comes v.goes) (visits w)

-- the corner of a visit
abbrev pub visit_corner : Visit → Point
visit_corner v = v.goes.start

-- whether the direction changes there
unfoldable pub is_bend : Visit → Bool
is_bend v = not (nat_eq (direction v.comes) (direction v.goes))

-- the corners of a walk, without those at which the direction doesn't change
unfoldable pub bends : List Edge → List Point
bends w = map visit_corner (filter is_bend (visits w))

-- the same corners around, begun at another one
pub record IsSameRound {X : Type 0} (old new : List X) : Type 0 where
  pub front : List X
  pub back : List X
  pub was : old ≡ front ++ back
  pub is : new ≡ back ++ front

-- corners are ordered by y, and then by x
unfoldable pub IsLess : Point → Point → Type 0
IsLess a b = (a.y <ℤ b.y) ⊎ ((a.y ≡ b.y) × (a.x <ℤ b.x))

-- lists of corners by the first corner in which they differ; a shorter list before those that go on after it
unfoldable pub IsListLess : List Point → List Point → Type 0
IsListLess cs [] = ⊥
IsListLess [] (d ∷ ds) = Unit {0}
IsListLess (c ∷ cs) (d ∷ ds) = IsLess c d ⊎ ((c ≡ d) × IsListLess cs ds)

-- the contour that a walk draws: its corners without those that are passed straight, begun at the least corner; where
-- that occurs twice, so that the list is least
pub record IsContour (w : List Edge) (corners : List Point) : Type 0 where
  pub round : IsSameRound (bends w) corners
  pub least : (others : List Point) → IsSameRound corners others → IsListLess others corners → ⊥

-- the edges of all walks together
abbrev pub joined_walks : List (List Edge) → List Edge
joined_walks [] = []
joined_walks (w ∷ ws) = w ++ joined_walks ws

-- the walks use each of the edges once, and these are their contours, by their first corners and then by their lists
pub record AreContours (es : List Edge) (walks : List (List Edge)) (contours : List (List Point)) : Type 0 where
  pub once : IsPermutation (joined_walks walks) es
  pub next : All (IsWalk es) walks
  pub draw : AllZip IsContour walks contours
  pub order : AllPairs IsListLess contours
