-- The boundary edges of a sheet of copper that is given by its strips. Each is directed so that copper lies on its right,
-- seen on the screen: an edge to the right has copper below it, an edge upward has copper to the right of it.
use Rattle.std.specs.Prelude.{◌≡◌, ◌⊎◌, List, [], ◌∷◌, ◌++◌, pos, ◌*ℤ◌, ◌<ℤ◌, Any, All, AllPairs, Contains}
use Rattle.plane.specs.Plane.{PlanePoint}
use Rattle.grid_num.specs.declared.Point.{Point}
use Rattle.plane.specs.Covering.{Edge}
use Rattle.strips.specs.declared.Strip.{Strip}
use Rattle.strips.specs.Strips.{IsInStrip}

-- the left side of a strip, from its last row up to its first, and its right side, down
abbrev pub left_edge : Strip → Edge
left_edge s = record { start = record { x = s.left_end; y = s.bottom }; finish = record { x = s.left; y = s.top } }

-- from its first row down to its last
abbrev pub right_edge : Strip → Edge
right_edge s = record { start = record { x = s.right; y = s.top }; finish = record { x = s.right_end; y = s.bottom } }

-- both sides of all strips
unfoldable pub side_edges : List Strip → List Edge
side_edges [] = []
side_edges (s ∷ ss) = left_edge s ∷ right_edge s ∷ side_edges ss

-- a corner: an end of a side
unfoldable pub IsCorner : List Strip → Point → Type 0
IsCorner ss a = Any (λ e. (a ≡ e.start) ⊎ (a ≡ e.finish)) (side_edges ss)

-- there is copper right above p: p is in the last row of a strip
unfoldable pub HasCopperAbove : List Strip → PlanePoint → Type 0
HasCopperAbove ss p = Any (λ s. IsInStrip s p × (p.y ≡ pos p.scale *ℤ s.bottom)) ss

-- there is copper right below p: p is in the first row of a strip
unfoldable pub HasCopperBelow : List Strip → PlanePoint → Type 0
HasCopperBelow ss p = Any (λ s. IsInStrip s p × (p.y ≡ pos p.scale *ℤ s.top)) ss

-- p is on the level line through a, strictly between a and b (of which a is on the left)
pub record IsStrictlyFrom (a b : Point) (p : PlanePoint) : Type 0 where
  pub row : p.y ≡ pos p.scale *ℤ a.y
  pub after : (pos p.scale *ℤ a.x) <ℤ p.x
  pub before : p.x <ℤ (pos p.scale *ℤ b.x)

-- a and b are neighbouring corners of one row, a on the left
pub record AreNeighbours (ss : List Strip) (a b : Point) : Type 0 where
  pub first : IsCorner ss a
  pub second : IsCorner ss b
  pub level : a.y ≡ b.y
  pub rising : a.x <ℤ b.x
  pub next : (c : Point) → IsCorner ss c → c.y ≡ a.y → a.x <ℤ c.x → c.x <ℤ b.x → ⊥

-- a level part of the boundary: between neighbouring corners there is copper just below and none above (then it goes to
-- the right), or just above and none below (then it goes to the left)
unfoldable pub IsLevelPart : List Strip → Edge → Type 0
IsLevelPart ss e =
    (AreNeighbours ss e.start e.finish × ((p : PlanePoint) → IsStrictlyFrom e.start e.finish p → HasCopperBelow ss p × (HasCopperAbove ss p → ⊥)))
    ⊎ (AreNeighbours ss e.finish e.start × ((p : PlanePoint) → IsStrictlyFrom e.finish e.start p → HasCopperAbove ss p × (HasCopperBelow ss p → ⊥)))

-- the level parts, each once
pub record AreLevelParts (ss : List Strip) (parts : List Edge) : Type 0 where
  pub each : All (IsLevelPart ss) parts
  pub whole : (e : Edge) → IsLevelPart ss e → Contains parts e
  pub once : AllPairs (λ e f. e ≡ f → ⊥) parts

-- the boundary edges: the sides of the strips, and the level parts
pub record AreBoundary (ss : List Strip) (es : List Edge) : Type 0 where
  pub parts : List Edge
  pub level : AreLevelParts ss parts
  pub all : es ≡ side_edges ss ++ parts
