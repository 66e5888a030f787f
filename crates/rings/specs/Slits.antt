-- Slits, by which a hole's loop is joined to what lies around it, so that one ring goes along both.
use Rattle.std.specs.Prelude.{◌≡◌, Bool, ◌&&◌, ◌||◌, List, [], ◌∷◌, ◌++◌, ℤ, pos, ◌-ℤ◌, ◌*ℤ◌, ◌<ℤ◌, int_lt, Any, if◌then◌else◌}
use Rattle.std.specs.Ordering.{int_eq}
use Rattle.plane.specs.Plane.{PlanePoint, grid_point}
use Rattle.grid_num.specs.declared.Point.{Point}
use Rattle.plane.specs.Covering.{Edge, IsOn}

-- the slit of a loop: from its least corner, with which its list begins, to the left as far as the first point on any of
-- the boundary edges (not on another slit)
--
--    |         ___
--    |        /   \
--    |<------*    |      * the loop's least corner
--    |        \___/
pub record IsSlit (es : List Edge) (corners : List Point) (s : Edge) : Type 0 where
  pub others : List Point
  pub from : corners ≡ s.start ∷ others
  pub level : s.finish.y ≡ s.start.y
  pub left : s.finish.x <ℤ s.start.x
  pub stops : Any (λ e. IsOn e (grid_point s.finish.x s.finish.y)) es
  pub first : (p : PlanePoint) → p.y ≡ pos p.scale *ℤ s.start.y → (pos p.scale *ℤ s.finish.x) <ℤ p.x → p.x <ℤ (pos p.scale *ℤ s.start.x)
      → Any (λ e. IsOn e p) es → ⊥

-- whether z is strictly between a and b
abbrev pub is_strictly_between : ℤ → ℤ → ℤ → Bool
is_strictly_between a z b = (int_lt a z && int_lt z b) || (int_lt b z && int_lt z a)

-- whether q is on the edge, and neither of its ends
unfoldable pub is_inside_edge : Edge → Point → Bool
is_inside_edge e q =
    int_eq ((e.finish.y -ℤ e.start.y) *ℤ (q.x -ℤ e.start.x)) ((e.finish.x -ℤ e.start.x) *ℤ (q.y -ℤ e.start.y))
    && (is_strictly_between e.start.y q.y e.finish.y || (int_eq e.start.y e.finish.y && (int_eq q.y e.start.y && is_strictly_between e.start.x q.x e.finish.x)))

-- the two parts of an edge that is cut at q
abbrev pub first_part : Edge → Point → Edge
first_part e q = record { start = e.start; finish = q }

-- from q on
abbrev pub second_part : Edge → Point → Edge
second_part e q = record { start = q; finish = e.finish }

-- the edge, or its two parts where q is inside
unfoldable pub cut_one : Point → Edge → List Edge
cut_one q e = if is_inside_edge e q then first_part e q ∷ second_part e q ∷ [] else e ∷ []

-- the edges, cut at q
unfoldable pub cut_edges : Point → List Edge → List Edge
cut_edges q [] = []
cut_edges q (e ∷ es) = cut_one q e ++ cut_edges q es

-- the edges, cut where slits end
unfoldable pub cut_by : List Edge → List Edge → List Edge
cut_by [] es = es
cut_by (s ∷ slits) es = cut_by slits (cut_edges s.finish es)
