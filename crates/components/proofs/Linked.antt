-- Centres that are linked by brushes, and the parts of the pieces of their cells: over any list of tight cells.
use Rattle.std.proofs.Common.{◌≡◌, sym, subst, ℕ, zero, suc, ◌≤◌, List, arith}
use Rattle.std.specs.Prelude.{map, slice_get, Some}
use Rattle.std.specs.List.{All}
use Rattle.plane.specs.Plane.{Bounds, Within, IsTight, IsMeeting}
use Rattle.grid_num.specs.declared.Point.{Point}
use Rattle.classes.specs.Classes.{Chain, Reaches}
use Rattle.classes.proofs.Reaching.{reaches_then, reaches_step, reaches_link, reaches_map}
use Rattle.grid_sets.specs.Points.{HasPoint}
use Rattle.islands.specs.Parts.{IsMeetingAt, IsOnePart}
use Rattle.open_laws.specs.Open.{IsLinkedIn}
use Rattle.open_laws.proofs.Cell.{cell_linked}
use Rattle.fills.specs.Fills.{brushed}
use Rattle.components.specs.Cells.{IsInCell}
use Rattle.components.proofs.Places.{at_in, one_at, map_at, at_map, has_in, in_has}
use Rattle.components.proofs.Brushes.{laid, brush_meets, pieces_meet, AreBrushesMeeting, brushes_meet}

-- both are points of the cells, and the brush at the one meets the brush at the other
pub record IsJoint (r : ℕ) (cells : List Bounds) (c d : Point) : Type 0 where
  pub first : HasPoint cells c.x c.y
  pub second : HasPoint cells d.x d.y
  pub meet : IsMeeting (laid r c) (laid r d)

module _ (r : ℕ) (cells : List Bounds) where
  joint_pieces : (c d : Point) (j k : ℕ) → IsInCell cells j c → IsInCell cells k d → IsMeeting (laid r c) (laid r d)
      → IsMeetingAt (map (brushed r) cells) j k
  joint_pieces c d j k h g m = record {
    first = brushed r h.cell;
    second = brushed r g.cell;
    at_first = map_at (brushed r) cells j h.cell h.there;
    at_second = map_at (brushed r) cells k g.cell g.there;
    meet = pieces_meet r h.cell g.cell c d h.within g.within m;
  }

  chain_pieces : (n : ℕ) (c d : Point) (j k : ℕ) → IsInCell cells j c → IsInCell cells k d → Chain (IsJoint r cells) n c d
      → IsOnePart (map (brushed r) cells) j k
  unfolding Chain
  chain_pieces zero c d j k h g e =
      reaches_link (IsMeetingAt (map (brushed r) cells)) j k (joint_pieces c c j k h (subst (λ x. IsInCell cells k x) (sym e) g) (brush_meets r c))
  chain_pieces (suc n) c d j k h g (m, l, t) =
      let w = has_in cells m.x m.y l.second in
      reaches_step (IsMeetingAt (map (brushed r) cells)) j w.0 k (joint_pieces c m j w.0 h w.1 l.meet) (chain_pieces n m d w.0 k w.1 g t)

  pub joint_parts : (c d : Point) (j k : ℕ) → IsInCell cells j c → IsInCell cells k d → Reaches (IsJoint r cells) c d
      → IsOnePart (map (brushed r) cells) j k
  unfolding Reaches
  joint_parts c d j k h g (n, t) = chain_pieces n c d j k h g t

module _ (r : ℕ) (cells : List Bounds) (wide : 10 ≤ r) (tight : All IsTight cells) where
  -- within a cell all points are linked
  in_cell : (k : ℕ) (o : Bounds) (c d : Point) → slice_get cells k ≡ Some o → Within o c.x c.y → Within o d.x d.y → Reaches (IsJoint r cells) c d
  in_cell k o c d e w v =
      reaches_map (IsLinkedIn r o) (IsJoint r cells) (λ x y l. record {
        first = in_has cells k x (record { cell = o; there = e; within = l.first });
        second = in_has cells k y (record { cell = o; there = e; within = l.second });
        meet = l.meet;
      }) c d (cell_linked r o c d (omega (arith, wide)) w v)

  -- where a piece meets another, so do the brushes at some points of their cells
  across : (j k : ℕ) → IsMeetingAt (map (brushed r) cells) j k
      → (o : Bounds) × (u : Bounds) × (slice_get cells j ≡ Some o) × (slice_get cells k ≡ Some u) × AreBrushesMeeting r o u
  across j k l =
      let a = at_map (brushed r) cells j l.first l.at_first in
      let b = at_map (brushed r) cells k l.second l.at_second in (
        a.0,
        b.0,
        a.1,
        b.1,
        brushes_meet r a.0 b.0 wide (at_in IsTight cells j a.0 tight a.1) (at_in IsTight cells k b.0 tight b.1)
            (subst (λ x. IsMeeting x (brushed r b.0)) a.2 (subst (λ x. IsMeeting l.first x) b.2 l.meet)),
      )

  chain_joint : (n : ℕ) (c d : Point) (j k : ℕ) → IsInCell cells j c → IsInCell cells k d → Chain (IsMeetingAt (map (brushed r) cells)) n j k
      → Reaches (IsJoint r cells) c d
  unfolding Chain
  chain_joint zero c d j k h g e =
      let same = one_at cells j g.cell h.cell (subst (λ x. slice_get cells x ≡ Some g.cell) (sym e) g.there) h.there in
      in_cell j h.cell c d h.there h.within (subst (λ u. Within u d.x d.y) same g.within)
  chain_joint (suc n) c d j k h g (m, l, t) =
      let a = across j m l in
      let same = one_at cells j h.cell a.0 h.there a.2 in
      let s = a.4 in
      reaches_then (IsJoint r cells) c s.from d (in_cell j a.0 c s.from a.2 (subst (λ u. Within u c.x c.y) same h.within) s.in_from)
      (reaches_step (IsJoint r cells) s.from s.to d
      (record {
        first = in_has cells j s.from (record { cell = a.0; there = a.2; within = s.in_from });
        second = in_has cells m s.to (record { cell = a.1; there = a.3; within = s.in_to });
        meet = s.meet;
      })
      (chain_joint n s.to d m k (record { cell = a.1; there = a.3; within = s.in_to }) g t))

  pub parts_joint : (c d : Point) (j k : ℕ) → IsInCell cells j c → IsInCell cells k d → IsOnePart (map (brushed r) cells) j k
      → Reaches (IsJoint r cells) c d
  unfolding Reaches
  parts_joint c d j k h g (n, t) = chain_joint n c d j k h g t
