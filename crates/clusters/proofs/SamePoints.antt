-- The shapes that stand for a node's copper have its points.
use Rattle.std.proofs.Common.{◌≡◌, refl, sym, ◌∙◌, ap, subst, ℕ, ◌*◌, ◌<◌, arith, inl, inr, mul_comm, List, [], length, map, get_or}
use Rattle.std.specs.Prelude.{◌↔◌, slice_get, Option, ℤ, pos, ◌*ℤ◌}
use Rattle.std.specs.List.{All}
use Rattle.std.proofs.lemmas.Int.{ints}
use Rattle.std.proofs.lemmas.Option.{slice_get_cases}
use Rattle.plane.specs.Plane.{PlanePoint, Bounds, In, times}
use Rattle.plane.proofs.Points.{mul_mul}
use Rattle.touching.specs.Core.{InCore, InCopper, area}
use Rattle.hulls.specs.Hulls.{in_units}
use Rattle.copper_shape.specs.Shapes.{Copper}
use Rattle.islands.specs.Held.{IsAnchorInRoom}
use Rattle.board_language.specs.Board.{Board}
use Rattle.board_language.specs.Facts.{IsSoundBoard}
use Rattle.board_language.proofs.Members.{one_of_map, map_one_of}
use Rattle.fill_rules.specs.Tasks.{task_at}
use Rattle.fill_rules.specs.Made.{Made, no_fill}
use Rattle.fill_rules.specs.Clusters.{option_list, labelled, part_pieces, octagon_copper, shapes_of}
use Rattle.fills.specs.Fills.{AreBoardFills}
use Rattle.clusters.specs.declared.Node.{Node}
use Rattle.clusters.specs.declared.Node.TheVariants.{Pad, Track, Via, Part}
use Rattle.clusters.specs.declared.fill_stacks.FillStacks.{FillStacks}
use Rattle.clusters.specs.Labelling.{node_of}
use Rattle.clusters.specs.Inner.Stacks.{IsInOctagons, HavePartPoints, AreNearStacks, AreFillStacks}
use Rattle.clusters.specs.Inner.Copper.{node_shapes, IsInShapes, HaveSamePoints}
use Rattle.clusters.proofs.NodeParts.{part_is, part_past}
use Rattle.clusters.proofs.Rooms.{pads_room, tracks_room, vias_room, parts_room}

-- ---- an octagon in units and in halves

four_times : (k : ℕ) (a : ℤ) → pos k *ℤ (pos 4 *ℤ a) ≡ pos (4 * k) *ℤ a
four_times k a = mul_mul k 4 a ∙ ap (λ (n : ℕ). pos n *ℤ a) (mul_comm k 4)

in_octagon : (o : Bounds) (q : PlanePoint) → In (times 4 o) q → In o (in_units q)
in_octagon o q h = record {
  x_low = omega (arith, ints, h.x_low, four_times q.scale o.x0);
  x_high = omega (arith, ints, h.x_high, four_times q.scale o.x1);
  y_low = omega (arith, ints, h.y_low, four_times q.scale o.y0);
  y_high = omega (arith, ints, h.y_high, four_times q.scale o.y1);
  s_low = omega (arith, ints, h.s_low, four_times q.scale o.s0);
  s_high = omega (arith, ints, h.s_high, four_times q.scale o.s1);
  d_low = omega (arith, ints, h.d_low, four_times q.scale o.d0);
  d_high = omega (arith, ints, h.d_high, four_times q.scale o.d1);
}

in_copper : (o : Bounds) (q : PlanePoint) → In o (in_units q) → In (times 4 o) q
in_copper o q h = record {
  x_low = omega (arith, ints, h.x_low, four_times q.scale o.x0);
  x_high = omega (arith, ints, h.x_high, four_times q.scale o.x1);
  y_low = omega (arith, ints, h.y_low, four_times q.scale o.y0);
  y_high = omega (arith, ints, h.y_high, four_times q.scale o.y1);
  s_low = omega (arith, ints, h.s_low, four_times q.scale o.s0);
  s_high = omega (arith, ints, h.s_high, four_times q.scale o.s1);
  d_low = omega (arith, ints, h.d_low, four_times q.scale o.d0);
  d_high = omega (arith, ints, h.d_high, four_times q.scale o.d1);
}

-- where octagons have the points of others, so has their copper
copper_too : (os ps : List Bounds) → ((p : PlanePoint) → IsInOctagons os p → IsInOctagons ps p)
    → (q : PlanePoint) → IsInShapes (map octagon_copper os) q → IsInShapes (map octagon_copper ps) q
unfolding InCopper InCore
copper_too os ps h q w =
    let o = one_of_map octagon_copper w.0 os w.1 in
    let i : InCopper (area (times 4 o.0)) 0 q = subst (λ (c : Copper). InCopper c.core c.radius q) o.2 w.2 in
    let g = h (in_units i.0) (o.0, o.1, in_octagon o.0 i.0 i.1) in
    (octagon_copper g.0, map_one_of octagon_copper g.0 ps g.1, (i.0, in_copper g.0 i.0 g.2, i.2))

copper_same : (os ps : List Bounds) → ((p : PlanePoint) → IsInOctagons os p ↔ IsInOctagons ps p) → HaveSamePoints (map octagon_copper os) (map octagon_copper ps)
unfolding HaveSamePoints
copper_same os ps h q = (copper_too os ps (λ p. (h p).0) q, copper_too ps os (λ p. (h p).1) q)

-- ---- node by node

themselves : (cs : List Copper) → HaveSamePoints cs cs
unfolding HaveSamePoints
themselves cs q = (λ w. w, λ w. w)

module _ (b : Board) (fills : List Made) (h : AreBoardFills b fills) (all : List FillStacks) (s : AreFillStacks fills (length fills) all) where
  abbrev stack_shapes : ℕ → FillStacks → List Copper
  stack_shapes first it = map octagon_copper (labelled first it.stacks.items it.parts.items)

  part_some : (fill first : ℕ) (it : FillStacks) → fill < length all → get_or all fill it ≡ it
      → HaveSamePoints (stack_shapes first it) (map octagon_copper (part_pieces b fills (task_at b fill) first))
  unfolding HavePartPoints
  part_some fill first it l e =
      let f : Made = get_or fills fill no_fill in
      let c = s.count in
      let w : HavePartPoints f.pieces f.parts it.stacks.items it.parts.items =
      subst (λ (z : FillStacks). HavePartPoints f.pieces f.parts z.stacks.items z.parts.items) e (s.each fill it (omega (arith, l, c))) in
      subst (λ (os : List Bounds). HaveSamePoints (stack_shapes first it) (map octagon_copper os)) (sym (part_is b fills h fill first f refl))
      (copper_same (labelled first it.stacks.items it.parts.items) (labelled first f.pieces f.parts) (w first))

  part_shapes : (fill first : ℕ) → HaveSamePoints (option_list (stack_shapes first) (slice_get all fill)) (map octagon_copper (part_pieces b fills (task_at b fill) first))
  part_shapes fill first = elim (slice_get_cases all fill).1 [
    | inl a ↦ subst (λ (z : Option FillStacks). HaveSamePoints (option_list (stack_shapes first) z) (map octagon_copper (part_pieces b fills (task_at b fill) first))) (sym a.2)
        (part_some fill first a.0 a.1 a.3)
    | inr a ↦ (
        let c = s.count in
        let m = a.0 in
        subst (λ (z : Option FillStacks). HaveSamePoints (option_list (stack_shapes first) z) (map octagon_copper (part_pieces b fills (task_at b fill) first))) (sym a.1)
        (subst (λ (os : List Bounds). HaveSamePoints [] (map octagon_copper os)) (sym (part_past b fills h fill first (omega (arith, c, m)))) (themselves [])))
  ]

  pub shapes_points : (n : Node) → HaveSamePoints (node_shapes b all n) (shapes_of b fills (node_of b n))
  unfolding node_shapes shapes_of
  shapes_points (Pad k) = themselves _
  shapes_points (Track k) = themselves _
  shapes_points (Via k) = themselves _
  shapes_points (Part fill first) = part_shapes fill first

-- as they are read
pub read_shapes : (b : Board) (fills : List Made) → AreBoardFills b fills → (all seen : List FillStacks) (count : ℕ) (n : Node) (shapes : List Copper) → length fills ≡ count
    → AreFillStacks fills count all → seen ≡ all → shapes ≡ node_shapes b seen n → HaveSamePoints shapes (shapes_of b fills (node_of b n))
read_shapes b fills h all seen count n shapes c s e w =
    subst (λ (z : List Copper). HaveSamePoints z (shapes_of b fills (node_of b n))) (sym (w ∙ ap (λ (z : List FillStacks). node_shapes b z n) e))
    (shapes_points b fills h all (subst (λ (z : ℕ). AreFillStacks fills z all) (sym c) s) n)

-- ---- how far they reach

pub shapes_room : (b : Board) → IsSoundBoard b → (all : List FillStacks) → All AreNearStacks all → (n : Node) → All IsAnchorInRoom (node_shapes b all n)
unfolding node_shapes
shapes_room b s all h (Pad k) = pads_room b s k
shapes_room b s all h (Track k) = tracks_room b s k
shapes_room b s all h (Via k) = vias_room b s k
shapes_room b s all h (Part fill first) = parts_room first all fill h
