-- Each entry of the needs of a task is an octagon in range, to be kept away from by a distance in range.
use Rattle.std.proofs.Common.{◌≡◌, refl, sym, subst, ℕ, ◌+◌, ◌*◌, ◌^◌, ◌≤◌, ◌<◌, inl, inr, arith, List, ◌++◌, length, map, flat_map, get_or, unwrap_or}
use Rattle.std.specs.Prelude.{ℤ, ◌+ℤ◌, ◌-ℤ◌, max, Bool, true, false, Option, None, Some}
use Rattle.std.specs.Int.RustNames.{unsigned_abs}
use Rattle.std.specs.List.{All}
use Rattle.std.proofs.lemmas.Int.{ints}
use Rattle.plane.specs.Plane.{Bounds, IsTight, box_of}
use Rattle.plane.specs.Narrow.{IsNearZero}
use Rattle.octagon.specs.Room.{IsAround}
use Rattle.touching.specs.Core.{Core, area, line, IsWhole}
use Rattle.cores.specs.Room.{IsInRoom, IsCoreInRoom}
use Rattle.hulls.specs.Hulls.{hulls_of, edge_hulls_of, edge_core, edge_radius, chord_of, in_halves}
use Rattle.hulls.specs.Laws.{IsPad}
use Rattle.hulls.proofs.Edges.{root_least}
use Rattle.copper_shape.proofs.Chords.{far_apart, square_room}
use Rattle.copper_shape.proofs.Reach.{shape_reach}
use Rattle.grid_num.specs.declared.Point.{Point}
use Rattle.classes.specs.Classes.{IsOneOf}
use Rattle.board_language.specs.declared.board.Track.{Track}
use Rattle.board_language.specs.declared.board.Via.{Via}
use Rattle.board_language.specs.declared.board.Pad.{Pad}
use Rattle.board_language.specs.declared.board.Zone.{Zone}
use Rattle.board_language.specs.Board.{Board}
use Rattle.board_language.specs.Copper.{hulls_round, pad_hulls}
use Rattle.board_language.specs.Facts.{IsSoundTrack, IsSoundVia, IsSoundPad, IsSoundZone, IsSoundBoardEdge, IsSoundBoard}
use Rattle.board_language.proofs.Members.{one_of_append, one_of_flat, one_of_map, all_one_of}
use Rattle.fill_rules.specs.Tasks.{Task, settings_of, task_zone}
use Rattle.fill_rules.specs.Ranking.{IsTask}
use Rattle.fill_rules.specs.Needs.{Need, at_need, keep_when, item_need, item_needs, track_needs, via_needs, pad_needs, edge_needs, track_copper, via_copper, units}
use Rattle.fill_rules.specs.Reliefs.{gap_of, is_thermal, thermal_needs}
use Rattle.fill_rules.specs.Made.{Made}
use Rattle.fill_rules.proofs.Members.{one_of_when}
use Rattle.fills.specs.Above.{AreFillsAboveTask}
use Rattle.knockouts.specs.Obstacles.{fill_needs, bars_of, needs_of, IsNeedInRange}
use Rattle.knockouts.specs.Clear.{NeedRangeLaw}
use Rattle.knockouts.proofs.Boxes.{box_tight}
use Rattle.knockouts.proofs.Near.{member}
use Rattle.knockouts.proofs.Reading.{above_task}
use Rattle.knockouts.proofs.Clearing.{whose}
use Rattle.knockouts.proofs.PieceRange.{piece_near, zone_sound}

-- ---- distances

pub record IsDistance (n : ℕ) : Type 0 where
  pub least : 1 ≤ n
  pub most : n ≤ 2 ^ 31

greatest_range : (a c floor : ℕ) → a ≤ 100000000 → c ≤ 100000000 → 2 ≤ floor → floor ≤ 100000000 → IsDistance (units (max (max a c) floor))
greatest_range a c floor ha hc low high = record { least = omega (arith, low); most = omega (arith, ha, hc, high) }

edge_range : (n : ℕ) → 2 ≤ n → n ≤ 100000000 → IsDistance (units n)
edge_range n low high = record { least = omega (arith, low); most = omega (arith, high) }

gap_range : (n : ℕ) → n ≤ 100000000 → IsDistance (max 1 (units n))
gap_range n h = record { least = omega arith; most = omega (arith, h) }

-- ---- octagons at a need

wider : (m : ℕ) (b : Bounds) → m ≤ 2 ^ 31 → IsAround m b → IsAround (2 ^ 31) b
wider m b l h = record {
  x_low = omega (arith, ints, l, h.x_low);
  x_high = omega (arith, ints, l, h.x_high);
  y_low = omega (arith, ints, l, h.y_low);
  y_high = omega (arith, ints, l, h.y_high);
}

at_range : (m n : ℕ) (os : List Bounds) → m ≤ 2 ^ 31 → IsDistance n → All (IsAround m) os → (x : Need) → IsOneOf x (at_need n os) → IsNeedInRange x
at_range m n os l d all x i =
    let r = one_of_map (λ (o : Bounds). record { oct = o; need = n }) x os i in
    subst IsNeedInRange (sym r.2) (record { least = d.least; most = d.most; room = wider m r.0 l (all_one_of (IsAround m) os r.0 all r.1) })

-- ---- hulls

track_hulls : (n : ℕ) (t : Track) → IsSoundTrack n t → All (IsAround 1000000000) (hulls_round (track_copper t))
unfolding IsWhole IsCoreInRoom
track_hulls n t s =
    let w = s.width.most in
    shape_reach (line (in_halves t.from) (in_halves t.to)) t.width _ refl tt
    (record {
      sx = record { low = omega (arith, ints, s.from.x.low); high = omega (arith, ints, s.from.x.high) };
      sy = record { low = omega (arith, ints, s.from.y.low); high = omega (arith, ints, s.from.y.high) };
      tx = record { low = omega (arith, ints, s.to.x.low); high = omega (arith, ints, s.to.x.high) };
      ty = record { low = omega (arith, ints, s.to.y.low); high = omega (arith, ints, s.to.y.high) };
    }) (omega (arith, w))

spot_hulls : (x y : ℤ) (r : ℕ) → IsNearZero 2000000000 x → IsNearZero 2000000000 y → r ≤ 2000000000 → All (IsAround 1000000000) (hulls_of (area (box_of x x y y)) r)
unfolding IsWhole IsCoreInRoom
spot_hulls x y r hx hy l =
    shape_reach (area (box_of x x y y)) r _ refl (box_tight x x y y (omega (arith, ints)) (omega (arith, ints)))
    (record { left = hx.low; right = hx.high; top = hy.low; bottom = hy.high }) l

via_hulls : (n : ℕ) (v : Via) → IsSoundVia n v → All (IsAround 1000000000) (hulls_round (via_copper v))
via_hulls n v s =
    let w = s.size.most in
    spot_hulls (in_halves v.at).x (in_halves v.at).y v.size
    (record { low = omega (arith, ints, s.at.x.low); high = omega (arith, ints, s.at.x.high) })
    (record { low = omega (arith, ints, s.at.y.low); high = omega (arith, ints, s.at.y.high) }) (omega (arith, w))

pad_whole : (c : Core) → IsPad c → IsWhole c
unfolding IsPad IsWhole
pad_whole (area b) h = subst IsTight (sym h.0) (box_tight b.x0 b.x1 b.y0 b.y1 h.1 h.2)
pad_whole (line s t) h = tt

core_wider : (c : Core) → IsCoreInRoom 1100000000 c → IsCoreInRoom 2000000000 c
unfolding IsCoreInRoom
core_wider (area b) h = record {
  left = omega (arith, ints, h.left);
  right = omega (arith, ints, h.right);
  top = omega (arith, ints, h.top);
  bottom = omega (arith, ints, h.bottom);
}
core_wider (line s t) h = record {
  sx = record { low = omega (arith, ints, h.sx.low); high = omega (arith, ints, h.sx.high) };
  sy = record { low = omega (arith, ints, h.sy.low); high = omega (arith, ints, h.sy.high) };
  tx = record { low = omega (arith, ints, h.tx.low); high = omega (arith, ints, h.tx.high) };
  ty = record { low = omega (arith, ints, h.ty.low); high = omega (arith, ints, h.ty.high) };
}

pads_hulls : (n : ℕ) (p : Pad) → IsSoundPad n p → All (IsAround 1000000000) (pad_hulls p)
unfolding pad_hulls
pads_hulls n p s =
    let r = s.shape.radius in
    shape_reach p.shape.core p.shape.radius _ refl (pad_whole p.shape.core s.pad.core) (core_wider p.shape.core s.shape.within) (omega (arith, r))

chord_short : (a b : Point) → IsInRoom 500000000 a → IsInRoom 500000000 b → chord_of a b ≤ 2000000000
unfolding chord_of
chord_short a b ha hb =
    let w : unsigned_abs (b.x -ℤ a.x) ≤ 1000000000 = far_apart b.x a.x (record { x = hb.x; y = ha.x }) in
    let h : unsigned_abs (b.y -ℤ a.y) ≤ 1000000000 = far_apart b.y a.y (record { x = hb.y; y = ha.y }) in
    let s = square_room (unsigned_abs (b.x -ℤ a.x)) (unsigned_abs (b.y -ℤ a.y)) w h in
    root_least (unsigned_abs (b.x -ℤ a.x) * unsigned_abs (b.x -ℤ a.x) + unsigned_abs (b.y -ℤ a.y) * unsigned_abs (b.y -ℤ a.y))
    (unsigned_abs (b.x -ℤ a.x) + unsigned_abs (b.y -ℤ a.y)) 2000000000 (omega (arith, s))

bowed : (a b : Point) (bow : Bool) → IsInRoom 500000000 a → IsInRoom 500000000 b → All (IsAround 1000000000) (edge_hulls_of a b bow)
unfolding edge_hulls_of edge_core edge_radius IsWhole IsCoreInRoom
bowed a b false ha hb =
    shape_reach (line (in_halves a) (in_halves b)) 0 _ refl tt
    (record {
      sx = record { low = omega (arith, ints, ha.x.low); high = omega (arith, ints, ha.x.high) };
      sy = record { low = omega (arith, ints, ha.y.low); high = omega (arith, ints, ha.y.high) };
      tx = record { low = omega (arith, ints, hb.x.low); high = omega (arith, ints, hb.x.high) };
      ty = record { low = omega (arith, ints, hb.y.low); high = omega (arith, ints, hb.y.high) };
    }) (omega arith)
bowed a b true ha hb =
    spot_hulls (a.x +ℤ b.x) (a.y +ℤ b.y) (chord_of a b)
    (record { low = omega (arith, ints, ha.x.low, hb.x.low); high = omega (arith, ints, ha.x.high, hb.x.high) })
    (record { low = omega (arith, ints, ha.y.low, hb.y.low); high = omega (arith, ints, ha.y.high, hb.y.high) }) (chord_short a b ha hb)

-- ---- the items

module _ (b : Board) (s : IsSoundBoard b) (z : Zone) (sz : IsSoundZone (length b.layers) z) (l : ℕ) where
  item_range : (own : ℕ) → own ≤ 100000000 → IsDistance (item_need b (settings_of z) own)
  item_range own h = greatest_range z.clearance own b.rules.floor sz.clearance h s.rules.floor.least s.rules.floor.most

  tracks_range : (x : Need) → IsOneOf x (flat_map (track_needs b (settings_of z) l) b.tracks) → IsNeedInRange x
  tracks_range x i =
      let r = one_of_flat (track_needs b (settings_of z) l) x b.tracks i in
      at_range 1000000000 (item_need b (settings_of z) 0) (hulls_round (track_copper r.0)) (omega arith) (item_range 0 (omega arith))
      (track_hulls (length b.layers) r.0 (all_one_of (IsSoundTrack (length b.layers)) b.tracks r.0 s.tracks r.1)) x (one_of_when _ x _ r.2)

  vias_range : (x : Need) → IsOneOf x (flat_map (via_needs b (settings_of z) l) b.vias) → IsNeedInRange x
  vias_range x i =
      let r = one_of_flat (via_needs b (settings_of z) l) x b.vias i in
      at_range 1000000000 (item_need b (settings_of z) 0) (hulls_round (via_copper r.0)) (omega arith) (item_range 0 (omega arith))
      (via_hulls (length b.layers) r.0 (all_one_of (IsSoundVia (length b.layers)) b.vias r.0 s.vias r.1)) x (one_of_when _ x _ r.2)

  pads_range : (x : Need) → IsOneOf x (flat_map (pad_needs b (settings_of z) l) b.pads) → IsNeedInRange x
  pads_range x i =
      let r = one_of_flat (pad_needs b (settings_of z) l) x b.pads i in
      let p = all_one_of (IsSoundPad (length b.layers)) b.pads r.0 s.pads r.1 in
      at_range 1000000000 (item_need b (settings_of z) r.0.clearance) (pad_hulls r.0) (omega arith) (item_range r.0.clearance p.clearance)
      (pads_hulls (length b.layers) r.0 p) x (one_of_when _ x _ r.2)

  edges_range : (x : Need) → IsOneOf x (flat_map (edge_needs b) b.edges) → IsNeedInRange x
  edges_range x i =
      let r = one_of_flat (edge_needs b) x b.edges i in
      let e = all_one_of IsSoundBoardEdge b.edges r.0 s.edges r.1 in
      at_range 1000000000 (units b.rules.edge) (edge_hulls_of r.0.from r.0.to r.0.bow) (omega arith) (edge_range b.rules.edge s.rules.edge.least s.rules.edge.most)
      (bowed r.0.from r.0.to r.0.bow e.from e.to) x r.2

  items_range : (x : Need) → IsOneOf x (item_needs b (settings_of z) l) → IsNeedInRange x
  unfolding item_needs
  items_range x i =
      let ts = flat_map (track_needs b (settings_of z) l) b.tracks in
      let vs = flat_map (via_needs b (settings_of z) l) b.vias in
      let ps = flat_map (pad_needs b (settings_of z) l) b.pads in
      let es = flat_map (edge_needs b) b.edges in
      elim (one_of_append x ts (vs ++ (ps ++ es)) i) [
        | inl t ↦ tracks_range x t
        | inr j ↦ elim (one_of_append x vs (ps ++ es) j) [
          | inl v ↦ vias_range x v
          | inr k ↦ elim (one_of_append x ps es k) [ inl p ↦ pads_range x p | inr e ↦ edges_range x e ]
        ]
      ]

  gaps_range : (x : Need) → IsOneOf x (thermal_needs b (settings_of z) l) → IsNeedInRange x
  unfolding thermal_needs
  gaps_range x i =
      let r = one_of_flat (λ (p : Pad). keep_when (is_thermal (settings_of z) l p) (at_need (gap_of (settings_of z) p) (pad_hulls p))) x b.pads i in
      let p = all_one_of (IsSoundPad (length b.layers)) b.pads r.0 s.pads r.1 in
      at_range 1000000000 (gap_of (settings_of z) r.0) (pad_hulls r.0) (omega arith)
      (gap_range (unwrap_or r.0.gap z.gap) (own_gap r.0.gap z.gap p.gap sz.gap)) (pads_hulls (length b.layers) r.0 p) x (one_of_when _ x _ r.2)
    where
      own_gap : (o : Option ℕ) (g : ℕ) → unwrap_or o 0 ≤ 100000000 → g ≤ 100000000 → unwrap_or o g ≤ 100000000
      own_gap None g h k = k
      own_gap (Some n) g h k = h

-- ---- the fills above

fills_range : (b : Board) (t : Task) (above : List Made) → IsSoundBoard b → IsTask b t → AreFillsAboveTask b t above
    → (x : Need) → IsOneOf x (flat_map (fill_needs b (settings_of (task_zone b t))) above) → IsNeedInRange x
fills_range b t above s h w x i =
    let r = one_of_flat (fill_needs b (settings_of (task_zone b t))) x above i in
    let f = r.0 in
    let own = whose b w.above.tasks above w.above.each f r.1 in
    let j = own.0 in
    let reaching = (w.above.reaching.same j).0 own.1 in
    let less : j < w.rank = reaching.above in
    let near = piece_near b s j (omega (arith, less, w.within)) f own.2 in
    let y = zone_sound b s t h in
    let u = near.1 in
    at_range 250000000 _ f.pieces (omega arith)
    (greatest_range (task_zone b f.task).clearance (task_zone b t).clearance b.rules.floor u.clearance y.clearance s.rules.floor.least s.rules.floor.most) near.0 x r.2

-- ---- all entries

pub range_law : NeedRangeLaw
unfolding needs_of bars_of
range_law b t above s w k d l =
    let h = above_task b t above w in
    let z = task_zone b t in
    let sz = zone_sound b s t h in
    let items = item_needs b (settings_of z) t.layer in
    let fills = flat_map (fill_needs b (settings_of z)) above in
    let gaps = thermal_needs b (settings_of z) t.layer in
    let x = get_or ((items ++ fills) ++ gaps) k d in
    elim (one_of_append x (items ++ fills) gaps (member ((items ++ fills) ++ gaps) k d l)) [
      | inr g ↦ gaps_range b s z sz t.layer x g
      | inl i ↦ elim (one_of_append x items fills i) [
        | inl m ↦ items_range b s z sz t.layer x m
        | inr f ↦ fills_range b t above s h w x f
      ]
    ]

-- as they are read
pub list_range : {V : Type 0} (f : V → Need) (b : Board) (t : Task) (above : List Made) (ns : List V) → map f ns ≡ needs_of b t above → IsSoundBoard b → AreFillsAboveTask b t above
    → All IsNeedInRange (map f ns)
list_range f b t above ns e s w = subst (All IsNeedInRange) (sym e) (range_law b t above s w)
