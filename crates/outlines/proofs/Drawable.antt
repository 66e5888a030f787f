-- Each piece of a fill has points strictly inside, and lies within half a metre.
use Rattle.std.proofs.Common.{sym, subst, ℕ, ◌+◌, ◌<◌, ◌≤◌, inl, inr, arith, List, [], ◌∷◌, map, length}
use Rattle.std.specs.Prelude.{ℤ, max, pos, neg_ℤ, ◌<ℤ◌}
use Rattle.std.specs.List.{All}
use Rattle.std.proofs.lemmas.Int.{ints}
use Rattle.std.proofs.lemmas.Bool.{cases_lt}
use Rattle.std.proofs.lemmas.List.{get_or_default}
use Rattle.std.proofs.lemmas.List.Elements.{All-nil}
use Rattle.grid_num.specs.declared.Point.{Point}
use Rattle.grid_num.specs.Roots.{up2_of}
use Rattle.grid_num.proofs.Roots.{lt_up2}
use Rattle.plane.specs.Plane.{Bounds, Within, In, IsTight, IsOct, ball_of, box_of, grid_point}
use Rattle.plane.specs.Narrow.{IsNearZero}
use Rattle.plane.proofs.Moved.{tight_box_law}
use Rattle.plane.proofs.Near.{IsTight-ball, IsTight-sum}
use Rattle.touching.proofs.AreaToLine.{once}
use Rattle.hulls.specs.Cells.{floor_of, around}
use Rattle.hulls.proofs.Around.{around_inside}
use Rattle.octagon.specs.Room.{IsAround}
use Rattle.octagon.proofs.Room.{points_reach}
use Rattle.classes.specs.Classes.{IsOneOf}
use Rattle.strips.specs.Strips.{HasInside, IsStout}
use Rattle.strips.proofs.Inside.{inside}
use Rattle.grid_sets.specs.Cells.{cells_of}
use Rattle.grid_sets.proofs.Apart.{cells_tight_law}
use Rattle.islands.proofs.Members.{all_of}
use Rattle.outline_slab.specs.Rules.{IsPointWithin}
use Rattle.board_language.specs.declared.board.Pad.{Pad}
use Rattle.board_language.specs.declared.board.Zone.{Zone}
use Rattle.board_language.specs.Board.{Board}
use Rattle.board_language.specs.Copper.{pad_hulls}
use Rattle.board_language.specs.Facts.{IsSoundBoard, IsSoundZone}
use Rattle.board_language.proofs.Members.{one_of_append, one_of_flat, one_of_map, all_one_of, get_or_is}
use Rattle.fill_rules.specs.Tasks.{Settings, zone_at, layer_at, task_zone, task_at, no_zone}
use Rattle.fill_rules.specs.Needs.{keep_when}
use Rattle.fill_rules.specs.Reliefs.{brush_radius, gap_of, half_bridge, is_thermal, pad_spokes, spokes_by, spokes_of}
use Rattle.fill_rules.specs.Fill.{fill_of}
use Rattle.fill_rules.specs.Made.{Made, no_fill}
use Rattle.fill_rules.proofs.Members.{one_of_when}
use Rattle.fill_rules.proofs.Sound.{IsFillable, fillable}
use Rattle.fill_rules.proofs.Fills.{fills_meet}
use Rattle.fill_rules.proofs.Reach.{fill_in_frame}
use Rattle.fills.specs.Fills.{brushed, IsFillOf}
use Rattle.fills.proofs.Points.{counted_is, wide, fill_points}
use Rattle.outlines.specs.Drawn.{ArePiecesDrawable}
use Rattle.outlines.specs.Laws.{DrawableLaw, AllDrawableLaw}

-- ---- points strictly inside
record IsThickOct (o : Bounds) : Type 0 where
  pub tight : IsTight o
  pub stout : IsStout o

-- a cell plus the brush
cell_thick : (r : ℕ) (c : Bounds) → 1 ≤ r → IsTight c → IsThickOct (brushed r c)
unfolding ball_of
cell_thick r c h t =
    let u : r < up2_of r = lt_up2 r h in
    record {
      tight = IsTight-sum c (ball_of r) t (IsTight-ball r);
      stout = record {
        x = omega (arith, ints, t, h);
        y = omega (arith, ints, t, h);
        s = omega (arith, ints, t, u, h);
        d = omega (arith, ints, t, u, h);
      };
    }

-- a rectangle with points inside
box_thick : (x0 x1 y0 y1 : ℤ) → x0 <ℤ x1 → y0 <ℤ y1 → IsThickOct (box_of x0 x1 y0 y1)
box_thick x0 x1 y0 y1 h l = record {
  tight = tight_box_law x0 x1 y0 y1 (omega (arith, ints, h)) (omega (arith, ints, l));
  stout = record { x = h; y = l; s = omega (arith, ints, h, l); d = omega (arith, ints, h, l) };
}

-- a spoke is as wide as the brush at least, and reaches from beyond the pad's centre out of its hull
spoke_thick : (b h r : ℕ) (x y : ℤ) (hull o : Bounds) → 1 ≤ b → b ≤ h → Within hull x y
    → IsOneOf o (spokes_by x y (pos b) (pos h) (pos r) hull) → IsThickOct o
unfolding IsOneOf
spoke_thick b h r x y hull o some far w (inl e) = subst IsThickOct (sym e) (box_thick _ _ _ _ (omega (arith, ints, w.x_high, some)) (omega (arith, ints, some, far)))
spoke_thick b h r x y hull o some far w (inr (inl e)) = subst IsThickOct (sym e) (box_thick _ _ _ _ (omega (arith, ints, some, far)) (omega (arith, ints, w.y_high, some)))
spoke_thick b h r x y hull o some far w (inr (inr (inl e))) = subst IsThickOct (sym e) (box_thick _ _ _ _ (omega (arith, ints, w.x_low, some)) (omega (arith, ints, some, far)))
spoke_thick b h r x y hull o some far w (inr (inr (inr (inl e)))) = subst IsThickOct (sym e) (box_thick _ _ _ _ (omega (arith, ints, some, far)) (omega (arith, ints, w.y_low, some)))
spoke_thick b h r x y hull o some far w (inr (inr (inr (inr n)))) = absurd n

at_most_max : (m n : ℕ) → m ≤ max m n
at_most_max m n = elim (cases_lt m n) [ inl l ↦ omega (arith, l) | inr l ↦ omega (arith, l) ]

spokes_thick : (b : Board) → IsFillable b → (z : Settings) (l : ℕ) (o : Bounds) → 1 ≤ brush_radius z → IsOneOf o (spokes_of b z l) → IsThickOct o
unfolding spokes_of pad_spokes
spokes_thick b s z l o some i =
    let a = one_of_flat (λ (p : Pad). keep_when (is_thermal z l p) (pad_spokes z p)) o b.pads i in
    let m : IsOneOf o (pad_spokes z a.0) = one_of_when (is_thermal z l a.0) o (pad_spokes z a.0) a.2 in
    let h = one_of_flat (spokes_by (floor_of 2 a.0.at.x) (floor_of 2 a.0.at.y) (pos (brush_radius z)) (pos (half_bridge z a.0)) (pos (gap_of z a.0 + brush_radius z))) o (pad_hulls a.0) m in
    spoke_thick (brush_radius z) (half_bridge z a.0) (gap_of z a.0 + brush_radius z) (floor_of 2 a.0.at.x) (floor_of 2 a.0.at.y) h.0 o
    some (at_most_max (brush_radius z) _) (s.centred a.0 a.1 h.0 h.1) h.2

some_brush : (n : ℕ) → 250 ≤ n → 1 ≤ n
some_brush n h = omega (arith, h)

piece_thick : (b : Board) → IsFillable b → (i : ℕ) (f : Made) → IsFillOf b i f → (o : Bounds) → IsOneOf o f.pieces → IsThickOct o
piece_thick b s i f w o m =
    let h = w.pieces in
    let z = zone_at b i in
    let r = brush_radius z in
    let some = some_brush r (wide b s i) in
    elim (one_of_append o (map (brushed r) (cells_of h.bands)) h.counted (subst (IsOneOf o) h.in_order m)) [
      | inl l ↦
          let c = one_of_map (brushed r) o (cells_of h.bands) l in
          subst IsThickOct (sym c.2) (cell_thick r c.0 some (all_one_of IsTight (cells_of h.bands) c.0 (cells_tight_law h.rows h.bands h.are_rows.are h.are_bands) c.1))
      | inr l ↦ spokes_thick b s z (layer_at b i) o some ((counted_is b i f.pieces f.spokes h o).0 l).live.spoke
    ]

-- ---- within half a metre
corners_near : (m : ℕ) (ps : List Point) → All (IsPointWithin m) ps → IsAround m (around ps)
unfolding around
corners_near m [] h = record { x_low = omega (arith, ints); x_high = omega (arith, ints); y_low = omega (arith, ints); y_high = omega (arith, ints) }
corners_near m (p ∷ ps) h =
    let i = around_inside (p ∷ ps) (box_of (neg_ℤ (pos m)) (pos m) (neg_ℤ (pos m)) (pos m)) (omega arith) (λ k d l. held m _ (h k d l)) in
    record { x_low = i.x0; x_high = i.x1; y_low = i.y0; y_high = i.y1 }
  where
    held : (m : ℕ) (q : Point) → IsPointWithin m q → Within (box_of (neg_ℤ (pos m)) (pos m) (neg_ℤ (pos m)) (pos m)) q.x q.y
    held m q w = record {
      x_low = w.x.low;
      x_high = w.x.high;
      y_low = w.y.low;
      y_high = w.y.high;
      s_low = omega (arith, ints, w.x.low, w.y.low);
      s_high = omega (arith, ints, w.x.high, w.y.high);
      d_low = omega (arith, ints, w.x.low, w.y.high);
      d_high = omega (arith, ints, w.x.high, w.y.low);
    }

frame_near : (b : Board) → IsSoundBoard b → (i : ℕ) → IsAround 250000000 (around (zone_at b i).outline)
unfolding task_zone zone_at
frame_near b s i =
    get_or_is (λ (z : Zone). IsAround 250000000 (around z.outline)) b.zones (task_at b i).zone no_zone
    (corners_near 250000000 [] (All-nil (IsPointWithin 250000000)))
    (λ z m. corners_near 250000000 z.outline (all_one_of (IsSoundZone (length b.layers)) b.zones z s.zones m).outline.kept.within)

point_near : (m : ℕ) (g : Bounds) (x y : ℤ) → IsAround m g → In g (grid_point x y) → IsNearZero m x × IsNearZero m y
point_near m g x y a h = (
  record { low = omega (arith, ints, a.x_low, h.x_low); high = omega (arith, ints, a.x_high, h.x_high) },
  record { low = omega (arith, ints, a.y_low, h.y_low); high = omega (arith, ints, a.y_high, h.y_high) },
)

piece_near : (b : Board) → IsSoundBoard b → (i : ℕ) (f : Made) → IsFillOf b i f → (o : Bounds) → IsTight o → IsOneOf o f.pieces → IsAround 250000000 o
piece_near b s i f w o t m =
    points_reach 250000000 o t (λ x y h.
    let p = grid_point x y in
    let fill : fill_of b i p = (fill_points b s i f w p).0 (o, m, once o x y h) in
    point_near 250000000 (around (zone_at b i).outline) x y (frame_near b s i)
    (fill_in_frame b (fillable b s) (fill_of b) i p ((fills_meet b i p).0 fill)))

-- ---- both
pub drawable : DrawableLaw
drawable b s i f w = record {
  inside = all_of (λ (o : Bounds). HasInside o) f.pieces (λ o m. let t = piece_thick b (fillable b s) i f w o m in inside o t.tight t.stout);
  near = all_of (λ (o : Bounds). IsAround 250000000 o) f.pieces (λ o m. piece_near b s i f w o (piece_thick b (fillable b s) i f w o m).tight m);
}

pub all_drawable : AllDrawableLaw
all_drawable b s all h =
    λ k d l. subst (λ (f : Made). ArePiecesDrawable f.pieces) (get_or_default all k no_fill d l) (drawable b s k _ (h.each k l))

-- so they are octagons of the grid
pub all_octs : (b : Board) → IsSoundBoard b → (i : ℕ) (f : Made) → IsFillOf b i f → All IsOct f.pieces
all_octs b s i f w = all_of IsOct f.pieces (λ o m. oct o (piece_thick b (fillable b s) i f w o m).tight (piece_near b s i f w o (piece_thick b (fillable b s) i f w o m).tight m))
  where
    oct : (o : Bounds) → IsTight o → IsAround 250000000 o → IsOct o
    oct o t a = record {
      tight = t;
      x_low = omega (arith, ints, a.x_low);
      x_high = omega (arith, ints, a.x_high);
      y_low = omega (arith, ints, a.y_low);
      y_high = omega (arith, ints, a.y_high);
    }
