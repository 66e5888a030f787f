-- Each piece of a fill is a union of octagons that hold a disc of the least thickness.
use Rattle.std.proofs.Common.{◌≡◌, sym, ap, subst, ℕ, ◌+◌, ◌*◌, ◌≤◌, inl, inr, arith, List, map}
use Rattle.std.specs.Prelude.{ℤ, max, pos, neg_ℤ, ◌+ℤ◌, ◌-ℤ◌, ◌*ℤ◌, ◌≤ℤ◌, flat_map}
use Rattle.std.proofs.lemmas.Int.{ints}
use Rattle.std.proofs.lemmas.Bool.{cases_lt}
use Rattle.grid_num.proofs.Products.{mul_le}
use Rattle.plane.specs.Plane.{PlanePoint, Bounds, Within, In, IsTight, ball_of, box_of, grid_point, moved, sum_of}
use Rattle.plane.proofs.Moved.{box_law}
use Rattle.plane.proofs.Near.{IsTight-ball}
use Rattle.plane.proofs.Points.{IsInSum-In, In-IsInSum}
use Rattle.touching.specs.Core.{IsReached}
use Rattle.hulls.specs.Hulls.{in_units}
use Rattle.hulls.specs.Cells.{floor_of}
use Rattle.hulls.proofs.Grown.{grown}
use Rattle.classes.specs.Classes.{IsOneOf}
use Rattle.board_language.specs.declared.board.Pad.{Pad}
use Rattle.board_language.specs.Board.{Board}
use Rattle.fill_rules.specs.Tasks.{Settings, zone_at, layer_at}
use Rattle.board_language.specs.Copper.{pad_hulls}
use Rattle.fill_rules.specs.Needs.{keep_when}
use Rattle.fill_rules.specs.Reliefs.{brush_radius, gap_of, half_bridge, is_thermal, pad_spokes, spokes_by, spokes_of}
use Rattle.fill_rules.proofs.Sound.{IsFillable, fillable}
use Rattle.board_language.proofs.Members.{one_of_append, one_of_flat, one_of_map, all_one_of}
use Rattle.fill_rules.proofs.Members.{one_of_when}
use Rattle.grid_sets.specs.Brush.{IsBrushed}
use Rattle.grid_sets.specs.Cells.{cells_of}
use Rattle.grid_sets.proofs.Apart.{cells_tight_law}
use Rattle.grid_sets.proofs.CellBrushed.{brush_law}
use Rattle.fills.specs.Fills.{brushed, ArePieces}
use Rattle.fills.specs.Thick.{HoldsDisc, IsInThick, ThickLaw}
use Rattle.fills.proofs.Points.{counted_is, wide}

-- ---- the brush holds the disc
turned : (k : ℕ) (a c : ℤ) → pos k *ℤ (a +ℤ c) ≡ pos k *ℤ (c +ℤ a)
turned k a c = ap (λ (z : ℤ). pos k *ℤ z) (same a c)
  where
    same : (a c : ℤ) → a +ℤ c ≡ c +ℤ a
    same a c = omega (arith, ints)

-- the octagon round 0, moved to a place, is the place plus the octagon
moved_is_sum : (o : Bounds) (x y : ℤ) (q : PlanePoint) → In (sum_of (box_of x x y y) o) q → In (moved o x y) q
moved_is_sum o x y q w =
    let k = q.scale in
    record {
      x_low = omega (arith, ints, w.x_low, turned k x o.x0);
      x_high = omega (arith, ints, w.x_high, turned k x o.x1);
      y_low = omega (arith, ints, w.y_low, turned k y o.y0);
      y_high = omega (arith, ints, w.y_high, turned k y o.y1);
      s_low = omega (arith, ints, w.s_low, turned k (x +ℤ y) o.s0);
      s_high = omega (arith, ints, w.s_high, turned k (x +ℤ y) o.s1);
      d_low = omega (arith, ints, w.d_low, turned k (x -ℤ y) o.d0);
      d_high = omega (arith, ints, w.d_high, turned k (x -ℤ y) o.d1);
    }

place_in_box : (x y : ℤ) → In (box_of x x y y) (in_units (grid_point (pos 4 *ℤ x) (pos 4 *ℤ y)))
place_in_box x y = (box_law x x y y (in_units (grid_point (pos 4 *ℤ x) (pos 4 *ℤ y)))).1 (record {
  left = omega (arith, ints);
  right = omega (arith, ints);
  top = omega (arith, ints);
  bottom = omega (arith, ints);
})

brush_disc : (b t : ℕ) (x y : ℤ) → t ≤ 4 * b → HoldsDisc t (moved (ball_of b) x y)
brush_disc b t x y h = record {
  centre = grid_point (pos 4 *ℤ x) (pos 4 *ℤ y);
  all = λ q r. moved_is_sum (ball_of b) x y (in_units q) (grown (box_of x x y y) b t (grid_point (pos 4 *ℤ x) (pos 4 *ℤ y)) q h (place_in_box x y) r);
}

-- four times the brush is no less than the thickness
thick_enough : (z : Settings) → z.thickness ≤ 4 * brush_radius z
thick_enough z = omega arith

-- ---- cells
cell_thick : (r t : ℕ) (c : Bounds) (p : PlanePoint) → 10 ≤ r → t ≤ 4 * r → IsTight c → In (brushed r c) p → IsInThick t (brushed r c) p
unfolding IsBrushed
cell_thick r t c p ten le tight i =
    let w = (brush_law r c p ten tight).0 (In-IsInSum c (ball_of r) p tight (IsTight-ball r) i) in
    record {
      round = moved (ball_of r) w.0 w.1;
      at = w.3;
      disc = brush_disc r t w.0 w.1 le;
      inside = λ q j. IsInSum-In c (ball_of r) q ((brush_law r c q ten tight).1 (w.0, w.1, w.2, j));
    }

-- ---- spokes
-- the brush lies in a rectangle that reaches as far on each side
in_rectangle : (b : ℕ) (x y x0 x1 y0 y1 : ℤ) → x0 ≤ℤ (x -ℤ pos b) → (x +ℤ pos b) ≤ℤ x1 → y0 ≤ℤ (y -ℤ pos b) → (y +ℤ pos b) ≤ℤ y1
    → (q : PlanePoint) → In (moved (ball_of b) x y) q → In (box_of x0 x1 y0 y1) q
unfolding ball_of
in_rectangle b x y x0 x1 y0 y1 left right top bottom q w =
    let k = q.scale in
    (box_law x0 x1 y0 y1 q).1 (record {
      left = omega (arith, ints, w.x_low, mul_le k x0 (neg_ℤ (pos b) +ℤ x) (omega (arith, ints, left)));
      right = omega (arith, ints, w.x_high, mul_le k (pos b +ℤ x) x1 (omega (arith, ints, right)));
      top = omega (arith, ints, w.y_low, mul_le k y0 (neg_ℤ (pos b) +ℤ y) (omega (arith, ints, top)));
      bottom = omega (arith, ints, w.y_high, mul_le k (pos b +ℤ y) y1 (omega (arith, ints, bottom)));
    })

-- so the rectangle holds the disc
box_disc : (b t : ℕ) (x y x0 x1 y0 y1 : ℤ) → t ≤ 4 * b → x0 ≤ℤ (x -ℤ pos b) → (x +ℤ pos b) ≤ℤ x1 → y0 ≤ℤ (y -ℤ pos b) → (y +ℤ pos b) ≤ℤ y1
    → HoldsDisc t (box_of x0 x1 y0 y1)
box_disc b t x y x0 x1 y0 y1 h left right top bottom =
    let d = brush_disc b t x y h in
    record { centre = d.centre; all = λ q r. in_rectangle b x y x0 x1 y0 y1 left right top bottom (in_units q) (d.all q r) }

spoke_disc : (b h r t : ℕ) (x y : ℤ) (hull o : Bounds) → t ≤ 4 * b → b ≤ h → b ≤ r → Within hull x y
    → IsOneOf o (spokes_by x y (pos b) (pos h) (pos r) hull) → HoldsDisc t o
unfolding IsOneOf
spoke_disc b h r t x y hull o le wide_ far w (inl e) =
    subst (HoldsDisc t) (sym e) (box_disc b t x y _ _ _ _ le (omega (arith, ints)) (omega (arith, ints, w.x_high, far)) (omega (arith, ints, wide_)) (omega (arith, ints, wide_)))
spoke_disc b h r t x y hull o le wide_ far w (inr (inl e)) =
    subst (HoldsDisc t) (sym e) (box_disc b t x y _ _ _ _ le (omega (arith, ints, wide_)) (omega (arith, ints, wide_)) (omega (arith, ints)) (omega (arith, ints, w.y_high, far)))
spoke_disc b h r t x y hull o le wide_ far w (inr (inr (inl e))) =
    subst (HoldsDisc t) (sym e) (box_disc b t x y _ _ _ _ le (omega (arith, ints, w.x_low, far)) (omega (arith, ints)) (omega (arith, ints, wide_)) (omega (arith, ints, wide_)))
spoke_disc b h r t x y hull o le wide_ far w (inr (inr (inr (inl e)))) =
    subst (HoldsDisc t) (sym e) (box_disc b t x y _ _ _ _ le (omega (arith, ints, wide_)) (omega (arith, ints, wide_)) (omega (arith, ints, w.y_low, far)) (omega (arith, ints)))
spoke_disc b h r t x y hull o le wide_ far w (inr (inr (inr (inr n)))) = absurd n

least_bridge : (z : Settings) (a : Pad) → brush_radius z ≤ half_bridge z a
least_bridge z a = at_most_max (brush_radius z) _
  where
    at_most_max : (m n : ℕ) → m ≤ max m n
    at_most_max m n = elim (cases_lt m n) [ inl l ↦ omega (arith, l) | inr l ↦ omega (arith, l) ]

spokes_thick : (b : Board) → IsFillable b → (z : Settings) (l : ℕ) (o : Bounds) → IsOneOf o (spokes_of b z l) → HoldsDisc z.thickness o
unfolding spokes_of pad_spokes
spokes_thick b s z l o i =
    let a = one_of_flat (λ (p : Pad). keep_when (is_thermal z l p) (pad_spokes z p)) o b.pads i in
    let m : IsOneOf o (pad_spokes z a.0) = one_of_when (is_thermal z l a.0) o (pad_spokes z a.0) a.2 in
    let h = one_of_flat (spokes_by (floor_of 2 a.0.at.x) (floor_of 2 a.0.at.y) (pos (brush_radius z)) (pos (half_bridge z a.0)) (pos (gap_of z a.0 + brush_radius z))) o (pad_hulls a.0) m in
    spoke_disc (brush_radius z) (half_bridge z a.0) (gap_of z a.0 + brush_radius z) z.thickness (floor_of 2 a.0.at.x) (floor_of 2 a.0.at.y) h.0 o
    (thick_enough z) (least_bridge z a.0) (more (gap_of z a.0) (brush_radius z)) (s.centred a.0 a.1 h.0 h.1) h.2
  where
    more : (m n : ℕ) → n ≤ m + n
    more m n = omega arith

-- ---- both
pub thick : ThickLaw
thick b s i f w o m p at =
    let h = w.pieces in
    let z = zone_at b i in
    let r = brush_radius z in
    elim (one_of_append o (map (brushed r) (cells_of h.bands)) h.counted (subst (IsOneOf o) h.in_order m)) [
      | inl l ↦
          let c = one_of_map (brushed r) o (cells_of h.bands) l in
          let tight = all_one_of IsTight (cells_of h.bands) c.0 (cells_tight_law h.rows h.bands h.are_rows.are h.are_bands) c.1 in
          subst (λ (u : Bounds). IsInThick z.thickness u p) (sym c.2)
          (cell_thick r z.thickness c.0 p (ten (wide b (fillable b s) i)) (thick_enough z) tight (subst (λ (u : Bounds). In u p) c.2 at))
      | inr l ↦
          let k = (counted_is b i f.pieces f.spokes h o).0 l in
          record { round = o; at = at; disc = spokes_thick b (fillable b s) z (layer_at b i) o k.live.spoke; inside = λ q j. j }
    ]
  where
    ten : {n : ℕ} → 250 ≤ n → 10 ≤ n
    ten h = omega (arith, h)
