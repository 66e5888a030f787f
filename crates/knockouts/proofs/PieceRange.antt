-- The pieces of a fill are tight, and lie as near as the corners of its outline.
use Rattle.std.proofs.Common.{◌≡◌, refl, sym, subst, ℕ, ◌+◌, ◌<◌, inl, inr, arith, List, length, map}
use Rattle.std.specs.Prelude.{ℤ, pos, ◌+ℤ◌, ◌-ℤ◌, ◌≤ℤ◌, neg_ℤ}
use Rattle.std.specs.List.{All}
use Rattle.std.proofs.lemmas.Int.{ints}
use Rattle.plane.specs.Plane.{Bounds, Within, In, IsTight, grid_point, box_of, ball_of}
use Rattle.plane.specs.Narrow.{IsNearZero}
use Rattle.plane.proofs.Near.{IsTight-sum, IsTight-ball}
use Rattle.octagon.specs.Room.{IsAround}
use Rattle.octagon.proofs.Room.{points_reach}
use Rattle.hulls.specs.Cells.{floor_of, around}
use Rattle.hulls.proofs.Around.{Holds, around_inside}
use Rattle.outline_slab.specs.Rules.{IsPointWithin, IsKeptOutline}
use Rattle.grid_num.specs.declared.Point.{Point}
use Rattle.classes.specs.Classes.{IsOneOf}
use Rattle.board_language.specs.declared.board.Pad.{Pad}
use Rattle.board_language.specs.Board.{Board}
use Rattle.board_language.specs.Copper.{pad_hulls}
use Rattle.board_language.specs.Facts.{IsSoundZone, IsSoundBoard}
use Rattle.board_language.proofs.Members.{one_of_append, one_of_flat, one_of_map, all_one_of}
use Rattle.fill_rules.specs.Tasks.{Task, Settings, ranked, task_at, task_zone, zone_at, layer_at, no_zone}
use Rattle.fill_rules.specs.Ranking.{IsTask}
use Rattle.fill_rules.specs.Needs.{keep_when}
use Rattle.fill_rules.specs.Reliefs.{brush_radius, half_bridge, gap_of, is_thermal, spokes_by, pad_spokes, spokes_of}
use Rattle.fill_rules.specs.Fill.{fill_of}
use Rattle.fill_rules.specs.Made.{Made}
use Rattle.fill_rules.proofs.Fills.{fills_meet}
use Rattle.fill_rules.proofs.Members.{one_of_when}
use Rattle.fill_rules.proofs.Reach.{fill_in_frame}
use Rattle.fill_rules.proofs.Sound.{IsFillable, fillable}
use Rattle.grid_sets.specs.Cells.{cells_of}
use Rattle.grid_sets.proofs.Apart.{cells_tight_law}
use Rattle.fills.specs.Fills.{IsCounted, brushed, ArePieces, IsFillOf}
use Rattle.fills.proofs.Points.{fill_points, those_hold}
use Rattle.knockouts.proofs.Boxes.{box_tight}
use Rattle.knockouts.proofs.Near.{member}
use Rattle.knockouts.proofs.Reading.{task_of_rank}

-- the zone of a task is one of the board's
pub zone_sound : (b : Board) → IsSoundBoard b → (t : Task) → IsTask b t → IsSoundZone (length b.layers) (task_zone b t)
unfolding task_zone
zone_sound b s t h = s.zones t.zone no_zone h.zone

-- ---- tight

reach_order : (x y m n : ℤ) (a c : ℕ) → x ≤ℤ y → m ≡ x -ℤ pos a → n ≡ y +ℤ pos c → m ≤ℤ n
reach_order x y m n a c l em en = omega (arith, ints, l, em, en)

four_tight : (x y : ℤ) (r h c : ℕ) (o g : Bounds) → Within g x y → IsOneOf o (spokes_by x y (pos r) (pos h) (pos c) g) → IsTight o
unfolding IsOneOf
four_tight x y r h c o g w (inl e) =
    subst IsTight (sym e) (box_tight _ _ _ _ (reach_order x g.x1 _ _ r c w.x_high refl refl) (reach_order y y _ _ h h (omega (arith, ints)) refl refl))
four_tight x y r h c o g w (inr (inl e)) =
    subst IsTight (sym e) (box_tight _ _ _ _ (reach_order x x _ _ h h (omega (arith, ints)) refl refl) (reach_order y g.y1 _ _ r c w.y_high refl refl))
four_tight x y r h c o g w (inr (inr (inl e))) =
    subst IsTight (sym e) (box_tight _ _ _ _ (reach_order g.x0 x _ _ c r w.x_low refl refl) (reach_order y y _ _ h h (omega (arith, ints)) refl refl))
four_tight x y r h c o g w (inr (inr (inr (inl e)))) =
    subst IsTight (sym e) (box_tight _ _ _ _ (reach_order x x _ _ h h (omega (arith, ints)) refl refl) (reach_order g.y0 y _ _ c r w.y_low refl refl))
four_tight x y r h c o g w (inr (inr (inr (inr none)))) = absurd none

spoke_tight : (b : Board) → IsFillable b → (z : Settings) (l : ℕ) (o : Bounds) → IsOneOf o (spokes_of b z l) → IsTight o
unfolding spokes_of pad_spokes
spoke_tight b s z l o i =
    let r = one_of_flat (λ (p : Pad). keep_when (is_thermal z l p) (pad_spokes z p)) o b.pads i in
    let p = r.0 in
    let four = one_of_flat (spokes_by (floor_of 2 p.at.x) (floor_of 2 p.at.y) (pos (brush_radius z)) (pos (half_bridge z p)) (pos (gap_of z p + brush_radius z))) o (pad_hulls p)
    (one_of_when (is_thermal z l p) o (pad_spokes z p) r.2) in
    four_tight (floor_of 2 p.at.x) (floor_of 2 p.at.y) (brush_radius z) (half_bridge z p) (gap_of z p + brush_radius z) o four.0 (s.centred p r.1 four.0 four.1) four.2

pub pieces_tight : (b : Board) → IsFillable b → (i : ℕ) (ps : List Bounds) (n : ℕ) → ArePieces b i ps n → (o : Bounds) → IsOneOf o ps → IsTight o
pieces_tight b s i ps n h o m =
    let r = brush_radius (zone_at b i) in
    elim (one_of_append o (map (brushed r) (cells_of h.bands)) h.counted (subst (IsOneOf o) h.in_order m)) [
      | inl l ↦
          let cell = one_of_map (brushed r) o (cells_of h.bands) l in
          let tight : IsTight cell.0 = all_one_of IsTight (cells_of h.bands) cell.0 (cells_tight_law h.rows h.bands h.are_rows.are h.are_bands) cell.1 in
          subst IsTight (sym cell.2) (IsTight-sum cell.0 (ball_of r) tight (IsTight-ball r))
      | inr k ↦
          let counted = those_hold (IsCounted b i) (spokes_of b (zone_at b i) (layer_at b i)) h.counted h.are_counted o k in
          spoke_tight b s (zone_at b i) (layer_at b i) o counted.live.spoke
    ]

-- ---- near

to_grid : (o : Bounds) (x y : ℤ) → Within o x y → In o (grid_point x y)
to_grid o x y h = record {
  x_low = omega (arith, ints, h.x_low);
  x_high = omega (arith, ints, h.x_high);
  y_low = omega (arith, ints, h.y_low);
  y_high = omega (arith, ints, h.y_high);
  s_low = omega (arith, ints, h.s_low);
  s_high = omega (arith, ints, h.s_high);
  d_low = omega (arith, ints, h.d_low);
  d_high = omega (arith, ints, h.d_high);
}

-- what is far enough to hold every place within m of 0, in x and in y
abbrev wide_box : ℕ → Bounds
wide_box m = box_of (neg_ℤ (pos m)) (pos m) (neg_ℤ (pos m)) (pos m)

corner_in : (m : ℕ) (p : Point) → IsPointWithin m p → Holds (wide_box m) p
corner_in m p h = record {
  x_low = omega (arith, ints, h.x.low);
  x_high = omega (arith, ints, h.x.high);
  y_low = omega (arith, ints, h.y.low);
  y_high = omega (arith, ints, h.y.high);
  s_low = omega (arith, ints, h.x.low, h.y.low);
  s_high = omega (arith, ints, h.x.high, h.y.high);
  d_low = omega (arith, ints, h.x.low, h.y.high);
  d_high = omega (arith, ints, h.x.high, h.y.low);
}

in_frame : (ps : List Point) (m : ℕ) → IsKeptOutline ps → All (IsPointWithin m) ps → (x y : ℤ) → In (around ps) (grid_point x y) → IsNearZero m x × IsNearZero m y
in_frame ps m k near x y i =
    let three = k.simple.three in
    let inside = around_inside ps (wide_box m) (omega (arith, three)) (λ n d l. corner_in m _ (near n d l)) in (
      record { low = omega (arith, ints, inside.x0, i.x_low); high = omega (arith, ints, inside.x1, i.x_high) },
      record { low = omega (arith, ints, inside.y0, i.y_low); high = omega (arith, ints, inside.y1, i.y_high) },
    )

-- the pieces of a task's fill lie within half a metre, in x and in y, and its zone is one of the board's
pub piece_near : (b : Board) → IsSoundBoard b → (j : ℕ) → j < length (ranked b) → (f : Made) → IsFillOf b j f
    → All (IsAround 250000000) f.pieces × IsSoundZone (length b.layers) (task_zone b f.task)
unfolding zone_at
piece_near b s j l f w =
    let z : IsSoundZone (length b.layers) (task_zone b (task_at b j)) = zone_sound b s (task_at b j) (task_of_rank b j l) in
    let kept = z.outline.kept in (
      all_of (IsAround 250000000) f.pieces (λ o m.
          points_reach 250000000 o (pieces_tight b (fillable b s) j f.pieces f.spokes w.pieces o m)
          (λ x y i.
          (let p = grid_point x y in
          let fill : fill_of b j p = (fill_points b s j f w p).0 (o, m, to_grid o x y i) in
          let framed = fill_in_frame b (fillable b s) (fill_of b) j p ((fills_meet b j p).0 fill) in
          in_frame (task_zone b (task_at b j)).outline 250000000 kept kept.within x y framed))),
      subst (λ (t : Task). IsSoundZone (length b.layers) (task_zone b t)) (sym w.task) z,
    )
  where
    all_of : {A : Type 0} (P : A → Type 0) (xs : List A) → ((x : A) → IsOneOf x xs → P x) → All P xs
    all_of P xs h k d l = h _ (member xs k d l)
