-- The points of the pieces are those of the fill; the last pieces are the spokes that count.
use Rattle.std.proofs.Common.{◌≡◌, refl, sym, ap, subst, ℕ, zero, suc, ◌+◌, ◌-◌, ◌≤◌, ◌<◌, get_or, inl, inr, arith, lit≤, List, [], ◌∷◌, ◌++◌, length}
use Rattle.std.specs.Prelude.{◌↔◌, map, drop}
use Rattle.std.specs.List.{All}
use Rattle.std.proofs.lemmas.List.Elements.{All-head, All-tail}
use Rattle.plane.specs.Plane.{PlanePoint, Bounds, In, IsTight, ball_of, sum_of}
use Rattle.plane.proofs.Near.{IsTight-ball}
use Rattle.plane.proofs.Points.{IsInSum-In, In-IsInSum}
use Rattle.classes.specs.Classes.{IsOneOf}
use Rattle.classes.proofs.Reaching.{reaches_self}
use Rattle.grid_num.specs.declared.Point.{Point}
use Rattle.board_language.specs.declared.board.Zone.{Zone}
use Rattle.board_language.specs.Board.{Board}
use Rattle.fill_rules.specs.Tasks.{ranked, task_zone, zone_at, task_at, layer_at, no_zone}
use Rattle.fill_rules.specs.Reliefs.{brush_radius, spokes_of}
use Rattle.fill_rules.specs.Fill.{brush_at, IsKept, InFill, fill_of}
use Rattle.fill_rules.specs.Lists.{InOne, covered_by}
use Rattle.islands.specs.Parts.{IsMeetingAt}
use Rattle.fill_rules.proofs.Sound.{IsFillable, fillable}
use Rattle.fill_rules.proofs.Fills.{fills_meet, fill_agree}
use Rattle.islands.proofs.PartLaws.{parts_same}
use Rattle.board_language.proofs.Members.{one_of_append, append_left, append_right, get_or_is}
use Rattle.grid_sets.specs.Cells.{cells_of, OnBrushed, IsBrushedByRows}
use Rattle.grid_sets.proofs.Apart.{cells_tight_law}
use Rattle.grid_sets.proofs.Brushed.{cells_brush_law}
use Rattle.fill_rules.specs.Made.{Made, no_fill}
use Rattle.fills.specs.Fills.{IsCounted, AreThose, brushed, ArePieces, IsFillOf}
use Rattle.fills.specs.Laws.{AllFillsLaw, FillPointsLaw, FillSpokesLaw, FillPartsLaw}

-- ---- the spokes that count
module _ (P : Bounds → Type 0) where
  pub those_hold : (os chosen : List Bounds) → AreThose P os chosen → (o : Bounds) → IsOneOf o chosen → P o
  unfolding IsOneOf
  those_hold [] chosen a o h = absurd (subst (IsOneOf o) a h)
  those_hold (x ∷ os) chosen (inl (n, a)) o h = those_hold os chosen a o h
  those_hold (x ∷ os) chosen (inr (p, (rest, e, a))) o h = elim (subst (IsOneOf o) e h) [
    | inl f ↦ subst P (sym f) p
    | inr g ↦ those_hold os rest a o g
  ]

  pub held_chosen : (os chosen : List Bounds) → AreThose P os chosen → (o : Bounds) → IsOneOf o os → P o → IsOneOf o chosen
  unfolding IsOneOf
  held_chosen [] chosen a o h p = absurd h
  held_chosen (x ∷ os) chosen (inl (n, a)) o (inl f) p = absurd (n (subst P f p))
  held_chosen (x ∷ os) chosen (inl (n, a)) o (inr g) p = held_chosen os chosen a o g p
  held_chosen (x ∷ os) chosen (inr (q, (rest, e, a))) o (inl f) p = subst (IsOneOf o) (sym e) (inl f)
  held_chosen (x ∷ os) chosen (inr (q, (rest, e, a))) o (inr g) p = subst (IsOneOf o) (sym e) (inr (held_chosen os rest a o g p))

pub counted_is : (b : Board) (i : ℕ) (ps : List Bounds) (n : ℕ) (h : ArePieces b i ps n) (o : Bounds) → IsOneOf o h.counted ↔ IsCounted b i o
counted_is b i ps n h o = (
  λ m. those_hold (IsCounted b i) (spokes_of b (zone_at b i) (layer_at b i)) h.counted h.are_counted o m,
  λ c. held_chosen (IsCounted b i) (spokes_of b (zone_at b i) (layer_at b i)) h.counted h.are_counted o c.live.spoke c,
)

-- ---- the cells, each plus the brush
brushed_some : (r : ℕ) (cells : List Bounds) (p : PlanePoint) → InOne (map (brushed r) cells) p → All IsTight cells → OnBrushed r cells p
unfolding IsOneOf
brushed_some r [] p (o, m, n) t = absurd m
brushed_some r (c ∷ cells) p (o, inl e, n) t =
    inl (In-IsInSum c (ball_of r) p (All-head IsTight c cells t) (IsTight-ball r) (subst (λ (u : Bounds). In u p) e n))
brushed_some r (c ∷ cells) p (o, inr m, n) t = inr (brushed_some r cells p (o, m, n) (All-tail IsTight c cells t))

some_brushed : (r : ℕ) (cells : List Bounds) (p : PlanePoint) → OnBrushed r cells p → InOne (map (brushed r) cells) p
unfolding IsOneOf
some_brushed r [] p h = absurd h
some_brushed r (c ∷ cells) p (inl h) = (sum_of c (ball_of r), inl refl, IsInSum-In c (ball_of r) p h)
some_brushed r (c ∷ cells) p (inr h) = let w = some_brushed r cells p h in (w.0, inr w.1, w.2)

-- ---- both together
IsThick : Zone → Type 0
IsThick z = 1000 ≤ z.thickness

pub wide : (b : Board) → IsFillable b → (i : ℕ) → 250 ≤ brush_radius (zone_at b i)
unfolding IsThick task_zone zone_at
wide b s i =
    let t : 1000 ≤ (zone_at b i).thickness = get_or_is IsThick b.zones (task_at b i).zone no_zone (lit≤ tt) s.thick in
    omega arith

by_kept : (b : Board) (i : ℕ) (ps : List Bounds) (n : ℕ) (h : ArePieces b i ps n) (p : PlanePoint)
    → IsBrushedByRows (brush_radius (zone_at b i)) h.rows p → (c : Point) × IsKept b (fill_of b) i c × In (brush_at b i c) p
unfolding IsBrushedByRows brush_at
by_kept b i ps n h p (x, y, on, at) = (record { x = x; y = y }, (h.are_rows.same x y).0 on, at)

kept_by : (b : Board) (i : ℕ) (ps : List Bounds) (n : ℕ) (h : ArePieces b i ps n) (p : PlanePoint) (c : Point)
    → IsKept b (fill_of b) i c → In (brush_at b i c) p → IsBrushedByRows (brush_radius (zone_at b i)) h.rows p
unfolding IsBrushedByRows brush_at
kept_by b i ps n h p c k at = (c.x, c.y, (h.are_rows.same c.x c.y).1 k, at)

module _ (b : Board) (s : IsFillable b) (i : ℕ) (ps : List Bounds) (n : ℕ) (h : ArePieces b i ps n) (p : PlanePoint) where
  cells_to : InOne (map (brushed (brush_radius (zone_at b i))) (cells_of h.bands)) p → InFill b (fill_of b) i p
  unfolding InFill
  cells_to w =
      let r = brush_radius (zone_at b i) in
      let on = brushed_some r (cells_of h.bands) p w (cells_tight_law h.rows h.bands h.are_rows.are h.are_bands) in
      inl (by_kept b i ps n h p ((cells_brush_law r h.rows h.bands p (wide b s i) h.are_rows.are h.are_bands).0 on))

  spokes_to : InOne h.counted p → InFill b (fill_of b) i p
  unfolding InFill
  spokes_to (o, m, at) = let c = (counted_is b i ps n h o).0 m in inr (o, c.live, at, c.meets)

  pieces_to : InOne ps p → InFill b (fill_of b) i p
  pieces_to (o, m, at) = elim (one_of_append o (map (brushed (brush_radius (zone_at b i))) (cells_of h.bands)) h.counted (subst (IsOneOf o) h.in_order m)) [
    | inl l ↦ cells_to (o, l, at)
    | inr l ↦ spokes_to (o, l, at)
  ]

  from_cells : (c : Point) → IsKept b (fill_of b) i c → In (brush_at b i c) p → InOne ps p
  from_cells c k at =
      let r = brush_radius (zone_at b i) in
      let on = (cells_brush_law r h.rows h.bands p (wide b s i) h.are_rows.are h.are_bands).1 (kept_by b i ps n h p c k at) in
      let w = some_brushed r (cells_of h.bands) p on in
      (w.0, subst (IsOneOf w.0) (sym h.in_order) (append_left w.0 (map (brushed (brush_radius (zone_at b i))) (cells_of h.bands)) h.counted w.1), w.2)

  from_spokes : (o : Bounds) → IsCounted b i o → In o p → InOne ps p
  from_spokes o c at =
      (o, subst (IsOneOf o) (sym h.in_order) (append_right o (map (brushed (brush_radius (zone_at b i))) (cells_of h.bands)) h.counted ((counted_is b i ps n h o).1 c)), at)

  to_pieces : InFill b (fill_of b) i p → InOne ps p
  unfolding InFill
  to_pieces (inl (c, k, at)) = from_cells c k at
  to_pieces (inr (o, l, at, m)) = from_spokes o (record { live = l; meets = m }) at

fill_points_of : (b : Board) → IsFillable b → (i : ℕ) (f : Made) → IsFillOf b i f → (p : PlanePoint) → InOne f.pieces p ↔ fill_of b i p
fill_points_of b s i f w p = (
  λ m. (fills_meet b i p).1 (pieces_to b s i f.pieces f.spokes w.pieces p m),
  λ m. to_pieces b s i f.pieces f.spokes w.pieces p ((fills_meet b i p).0 m),
)

pub fill_points : FillPointsLaw
fill_points b s = fill_points_of b (fillable b s)

-- ---- the last pieces
drop_append : (xs ys : List Bounds) (n : ℕ) → n ≡ length xs → drop n (xs ++ ys) ≡ ys
drop_append [] ys n e = ap (λ (k : ℕ). drop k ys) e
drop_append (x ∷ xs) ys zero e = absurd (omega (arith, e))
drop_append (x ∷ xs) ys (suc n) e = drop_append xs ys n (omega (arith, e))

length_append : (xs ys : List Bounds) → length (xs ++ ys) ≡ length xs + length ys
length_append [] ys = omega arith
length_append (x ∷ xs) ys = let t = length_append xs ys in omega (arith, t)

last_are : (xs ys ps : List Bounds) (n : ℕ) → ps ≡ xs ++ ys → n ≡ length ys → drop (length ps - n) ps ≡ ys
last_are xs ys ps n e f =
    subst (λ (qs : List Bounds). drop (length qs - n) qs ≡ ys) (sym e)
    (drop_append xs ys (length (xs ++ ys) - n) (let l = length_append xs ys in omega (arith, l, f)))

pub spokes_last : FillSpokesLaw
spokes_last b i f w o =
    let h = w.pieces in
    let e = last_are (map (brushed (brush_radius (zone_at b i))) (cells_of h.bands)) h.counted f.pieces f.spokes h.in_order h.last in
    let c = counted_is b i f.pieces f.spokes h o in
    (λ m. c.0 (subst (IsOneOf o) e m), λ m. subst (IsOneOf o) (sym e) (c.1 m))

pub parts_are : FillPartsLaw
parts_are = record {
  one = λ b i f w j k l m. parts_same f.pieces f.parts w.parts j k l m;
  first = λ b i f w k l. (w.parts.least k l).least k (reaches_self (IsMeetingAt f.pieces) k);
  each = λ b i f w. w.parts.each;
}

-- ---- the fills of all tasks
pieces_at : (fills : List Made) (i : ℕ) → get_or (map (λ (f : Made). f.pieces) fills) i [] ≡ (get_or fills i no_fill).pieces
pieces_at [] i = refl
pieces_at (f ∷ fills) zero = refl
pieces_at (f ∷ fills) (suc i) = pieces_at fills i

module _ (b : Board) (s : IsFillable b) (fills : List Made) (h : (i : ℕ) → i < length (ranked b) → IsFillOf b i (get_or fills i no_fill)) where
  lists : List (List Bounds)
  lists = map (λ (f : Made). f.pieces) fills

  covers : (i : ℕ) → i < length (ranked b) → (p : PlanePoint) → covered_by lists i p ↔ fill_of b i p
  unfolding lists
  covers i l p =
      let f = fill_points_of b s i (get_or fills i no_fill) (h i l) p in (
        λ x. f.0 (subst (λ (os : List Bounds). InOne os p) (pieces_at fills i) x),
        λ x. subst (λ (os : List Bounds). InOne os p) (sym (pieces_at fills i)) (f.1 x),
      )

  in_turn : (i : ℕ) → i < length (ranked b) → (p : PlanePoint) → covered_by lists i p ↔ InFill b (covered_by lists) i p
  in_turn i l p =
      let a = fill_agree b (covered_by lists) (fill_of b) i (λ j q m. covers j (omega (arith, l, m)) q) p in
      let m = fills_meet b i p in
      let c = covers i l p in
      (λ x. a.1 (m.0 (c.0 x)), λ x. c.1 (m.1 (a.0 x)))

pub all_fills : AllFillsLaw
unfolding lists
all_fills b s fills h = record { each = in_turn b (fillable b s) fills h }
