-- The boundary of strips that are cut at a row is the boundary, cut at the row.
use Rattle.std.proofs.Common.{◌≡◌, refl, sym, subst, ap, ◌∙◌, ◌⊎◌, inl, inr, arith, lit≤, List, true}
use Rattle.std.specs.Prelude.{ℤ, pos, ◌+ℤ◌, ◌*ℤ◌, ◌<ℤ◌, ◌≤ℤ◌}
use Rattle.std.specs.List.Sorted.{IsPermutation}
use Rattle.std.proofs.lemmas.Int.{ints}
use Rattle.plane.specs.Plane.{PlanePoint}
use Rattle.grid_num.specs.declared.Point.{Point}
use Rattle.plane.specs.Covering.{Edge}
use Rattle.plane.proofs.On.{same_pos}
use Rattle.strips.specs.declared.Strip.{Strip}
use Rattle.strips.specs.Strips.{IsTrapezoid, IsSloped, AreApartInSlab}
use Rattle.rings.specs.Slits.{first_part, second_part}
use Rattle.rings.specs.Boundary.{left_edge, right_edge, side_edges, IsCorner, HasCopperAbove, HasCopperBelow, IsStrictlyFrom, AreNeighbours, IsLevelPart, AreBoundary}
use Rattle.rings.proofs.Lists.{Has}
use Rattle.rings.proofs.Parted.{parted_apart}
use Rattle.rings.proofs.Slits.{has_any, any_has}
use Rattle.rings.proofs.Sides.{AreOrdered, beside}
use Rattle.rings.proofs.Boundary.{IsSide, Left, Right, IsBound, Side, Level, is_side, is_bound, bound_has, left_has, right_has, boundary_good, boundary_parted, boundary_once}
use Rattle.rings.proofs.Rows.{IsUnder, IsOver, under_of, of_under, over_of, of_over, top_left, top_right, bottom_left, bottom_right}
use Rattle.rings.proofs.Reach.{row_outside}
use Rattle.rings.proofs.Parts.{boundary_exists}
use Rattle.same_points.specs.Cuts.{side_at, upper_part, lower_part, cut}
use Rattle.same_points.specs.Edges.{is_crossed, crossing_place, begin_of, final_of, parted}
use Rattle.same_points.proofs.Sides.{side_is, at_same, at_back, bool_cases}
use Rattle.same_points.proofs.Edges.{between_cases, up_between, down_between, IsCuttable, IsCutOf, First, Final, first_true, first_false, final_true, has_parted, cut_has, parted_once, permuted_of}
use Rattle.same_points.proofs.Pieces.{left_in, right_in, left_at, wide_in, IsCrossing, Stands, Over, Under, Across, stands, IsPiece, Whole, Upper, Lower, piece_of, has_over, has_under, has_upper, has_lower}
use Rattle.same_points.proofs.Order.{gap_in, cut_ordered}

-- ---- where the sides of a strip cross the row
sloped_back : (t u l le : ℤ) → IsSloped t u l le → IsSloped u t le l
sloped_back t u l le (inl e) = inl (sym e)
sloped_back t u l le (inr (inl e)) = inr (inl (omega (arith, ints, e)))
sloped_back t u l le (inr (inr e)) = inr (inr (omega (arith, ints, e)))

abbrev at : ℤ → ℤ → Point
at x y = record { x = x; y = y }

left_place : (r : ℤ) (s : Strip) → IsTrapezoid s → crossing_place r (left_edge s) ≡ at (left_in r s) r
unfolding crossing_place
left_place r s h =
    let a = at_back s.bottom s.top s.left_end s.left r (side_at s.bottom s.top s.left_end s.left r) (side_is s.bottom s.top s.left_end s.left r (inr h.down) (sloped_back s.top s.bottom s.left s.left_end h.left)) in
    ap (λ (z : ℤ). at z r) (at_same s.top s.bottom s.left s.left_end r (side_at s.bottom s.top s.left_end s.left r) (left_in r s) (inl h.down) a (left_at r s h))

right_place : (r : ℤ) (s : Strip) → crossing_place r (right_edge s) ≡ at (right_in r s) r
unfolding crossing_place
right_place r s = refl

left_crossed : (r : ℤ) (s : Strip) → IsCrossing r s → is_crossed r (left_edge s) ≡ true
left_crossed r s c = down_between s.bottom r s.top c.over c.under

right_crossed : (r : ℤ) (s : Strip) → IsCrossing r s → is_crossed r (right_edge s) ≡ true
right_crossed r s c = up_between s.top r s.bottom c.over c.under

left_crosses : (r : ℤ) (s : Strip) → s.top <ℤ s.bottom → is_crossed r (left_edge s) ≡ true → IsCrossing r s
left_crosses r s d h = elim (between_cases s.bottom r s.top h) [ inl k ↦ absurd (let a = k.0 in let b = k.1 in omega (arith, ints, a, b, d)) | inr k ↦ record { over = k.0; under = k.1 } ]

right_crosses : (r : ℤ) (s : Strip) → s.top <ℤ s.bottom → is_crossed r (right_edge s) ≡ true → IsCrossing r s
right_crosses r s d h = elim (between_cases s.top r s.bottom h) [ inl k ↦ record { over = k.0; under = k.1 } | inr k ↦ absurd (let a = k.0 in let b = k.1 in omega (arith, ints, a, b, d)) ]

-- the parts of the sides are the sides of the parts
left_first : (r : ℤ) (s : Strip) → IsTrapezoid s → IsCrossing r s → begin_of r (left_edge s) ≡ left_edge (lower_part r s)
left_first r s h c = first_true r (left_edge s) (left_crossed r s c) ∙ ap (first_part (left_edge s)) (left_place r s h)

left_final : (r : ℤ) (s : Strip) → IsTrapezoid s → IsCrossing r s → final_of r (left_edge s) ≡ left_edge (upper_part r s)
left_final r s h c = final_true r (left_edge s) (left_crossed r s c) ∙ ap (second_part (left_edge s)) (left_place r s h)

right_first : (r : ℤ) (s : Strip) → IsCrossing r s → begin_of r (right_edge s) ≡ right_edge (upper_part r s)
right_first r s c = first_true r (right_edge s) (right_crossed r s c) ∙ ap (first_part (right_edge s)) (right_place r s)

right_final : (r : ℤ) (s : Strip) → IsCrossing r s → final_of r (right_edge s) ≡ right_edge (lower_part r s)
right_final r s c = final_true r (right_edge s) (right_crossed r s c) ∙ ap (second_part (right_edge s)) (right_place r s)

not_crossing : (r : ℤ) (s : Strip) → (s.bottom ≤ℤ r) ⊎ (r ≤ℤ s.top) → IsCrossing r s → ⊥
not_crossing r s (inl l) c = let a = c.under in omega (arith, ints, l, a)
not_crossing r s (inr l) c = let a = c.over in omega (arith, ints, l, a)

left_whole : (r : ℤ) (s : Strip) → s.top <ℤ s.bottom → (s.bottom ≤ℤ r) ⊎ (r ≤ℤ s.top) → begin_of r (left_edge s) ≡ left_edge s
left_whole r s d l = elim (bool_cases (is_crossed r (left_edge s))) [ inl h ↦ absurd (not_crossing r s l (left_crosses r s d h)) | inr h ↦ first_false r (left_edge s) h ]

right_whole : (r : ℤ) (s : Strip) → s.top <ℤ s.bottom → (s.bottom ≤ℤ r) ⊎ (r ≤ℤ s.top) → begin_of r (right_edge s) ≡ right_edge s
right_whole r s d l = elim (bool_cases (is_crossed r (right_edge s))) [ inl h ↦ absurd (not_crossing r s l (right_crosses r s d h)) | inr h ↦ first_false r (right_edge s) h ]

-- ---- the boundary may be cut at the row
record IsCrossedSide (r : ℤ) (ss : List Strip) (e : Edge) : Type 0 where
  strip : Strip
  one : Has ss strip
  crossing : IsCrossing r strip
  is : ((e ≡ left_edge strip) × ((crossing_place r e).x ≡ left_in r strip)) ⊎ ((e ≡ right_edge strip) × ((crossing_place r e).x ≡ right_in r strip))

level_flat : (ss : List Strip) (e : Edge) → IsLevelPart ss e → e.start.y ≡ e.finish.y
unfolding IsLevelPart
level_flat ss e (inl (n, h)) = n.level
level_flat ss e (inr (n, h)) = sym n.level

crossed_side : (r : ℤ) (ss : List Strip) (e : Edge) → AreOrdered ss → IsBound ss e → is_crossed r e ≡ true → IsCrossedSide r ss e
crossed_side r ss e o (Side (Left s h k)) x = record {
  strip = s;
  one = h;
  crossing = left_crosses r s (o.shape s h).down (subst (λ z. is_crossed r z ≡ true) k x);
  is = inl (k, ap (λ z. (crossing_place r z).x) k ∙ ap (λ (z : Point). z.x) (left_place r s (o.shape s h)));
}
crossed_side r ss e o (Side (Right s h k)) x = record {
  strip = s;
  one = h;
  crossing = right_crosses r s (o.shape s h).down (subst (λ z. is_crossed r z ≡ true) k x);
  is = inr (k, ap (λ z. (crossing_place r z).x) k ∙ ap (λ (z : Point). z.x) (right_place r s));
}
crossed_side r ss e o (Level l) x = absurd (let m = between_cases e.start.y r e.finish.y x in let k = level_flat ss e l in omega (arith, ints, m, k))

start_corner : (ss : List Strip) (e : Edge) → IsBound ss e → IsCorner ss e.start
unfolding IsCorner IsLevelPart
start_corner ss e (Side (Left s h k)) = has_any (λ f. (e.start ≡ f.start) ⊎ (e.start ≡ f.finish)) (side_edges ss) (left_edge s) (left_has ss s h) (inl (ap (λ z. z.start) k))
start_corner ss e (Side (Right s h k)) = has_any (λ f. (e.start ≡ f.start) ⊎ (e.start ≡ f.finish)) (side_edges ss) (right_edge s) (right_has ss s h) (inl (ap (λ z. z.start) k))
start_corner ss e (Level (inl (n, g))) = n.first
start_corner ss e (Level (inr (n, g))) = n.second

-- no corner is in a row that crosses a strip
no_corner : (r : ℤ) (ss : List Strip) (s : Strip) (a : Point) → AreOrdered ss → Has ss s → IsCrossing r s → IsCorner ss a → a.y ≡ r → ⊥
no_corner r ss s a o h c i k = row_outside ss a s o i h (subst (λ (z : ℤ). s.top <ℤ z) (sym k) c.over) (subst (λ (z : ℤ). z <ℤ s.bottom) (sym k) c.under)

crossing_same : (r : ℤ) (s t : Strip) → s.top ≡ t.top → s.bottom ≡ t.bottom → IsCrossing r s → IsCrossing r t
crossing_same r s t e f c = record { over = subst (λ (z : ℤ). z <ℤ r) e c.over; under = subst (λ (z : ℤ). r <ℤ z) f c.under }

-- two sides that cross the row at one crossing_place are one side
same_place : (r : ℤ) (ss : List Strip) (e f : Edge) → AreOrdered ss → IsCrossedSide r ss e → IsCrossedSide r ss f → (crossing_place r e).x ≡ (crossing_place r f).x → e ≡ f
same_place r ss e f o a b k =
    let s = a.strip in
    let t = b.strip in
    let h = o.shape s a.one in
    let i = o.shape t b.one in
    let c = a.crossing in
    let d = b.crossing in
    let n = beside ss o s t a.one b.one (rows s.top r t.bottom c.over d.under) (rows t.top r s.bottom d.over c.under) in
    by s t h i c d n.top n.bottom n.are a.is b.is
  where
    rows : (x y z : ℤ) → x <ℤ y → y <ℤ z → x <ℤ z
    rows x y z l m = omega (arith, ints, l, m)

    by : (s t : Strip) → IsTrapezoid s → IsTrapezoid t → IsCrossing r s → IsCrossing r t → s.top ≡ t.top → s.bottom ≡ t.bottom → (s ≡ t) ⊎ (AreApartInSlab s t ⊎ AreApartInSlab t s)
        → ((e ≡ left_edge s) × ((crossing_place r e).x ≡ left_in r s)) ⊎ ((e ≡ right_edge s) × ((crossing_place r e).x ≡ right_in r s))
        → ((f ≡ left_edge t) × ((crossing_place r f).x ≡ left_in r t)) ⊎ ((f ≡ right_edge t) × ((crossing_place r f).x ≡ right_in r t)) → e ≡ f
    by s t h i c d x y (inl m) (inl u) (inl v) = u.0 ∙ ap left_edge m ∙ sym v.0
    by s t h i c d x y (inl m) (inr u) (inr v) = u.0 ∙ ap right_edge m ∙ sym v.0
    by s t h i c d x y (inl m) (inl u) (inr v) =
        absurd (let w = wide_in r s h c in let q = ap (λ z. right_in r z) m in let u1 = u.1 in let v1 = v.1 in omega (arith, ints, w, q, u1, v1, k))
    by s t h i c d x y (inl m) (inr u) (inl v) =
        absurd (let w = wide_in r s h c in let q = ap (λ z. left_in r z) m in let u1 = u.1 in let v1 = v.1 in omega (arith, ints, w, q, u1, v1, k))
    by s t h i c d x y (inr (inl m)) u v =
        absurd (let g = gap_in r s t h i c x y m in let w = wide_in r s h c in let w2 = wide_in r t i d in less (left_in r s) (right_in r s) (left_in r t) (right_in r t) w g w2 (ends (left_in r s) (right_in r s) (left_edge s) (right_edge s) e u) (ends (left_in r t) (right_in r t) (left_edge t) (right_edge t) f v))
      where
        ends : (p q : ℤ) (g h d : Edge) → ((d ≡ g) × ((crossing_place r d).x ≡ p)) ⊎ ((d ≡ h) × ((crossing_place r d).x ≡ q)) → ((crossing_place r d).x ≡ p) ⊎ ((crossing_place r d).x ≡ q)
        ends p q g h d (inl n) = inl n.1
        ends p q g h d (inr n) = inr n.1

        less : (a b c d : ℤ) → a <ℤ b → b <ℤ c → c <ℤ d → ((crossing_place r e).x ≡ a) ⊎ ((crossing_place r e).x ≡ b) → ((crossing_place r f).x ≡ c) ⊎ ((crossing_place r f).x ≡ d) → ⊥
        less a b c d l m n u v = omega (arith, ints, l, m, n, u, v, k)
    by s t h i c d x y (inr (inr m)) u v =
        absurd (let g = gap_in r t s i h d (sym x) (sym y) m in let w = wide_in r s h c in let w2 = wide_in r t i d in less (left_in r t) (right_in r t) (left_in r s) (right_in r s) w2 g w (ends (left_in r t) (right_in r t) (left_edge t) (right_edge t) f v) (ends (left_in r s) (right_in r s) (left_edge s) (right_edge s) e u))
      where
        ends : (p q : ℤ) (g h d : Edge) → ((d ≡ g) × ((crossing_place r d).x ≡ p)) ⊎ ((d ≡ h) × ((crossing_place r d).x ≡ q)) → ((crossing_place r d).x ≡ p) ⊎ ((crossing_place r d).x ≡ q)
        ends p q g h d (inl n) = inl n.1
        ends p q g h d (inr n) = inr n.1

        less : (a b c d : ℤ) → a <ℤ b → b <ℤ c → c <ℤ d → ((crossing_place r f).x ≡ a) ⊎ ((crossing_place r f).x ≡ b) → ((crossing_place r e).x ≡ c) ⊎ ((crossing_place r e).x ≡ d) → ⊥
        less a b c d l m n u v = omega (arith, ints, l, m, n, u, v, k)

pub boundary_cuttable : (r : ℤ) (ss : List Strip) (es : List Edge) → AreOrdered ss → AreBoundary ss es → IsCuttable r es
boundary_cuttable r ss es o b = record {
  good = boundary_good ss es o b;
  apart = parted_apart es (boundary_good ss es o b) (boundary_parted ss es o b);
  clear = λ e f h i x k. (let a = crossed_side r ss e o (is_bound ss es b e h) x in no_corner r ss a.strip f.start o a.one a.crossing (start_corner ss f (is_bound ss es b f i)) k);
  places = λ e f h i x y k. same_place r ss e f o (crossed_side r ss e o (is_bound ss es b e h) x) (crossed_side r ss f o (is_bound ss es b f i) y) (ap (λ (z : Point). z.x) k);
}

-- ---- corners
data IsEnd (s : Strip) (a : Point) : Type 0 where
  TopLeft : a ≡ at s.left s.top → IsEnd s a
  TopRight : a ≡ at s.right s.top → IsEnd s a
  BottomLeft : a ≡ at s.left_end s.bottom → IsEnd s a
  BottomRight : a ≡ at s.right_end s.bottom → IsEnd s a

corner_strip : (ss : List Strip) (a : Point) → IsCorner ss a → (s : Strip) × Has ss s × IsEnd s a
unfolding IsCorner
corner_strip ss a c = let x = any_has (λ e. (a ≡ e.start) ⊎ (a ≡ e.finish)) (side_edges ss) c in by x.0 (is_side ss x.0 x.1) x.2
  where
    by : (e : Edge) → IsSide ss e → (a ≡ e.start) ⊎ (a ≡ e.finish) → (s : Strip) × Has ss s × IsEnd s a
    by e (Left s h k) (inl j) = (s, h, BottomLeft (j ∙ ap (λ z. z.start) k))
    by e (Left s h k) (inr j) = (s, h, TopLeft (j ∙ ap (λ z. z.finish) k))
    by e (Right s h k) (inl j) = (s, h, TopRight (j ∙ ap (λ z. z.start) k))
    by e (Right s h k) (inr j) = (s, h, BottomRight (j ∙ ap (λ z. z.finish) k))

strip_corner : (ss : List Strip) (s : Strip) (a : Point) → Has ss s → IsEnd s a → IsCorner ss a
strip_corner ss s a h (TopLeft k) = subst (IsCorner ss) (sym k) (top_left ss s h)
strip_corner ss s a h (TopRight k) = subst (IsCorner ss) (sym k) (top_right ss s h)
strip_corner ss s a h (BottomLeft k) = subst (IsCorner ss) (sym k) (bottom_left ss s h)
strip_corner ss s a h (BottomRight k) = subst (IsCorner ss) (sym k) (bottom_right ss s h)

corner_kept : (r : ℤ) (ss : List Strip) (a : Point) → AreOrdered ss → IsCorner ss a → IsCorner (cut r ss) a
corner_kept r ss a o c = let x = corner_strip ss a c in by x.0 x.1 x.2 (stands r x.0)
  where
    by : (s : Strip) → Has ss s → IsEnd s a → Stands r s → IsCorner (cut r ss) a
    by s h e (Over l) = strip_corner (cut r ss) s a (has_over r ss s h (o.shape s h).down l) e
    by s h e (Under l) = strip_corner (cut r ss) s a (has_under r ss s h (o.shape s h).down l) e
    by s h (TopLeft k) (Across c) = strip_corner (cut r ss) (upper_part r s) a (has_upper r ss s h c) (TopLeft k)
    by s h (TopRight k) (Across c) = strip_corner (cut r ss) (upper_part r s) a (has_upper r ss s h c) (TopRight k)
    by s h (BottomLeft k) (Across c) = strip_corner (cut r ss) (lower_part r s) a (has_lower r ss s h c) (BottomLeft k)
    by s h (BottomRight k) (Across c) = strip_corner (cut r ss) (lower_part r s) a (has_lower r ss s h c) (BottomRight k)

-- a strip is crossed
abbrev SomeCrossing : ℤ → List Strip → Type 0
SomeCrossing r ss = (s : Strip) × Has ss s × IsCrossing r s

corner_old : (r : ℤ) (ss : List Strip) (a : Point) → IsCorner (cut r ss) a → IsCorner ss a ⊎ ((a.y ≡ r) × SomeCrossing r ss)
corner_old r ss a c = let x = corner_strip (cut r ss) a c in by x.0 (piece_of r ss x.0 x.1) x.2
  where
    upper : (s : Strip) → Has ss s → IsCrossing r s → IsEnd (upper_part r s) a → IsCorner ss a ⊎ ((a.y ≡ r) × SomeCrossing r ss)
    upper s h c (TopLeft k) = inl (strip_corner ss s a h (TopLeft k))
    upper s h c (TopRight k) = inl (strip_corner ss s a h (TopRight k))
    upper s h c (BottomLeft k) = inr (ap (λ (z : Point). z.y) k, (s, h, c))
    upper s h c (BottomRight k) = inr (ap (λ (z : Point). z.y) k, (s, h, c))

    lower : (s : Strip) → Has ss s → IsCrossing r s → IsEnd (lower_part r s) a → IsCorner ss a ⊎ ((a.y ≡ r) × SomeCrossing r ss)
    lower s h c (TopLeft k) = inr (ap (λ (z : Point). z.y) k, (s, h, c))
    lower s h c (TopRight k) = inr (ap (λ (z : Point). z.y) k, (s, h, c))
    lower s h c (BottomLeft k) = inl (strip_corner ss s a h (BottomLeft k))
    lower s h c (BottomRight k) = inl (strip_corner ss s a h (BottomRight k))

    by : (x : Strip) → IsPiece r ss x → IsEnd x a → IsCorner ss a ⊎ ((a.y ≡ r) × SomeCrossing r ss)
    by x (Whole h l) e = inl (strip_corner ss x a h e)
    by x (Upper s h c k) e = upper s h c (subst (λ z. IsEnd z a) k e)
    by x (Lower s h c k) e = lower s h c (subst (λ z. IsEnd z a) k e)

-- ---- copper just below and just above
below_kept : (r : ℤ) (ss : List Strip) (p : PlanePoint) → AreOrdered ss → HasCopperBelow ss p → HasCopperBelow (cut r ss) p
below_kept r ss p o b = let x = under_of ss p o b in by x.0 x.1 (stands r x.0)
  where
    by : (s : Strip) → IsUnder ss p s → Stands r s → HasCopperBelow (cut r ss) p
    by s u (Over l) = of_under (cut r ss) p s (cut_ordered r ss o) (record { one = has_over r ss s u.one (o.shape s u.one).down l; row = u.row; from = u.from; to = u.to })
    by s u (Under l) = of_under (cut r ss) p s (cut_ordered r ss o) (record { one = has_under r ss s u.one (o.shape s u.one).down l; row = u.row; from = u.from; to = u.to })
    by s u (Across c) = of_under (cut r ss) p (upper_part r s) (cut_ordered r ss o) (record { one = has_upper r ss s u.one c; row = u.row; from = u.from; to = u.to })

above_kept : (r : ℤ) (ss : List Strip) (p : PlanePoint) → AreOrdered ss → HasCopperAbove ss p → HasCopperAbove (cut r ss) p
above_kept r ss p o b = let x = over_of ss p o b in by x.0 x.1 (stands r x.0)
  where
    by : (s : Strip) → IsOver ss p s → Stands r s → HasCopperAbove (cut r ss) p
    by s u (Over l) = of_over (cut r ss) p s (cut_ordered r ss o) (record { one = has_over r ss s u.one (o.shape s u.one).down l; row = u.row; from = u.from; to = u.to })
    by s u (Under l) = of_over (cut r ss) p s (cut_ordered r ss o) (record { one = has_under r ss s u.one (o.shape s u.one).down l; row = u.row; from = u.from; to = u.to })
    by s u (Across c) = of_over (cut r ss) p (lower_part r s) (cut_ordered r ss o) (record { one = has_lower r ss s u.one c; row = u.row; from = u.from; to = u.to })

-- copper below: the sheet's, or in the row of the cut, and then there is copper above, too
below_old : (r : ℤ) (ss : List Strip) (p : PlanePoint) → AreOrdered ss → HasCopperBelow (cut r ss) p
    → HasCopperBelow ss p ⊎ ((p.y ≡ pos p.scale *ℤ r) × SomeCrossing r ss × HasCopperAbove (cut r ss) p)
below_old r ss p o b = let x = under_of (cut r ss) p (cut_ordered r ss o) b in by x.0 x.1 (piece_of r ss x.0 (x.1).one)
  where
    by : (x : Strip) → IsUnder (cut r ss) p x → IsPiece r ss x → HasCopperBelow ss p ⊎ ((p.y ≡ pos p.scale *ℤ r) × SomeCrossing r ss × HasCopperAbove (cut r ss) p)
    by x u (Whole h l) = inl (of_under ss p x o (record { one = h; row = u.row; from = u.from; to = u.to }))
    by x u (Upper s h c k) = let v = subst (λ z. IsUnder (cut r ss) p z) k u in inl (of_under ss p s o (record { one = h; row = v.row; from = v.from; to = v.to }))
    by x u (Lower s h c k) =
        let v = subst (λ z. IsUnder (cut r ss) p z) k u in
        inr (v.row, (s, h, c), of_over (cut r ss) p (upper_part r s) (cut_ordered r ss o) (record { one = has_upper r ss s h c; row = v.row; from = v.from; to = v.to }))

above_old : (r : ℤ) (ss : List Strip) (p : PlanePoint) → AreOrdered ss → HasCopperAbove (cut r ss) p
    → HasCopperAbove ss p ⊎ ((p.y ≡ pos p.scale *ℤ r) × SomeCrossing r ss × HasCopperBelow (cut r ss) p)
above_old r ss p o b = let x = over_of (cut r ss) p (cut_ordered r ss o) b in by x.0 x.1 (piece_of r ss x.0 (x.1).one)
  where
    by : (x : Strip) → IsOver (cut r ss) p x → IsPiece r ss x → HasCopperAbove ss p ⊎ ((p.y ≡ pos p.scale *ℤ r) × SomeCrossing r ss × HasCopperBelow (cut r ss) p)
    by x u (Whole h l) = inl (of_over ss p x o (record { one = h; row = u.row; from = u.from; to = u.to }))
    by x u (Lower s h c k) = let v = subst (λ z. IsOver (cut r ss) p z) k u in inl (of_over ss p s o (record { one = h; row = v.row; from = v.from; to = v.to }))
    by x u (Upper s h c k) =
        let v = subst (λ z. IsOver (cut r ss) p z) k u in
        inr (v.row, (s, h, c), of_under (cut r ss) p (lower_part r s) (cut_ordered r ss o) (record { one = has_lower r ss s h c; row = v.row; from = v.from; to = v.to }))

-- ---- level parts
-- a row of a corner isn't one that crosses a strip
not_in_row : (r : ℤ) (ss : List Strip) (a b : Point) (p : PlanePoint) → AreOrdered ss → IsCorner ss a → IsStrictlyFrom a b p → p.y ≡ pos p.scale *ℤ r → SomeCrossing r ss → ⊥
not_in_row r ss a b p o c f k s = no_corner r ss s.0 a o s.1 s.2 c (same_pos p.scale a.y r p.positive (sym f.row ∙ k))

neighbours_kept : (r : ℤ) (ss : List Strip) (a b : Point) → AreOrdered ss → AreNeighbours ss a b → AreNeighbours (cut r ss) a b
neighbours_kept r ss a b o n = record {
  first = corner_kept r ss a o n.first;
  second = corner_kept r ss b o n.second;
  level = n.level;
  rising = n.rising;
  next = λ c h y l m. elim (corner_old r ss c h) [ inl i ↦ n.next c i y l m | inr i ↦ (let s = i.1 in no_corner r ss s.0 a o s.1 s.2 n.first (sym y ∙ i.0)) ];
}

neighbours_old : (r : ℤ) (ss : List Strip) (a b : Point) → AreOrdered ss → IsCorner ss a → AreNeighbours (cut r ss) a b → AreNeighbours ss a b
neighbours_old r ss a b o c n = record {
  first = c;
  second = elim (corner_old r ss b n.second) [ inl i ↦ i | inr i ↦ absurd (let s = i.1 in no_corner r ss s.0 a o s.1 s.2 c (n.level ∙ i.0)) ];
  level = n.level;
  rising = n.rising;
  next = λ d h y l m. n.next d (corner_kept r ss d o h) y l m;
}

level_kept : (r : ℤ) (ss : List Strip) (e : Edge) → AreOrdered ss → IsLevelPart ss e → IsLevelPart (cut r ss) e
unfolding IsLevelPart
level_kept r ss e o (inl (n, h)) = inl (
  neighbours_kept r ss e.start e.finish o n,
  λ p f. (below_kept r ss p o (h p f).0, λ a. elim (above_old r ss p o a) [ inl i ↦ (h p f).1 i | inr i ↦ not_in_row r ss e.start e.finish p o n.first f i.0 i.1 ]),
)
level_kept r ss e o (inr (n, h)) = inr (
  neighbours_kept r ss e.finish e.start o n,
  λ p f. (above_kept r ss p o (h p f).0, λ a. elim (below_old r ss p o a) [ inl i ↦ (h p f).1 i | inr i ↦ not_in_row r ss e.finish e.start p o n.first f i.0 i.1 ]),
)

-- the middle of a level stretch
middle : Point → Point → PlanePoint
middle a b = record { x = a.x +ℤ b.x; y = pos 2 *ℤ a.y; scale = 2; positive = lit≤ tt }

in_middle : (a b : Point) → a.x <ℤ b.x → IsStrictlyFrom a b (middle a b)
unfolding middle
in_middle a b l = record { row = refl; after = omega (arith, ints, l); before = omega (arith, ints, l) }

middle_row : (r : ℤ) (a b : Point) → a.y ≡ r → (middle a b).y ≡ pos (middle a b).scale *ℤ r
unfolding middle
middle_row r a b k = ap (λ (z : ℤ). pos 2 *ℤ z) k

-- a strip of the sheet has no first or last row where another one is crossed
no_under : (r : ℤ) (ss : List Strip) (p : PlanePoint) → AreOrdered ss → p.y ≡ pos p.scale *ℤ r → SomeCrossing r ss → HasCopperBelow ss p → ⊥
no_under r ss p o k s b =
    let x = under_of ss p o b in
    no_corner r ss s.0 (at (x.0).left (x.0).top) o s.1 s.2 (top_left ss x.0 (x.1).one) (same_pos p.scale (x.0).top r p.positive (sym (x.1).row ∙ k))

no_over : (r : ℤ) (ss : List Strip) (p : PlanePoint) → AreOrdered ss → p.y ≡ pos p.scale *ℤ r → SomeCrossing r ss → HasCopperAbove ss p → ⊥
no_over r ss p o k s b =
    let x = over_of ss p o b in
    no_corner r ss s.0 (at (x.0).left_end (x.0).bottom) o s.1 s.2 (bottom_left ss x.0 (x.1).one) (same_pos p.scale (x.0).bottom r p.positive (sym (x.1).row ∙ k))

level_old : (r : ℤ) (ss : List Strip) (e : Edge) → AreOrdered ss → IsLevelPart (cut r ss) e → IsLevelPart ss e
unfolding IsLevelPart
level_old r ss e o (inl (n, h)) = elim (corner_old r ss e.start n.first) [
  | inl c ↦ inl (
    neighbours_old r ss e.start e.finish o c n,
    λ p f. (elim (below_old r ss p o (h p f).0) [ inl i ↦ i | inr i ↦ absurd (not_in_row r ss e.start e.finish p o c f i.0 i.1) ], λ a. (h p f).1 (above_kept r ss p o a)),
  )
  | inr c ↦ absurd (
      let f = in_middle e.start e.finish n.rising in
      let g = h (middle e.start e.finish) f in
      elim (below_old r ss (middle e.start e.finish) o g.0) [ inl i ↦ no_under r ss (middle e.start e.finish) o (middle_row r e.start e.finish c.0) c.1 i | inr i ↦ g.1 i.2 ])
]
level_old r ss e o (inr (n, h)) = elim (corner_old r ss e.finish n.first) [
  | inl c ↦ inr (
    neighbours_old r ss e.finish e.start o c n,
    λ p f. (elim (above_old r ss p o (h p f).0) [ inl i ↦ i | inr i ↦ absurd (not_in_row r ss e.finish e.start p o c f i.0 i.1) ], λ a. (h p f).1 (below_kept r ss p o a)),
  )
  | inr c ↦ absurd (
      let f = in_middle e.finish e.start n.rising in
      let g = h (middle e.finish e.start) f in
      elim (above_old r ss (middle e.finish e.start) o g.0) [ inl i ↦ no_over r ss (middle e.finish e.start) o (middle_row r e.finish e.start c.0) c.1 i | inr i ↦ g.1 i.2 ])
]

-- ---- all boundary edges
level_whole : (r : ℤ) (ss : List Strip) (e : Edge) → IsLevelPart ss e → begin_of r e ≡ e
level_whole r ss e l = elim (bool_cases (is_crossed r e)) [
  | inl h ↦ absurd (let m = between_cases e.start.y r e.finish.y h in let k = level_flat ss e l in omega (arith, ints, m, k))
  | inr h ↦ first_false r e h
]

parts_bound : (r : ℤ) (ss : List Strip) (es : List Edge) (g : Edge) → AreOrdered ss → AreBoundary ss es → IsCutOf r es g → IsBound (cut r ss) g
parts_bound r ss es g o b (First e h k) = first (is_bound ss es b e h)
  where
    first : IsBound ss e → IsBound (cut r ss) g
    first (Side (Left s i j)) = by (stands r s)
      where
        by : Stands r s → IsBound (cut r ss) g
        by (Over l) = Side (Left s (has_over r ss s i (o.shape s i).down l) (k ∙ ap (begin_of r) j ∙ left_whole r s (o.shape s i).down (inl l)))
        by (Under l) = Side (Left s (has_under r ss s i (o.shape s i).down l) (k ∙ ap (begin_of r) j ∙ left_whole r s (o.shape s i).down (inr l)))
        by (Across c) = Side (Left (lower_part r s) (has_lower r ss s i c) (k ∙ ap (begin_of r) j ∙ left_first r s (o.shape s i) c))
    first (Side (Right s i j)) = by (stands r s)
      where
        by : Stands r s → IsBound (cut r ss) g
        by (Over l) = Side (Right s (has_over r ss s i (o.shape s i).down l) (k ∙ ap (begin_of r) j ∙ right_whole r s (o.shape s i).down (inl l)))
        by (Under l) = Side (Right s (has_under r ss s i (o.shape s i).down l) (k ∙ ap (begin_of r) j ∙ right_whole r s (o.shape s i).down (inr l)))
        by (Across c) = Side (Right (upper_part r s) (has_upper r ss s i c) (k ∙ ap (begin_of r) j ∙ right_first r s c))
    first (Level l) = Level (subst (IsLevelPart (cut r ss)) (sym (k ∙ level_whole r ss e l)) (level_kept r ss e o l))
parts_bound r ss es g o b (Final e h x k) =
    let a = crossed_side r ss e o (is_bound ss es b e h) x in
    let c = a.crossing in
    let s = a.strip in
    elim a.is [
      | inl j ↦ Side (Left (upper_part r s) (has_upper r ss s a.one c) (k ∙ ap (final_of r) j.0 ∙ left_final r s (o.shape s a.one) c))
      | inr j ↦ Side (Right (lower_part r s) (has_lower r ss s a.one c) (k ∙ ap (final_of r) j.0 ∙ right_final r s c))
    ]

bound_parts : (r : ℤ) (ss : List Strip) (es : List Edge) (g : Edge) → AreOrdered ss → AreBoundary ss es → IsBound (cut r ss) g → IsCutOf r es g
bound_parts r ss es g o b (Side (Left x i j)) = by (piece_of r ss x i)
  where
    by : IsPiece r ss x → IsCutOf r es g
    by (Whole h l) = First (left_edge x) (bound_has ss es b (left_edge x) (Side (Left x h refl))) (j ∙ sym (left_whole r x (o.shape x h).down l))
    by (Upper s h c k) = Final (left_edge s) (bound_has ss es b (left_edge s) (Side (Left s h refl))) (left_crossed r s c) (j ∙ ap left_edge k ∙ sym (left_final r s (o.shape s h) c))
    by (Lower s h c k) = First (left_edge s) (bound_has ss es b (left_edge s) (Side (Left s h refl))) (j ∙ ap left_edge k ∙ sym (left_first r s (o.shape s h) c))
bound_parts r ss es g o b (Side (Right x i j)) = by (piece_of r ss x i)
  where
    by : IsPiece r ss x → IsCutOf r es g
    by (Whole h l) = First (right_edge x) (bound_has ss es b (right_edge x) (Side (Right x h refl))) (j ∙ sym (right_whole r x (o.shape x h).down l))
    by (Upper s h c k) = First (right_edge s) (bound_has ss es b (right_edge s) (Side (Right s h refl))) (j ∙ ap right_edge k ∙ sym (right_first r s c))
    by (Lower s h c k) = Final (right_edge s) (bound_has ss es b (right_edge s) (Side (Right s h refl))) (right_crossed r s c) (j ∙ ap right_edge k ∙ sym (right_final r s c))
bound_parts r ss es g o b (Level l) = let m = level_old r ss g o l in First g (bound_has ss es b g (Level m)) (sym (level_whole r ss g m))

pub cut_boundary : (r : ℤ) (ss : List Strip) (es : List Edge) → AreOrdered ss → AreBoundary ss es → (fs : List Edge) × AreBoundary (cut r ss) fs × IsPermutation (parted r es) fs
cut_boundary r ss es o b =
    let q = cut_ordered r ss o in
    let f = boundary_exists (cut r ss) q in (
      f.0,
      f.1,
      permuted_of (parted r es) f.0
          (parted_once r es es (boundary_cuttable r ss es o b) (λ e h. h) (boundary_once ss es o b))
          (boundary_once (cut r ss) f.0 q f.1)
          (record {
            there = λ g h. bound_has (cut r ss) f.0 f.1 g (parts_bound r ss es g o b (has_parted r es g h));
            back = λ g h. cut_has r es g (bound_parts r ss es g o b (is_bound (cut r ss) f.0 f.1 g h));
          }),
    )
