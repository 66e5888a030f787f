-- A pad has one hull, and it holds the pad's centre, rounded down.
use Rattle.std.proofs.Common.{◌≡◌, refl, sym, subst, ap, ℕ, ◌+◌, ◌≤◌, ◌⊎◌, inl, inr, arith, [], ◌∷◌, length}
use Rattle.std.specs.Prelude.{ℤ, pos, ◌+ℤ◌, ◌-ℤ◌, ◌*ℤ◌, ◌≤ℤ◌, ◌==◌, ◌&&◌, not, Bool, true, false}
use Rattle.std.specs.Int.{div_ceil}
use Rattle.std.specs.List.{All}
use Rattle.std.proofs.lemmas.List.Elements.{All-cons, All-nil}
use Rattle.std.proofs.lemmas.Int.{ints, by_lt_z}
use Rattle.grid_num.specs.declared.Point.{Point}
use Rattle.plane.specs.Plane.{Bounds, Within, In, sum_of, ball_of, box_of, grid_point}
use Rattle.grid_num.proofs.Products.{mul_le, mul_le_back}
use Rattle.plane.specs.Corners.{corners_of}
use Rattle.touching.specs.Core.{Spot, area, line, OnLine, InCore}
use Rattle.hulls.specs.Cells.{floor_of, ceil_of, points_round, points_round_all, around}
use Rattle.hulls.specs.Hulls.{hull_of, is_slanted, piece_count, cut_at, piece_hull, piece_hulls, count_pieces, hulls_of}
use Rattle.hulls.specs.Laws.{IsPad, OneHullLaw, CentreLaw}
use Rattle.hulls.proofs.Rounding.{floor_law, floor_low}
use Rattle.hulls.proofs.InCells.{ceil_high}
use Rattle.hulls.proofs.Means.{weigh}
use Rattle.hulls.proofs.Around.{around_holds}

-- ---- one hull
none_slanted : (w h : ℕ) → (w ≡ 0) ⊎ (h ≡ 0) → is_slanted w h ≡ false
unfolding is_slanted
none_slanted w h (inl e) = rw e refl
none_slanted w h (inr e) = rw e (level (not (w == 0)))
  where
    level : (b : Bool) → (b && (not (0 == 0) && not (w == 0))) ≡ false
    level true = refl
    level false = refl

one_piece : (w h : ℕ) → (w ≡ 0) ⊎ (h ≡ 0) → piece_count w h ≡ 1
unfolding piece_count
one_piece w h e = rw (none_slanted w h e) refl

pad_pieces : (s t : Spot) → (s.x ≡ t.x) ⊎ (s.y ≡ t.y) → count_pieces s t ≡ 1
pad_pieces s t (inl e) = one_piece _ _ (inl (omega (arith, ints, e)))
pad_pieces s t (inr e) = one_piece _ _ (inr (omega (arith, ints, e)))

pub one_hull_law : OneHullLaw
unfolding IsPad hulls_of piece_hulls
one_hull_law (area b) r p = refl
one_hull_law (line s t) r p =
    let P : ℕ → Type 0 = λ k. length (piece_hulls s t k r 0 k) ≡ 1 in
    subst P (sym (pad_pieces s t p)) refl

-- ---- the centre
floor_mono : (n : ℕ) (x y : ℤ) → 1 ≤ n → x ≤ℤ y → floor_of n x ≤ℤ floor_of n y
floor_mono n x y one l = (floor_law n y (floor_of n x) one).1 (omega (arith, ints, floor_low n x one))

floor_ceil : (n : ℕ) (x y : ℤ) → 1 ≤ n → x ≤ℤ y → floor_of n x ≤ℤ ceil_of n y
floor_ceil n x y one l = mul_le_back n (floor_of n x) (ceil_of n y) one (omega (arith, ints, floor_low n x one, ceil_high n y one))

-- an octagon that holds the outer cells of a box holds the rounded places of the box
box_floored : (o : Bounds) (x0 x1 y0 y1 x y : ℤ) → x0 ≤ℤ x → x ≤ℤ x1 → y0 ≤ℤ y → y ≤ℤ y1
    → Within o (floor_of 4 x0) (floor_of 4 y0) → Within o (ceil_of 4 x1) (floor_of 4 y0)
    → Within o (floor_of 4 x0) (ceil_of 4 y1) → Within o (ceil_of 4 x1) (ceil_of 4 y1)
    → Within o (floor_of 4 x) (floor_of 4 y)
box_floored o x0 x1 y0 y1 x y a0 a1 b0 b1 nw ne sw se =
    let l = floor_mono 4 x0 x (omega arith) a0 in
    let r = floor_ceil 4 x x1 (omega arith) a1 in
    let t = floor_mono 4 y0 y (omega arith) b0 in
    let b = floor_ceil 4 y y1 (omega arith) b1 in
    record {
      x_low = omega (arith, ints, l, nw.x_low);
      x_high = omega (arith, ints, r, ne.x_high);
      y_low = omega (arith, ints, t, nw.y_low);
      y_high = omega (arith, ints, b, sw.y_high);
      s_low = omega (arith, ints, l, t, nw.s_low);
      s_high = omega (arith, ints, r, b, se.s_high);
      d_low = omega (arith, ints, l, b, sw.d_low);
      d_high = omega (arith, ints, r, t, ne.d_high);
    }

-- the radius only adds to it
ball_holds : (o : Bounds) (a : ℕ) (x y : ℤ) → Within o x y → Within (sum_of o (ball_of a)) x y
unfolding ball_of
ball_holds o a x y w = record {
  x_low = omega (arith, ints, w.x_low);
  x_high = omega (arith, ints, w.x_high);
  y_low = omega (arith, ints, w.y_low);
  y_high = omega (arith, ints, w.y_high);
  s_low = omega (arith, ints, w.s_low);
  s_high = omega (arith, ints, w.s_high);
  d_low = omega (arith, ints, w.d_low);
  d_high = omega (arith, ints, w.d_high);
}

alone : {X : Type 0} (P : X → Type 0) (x : X) → P x → All P (x ∷ [])
alone P x h = All-cons P x [] h (All-nil P)

none : Point
none = record { x = pos 0; y = pos 0 }

-- the cells of an area's corners 0, 2, 4 and 6, of 32 grid points
area_cells : (b : Bounds) (x0 x1 y0 y1 : ℤ) → b.s0 -ℤ b.y0 ≡ x0 → b.y0 ≡ y0 → b.x1 ≡ x1 → b.x1 -ℤ b.d1 ≡ y0 → b.s1 -ℤ b.y1 ≡ x1 → b.y1 ≡ y1 → b.x0 ≡ x0 → b.x0 -ℤ b.d0 ≡ y1
    → (x y : ℤ) → x0 ≤ℤ x → x ≤ℤ x1 → y0 ≤ℤ y → y ≤ℤ y1 → Within (around (points_round_all 4 (corners_of b))) (floor_of 4 x) (floor_of 4 y)
unfolding points_round_all points_round
area_cells b x0 x1 y0 y1 e0 e1 e2 e3 e4 e5 e6 e7 x y a0 a1 b0 b1 =
    let o = around (points_round_all 4 (corners_of b)) in
    let h = around_holds (points_round_all 4 (corners_of b)) in
    let nw : Within o (floor_of 4 (b.s0 -ℤ b.y0)) (floor_of 4 b.y0) = h 0 none (omega arith) in
    let ne : Within o (ceil_of 4 b.x1) (floor_of 4 (b.x1 -ℤ b.d1)) = h 9 none (omega arith) in
    let se : Within o (ceil_of 4 (b.s1 -ℤ b.y1)) (ceil_of 4 b.y1) = h 19 none (omega arith) in
    let sw : Within o (floor_of 4 b.x0) (ceil_of 4 (b.x0 -ℤ b.d0)) = h 26 none (omega arith) in
    plain o _ _ _ _ _ _ _ _ e0 e1 e2 e3 e4 e5 e6 e7 nw ne se sw
  where
    plain : (o : Bounds) (p0 p1 p2 p3 p4 p5 p6 p7 : ℤ) → p0 ≡ x0 → p1 ≡ y0 → p2 ≡ x1 → p3 ≡ y0 → p4 ≡ x1 → p5 ≡ y1 → p6 ≡ x0 → p7 ≡ y1
        → Within o (floor_of 4 p0) (floor_of 4 p1) → Within o (ceil_of 4 p2) (floor_of 4 p3) → Within o (ceil_of 4 p4) (ceil_of 4 p5)
        → Within o (floor_of 4 p6) (ceil_of 4 p7) → Within o (floor_of 4 x) (floor_of 4 y)
    plain o p0 p1 p2 p3 p4 p5 p6 p7 f0 f1 f2 f3 f4 f5 f6 f7 nw ne se sw =
        box_floored o x0 x1 y0 y1 x y a0 a1 b0 b1 (rw (f0, f1) at nw) (rw (f2, f3) at ne) (rw (f6, f7) at sw) (rw (f4, f5) at se)

box_centre : (b : Bounds) (x y : ℤ) → b ≡ box_of b.x0 b.x1 b.y0 b.y1 → In b (grid_point x y)
    → Within (around (points_round_all 4 (corners_of b))) (floor_of 4 x) (floor_of 4 y)
box_centre b x y e i =
    let s0 : b.s0 ≡ b.x0 +ℤ b.y0 = ap (λ (z : Bounds). z.s0) e in
    let s1 : b.s1 ≡ b.x1 +ℤ b.y1 = ap (λ (z : Bounds). z.s1) e in
    let d0 : b.d0 ≡ b.x0 -ℤ b.y1 = ap (λ (z : Bounds). z.d0) e in
    let d1 : b.d1 ≡ b.x1 -ℤ b.y0 = ap (λ (z : Bounds). z.d1) e in
    area_cells b b.x0 b.x1 b.y0 b.y1
    (omega (arith, ints, s0)) refl refl (omega (arith, ints, d1)) (omega (arith, ints, s1)) refl refl (omega (arith, ints, d0))
    x y (omega (arith, ints, i.x_low)) (omega (arith, ints, i.x_high)) (omega (arith, ints, i.y_low)) (omega (arith, ints, i.y_high))

-- ---- a level or upright segment, in one piece
-- the cells of its two ends, of eight grid points
ends_cells : (n : ℕ) (p q : Point) → Within (around (points_round_all n (p ∷ q ∷ []))) (floor_of n p.x) (floor_of n p.y)
    × Within (around (points_round_all n (p ∷ q ∷ []))) (ceil_of n p.x) (floor_of n p.y)
    × Within (around (points_round_all n (p ∷ q ∷ []))) (floor_of n p.x) (ceil_of n p.y)
    × Within (around (points_round_all n (p ∷ q ∷ []))) (ceil_of n p.x) (ceil_of n p.y)
    × Within (around (points_round_all n (p ∷ q ∷ []))) (floor_of n q.x) (floor_of n q.y)
    × Within (around (points_round_all n (p ∷ q ∷ []))) (ceil_of n q.x) (floor_of n q.y)
    × Within (around (points_round_all n (p ∷ q ∷ []))) (floor_of n q.x) (ceil_of n q.y)
    × Within (around (points_round_all n (p ∷ q ∷ []))) (ceil_of n q.x) (ceil_of n q.y)
unfolding points_round_all points_round
ends_cells n p q =
    let h = around_holds (points_round_all n (p ∷ q ∷ [])) in (
      h 0 none (omega arith),
      h 1 none (omega arith),
      h 2 none (omega arith),
      h 3 none (omega arith),
      h 4 none (omega arith),
      h 5 none (omega arith),
      h 6 none (omega arith),
      h 7 none (omega arith),
    )

-- a mean is between
mean_low : (i j : ℕ) (s t x : ℤ) → 1 ≤ i + j → s ≤ℤ t → pos (i + j) *ℤ x ≡ pos 1 *ℤ (pos i *ℤ s +ℤ pos j *ℤ t) → (s ≤ℤ x) × (x ≤ℤ t)
mean_low i j s t x one l e = (
  mul_le_back (i + j) s x one (omega (arith, ints, e, weigh i j s, mul_le j s t l)),
  mul_le_back (i + j) x t one (omega (arith, ints, e, weigh i j t, mul_le i s t l)),
)

mean_high : (i j : ℕ) (s t x : ℤ) → 1 ≤ i + j → t ≤ℤ s → pos (i + j) *ℤ x ≡ pos 1 *ℤ (pos i *ℤ s +ℤ pos j *ℤ t) → (t ≤ℤ x) × (x ≤ℤ s)
mean_high i j s t x one l e = (
  mul_le_back (i + j) t x one (omega (arith, ints, e, weigh i j t, mul_le i t s l)),
  mul_le_back (i + j) x s one (omega (arith, ints, e, weigh i j s, mul_le j t s l)),
)

-- the two ends, whichever is first, and a place between them
ends_floored : (o : Bounds) (px py qx qy x y : ℤ) → (px ≡ qx) ⊎ (py ≡ qy)
    → ((px ≤ℤ x) × (x ≤ℤ qx)) ⊎ ((qx ≤ℤ x) × (x ≤ℤ px))
    → ((py ≤ℤ y) × (y ≤ℤ qy)) ⊎ ((qy ≤ℤ y) × (y ≤ℤ py))
    → Within o (floor_of 4 px) (floor_of 4 py)
    × Within o (ceil_of 4 px) (floor_of 4 py)
    × Within o (floor_of 4 px) (ceil_of 4 py)
    × Within o (ceil_of 4 px) (ceil_of 4 py)
    × Within o (floor_of 4 qx) (floor_of 4 qy)
    × Within o (ceil_of 4 qx) (floor_of 4 qy)
    × Within o (floor_of 4 qx) (ceil_of 4 qy)
    × Within o (ceil_of 4 qx) (ceil_of 4 qy)
    → Within o (floor_of 4 x) (floor_of 4 y)
ends_floored o px py qx qy x y (inl e) h (inl v) c = let w = upright px qx x e h in box_floored o px px py qy x y w.0 w.1 v.0 v.1 c.0 c.1 (rw (sym e) at c.6) (rw (sym e) at c.7)
  where
    upright : (p q x : ℤ) → p ≡ q → ((p ≤ℤ x) × (x ≤ℤ q)) ⊎ ((q ≤ℤ x) × (x ≤ℤ p)) → (p ≤ℤ x) × (x ≤ℤ p)
    upright p q x e h = (omega (arith, ints), omega (arith, ints))
ends_floored o px py qx qy x y (inl e) h (inr v) c = let w = upright px qx x e h in box_floored o px px qy py x y w.0 w.1 v.0 v.1 (rw (sym e) at c.4) (rw (sym e) at c.5) c.2 c.3
  where
    upright : (p q x : ℤ) → p ≡ q → ((p ≤ℤ x) × (x ≤ℤ q)) ⊎ ((q ≤ℤ x) × (x ≤ℤ p)) → (p ≤ℤ x) × (x ≤ℤ p)
    upright p q x e h = (omega (arith, ints), omega (arith, ints))
ends_floored o px py qx qy x y (inr e) (inl h) v c = let w = level py qy y e v in box_floored o px qx py py x y h.0 h.1 w.0 w.1 c.0 (rw (sym e) at c.5) c.2 (rw (sym e) at c.7)
  where
    level : (p q x : ℤ) → p ≡ q → ((p ≤ℤ x) × (x ≤ℤ q)) ⊎ ((q ≤ℤ x) × (x ≤ℤ p)) → (p ≤ℤ x) × (x ≤ℤ p)
    level p q x e h = (omega (arith, ints), omega (arith, ints))
ends_floored o px py qx qy x y (inr e) (inr h) v c = let w = level py qy y e v in box_floored o qx px py py x y h.0 h.1 w.0 w.1 (rw (sym e) at c.4) c.1 (rw (sym e) at c.6) c.3
  where
    level : (p q x : ℤ) → p ≡ q → ((p ≤ℤ x) × (x ≤ℤ q)) ⊎ ((q ≤ℤ x) × (x ≤ℤ p)) → (p ≤ℤ x) × (x ≤ℤ p)
    level p q x e h = (omega (arith, ints), omega (arith, ints))

between : (i j : ℕ) (s t x p q : ℤ) → 1 ≤ i + j → pos (i + j) *ℤ x ≡ pos 1 *ℤ (pos i *ℤ s +ℤ pos j *ℤ t) → p ≡ s → q ≡ t
    → ((p ≤ℤ x) × (x ≤ℤ q)) ⊎ ((q ≤ℤ x) × (x ≤ℤ p))
between i j s t x p q one e f g =
    rw (f, g)
    (by_lt_z {P = ((s ≤ℤ x) × (x ≤ℤ t)) ⊎ ((t ≤ℤ x) × (x ≤ℤ s))} s t
    (λ l. inl (mean_low i j s t x one (omega (arith, ints)) e))
    (λ l. inr (mean_high i j s t x one (omega (arith, ints)) e)))

line_centre : (s t : Spot) (x y : ℤ) → (s.x ≡ t.x) ⊎ (s.y ≡ t.y) → OnLine s t (grid_point x y)
    → Within (around (points_round_all 4 (cut_at s t 1 0 ∷ cut_at s t 1 1 ∷ []))) (floor_of 4 x) (floor_of 4 y)
unfolding cut_at
line_centre s t x y e on =
    let p = cut_at s t 1 0 in
    let q = cut_at s t 1 1 in
    ends_floored (around (points_round_all 4 (p ∷ q ∷ []))) p.x p.y q.x q.y x y
    (level s.x t.x s.y t.y _ _ _ _ (first s.x t.x) (second s.x t.x) (first s.y t.y) (second s.y t.y) e)
    (between on.i on.j s.x t.x x p.x q.x on.some on.x (first s.x t.x) (second s.x t.x))
    (between on.i on.j s.y t.y y p.y q.y on.some on.y (first s.y t.y) (second s.y t.y))
    (ends_cells 4 p q)
  where
    first : (s t : ℤ) → pos 1 *ℤ s +ℤ pos 0 *ℤ t ≡ s
    first s t = omega (arith, ints)

    second : (s t : ℤ) → pos 0 *ℤ s +ℤ pos 1 *ℤ t ≡ t
    second s t = omega (arith, ints)

    level : (sx tx sy ty px qx py qy : ℤ) → px ≡ sx → qx ≡ tx → py ≡ sy → qy ≡ ty → (sx ≡ tx) ⊎ (sy ≡ ty) → (px ≡ qx) ⊎ (py ≡ qy)
    level sx tx sy ty px qx py qy a b c d e = rw (a, b, c, d) e

one_piece_centre : (s t : Spot) (r : ℕ) (x y : ℤ) → (s.x ≡ t.x) ⊎ (s.y ≡ t.y) → OnLine s t (grid_point x y)
    → All (λ h. Within h (floor_of 4 x) (floor_of 4 y)) (piece_hulls s t 1 r 0 1)
unfolding piece_hulls piece_hull hull_of
one_piece_centre s t r x y e on =
    alone (λ h. Within h (floor_of 4 x) (floor_of 4 y)) (piece_hull s t 1 r 0)
    (ball_holds (around (points_round_all 4 (cut_at s t 1 0 ∷ cut_at s t 1 1 ∷ []))) (div_ceil r 4) (floor_of 4 x) (floor_of 4 y) (line_centre s t x y e on))

pub centre_law : CentreLaw
unfolding IsPad InCore hulls_of hull_of
centre_law (area b) r x y p i =
    alone (λ h. Within h (floor_of 4 x) (floor_of 4 y)) (hull_of 4 (corners_of b) r)
    (ball_holds (around (points_round_all 4 (corners_of b))) (div_ceil r 4) (floor_of 4 x) (floor_of 4 y) (box_centre b x y p.0 i))
centre_law (line s t) r x y p i =
    let P : ℕ → Type 0 = λ k. All (λ h. Within h (floor_of 4 x) (floor_of 4 y)) (piece_hulls s t k r 0 k) in
    subst P (sym (pad_pieces s t p)) (one_piece_centre s t r x y p i)
