-- Every point of copper is in one of its hulls.
use Rattle.std.proofs.Common.{◌≡◌, subst, ℕ, zero, suc, ◌+◌, ◌*◌, ◌-◌, ◌≤◌, ◌<◌, inl, inr, arith, [], ◌∷◌}
use Rattle.std.specs.Prelude.{ℤ, pos, ◌+ℤ◌, ◌-ℤ◌, ◌*ℤ◌, ◌≤ℤ◌, Any, Bool, true, false, if◌then◌else◌, min, max}
use Rattle.std.specs.Int.{div_ceil}
use Rattle.std.proofs.lemmas.Int.{ints}
use Rattle.std.proofs.lemmas.Bool.{cases_lt}
use Rattle.grid_num.specs.declared.Point.{Point}
use Rattle.plane.specs.Plane.{PlanePoint, Bounds, Within, In, times, sum_of, ball_of}
use Rattle.grid_num.proofs.Products.{mul_le}
use Rattle.plane.proofs.Points.{mul_mul, In-same}
use Rattle.plane.specs.Corners.{corners_of}
use Rattle.plane.proofs.Lists.{any_head, any_tail}
use Rattle.touching.specs.Core.{Spot, area, line, OnLine, InCore, InCopper, IsReached}
use Rattle.hulls.specs.Cells.{points_round_all, around}
use Rattle.hulls.specs.Hulls.{hull_of, cut_at, piece_hull, piece_hulls, count_pieces, piece_count, is_slanted, hulls_of, in_units}
use Rattle.hulls.specs.Laws.{InSome, CopperInHullsLaw}
use Rattle.hulls.proofs.InCells.{around_places}
use Rattle.hulls.proofs.Means.{mean_in, piece_of, piece_mean, pieces_out}
use Rattle.hulls.proofs.Grown.{grown}

pub quarter_reaches : (r : ℕ) → r ≤ 4 * div_ceil r 4
quarter_reaches r = omega arith

-- ---- an area
-- the octagon round the cells of an area's corners holds the area
low_side : (k : ℕ) (c b x : ℤ) → (pos 4 *ℤ c) ≤ℤ b → (pos k *ℤ b) ≤ℤ x → (pos (4 * k) *ℤ c) ≤ℤ x
low_side k c b x h l = omega (arith, ints, mul_le k (pos 4 *ℤ c) b h, mul_mul k 4 c)

high_side : (k : ℕ) (c b x : ℤ) → b ≤ℤ (pos 4 *ℤ c) → x ≤ℤ (pos k *ℤ b) → x ≤ℤ (pos (4 * k) *ℤ c)
high_side k c b x h l = omega (arith, ints, mul_le k b (pos 4 *ℤ c) h, mul_mul k 4 c)

area_in : (b : Bounds) (p : PlanePoint) → In b p → In (around (points_round_all 4 (corners_of b))) (in_units p)
area_in b p i =
    let o = around (points_round_all 4 (corners_of b)) in
    let k = p.scale in
    let h = around_places 4 (corners_of b) (omega arith) in
    let none : Point = record { x = pos 0; y = pos 0 } in
    let top : Within (times 4 o) (b.s0 -ℤ b.y0) b.y0 = h 0 none (omega arith) in
    let top_right : Within (times 4 o) (b.d1 +ℤ b.y0) b.y0 = h 1 none (omega arith) in
    let right : Within (times 4 o) b.x1 (b.x1 -ℤ b.d1) = h 2 none (omega arith) in
    let bottom : Within (times 4 o) (b.s1 -ℤ b.y1) b.y1 = h 4 none (omega arith) in
    let bottom_left : Within (times 4 o) (b.d0 +ℤ b.y1) b.y1 = h 5 none (omega arith) in
    let left : Within (times 4 o) b.x0 (b.x0 -ℤ b.d0) = h 6 none (omega arith) in
    record {
      x_low = low_side k o.x0 b.x0 p.x left.x_low i.x_low;
      x_high = high_side k o.x1 b.x1 p.x right.x_high i.x_high;
      y_low = low_side k o.y0 b.y0 p.y top.y_low i.y_low;
      y_high = high_side k o.y1 b.y1 p.y bottom.y_high i.y_high;
      s_low = low_side k o.s0 b.s0 (p.x +ℤ p.y) (omega (arith, ints, top.s_low)) i.s_low;
      s_high = high_side k o.s1 b.s1 (p.x +ℤ p.y) (omega (arith, ints, bottom.s_high)) i.s_high;
      d_low = low_side k o.d0 b.d0 (p.x -ℤ p.y) (omega (arith, ints, bottom_left.d_low)) i.d_low;
      d_high = high_side k o.d1 b.d1 (p.x -ℤ p.y) (omega (arith, ints, top_right.d_high)) i.d_high;
    }

-- ---- a line
-- the octagon round the cells of a piece's ends
abbrev piece_core : Spot → Spot → ℕ → ℕ → Bounds
piece_core s t k c = around (points_round_all (4 * k) (cut_at s t k c ∷ cut_at s t k (suc c) ∷ []))

-- the mean of the ends, in units
abbrev mean_point : Spot → Spot → (i j : ℕ) → 1 ≤ i + j → PlanePoint
mean_point s t i j one = record { x = pos i *ℤ s.x +ℤ pos j *ℤ t.x; y = pos i *ℤ s.y +ℤ pos j *ℤ t.y; scale = i + j; positive = one }

same_within : (b : Bounds) (x y u v : ℤ) → x ≡ u → y ≡ v → Within b x y → Within b u v
same_within b x y u v e f w =
    let P : ℤ → Type 0 = λ z. Within b z y in
    let Q : ℤ → Type 0 = λ z. Within b u z in
    subst Q f (subst P e w)

between_ends : (s t : Spot) (o : Bounds) (m i j c a b : ℕ) → (m + 1 + c) * j ≡ c * (i + j) + a → b + a ≡ i + j
    → Within (times (4 * (m + 1 + c)) o) (pos (m + 1) *ℤ s.x +ℤ pos c *ℤ t.x) (pos (m + 1) *ℤ s.y +ℤ pos c *ℤ t.y)
    → Within (times (4 * (m + 1 + c)) o) (pos m *ℤ s.x +ℤ pos (c + 1) *ℤ t.x) (pos m *ℤ s.y +ℤ pos (c + 1) *ℤ t.y)
    → Within (times (4 * (i + j)) o) (pos i *ℤ s.x +ℤ pos j *ℤ t.x) (pos i *ℤ s.y +ℤ pos j *ℤ t.y)
between_ends s t o m i j c a b e f first second =
    let k = m + 1 + c in
    let w = mean_in (times (4 * k) o) _ _ _ _ b a first second in
    let P : ℕ → Type 0 = λ z. Within (times z (times (4 * k) o)) (pos k *ℤ (pos i *ℤ s.x +ℤ pos j *ℤ t.x)) (pos k *ℤ (pos i *ℤ s.y +ℤ pos j *ℤ t.y)) in
    pieces_out k (i + j) o _ _ (omega arith)
    (subst P f (same_within (times (b + a) (times (4 * k) o)) _ _ _ _ (piece_mean i j m c a b s.x t.x e f) (piece_mean i j m c a b s.y t.y e f) w))

on_piece : (s t : Spot) (k i j c m a b : ℕ) → k ≡ m + 1 + c → k * j ≡ c * (i + j) + a → b + a ≡ i + j
    → Within (times (4 * (i + j)) (piece_core s t k c)) (pos i *ℤ s.x +ℤ pos j *ℤ t.x) (pos i *ℤ s.y +ℤ pos j *ℤ t.y)
unfolding cut_at
on_piece s t k i j c m a b count place parts =
    let o = piece_core s t k c in
    let h = around_places (4 * k) (cut_at s t k c ∷ cut_at s t k (suc c) ∷ []) (omega arith) in
    let none : Point = record { x = pos 0; y = pos 0 } in
    plain_ends o k (k - c) (k - suc c) (suc c) count place (omega arith) (omega arith) (omega arith) (h 0 none (omega arith)) (h 1 none (omega arith))
  where
    plain_ends : (o : Bounds) (k d g n : ℕ) → k ≡ m + 1 + c → k * j ≡ c * (i + j) + a → d ≡ m + 1 → g ≡ m → n ≡ c + 1
        → Within (times (4 * k) o) (pos d *ℤ s.x +ℤ pos c *ℤ t.x) (pos d *ℤ s.y +ℤ pos c *ℤ t.y)
        → Within (times (4 * k) o) (pos g *ℤ s.x +ℤ pos n *ℤ t.x) (pos g *ℤ s.y +ℤ pos n *ℤ t.y)
        → Within (times (4 * (i + j)) o) (pos i *ℤ s.x +ℤ pos j *ℤ t.x) (pos i *ℤ s.y +ℤ pos j *ℤ t.y)
    plain_ends o k d g n ek e ed eg en first second =
        between_ends s t o m i j c a b (rw ek at e) parts (rw (ek, ed) at first) (rw (ek, eg, en) at second)

-- the c-th of the pieces is among those from i on
among : (P : Bounds → Type 0) (s t : Spot) (k r i n c : ℕ) → i ≤ c → c < i + n → P (piece_hull s t k r c) → Any P (piece_hulls s t k r i n)
unfolding piece_hulls
among P s t k r i zero c l h p = absurd (omega arith)
among P s t k r i (suc n) c l h p = elim (cases_lt i c) [
  | inl g ↦ any_tail P (piece_hull s t k r i) (piece_hulls s t k r (suc i) n) (among P s t k r (suc i) n c (omega arith) (omega arith) p)
  | inr g ↦ any_head P (piece_hull s t k r i) (piece_hulls s t k r (suc i) n) (subst (λ (z : ℕ). P (piece_hull s t k r z)) (same i c l g) p)
]
  where
    same : (i c : ℕ) → i ≤ c → c ≤ i → c ≡ i
    same i c l g = omega arith

line_in : (s t : Spot) (k r : ℕ) (q p : PlanePoint) → 1 ≤ k → OnLine s t q → IsReached r q p → InSome (piece_hulls s t k r 0 k) (in_units p)
unfolding piece_hull hull_of
line_in s t k r q p some on reached =
    let i = on.i in
    let j = on.j in
    let f = piece_of k (i + j) j some on.some (omega arith) in
    let w = on_piece s t k i j f.c f.m f.a f.b f.count f.place f.parts in
    let o = piece_core s t k f.c in
    let mean = mean_point s t i j on.some in
    let here : In o (in_units q) = In-same o (in_units mean) (in_units q) (record { x = four (i + j) q.scale q.x mean.x on.x; y = four (i + j) q.scale q.y mean.y on.y }) w in
    among (λ h. In h (in_units p)) s t k r 0 k f.c (omega arith) (let e = f.count in omega arith)
    (grown o (div_ceil r 4) r q p (quarter_reaches r) here reached)
  where
    four : (w k : ℕ) (x y : ℤ) → pos w *ℤ x ≡ pos k *ℤ y → pos (4 * k) *ℤ y ≡ pos (4 * w) *ℤ x
    four w k x y e = omega (arith, ints, e, mul_mul 4 w x, mul_mul 4 k y)

pub some_piece : (w h : ℕ) → 1 ≤ piece_count w h
unfolding piece_count
some_piece w h = picked (is_slanted w h) (div_ceil (max w h) 400000)
  where
    picked : (b : Bool) (n : ℕ) → 1 ≤ (if b then min 64 (max 1 n) else 1)
    picked true n = omega arith
    picked false n = omega arith

pub copper_law : CopperInHullsLaw
unfolding InCopper InCore hulls_of hull_of
copper_law (area b) r p i =
    let o = around (points_round_all 4 (corners_of b)) in
    any_head (λ h. In h (in_units p)) (sum_of o (ball_of (div_ceil r 4))) []
    (grown o (div_ceil r 4) r i.0 p (quarter_reaches r) (area_in b i.0 i.1) i.2)
copper_law (line s t) r p i = line_in s t (count_pieces s t) r i.0 p (some_piece _ _) i.1 i.2
