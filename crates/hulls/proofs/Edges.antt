-- Every point of a board edge is in one of its hulls.
use Rattle.std.proofs.Common.{◌≡◌, ap, ℕ, zero, suc, ◌+◌, ◌*◌, ◌≤◌, ◌<◌, arith, List}
use Rattle.std.specs.Prelude.{ℤ, pos, ◌+ℤ◌, ◌-ℤ◌, ◌*ℤ◌, ◌≤ℤ◌, nat_le, if◌then◌else◌}
use Rattle.std.specs.Int.RustNames.{unsigned_abs}
use Rattle.std.proofs.lemmas.Int.{ints}
use Rattle.std.proofs.lemmas.Bool.Decides.{nat_tests}
use Rattle.grid_num.specs.declared.Point.{Point}
use Rattle.plane.specs.Plane.{PlanePoint, Bounds, In, IsSame, minus, grid_point, box_of}
use Rattle.grid_num.specs.Roots.{least_root}
use Rattle.grid_num.proofs.Products.{mul_le, mul_add}
use Rattle.plane.proofs.Points.{mul_mul, In-same}
use Rattle.grid_num.proofs.Roots.{square_le}
use Rattle.touching.specs.Core.{area, line, OnLine, InCore, InCopper, IsReached}
use Rattle.hulls.specs.Hulls.{chord_of, in_halves, in_units, edge_core, edge_radius, edge_hulls_of, hulls_of}
use Rattle.hulls.specs.Laws.{InSome, SegmentLaw, ChordLaw, ChordLengthLaw, InChordDisc, nm_in_units, spot}
use Rattle.hulls.proofs.Grown.{square_is}
use Rattle.hulls.proofs.Copper.{copper_law}

-- ---- the root
pick_reaches : (t r n : ℕ) → t ≤ n * n → t ≤ (if nat_le t (r * r) then r else n) * (if nat_le t (r * r) then r else n)
pick_reaches t r n h = grind (arith, nat_tests)

pub root_reaches : (t n : ℕ) → t ≤ n * n → t ≤ least_root t n * least_root t n
root_reaches t zero h = h
root_reaches t (suc n) h = pick_reaches t (least_root t n) (suc n) h

pick_least : (t r n m : ℕ) → r ≤ m → (m < n → t ≤ r * r) → (if nat_le t (r * r) then r else n) ≤ m
pick_least t r n m h k = grind (arith, nat_tests)

pub root_least : (t n m : ℕ) → t ≤ m * m → least_root t n ≤ m
root_least t zero m h = omega arith
root_least t (suc n) m h = pick_least t (least_root t n) (suc n) m (root_least t n m h)
    (λ l. let below : m * m ≤ n * n = square_le m n (omega arith) in root_reaches t n (omega arith))

pub chord_law : ChordLengthLaw
unfolding chord_of
chord_law a b =
    let dx = b.x -ℤ a.x in
    let dy = b.y -ℤ a.y in
    let u = unsigned_abs dx in
    let v = unsigned_abs dy in
    record {
      reaches = up dx dy _ (root_reaches (u * u + v * v) (u + v) (omega arith));
      least = λ n h. root_least (u * u + v * v) (u + v) n (down dx dy (n * n) h);
    }
  where
    up : (x y : ℤ) (m : ℕ) → unsigned_abs x * unsigned_abs x + unsigned_abs y * unsigned_abs y ≤ m → (x *ℤ x +ℤ y *ℤ y) ≤ℤ pos m
    up x y m h = omega (arith, ints, square_is x, square_is y)

    down : (x y : ℤ) (m : ℕ) → (x *ℤ x +ℤ y *ℤ y) ≤ℤ pos m → unsigned_abs x * unsigned_abs x + unsigned_abs y * unsigned_abs y ≤ m
    down x y m h = omega (arith, ints, square_is x, square_is y)

-- ---- nanometres in halves
abbrev doubled : PlanePoint → PlanePoint
doubled p = record { x = p.x +ℤ p.x; y = p.y +ℤ p.y; scale = p.scale; positive = p.positive }

same_place : (p : PlanePoint) → IsSame (in_units (doubled p)) (nm_in_units p)
same_place p = record { x = twice p.scale p.x; y = twice p.scale p.y }
  where
    twice : (k : ℕ) (x : ℤ) → pos (2 * k) *ℤ (x +ℤ x) ≡ pos (4 * k) *ℤ x
    twice k x = omega (arith, ints, mul_add (2 * k) x x, mul_mul 2 k x, mul_mul 4 k x)

moved_on : (hulls : List Bounds) (p q : PlanePoint) → IsSame p q → InSome hulls p → InSome hulls q
moved_on hulls p q e a = (a.0, a.1, a.2, a.3, In-same a.1 p q e a.4)

doubled_line : (a b : Point) (p : PlanePoint) → OnLine (spot a) (spot b) p → OnLine (in_halves a) (in_halves b) (doubled p)
doubled_line a b p h = record { i = h.i; j = h.j; some = h.some; x = twice h.i h.j p.scale p.x a.x b.x h.x; y = twice h.i h.j p.scale p.y a.y b.y h.y }
  where
    twice : (i j k : ℕ) (x a b : ℤ) → pos (i + j) *ℤ x ≡ pos k *ℤ (pos i *ℤ a +ℤ pos j *ℤ b)
        → pos (i + j) *ℤ (x +ℤ x) ≡ pos k *ℤ (pos i *ℤ (a +ℤ a) +ℤ pos j *ℤ (b +ℤ b))
    twice i j k x a b e =
        let s : pos i *ℤ (a +ℤ a) +ℤ pos j *ℤ (b +ℤ b) ≡ (pos i *ℤ a +ℤ pos j *ℤ b) +ℤ (pos i *ℤ a +ℤ pos j *ℤ b)
        = omega (arith, ints, mul_add i a a, mul_add j b b) in
        omega (arith, ints, e, mul_add (i + j) x x, ap (λ (z : ℤ). pos k *ℤ z) s, mul_add k (pos i *ℤ a +ℤ pos j *ℤ b) (pos i *ℤ a +ℤ pos j *ℤ b))

reached_itself : (p : PlanePoint) → IsReached 0 p p
unfolding IsReached minus
reached_itself p = none (p.scale * p.scale) _ _ (omega (arith, ints)) (omega (arith, ints))
  where
    none : (m : ℕ) (x y : ℤ) → x ≡ pos 0 → y ≡ pos 0 → (x *ℤ x +ℤ y *ℤ y) ≤ℤ pos ((0 * m) * (0 * m))
    none m x y e f =
        let z : (0 * m) * (0 * m) ≡ 0 = omega arith in
        rw (e, f, z) (omega (arith, ints))

pub segment_law : SegmentLaw
unfolding edge_hulls_of edge_core edge_radius InCopper InCore
segment_law a b p h =
    moved_on (hulls_of (line (in_halves a) (in_halves b)) 0) (in_units (doubled p)) (nm_in_units p) (same_place p)
    (copper_law (line (in_halves a) (in_halves b)) 0 (doubled p) (doubled p, doubled_line a b p h, reached_itself (doubled p)))

-- ---- the disc on a chord
point_in : (x y : ℤ) → In (box_of x x y y) (grid_point x y)
point_in x y = record {
  x_low = omega (arith, ints);
  x_high = omega (arith, ints);
  y_low = omega (arith, ints);
  y_high = omega (arith, ints);
  s_low = omega (arith, ints);
  s_high = omega (arith, ints);
  d_low = omega (arith, ints);
  d_high = omega (arith, ints);
}

disc_reached : (a b : Point) (p : PlanePoint) → InChordDisc a b p → IsReached (chord_of a b) (grid_point (a.x +ℤ b.x) (a.y +ℤ b.y)) (doubled p)
unfolding InChordDisc IsReached minus
disc_reached a b p h =
    let c = chord_law a b in
    let k = p.scale in
    within k (chord_of a b) (a.x +ℤ b.x) (a.y +ℤ b.y) (p.x +ℤ p.x) (p.y +ℤ p.y) _ c.reaches h
  where
    turned : (u v : ℤ) → (u -ℤ v) *ℤ (u -ℤ v) ≡ (v -ℤ u) *ℤ (v -ℤ u)
    turned u v = omega (arith, ints, square_is (u -ℤ v), square_is (v -ℤ u), same u v, ap (λ (z : ℕ). z * z) (same u v))
      where
        same : (u v : ℤ) → unsigned_abs (u -ℤ v) ≡ unsigned_abs (v -ℤ u)
        same u v = omega (arith, ints)

    within : (k r : ℕ) (mx my x y l : ℤ) → l ≤ℤ pos (r * r)
        → ((x -ℤ pos k *ℤ mx) *ℤ (x -ℤ pos k *ℤ mx) +ℤ (y -ℤ pos k *ℤ my) *ℤ (y -ℤ pos k *ℤ my)) ≤ℤ (pos (k * k) *ℤ l)
        → ((pos k *ℤ mx -ℤ pos 1 *ℤ x) *ℤ (pos k *ℤ mx -ℤ pos 1 *ℤ x) +ℤ (pos k *ℤ my -ℤ pos 1 *ℤ y) *ℤ (pos k *ℤ my -ℤ pos 1 *ℤ y))
        ≤ℤ pos ((r * (1 * k)) * (r * (1 * k)))
    within k r mx my x y l h g =
        let ex : pos 1 *ℤ x ≡ x = omega (arith, ints) in
        let ey : pos 1 *ℤ y ≡ y = omega (arith, ints) in
        let s : (k * k) * (r * r) ≡ (r * (1 * k)) * (r * (1 * k)) = omega arith in
        rw (ex, ey) (omega (arith, ints, g, turned x (pos k *ℤ mx), turned y (pos k *ℤ my), mul_le (k * k) l (pos (r * r)) h, s))

pub chord_disc_law : ChordLaw
unfolding edge_hulls_of edge_core edge_radius InCopper InCore
chord_disc_law a b p h =
    let x = a.x +ℤ b.x in
    let y = a.y +ℤ b.y in
    moved_on (hulls_of (area (box_of x x y y)) (chord_of a b)) (in_units (doubled p)) (nm_in_units p) (same_place p)
    (copper_law (area (box_of x x y y)) (chord_of a b) (doubled p) (grid_point x y, point_in x y, disc_reached a b p h))
