-- What the code's numbers are.
use Rattle.std.proofs.Common.{◌≡◌, subst, ◌^◌, arith, w64, to_z, of_z}
use Rattle.std.specs.Prelude.{ℤ, pos, neg_ℤ, ◌-ℤ◌}
use Rattle.std.proofs.lemmas.Int.{ints}
use Rattle.plane.specs.Plane.{Bounds, IsOct}
use Rattle.plane.specs.Narrow.{IsNearZero}
use Rattle.octagon.specs.Inner.Hull.{IsGreater}
use Rattle.octagon.proofs.Plain.{IsOct-IsSmall}
use Rattle.stacks.specs.declared.reach.Reach.{Reach}
use Rattle.stacks.specs.Inner.Reaches.{IsOctReach, IsSmallReach}
use Rattle.stacks.specs.Inner.Fits.{IsRightFit, IsRightDownFit}

-- a number as the code reads it, and turned round
abbrev pub read : ℤ → ℤ
read z = to_z w64 (of_z w64 z)

abbrev pub negated : ℤ → ℤ
negated z = to_z w64 (of_z w64 (pos 0 -ℤ read z))

read_is : (z : ℤ) → IsNearZero (2 ^ 42) z → read z ≡ z
read_is z h = omega (arith, ints)

negated_is : (z : ℤ) → IsNearZero (2 ^ 42) z → negated z ≡ neg_ℤ z
negated_is z h = omega (arith, ints)

wider_axis : (z : ℤ) → IsNearZero (2 ^ 40) z → IsNearZero (2 ^ 42) z
wider_axis z h = record { low = omega (arith, ints); high = omega (arith, ints) }

wider_diagonal : (z : ℤ) → IsNearZero (2 ^ 41) z → IsNearZero (2 ^ 42) z
wider_diagonal z h = record { low = omega (arith, ints); high = omega (arith, ints) }

pub read_axis : (z : ℤ) → IsNearZero (2 ^ 40) z → read z ≡ z
read_axis z h = read_is z (wider_axis z h)

pub read_diagonal : (z : ℤ) → IsNearZero (2 ^ 41) z → read z ≡ z
read_diagonal z h = read_is z (wider_diagonal z h)

pub negated_axis : (z : ℤ) → IsNearZero (2 ^ 40) z → negated z ≡ neg_ℤ z
negated_axis z h = negated_is z (wider_axis z h)

pub negated_diagonal : (z : ℤ) → IsNearZero (2 ^ 41) z → negated z ≡ neg_ℤ z
negated_diagonal z h = negated_is z (wider_diagonal z h)

-- ---- a reach as the code reads it
abbrev made : ℤ → ℤ → ℤ → ℤ → ℤ → ℤ → ℤ → ℤ → Reach
made a b c d e f g h = record { right = a; right_down = b; down = c; left_down = d; left = e; left_up = f; up = g; right_up = h }

abbrev pub reads : Reach → Reach
reads r = made (read r.right) (read r.right_down) (read r.down) (read r.left_down) (read r.left) (read r.left_up) (read r.up) (read r.right_up)

pub reads_is : (r : Reach) → IsSmallReach r → reads r ≡ r
reads_is r s =
    let a = read_is r.right (wider_axis r.right s.right) in
    let b = read_is r.right_down (wider_diagonal r.right_down s.right_down) in
    let c = read_is r.down (wider_axis r.down s.down) in
    let d = read_is r.left_down (wider_diagonal r.left_down s.left_down) in
    let e = read_is r.left (wider_axis r.left s.left) in
    let f = read_is r.left_up (wider_diagonal r.left_up s.left_up) in
    let g = read_is r.up (wider_axis r.up s.up) in
    let h = read_is r.right_up (wider_diagonal r.right_up s.right_up) in
    let same : made (read r.right) (read r.right_down) (read r.down) (read r.left_down) (read r.left) (read r.left_up) (read r.up) (read r.right_up)
    ≡ made r.right r.right_down r.down r.left_down r.left r.left_up r.up r.right_up = cc in
    same

pub right_by : (p q h : Reach) → IsSmallReach p → IsSmallReach q → IsSmallReach h → IsRightFit (reads p) (reads q) (reads h) → IsRightFit p q h
right_by p q h a b c f =
    subst (λ (z : Reach). IsRightFit z q h) (reads_is p a)
    (subst (λ (z : Reach). IsRightFit (reads p) z h) (reads_is q b) (subst (λ (z : Reach). IsRightFit (reads p) (reads q) z) (reads_is h c) f))

pub right_down_by : (p q h : Reach) → IsSmallReach p → IsSmallReach q → IsSmallReach h → IsRightDownFit (reads p) (reads q) (reads h) → IsRightDownFit p q h
right_down_by p q h a b c f =
    subst (λ (z : Reach). IsRightDownFit z q h) (reads_is p a)
    (subst (λ (z : Reach). IsRightDownFit (reads p) z h) (reads_is q b) (subst (λ (z : Reach). IsRightDownFit (reads p) (reads q) z) (reads_is h c) f))

-- ---- the reach of an octagon
pub reach_is : (b : Bounds) (x0 x1 y0 y1 s0 s1 d0 d1 : ℤ) → IsOct b → x0 ≡ b.x0 → x1 ≡ b.x1 → y0 ≡ b.y0 → y1 ≡ b.y1 → s0 ≡ b.s0 → s1 ≡ b.s1 → d0 ≡ b.d0 → d1 ≡ b.d1
    → IsOctReach b (made (read x1) (read s1) (read y1) (negated d0) (negated x0) (negated s0) (negated y0) (read d1))
reach_is b x0 x1 y0 y1 s0 s1 d0 d1 o e0 e1 f0 f1 g0 g1 h0 h1 =
    let m = IsOct-IsSmall b o in
    record {
      right = rw (e1) (read_is b.x1 m.x1);
      right_down = rw (g1) (read_is b.s1 m.s1);
      down = rw (f1) (read_is b.y1 m.y1);
      left_down = rw (h0) (negated_is b.d0 m.d0);
      left = rw (e0) (negated_is b.x0 m.x0);
      left_up = rw (g0) (negated_is b.s0 m.s0);
      up = rw (f0) (negated_is b.y0 m.y0);
      right_up = rw (h1) (read_is b.d1 m.d1);
    }

near : {n : _} (a b : ℤ) → a ≡ b → IsNearZero n b → IsNearZero n a
near a b e h = rw (e) h

pub reach_small : (b : Bounds) (r : Reach) → IsOct b → IsOctReach b r → IsSmallReach r
reach_small b r o e =
    let t = o.tight in
    record {
      right = near r.right b.x1 e.right (record { low = omega (arith, ints, o, t); high = omega (arith, ints, o) });
      right_down = near r.right_down b.s1 e.right_down (record { low = omega (arith, ints, o, t); high = omega (arith, ints, o, t) });
      down = near r.down b.y1 e.down (record { low = omega (arith, ints, o, t); high = omega (arith, ints, o) });
      left_down = near r.left_down (neg_ℤ b.d0) e.left_down (record { low = omega (arith, ints, o, t); high = omega (arith, ints, o, t) });
      left = near r.left (neg_ℤ b.x0) e.left (record { low = omega (arith, ints, o, t); high = omega (arith, ints, o) });
      left_up = near r.left_up (neg_ℤ b.s0) e.left_up (record { low = omega (arith, ints, o, t); high = omega (arith, ints, o, t) });
      up = near r.up (neg_ℤ b.y0) e.up (record { low = omega (arith, ints, o, t); high = omega (arith, ints, o) });
      right_up = near r.right_up b.d1 e.right_up (record { low = omega (arith, ints, o, t); high = omega (arith, ints, o, t) });
    }

-- ---- the greater
pub greater_axis : (a b m : ℤ) → IsNearZero (2 ^ 40) a → IsNearZero (2 ^ 40) b → IsGreater (read a) (read b) m → IsGreater a b (read m) × IsNearZero (2 ^ 40) (read m)
greater_axis a b m h k g =
    let u = read_is a (wider_axis a h) in
    let v = read_is b (wider_axis b k) in
    let w = rw (u, v) at g in
    of_plain w
  where
    of_plain : IsGreater a b m → IsGreater a b (read m) × IsNearZero (2 ^ 40) (read m)
    of_plain w =
        let n : IsNearZero (2 ^ 40) m = record { low = omega (arith, ints, w.first, h); high = omega (arith, ints, w.is, h, k) } in
        rw (read_is m (wider_axis m n)) (w, n)

pub greater_diagonal : (a b m : ℤ) → IsNearZero (2 ^ 41) a → IsNearZero (2 ^ 41) b → IsGreater (read a) (read b) m → IsGreater a b (read m) × IsNearZero (2 ^ 41) (read m)
greater_diagonal a b m h k g =
    let u = read_is a (wider_diagonal a h) in
    let v = read_is b (wider_diagonal b k) in
    let w = rw (u, v) at g in
    of_plain w
  where
    of_plain : IsGreater a b m → IsGreater a b (read m) × IsNearZero (2 ^ 41) (read m)
    of_plain w =
        let n : IsNearZero (2 ^ 41) m = record { low = omega (arith, ints, w.first, h); high = omega (arith, ints, w.is, h, k) } in
        rw (read_is m (wider_diagonal m n)) (w, n)
