-- The rows that the code adds, call by call.
use Rattle.std.proofs.Common.{◌≡◌, refl, ◌∙◌, ◌^◌, List, ◌++◌, append_assoc, arith, true, false, w64, FitsSigned}
use Rattle.std.specs.Prelude.{ℤ, ◌+ℤ◌, ◌-ℤ◌, int_lt, Bool, ◌&&◌}
use Rattle.std.proofs.lemmas.Int.{ints, to_z-of_z}
use Rattle.std.proofs.lemmas.List.{append-nil}
use Rattle.plane.specs.Plane.{Bounds, IsOct}
use Rattle.octagon.proofs.Plain.{IsOct-IsSmall}
use Rattle.plane.specs.Narrow.{IsNearZero}
use Rattle.sheet_union.specs.Inner.Crossings.{is_within_twice, is_on_oct, met, on_rising, on_falling, on_slants, upright_rows, rising_rows, half_rows, crossing_rows}
use Rattle.sheet_union.proofs.Plain.{read, twice, twice_is, double_less, plus_is, less_is, read_is, smaller}

pub on_is : (b : Bounds) (x y x0 x1 y0 y1 s0 s1 d0 d1 : ℤ) (p q r t z : Bool) → IsOct b → IsNearZero (2 ^ 44) x → IsNearZero (2 ^ 44) y
    → x0 ≡ b.x0 → x1 ≡ b.x1 → y0 ≡ b.y0 → y1 ≡ b.y1 → s0 ≡ b.s0 → s1 ≡ b.s1 → d0 ≡ b.d0 → d1 ≡ b.d1
    → p ≡ is_within_twice (read x0) (read x) (read x1) → q ≡ is_within_twice (read y0) (read y) (read y1)
    → r ≡ is_within_twice (read s0) (read (read x +ℤ read y)) (read s1) → t ≡ is_within_twice (read d0) (read (read x -ℤ read y)) (read d1)
    → z ≡ (p && (q && (r && t))) → z ≡ is_on_oct b x y
unfolding is_on_oct
on_is b x y x0 x1 y0 y1 s0 s1 d0 d1 p q r t z o h k a0 a1 b0 b1 c0 c1 e0 e1 f g i j e =
    let m = IsOct-IsSmall b o in
    rw (
      f,
      g,
      i,
      j,
      a0,
      a1,
      b0,
      b1,
      c0,
      c1,
      e0,
      e1,
      plus_is x y h k,
      less_is x y h k,
      read_is x (omega (arith, ints)),
      read_is y (omega (arith, ints)),
      small_is b.x0 m.x0,
      small_is b.x1 m.x1,
      small_is b.y0 m.y0,
      small_is b.y1 m.y1,
      small_is b.s0 m.s0,
      small_is b.s1 m.s1,
      small_is b.d0 m.d0,
      small_is b.d1 m.d1,
    ) at e
  where
    small_is : (z : ℤ) → IsNearZero (2 ^ 42) z → read z ≡ z
    small_is z n = read_is z (omega (arith, ints))

pub rising_is : (a b : Bounds) (x d : ℤ) (r0 r1 : List ℤ) → IsNearZero (2 ^ 42) x → IsNearZero (2 ^ 42) d
    → r1 ≡ r0 ++ met a b (twice x) (read (twice x -ℤ twice d)) → r1 ≡ r0 ++ on_rising a b x d
rising_is a b x d r0 r1 h k e = rw (double_less x d h k, twice_is x h) at e

pub falling_is : (a b : Bounds) (x s : ℤ) (r0 r1 : List ℤ) → IsNearZero (2 ^ 42) x → IsNearZero (2 ^ 42) s
    → r1 ≡ r0 ++ met a b (twice x) (read (twice s -ℤ twice x)) → r1 ≡ r0 ++ on_falling a b x s
falling_is a b x s r0 r1 h k e = rw (double_less s x k h, twice_is x h) at e

pub slants_is : (a b : Bounds) (d s : ℤ) (r0 r1 : List ℤ) → IsNearZero (2 ^ 42) d → IsNearZero (2 ^ 42) s
    → r1 ≡ r0 ++ met a b (read (read s +ℤ read d)) (read (read s -ℤ read d)) → r1 ≡ r0 ++ on_slants a b d s
slants_is a b d s r0 r1 h k e = rw (plus_is s d (smaller s k) (smaller d h), less_is s d (smaller s k) (smaller d h)) at e

two : {X : Type 0} (r0 r1 r2 p q : List X) → r1 ≡ r0 ++ p → r2 ≡ r1 ++ q → r2 ≡ r0 ++ (p ++ q)
two r0 r1 r2 p q e f = f ∙ (rw e (append_assoc r0 p q))

four : {X : Type 0} (r0 r1 r2 r3 r4 p q s t : List X) → r1 ≡ r0 ++ p → r2 ≡ r1 ++ q → r3 ≡ r2 ++ s → r4 ≡ r3 ++ t → r4 ≡ r0 ++ (((p ++ q) ++ s) ++ t)
four r0 r1 r2 r3 r4 p q s t e f g h = two r0 r3 r4 ((p ++ q) ++ s) t (two r0 r2 r3 (p ++ q) s (two r0 r1 r2 p q e f) g) h

-- a bound as the code hands it on
seen : (r z : ℤ) → r ≡ z → IsNearZero (2 ^ 42) z → read r ≡ z
seen r z e h = rw e (read_is z (omega (arith, ints)))

pub upright_is : (a b : Bounds) (x d0 d1 s0 s1 : ℤ) (r0 r1 r2 r3 r4 : List ℤ) → IsNearZero (2 ^ 42) x → IsOct b → d0 ≡ b.d0 → d1 ≡ b.d1 → s0 ≡ b.s0 → s1 ≡ b.s1
    → r1 ≡ r0 ++ on_rising a b (read x) (read d0) → r2 ≡ r1 ++ on_rising a b (read x) (read d1)
    → r3 ≡ r2 ++ on_falling a b (read x) (read s0) → r4 ≡ r3 ++ on_falling a b (read x) (read s1)
    → r4 ≡ r0 ++ upright_rows a b x
unfolding upright_rows
upright_is a b x d0 d1 s0 s1 r0 r1 r2 r3 r4 h o k l m n e f g i =
    let z = read_is x (omega (arith, ints)) in
    let q = IsOct-IsSmall b o in
    four r0 r1 r2 r3 r4 (on_rising a b x b.d0) (on_rising a b x b.d1) (on_falling a b x b.s0) (on_falling a b x b.s1)
    (rw (z, seen d0 b.d0 k q.d0) at e) (rw (z, seen d1 b.d1 l q.d1) at f) (rw (z, seen s0 b.s0 m q.s0) at g) (rw (z, seen s1 b.s1 n q.s1) at i)

pub rising_all : (a b : Bounds) (d s0 s1 : ℤ) (r0 r1 r2 : List ℤ) → IsNearZero (2 ^ 42) d → IsOct b → s0 ≡ b.s0 → s1 ≡ b.s1
    → r1 ≡ r0 ++ on_slants a b (read d) (read s0) → r2 ≡ r1 ++ on_slants a b (read d) (read s1) → r2 ≡ r0 ++ rising_rows a b d
unfolding rising_rows
rising_all a b d s0 s1 r0 r1 r2 h o k l e f =
    let z = read_is d (omega (arith, ints)) in
    let q = IsOct-IsSmall b o in
    two r0 r1 r2 (on_slants a b d b.s0) (on_slants a b d b.s1) (rw (z, seen s0 b.s0 k q.s0) at e) (rw (z, seen s1 b.s1 l q.s1) at f)

pub half_is : (a b : Bounds) (x0 x1 d0 d1 : ℤ) (r0 r1 r2 r3 r4 : List ℤ) → IsOct a → x0 ≡ a.x0 → x1 ≡ a.x1 → d0 ≡ a.d0 → d1 ≡ a.d1
    → r1 ≡ r0 ++ upright_rows a b (read x0) → r2 ≡ r1 ++ upright_rows a b (read x1) → r3 ≡ r2 ++ rising_rows a b (read d0) → r4 ≡ r3 ++ rising_rows a b (read d1)
    → r4 ≡ r0 ++ half_rows a b
unfolding half_rows
half_is a b x0 x1 d0 d1 r0 r1 r2 r3 r4 o k l m n e f g i =
    let q = IsOct-IsSmall a o in
    four r0 r1 r2 r3 r4 (upright_rows a b a.x0) (upright_rows a b a.x1) (rising_rows a b a.d0) (rising_rows a b a.d1)
    (rw (seen x0 a.x0 k q.x0) at e) (rw (seen x1 a.x1 l q.x1) at f) (rw (seen d0 a.d0 m q.d0) at g) (rw (seen d1 a.d1 n q.d1) at i)

pub none_right : (a b : Bounds) (x1 x0 : ℤ) (r : List ℤ) → x1 ≡ a.x1 → x0 ≡ b.x0 → int_lt (read x1) (read x0) ≡ true
    → FitsSigned w64 x1 → FitsSigned w64 x0 → r ≡ r ++ crossing_rows a b
unfolding crossing_rows
none_right a b x1 x0 r e f h m n =
    let g : int_lt a.x1 b.x0 ≡ true = rw (to_z-of_z w64 x1 m, to_z-of_z w64 x0 n, e, f) at h in
    rw (g, append-nil r) refl

pub both_halves : (a b : Bounds) (x0 x1 y0 y1 : ℤ) (r0 r1 r2 : List ℤ) → x1 ≡ a.x1 → y0 ≡ b.x0 → y1 ≡ b.x1 → x0 ≡ a.x0
    → int_lt (read x1) (read y0) ≡ false → int_lt (read y1) (read x0) ≡ false → FitsSigned w64 x0 → FitsSigned w64 x1 → FitsSigned w64 y0 → FitsSigned w64 y1
    → r1 ≡ r0 ++ half_rows a b → r2 ≡ r1 ++ half_rows b a → r2 ≡ r0 ++ crossing_rows a b
unfolding crossing_rows
both_halves a b x0 x1 y0 y1 r0 r1 r2 k l m n h g fx0 fx1 fy0 fy1 e f =
    let u : int_lt a.x1 b.x0 ≡ false = rw (to_z-of_z w64 x1 fx1, to_z-of_z w64 y0 fy0, k, l) at h in
    let v : int_lt b.x1 a.x0 ≡ false = rw (to_z-of_z w64 y1 fy1, to_z-of_z w64 x0 fx0, m, n) at g in
    rw (u, v) (two r0 r1 r2 (half_rows a b) (half_rows b a) e f)

pub none_left : (a b : Bounds) (x0 x1 y0 y1 : ℤ) (r : List ℤ) → x1 ≡ a.x1 → y0 ≡ b.x0 → y1 ≡ b.x1 → x0 ≡ a.x0
    → int_lt (read x1) (read y0) ≡ false → int_lt (read y1) (read x0) ≡ true → FitsSigned w64 x0 → FitsSigned w64 x1 → FitsSigned w64 y0 → FitsSigned w64 y1
    → r ≡ r ++ crossing_rows a b
unfolding crossing_rows
none_left a b x0 x1 y0 y1 r k l m n h g fx0 fx1 fy0 fy1 =
    let u : int_lt a.x1 b.x0 ≡ false = rw (to_z-of_z w64 x1 fx1, to_z-of_z w64 y0 fy0, k, l) at h in
    let v : int_lt b.x1 a.x0 ≡ true = rw (to_z-of_z w64 y1 fy1, to_z-of_z w64 x0 fx0, m, n) at g in
    rw (u, v, append-nil r) refl
