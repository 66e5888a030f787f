-- The code's rows, over plain numbers.
use Rattle.std.proofs.Common.{◌≡◌, ◌∙◌, ◌^◌, arith, w64, to_z, of_z, FitsSigned, true, false}
use Rattle.std.specs.Prelude.{ℤ, pos, ◌+ℤ◌, ◌-ℤ◌, ◌*ℤ◌, int_lt, Bool, if◌then◌else◌}
use Rattle.std.proofs.lemmas.Int.{ints, to_z-of_z}
use Rattle.plane.specs.Narrow.{IsNearZero}
use Rattle.strips.specs.Inner.Runs.{greatest, least}

-- a test of two numbers as the code reads them
pub plain : (a b : ℤ) (r : Bool) → FitsSigned w64 a → FitsSigned w64 b → int_lt (to_z w64 (of_z w64 a)) (to_z w64 (of_z w64 b)) ≡ r → int_lt a b ≡ r
plain a b r f g h = rw (to_z-of_z w64 a f, to_z-of_z w64 b g) at h

pub most_bc : (a b c : ℤ) → FitsSigned w64 c → int_lt a b ≡ true → int_lt b c ≡ true → to_z w64 (of_z w64 c) ≡ greatest a b c
unfolding greatest
most_bc a b c f h k = rw (h, k) (to_z-of_z w64 c f)

pub most_b : (a b c : ℤ) → FitsSigned w64 b → int_lt a b ≡ true → int_lt b c ≡ false → to_z w64 (of_z w64 b) ≡ greatest a b c
unfolding greatest
most_b a b c f h k = rw (h, k) (to_z-of_z w64 b f)

pub most_c : (a b c : ℤ) → FitsSigned w64 c → int_lt a b ≡ false → int_lt a c ≡ true → to_z w64 (of_z w64 c) ≡ greatest a b c
unfolding greatest
most_c a b c f h k = rw (h, k) (to_z-of_z w64 c f)

pub most_a : (a b c : ℤ) → FitsSigned w64 a → int_lt a b ≡ false → int_lt a c ≡ false → to_z w64 (of_z w64 a) ≡ greatest a b c
unfolding greatest
most_a a b c f h k = rw (h, k) (to_z-of_z w64 a f)

pub fewest_c : (a b c : ℤ) → FitsSigned w64 c → int_lt b a ≡ true → int_lt c b ≡ true → to_z w64 (of_z w64 c) ≡ least a b c
unfolding least
fewest_c a b c f h k = rw (h, k) (to_z-of_z w64 c f)

pub fewest_b : (a b c : ℤ) → FitsSigned w64 b → int_lt b a ≡ true → int_lt c b ≡ false → to_z w64 (of_z w64 b) ≡ least a b c
unfolding least
fewest_b a b c f h k = rw (h, k) (to_z-of_z w64 b f)

pub fewest_ac : (a b c : ℤ) → FitsSigned w64 c → int_lt b a ≡ false → int_lt c a ≡ true → to_z w64 (of_z w64 c) ≡ least a b c
unfolding least
fewest_ac a b c f h k = rw (h, k) (to_z-of_z w64 c f)

pub fewest_a : (a b c : ℤ) → FitsSigned w64 a → int_lt b a ≡ false → int_lt c a ≡ false → to_z w64 (of_z w64 a) ≡ least a b c
unfolding least
fewest_a a b c f h k = rw (h, k) (to_z-of_z w64 a f)

-- ---- twice a bound, and a row
abbrev pub twice : ℤ → ℤ
twice r = to_z w64 (of_z w64 (pos 2 *ℤ to_z w64 (of_z w64 r)))

abbrev pub read : ℤ → ℤ
read y = to_z w64 (of_z w64 y)

pub twice_fits : (r b : ℤ) → r ≡ b → IsNearZero (2 ^ 42) b → FitsSigned w64 (pos 2 *ℤ read r)
twice_fits r b e h = omega (arith, ints)

pub sub_fits : (r b y : ℤ) → r ≡ b → IsNearZero (2 ^ 42) b → IsNearZero (2 ^ 43) y → FitsSigned w64 (twice r -ℤ read y)
sub_fits r b y e h k = omega (arith, ints)

pub add_fits : (r b y : ℤ) → r ≡ b → IsNearZero (2 ^ 42) b → IsNearZero (2 ^ 43) y → FitsSigned w64 (twice r +ℤ read y)
add_fits r b y e h k = omega (arith, ints)

twice_is : (r b : ℤ) → r ≡ b → IsNearZero (2 ^ 42) b → twice r ≡ pos 2 *ℤ b
twice_is r b e h = omega (arith, ints)

sub_is : (r b y : ℤ) → r ≡ b → IsNearZero (2 ^ 42) b → IsNearZero (2 ^ 43) y → read (twice r -ℤ read y) ≡ pos 2 *ℤ b -ℤ y
sub_is r b y e h k = omega (arith, ints)

add_is : (r b y : ℤ) → r ≡ b → IsNearZero (2 ^ 42) b → IsNearZero (2 ^ 43) y → read (twice r +ℤ read y) ≡ pos 2 *ℤ b +ℤ y
add_is r b y e h k = omega (arith, ints)

pub start_is : (rx rs rd x s d y m : ℤ) → rx ≡ x → rs ≡ s → rd ≡ d → IsNearZero (2 ^ 42) x → IsNearZero (2 ^ 42) s → IsNearZero (2 ^ 42) d → IsNearZero (2 ^ 43) y → FitsSigned w64 m
    → m ≡ greatest (twice rx) (read (twice rs -ℤ read y)) (read (twice rd +ℤ read y)) → read m ≡ greatest (pos 2 *ℤ x) (pos 2 *ℤ s -ℤ y) (pos 2 *ℤ d +ℤ y)
start_is rx rs rd x s d y m ex es ed hx hs hd hy f e =
    to_z-of_z w64 m f ∙ (rw (twice_is rx x ex hx, sub_is rs s y es hs hy, add_is rd d y ed hd hy) at e)

pub finish_is : (rx rs rd x s d y m : ℤ) → rx ≡ x → rs ≡ s → rd ≡ d → IsNearZero (2 ^ 42) x → IsNearZero (2 ^ 42) s → IsNearZero (2 ^ 42) d → IsNearZero (2 ^ 43) y → FitsSigned w64 m
    → m ≡ least (twice rx) (read (twice rs -ℤ read y)) (read (twice rd +ℤ read y)) → read m ≡ least (pos 2 *ℤ x) (pos 2 *ℤ s -ℤ y) (pos 2 *ℤ d +ℤ y)
finish_is rx rs rd x s d y m ex es ed hx hs hd hy f e =
    to_z-of_z w64 m f ∙ (rw (twice_is rx x ex hx, sub_is rs s y es hs hy, add_is rd d y ed hd hy) at e)

-- ---- the ends are near
one_of_three : (P : ℤ → Type 0) (p q r : Bool) (a b c : ℤ) → P a → P b → P c → P (if p then (if q then c else b) else (if r then c else a))
one_of_three P true true r a b c f g h = h
one_of_three P true false r a b c f g h = g
one_of_three P false q true a b c f g h = h
one_of_three P false q false a b c f g h = f

greatest_near : (a b c : ℤ) → IsNearZero (2 ^ 45) a → IsNearZero (2 ^ 45) b → IsNearZero (2 ^ 45) c → IsNearZero (2 ^ 45) (greatest a b c)
unfolding greatest
greatest_near a b c f g h = one_of_three (IsNearZero (2 ^ 45)) (int_lt a b) (int_lt b c) (int_lt a c) a b c f g h

least_near : (a b c : ℤ) → IsNearZero (2 ^ 45) a → IsNearZero (2 ^ 45) b → IsNearZero (2 ^ 45) c → IsNearZero (2 ^ 45) (least a b c)
unfolding least
least_near a b c f g h = one_of_three (IsNearZero (2 ^ 45)) (int_lt b a) (int_lt c b) (int_lt c a) a b c f g h

pub start_near : (x s d y r : ℤ) → IsNearZero (2 ^ 42) x → IsNearZero (2 ^ 42) s → IsNearZero (2 ^ 42) d → IsNearZero (2 ^ 43) y
    → r ≡ greatest (pos 2 *ℤ x) (pos 2 *ℤ s -ℤ y) (pos 2 *ℤ d +ℤ y) → IsNearZero (2 ^ 45) r
start_near x s d y r f g h k e = rw e (greatest_near (pos 2 *ℤ x) (pos 2 *ℤ s -ℤ y) (pos 2 *ℤ d +ℤ y) (omega (arith, ints)) (omega (arith, ints)) (omega (arith, ints)))

pub finish_near : (x s d y r : ℤ) → IsNearZero (2 ^ 42) x → IsNearZero (2 ^ 42) s → IsNearZero (2 ^ 42) d → IsNearZero (2 ^ 43) y
    → r ≡ least (pos 2 *ℤ x) (pos 2 *ℤ s -ℤ y) (pos 2 *ℤ d +ℤ y) → IsNearZero (2 ^ 45) r
finish_near x s d y r f g h k e = rw e (least_near (pos 2 *ℤ x) (pos 2 *ℤ s -ℤ y) (pos 2 *ℤ d +ℤ y) (omega (arith, ints)) (omega (arith, ints)) (omega (arith, ints)))
