-- Runs joined, as the code does it.
use Rattle.std.proofs.Common.{◌≡◌, refl, sym, ℕ, ◌^◌, ◌+◌, ◌<◌, arith, w64, to_z, of_z, List, [], ◌∷◌, ◌++◌, length, get_or, drop, drop-cons, append_assoc, add-one, true, false}
use Rattle.std.specs.Prelude.{ℤ, pos, ◌+ℤ◌, int_lt, Bool, All}
use Rattle.std.proofs.lemmas.Int.{ints}
use Rattle.plane.specs.Narrow.{IsNearZero}
use Rattle.strips.specs.declared.Strip.{Strip}
use Rattle.strips.specs.Inner.Merge.{joined, merged_from}
use Rattle.sheet_union.specs.Near.{IsNearStrip}

pub read_is : (a : ℤ) → IsNearZero (2 ^ 45) a → to_z w64 (of_z w64 a) ≡ a
read_is a h = omega (arith, ints)

pub sum_is : (a b : ℤ) → IsNearZero (2 ^ 45) a → IsNearZero (2 ^ 45) b → to_z w64 (of_z w64 (to_z w64 (of_z w64 a) +ℤ to_z w64 (of_z w64 b))) ≡ a +ℤ b
sum_is a b h g = omega (arith, ints)

-- ---- the code's steps over plain strips
pub test_is : (a b c d : ℤ) (r : Bool) → IsNearZero (2 ^ 45) a → IsNearZero (2 ^ 45) b → IsNearZero (2 ^ 45) c → IsNearZero (2 ^ 45) d
    → r ≡ int_lt (to_z w64 (of_z w64 a) +ℤ to_z w64 (of_z w64 b)) (to_z w64 (of_z w64 c) +ℤ to_z w64 (of_z w64 d)) → int_lt (a +ℤ b) (c +ℤ d) ≡ r
test_is a b c d r h1 h2 h3 h4 e = sym (rw (read_is a h1, read_is b h2, read_is c h3, read_is d h4) at e)

pub grown_is : (a b : Strip) → IsNearStrip a → IsNearStrip b → int_lt (a.right +ℤ a.right_end) (b.right +ℤ b.right_end) ≡ true
    → ◌≡◌ {A = Strip} (record { top = to_z w64 (of_z w64 a.top); bottom = to_z w64 (of_z w64 a.bottom); left = to_z w64 (of_z w64 a.left); left_end = to_z w64 (of_z w64 a.left_end); right = to_z w64 (of_z w64 b.right); right_end = to_z w64 (of_z w64 b.right_end) }) (joined a b)
grown_is a b h k e = rw (read_is a.top h.top, read_is a.bottom h.bottom, read_is a.left h.left, read_is a.left_end h.left_end, read_is b.right k.right, read_is b.right_end k.right_end, e) refl

pub kept_is : (a b : Strip) → int_lt (a.right +ℤ a.right_end) (b.right +ℤ b.right_end) ≡ false → a ≡ joined a b
kept_is a b e = rw e refl

pub near_at : (runs : List Strip) (i : ℕ) (d : Strip) → All (λ s. IsNearStrip s) runs → i < length runs → IsNearStrip (get_or runs i d)
near_at runs i d h l = h i d l

pub near_read : (a : ℤ) → IsNearZero (2 ^ 45) a → IsNearZero (2 ^ 45) (to_z w64 (of_z w64 a))
near_read a h = rw (read_is a h) h

pub put_step : (out z : List Strip) (last : Strip) (i : ℕ) (runs : List Strip) (d : Strip) → i < length runs
    → int_lt (last.right +ℤ last.right_end) ((get_or runs i d).left +ℤ (get_or runs i d).left_end) ≡ true
    → out ++ merged_from last (drop i runs) ≡ z → (out ++ last ∷ []) ++ merged_from (get_or runs i d) (drop (i + 1) runs) ≡ z
put_step out z last i runs d l e h = rw (append_assoc, add-one) (rw (drop-cons runs i d, e) at h)

pub join_step : (out z : List Strip) (last : Strip) (i : ℕ) (runs : List Strip) (d : Strip) → i < length runs
    → int_lt (last.right +ℤ last.right_end) ((get_or runs i d).left +ℤ (get_or runs i d).left_end) ≡ false
    → out ++ merged_from last (drop i runs) ≡ z → out ++ merged_from (joined last (get_or runs i d)) (drop (i + 1) runs) ≡ z
join_step out z last i runs d l e h = rw add-one (rw (drop-cons runs i d, e) at h)

abbrev pub zero_strip : Strip
zero_strip = record { top = pos 0; bottom = pos 0; left = pos 0; left_end = pos 0; right = pos 0; right_end = pos 0 }
