-- Rounding to whole units.
use Rattle.std.proofs.Common.{◌≡◌, ap, ℕ, ◌+◌, ◌/◌, ◌≤◌, arith}
use Rattle.std.specs.Prelude.{ℤ, pos, negsuc, neg_ℤ, ◌+ℤ◌, ◌*ℤ◌, ◌≤ℤ◌, ◌<ℤ◌}
use Rattle.std.proofs.lemmas.Int.{ints}
use Rattle.std.proofs.Math.Nat.{div-add-mod}
use Rattle.std.proofs.lemmas.Nat.{mod_below}
use Rattle.grid_num.proofs.Products.{mul_le, mul_neg, mul_lt_back}
use Rattle.hulls.specs.Cells.{floor_of, ceil_of}
use Rattle.hulls.specs.Laws.{FloorLaw, CeilLaw}

pub floor_low : (n : ℕ) (x : ℤ) → 1 ≤ n → (pos n *ℤ floor_of n x) ≤ℤ x
unfolding floor_of
floor_low n (pos a) h = omega (arith, ints, div-add-mod a n)
floor_low n (negsuc a) h = omega (arith, ints, div-add-mod a n, mod_below a n (omega arith), mul_neg n (pos (a / n + 1)))

pub floor_high : (n : ℕ) (x : ℤ) → 1 ≤ n → x <ℤ (pos n *ℤ (floor_of n x +ℤ pos 1))
unfolding floor_of
floor_high n (pos a) h = omega (arith, ints, div-add-mod a n, mod_below a n (omega arith))
floor_high n (negsuc a) h =
    let e : negsuc (a / n) +ℤ pos 1 ≡ neg_ℤ (pos (a / n)) = omega (arith, ints) in
    omega (arith, ints, div-add-mod a n, ap (λ (z : ℤ). pos n *ℤ z) e, mul_neg n (pos (a / n)))

pub floor_law : FloorLaw
floor_law n x m h = (
  λ l. omega (arith, ints, mul_le n m (floor_of n x) l, floor_low n x h),
  λ l. let s = mul_lt_back n m (floor_of n x +ℤ pos 1) (omega (arith, ints, floor_high n x h)) in omega (arith, ints),
)

pub ceil_law : CeilLaw
unfolding ceil_of
ceil_law n x m h =
    let f = floor_law n (neg_ℤ x) (neg_ℤ m) h in (
      λ l. let g = f.0 (omega (arith, ints)) in omega (arith, ints, mul_neg n m),
      λ l. let g = f.1 (omega (arith, ints, mul_neg n m)) in omega (arith, ints),
    )
