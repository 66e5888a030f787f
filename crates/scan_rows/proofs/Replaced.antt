-- What bounds hold once one of them is replaced: what lies beyond a side, and what doesn't.
use Rattle.std.proofs.Common.{arith}
use Rattle.std.specs.Prelude.{ℤ, ◌+ℤ◌, ◌-ℤ◌, ◌≤ℤ◌, ◌<ℤ◌, ◌↔◌}
use Rattle.std.proofs.lemmas.Int.{ints, by_lt_z}
use Rattle.plane.specs.Plane.{Bounds, Within}

-- with another x0
pub with_x0 : (P : ℤ → Type 0) (b : Bounds) (m : ℤ) → ((z : ℤ) → (m ≤ℤ z) ↔ ((b.x0 ≤ℤ z) × P z)) → (x y : ℤ) → Within (record { x0 = m; x1 = b.x1; y0 = b.y0; y1 = b.y1; s0 = b.s0; s1 = b.s1; d0 = b.d0; d1 = b.d1 }) x y ↔ (Within b x y × P x)
with_x0 P b m e x y = (
  λ w. let h = (e x).0 w.x_low in (record { x_low = h.0; x_high = w.x_high; y_low = w.y_low; y_high = w.y_high; s_low = w.s_low; s_high = w.s_high; d_low = w.d_low; d_high = w.d_high }, h.1),
  λ h. record { x_low = (e x).1 (h.0.x_low, h.1); x_high = h.0.x_high; y_low = h.0.y_low; y_high = h.0.y_high; s_low = h.0.s_low; s_high = h.0.s_high; d_low = h.0.d_low; d_high = h.0.d_high },
)

-- with another x1
pub with_x1 : (P : ℤ → Type 0) (b : Bounds) (m : ℤ) → ((z : ℤ) → (z ≤ℤ m) ↔ ((z ≤ℤ b.x1) × P z)) → (x y : ℤ) → Within (record { x0 = b.x0; x1 = m; y0 = b.y0; y1 = b.y1; s0 = b.s0; s1 = b.s1; d0 = b.d0; d1 = b.d1 }) x y ↔ (Within b x y × P x)
with_x1 P b m e x y = (
  λ w. let h = (e x).0 w.x_high in (record { x_low = w.x_low; x_high = h.0; y_low = w.y_low; y_high = w.y_high; s_low = w.s_low; s_high = w.s_high; d_low = w.d_low; d_high = w.d_high }, h.1),
  λ h. record { x_low = h.0.x_low; x_high = (e x).1 (h.0.x_high, h.1); y_low = h.0.y_low; y_high = h.0.y_high; s_low = h.0.s_low; s_high = h.0.s_high; d_low = h.0.d_low; d_high = h.0.d_high },
)

-- with another y0
pub with_y0 : (P : ℤ → Type 0) (b : Bounds) (m : ℤ) → ((z : ℤ) → (m ≤ℤ z) ↔ ((b.y0 ≤ℤ z) × P z)) → (x y : ℤ) → Within (record { x0 = b.x0; x1 = b.x1; y0 = m; y1 = b.y1; s0 = b.s0; s1 = b.s1; d0 = b.d0; d1 = b.d1 }) x y ↔ (Within b x y × P y)
with_y0 P b m e x y = (
  λ w. let h = (e y).0 w.y_low in (record { x_low = w.x_low; x_high = w.x_high; y_low = h.0; y_high = w.y_high; s_low = w.s_low; s_high = w.s_high; d_low = w.d_low; d_high = w.d_high }, h.1),
  λ h. record { x_low = h.0.x_low; x_high = h.0.x_high; y_low = (e y).1 (h.0.y_low, h.1); y_high = h.0.y_high; s_low = h.0.s_low; s_high = h.0.s_high; d_low = h.0.d_low; d_high = h.0.d_high },
)

-- with another y1
pub with_y1 : (P : ℤ → Type 0) (b : Bounds) (m : ℤ) → ((z : ℤ) → (z ≤ℤ m) ↔ ((z ≤ℤ b.y1) × P z)) → (x y : ℤ) → Within (record { x0 = b.x0; x1 = b.x1; y0 = b.y0; y1 = m; s0 = b.s0; s1 = b.s1; d0 = b.d0; d1 = b.d1 }) x y ↔ (Within b x y × P y)
with_y1 P b m e x y = (
  λ w. let h = (e y).0 w.y_high in (record { x_low = w.x_low; x_high = w.x_high; y_low = w.y_low; y_high = h.0; s_low = w.s_low; s_high = w.s_high; d_low = w.d_low; d_high = w.d_high }, h.1),
  λ h. record { x_low = h.0.x_low; x_high = h.0.x_high; y_low = h.0.y_low; y_high = (e y).1 (h.0.y_high, h.1); s_low = h.0.s_low; s_high = h.0.s_high; d_low = h.0.d_low; d_high = h.0.d_high },
)

-- with another s0
pub with_s0 : (P : ℤ → Type 0) (b : Bounds) (m : ℤ) → ((z : ℤ) → (m ≤ℤ z) ↔ ((b.s0 ≤ℤ z) × P z)) → (x y : ℤ) → Within (record { x0 = b.x0; x1 = b.x1; y0 = b.y0; y1 = b.y1; s0 = m; s1 = b.s1; d0 = b.d0; d1 = b.d1 }) x y ↔ (Within b x y × P (x +ℤ y))
with_s0 P b m e x y = (
  λ w. let h = (e (x +ℤ y)).0 w.s_low in (record { x_low = w.x_low; x_high = w.x_high; y_low = w.y_low; y_high = w.y_high; s_low = h.0; s_high = w.s_high; d_low = w.d_low; d_high = w.d_high }, h.1),
  λ h. record { x_low = h.0.x_low; x_high = h.0.x_high; y_low = h.0.y_low; y_high = h.0.y_high; s_low = (e (x +ℤ y)).1 (h.0.s_low, h.1); s_high = h.0.s_high; d_low = h.0.d_low; d_high = h.0.d_high },
)

-- with another s1
pub with_s1 : (P : ℤ → Type 0) (b : Bounds) (m : ℤ) → ((z : ℤ) → (z ≤ℤ m) ↔ ((z ≤ℤ b.s1) × P z)) → (x y : ℤ) → Within (record { x0 = b.x0; x1 = b.x1; y0 = b.y0; y1 = b.y1; s0 = b.s0; s1 = m; d0 = b.d0; d1 = b.d1 }) x y ↔ (Within b x y × P (x +ℤ y))
with_s1 P b m e x y = (
  λ w. let h = (e (x +ℤ y)).0 w.s_high in (record { x_low = w.x_low; x_high = w.x_high; y_low = w.y_low; y_high = w.y_high; s_low = w.s_low; s_high = h.0; d_low = w.d_low; d_high = w.d_high }, h.1),
  λ h. record { x_low = h.0.x_low; x_high = h.0.x_high; y_low = h.0.y_low; y_high = h.0.y_high; s_low = h.0.s_low; s_high = (e (x +ℤ y)).1 (h.0.s_high, h.1); d_low = h.0.d_low; d_high = h.0.d_high },
)

-- with another d0
pub with_d0 : (P : ℤ → Type 0) (b : Bounds) (m : ℤ) → ((z : ℤ) → (m ≤ℤ z) ↔ ((b.d0 ≤ℤ z) × P z)) → (x y : ℤ) → Within (record { x0 = b.x0; x1 = b.x1; y0 = b.y0; y1 = b.y1; s0 = b.s0; s1 = b.s1; d0 = m; d1 = b.d1 }) x y ↔ (Within b x y × P (x -ℤ y))
with_d0 P b m e x y = (
  λ w. let h = (e (x -ℤ y)).0 w.d_low in (record { x_low = w.x_low; x_high = w.x_high; y_low = w.y_low; y_high = w.y_high; s_low = w.s_low; s_high = w.s_high; d_low = h.0; d_high = w.d_high }, h.1),
  λ h. record { x_low = h.0.x_low; x_high = h.0.x_high; y_low = h.0.y_low; y_high = h.0.y_high; s_low = h.0.s_low; s_high = h.0.s_high; d_low = (e (x -ℤ y)).1 (h.0.d_low, h.1); d_high = h.0.d_high },
)

-- with another d1
pub with_d1 : (P : ℤ → Type 0) (b : Bounds) (m : ℤ) → ((z : ℤ) → (z ≤ℤ m) ↔ ((z ≤ℤ b.d1) × P z)) → (x y : ℤ) → Within (record { x0 = b.x0; x1 = b.x1; y0 = b.y0; y1 = b.y1; s0 = b.s0; s1 = b.s1; d0 = b.d0; d1 = m }) x y ↔ (Within b x y × P (x -ℤ y))
with_d1 P b m e x y = (
  λ w. let h = (e (x -ℤ y)).0 w.d_high in (record { x_low = w.x_low; x_high = w.x_high; y_low = w.y_low; y_high = w.y_high; s_low = w.s_low; s_high = w.s_high; d_low = w.d_low; d_high = h.0 }, h.1),
  λ h. record { x_low = h.0.x_low; x_high = h.0.x_high; y_low = h.0.y_low; y_high = h.0.y_high; s_low = h.0.s_low; s_high = h.0.s_high; d_low = h.0.d_low; d_high = (e (x -ℤ y)).1 (h.0.d_high, h.1) },
)

-- what is no more than the lesser of two numbers, and no less than the greater
pub no_more : (a l m : ℤ) → m ≤ℤ a → m ≤ℤ l → ((z : ℤ) → z ≤ℤ a → z ≤ℤ l → z ≤ℤ m) → (z : ℤ) → (z ≤ℤ m) ↔ ((z ≤ℤ a) × (l <ℤ z → ⊥))
no_more a l m h k f z = (λ w. (omega (arith, ints), λ i. omega (arith, ints)), λ w. f z w.0 (below z l w.1))
  where
    below : (z l : ℤ) → (l <ℤ z → ⊥) → z ≤ℤ l
    below z l n = by_lt_z {P = z ≤ℤ l} l z (λ i. absurd (n i)) (λ i. i)

pub no_less : (a l m : ℤ) → a ≤ℤ m → l ≤ℤ m → ((z : ℤ) → a ≤ℤ z → l ≤ℤ z → m ≤ℤ z) → (z : ℤ) → (m ≤ℤ z) ↔ ((a ≤ℤ z) × (z <ℤ l → ⊥))
no_less a l m h k f z = (λ w. (omega (arith, ints), λ i. omega (arith, ints)), λ w. f z w.0 (above z l w.1))
  where
    above : (z l : ℤ) → (z <ℤ l → ⊥) → l ≤ℤ z
    above z l n = by_lt_z {P = l ≤ℤ z} z l (λ i. absurd (n i)) (λ i. i)
