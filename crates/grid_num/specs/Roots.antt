-- How far the disc of radius a may reach along x + y: the root of 2 a a, rounded up.
use Rattle.std.specs.Prelude.{ℕ, zero, suc, ◌≤◌, ◌*◌, nat_le, if◌then◌else◌}

-- the least m up to n with m * m at least t, where n * n is at least t
abbrev pub least_root : ℕ → ℕ → ℕ
least_root t zero = zero
least_root t (suc n) = (if nat_le t (least_root t n * least_root t n) then least_root t n else suc n)

-- the least m with m * m at least 2 * a * a: how far, along x + y, the disc of radius a may reach
unfoldable pub up2_of : ℕ → ℕ
up2_of a = least_root (2 * (a * a)) (2 * a)

-- up2_of a is the least number whose square is at least 2 a a
pub record IsUp2 (a m : ℕ) : Type 0 where
  pub reaches : 2 * (a * a) ≤ m * m
  pub least : (n : ℕ) → 2 * (a * a) ≤ n * n → m ≤ n
