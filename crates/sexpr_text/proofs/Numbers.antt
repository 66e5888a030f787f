-- Two numbers compared.
use Rattle.std.proofs.Common.{◌≡◌, ◌⊎◌, ℕ, ◌<◌, ◌≤◌, arith}

pub compared : (a b : ℕ) → (a ≡ b) ⊎ ((a < b) ⊎ (b < a))
compared a b = grind arith

pub below_or_past : (a b : ℕ) → (a < b) ⊎ (b ≤ a)
below_or_past a b = grind arith
