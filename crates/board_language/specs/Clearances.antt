-- The clearances that hold on a whole board, in nanometres.
use Rattle.std.specs.Prelude.{ℕ, ◌≤◌}

pub record Clearances : Type 0 where
  -- between copper of different nets, wherever it is
  pub floor : ℕ
  -- from copper to the board's edge
  pub edge : ℕ

-- a clearance of a whole board is from 2 nm to 100 mm
pub record IsClearance (n : ℕ) : Type 0 where
  pub least : 2 ≤ n
  pub most : n ≤ 100000000

-- both are such clearances
pub record AreSoundRules (r : Clearances) : Type 0 where
  pub floor : IsClearance r.floor
  pub edge : IsClearance r.edge
