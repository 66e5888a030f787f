-- The laws of shapes.
use Rattle.std.specs.Prelude.{ℕ, ◌+◌, ◌*◌, ◌≤◌}
use Rattle.std.specs.List.{All}
use Rattle.octagon.specs.Room.{IsAround}
use Rattle.touching.specs.Core.{Core, IsWhole}
use Rattle.hulls.specs.Hulls.{hulls_of}
use Rattle.cores.specs.Room.{IsCoreInRoom}

-- the hulls of a core within m units of 0 and a radius of at most a units lie within m + a units of 0
abbrev pub HullReachLaw : Type 0
HullReachLaw =
    (m a : ℕ) (c : Core) (r : ℕ) → IsWhole c → IsCoreInRoom (4 * m) c → r ≤ 4 * a
    → All (IsAround (m + a)) (hulls_of c r)
