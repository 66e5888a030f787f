use Rattle.std.proofs.Common.{ℕ, ◌≤◌}
use Rattle.std.specs.Prelude.{ℤ}
use Rattle.plane.specs.Plane.{box_of}
use Rattle.plane.specs.Narrow.{IsNearZero}
use Rattle.touching.specs.Core.{area}
use Rattle.cores.specs.Room.{IsCoreInRoom}
use Rattle.islands.specs.Held.{IsAnchorInRoom}
use Rattle.geometry_table.proofs.part_rows.disc_at.Goals as goal

disc_room : (x y : ℤ) (r : ℕ) → IsNearZero 1200000000 x → IsNearZero 1200000000 y → r ≤ 200000000
    → IsAnchorInRoom (record { core = area (box_of x x y y); radius = r })
unfolding IsCoreInRoom
disc_room x y r a b l = record { core = record { left = a.low; right = a.high; top = b.low; bottom = b.high }; radius = l }

pub returns : goal.returns
returns c = rw c.disc.ensures.value (disc_room c.args.center.x c.args.center.y c.args.radius c.requires.center.x c.requires.center.y c.requires.radius)
