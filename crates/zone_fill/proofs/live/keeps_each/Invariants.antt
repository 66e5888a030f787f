use Rattle.std.proofs.Common.{ℕ, ◌<◌, get_or}
use Rattle.plane.specs.Plane.{AreNear}
use Rattle.knockouts.specs.declared.obstacles.Need.{Need}
use Rattle.zone_fill.proofs.live.keeps_each.Given as goal

-- none so far is near
abbrev pub invariant-each : goal.invariant-each
invariant-each l = (k : ℕ) (d : Need) → k < l.need-index → AreNear (get_or l.needs k d).need l.oct (get_or l.needs k d).oct → ⊥
