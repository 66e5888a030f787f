-- What is known of a core, by cases on what it is.
use Rattle.std.specs.Prelude.{ℕ, ◌*◌, ◌↔◌, IsTrue, Bool}
use Rattle.std.proofs.Common.{◌≡◌, subst}
use Rattle.plane.specs.Plane.{Bounds, IsTight}
use Rattle.touching.specs.Core.{Core, Spot, area, line, IsWhole, Touches}
use Rattle.touching.specs.Inner.Decision.{IsOriginClose, IsAreaClose, AreLinesClose, AreClose, steps_of}
use Rattle.touching.proofs.Decided.{decision_law}
use Rattle.grid_num.specs.declared.Point.{Point}
use Rattle.cores.specs.Room.{spot, IsInRoom, IsLineInRoom, IsAreaInRoom, IsCoreInRoom}

pub area_tight : (b : Bounds) → IsWhole (area b) → IsTight b
unfolding IsWhole
area_tight b h = h

pub area_room : (m : ℕ) (b : Bounds) → IsCoreInRoom m (area b) → IsAreaInRoom m b
unfolding IsCoreInRoom
area_room m b h = h

pub from_room : (m : ℕ) (s t : Point) → IsCoreInRoom m (line (spot s) (spot t)) → IsInRoom m s
unfolding IsCoreInRoom
from_room m s t h = record { x = h.sx; y = h.sy }

pub to_room : (m : ℕ) (s t : Point) → IsCoreInRoom m (line (spot s) (spot t)) → IsInRoom m t
unfolding IsCoreInRoom
to_room m s t h = record { x = h.tx; y = h.ty }

pub areas_case : (r : Bool) (a : ℕ) (b c : Bounds) → IsTrue r ↔ IsOriginClose a (steps_of b c) → IsTrue r ↔ AreClose a (area b) (area c)
unfolding AreClose
areas_case r a b c h = h

pub area_case : (r : Bool) (a : ℕ) (b : Bounds) (s t : Spot) → IsTrue r ↔ IsAreaClose a b s t → IsTrue r ↔ AreClose a (area b) (line s t)
unfolding AreClose
area_case r a b s t h = h

pub line_case : (r : Bool) (a : ℕ) (b : Bounds) (s t : Spot) → IsTrue r ↔ IsAreaClose a b s t → IsTrue r ↔ AreClose a (line s t) (area b)
unfolding AreClose
line_case r a b s t h = h

pub lines_case : (r : Bool) (a : ℕ) (s t u v : Spot) → IsTrue r ↔ AreLinesClose a s t u v → IsTrue r ↔ AreClose a (line s t) (line u v)
unfolding AreClose
lines_case r a s t u v h = h

pub area_in_room : (r : Bool) (m : ℕ) (b : Bounds) → IsTrue r ↔ IsAreaInRoom m b → IsTrue r ↔ IsCoreInRoom m (area b)
unfolding IsCoreInRoom
area_in_room r m b h = h

pub line_in_room : (r : Bool) (m : ℕ) (s t : Spot) → IsTrue r ↔ IsLineInRoom m s t → IsTrue r ↔ IsCoreInRoom m (line s t)
unfolding IsCoreInRoom
line_in_room r m s t h = h

-- the decision speaks of the cores' points
pub decides : (r : Bool) (reach a : ℕ) (c d e f : Core) → a ≡ reach * reach → e ≡ c → f ≡ d → IsWhole c → IsWhole d → IsTrue r ↔ AreClose a e f → IsTrue r ↔ Touches reach c d
decides r reach a c d e f ea ec ed w z h =
    by_law (subst (λ (k : ℕ). IsTrue r ↔ AreClose k c d) ea (subst (λ (k : Core). IsTrue r ↔ AreClose a c k) ed (subst (λ (k : Core). IsTrue r ↔ AreClose a k f) ec h)))
  where
    by_law : IsTrue r ↔ AreClose (reach * reach) c d → IsTrue r ↔ Touches reach c d
    by_law g = let l = decision_law reach c d w z in (λ t. l.0 (g.0 t), λ t. g.1 (l.1 t))
