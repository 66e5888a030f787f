-- What the code keeps of a core, as the core.
use Rattle.std.specs.Prelude.{◌≡◌, refl}
use Rattle.touching.specs.Core.{Core, area, line}
use Rattle.cores.specs.Room.{spot}
use Rattle.cores.specs.declared.kind.Kind.{Kind}
use Rattle.cores.specs.declared.kind.Kind.TheVariants.{Area, Line}

abbrev pub core_of : Kind → Core
core_of (Area b) = area b
core_of (Line w) = line (spot w.from) (spot w.to)

abbrev pub core_kind : Core → Kind
core_kind (area b) = Area b
core_kind (line s t) = Line (record { from = record { x = s.x; y = s.y }; to = record { x = t.x; y = t.y } })

-- what is kept is known by its core
pub kind_again : (k : Kind) → core_kind (core_of k) ≡ k
kind_again (Area b) = refl
kind_again (Line w) = refl
