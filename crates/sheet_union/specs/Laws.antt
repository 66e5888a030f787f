-- The law of all strips that are right.
use Rattle.std.specs.Prelude.{List}
use Rattle.std.specs.List.{All}
use Rattle.plane.specs.Plane.{Bounds, IsOct}
use Rattle.strips.specs.declared.Strip.{Strip}
use Rattle.strips.specs.Strips.{HasInside, AreStrips, AreCovering, in_nanometres}

-- whatever strips are those of octagons with points strictly inside, they cover exactly the union
abbrev pub StripsCoverLaw : Type 0
StripsCoverLaw =
    (octs : List Bounds) (ss : List Strip) → All IsOct octs → All (λ b. HasInside b) octs → AreStrips (in_nanometres octs) ss
    → AreCovering (in_nanometres octs) ss
