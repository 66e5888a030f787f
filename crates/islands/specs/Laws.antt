-- The laws of parts.
use Rattle.std.specs.Prelude.{◌≡◌, ◌↔◌, ℕ, ◌<◌, List, length, get_or}
use Rattle.plane.specs.Plane.{Bounds}
use Rattle.islands.specs.Parts.{AreParts, IsOnePart}

-- two octagons have one label exactly where they are in one part
abbrev pub PartsLaw : Type 0
PartsLaw =
    (octs : List Bounds) (labels : List ℕ) → AreParts octs labels → (j k : ℕ) → j < length octs → k < length octs
    → (get_or labels j 0 ≡ get_or labels k 0) ↔ IsOnePart octs j k

-- a list of octagons has at most one list of labels
abbrev pub OnePartsLaw : Type 0
OnePartsLaw = (octs : List Bounds) (labels others : List ℕ) → AreParts octs labels → AreParts octs others → labels ≡ others
