-- Octagons in the order of a sweep.
use Rattle.std.specs.Prelude.{ℕ, ◌+◌, ◌<◌, List, length, ◌≤ℤ◌, slice_index_or}
use Rattle.plane.specs.Plane.{Bounds}

-- from the top: none begins above the one before
abbrev pub AreFromTop : List Bounds → Type 0
AreFromTop bs = (k : ℕ) (d : Bounds) → k + 1 < length bs → (slice_index_or bs k d).y0 ≤ℤ (slice_index_or bs (k + 1) d).y0
