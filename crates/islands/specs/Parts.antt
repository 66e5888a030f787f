-- The parts of a list of octagons.
use Rattle.std.specs.Prelude.{◌≡◌, ℕ, ◌<◌, ◌≤◌, List, length, get_or, slice_get, Some}
use Rattle.plane.specs.Plane.{Bounds, IsMeeting}
use Rattle.classes.specs.Classes.{Reaches, IsLeastOf}

-- the octagons at the two places meet
pub record IsMeetingAt (octs : List Bounds) (j k : ℕ) : Type 0 where
  pub first : Bounds
  pub second : Bounds
  pub at_first : slice_get octs j ≡ Some first
  pub at_second : slice_get octs k ≡ Some second
  pub meet : IsMeeting first second

-- the octagons at the two places are in one part
abbrev pub IsOnePart : List Bounds → ℕ → ℕ → Type 0
IsOnePart octs j k = Reaches (IsMeetingAt octs) j k

-- the one number is at most the other
abbrev pub IsUpTo : ℕ → ℕ → Type 0
IsUpTo j k = j ≤ k

-- each place has the number of the first octagon of its part
pub record AreParts (octs : List Bounds) (labels : List ℕ) : Type 0 where
  pub each : length labels ≡ length octs
  pub least : (k : ℕ) → k < length octs → IsLeastOf (IsMeetingAt octs) IsUpTo k (get_or labels k 0)
