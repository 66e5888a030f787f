-- Which stack each piece is put to.
use Rattle.std.specs.Prelude.{◌≡◌, ◌↔◌, ℕ, ◌<◌, List, length, slice_get, Some}
use Rattle.std.specs.List.{All}
use Rattle.plane.specs.Plane.{PlanePoint, Bounds, In, IsMeeting}
use Rattle.classes.specs.Classes.{Reaches}

-- the piece q stands at place j, and is put to stack n
pub record IsPieceOf (pieces : List Bounds) (places : List ℕ) (n j : ℕ) (q : Bounds) : Type 0 where
  pub there : slice_get pieces j ≡ Some q
  pub stack : slice_get places j ≡ Some n

-- the point is in a piece of stack n
pub record IsInPiece (pieces : List Bounds) (places : List ℕ) (n : ℕ) (p : PlanePoint) : Type 0 where
  pub at : ℕ
  pub piece : Bounds
  pub one : IsPieceOf pieces places n at piece
  pub holds : In piece p

-- the pieces at the two places are of stack n, and have a common point
pub record AreTogether (pieces : List Bounds) (places : List ℕ) (n j k : ℕ) : Type 0 where
  pub first : Bounds
  pub second : Bounds
  pub one : IsPieceOf pieces places n j first
  pub other : IsPieceOf pieces places n k second
  pub meet : IsMeeting first second

-- Each piece has the number of a stack; a stack has just the points of its pieces, at every scale; and each two pieces of a stack reach each
-- other by common points of pieces of the stack.
pub record ArePlaces (pieces stacks : List Bounds) (places : List ℕ) : Type 0 where
  pub each : length places ≡ length pieces
  pub within : All (λ n. n < length stacks) places
  pub points : (n : ℕ) (s : Bounds) → slice_get stacks n ≡ Some s → (p : PlanePoint) → In s p ↔ IsInPiece pieces places n p
  pub together : (n j k : ℕ) (q r : Bounds) → IsPieceOf pieces places n j q → IsPieceOf pieces places n k r
      → Reaches (AreTogether pieces places n) j k
