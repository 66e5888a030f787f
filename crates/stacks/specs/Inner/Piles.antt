-- Stacks that grow piece by piece.
use Rattle.std.specs.Prelude.{◌≡◌, ◌↔◌, ◌⊎◌, ℕ, suc, ◌≤◌, List, [], ◌∷◌, ◌++◌, length, set, slice_get, Some, Any}
use Rattle.std.specs.List.{All}
use Rattle.plane.specs.Plane.{PlanePoint, Bounds, In, IsOct, IsMeeting}
use Rattle.octagon.specs.Room.{IsAround}
use Rattle.strips.specs.Strips.{HasInside}
use Rattle.stacks.specs.Stacks.{IsUnion, StayThick, StayAround}

-- the piece is put to the stacks
pub record IsPieceAdded (old : List Bounds) (piece : Bounds) (new : List Bounds) : Type 0 where
  pub points : (p : PlanePoint) → Any (λ b. In b p) new ↔ (Any (λ b. In b p) old ⊎ In piece p)
  pub thick : All (λ b. HasInside b) old → HasInside piece → All (λ b. HasInside b) new
  pub around : (m : ℕ) → All (λ b. IsAround m b) old → IsAround m piece → All (λ b. IsAround m b) new
  pub count : length new ≤ suc (length old)

-- the piece begins stack n
pub record IsStackBegun (old : List Bounds) (piece : Bounds) (n : ℕ) (new : List Bounds) : Type 0 where
  pub number : n ≡ length old
  pub stacks : new ≡ old ++ piece ∷ []

-- stack n grows by the piece, which it meets
pub record IsStackGrown (old : List Bounds) (piece : Bounds) (n : ℕ) (new : List Bounds) : Type 0 where
  pub before : Bounds
  pub after : Bounds
  pub there : slice_get old n ≡ Some before
  pub meet : IsMeeting before piece
  pub union : IsUnion before piece after
  pub stacks : new ≡ set old n after

-- the piece is put to stack n
pub record IsPutTo (old : List Bounds) (piece : Bounds) (n : ℕ) (new : List Bounds) : Type 0 where
  pub put : IsPieceAdded old piece new
  pub which : IsStackBegun old piece n new ⊎ IsStackGrown old piece n new

-- the stacks of the pieces so far
pub record AreStacked (pieces stacks : List Bounds) : Type 0 where
  pub points : (p : PlanePoint) → Any (λ b. In b p) stacks ↔ Any (λ b. In b p) pieces
  pub thick : StayThick pieces stacks
  pub around : StayAround pieces stacks
  pub count : length stacks ≤ length pieces
  pub octs : All IsOct pieces
