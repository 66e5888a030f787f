-- Which octagons of a list meet another one.
use Rattle.std.specs.Prelude.{◌≡◌, ◌↔◌, ℕ, suc, ◌<◌, ◌≤◌, List, [], ◌∷◌, length, slice_get, Some}
use Rattle.plane.specs.Plane.{Bounds, IsMeeting}
use Rattle.classes.specs.Classes.{IsOneOf}

-- the octagon at the place has a common point with o
pub record IsMeetingThere (octs : List Bounds) (o : Bounds) (j : ℕ) : Type 0 where
  pub other : Bounds
  pub there : slice_get octs j ≡ Some other
  pub meet : IsMeeting other o

-- upward from low, and none twice
abbrev pub AreUpward : ℕ → List ℕ → Type 0
AreUpward low [] = Unit {0}
AreUpward low (j ∷ js) = (low ≤ j) × AreUpward (suc j) js

-- they are the places of those of the first n octagons that meet o, upward and each once
pub record AreThoseMeetingAmong (octs : List Bounds) (o : Bounds) (n : ℕ) (js : List ℕ) : Type 0 where
  pub upward : AreUpward 0 js
  pub same : (j : ℕ) → IsOneOf j js ↔ ((j < n) × IsMeetingThere octs o j)

-- and so of all octagons of the list
abbrev pub AreThoseMeeting : List Bounds → Bounds → List ℕ → Type 0
AreThoseMeeting octs o js = AreThoseMeetingAmong octs o (length octs) js
