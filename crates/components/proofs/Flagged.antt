-- The octagons at the places that are flagged, or that have a label.
use Rattle.std.proofs.Common.{◌≡◌, refl, sym, subst, ℕ, zero, suc, ◌<◌, get_or, inl, inr, List, [], ◌∷◌, length, arith}
use Rattle.std.specs.Prelude.{ℤ, Bool, true, false, map, ◌==◌}
use Rattle.std.specs.List.{All}
use Rattle.std.proofs.lemmas.Option.{none-some, same_Some}
use Rattle.std.proofs.lemmas.Bool.{false≢true, eqb-true, eq-eqb}
use Rattle.std.proofs.lemmas.List.Elements.{All-head, All-tail, All-nil, All-cons}
use Rattle.plane.specs.Plane.{Bounds, Within, IsTight}
use Rattle.grid_sets.specs.Points.{HasPoint}
use Rattle.components.specs.Cells.{IsInCell}
use Rattle.components.specs.Kept.{flagged}
use Rattle.components.proofs.Places.{point_of}

next : (o : Bounds) (os : List Bounds) (k : ℕ) (x y : ℤ) → IsInCell os k (point_of x y) → IsInCell (o ∷ os) (suc k) (point_of x y)
next o os k x y h = record { cell = h.cell; there = h.there; within = h.within }

back : (o : Bounds) (os : List Bounds) (k : ℕ) (x y : ℤ) → IsInCell (o ∷ os) (suc k) (point_of x y) → IsInCell os k (point_of x y)
back o os k x y h = record { cell = h.cell; there = h.there; within = h.within }

-- a flagged octagon has the point, at the place k
pub record IsFlaggedAt (fs : List Bool) (os : List Bounds) (x y : ℤ) (k : ℕ) : Type 0 where
  pub flag : get_or fs k false ≡ true
  pub at : IsInCell os k (point_of x y)

pub flagged_from : (fs : List Bool) (os : List Bounds) (x y : ℤ) → HasPoint (flagged fs os) x y → (k : ℕ) × IsFlaggedAt fs os x y k
flagged_from [] os x y h = absurd h
flagged_from (f ∷ fs) [] x y h = absurd h
flagged_from (true ∷ fs) (o ∷ os) x y (inl w) = (0, record { flag = refl; at = record { cell = o; there = refl; within = w } })
flagged_from (true ∷ fs) (o ∷ os) x y (inr h) =
    let n = flagged_from fs os x y h in (suc n.0, record { flag = n.1.flag; at = next o os n.0 x y n.1.at })
flagged_from (false ∷ fs) (o ∷ os) x y h =
    let n = flagged_from fs os x y h in (suc n.0, record { flag = n.1.flag; at = next o os n.0 x y n.1.at })

pub flagged_to : (fs : List Bool) (os : List Bounds) (x y : ℤ) (k : ℕ) → get_or fs k false ≡ true → IsInCell os k (point_of x y) → HasPoint (flagged fs os) x y
flagged_to [] os x y k e h = absurd (false≢true e)
flagged_to (f ∷ fs) [] x y k e h = absurd (none-some h.cell h.there)
flagged_to (true ∷ fs) (o ∷ os) x y zero e h = inl (subst (λ u. Within u x y) (sym (same_Some o h.cell h.there)) h.within)
flagged_to (false ∷ fs) (o ∷ os) x y zero e h = absurd (false≢true e)
flagged_to (true ∷ fs) (o ∷ os) x y (suc k) e h = inr (flagged_to fs os x y k e (back o os k x y h))
flagged_to (false ∷ fs) (o ∷ os) x y (suc k) e h = flagged_to fs os x y k e (back o os k x y h)

pub flagged_tight : (fs : List Bool) (os : List Bounds) → All IsTight os → All IsTight (flagged fs os)
flagged_tight [] os t = All-nil IsTight
flagged_tight (f ∷ fs) [] t = All-nil IsTight
flagged_tight (true ∷ fs) (o ∷ os) t =
    All-cons IsTight o (flagged fs os) (All-head IsTight o os t) (flagged_tight fs os (All-tail IsTight o os t))
flagged_tight (false ∷ fs) (o ∷ os) t = flagged_tight fs os (All-tail IsTight o os t)

-- ---- the flags of a label
pub label_from : (labels : List ℕ) (label k : ℕ) → get_or (map (λ m. m == label) labels) k false ≡ true → get_or labels k 0 ≡ label
label_from [] label k e = absurd (false≢true e)
label_from (m ∷ labels) label zero e = eqb-true m label e
label_from (m ∷ labels) label (suc k) e = label_from labels label k e

pub label_to : (labels : List ℕ) (label k : ℕ) → k < length labels → get_or labels k 0 ≡ label → get_or (map (λ m. m == label) labels) k false ≡ true
label_to [] label k l e = absurd (omega (arith, l))
label_to (m ∷ labels) label zero l e = eq-eqb m label e
label_to (m ∷ labels) label (suc k) l e = label_to labels label k (omega (arith, l)) e
