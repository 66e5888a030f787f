-- The rings of pieces cover exactly these, and lie within half a metre.
use Rattle.std.proofs.Common.{◌≡◌, refl, ap, subst, ℕ, ◌*◌, inl, inr, arith, mul_comm, List, [], ◌∷◌, ◌∙◌}
use Rattle.std.specs.Prelude.{◌↔◌, ℤ, pos, ◌*ℤ◌, Any, Result, Ok, Err, IfOk}
use Rattle.std.specs.List.{All}
use Rattle.std.proofs.lemmas.Int.{ints}
use Rattle.plane.specs.Plane.{PlanePoint, Bounds, In, IsOct, times}
use Rattle.plane.specs.Covering.{Covers, edges_of_all}
use Rattle.plane.proofs.Lists.{any_none, any_cases, any_head, any_tail, covers_on}
use Rattle.plane.proofs.Points.{mul_mul}
use Rattle.octagon.specs.Room.{IsAround}
use Rattle.grid_num.specs.Length.{IsInRange}
use Rattle.grid_num.specs.declared.Point.{Point}
use Rattle.hulls.specs.Laws.{nm_in_units}
use Rattle.classes.specs.Classes.{IsOneOf}
use Rattle.strips.specs.declared.Strip.{Strip}
use Rattle.strips.specs.Strips.{HasInside, AreCovering, in_nanometres}
use Rattle.strips.specs.Area.{area2_of}
use Rattle.stacks.specs.Stacks.{HaveSameUnion}
use Rattle.any_strips.specs.Laws.{AnyOutlinesLaw}
use Rattle.rings.specs.Outlines.{AreOutlines}
use Rattle.rings.specs.Rings.{Traced, IsRingInRange}
use Rattle.rings.specs.Sheets.{AreRings}
use Rattle.rings.proofs.Lists.{Has, all_of}
use Rattle.sheet_union.specs.Near.{IsSheet}
use Rattle.sheet_trace.specs.Laws.{SheetUnionCoverLaw}
use Rattle.fill_rules.specs.Lists.{InOne}
use Rattle.board_language.proofs.Members.{all_one_of}
use Rattle.outlines.specs.Drawn.{IsCovering}
use Rattle.outlines.proofs.Corners.{place, rings_on}

-- ---- nanometres and units
turned : (k : ℕ) (x : ℤ) → pos k *ℤ (pos 2 *ℤ x) ≡ pos (2 * k) *ℤ x
turned k x = mul_mul k 2 x ∙ ap (λ (n : ℕ). pos n *ℤ x) (mul_comm k 2)

to_units : (o : Bounds) (p : PlanePoint) → In (times 2 o) p ↔ In o (nm_in_units p)
to_units o p =
    let k = p.scale in (
      λ w. record {
        x_low = omega (arith, ints, w.x_low, turned k o.x0);
        x_high = omega (arith, ints, w.x_high, turned k o.x1);
        y_low = omega (arith, ints, w.y_low, turned k o.y0);
        y_high = omega (arith, ints, w.y_high, turned k o.y1);
        s_low = omega (arith, ints, w.s_low, turned k o.s0);
        s_high = omega (arith, ints, w.s_high, turned k o.s1);
        d_low = omega (arith, ints, w.d_low, turned k o.d0);
        d_high = omega (arith, ints, w.d_high, turned k o.d1);
      },
      λ w. record {
        x_low = omega (arith, ints, w.x_low, turned k o.x0);
        x_high = omega (arith, ints, w.x_high, turned k o.x1);
        y_low = omega (arith, ints, w.y_low, turned k o.y0);
        y_high = omega (arith, ints, w.y_high, turned k o.y1);
        s_low = omega (arith, ints, w.s_low, turned k o.s0);
        s_high = omega (arith, ints, w.s_high, turned k o.s1);
        d_low = omega (arith, ints, w.d_low, turned k o.d0);
        d_high = omega (arith, ints, w.d_high, turned k o.d1);
      },
    )

one_to_units : (pieces : List Bounds) (p : PlanePoint) → Any (λ b. In b p) (in_nanometres pieces) → InOne pieces (nm_in_units p)
unfolding IsOneOf
one_to_units [] p a = absurd (any_none (λ b. In b p) a)
one_to_units (o ∷ pieces) p a = elim (any_cases (λ b. In b p) (times 2 o) (in_nanometres pieces) a) [
  | inl h ↦ (o, inl refl, (to_units o p).0 h)
  | inr h ↦ let r = one_to_units pieces p h in (r.0, inr r.1, r.2)
]

one_from_units : (pieces : List Bounds) (p : PlanePoint) → InOne pieces (nm_in_units p) → Any (λ b. In b p) (in_nanometres pieces)
unfolding IsOneOf
one_from_units [] p (o, i, h) = absurd i
one_from_units (x ∷ pieces) p (o, inl e, h) =
    any_head (λ b. In b p) (times 2 x) (in_nanometres pieces) ((to_units x p).1 (subst (λ (u : Bounds). In u (nm_in_units p)) e h))
one_from_units (x ∷ pieces) p (o, inr i, h) = any_tail (λ b. In b p) (times 2 x) (in_nanometres pieces) (one_from_units pieces p (o, i, h))

-- so two lists with the same points have the same points in nanometres
some_to_units : (os : List Bounds) (p : PlanePoint) → Any (λ b. In b p) (in_nanometres os) → Any (λ b. In b (nm_in_units p)) os
some_to_units [] p a = absurd (any_none (λ b. In b p) a)
some_to_units (o ∷ os) p a = elim (any_cases (λ b. In b p) (times 2 o) (in_nanometres os) a) [
  | inl h ↦ any_head (λ b. In b (nm_in_units p)) o os ((to_units o p).0 h)
  | inr h ↦ any_tail (λ b. In b (nm_in_units p)) o os (some_to_units os p h)
]

some_from_units : (os : List Bounds) (p : PlanePoint) → Any (λ b. In b (nm_in_units p)) os → Any (λ b. In b p) (in_nanometres os)
some_from_units [] p a = absurd (any_none (λ b. In b (nm_in_units p)) a)
some_from_units (o ∷ os) p a = elim (any_cases (λ b. In b (nm_in_units p)) o os a) [
  | inl h ↦ any_head (λ b. In b p) (times 2 o) (in_nanometres os) ((to_units o p).1 h)
  | inr h ↦ any_tail (λ b. In b p) (times 2 o) (in_nanometres os) (some_from_units os p h)
]

-- strips that cover the stacks cover the pieces
pub covers_pieces : (pieces stacks : List Bounds) (ss : List Strip) → HaveSameUnion pieces stacks → AreCovering (in_nanometres stacks) ss → AreCovering (in_nanometres pieces) ss
unfolding HaveSameUnion
covers_pieces pieces stacks ss u c p = (
  λ a. some_from_units pieces p ((u (nm_in_units p)).0 (some_to_units stacks p ((c p).0 a))),
  λ a. (c p).1 (some_from_units stacks p ((u (nm_in_units p)).1 (some_to_units pieces p a))),
)

pub if_both : {A E : Type 0} (P Q R : A → Type 0) (r : Result A E) → ((x : A) → P x → Q x → R x) → IfOk r P → IfOk r Q → IfOk r R
if_both P Q R (Ok x) f h i = f x h i
if_both P Q R (Err e) f h i = tt

-- so what is drawn from these is drawn of the pieces
pub outlining : AnyOutlinesLaw → (pieces stacks : List Bounds) (ss : List Strip) (t : Traced) → All IsOct pieces → All (λ b. HasInside b) pieces → HaveSameUnion pieces stacks
    → IsSheet ss → AreCovering (in_nanometres stacks) ss → AreRings ss t.rings → pos t.area2 ≡ area2_of ss → AreOutlines pieces t
outlining law pieces stacks ss t o i u s c r a =
    law pieces ss t o i (record { order = record { shapes = s.shapes; order = s.order }; cover = covers_pieces pieces stacks ss u c }) r a

pub if_ok : {A E : Type 0} (P Q : A → Type 0) (r : Result A E) → ((x : A) → P x → Q x) → IfOk r P → IfOk r Q
if_ok P Q (Ok x) f h = f x h
if_ok P Q (Err e) f h = tt

-- ---- the cover
pub union_covering : (pieces : List Bounds) (t : Traced) → ((p : PlanePoint) → Covers (edges_of_all t.rings) p ↔ Any (λ b. In b p) (in_nanometres pieces)) → IsCovering pieces t
union_covering pieces t u p = (λ h. one_to_units pieces p ((u p).0 h), λ h. (u p).1 (one_from_units pieces p h))

pub covering : SheetUnionCoverLaw → (pieces : List Bounds) (ss : List Strip) (t : Traced) → IsSheet ss → AreCovering (in_nanometres pieces) ss → AreRings ss t.rings → IsCovering pieces t
covering law pieces ss t s c r = union_covering pieces t (λ p. law (in_nanometres pieces) ss t.rings p s c r)

-- ---- the range
in_range : (o : Bounds) (c : Point) → IsAround 250000000 o → In o (nm_in_units (place c)) → IsInRange c.x × IsInRange c.y
in_range o c a w = (
  (omega (arith, ints, a.x_low, w.x_low), omega (arith, ints, a.x_high, w.x_high)),
  (omega (arith, ints, a.y_low, w.y_low), omega (arith, ints, a.y_high, w.y_high)),
)

pub ranging : (pieces : List Bounds) (t : Traced) → IsCovering pieces t → All (λ (o : Bounds). IsAround 250000000 o) pieces → All IsRingInRange t.rings
ranging pieces t c near = all_of IsRingInRange t.rings (λ cs h. all_of (λ corner. IsInRange corner.x × IsInRange corner.y) cs (λ corner i. at cs corner h i))
  where
    at : (cs : List Point) (corner : Point) → Has t.rings cs → Has cs corner → IsInRange corner.x × IsInRange corner.y
    at cs corner h i =
        let w = (c (place corner)).0 (covers_on (edges_of_all t.rings) (place corner) (rings_on t.rings cs corner h i)) in
        in_range w.0 corner (all_one_of (λ (o : Bounds). IsAround 250000000 o) pieces w.0 near w.1) w.2
