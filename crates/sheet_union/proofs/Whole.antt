-- From the octagons as they are given to their strips.
use Rattle.std.proofs.Common.{◌≡◌, subst, refl, sym, suc, ◌^◌, inl, inr, arith, List, [], ◌∷◌, get_or}
use Rattle.std.specs.Prelude.{ℤ, pos, ◌*ℤ◌, ◌↔◌, Contains}
use Rattle.std.specs.List.{All}
use Rattle.std.specs.List.Sorted.{IsPermutation}
use Rattle.std.proofs.lemmas.Int.{ints}
use Rattle.std.proofs.lemmas.List.Elements.{All-cons, All-nil}
use Rattle.std.proofs.lemmas.List.Sorted.{Contains-permutation, IsPermutation-sym, All-permutation}
use Rattle.plane.specs.Plane.{PlanePoint, Bounds, Within, times, IsOct}
use Rattle.plane.specs.Narrow.{IsNearZero}
use Rattle.plane.proofs.Times.{IsTight-times}
use Rattle.plane.proofs.Points.{mul_swap}
use Rattle.octagon.proofs.Plain.{IsOct-IsSmall}
use Rattle.strips.specs.declared.Strip.{Strip}
use Rattle.strips.specs.Strips.{Direction, Level, Upright, Rising, Falling, HasInside, IsPlate, IsCutRow, AreStrips, AreCovering, in_nanometres}
use Rattle.strips.specs.Inner.Sweep.{AreCutRows, AreSheetStrips}
use Rattle.strips.proofs.Cuts.{IsCutAt, IsSideAt, cut_at}
use Rattle.strips.proofs.Right.{sweep}
use Rattle.strips.proofs.Same.{same_law}
use Rattle.sheet_union.specs.Near.{IsNearStrip, IsSheet}
use Rattle.sheet_union.proofs.Members.{IsOne, one_of, contains_of, one_map, one_back}

-- ---- octagons with points inside, in nanometres
doubled : PlanePoint → PlanePoint
doubled p = record { x = pos 2 *ℤ p.x; y = pos 2 *ℤ p.y; scale = p.scale; positive = p.positive }

inside_doubled : (b : Bounds) → HasInside b → HasInside (times 2 b)
unfolding HasInside doubled
inside_doubled b h =
    let p = h.0 in
    let i = h.1 in
    let k = p.scale in
    let a0 = i.x_low in
    let a1 = i.x_high in
    let a2 = i.y_low in
    let a3 = i.y_high in
    let a4 = i.s_low in
    let a5 = i.s_high in
    let a6 = i.d_low in
    let a7 = i.d_high in (
      doubled p,
      record {
        x_low = omega (arith, ints, a0, mul_swap k 2 b.x0);
        x_high = omega (arith, ints, a1, mul_swap k 2 b.x1);
        y_low = omega (arith, ints, a2, mul_swap k 2 b.y0);
        y_high = omega (arith, ints, a3, mul_swap k 2 b.y1);
        s_low = omega (arith, ints, a4, mul_swap k 2 b.s0);
        s_high = omega (arith, ints, a5, mul_swap k 2 b.s1);
        d_low = omega (arith, ints, a6, mul_swap k 2 b.d0);
        d_high = omega (arith, ints, a7, mul_swap k 2 b.d1);
      },
    )

plates : (bs : List Bounds) → All IsOct bs → All (λ b. HasInside b) bs → All (λ b. IsPlate b) (in_nanometres bs)
plates [] o h = All-nil (λ b. IsPlate b)
plates (b ∷ bs) o h =
    All-cons (λ b. IsPlate b) (times 2 b) (in_nanometres bs)
    (record { tight = IsTight-times 2 b (o 0 b (omega arith)).tight; even = (b, refl); inside = inside_doubled b (h 0 b (omega arith)) })
    (plates bs (λ k d l. o (suc k) d (omega (arith, l))) (λ k d l. h (suc k) d (omega (arith, l))))

-- ---- rows are near
member : (P : Bounds → Type 0) (bs : List Bounds) (b : Bounds) → All P bs → IsOne bs b → P b
unfolding IsOne
member P [] b h i = absurd i
member P (c ∷ cs) b h (inl e) = subst P (sym e) (h 0 c (omega arith))
member P (c ∷ cs) b h (inr i) = member P cs b (λ k d l. h (suc k) d (omega (arith, l))) i

within_of : (b : Bounds) (i : Direction) (x r : ℤ) → IsSideAt b i x r → Within b x r
unfolding IsSideAt
within_of b Level x r h = h.0
within_of b Upright x r h = h.0
within_of b Rising x r h = h.0
within_of b Falling x r h = h.0

row_near : (octs : List Bounds) (r : ℤ) → All IsOct octs → IsCutRow (in_nanometres octs) r → IsNearZero (2 ^ 43) r
unfolding IsCutAt
row_near octs r o c =
    let w = cut_at (in_nanometres octs) r c in
    let b = one_back (times 2) octs w.0 (one_of (in_nanometres octs) w.0 w.5) in
    let m = IsOct-IsSmall b.0 (member IsOct octs b.0 o b.1) in
    let v = subst (λ (z : Bounds). Within z w.4 r) b.2 (within_of w.0 w.2 w.4 r w.8) in
    let l = v.y_low in
    let h = v.y_high in
    let n = m.y0 in
    let q = m.y1 in
    omega (arith, ints, l, h, n, q)

pub rows_near : (octs : List Bounds) (rows : List ℤ) → All IsOct octs → AreCutRows (in_nanometres octs) rows → All (λ r. IsNearZero (2 ^ 43) r) rows
rows_near octs rows o c k d l = row_near octs (get_or rows k d) o (c.each k d l)

-- ---- the octagons in another order
same_octs : (octs sorted : List Bounds) → IsPermutation octs sorted → (b : Bounds) → Contains (in_nanometres sorted) b ↔ Contains (in_nanometres octs) b
same_octs octs sorted p b = (
  λ c. moved sorted octs (λ a h. Contains-permutation sorted octs a (IsPermutation-sym octs sorted p) h) c,
  λ c. moved octs sorted (λ a h. Contains-permutation octs sorted a p h) c,
)
  where
    moved : (xs ys : List Bounds) → ((a : Bounds) → Contains xs a → Contains ys a) → Contains (in_nanometres xs) b → Contains (in_nanometres ys) b
    moved xs ys f c =
        let w = one_back (times 2) xs b (one_of (in_nanometres xs) b c) in
        subst (Contains (in_nanometres ys)) (sym w.2)
        (contains_of (in_nanometres ys) (times 2 w.0) (one_map (times 2) ys w.0 (one_of ys w.0 (f w.0 (contains_of xs w.0 w.1)))))

pub sheet_is : (octs sorted : List Bounds) (rows : List ℤ) (ss : List Strip) → All (λ b. HasInside b) octs → IsPermutation octs sorted → All IsOct sorted
    → AreCutRows (in_nanometres sorted) rows → AreSheetStrips (in_nanometres sorted) rows ss → AreStrips (in_nanometres octs) ss × AreCovering (in_nanometres octs) ss
sheet_is octs sorted rows ss h p o c f =
    let w = sweep (in_nanometres sorted) rows ss (plates sorted o (All-permutation (λ b. HasInside b) octs sorted p h)) c f in
    let v = same_law (in_nanometres sorted) (in_nanometres octs) ss (same_octs octs sorted p) w.0 in
    (v.0, v.1 w.1)

pub sound_is : (os : List Bounds) (ss : List Strip) → AreStrips os ss → All (λ s. IsNearStrip s) ss → IsSheet ss
sound_is os ss h n = record { near = n; shapes = h.shapes; order = h.order }

-- the same, with the lists as the code hands them on
pub sheet_made : (octs sorted seen seen' : List Bounds) (rows rows' : List ℤ) (ss : List Strip) → All (λ b. HasInside b) octs → IsPermutation octs sorted → All IsOct seen
    → seen ≡ sorted → seen' ≡ sorted → rows' ≡ rows → AreCutRows (in_nanometres seen) rows → AreSheetStrips (in_nanometres seen') rows' ss
    → AreStrips (in_nanometres octs) ss × AreCovering (in_nanometres octs) ss
sheet_made octs sorted seen seen' rows rows' ss h p o e f g c s =
    sheet_is octs sorted rows ss h p (subst (λ (l : List Bounds). All IsOct l) e o) (subst (λ (l : List Bounds). AreCutRows (in_nanometres l) rows) e c)
    (rw (f, g) at s)
