-- A sweep over the rows that cut gives the strips of the octagons.
use Rattle.std.proofs.Common.{◌≡◌, subst, refl, sym, ℕ, zero, suc, ◌<◌, ◌⊎◌, inl, inr, arith, List, [], ◌∷◌, ◌++◌, length, get_or}
use Rattle.std.specs.Prelude.{ℤ, ◌<ℤ◌, All, AllPairs, Contains}
use Rattle.std.proofs.lemmas.Int.{ints}
use Rattle.std.proofs.lemmas.List.Elements.{All-cons, All-nil}
use Rattle.std.proofs.lemmas.List.Kept.{AllPairs-cons}
use Rattle.plane.specs.Plane.{PlanePoint, Bounds}
use Rattle.strips.specs.declared.Strip.{Strip}
use Rattle.strips.specs.Strips.{IsCutRow, IsSlab, IsTrapezoid, IsStripBefore, IsPlate}
use Rattle.strips.specs.Inner.Sweep.{AreSheetStrips, AreCutRows}
use Rattle.strips.specs.Laws.{SweepLaw}
use Rattle.strips.proofs.Cuts.{IsCutAt, cut_of, cut_at}
use Rattle.strips.proofs.Lines.{IsDoubled, times_doubled, clean_from, clean_is, cut_top, cut_bottom}
use Rattle.strips.proofs.Inside.{stout}
use Rattle.strips.proofs.Merge.{IsPart, AreParts}
use Rattle.strips.proofs.Slabs.{IsPiece, ArePieces}
use Rattle.strips.proofs.Whole.{AreRows, IsRowOf, HaveEnds, sheet_law}
use Rattle.strips.proofs.Order.{AreSound, IsBeforeAll, AreInOrder, slab_parts, sheet_good}

-- ---- octagons with points inside
piece : (os : List Bounds) (b : Bounds) → Contains os b → IsPlate b → IsPiece os b
piece os b c h = record { one = c; tight = h.tight; doubled = subst IsDoubled (sym (h.even).1) (times_doubled (h.even).0); stout = stout b h.inside }

pieces : (os bs : List Bounds) → ((k : ℕ) (d : Bounds) → k < length bs → Contains os (get_or bs k d)) → All (λ b. IsPlate b) bs → ArePieces os bs
unfolding ArePieces
pieces os [] f h = tt
pieces os (b ∷ bs) f h = (piece os b (f 0 b (omega arith)) (h 0 b (omega arith)), pieces os bs (λ k d l. f (suc k) d (omega (arith, l))) (λ k d l. h (suc k) d (omega (arith, l))))

itself : (os : List Bounds) (k : ℕ) (d : Bounds) → k < length os → Contains os (get_or os k d)
itself os k d l = (k, l, again os k d (get_or os k d) l)
  where
    again : (os : List Bounds) (k : ℕ) (d e : Bounds) → k < length os → get_or os k e ≡ get_or os k d
    again [] k d e l = absurd (omega (arith, l))
    again (o ∷ os) zero d e l = refl
    again (o ∷ os) (suc k) d e l = again os k d e (omega (arith, l))

pub all_pieces : (os : List Bounds) → All (λ b. IsPlate b) os → ArePieces os os
all_pieces os h = pieces os os (itself os) h

-- ---- rows
row_of : (rs : List ℤ) (r : ℤ) → Contains rs r → IsRowOf rs r
unfolding IsRowOf
row_of rs r c = at rs r c.0 c.1 c.2
  where
    at : (rs : List ℤ) (r : ℤ) (k : ℕ) → k < length rs → get_or rs k r ≡ r → IsRowOf rs r
    at [] r k l e = absurd (omega (arith, l))
    at (t ∷ rs) r zero l e = inl (sym e)
    at (t ∷ rs) r (suc k) l e = inr (at rs r k (omega (arith, l)) e)

-- from the row t on: every cut is above it, or one of the rows
abbrev AreComplete : List Bounds → ℤ → List ℤ → Type 0
AreComplete os t rs = (r : ℤ) → IsCutAt os r → (r <ℤ t) ⊎ IsRowOf (t ∷ rs) r

later : (t : ℤ) (rs : List ℤ) → AllPairs (λ r q. r <ℤ q) (t ∷ rs) → AllPairs (λ r q. r <ℤ q) rs
later t rs h i j d l m = h (suc i) (suc j) d (omega (arith, l)) (omega (arith, m))

below_row : (t : ℤ) (rs : List ℤ) (r : ℤ) → AllPairs (λ r q. r <ℤ q) (t ∷ rs) → IsRowOf rs r → t <ℤ r
unfolding IsRowOf
below_row t [] r h i = absurd i
below_row t (u ∷ rs) r h (inl e) = let l = h 0 1 t (omega arith) (omega arith) in omega (arith, ints, l, e)
below_row t (u ∷ rs) r h (inr i) =
    let l = h 0 1 t (omega arith) (omega arith) in
    let m = below_row u rs r (later t (u ∷ rs) h) i in
    omega (arith, ints, l, m)

next_complete : (os : List Bounds) (t u : ℤ) (rs : List ℤ) → t <ℤ u → AreComplete os t (u ∷ rs) → AreComplete os u rs
unfolding IsRowOf
next_complete os t u rs d h r c =
    elim (h r c) [
      | inl l ↦ inl (omega (arith, ints, l, d))
      | inr i ↦ elim i [ inl e ↦ inl (omega (arith, ints, e, d)) | inr j ↦ inr j ]
    ]

rows_from : (os : List Bounds) (t : ℤ) (rs : List ℤ) → AllPairs (λ r q. r <ℤ q) (t ∷ rs) → AreComplete os t rs → AreRows os (t ∷ rs)
unfolding AreRows IsRowOf
rows_from os t [] h c = tt
rows_from os t (u ∷ rs) h c =
    let d : t <ℤ u = h 0 1 t (omega arith) (omega arith) in (
      d,
      clean_from os t u (λ r l m q. elim (c r q) [
        | inl k ↦ omega (arith, ints, k, l)
        | inr k ↦ elim k [
          | inl e ↦ omega (arith, ints, e, l)
          | inr k ↦ elim k [ inl e ↦ omega (arith, ints, e, m) | inr k ↦ (let z = below_row u rs r (later t (u ∷ rs) h) k in omega (arith, ints, z, m)) ]
        ]
      ]),
      rows_from os u rs (later t (u ∷ rs) h) (next_complete os t u rs d c),
    )

pub cut_rows : (os : List Bounds) (rs : List ℤ) → AreCutRows os rs → AreRows os rs
unfolding AreRows
cut_rows os [] h = tt
cut_rows os (t ∷ rs) h = rows_from os t rs h.down (λ r c. inr (row_of (t ∷ rs) r (h.all r (cut_of os r c))))

ends_from : (os bs : List Bounds) (rs : List ℤ) → ArePieces os bs → AreCutRows os rs → HaveEnds rs bs
unfolding ArePieces HaveEnds
ends_from os [] rs k h = tt
ends_from os (b ∷ bs) rs k h =
    let z = k.0 in (
      row_of rs b.y0 (h.all b.y0 (cut_of os b.y0 (cut_top os b z.one z.tight))),
      row_of rs b.y1 (h.all b.y1 (cut_of os b.y1 (cut_bottom os b z.one z.tight))),
      ends_from os bs rs k.1 h,
    )

-- ---- the slabs of the strips
AreInSlabs : List Bounds → List Strip → Type 0
AreInSlabs os [] = Unit {0}
AreInSlabs os (s ∷ ss) = IsSlab os s.top s.bottom × AreInSlabs os ss

slab_part : (os : List Bounds) (t u : ℤ) (s : Strip) → IsSlab os t u → IsPart os t u s → IsSlab os s.top s.bottom
slab_part os t u s h x = subst (λ (z : ℤ). IsSlab os z s.bottom) (sym x.top) (subst (λ (z : ℤ). IsSlab os t z) (sym x.bottom) h)

slab_parts_in : (os : List Bounds) (t u : ℤ) (ss : List Strip) → IsSlab os t u → AreParts os t u ss → AreInSlabs os ss
unfolding AreParts AreInSlabs
slab_parts_in os t u [] h x = tt
slab_parts_in os t u (s ∷ ss) h x = (slab_part os t u s h x.0, slab_parts_in os t u ss h x.1)

slabs_append : (os : List Bounds) (xs ys : List Strip) → AreInSlabs os xs → AreInSlabs os ys → AreInSlabs os (xs ++ ys)
unfolding AreInSlabs
slabs_append os [] ys f g = g
slabs_append os (x ∷ xs) ys f g = (f.0, slabs_append os xs ys f.1 g)

all_cut : (os : List Bounds) (t : ℤ) (rs : List ℤ) → All (λ r. IsCutRow os r) (t ∷ rs) → IsCutRow os t × All (λ r. IsCutRow os r) rs
all_cut os t rs h = (h 0 t (omega arith), λ k d l. h (suc k) d (omega (arith, l)))

sheet_slabs : (os : List Bounds) (rs : List ℤ) (ss : List Strip) → ArePieces os os → All (λ r. IsCutRow os r) rs → AreRows os rs → AreSheetStrips os rs ss → AreInSlabs os ss
unfolding AreRows AreSheetStrips AreInSlabs
sheet_slabs os [] ss k c r h = subst (AreInSlabs os) (sym h) tt
sheet_slabs os (t ∷ []) ss k c r h = subst (AreInSlabs os) (sym h) tt
sheet_slabs os (t ∷ u ∷ rs) ss k c r h =
    let a = all_cut os t (u ∷ rs) c in
    let b = all_cut os u rs a.1 in
    let slab : IsSlab os t u = record { top = a.0; bottom = b.0; down = r.0; clean = λ q l m z. clean_is os t u r.1 q l m (cut_at os q z) } in
    subst (AreInSlabs os) (sym h.4)
    (slabs_append os h.0 h.1 (slab_parts_in os t u h.0 slab (slab_parts os t u h.0 r.0 r.1 k h.2).0) (sheet_slabs os (u ∷ rs) h.1 k a.1 r.2 h.3))

-- ---- in the words of the definition
all_slabs : (os : List Bounds) (ss : List Strip) → AreInSlabs os ss → All (λ s. IsSlab os s.top s.bottom) ss
unfolding AreInSlabs
all_slabs os [] h = All-nil (λ s. IsSlab os s.top s.bottom)
all_slabs os (s ∷ ss) h = All-cons (λ s. IsSlab os s.top s.bottom) s ss h.0 (all_slabs os ss h.1)

all_sound : (ss : List Strip) → AreSound ss → All (λ s. IsTrapezoid s) ss
unfolding AreSound
all_sound [] h = All-nil (λ s. IsTrapezoid s)
all_sound (s ∷ ss) h = All-cons (λ s. IsTrapezoid s) s ss h.0 (all_sound ss h.1)

all_before : (a : Strip) (ss : List Strip) → IsBeforeAll a ss → All (λ s. IsStripBefore a s) ss
unfolding IsBeforeAll
all_before a [] h = All-nil (λ s. IsStripBefore a s)
all_before a (s ∷ ss) h = All-cons (λ s. IsStripBefore a s) s ss h.0 (all_before a ss h.1)

all_order : (ss : List Strip) → AreInOrder ss → AllPairs IsStripBefore ss
unfolding AreInOrder
all_order [] h = λ i j d l m. absurd (omega (arith, m))
all_order (s ∷ ss) h = AllPairs-cons IsStripBefore s ss (all_before s ss h.0) (all_order ss h.1)

good : (os : List Bounds) (rs : List ℤ) (ss : List Strip) → ArePieces os os → AreRows os rs → AreSheetStrips os rs ss → AreSound ss × AreInOrder ss
unfolding AreSheetStrips AreSound AreInOrder
good os [] ss k r h = subst (λ (l : List Strip). AreSound l × AreInOrder l) (sym h) (tt, tt)
good os (t ∷ rs) ss k r h = let g = sheet_good os t rs ss k r h in (g.sound, g.order)

pub sweep : SweepLaw
sweep os rs ss f c h =
    let k = all_pieces os f in
    let r = cut_rows os rs c in
    let g = good os rs ss k r h in
    let cover = λ (p : PlanePoint). sheet_law os rs ss p k r (ends_from os os rs k c) h in (
      record { slabs = all_slabs os ss (sheet_slabs os rs ss k c.each r h); shapes = all_sound ss g.0; order = all_order ss g.1; runs = λ t u p s b. cover p },
      cover,
    )
