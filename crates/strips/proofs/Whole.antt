-- All slabs together: the strips cover exactly the union.
use Rattle.std.proofs.Common.{◌≡◌, subst, refl, sym, ap, ℕ, zero, suc, ◌⊎◌, ◌<◌, inl, inr, arith, List, [], ◌∷◌, length, get_or}
use Rattle.std.specs.Prelude.{ℤ, pos, ◌+ℤ◌, ◌*ℤ◌, ◌≤ℤ◌, ◌<ℤ◌, ◌↔◌, Contains, Any, All}
use Rattle.std.specs.List.Sorted.{IsPermutation}
use native.Mathlib.Numerals.{unary_clauses}
use Rattle.std.proofs.lemmas.Int.{ints, by_lt_z}
use Rattle.std.proofs.lemmas.List.Sorted.{All-permutation, IsPermutation-sym}
use Rattle.plane.specs.Plane.{PlanePoint, Bounds, In}
use Rattle.grid_num.proofs.Products.{mul_lt_back}
use Rattle.plane.proofs.Lists.{any_none, any_head, any_tail, any_cases, any_left, any_right, any_parts}
use Rattle.plane.proofs.CoverLaws.{any_permutation}
use Rattle.strips.specs.declared.Strip.{Strip}
use Rattle.strips.specs.Strips.{IsInStrip}
use Rattle.strips.specs.Inner.Runs.{ReachesAcross, runs_of}
use Rattle.strips.specs.Inner.Merge.{merged}
use Rattle.strips.specs.Inner.Sweep.{AreFromLeft, AreSlabStrips, AreSheetStrips}
use Rattle.strips.proofs.Lines.{IsClean}
use Rattle.strips.proofs.Merge.{IsPart, AreParts, IsRising, joins, merged_cover}
use Rattle.strips.proofs.Slabs.{IsPiece, ArePieces, AllReach, runs_parts, runs_in, in_runs}

-- ---- parts in another order
parts_all : (os : List Bounds) (t u : ℤ) (ss : List Strip) → AreParts os t u ss → All (λ s. IsPart os t u s) ss
unfolding AreParts
parts_all os t u [] h k d l = absurd (omega (arith, l))
parts_all os t u (s ∷ ss) h zero d l = h.0
parts_all os t u (s ∷ ss) h (suc k) d l = parts_all os t u ss h.1 k d (omega arith)

all_parts : (os : List Bounds) (t u : ℤ) (ss : List Strip) → All (λ s. IsPart os t u s) ss → AreParts os t u ss
unfolding AreParts
all_parts os t u [] h = tt
all_parts os t u (s ∷ ss) h = (h 0 s (omega arith), all_parts os t u ss (λ k d l. h (suc k) d (omega arith)))

pub parts_again : (os : List Bounds) (t u : ℤ) (ss rs : List Strip) → IsPermutation ss rs → AreParts os t u ss → AreParts os t u rs
parts_again os t u ss rs m h = all_parts os t u rs (All-permutation (λ s. IsPart os t u s) ss rs m (parts_all os t u ss h))

-- ---- sorted by the sums of the left ends
unfoldable pub IsSortedFrom : Strip → List Strip → Type 0
IsSortedFrom a [] = Unit {0}
IsSortedFrom a (b ∷ bs) = ((a.left +ℤ a.left_end) ≤ℤ (b.left +ℤ b.left_end)) × IsSortedFrom b bs

unfoldable pub AreSorted : List Strip → Type 0
AreSorted [] = Unit {0}
AreSorted (a ∷ bs) = IsSortedFrom a bs

pub sorted_rising : (os : List Bounds) (t u : ℤ) (a : Strip) (bs : List Strip) → t <ℤ u → IsClean os t u → IsPart os t u a → AreParts os t u bs → IsSortedFrom a bs → IsRising a bs
unfolding AreParts IsSortedFrom IsRising
sorted_rising os t u a [] d c x y s = tt
sorted_rising os t u a (b ∷ bs) d c x y s =
    (joins os t u b.left b.left_end a.left a.left_end (y.0).left x.left d c s.0, sorted_rising os t u b bs d c y.0 y.1 s.1)

-- ---- one slab
abbrev SomeIn : PlanePoint → List Strip → Type 0
SomeIn p ss = Any (λ s. IsInStrip s p) ss

merged_same : (os : List Bounds) (t u : ℤ) (p : PlanePoint) → t <ℤ u → IsClean os t u → (rs : List Strip) → AreParts os t u rs → AreSorted rs → SomeIn p (merged rs) ↔ SomeIn p rs
unfolding AreParts AreSorted
merged_same os t u p d c [] x s = (λ i. i, λ i. i)
merged_same os t u p d c (a ∷ bs) x s =
    let h = merged_cover os t u d c a bs x.0 x.1 (sorted_rising os t u a bs d c x.0 x.1 s) p in (
      λ i. elim (h.0 i) [ inl j ↦ any_head (λ s. IsInStrip s p) a bs j | inr j ↦ any_tail (λ s. IsInStrip s p) a bs j ],
      λ i. h.1 (any_cases (λ s. IsInStrip s p) a bs i),
    )

-- what holds of an element of the one list holds of one of the other
move : {X : Type 0} (P Q : X → Type 0) (xs ys : List X) → ((x : X) → Contains xs x → P x → Contains ys x × Q x) → Any P xs → Any Q ys
move P Q xs ys f i = let w = f i.1 (i.0, i.2, i.3) i.4 in ((w.0).0, i.1, (w.0).1, (w.0).2, w.1)

open_pieces : (os bs : List Bounds) → ArePieces os os → All (λ b. Contains os b) bs → ArePieces os bs
unfolding ArePieces
open_pieces os [] k h = tt
open_pieces os (b ∷ bs) k h = (piece_of os os b k (h 0 b (omega arith)), open_pieces os bs k (λ i d l. h (suc i) d (omega arith)))
  where
    piece_of : (os bs : List Bounds) (b : Bounds) → ArePieces os bs → Contains bs b → IsPiece os b
    piece_of os bs b k c = at os bs b k c.0 c.1 c.2
      where
        at : (os bs : List Bounds) (b : Bounds) → ArePieces os bs → (i : ℕ) → i < length bs → get_or bs i b ≡ b → IsPiece os b
        at os [] b k i l e = absurd (omega (arith, l))
        at os (c ∷ cs) b k zero l e = subst (IsPiece os) e k.0
        at os (c ∷ cs) b k (suc i) l e = at os cs b k.1 i (omega arith) e

pub from_left : (ss : List Strip) → AreFromLeft ss → AreSorted ss
unfolding AreSorted IsSortedFrom
from_left [] h = tt
from_left (a ∷ ss) h = go a ss h
  where
    go : (a : Strip) (ss : List Strip) → AreFromLeft (a ∷ ss) → IsSortedFrom a ss
    go a [] h = tt
    go a (b ∷ bs) h = (h 0 a (omega arith), go b bs (λ k d l. (let m = h (suc k) d (omega (arith, l)) in simp unary_clauses (simp unary_clauses at m))))

slab_pieces : (os : List Bounds) (t u : ℤ) (ss : List Strip) → ArePieces os os → (h : AreSlabStrips os t u ss) → ArePieces os h.octs
slab_pieces os t u ss k h = open_pieces os h.octs k (λ i d l. ((h.reaching).each i d l).0)

slab_reach : (os : List Bounds) (t u : ℤ) (ss : List Strip) → (h : AreSlabStrips os t u ss) → AllReach h.octs t u
unfolding AllReach
slab_reach os t u ss h = go h.octs (h.reaching).each
  where
    go : (bs : List Bounds) → All (λ b. Contains os b × ReachesAcross b t u) bs → AllReach bs t u
    go [] f = tt
    go (b ∷ bs) f = ((f 0 b (omega arith)).1, go bs (λ i d l. f (suc i) d (omega arith)))

pub slab_in_parts : (os : List Bounds) (t u : ℤ) (ss : List Strip) → t <ℤ u → IsClean os t u → ArePieces os os → (h : AreSlabStrips os t u ss) → AreParts os t u h.runs
slab_in_parts os t u ss d c k h = parts_again os t u (runs_of h.octs t u) h.runs h.order (runs_parts os h.octs t u d c (slab_pieces os t u ss k h) (slab_reach os t u ss h))

slab_in : (os : List Bounds) (t u : ℤ) (ss : List Strip) (p : PlanePoint) → t <ℤ u → IsClean os t u → ArePieces os os → AreSlabStrips os t u ss
    → SomeIn p ss → Any (λ b. In b p) os
slab_in os t u ss p d c k h i =
    let m = merged_same os t u p d c h.runs (slab_in_parts os t u ss d c k h) (from_left h.runs h.sorted) in
    let j = any_permutation (λ s. IsInStrip s p) h.runs (runs_of h.octs t u) (IsPermutation-sym (runs_of h.octs t u) h.runs h.order) (m.0 (subst (SomeIn p) h.is i)) in
    move (λ b. In b p) (λ b. In b p) h.octs os (λ b e q. (contained os h.octs b (λ i d l. ((h.reaching).each i d l).0) e, q))
    (runs_in os h.octs t u p d c (slab_pieces os t u ss k h) (slab_reach os t u ss h) j)
  where
    contained : (os bs : List Bounds) (b : Bounds) → All (λ b. Contains os b) bs → Contains bs b → Contains os b
    contained os bs b f e = subst (Contains os) e.2 (f e.0 b e.1)

in_slab : (os : List Bounds) (t u : ℤ) (ss : List Strip) (p : PlanePoint) → t <ℤ u → IsClean os t u → ArePieces os os → AreSlabStrips os t u ss
    → (pos p.scale *ℤ t) ≤ℤ p.y → p.y ≤ℤ (pos p.scale *ℤ u) → Any (λ b. In b p × ReachesAcross b t u) os → SomeIn p ss
in_slab os t u ss p d c k h h1 h2 i =
    let m = merged_same os t u p d c h.runs (slab_in_parts os t u ss d c k h) (from_left h.runs h.sorted) in
    let j = move (λ b. In b p × ReachesAcross b t u) (λ b. In b p) os h.octs (λ b e q. ((h.reaching).all b e q.1, q.0)) i in
    subst (SomeIn p) (sym h.is)
    (m.1 (any_permutation (λ s. IsInStrip s p) (runs_of h.octs t u) h.runs h.order (in_runs os h.octs t u p d c (slab_pieces os t u ss k h) (slab_reach os t u ss h) h1 h2 j)))

-- ---- all slabs
-- ascending, with no cut between neighbours
unfoldable pub AreRows : List Bounds → List ℤ → Type 0
AreRows os [] = Unit {0}
AreRows os (t ∷ []) = Unit {0}
AreRows os (t ∷ u ∷ rs) = (t <ℤ u) × IsClean os t u × AreRows os (u ∷ rs)

sheet_in : (os : List Bounds) (rs : List ℤ) (ss : List Strip) (p : PlanePoint) → ArePieces os os → AreRows os rs → AreSheetStrips os rs ss → SomeIn p ss → Any (λ b. In b p) os
unfolding AreRows AreSheetStrips
sheet_in os [] ss p k r h i = absurd (any_none (λ s. IsInStrip s p) (subst (SomeIn p) h i))
sheet_in os (t ∷ []) ss p k r h i = absurd (any_none (λ s. IsInStrip s p) (subst (SomeIn p) h i))
sheet_in os (t ∷ u ∷ rs) ss p k r h i =
    elim (any_parts (λ s. IsInStrip s p) h.0 h.1 (subst (SomeIn p) h.4 i)) [
      | inl j ↦ slab_in os t u h.0 p r.0 r.1 k h.2 j
      | inr j ↦ sheet_in os (u ∷ rs) h.1 p k r.2 h.3 j
    ]

-- a row of the list, by recursion
unfoldable pub IsRowOf : List ℤ → ℤ → Type 0
IsRowOf [] r = ⊥
IsRowOf (t ∷ rs) r = (r ≡ t) ⊎ IsRowOf rs r

row_below : (os : List Bounds) (t : ℤ) (rs : List ℤ) (r : ℤ) → AreRows os (t ∷ rs) → IsRowOf rs r → t <ℤ r
unfolding AreRows IsRowOf
row_below os t [] r a h = absurd h
row_below os t (u ∷ rs) r a (inl e) = let d = a.0 in omega (arith, ints, d, e)
row_below os t (u ∷ rs) r a (inr h) = let d = a.0 in let l = row_below os u rs r a.2 h in omega (arith, ints, d, l)

-- an octagon's point is in the strips of one of the slabs that the octagon reaches across
in_sheet : (os : List Bounds) (rs : List ℤ) (ss : List Strip) (p : PlanePoint) (low high : ℤ) → ArePieces os os → AreRows os rs → AreSheetStrips os rs ss
    → IsRowOf rs low → IsRowOf rs high → low <ℤ high → (pos p.scale *ℤ low) ≤ℤ p.y → p.y ≤ℤ (pos p.scale *ℤ high)
    → ((t u : ℤ) → low ≤ℤ t → u ≤ℤ high → Any (λ b. In b p × ReachesAcross b t u) os) → SomeIn p ss
unfolding AreRows AreSheetStrips IsRowOf
in_sheet os [] ss p low high k r h x y d h1 h2 f = absurd x
in_sheet os (t ∷ []) ss p low high k r h (inl x) (inl y) d h1 h2 f = absurd (omega (arith, ints, x, y, d))
in_sheet os (t ∷ []) ss p low high k r h (inl x) (inr y) d h1 h2 f = absurd y
in_sheet os (t ∷ []) ss p low high k r h (inr x) y d h1 h2 f = absurd x
in_sheet os (t ∷ u ∷ rs) ss p low high k r h (inl x) (inl y) d h1 h2 f = absurd (omega (arith, ints, x, y, d))
in_sheet os (t ∷ u ∷ rs) ss p low high k r h (inl x) (inr y) d h1 h2 f =
    by_lt_z {P = SomeIn p ss} (pos p.scale *ℤ u) p.y
    (λ l. subst (SomeIn p) (sym h.4) (any_right (λ s. IsInStrip s p) h.0 h.1
    (in_sheet os (u ∷ rs) h.1 p u high k r.2 h.3 (inl refl) y (let m = mul_lt_back p.scale u high (omega (arith, ints, l, h2)) in m) (omega (arith, ints, l)) h2
    (λ a b g1 g2. f a b (let e = r.0 in omega (arith, ints, g1, e, x)) g2))))
    (λ l. subst (SomeIn p) (sym h.4) (any_left (λ s. IsInStrip s p) h.0 h.1
    (in_slab os t u h.0 p r.0 r.1 k h.2 (let e = ap (λ (z : ℤ). pos p.scale *ℤ z) x in omega (arith, ints, e, h1)) l
    (f t u (omega (arith, ints, x)) (row_high os u rs high r.2 y)))))
  where
    row_high : (os : List Bounds) (u : ℤ) (rs : List ℤ) (high : ℤ) → AreRows os (u ∷ rs) → IsRowOf (u ∷ rs) high → u ≤ℤ high
    row_high os u rs high a (inl e) = omega (arith, ints, e)
    row_high os u rs high a (inr h) = let l = row_below os u rs high a h in omega (arith, ints, l)
in_sheet os (t ∷ u ∷ rs) ss p low high k r h (inr x) (inl y) d h1 h2 f = absurd (let l = row_below os t (u ∷ rs) low r x in omega (arith, ints, l, y, d))
in_sheet os (t ∷ u ∷ rs) ss p low high k r h (inr x) (inr y) d h1 h2 f =
    subst (SomeIn p) (sym h.4) (any_right (λ s. IsInStrip s p) h.0 h.1 (in_sheet os (u ∷ rs) h.1 p low high k r.2 h.3 x y d h1 h2 f))

-- the first and the last row of each octagon are among the rows
unfoldable pub HaveEnds : List ℤ → List Bounds → Type 0
HaveEnds rs [] = Unit {0}
HaveEnds rs (b ∷ bs) = IsRowOf rs b.y0 × IsRowOf rs b.y1 × HaveEnds rs bs

some_in : (os bs : List Bounds) (rs : List ℤ) (ss : List Strip) (p : PlanePoint) → ArePieces os os → AreRows os rs → AreSheetStrips os rs ss
    → ArePieces os bs → HaveEnds rs bs → Any (λ b. In b p) bs → SomeIn p ss
unfolding ArePieces HaveEnds
some_in os [] rs ss p k r h l e i = absurd (any_none (λ b. In b p) i)
some_in os (b ∷ bs) rs ss p k r h l e i =
    elim (any_cases (λ b. In b p) b bs i) [
      | inl j ↦
          in_sheet os rs ss p b.y0 b.y1 k r h e.0 e.1 ((l.0).stout).y j.y_low j.y_high
          (λ t u g1 g2. (let c = (l.0).one in (c.0, b, c.1, c.2, (j, (g1, g2)))))
      | inr j ↦ some_in os bs rs ss p k r h l.1 e.2 j
    ]

-- the strips cover exactly the union
pub sheet_law : (os : List Bounds) (rs : List ℤ) (ss : List Strip) (p : PlanePoint) → ArePieces os os → AreRows os rs → HaveEnds rs os → AreSheetStrips os rs ss
    → Any (λ s. IsInStrip s p) ss ↔ Any (λ b. In b p) os
sheet_law os rs ss p k r e h = (λ i. sheet_in os rs ss p k r h i, λ i. some_in os os rs ss p k r h k e i)
