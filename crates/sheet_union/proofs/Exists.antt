-- Octagons have strips, and so all right strips cover exactly the union.
use Rattle.std.proofs.Common.{◌≡◌, subst, refl, sym, ℕ, zero, suc, ◌+◌, ◌<◌, inl, inr, arith, List, [], ◌∷◌, ◌++◌, length, get_or, false}
use Rattle.std.specs.Prelude.{ℤ, ◌+ℤ◌, ◌≤ℤ◌, Contains}
use Rattle.std.specs.List.{All, dedup}
use Rattle.std.specs.List.Sorted.{IsPermutation, IsSorted}
use Rattle.std.specs.Ordering.{int_cmp, int_eq, is_lt}
use Rattle.std.proofs.lemmas.Int.{ints, by_lt_z}
use Rattle.std.proofs.lemmas.List.Elements.{All-cons, All-nil}
use Rattle.std.proofs.lemmas.List.Sorted.{IsPermutation-refl, IsPermutation-trans, IsPermutation-cons, IsPermutation-swap, IsPermutation-sym, Contains-permutation, All-permutation}
use native.Mathlib.Numerals.{unary_clauses}
use Rattle.plane.specs.Plane.{Bounds, IsOct}
use Rattle.strips.specs.declared.Strip.{Strip}
use Rattle.strips.specs.Strips.{HasInside, AreStrips, AreCovering, in_nanometres}
use Rattle.strips.specs.Inner.Runs.{ReachesAcross, runs_of}
use Rattle.strips.specs.Inner.Merge.{merged}
use Rattle.strips.specs.Inner.Sweep.{AreSlabStrips, AreSheetStrips}
use Rattle.strips.proofs.Once.{once_law}
use Rattle.sheet_union.specs.Inner.Crossings.{all_rows}
use Rattle.sheet_union.specs.Inner.Rows.{AreFromTop}
use Rattle.sheet_union.specs.Laws.{StripsCoverLaw}
use Rattle.sheet_union.proofs.Members.{IsOne, one_of, contains_of}
use Rattle.sheet_union.proofs.Sorted.{cut_rows_are}
use Rattle.sheet_union.proofs.Whole.{sheet_is}

-- ---- a list in order
InOrder : {X : Type 0} (n : X → ℤ) → List X → Type 0
InOrder n [] = Unit {0}
InOrder n (x ∷ xs) = ((z : _) → IsOne xs z → n x ≤ℤ n z) × InOrder n xs

IsSortOf : {X : Type 0} (n : X → ℤ) → List X → List X → Type 0
IsSortOf n xs ys = IsPermutation xs ys × InOrder n ys

inserted : {X : Type 0} (n : X → ℤ) (x : X) (ys : List X) → InOrder n ys → (zs : List X) × IsSortOf n (x ∷ ys) zs
unfolding InOrder IsOne IsSortOf
inserted n x [] h = (x ∷ [], (IsPermutation-refl (x ∷ []), (λ z i. absurd i, tt)))
inserted {X} n x (y ∷ ys) h =
    by_lt_z {P = (zs : List X) × IsSortOf n (x ∷ y ∷ ys) zs} (n y) (n x)
    (λ l.
    let w = inserted n x ys h.1 in (
      y ∷ w.0,
      (
        IsPermutation-trans (x ∷ y ∷ ys) (y ∷ x ∷ ys) (y ∷ w.0) (IsPermutation-swap (x ∷ y ∷ ys) (y ∷ x ∷ ys) 0 1 (omega arith) (omega arith) refl) (IsPermutation-cons y (x ∷ ys) w.0 w.1.0),
        (
          λ z i. elim (one_of (x ∷ ys) z (Contains-permutation w.0 (x ∷ ys) z (IsPermutation-sym (x ∷ ys) w.0 w.1.0) (contains_of w.0 z i))) [
            | inl e ↦ subst (λ (v : X). n y ≤ℤ n v) (sym e) (omega (arith, ints, l))
            | inr j ↦ h.0 z j
          ],
          w.1.1,
        ),
      ),
    ))
    (λ l. (
      x ∷ y ∷ ys,
      (
        IsPermutation-refl (x ∷ y ∷ ys),
        (
          λ z i. elim i [
            | inl e ↦ subst (λ (v : X). n x ≤ℤ n v) (sym e) l
            | inr j ↦ (let m = h.0 z j in omega (arith, ints, l, m))
          ],
          h,
        ),
      ),
    ))

sorted : {X : Type 0} (n : X → ℤ) (xs : List X) → (ys : List X) × IsSortOf n xs ys
unfolding InOrder IsSortOf
sorted n [] = ([], (IsPermutation-refl [], tt))
sorted n (x ∷ xs) =
    let w = sorted n xs in
    let v = inserted n x w.0 w.1.1 in
    (v.0, (IsPermutation-trans (x ∷ xs) (x ∷ w.0) v.0 (IsPermutation-cons x xs w.0 w.1.0) v.1.0, v.1.1))

rising : {X : Type 0} (n : X → ℤ) (xs : List X) → InOrder n xs → (k : ℕ) (d : X) → k + 1 < length xs → n (get_or xs k d) ≤ℤ n (get_or xs (k + 1) d)
unfolding InOrder IsOne
rising n [] h k d l = absurd (omega (arith, l))
rising n (x ∷ []) h k d l = absurd (omega (arith, l))
rising n (x ∷ y ∷ xs) h zero d l = h.0 y (inl refl)
rising n (x ∷ y ∷ xs) h (suc k) d l = simp unary_clauses (let m = rising n (y ∷ xs) h.1 k d (omega (arith, l)) in simp unary_clauses at m)

-- ---- the rows
not_less : (x y : ℤ) → y ≤ℤ x → is_lt (int_cmp x y) ≡ false
not_less x y h = grind (arith, ints)

int_sorted : (xs : List ℤ) → InOrder (λ z. z) xs → IsSorted int_cmp xs
int_sorted xs h k d l m = not_less (get_or xs (k + 1) d) (get_or xs k d) (rising (λ z. z) xs h k d m)

-- ---- the strips of one slab, and of all
open_exists : (os bs : List Bounds) (t u : ℤ) → ((b : Bounds) → IsOne bs b → Contains os b)
    → (qs : List Bounds) × All (λ b. Contains os b × ReachesAcross b t u) qs × ((b : Bounds) → IsOne bs b → ReachesAcross b t u → IsOne qs b)
unfolding IsOne
open_exists os [] t u f = ([], All-nil (λ b. Contains os b × ReachesAcross b t u), λ b i r. absurd i)
open_exists os (b ∷ bs) t u f =
    let w = open_exists os bs t u (λ c i. f c (inr i)) in
    by_lt_z {P = (qs : List Bounds) × All (λ c. Contains os c × ReachesAcross c t u) qs × ((c : Bounds) → IsOne (b ∷ bs) c → ReachesAcross c t u → IsOne qs c)} t b.y0
    (λ l. (w.0, w.1, λ c i r. elim i [ inl e ↦ absurd (let q = subst (λ (z : Bounds). ReachesAcross z t u) e r in let m = q.0 in omega (arith, ints, l, m)) | inr j ↦ w.2 c j r ]))
    (λ l. by_lt_z {P = (qs : List Bounds) × All (λ c. Contains os c × ReachesAcross c t u) qs × ((c : Bounds) → IsOne (b ∷ bs) c → ReachesAcross c t u → IsOne qs c)} b.y1 u
    (λ m. (w.0, w.1, λ c i r. elim i [ inl e ↦ absurd (let q = subst (λ (z : Bounds). ReachesAcross z t u) e r in let k = q.1 in omega (arith, ints, m, k)) | inr j ↦ w.2 c j r ]))
    (λ m. (b ∷ w.0, All-cons (λ c. Contains os c × ReachesAcross c t u) b w.0 (f b (inl refl), (l, m)) w.1, λ c i r. elim i [ inl e ↦ inl e | inr j ↦ inr (w.2 c j r) ])))

slab_exists : (os : List Bounds) (t u : ℤ) → (xs : List Strip) × AreSlabStrips os t u xs
unfolding IsSortOf
slab_exists os t u =
    let w = open_exists os os t u (λ b i. contains_of os b i) in
    let v = sorted (λ (s : Strip). s.left +ℤ s.left_end) (runs_of w.0 t u) in (
      merged v.0,
      record {
        octs = w.0;
        reaching = record { each = w.1; all = λ b c r. contains_of w.0 b (w.2 b (one_of os b c) r) };
        runs = v.0;
        order = v.1.0;
        sorted = rising (λ (s : Strip). s.left +ℤ s.left_end) v.0 v.1.1;
        is = refl;
      },
    )

sheet_exists : (os : List Bounds) (rs : List ℤ) → (ss : List Strip) × AreSheetStrips os rs ss
unfolding AreSheetStrips
sheet_exists os [] = ([], refl)
sheet_exists os (t ∷ []) = ([], refl)
sheet_exists os (t ∷ u ∷ rs) =
    let x = slab_exists os t u in
    let y = sheet_exists os (u ∷ rs) in
    (x.0 ++ y.0, (x.0, y.0, x.1, y.1, refl))

pub strips_exist : (octs : List Bounds) → All IsOct octs → All (λ b. HasInside b) octs → (ss : List Strip) × AreStrips (in_nanometres octs) ss × AreCovering (in_nanometres octs) ss
unfolding IsSortOf
strips_exist octs o h =
    let w = sorted (λ (b : Bounds). b.y0) octs in
    let top : AreFromTop w.0 = rising (λ (b : Bounds). b.y0) w.0 w.1.1 in
    let k = All-permutation IsOct octs w.0 w.1.0 o in
    let v = sorted (λ (z : ℤ). z) (all_rows w.0) in
    let rows = dedup int_eq v.0 in
    let s = sheet_exists (in_nanometres w.0) rows in
    let z = sheet_is octs w.0 rows s.0 h w.1.0 k (cut_rows_are w.0 v.0 top k v.1.0 (int_sorted v.0 v.1.1)) s.1 in
    (s.0, z.0, z.1)

pub cover_law : StripsCoverLaw
cover_law octs ss o h f =
    let w = strips_exist octs o h in
    subst (AreCovering (in_nanometres octs)) (sym (once_law (in_nanometres octs) ss w.0 f w.1)) w.2
