-- One octagon further along a list.
use Rattle.std.proofs.Common.{◌≡◌, subst, refl, sym, ◌∙◌, ap, ℕ, zero, suc, ◌+◌, ◌-◌, ◌<◌, ◌≤◌, ◌⊎◌, inl, inr, arith, List, [], ◌∷◌, ◌++◌, length, get_or, take, drop, drop-cons, append_assoc, add-one, Bool, true, false, w64, FitsSigned}
use Rattle.std.specs.Prelude.{ℤ, pos, ◌*ℤ◌, int_lt}
use Rattle.std.specs.List.{All}
use Rattle.std.proofs.lemmas.Int.{to_z-of_z}
use Rattle.std.proofs.lemmas.List.{append-nil, take_rest}
use Rattle.plane.specs.Plane.{Bounds, IsOct}
use Rattle.octagon.proofs.Plain.{IsOct-IsSmall}
use Rattle.sheet_union.specs.Inner.Crossings.{half_rows, crossing_rows, later_rows, cut_rows_of, all_rows}
use Rattle.sheet_union.proofs.Plain.{read, twice, twice_is}

-- the rest of a list, with its first element known
pub rest_is : {X : Type 0} (x : X) (xs : List X) (i : ℕ) → i < length xs → x ≡ get_or xs i x → drop i xs ≡ x ∷ drop (i + 1) xs
rest_is x xs i l e = rw add-one (drop-cons xs i x l ∙ ap (λ y. y ∷ drop (suc i) xs) (sym e))

pub none_left : {X : Type 0} (xs : List X) (i : ℕ) → length xs ≤ i → drop i xs ≡ []
none_left [] zero l = refl
none_left [] (suc i) l = refl
none_left (x ∷ xs) zero l = absurd (omega (arith, l))
none_left (x ∷ xs) (suc i) l = none_left xs i (omega (arith, l))

-- ---- crossings with later ones
test_is : (r z q w : ℤ) (b : Bool) → r ≡ z → q ≡ w → FitsSigned w64 r → FitsSigned w64 q → int_lt (read r) (read q) ≡ b → int_lt z w ≡ b
test_is r z q w b e f fr fq h = rw (to_z-of_z w64 r fr, to_z-of_z w64 q fq, e, f) at h

pub later_step : (a o : Bounds) (bs : List Bounds) (i : ℕ) (y1 y0 : ℤ) (r0 r r' : List ℤ) → i < length bs → o ≡ get_or bs i o
    → y1 ≡ a.y1 → y0 ≡ o.y0 → FitsSigned w64 y1 → FitsSigned w64 y0 → int_lt (read y1) (read y0) ≡ false
    → r' ≡ r ++ crossing_rows a o → r ++ later_rows a (drop i bs) ≡ r0 → r' ++ later_rows a (drop (i + 1) bs) ≡ r0
unfolding later_rows
later_step a o bs i y1 y0 r0 r r' l e f g m n h k inv =
    let t = test_is y1 a.y1 y0 o.y0 false f g m n h in
    let w = rw (rest_is o bs i l e, t) at inv in
    rw k (append_assoc r (crossing_rows a o) (later_rows a (drop (i + 1) bs)) ∙ w)

pub later_stop : (a o : Bounds) (bs : List Bounds) (i : ℕ) (y1 y0 : ℤ) (r0 r : List ℤ) → i < length bs → o ≡ get_or bs i o
    → y1 ≡ a.y1 → y0 ≡ o.y0 → FitsSigned w64 y1 → FitsSigned w64 y0 → int_lt (read y1) (read y0) ≡ true
    → r ++ later_rows a (drop i bs) ≡ r0 → r ≡ r0
unfolding later_rows
later_stop a o bs i y1 y0 r0 r l e f g m n h inv =
    let t = test_is y1 a.y1 y0 o.y0 true f g m n h in
    let w = rw (rest_is o bs i l e, t) at inv in
    sym (append-nil r) ∙ w

pub later_end : (a : Bounds) (bs : List Bounds) (i : ℕ) (r0 r : List ℤ) → length bs ≤ i → r ++ later_rows a (drop i bs) ≡ r0 → r ≡ r0
unfolding later_rows
later_end a bs i r0 r l inv = let w = rw (none_left bs i l) at inv in sym (append-nil r) ∙ w

-- ---- the rows of one
pub one_is : (a : Bounds) (bs : List Bounds) (y0 y1 : ℤ) (r0 r1 r2 r3 r4 : List ℤ) → IsOct a → y0 ≡ a.y0 → y1 ≡ a.y1
    → r1 ≡ r0 ++ twice y0 ∷ [] → r2 ≡ r1 ++ twice y1 ∷ [] → r3 ≡ r2 ++ half_rows a a → r4 ≡ r3 ++ later_rows a bs
    → r4 ≡ r0 ++ cut_rows_of a bs
unfolding cut_rows_of
one_is a bs y0 y1 r0 r1 r2 r3 r4 o e f h k m n =
    let z = IsOct-IsSmall a o in
    let p = pos 2 *ℤ a.y0 in
    let q = pos 2 *ℤ a.y1 in
    let h' : r1 ≡ r0 ++ p ∷ [] = rw (e, twice_is a.y0 z.y0) at h in
    let k' : r2 ≡ r1 ++ q ∷ [] = rw (f, twice_is a.y1 z.y1) at k in
    let b : r2 ≡ r0 ++ (p ∷ q ∷ []) = k' ∙ (rw h' (append_assoc r0 (p ∷ []) (q ∷ []))) in
    let c : r3 ≡ r0 ++ ((p ∷ q ∷ []) ++ half_rows a a) = m ∙ (rw b (append_assoc r0 (p ∷ q ∷ []) (half_rows a a))) in
    n ∙ (rw c (append_assoc r0 ((p ∷ q ∷ []) ++ half_rows a a) (later_rows a bs)))

-- ---- the rows of all
pub all_step : (o : Bounds) (bs : List Bounds) (i : ℕ) (r0 r r' : List ℤ) → i < length bs → o ≡ get_or bs i o
    → r' ≡ r ++ cut_rows_of o (take (length bs - (i + 1)) (drop (i + 1) bs)) → r ++ all_rows (drop i bs) ≡ r0 → r' ++ all_rows (drop (i + 1) bs) ≡ r0
unfolding all_rows
all_step o bs i r0 r r' l e h inv =
    let h' : r' ≡ r ++ cut_rows_of o (drop (i + 1) bs) = rw (take_rest bs (i + 1)) at h in
    let w = rw (rest_is o bs i l e) at inv in
    rw h' (append_assoc r (cut_rows_of o (drop (i + 1) bs)) (all_rows (drop (i + 1) bs)) ∙ w)

pub all_end : (bs : List Bounds) (i : ℕ) (r0 r : List ℤ) → length bs ≤ i → r ++ all_rows (drop i bs) ≡ r0 → r ≡ r0
unfolding all_rows
all_end bs i r0 r l inv = let w = rw (none_left bs i l) at inv in sym (append-nil r) ∙ w

-- ---- what holds of each so far
abbrev pub EachBelow : {X : Type 0} → (X → Type 0) → List X → ℕ → Type 0
EachBelow {X} P xs i = (k : ℕ) (d : X) → k < i → k < length xs → P (get_or xs k d)

pub each_more : {X : Type 0} (P : X → Type 0) (x : X) (xs : List X) (i : ℕ) → x ≡ get_or xs i x → P x → EachBelow P xs i → EachBelow P xs (i + 1)
each_more P x xs i e p h k d l m = elim (last i k l) [ inl b ↦ h k d b m | inr f ↦ subst P (e ∙ at xs i k x d f m) p ]
  where
    last : (i k : ℕ) → k < i + 1 → (k < i) ⊎ (i ≡ k)
    last zero zero l = inr refl
    last zero (suc k) l = absurd (omega (arith, l))
    last (suc i) zero l = inl (omega arith)
    last (suc i) (suc k) l = elim (last i k (omega (arith, l))) [ inl b ↦ inl (omega (arith, b)) | inr f ↦ inr (ap suc f) ]

    again : {X : Type 0} (xs : List X) (k : ℕ) (x d : X) → k < length xs → get_or xs k x ≡ get_or xs k d
    again [] k x d l = absurd (omega (arith, l))
    again (y ∷ ys) zero x d l = refl
    again (y ∷ ys) (suc k) x d l = again ys k x d (omega (arith, l))

    at : {X : Type 0} (xs : List X) (i k : ℕ) (x d : X) → i ≡ k → k < length xs → get_or xs i x ≡ get_or xs k d
    at xs i k x d f m = ap (λ n. get_or xs n x) f ∙ again xs k x d m

pub each_all : {X : Type 0} (P : X → Type 0) (xs : List X) (i : ℕ) → length xs ≤ i → EachBelow P xs i → All P xs
each_all P xs i l h k d m = h k d (omega (arith, l, m)) m
