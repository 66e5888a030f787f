-- Some member of a list, the stout ones of a list, and the members that pass a test.
use Rattle.std.proofs.Common.{◌≡◌, refl, sym, subst, ◌⊎◌, inl, inr, ℕ, zero, suc, ◌<◌, length, get_or, List, [], ◌∷◌, arith}
use Rattle.std.specs.Prelude.{Bool, true, false, cond, ◌&&◌, ℤ, ◌<ℤ◌, int_lt, Any}
use Rattle.std.specs.List.{All, filter}
use Rattle.std.proofs.lemmas.Int.{ints}
use Rattle.std.proofs.lemmas.Bool.{and_parts, true≢false}
use Rattle.std.proofs.lemmas.List.Elements.{All-filter, filter_passes}
use Rattle.plane.specs.Plane.{PlanePoint, Bounds, In, StrictlyIn, IsTight, IsOct}
use Rattle.plane.proofs.Counts.{less_true}
use Rattle.plane.proofs.Lists.{any_head, any_tail}
use Rattle.classes.specs.Classes.{IsOneOf}
use Rattle.strips.specs.Strips.{HasInside, IsStout}
use Rattle.strips.proofs.Inside.{stout}
use Rattle.outline_slab.specs.Cuts.{IsInSome}
use Rattle.outline_slab.specs.Filled.{IsInStout}
use Rattle.fill_rules.proofs.Members.{some_one_of}
use Rattle.centres.specs.Walls.{is_stout, stout_of}

-- ---- some member
pub one_any : {A : Type 0} (P : A → Type 0) (xs : List A) (x : A) → IsOneOf x xs → P x → Any P xs
unfolding IsOneOf
one_any P [] x i h = absurd i
one_any P (y ∷ ys) x (inl e) h = any_head P y ys (subst P e h)
one_any P (y ∷ ys) x (inr i) h = any_tail P y ys (one_any P ys x i h)

pub any_as : {A : Type 0} (P Q : A → Type 0) (xs : List A) → ((x : A) → IsOneOf x xs → P x → Q x) → Any P xs → Any Q xs
any_as P Q xs f a = let s = some_one_of P xs a in one_any Q xs s.0 s.1 (f s.0 s.1 s.2)

pub all_of_members : {A : Type 0} (P : A → Type 0) (xs : List A) → ((x : A) → IsOneOf x xs → P x) → All P xs
unfolding IsOneOf
all_of_members P [] h = λ k d l. absurd (omega (arith, l))
all_of_members {A} P (x ∷ xs) h = λ k d l. by_place (all_of_members P xs (λ y i. h y (inr i))) k d l
  where
    by_place : All P xs → (k : ℕ) (d : A) → k < length (x ∷ xs) → P (get_or (x ∷ xs) k d)
    by_place more zero d l = h x (inl refl)
    by_place more (suc k) d l = more k d (omega (arith, l))

-- ---- members that pass a test
one_of_cond : {A : Type 0} (x y : A) (c : Bool) (ys : List A) → IsOneOf x (cond c (y ∷ ys) ys) → ((x ≡ y) × (c ≡ true)) ⊎ IsOneOf x ys
unfolding IsOneOf
one_of_cond x y true ys (inl e) = inl (e, refl)
one_of_cond x y true ys (inr i) = inr i
one_of_cond x y false ys i = inr i

cond_one_of : {A : Type 0} (x y : A) (c : Bool) (ys : List A) → ((x ≡ y) × (c ≡ true)) ⊎ IsOneOf x ys → IsOneOf x (cond c (y ∷ ys) ys)
unfolding IsOneOf
cond_one_of x y true ys (inl e) = inl e.0
cond_one_of x y true ys (inr i) = inr i
cond_one_of x y false ys (inl e) = absurd (true≢false (sym e.1))
cond_one_of x y false ys (inr i) = i

pub one_of_filter : {A : Type 0} (p : A → Bool) (x : A) (xs : List A) → IsOneOf x (filter p xs) → IsOneOf x xs × (p x ≡ true)
unfolding IsOneOf
one_of_filter p x [] i = absurd i
one_of_filter p x (y ∷ ys) i = elim (one_of_cond x y (p y) (filter p ys) i) [
  | inl e ↦ (inl e.0, rw e.0 e.1)
  | inr j ↦ let r = one_of_filter p x ys j in (inr r.0, r.1)
]

pub filter_one_of : {A : Type 0} (p : A → Bool) (x : A) (xs : List A) → IsOneOf x xs → p x ≡ true → IsOneOf x (filter p xs)
unfolding IsOneOf
filter_one_of p x [] i h = absurd i
filter_one_of p x (y ∷ ys) (inl e) h = cond_one_of x y (p y) (filter p ys) (inl (e, subst (λ z. p z ≡ true) e h))
filter_one_of p x (y ∷ ys) (inr i) h = cond_one_of x y (p y) (filter p ys) (inr (filter_one_of p x ys i h))

-- ---- stout octagons
lt_true : (a b : ℤ) → int_lt a b ≡ true → a <ℤ b
lt_true a b e = grind (arith, ints)

both : (x y : Bool) → x ≡ true → y ≡ true → (x && y) ≡ true
both true y e f = f
both false y e f = absurd (true≢false (sym e))

pub test_stout : (o : Bounds) → is_stout o ≡ true → IsStout o
test_stout o h =
    let a = and_parts (int_lt o.x0 o.x1) (int_lt o.y0 o.y1 && (int_lt o.s0 o.s1 && int_lt o.d0 o.d1)) h in
    let b = and_parts (int_lt o.y0 o.y1) (int_lt o.s0 o.s1 && int_lt o.d0 o.d1) a.1 in
    let c = and_parts (int_lt o.s0 o.s1) (int_lt o.d0 o.d1) b.1 in
    record { x = lt_true o.x0 o.x1 a.0; y = lt_true o.y0 o.y1 b.0; s = lt_true o.s0 o.s1 c.0; d = lt_true o.d0 o.d1 c.1 }

pub stout_test : (o : Bounds) → IsStout o → is_stout o ≡ true
stout_test o w =
    both (int_lt o.x0 o.x1) (int_lt o.y0 o.y1 && (int_lt o.s0 o.s1 && int_lt o.d0 o.d1)) (less_true o.x0 o.x1 w.x)
    (both (int_lt o.y0 o.y1) (int_lt o.s0 o.s1 && int_lt o.d0 o.d1) (less_true o.y0 o.y1 w.y)
    (both (int_lt o.s0 o.s1) (int_lt o.d0 o.d1) (less_true o.s0 o.s1 w.s) (less_true o.d0 o.d1 w.d)))

inside_by : (o : Bounds) (q : PlanePoint) → StrictlyIn o q → HasInside o
unfolding HasInside
inside_by o q s = (q, s)

-- what is in an octagon that isn't flat is in one of the stout ones
pub in_stout : (octs : List Bounds) (p : PlanePoint) → IsInStout octs p → IsInSome (stout_of octs) p
in_stout octs p a =
    let s = some_one_of (λ (o : Bounds). In o p × ((q : PlanePoint) × StrictlyIn o q)) octs a in
    one_any (λ (o : Bounds). In o p) (stout_of octs) s.0 (filter_one_of is_stout s.0 octs s.1 (stout_test s.0 (stout s.0 (inside_by s.0 s.2.1.0 s.2.1.1)))) s.2.0

pub stout_in : (octs : List Bounds) (p : PlanePoint) → IsInSome (stout_of octs) p → IsInSome octs p
stout_in octs p a =
    let s = some_one_of (λ (o : Bounds). In o p) (stout_of octs) a in
    one_any (λ (o : Bounds). In o p) octs s.0 (one_of_filter is_stout s.0 octs s.1).0 s.2

pub all_stout : (octs : List Bounds) → All IsStout (stout_of octs)
all_stout octs = λ k d l. test_stout _ (filter_passes is_stout octs k d l)

pub all_tight : (octs : List Bounds) → All IsTight octs → All IsTight (stout_of octs)
all_tight octs h = All-filter is_stout IsTight octs h

-- octagons that a program makes are tight
pub octs_tight : (octs : List Bounds) → All IsOct octs → All IsTight octs
octs_tight octs h = λ k d l. (h k d l).tight
