-- Elements of lists, lists without repeats, lists in rising order, and the same round begun elsewhere.
use Rattle.std.proofs.Common.{◌≡◌, refl, sym, subst, ap, ◌∙◌, ℕ, zero, suc, ◌<◌, ◌≤◌, ◌+◌, ◌⊎◌, inl, inr, arith, List, [], ◌∷◌, ◌++◌, length, get_or, drop, Bool, true, false, cond}
use Rattle.std.specs.Prelude.{sum_by, Contains, AllPairs}
use Rattle.std.specs.List.{All, AllZip}
use Rattle.std.specs.List.Sorted.{IsPermutation}
use Rattle.std.proofs.lemmas.List.Sums.{sum_by-cons}
use Rattle.std.proofs.lemmas.List.Sorted.{sum_by-IsPermutation, Contains-permutation}
use Rattle.std.proofs.lemmas.List.{append-nil, append_assoc}
use Rattle.rings.specs.Walks.{IsSameRound}

-- ---- one of a list
unfoldable pub Has : {X : Type 0} → List X → X → Type 0
Has [] x = ⊥
Has (y ∷ ys) x = (y ≡ x) ⊎ Has ys x

pub has_of : {X : Type 0} (xs : List X) (x : X) → Contains xs x → Has xs x
unfolding Has
has_of [] x c = absurd (omega (arith, c.1))
has_of {X} (y ∷ ys) x c = at (λ i. has_of ys x i) c.0 c.1 c.2
  where
    at : (Contains ys x → Has ys x) → (k : ℕ) → k < length (y ∷ ys) → get_or (y ∷ ys) k x ≡ x → (y ≡ x) ⊎ Has ys x
    at f zero l e = inl e
    at f (suc k) l e = inr (f (k, omega (arith, l), e))

pub of_has : {X : Type 0} (xs : List X) (x : X) → Has xs x → Contains xs x
unfolding Has
of_has [] x h = absurd h
of_has (y ∷ ys) x (inl e) = (0, omega arith, e)
of_has (y ∷ ys) x (inr h) = let c = of_has ys x h in (suc c.0, (let l = c.1 in omega (arith, l)), c.2)

pub has_head : {X : Type 0} (x : X) (xs : List X) → Has (x ∷ xs) x
unfolding Has
has_head x xs = inl refl

pub has_left : {X : Type 0} (xs ys : List X) (x : X) → Has xs x → Has (xs ++ ys) x
unfolding Has
has_left [] ys x h = absurd h
has_left (a ∷ xs) ys x (inl e) = inl e
has_left (a ∷ xs) ys x (inr h) = inr (has_left xs ys x h)

pub has_right : {X : Type 0} (xs ys : List X) (x : X) → Has ys x → Has (xs ++ ys) x
unfolding Has
has_right [] ys x h = h
has_right (a ∷ xs) ys x h = inr (has_right xs ys x h)

pub has_parts : {X : Type 0} (xs ys : List X) (x : X) → Has (xs ++ ys) x → Has xs x ⊎ Has ys x
unfolding Has
has_parts [] ys x h = inr h
has_parts (a ∷ xs) ys x (inl e) = inl (inl e)
has_parts (a ∷ xs) ys x (inr h) = elim (has_parts xs ys x h) [ inl i ↦ inl (inr i) | inr i ↦ inr i ]

pub has_permuted : {X : Type 0} (xs ys : List X) (x : X) → IsPermutation xs ys → Has xs x → Has ys x
has_permuted xs ys x p h = has_of ys x (Contains-permutation xs ys x p (of_has xs x h))

-- an element splits the list
pub has_split : {X : Type 0} (xs : List X) (x : X) → Has xs x → (us : List X) × (vs : List X) × (xs ≡ us ++ x ∷ vs)
unfolding Has
has_split [] x h = absurd h
has_split (y ∷ ys) x (inl e) = ([], ys, ap (λ z. z ∷ ys) e)
has_split (y ∷ ys) x (inr h) = let s = has_split ys x h in (y ∷ s.0, s.1, ap (λ zs. y ∷ zs) s.2)

pub all_at : {X : Type 0} (P : X → Type 0) (xs : List X) (x : X) → All P xs → Has xs x → P x
all_at P xs x a h = let c = of_has xs x h in subst P c.2 (a c.0 x c.1)

has_at : {X : Type 0} (xs : List X) (k : ℕ) (d : X) → k < length xs → Has xs (get_or xs k d)
unfolding Has
has_at [] k d l = absurd (omega (arith, l))
has_at (x ∷ xs) zero d l = inl refl
has_at (x ∷ xs) (suc k) d l = inr (has_at xs k d (omega (arith, l)))

pub all_of : {X : Type 0} (P : X → Type 0) (xs : List X) → ((x : X) → Has xs x → P x) → All P xs
all_of P xs f = λ k d l. f (get_or xs k d) (has_at xs k d l)

-- ---- no element twice
unfoldable pub NoRepeats : {X : Type 0} → List X → Type 0
NoRepeats [] = Unit {0}
NoRepeats (x ∷ xs) = (Has xs x → ⊥) × NoRepeats xs

pub no_repeats_left : {X : Type 0} (xs ys : List X) → NoRepeats (xs ++ ys) → NoRepeats xs
unfolding NoRepeats
no_repeats_left [] ys h = tt
no_repeats_left (x ∷ xs) ys h = (λ i. h.0 (has_left xs ys x i), no_repeats_left xs ys h.1)

pub no_repeats_right : {X : Type 0} (xs ys : List X) → NoRepeats (xs ++ ys) → NoRepeats ys
unfolding NoRepeats
no_repeats_right [] ys h = h
no_repeats_right (x ∷ xs) ys h = no_repeats_right xs ys h.1

pub no_repeats_apart : {X : Type 0} (xs ys : List X) (x : X) → NoRepeats (xs ++ ys) → Has xs x → Has ys x → ⊥
unfolding NoRepeats Has
no_repeats_apart [] ys x n h i = h
no_repeats_apart (a ∷ xs) ys x n (inl e) i = n.0 (has_right xs ys a (subst (λ z. Has ys z) (sym e) i))
no_repeats_apart (a ∷ xs) ys x n (inr h) i = no_repeats_apart xs ys x n.1 h i

pub no_repeats_append : {X : Type 0} (xs ys : List X) → NoRepeats xs → NoRepeats ys → ((x : X) → Has xs x → Has ys x → ⊥) → NoRepeats (xs ++ ys)
unfolding NoRepeats Has
no_repeats_append [] ys n m f = m
no_repeats_append (x ∷ xs) ys n m f =
    (λ h. elim (has_parts xs ys x h) [ inl i ↦ n.0 i | inr i ↦ f x (inl refl) i ], no_repeats_append xs ys n.1 m (λ z i j. f z (inr i) j))

pub no_repeats_swap : {X : Type 0} (xs ys : List X) → NoRepeats (xs ++ ys) → NoRepeats (ys ++ xs)
no_repeats_swap xs ys n = no_repeats_append ys xs (no_repeats_right xs ys n) (no_repeats_left xs ys n) (λ x h i. no_repeats_apart xs ys x n i h)

-- how often an element stands in the list, by a test for it
abbrev times_in : {X : Type 0} → (X → Bool) → List X → ℕ
times_in is xs = sum_by (λ x. cond (is x) 1 0) xs

abbrev one : Bool → ℕ
one b = cond b 1 0

times_cons : {X : Type 0} (is : X → Bool) (y : X) (ys : List X) (b : Bool) → is y ≡ b → times_in is (y ∷ ys) ≡ one b + times_in is ys
times_cons is y ys b e = sum_by-cons (λ x. cond (is x) 1 0) y ys ∙ ap (λ c. one c + times_in is ys) e

times_none : {X : Type 0} (is : X → Bool) (x : X) → ((y : X) → is y ≡ true → y ≡ x) → (xs : List X) → (Has xs x → ⊥) → times_in is xs ≡ 0
unfolding Has
times_none is x tells [] n = refl
times_none is x tells (y ∷ ys) n = step (times_none is x tells ys (λ h. n (inr h))) (is y) refl
  where
    step : times_in is ys ≡ 0 → (b : Bool) → is y ≡ b → times_in is (y ∷ ys) ≡ 0
    step r true e = absurd (n (inl (tells y e)))
    step r false e = let s = times_cons is y ys false e in omega (arith, s, r)

times_once : {X : Type 0} (is : X → Bool) (x : X) → ((y : X) → is y ≡ true → y ≡ x) → (xs : List X) → NoRepeats xs → times_in is xs ≤ 1
unfolding NoRepeats
times_once is x tells [] n = omega arith
times_once is x tells (y ∷ ys) n = step (times_once is x tells ys n.1) (is y) refl
  where
    step : times_in is ys ≤ 1 → (b : Bool) → is y ≡ b → times_in is (y ∷ ys) ≤ 1
    step r true e =
        let s = times_cons is y ys true e in
        let r0 = times_none is x tells ys (λ h. n.0 (subst (λ z. Has ys z) (sym (tells y e)) h)) in
        omega (arith, s, r0)
    step r false e = let s = times_cons is y ys false e in omega (arith, s, r)

times_some : {X : Type 0} (is : X → Bool) (x : X) → is x ≡ true → (xs : List X) → Has xs x → 1 ≤ times_in is xs
unfolding Has
times_some is x t [] h = absurd h
times_some is x t (y ∷ ys) (inl e) = let s = times_cons is y ys true (ap is e ∙ t) in omega (arith, s)
times_some is x t (y ∷ ys) (inr h) = let s = times_cons is y ys (is y) refl in let r = times_some is x t ys h in omega (arith, s, r)

-- a test of equality
pub record IsTest {X : Type 0} (same : X → X → Bool) : Type 0 where
  pub tells : (x y : X) → same x y ≡ true → y ≡ x
  pub meets : (x : X) → same x x ≡ true

no_repeats_times : {X : Type 0} (same : X → X → Bool) → IsTest same → (xs : List X) → ((x : X) → times_in (same x) xs ≤ 1) → NoRepeats xs
unfolding NoRepeats
no_repeats_times same t [] f = tt
no_repeats_times same t (y ∷ ys) f = (
  λ h. absurd (
      let s = times_cons (same y) y ys true (t.meets y) in
      let r = times_some (same y) y (t.meets y) ys h in
      let l = f y in
      omega (arith, s, r, l)
      ),
  no_repeats_times same t ys (λ x. (let s = times_cons (same x) y ys (same x y) refl in let l = f x in omega (arith, s, l))),
)

pub no_repeats_permuted : {X : Type 0} (same : X → X → Bool) → IsTest same → (xs ys : List X) → IsPermutation xs ys → NoRepeats xs → NoRepeats ys
no_repeats_permuted same t xs ys p n =
    no_repeats_times same t ys (λ x. (let s = sum_by-IsPermutation (λ z. cond (same x z) 1 0) xs ys p in let l = times_once (same x) x (t.tells x) xs n in omega (arith, s, l)))

-- ---- lists in rising order
pub record IsOrder {X : Type 0} (L : X → X → Type 0) : Type 0 where
  pub never : (x : X) → L x x → ⊥
  pub on : (x y z : X) → L x y → L y z → L x z

unfoldable pub Rising : {X : Type 0} → (X → X → Type 0) → List X → Type 0
Rising L [] = Unit {0}
Rising {X} L (x ∷ xs) = ((y : X) → Has xs y → L x y) × Rising L xs

pub rising_of : {X : Type 0} (L : X → X → Type 0) (xs : List X) → AllPairs L xs → Rising L xs
unfolding Rising
rising_of L [] a = tt
rising_of L (x ∷ xs) a = (
  λ y h. (let c = of_has xs y h in let l = c.1 in subst (L x) c.2 (a 0 (suc c.0) y (omega arith) (omega (arith, l)))),
  rising_of L xs (λ i j d l m. a (suc i) (suc j) d (omega (arith, l)) (omega (arith, m))),
)

rising_head : {X : Type 0} (L : X → X → Type 0) → IsOrder L → (x y : X) (xs ys : List X) → Rising L (x ∷ xs) → Rising L (y ∷ ys) → Has (y ∷ ys) x → Has (x ∷ xs) y → x ≡ y
unfolding Has Rising
rising_head L o x y xs ys r s (inl e) k = sym e
rising_head L o x y xs ys r s (inr h) (inl e) = e
rising_head L o x y xs ys r s (inr h) (inr k) = absurd (o.never x (o.on x y x (r.0 y k) (s.0 x h)))

rising_tail : {X : Type 0} (L : X → X → Type 0) → IsOrder L → (x y : X) (xs ys : List X) → Rising L (x ∷ xs) → x ≡ y
    → ((z : X) → Has (x ∷ xs) z → Has (y ∷ ys) z) → (z : X) → Has xs z → Has ys z
unfolding Has Rising
rising_tail L o x y xs ys r e f z h = elim (f z (inr h)) [ inl i ↦ absurd (o.never x (subst (L x) (sym i ∙ sym e) (r.0 z h))) | inr i ↦ i ]

-- two rising lists with the same elements are one list
pub rising_same : {X : Type 0} (L : X → X → Type 0) → IsOrder L → (xs ys : List X) → Rising L xs → Rising L ys
    → ((z : X) → Has xs z → Has ys z) → ((z : X) → Has ys z → Has xs z) → xs ≡ ys
unfolding Has Rising
rising_same L o [] [] r s f g = refl
rising_same L o [] (y ∷ ys) r s f g = absurd (g y (inl refl))
rising_same L o (x ∷ xs) [] r s f g = absurd (f x (inl refl))
rising_same L o (x ∷ xs) (y ∷ ys) r s f g =
    let e = rising_head L o x y xs ys r s (f x (inl refl)) (g y (inl refl)) in
    ap (λ z. z ∷ xs) e
    ∙ ap (λ zs. y ∷ zs) (rising_same L o xs ys r.1 s.1 (rising_tail L o x y xs ys r e f) (rising_tail L o y x ys xs s (sym e) g))

-- ---- the same round
pub round_keeps : {X : Type 0} (P : List X → Type 0) → ((a : X) (xs : List X) → P (a ∷ xs) → P (xs ++ a ∷ [])) → (old new : List X) → IsSameRound old new → P old → P new
round_keeps {X} P step old new r h = subst P (sym r.is) (by r.front r.back (subst P r.was h))
  where
    by : (front back : List X) → P (front ++ back) → P (back ++ front)
    by [] back h = subst P (sym (append-nil back)) h
    by (a ∷ front) back h = subst P (append_assoc back (a ∷ []) front) (by front (back ++ a ∷ []) (subst P (append_assoc front back (a ∷ [])) (step a (front ++ back) h)))

pub round_refl : {X : Type 0} (xs : List X) → IsSameRound xs xs
round_refl xs = record { front = []; back = xs; was = refl; is = sym (append-nil xs) }

pub round_sym : {X : Type 0} (xs ys : List X) → IsSameRound xs ys → IsSameRound ys xs
round_sym xs ys r = record { front = r.back; back = r.front; was = r.is; is = r.was }

pub round_step : {X : Type 0} (a : X) (xs : List X) → IsSameRound (a ∷ xs) (xs ++ a ∷ [])
round_step a xs = record { front = a ∷ []; back = xs; was = refl; is = refl }

cons_head : {X : Type 0} (d x y : X) (xs ys : List X) → x ∷ xs ≡ y ∷ ys → x ≡ y
cons_head d x y xs ys e = ap (λ zs. get_or zs 0 d) e

cons_tail : {X : Type 0} (x y : X) (xs ys : List X) → x ∷ xs ≡ y ∷ ys → xs ≡ ys
cons_tail x y xs ys e = ap (λ zs. drop 1 zs) e

round_more : {X : Type 0} (old : List X) (a : X) (xs : List X) → IsSameRound old (a ∷ xs) → IsSameRound old (xs ++ a ∷ [])
round_more {X} old a xs r = by r.front r.back r.was r.is
  where
    by : (front back : List X) → old ≡ front ++ back → a ∷ xs ≡ back ++ front → IsSameRound old (xs ++ a ∷ [])
    by front [] was is = subst (λ zs. IsSameRound zs (xs ++ a ∷ [])) (is ∙ sym (append-nil front) ∙ sym was) (round_step a xs)
    by front (b ∷ bs) was is = record {
      front = front ++ a ∷ [];
      back = bs;
      was = was ∙ ap (λ z. front ++ z ∷ bs) (sym (cons_head a a b xs (bs ++ front) is)) ∙ sym (append_assoc front (a ∷ []) bs);
      is = ap (λ zs. zs ++ a ∷ []) (cons_tail a b xs (bs ++ front) is) ∙ append_assoc bs front (a ∷ []);
    }

pub round_trans : {X : Type 0} (xs ys zs : List X) → IsSameRound xs ys → IsSameRound ys zs → IsSameRound xs zs
round_trans xs ys zs r s = round_keeps (λ us. IsSameRound xs us) (round_more xs) ys zs s r

pub has_round : {X : Type 0} (xs ys : List X) → IsSameRound xs ys → (x : X) → Has xs x → Has ys x
has_round xs ys r x h =
    subst (λ zs. Has zs x) (sym r.is)
    (elim (has_parts r.front r.back x (subst (λ zs. Has zs x) r.was h)) [ inl i ↦ has_right r.back r.front x i | inr i ↦ has_left r.back r.front x i ])

pub no_repeats_round : {X : Type 0} (xs ys : List X) → IsSameRound xs ys → NoRepeats xs → NoRepeats ys
no_repeats_round xs ys r n = subst NoRepeats (sym r.is) (no_repeats_swap r.front r.back (subst NoRepeats r.was n))

-- ---- place by place
pub zip_right : {A B : Type 0} (R : A → B → Type 0) (xs : List A) (ys : List B) → AllZip R xs ys → (y : B) → Has ys y → (x : A) × Has xs x × R x y
unfolding Has
zip_right R [] [] z y h = absurd h
zip_right R [] (b ∷ ys) z y h = absurd z
zip_right R (a ∷ xs) [] z y h = absurd h
zip_right R (a ∷ xs) (b ∷ ys) z y (inl e) = (a, inl refl, subst (R a) e z.0)
zip_right R (a ∷ xs) (b ∷ ys) z y (inr h) = let r = zip_right R xs ys z.1 y h in (r.0, inr r.1, r.2)

pub zip_left : {A B : Type 0} (R : A → B → Type 0) (xs : List A) (ys : List B) → AllZip R xs ys → (x : A) → Has xs x → (y : B) × Has ys y × R x y
unfolding Has
zip_left R [] [] z x h = absurd h
zip_left R [] (b ∷ ys) z x h = absurd z
zip_left R (a ∷ xs) [] z x h = absurd z
zip_left R (a ∷ xs) (b ∷ ys) z x (inl e) = (b, inl refl, subst (λ w. R w b) e z.0)
zip_left R (a ∷ xs) (b ∷ ys) z x (inr h) = let r = zip_left R xs ys z.1 x h in (r.0, inr r.1, r.2)

-- ---- a search through a list
pub found : {X : Type 0} (P : X → Type 0) → ((x : X) → P x ⊎ (P x → ⊥)) → (xs : List X) → ((x : X) × Has xs x × P x) ⊎ ((x : X) → Has xs x → P x → ⊥)
unfolding Has
found P d [] = inr (λ x h p. h)
found {X} P d (y ∷ ys) = at (found P d ys) (d y)
  where
    at : ((x : X) × Has ys x × P x) ⊎ ((x : X) → Has ys x → P x → ⊥) → P y ⊎ (P y → ⊥) → ((x : X) × ((y ≡ x) ⊎ Has ys x) × P x) ⊎ ((x : X) → ((y ≡ x) ⊎ Has ys x) → P x → ⊥)
    at r (inl p) = inl (y, inl refl, p)
    at (inl r) (inr n) = inl (r.0, inr r.1, r.2)
    at (inr f) (inr n) = inr (λ x h p. elim h [ inl e ↦ n (subst P (sym e) p) | inr h ↦ f x h p ])
