-- The offers of all anchors outside, as a cluster comes inside.
use Rattle.std.proofs.Common.{◌≡◌, refl, sym, subst, ap, ◌∙◌, ℕ, zero, suc, ◌≤◌, ◌<◌, List, [], ◌∷◌, ◌++◌, ◌⊎◌, inl, inr, arith, length, get_or, take}
use Rattle.std.specs.Prelude.{pos}
use Rattle.std.specs.List.{All}
use Rattle.std.proofs.lemmas.List.{get_or_default}
use Rattle.classes.specs.Classes.{IsOneOf}
use Rattle.ratsnest.specs.declared.Anchor.{Anchor}
use Rattle.ratsnest.specs.declared.Pair.{Pair}
use Rattle.ratsnest.specs.declared.offers.Offer.{Offer}
use Rattle.ratsnest.specs.Ratsnest.{anchor, HasLesserKey, dist_sq}
use Rattle.ratsnest.specs.Inner.Best.{GoesInto, IsOffer, IsSoundOffer, IsImproved, offer_numbers, IsEntering, IsRestOfOffers, IsRing, IsJoinedBy, IsAbsorbed, IsNearest}
use Rattle.ratsnest.proofs.Order.{less_irr, less_trans, pair_same, is_one}
use Rattle.ratsnest.proofs.Better.{no_place, offer_wider, one_front, one_back, one_split, take_more}

not_second : {A : Type 0} (x : A) (i : ℕ) → suc i < length (x ∷ []) → ⊥
not_second x i l = omega (arith, l)

pub all_push : {A : Type 0} (P : A → Type 0) (xs : List A) (x : A) → All P xs → P x → All P (xs ++ (x ∷ []))
all_push P [] x h p zero d l = p
all_push P [] x h p (suc k) d l = absurd (not_second x k l)
all_push P (y ∷ ys) x h p zero d l = h 0 d (omega arith)
all_push P (y ∷ ys) x h p (suc k) d l = all_push P ys x (λ j e m. h (suc j) e (omega (arith, m))) p k d (omega (arith, l))

pub all_none : {A : Type 0} (P : A → Type 0) → All P []
all_none {A = A} P k d l = absurd (no_place A k l)

all_front : {A : Type 0} (P : A → Type 0) (xs : List A) (x : A) → All P (xs ++ (x ∷ [])) → All P xs
all_front {A = A} P [] x h k d l = absurd (no_place A k l)
all_front P (y ∷ ys) x h zero d l = h 0 d (omega arith)
all_front P (y ∷ ys) x h (suc k) d l = all_front P ys x (λ j e m. h (suc j) e (omega (arith, m))) k d (omega (arith, l))

all_last : {A : Type 0} (P : A → Type 0) (xs : List A) (x : A) → All P (xs ++ (x ∷ [])) → P x
all_last P [] x h = h 0 x (omega arith)
all_last P (y ∷ ys) x h = all_last P ys x (λ j e m. h (suc j) e (omega (arith, m)))

all_map : {A : Type 0} (P Q : A → Type 0) (xs : List A) → ((x : A) → P x → Q x) → All P xs → All Q xs
all_map P Q xs f h k d l = f (get_or xs k d) (h k d l)

all_tail : {A : Type 0} (P : A → Type 0) (x : A) (xs : List A) → All P (x ∷ xs) → All P xs
all_tail P x xs h k d l = h (suc k) d (omega (arith, l))

pub one_all : (P : ℕ → Type 0) (xs : List ℕ) (m : ℕ) → All P xs → IsOneOf m xs → P m
unfolding IsOneOf
one_all P [] m h i = absurd i
one_all P (x ∷ xs) m h (inl e) = subst P (sym e) (h 0 0 (omega arith))
one_all P (x ∷ xs) m h (inr i) = one_all P xs m (all_tail P x xs h) i

numbers_put : (left : List Offer) (o : Offer) → offer_numbers (left ++ (o ∷ [])) ≡ offer_numbers left ++ (o.outside ∷ [])
numbers_put [] o = refl
numbers_put (p ∷ left) o = ap (λ z. p.outside ∷ z) (numbers_put left o)

pub longer_by_one : {A : Type 0} (xs : List A) (x : A) → length (xs ++ (x ∷ [])) ≡ suc (length xs)
longer_by_one [] x = refl
longer_by_one (y ∷ ys) x = ap suc (longer_by_one ys x)

-- a number of the longer list is one of the front or the last
put_split : (left : List Offer) (o : Offer) (k : ℕ) → IsOneOf k (offer_numbers (left ++ (o ∷ []))) → IsOneOf k (offer_numbers left) ⊎ (k ≡ o.outside)
unfolding IsOneOf
put_split left o k i = elim (one_split k (offer_numbers left) (o.outside ∷ []) (subst (λ z. IsOneOf k z) (numbers_put left o) i)) [
  | inl j ↦ inl j
  | inr j ↦ elim j [ inl e ↦ inr e | inr n ↦ absurd n ]
]

pub put_front : (left : List Offer) (o : Offer) (k : ℕ) → IsOneOf k (offer_numbers left) → IsOneOf k (offer_numbers (left ++ (o ∷ [])))
put_front left o k i = subst (λ z. IsOneOf k z) (sym (numbers_put left o)) (one_front k (offer_numbers left) (o.outside ∷ []) i)

pub put_last : (left : List Offer) (o : Offer) (k : ℕ) → k ≡ o.outside → IsOneOf k (offer_numbers (left ++ (o ∷ [])))
unfolding IsOneOf
put_last left o k e = subst (λ z. IsOneOf k z) (sym (numbers_put left o)) (one_back k (offer_numbers left) (o.outside ∷ []) (inl e))

-- which ones come inside
pub entering_none : (xs : List Anchor) (c : ℕ) → IsEntering xs c [] []
unfolding IsOneOf
entering_none xs c = record { these = all_none (λ m. (m < length xs) × ((anchor xs m).cluster ≡ c)); whole = λ k i e. absurd i }

entering_put : (xs : List Anchor) (c : ℕ) (front : List Offer) (moved : List ℕ) (o : Offer) → IsSoundOffer xs o → (anchor xs o.outside).cluster ≡ c
    → IsEntering xs c front moved → IsEntering xs c (front ++ (o ∷ [])) (moved ++ (o.outside ∷ []))
unfolding IsOneOf
entering_put xs c front moved o s e h = record {
  these = all_push (λ m. (m < length xs) × ((anchor xs m).cluster ≡ c)) moved o.outside h.these (s.there, e);
  whole = λ k i p. elim (put_split front o k i) [
    | inl j ↦ one_front k moved (o.outside ∷ []) (h.whole k j p)
    | inr j ↦ one_back k moved (o.outside ∷ []) (inl j)
  ];
}

entering_skip : (xs : List Anchor) (c : ℕ) (front : List Offer) (moved : List ℕ) (o : Offer) → ((anchor xs o.outside).cluster ≡ c → ⊥)
    → IsEntering xs c front moved → IsEntering xs c (front ++ (o ∷ [])) moved
entering_skip xs c front moved o n h = record {
  these = h.these;
  whole = λ k i p. elim (put_split front o k i) [
    | inl j ↦ h.whole k j p
    | inr j ↦ absurd (n (subst (λ z. (anchor xs z).cluster ≡ c) j p))
  ];
}

pub entering_yes : (xs : List Anchor) (c : ℕ) (left : List Offer) (moved : List ℕ) (i : ℕ) (d : Offer) (a : Anchor) → i < length left → IsSoundOffer xs (get_or left i d)
    → a ≡ anchor xs (get_or left i d).outside → a.cluster ≡ c
    → IsEntering xs c (take i left) moved → IsEntering xs c (take (suc i) left) (moved ++ ((get_or left i d).outside ∷ []))
entering_yes xs c left moved i d a l s e p h = subst (λ z. IsEntering xs c z (moved ++ ((get_or left i d).outside ∷ []))) (sym (take_more left i d l))
    (entering_put xs c (take i left) moved (get_or left i d) s (subst (λ (z : Anchor). z.cluster ≡ c) e p) h)

pub entering_no : (xs : List Anchor) (c : ℕ) (left : List Offer) (moved : List ℕ) (i : ℕ) (d : Offer) (a : Anchor) → i < length left
    → a ≡ anchor xs (get_or left i d).outside → (a.cluster ≡ c → ⊥)
    → IsEntering xs c (take i left) moved → IsEntering xs c (take (suc i) left) moved
entering_no xs c left moved i d a l e p h = subst (λ z. IsEntering xs c z moved) (sym (take_more left i d l))
    (entering_skip xs c (take i left) moved (get_or left i d) (subst (λ (z : Anchor). z.cluster ≡ c → ⊥) e p) h)

-- the offers of the others
pub rest_none : (xs : List Anchor) (c : ℕ) (moved : List ℕ) → IsRestOfOffers xs c moved [] []
unfolding IsOneOf
rest_none xs c moved = record {
  offers = λ inside h. all_none (λ o. IsOffer xs (λ j. IsOneOf j inside ⊎ IsOneOf j moved) o);
  sound = all_none (λ o. IsSoundOffer xs o);
  whole = λ k i n. absurd i;
  most = omega arith;
  fewer = λ k i e. absurd i;
}

rest_put : (xs : List Anchor) (c : ℕ) (moved : List ℕ) (front rest : List Offer) (o new : Offer) → ((anchor xs o.outside).cluster ≡ c → ⊥)
    → IsImproved xs moved o new → IsRestOfOffers xs c moved front rest → IsRestOfOffers xs c moved (front ++ (o ∷ [])) (rest ++ (new ∷ []))
rest_put xs c moved front rest o new n m h = record {
  offers = λ inside a. all_push (λ p. IsOffer xs (λ j. IsOneOf j inside ⊎ IsOneOf j moved) p) rest new
      (h.offers inside (all_front (λ p. IsOffer xs (λ j. IsOneOf j inside) p) front o a))
      (m.offer inside (all_last (λ p. IsOffer xs (λ j. IsOneOf j inside) p) front o a));
  sound = all_push (λ p. IsSoundOffer xs p) rest new h.sound m.sound;
  whole = λ k i p. elim (put_split front o k i) [
    | inl j ↦ put_front rest new k (h.whole k j p)
    | inr j ↦ put_last rest new k (j ∙ sym m.same)
  ];
  most = omega (arith, h.most, longer_by_one front o, longer_by_one rest new);
  fewer = λ k i p. elim (put_split front o k i) [
    | inl j ↦ omega (arith, h.fewer k j p, longer_by_one front o, longer_by_one rest new)
    | inr j ↦ absurd (n (subst (λ z. (anchor xs z).cluster ≡ c) j p))
  ];
}

rest_skip : (xs : List Anchor) (c : ℕ) (moved : List ℕ) (front rest : List Offer) (o : Offer) → (anchor xs o.outside).cluster ≡ c
    → IsRestOfOffers xs c moved front rest → IsRestOfOffers xs c moved (front ++ (o ∷ [])) rest
rest_skip xs c moved front rest o e h = record {
  offers = λ inside a. h.offers inside (all_front (λ p. IsOffer xs (λ j. IsOneOf j inside) p) front o a);
  sound = h.sound;
  whole = λ k i p. elim (put_split front o k i) [
    | inl j ↦ h.whole k j p
    | inr j ↦ absurd (p (subst (λ z. (anchor xs z).cluster ≡ c) (sym j) e))
  ];
  most = omega (arith, h.most, longer_by_one front o);
  fewer = λ k i p. omega (arith, h.most, longer_by_one front o);
}

pub rest_yes : (xs : List Anchor) (c : ℕ) (moved : List ℕ) (left rest : List Offer) (i : ℕ) (d : Offer) (a : Anchor) (new : Offer) → i < length left
    → a ≡ anchor xs (get_or left i d).outside → (a.cluster ≡ c → ⊥) → IsImproved xs moved (get_or left i d) new
    → IsRestOfOffers xs c moved (take i left) rest → IsRestOfOffers xs c moved (take (suc i) left) (rest ++ (new ∷ []))
rest_yes xs c moved left rest i d a new l e p m h = subst (λ z. IsRestOfOffers xs c moved z (rest ++ (new ∷ []))) (sym (take_more left i d l))
    (rest_put xs c moved (take i left) rest (get_or left i d) new (subst (λ (z : Anchor). z.cluster ≡ c → ⊥) e p) m h)

pub rest_no : (xs : List Anchor) (c : ℕ) (moved : List ℕ) (left rest : List Offer) (i : ℕ) (d : Offer) (a : Anchor) → i < length left
    → a ≡ anchor xs (get_or left i d).outside → a.cluster ≡ c
    → IsRestOfOffers xs c moved (take i left) rest → IsRestOfOffers xs c moved (take (suc i) left) rest
rest_no xs c moved left rest i d a l e p h = subst (λ z. IsRestOfOffers xs c moved z rest) (sym (take_more left i d l))
    (rest_skip xs c moved (take i left) rest (get_or left i d) (subst (λ (z : Anchor). z.cluster ≡ c) e p) h)

-- the anchors of the cluster come inside, and no others
joined_by : (xs : List Anchor) (c : ℕ) (left : List Offer) (moved inside : List ℕ) → IsEntering xs c left moved → IsRing xs inside left
    → IsJoinedBy xs c inside (inside ++ moved)
joined_by xs c left moved inside e r = record {
  old = λ k i. one_front k inside moved i;
  new = λ k i. elim (one_split k inside moved i) [
    | inl j ↦ inl j
    | inr j ↦ let t : (k < length xs) × ((anchor xs k).cluster ≡ c) = one_all (λ m. (m < length xs) × ((anchor xs m).cluster ≡ c)) moved k e.these j in inr t.1
  ];
  whole = λ k l p. elim (is_one k inside) [
    | inl j ↦ one_front k inside moved j
    | inr n ↦ one_back k inside moved (e.whole k (r.whole k l n) p)
  ];
}

ring_by : (xs : List Anchor) (c : ℕ) (left rest : List Offer) (moved inside : List ℕ) → IsEntering xs c left moved → IsRestOfOffers xs c moved left rest
    → IsRing xs inside left → IsRing xs (inside ++ moved) rest
ring_by xs c left rest moved inside e t r = record {
  sound = t.sound;
  offers = all_map (λ o. IsOffer xs (λ j. IsOneOf j inside ⊎ IsOneOf j moved) o) (λ o. IsOffer xs (λ j. IsOneOf j (inside ++ moved)) o) rest
      (λ o h. offer_wider xs (λ j. IsOneOf j inside ⊎ IsOneOf j moved) (λ j. IsOneOf j (inside ++ moved)) o
      (λ j i. elim i [ inl p ↦ one_front j inside moved p | inr p ↦ one_back j inside moved p ])
      (λ j i. one_split j inside moved i) h)
      (t.offers inside r.offers);
  whole = λ k l n. let w : IsOneOf k (offer_numbers left) = r.whole k l (λ i. n (one_front k inside moved i)) in
      t.whole k w (λ p. n (one_back k inside moved (e.whole k w p)));
}

pub absorbed_by : (xs : List Anchor) (c : ℕ) (left rest : List Offer) (moved : List ℕ) → IsEntering xs c left moved → IsRestOfOffers xs c moved left rest
    → IsAbsorbed xs c left rest
absorbed_by xs c left rest moved e t = record {
  ring = λ inside r. (inside ++ moved, joined_by xs c left moved inside e r, ring_by xs c left rest moved inside e t r);
  fewer = t.fewer;
}

-- offers to anchor 0 alone
pub record IsStarted (xs : List Anchor) (left : List Offer) (k : ℕ) : Type 0 where
  pub sound : All (λ o. IsSoundOffer xs o) left
  pub offers : All (λ o. IsOffer xs (λ j. IsOneOf j (0 ∷ [])) o) left
  pub whole : (j : ℕ) → j < k → (IsOneOf j (0 ∷ []) → ⊥) → IsOneOf j (offer_numbers left)

abbrev to_first : ℕ → ℕ → Offer
to_first k d = record { outside = k; best = record { first = 0; second = k }; length = d }

first_touch : (xs : List Anchor) (k : ℕ) (f : Pair) → 0 < k → GoesInto xs (λ j. IsOneOf j (0 ∷ [])) k f → f ≡ record { first = 0; second = k }
unfolding IsOneOf
first_touch xs k f l t = elim t.ends [
  | inl h ↦ elim h.1 [ inl e ↦ absurd (none f.first f.second e t.is.rising) | inr n ↦ absurd n ]
  | inr h ↦ elim h.1 [ inl e ↦ pair_same f (record { first = 0; second = k }) e h.0 | inr n ↦ absurd n ]
]
  where
    none : (a b : ℕ) → b ≡ 0 → a < b → ⊥
    none a b e l = omega (arith, e, l)

first_offer : (xs : List Anchor) (k d : ℕ) → 0 < k → k < length xs → IsOffer xs (λ j. IsOneOf j (0 ∷ [])) (to_first k d)
unfolding IsOneOf
first_offer xs k d l m = record {
  out = λ i. elim i [ inl e ↦ positive k e l | inr n ↦ n ];
  touches = record { is = record { rising = l; there = m }; ends = inr (refl, inl refl) };
  least = λ f t s. less_irr xs (record { first = 0; second = k }) (subst (λ z. HasLesserKey xs z (record { first = 0; second = k })) (first_touch xs k f l t) s);
}
  where
    positive : (k : ℕ) → k ≡ 0 → 0 < k → ⊥
    positive k e l = omega (arith, e, l)

started_whole : (xs : List Anchor) (left : List Offer) (k d j : ℕ) → IsStarted xs left k → j < suc k → (IsOneOf j (0 ∷ []) → ⊥)
    → IsOneOf j (offer_numbers (left ++ (to_first k d ∷ [])))
started_whole xs left k d j s l n = elim (last_one j k l) [
  | inl m ↦ put_front left (to_first k d) j (s.whole j m n)
  | inr e ↦ put_last left (to_first k d) j e
]
  where
    last_one : (a b : ℕ) → a < suc b → (a < b) ⊎ (a ≡ b)
    last_one a b l = grind (arith, l)

pub started_none : (xs : List Anchor) (left : List Offer) → left ≡ [] → IsStarted xs left 1
unfolding IsOneOf
started_none xs left e = subst (λ z. IsStarted xs z 1) (sym e) (record {
  sound = all_none (λ o. IsSoundOffer xs o);
  offers = all_none (λ o. IsOffer xs (λ j. (j ≡ 0) ⊎ ⊥) o);
  whole = λ j l n. absurd (n (inl (only j l)));
})
  where
    only : (j : ℕ) → j < 1 → j ≡ 0
    only j l = omega (arith, l)

pub started_more : (xs : List Anchor) (left : List Offer) (k d : ℕ) → 0 < k → k < length xs → pos d ≡ dist_sq xs (record { first = 0; second = k })
    → IsStarted xs left k → IsStarted xs (left ++ (to_first k d ∷ [])) (suc k)
started_more xs left k d l m e s = record {
  sound = all_push (λ o. IsSoundOffer xs o) left (to_first k d) s.sound (record { there = m; is = record { rising = l; there = m }; measured = e });
  offers = all_push (λ o. IsOffer xs (λ j. IsOneOf j (0 ∷ [])) o) left (to_first k d) s.offers (first_offer xs k d l m);
  whole = λ j p n. started_whole xs left k d j s p n;
}

pub started_all : (xs : List Anchor) (left : List Offer) (k : ℕ) → length xs ≤ k → IsStarted xs left k → IsRing xs (0 ∷ []) left
started_all xs left k l s = record { sound = s.sound; offers = s.offers; whole = λ j m n. s.whole j (omega (arith, l, m)) n }

-- the nearest of those seen so far
pub record IsNearestOf (xs : List Anchor) (left : List Offer) (i : ℕ) (o : Offer) : Type 0 where
  pub found : ℕ
  pub there : found < length left
  pub is : (d : Offer) → get_or left found d ≡ o
  pub least : (k : ℕ) (d : Offer) → k < i → HasLesserKey xs (get_or left k d).best o.best → ⊥

none_seen : (k : ℕ) → k < 0 → ⊥
none_seen k l = omega (arith, l)

pub nearest_none : (xs : List Anchor) (left : List Offer) (d : Offer) → 0 < length left → IsNearestOf xs left 0 (get_or left 0 d)
nearest_none xs left d l = record { found = 0; there = l; is = λ e. get_or_default left 0 e d l; least = λ k e m s. none_seen k m }

seen_more : (k i : ℕ) → k < suc i → (k < i) ⊎ (k ≡ i)
seen_more k i l = grind (arith, l)

same_place : (left : List Offer) (k i : ℕ) (d e : Offer) → k ≡ i → i < length left → get_or left k d ≡ get_or left i e
same_place left k i d e p l = subst (λ z. get_or left z d ≡ get_or left i e) (sym p) (get_or_default left i d e l)

pub nearest_yes : (xs : List Anchor) (left : List Offer) (i : ℕ) (d best : Offer) → i < length left
    → HasLesserKey xs (get_or left i d).best best.best → IsNearestOf xs left i best → IsNearestOf xs left (suc i) (get_or left i d)
nearest_yes xs left i d best l s h = record {
  found = i;
  there = l;
  is = λ e. get_or_default left i e d l;
  least = λ k e m t. elim (seen_more k i m) [
    | inl n ↦ h.least k e n (less_trans xs (get_or left k e).best (get_or left i d).best best.best t s)
    | inr p ↦ less_irr xs (get_or left i d).best (subst (λ (z : Offer). HasLesserKey xs z.best (get_or left i d).best) (same_place left k i e d p l) t)
  ];
}

pub nearest_no : (xs : List Anchor) (left : List Offer) (i : ℕ) (d best : Offer) → i < length left
    → (HasLesserKey xs (get_or left i d).best best.best → ⊥) → IsNearestOf xs left i best → IsNearestOf xs left (suc i) best
nearest_no xs left i d best l n h = record {
  found = h.found;
  there = h.there;
  is = h.is;
  least = λ k e m t. elim (seen_more k i m) [
    | inl o ↦ h.least k e o t
    | inr p ↦ n (subst (λ (z : Offer). HasLesserKey xs z.best best.best) (same_place left k i e d p l) t)
  ];
}

pub nearest_all : (xs : List Anchor) (left : List Offer) (i : ℕ) (o : Offer) → length left ≤ i → IsNearestOf xs left i o → IsNearest xs left o
nearest_all xs left i o l h = record { at = h.found; there = h.there; is = h.is; least = λ k d m. h.least k d (omega (arith, l, m)) }

pub sound_found : (xs : List Anchor) (left : List Offer) (i : ℕ) (o : Offer) → All (λ p. IsSoundOffer xs p) left → IsNearestOf xs left i o → IsSoundOffer xs o
sound_found xs left i o s n = subst (IsSoundOffer xs) (n.is o) (s n.found o n.there)

pub sound_seen : (xs : List Anchor) (left : List Offer) (i : ℕ) (d : Offer) → All (λ p. IsSoundOffer xs p) left → i < length left
    → pos (get_or left i d).length ≡ dist_sq xs (get_or left i d).best
sound_seen xs left i d s l = let h : IsSoundOffer xs (get_or left i d) = s i d l in h.measured

pub sound_best : (xs : List Anchor) (left : List Offer) (i : ℕ) (o : Offer) → All (λ p. IsSoundOffer xs p) left → IsNearestOf xs left i o
    → pos o.length ≡ dist_sq xs o.best
sound_best xs left i o s n = let h : IsSoundOffer xs o = sound_found xs left i o s n in h.measured
