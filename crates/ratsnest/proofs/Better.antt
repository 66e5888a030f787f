-- Offers get better as more anchors come inside.
use Rattle.std.proofs.Common.{◌≡◌, refl, sym, subst, ap, ◌∙◌, ℕ, zero, suc, ◌<◌, List, [], ◌∷◌, ◌++◌, ◌⊎◌, inl, inr, arith, length, get_or, take}
use Rattle.classes.specs.Classes.{IsOneOf}
use Rattle.ratsnest.specs.declared.Anchor.{Anchor}
use Rattle.ratsnest.specs.declared.Pair.{Pair}
use Rattle.ratsnest.specs.declared.offers.Offer.{Offer}
use Rattle.ratsnest.specs.Ratsnest.{IsPair, HasLesserKey}
use Rattle.ratsnest.specs.Inner.Best.{IsBetween, GoesInto, IsOffer, IsSoundOffer, MayMeet, IsBetter, IsImproved}
use Rattle.ratsnest.proofs.Order.{less_irr, less_trans, pair_same}

pub between_pair : (xs : List Anchor) (e : Pair) (i j : ℕ) → i < length xs → j < length xs → IsBetween e i j → IsPair xs e
between_pair xs e i j l k b = record { rising = b.rising; there = elim b.ends [ inl h ↦ omega (arith, h.1, k) | inr h ↦ omega (arith, h.1, l) ] }

-- there is one pair of two anchors
between_one : (e f : Pair) (i j : ℕ) → IsBetween e i j → IsBetween f i j → e ≡ f
between_one e f i j b c = elim b.ends [
  | inl h ↦ elim c.ends [
    | inl k ↦ pair_same e f (h.0 ∙ sym k.0) (h.1 ∙ sym k.1)
    | inr k ↦ absurd (crossed e f i j h.0 h.1 k.0 k.1 b.rising c.rising)
  ]
  | inr h ↦ elim c.ends [
    | inl k ↦ absurd (crossed f e i j k.0 k.1 h.0 h.1 c.rising b.rising)
    | inr k ↦ pair_same e f (h.0 ∙ sym k.0) (h.1 ∙ sym k.1)
  ]
]
  where
    crossed : (a b : Pair) (i j : ℕ) → a.first ≡ i → a.second ≡ j → b.first ≡ j → b.second ≡ i → a.first < a.second → b.first < b.second → ⊥
    crossed a b i j p q r s l k = omega (arith, p, q, r, s, l, k)

-- with m inside too, only one pair is new
touches_more : (xs : List Anchor) (D : ℕ → Type 0) (k m : ℕ) (f : Pair) → GoesInto xs (λ j. D j ⊎ (j ≡ m)) k f → GoesInto xs D k f ⊎ IsBetween f m k
touches_more xs D k m f t = elim t.ends [
  | inl h ↦ elim h.1 [
    | inl d ↦ inl (record { is = t.is; ends = inl (h.0, d) })
    | inr e ↦ inr (record { rising = t.is.rising; ends = inr (h.0, e) })
  ]
  | inr h ↦ elim h.1 [
    | inl d ↦ inl (record { is = t.is; ends = inr (h.0, d) })
    | inr e ↦ inr (record { rising = t.is.rising; ends = inl (e, h.0) })
  ]
]

touches_wider : (xs : List Anchor) (D E : ℕ → Type 0) (k : ℕ) (f : Pair) → ((j : ℕ) → D j → E j) → GoesInto xs D k f → GoesInto xs E k f
touches_wider xs D E k f w t = record {
  is = t.is;
  ends = elim t.ends [ inl h ↦ inl (h.0, w f.second h.1) | inr h ↦ inr (h.0, w f.first h.1) ];
}

between_touches : (xs : List Anchor) (D : ℕ → Type 0) (k m : ℕ) (f : Pair) → IsPair xs f → IsBetween f m k → D m → GoesInto xs D k f
between_touches xs D k m f p b d = record {
  is = p;
  ends = elim b.ends [ inl h ↦ inr (h.1, subst D (sym h.0) d) | inr h ↦ inl (h.0, subst D (sym h.1) d) ];
}

pub offer_better : (xs : List Anchor) (D : ℕ → Type 0) (m : ℕ) (o new : Offer) → IsSoundOffer xs o → MayMeet xs o.outside m
    → IsBetter xs m o new → IsOffer xs D o → IsOffer xs (λ j. D j ⊎ (j ≡ m)) new
offer_better xs D m o new s t b h = elim b.chosen [
  | inl k ↦ record {
    out = λ d. elim d [ inl i ↦ h.out (subst D b.same i) | inr e ↦ t.other (sym e ∙ b.same) ];
    touches = subst (λ z. GoesInto xs (λ j. D j ⊎ (j ≡ m)) z new.best) (sym b.same)
        (subst (λ z. GoesInto xs (λ j. D j ⊎ (j ≡ m)) o.outside z) (sym k.0)
        (touches_wider xs D (λ j. D j ⊎ (j ≡ m)) o.outside o.best (λ j d. inl d) h.touches));
    least = λ f g l. elim (touches_more xs D o.outside m f (subst (λ z. GoesInto xs (λ j. D j ⊎ (j ≡ m)) z f) b.same g)) [
      | inl u ↦ h.least f u (subst (λ z. HasLesserKey xs f z) k.0 l)
      | inr u ↦ k.1 (subst (λ z. HasLesserKey xs z o.best) (between_one f b.pair m o.outside u b.between) (subst (λ z. HasLesserKey xs f z) k.0 l))
    ];
  }
  | inr k ↦ record {
    out = λ d. elim d [ inl i ↦ h.out (subst D b.same i) | inr e ↦ t.other (sym e ∙ b.same) ];
    touches = subst (λ z. GoesInto xs (λ j. D j ⊎ (j ≡ m)) z new.best) (sym b.same)
        (subst (λ z. GoesInto xs (λ j. D j ⊎ (j ≡ m)) o.outside z) (sym k.0)
        (between_touches xs (λ j. D j ⊎ (j ≡ m)) o.outside m b.pair (between_pair xs b.pair m o.outside t.there s.there b.between) b.between (inr refl)));
    least = λ f g l. elim (touches_more xs D o.outside m f (subst (λ z. GoesInto xs (λ j. D j ⊎ (j ≡ m)) z f) b.same g)) [
      | inl u ↦ h.least f u (less_trans xs f b.pair o.best (subst (λ z. HasLesserKey xs f z) k.0 l) k.1)
      | inr u ↦ less_irr xs b.pair (subst (λ z. HasLesserKey xs z b.pair) (between_one f b.pair m o.outside u b.between) (subst (λ z. HasLesserKey xs f z) k.0 l))
    ];
  }
]

pub better_sound : (xs : List Anchor) (m : ℕ) (o new : Offer) → IsSoundOffer xs o → MayMeet xs o.outside m → IsBetter xs m o new → IsSoundOffer xs new
better_sound xs m o new s t b = record {
  measured = b.measured;
  there = subst (λ z. z < length xs) (sym b.same) s.there;
  is = elim b.chosen [
    | inl k ↦ subst (IsPair xs) (sym k.0) s.is
    | inr k ↦ subst (IsPair xs) (sym k.0) (between_pair xs b.pair m o.outside t.there s.there b.between)
  ];
}

pub offer_wider : (xs : List Anchor) (D E : ℕ → Type 0) (o : Offer) → ((j : ℕ) → D j → E j) → ((j : ℕ) → E j → D j) → IsOffer xs D o → IsOffer xs E o
offer_wider xs D E o w v h = record {
  out = λ e. h.out (v o.outside e);
  touches = touches_wider xs D E o.outside o.best w h.touches;
  least = λ f t l. h.least f (touches_wider xs E D o.outside f v t) l;
}

-- one more at the end of a list
pub one_front : (x : ℕ) (xs ys : List ℕ) → IsOneOf x xs → IsOneOf x (xs ++ ys)
unfolding IsOneOf
one_front x [] ys i = absurd i
one_front x (z ∷ xs) ys (inl e) = inl e
one_front x (z ∷ xs) ys (inr i) = inr (one_front x xs ys i)

pub one_back : (x : ℕ) (xs ys : List ℕ) → IsOneOf x ys → IsOneOf x (xs ++ ys)
unfolding IsOneOf
one_back x [] ys i = i
one_back x (z ∷ xs) ys i = inr (one_back x xs ys i)

pub one_split : (x : ℕ) (xs ys : List ℕ) → IsOneOf x (xs ++ ys) → IsOneOf x xs ⊎ IsOneOf x ys
unfolding IsOneOf
one_split x [] ys i = inr i
one_split x (z ∷ xs) ys (inl e) = inl (inl e)
one_split x (z ∷ xs) ys (inr i) = elim (one_split x xs ys i) [ inl j ↦ inl (inr j) | inr j ↦ inr j ]

pub no_place : (A : Type 0) (i : ℕ) → i < length {A = A} [] → ⊥
no_place A i l = omega (arith, l)

pub take_more : {A : Type 0} (xs : List A) (i : ℕ) (d : A) → i < length xs → take (suc i) xs ≡ take i xs ++ (get_or xs i d ∷ [])
take_more {A = A} [] i d l = absurd (no_place A i l)
take_more (x ∷ xs) zero d l = refl
take_more (x ∷ xs) (suc i) d l = ap (λ z. x ∷ z) (take_more xs i d (omega (arith, l)))

pub improved_none : (xs : List Anchor) (o : Offer) → IsSoundOffer xs o → IsImproved xs [] o o
unfolding IsOneOf
improved_none xs o s = record {
  same = refl;
  sound = s;
  offer = λ inside h. offer_wider xs (λ j. IsOneOf j inside) (λ j. IsOneOf j inside ⊎ IsOneOf j []) o (λ j i. inl i) (λ j i. elim i [ inl k ↦ k | inr k ↦ absurd k ]) h;
}

improved_put : (xs : List Anchor) (front : List ℕ) (m : ℕ) (o mid new : Offer) → MayMeet xs o.outside m
    → IsImproved xs front o mid → IsBetter xs m mid new → IsImproved xs (front ++ (m ∷ [])) o new
unfolding IsOneOf
improved_put xs front m o mid new t h b = let u : MayMeet xs mid.outside m = subst (λ z. MayMeet xs z m) (sym h.same) t in record {
  same = b.same ∙ h.same;
  sound = better_sound xs m mid new h.sound u b;
  offer = λ inside k. offer_wider xs (λ j. (IsOneOf j inside ⊎ IsOneOf j front) ⊎ (j ≡ m)) (λ j. IsOneOf j inside ⊎ IsOneOf j (front ++ (m ∷ []))) new
      (λ j i. elim i [ inl p ↦ elim p [ inl q ↦ inl q | inr q ↦ inr (one_front j front (m ∷ []) q) ] | inr p ↦ inr (one_back j front (m ∷ []) (inl p)) ])
      (λ j i. elim i [ inl p ↦ inl (inl p) | inr p ↦ elim (one_split j front (m ∷ []) p) [ inl q ↦ inl (inr q) | inr q ↦ elim q [ inl r ↦ inr r | inr r ↦ absurd r ] ] ])
      (offer_better xs (λ j. IsOneOf j inside ⊎ IsOneOf j front) m mid new h.sound u b (h.offer inside k));
}

pub improved_more : (xs : List Anchor) (moved : List ℕ) (i : ℕ) (o mid new : Offer) → i < length moved → MayMeet xs o.outside (get_or moved i 0)
    → IsImproved xs (take i moved) o mid → IsBetter xs (get_or moved i 0) mid new → IsImproved xs (take (suc i) moved) o new
improved_more xs moved i o mid new l t h b = subst (λ z. IsImproved xs z o new) (sym (take_more moved i 0 l))
    (improved_put xs (take i moved) (get_or moved i 0) o mid new t h b)
