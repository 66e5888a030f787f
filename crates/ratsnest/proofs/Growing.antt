-- The nearest offer is the pair of least key that leaves the joined clusters.
use Rattle.std.proofs.Common.{◌≡◌, refl, sym, subst, ◌∙◌, ℕ, zero, suc, ◌<◌, List, [], ◌∷◌, ◌++◌, inl, inr, arith, length, get_or, append_assoc, append-nil, ap}
use Rattle.std.specs.Prelude.{◌==◌, Bool, false}
use Rattle.std.proofs.lemmas.Bool.{true≢false}
use Rattle.std.specs.List.{All}
use Rattle.classes.specs.Classes.{IsOneOf}
use Rattle.ratsnest.specs.declared.Anchor.{Anchor}
use Rattle.ratsnest.specs.declared.Pair.{Pair}
use Rattle.ratsnest.specs.declared.offers.Offer.{Offer}
use Rattle.ratsnest.specs.Ratsnest.{anchor, start, finish, AreEndsOf, HasLesserKey, IsLeaving, IsNextPair, IsCluster, IsGrown, IsTree}
use Rattle.ratsnest.specs.Inner.Best.{GoesInto, IsOffer, IsSoundOffer, offer_numbers, IsRing, IsJoinedBy, IsAbsorbed, IsNearest}
use Rattle.ratsnest.proofs.Order.{less_trans, less_cases, is_one}

-- an anchor is inside exactly where its cluster is one of the joined ones
pub record IsMatched (xs : List Anchor) (done inside : List ℕ) : Type 0 where
  pub joined : (k : ℕ) → IsOneOf k inside → IsOneOf (anchor xs k).cluster done
  pub inner : (k : ℕ) → k < length xs → IsOneOf (anchor xs k).cluster done → IsOneOf k inside

-- what the loop keeps, for the clusters that are joined and the anchors that are inside
pub record IsGrowing (xs : List Anchor) (es : List Pair) (left : List Offer) (done inside : List ℕ) : Type 0 where
  pub onward : (rest : List Pair) → IsGrown xs done rest → IsTree xs (es ++ rest)
  pub matched : IsMatched xs done inside
  pub ring : IsRing xs inside left

abbrev pub Growing : List Anchor → List Pair → List Offer → Type 0
Growing xs es left = (done : List ℕ) × (inside : List ℕ) × IsGrowing xs es left done inside

pub offers_at : (xs : List Anchor) (left : List Offer) (inside : List ℕ) (o : Offer) → IsRing xs inside left → IsNearest xs left o
    → IsOffer xs (λ j. IsOneOf j inside) o
offers_at xs left inside o r n = subst (IsOffer xs (λ j. IsOneOf j inside)) (n.is o) (r.offers n.at o n.there)

pub sound_at : (xs : List Anchor) (left : List Offer) (o : Offer) → All (λ p. IsSoundOffer xs p) left → IsNearest xs left o → IsSoundOffer xs o
sound_at xs left o s n = subst (IsSoundOffer xs) (n.is o) (s n.at o n.there)

-- the offer that an anchor outside has
find_offer : (P : Offer → Type 0) (left : List Offer) (k : ℕ) → IsOneOf k (offer_numbers left) → All P left → (p : Offer) × (p.outside ≡ k) × P p
unfolding IsOneOf
find_offer P [] k i h = absurd i
find_offer P (p ∷ left) k (inl e) h = (p, sym e, h 0 p (omega arith))
find_offer P (p ∷ left) k (inr i) h = find_offer P left k i (λ j d l. h (suc j) d (omega (arith, l)))

all_both : (P Q : Offer → Type 0) (left : List Offer) → All P left → All Q left → All (λ p. P p × Q p) left
all_both P Q left h g k d l = (h k d l, g k d l)

-- no pair from an anchor outside to one inside is less than the nearest
none_nearer : (xs : List Anchor) (left : List Offer) (inside : List ℕ) (o : Offer) (k : ℕ) (f : Pair) → IsRing xs inside left → IsNearest xs left o
    → IsOneOf k (offer_numbers left) → GoesInto xs (λ j. IsOneOf j inside) k f → HasLesserKey xs f o.best → ⊥
none_nearer xs left inside o k f r n i t l =
    let p : (p : Offer) × (p.outside ≡ k) × (IsOffer xs (λ j. IsOneOf j inside) p × (HasLesserKey xs p.best o.best → ⊥)) =
    find_offer (λ p. IsOffer xs (λ j. IsOneOf j inside) p × (HasLesserKey xs p.best o.best → ⊥)) left k i
    (all_both (λ p. IsOffer xs (λ j. IsOneOf j inside) p) (λ p. HasLesserKey xs p.best o.best → ⊥) left r.offers n.least) in
    beyond xs inside o k f t l p.0 p.1 p.2.0 p.2.1
  where
    beyond : (xs : List Anchor) (inside : List ℕ) (o : Offer) (k : ℕ) (f : Pair) → GoesInto xs (λ j. IsOneOf j inside) k f → HasLesserKey xs f o.best
        → (p : Offer) → p.outside ≡ k → IsOffer xs (λ j. IsOneOf j inside) p → (HasLesserKey xs p.best o.best → ⊥) → ⊥
    beyond xs inside o k f t l p e h g = elim (less_cases xs f p.best) [
      | inl m ↦ h.least f (subst (λ z. GoesInto xs (λ j. IsOneOf j inside) z f) (sym e) t) m
      | inr c ↦ elim c [
        | inl m ↦ g (subst (λ z. HasLesserKey xs z o.best) m l)
        | inr m ↦ g (less_trans xs p.best f o.best m l)
      ]
    ]

-- a pair that leaves goes from an anchor inside to one outside
leaving_touches : (xs : List Anchor) (done inside : List ℕ) (f : Pair) (v d : ℕ) → IsMatched xs done inside → IsLeaving xs done f v d
    → (k : ℕ) × (k < length xs) × (IsOneOf k inside → ⊥) × GoesInto xs (λ j. IsOneOf j inside) k f
unfolding AreEndsOf start finish
leaving_touches xs done inside f v d m l = elim l.ends [
  | inl e ↦ (
    f.second,
    l.is.there,
    (λ i. l.new (subst (λ z. IsOneOf z done) (sym e.1) (m.joined f.second i))),
    record { is = l.is; ends = inr (refl, m.inner f.first (below f.first f.second xs l.is.rising l.is.there) (subst (λ z. IsOneOf z done) e.0 l.from)) },
  )
  | inr e ↦ (
    f.first,
    below f.first f.second xs l.is.rising l.is.there,
    (λ i. l.new (subst (λ z. IsOneOf z done) (sym e.1) (m.joined f.first i))),
    record { is = l.is; ends = inl (refl, m.inner f.second l.is.there (subst (λ z. IsOneOf z done) e.0 l.from)) },
  )
]
  where
    below : (a b : ℕ) (xs : List Anchor) → a < b → b < length xs → a < length xs
    below a b xs l m = omega (arith, l, m)

nearest_leaves : (xs : List Anchor) (done inside : List ℕ) (o : Offer) → IsMatched xs done inside → IsSoundOffer xs o
    → IsOffer xs (λ j. IsOneOf j inside) o → (u : ℕ) × IsLeaving xs done o.best u (anchor xs o.outside).cluster
unfolding AreEndsOf start finish
nearest_leaves xs done inside o m s h = elim h.touches.ends [
  | inl e ↦ (
    (anchor xs o.best.second).cluster,
    record {
      is = h.touches.is;
      ends = inr (refl, ap (λ z. (anchor xs z).cluster) (sym e.0));
      from = m.joined o.best.second e.1;
      new = λ i. h.out (m.inner o.outside s.there i);
    },
  )
  | inr e ↦ (
    (anchor xs o.best.first).cluster,
    record {
      is = h.touches.is;
      ends = inl (refl, ap (λ z. (anchor xs z).cluster) (sym e.0));
      from = m.joined o.best.first e.1;
      new = λ i. h.out (m.inner o.outside s.there i);
    },
  )
]

nearest_least : (xs : List Anchor) (left : List Offer) (done inside : List ℕ) (o : Offer) → IsMatched xs done inside → IsRing xs inside left
    → IsNearest xs left o → (f : Pair) (v d : ℕ) → IsLeaving xs done f v d → HasLesserKey xs f o.best → ⊥
nearest_least xs left done inside o m r n f v d l s =
    let t : (k : ℕ) × (k < length xs) × (IsOneOf k inside → ⊥) × GoesInto xs (λ j. IsOneOf j inside) k f = leaving_touches xs done inside f v d m l in
    none_nearer xs left inside o t.0 f r n (r.whole t.0 t.1 t.2) t.3 s

nearest_next : (xs : List Anchor) (left : List Offer) (done inside : List ℕ) (o : Offer) → IsMatched xs done inside → IsRing xs inside left
    → IsNearest xs left o → (u : ℕ) × IsNextPair xs done o.best u (anchor xs o.outside).cluster
nearest_next xs left done inside o m r n =
    let t : (u : ℕ) × IsLeaving xs done o.best u (anchor xs o.outside).cluster =
    nearest_leaves xs done inside o m (sound_at xs left o r.sound n) (offers_at xs left inside o r n) in
    (t.0, record { leaving = t.1; least = nearest_least xs left done inside o m r n })

-- once the cluster is absorbed, the anchors inside are those of one cluster more
matched_more : (xs : List Anchor) (done inside more : List ℕ) (c : ℕ) → IsMatched xs done inside → IsJoinedBy xs c inside more → IsMatched xs (c ∷ done) more
unfolding IsOneOf
matched_more xs done inside more c m j = record {
  joined = λ k i. elim (j.new k i) [ inl o ↦ inr (m.joined k o) | inr e ↦ inl e ];
  inner = λ k l i. elim i [ inl e ↦ j.whole k l e | inr o ↦ j.old k (m.inner k l o) ];
}

growing_step : (xs : List Anchor) (es : List Pair) (done : List ℕ) (e : Pair) (u c : ℕ) → ((rest : List Pair) → IsGrown xs done rest → IsTree xs (es ++ rest))
    → IsNextPair xs done e u c → (rest : List Pair) → IsGrown xs (c ∷ done) rest → IsTree xs ((es ++ (e ∷ [])) ++ rest)
unfolding IsGrown
growing_step xs es done e u c w n rest g = subst (IsTree xs) (sym (append_assoc es (e ∷ []) rest)) (w (e ∷ rest) (u, c, n, g))

pub growing_more : (xs : List Anchor) (es : List Pair) (left rest : List Offer) (o : Offer) (c : ℕ) → IsNearest xs left o → c ≡ (anchor xs o.outside).cluster
    → IsAbsorbed xs c left rest → Growing xs es left → Growing xs (es ++ (o.best ∷ [])) rest
growing_more xs es left rest o c n e a (done, inside, h) =
    let t : (u : ℕ) × IsNextPair xs done o.best u (anchor xs o.outside).cluster = nearest_next xs left done inside o h.matched h.ring n in
    let b : (more : List ℕ) × IsJoinedBy xs c inside more × IsRing xs more rest = a.ring inside h.ring in (
      c ∷ done,
      b.0,
      record {
        onward = growing_step xs es done o.best t.0 c h.onward (subst (λ z. IsNextPair xs done o.best t.0 z) (sym e) t.1);
        matched = matched_more xs done inside b.0 c h.matched b.1;
        ring = b.2;
      },
    )

-- the cluster of anchor 0 comes first
begin_tree : (xs : List Anchor) → 0 < length xs → (rest : List Pair) → IsGrown xs ((anchor xs 0).cluster ∷ []) rest → IsTree xs rest
unfolding IsTree
begin_tree [] l rest g = absurd (none_there l)
  where
    none_there : 0 < length {A = Anchor} [] → ⊥
    none_there l = omega (arith, l)
begin_tree (a ∷ xs) l rest g = g

first_matched : (xs : List Anchor) (c : ℕ) (more : List ℕ) → c ≡ (anchor xs 0).cluster → IsJoinedBy xs c (0 ∷ []) more → IsMatched xs (c ∷ []) more
unfolding IsOneOf
first_matched xs c more e j = record {
  joined = λ k i. elim (j.new k i) [
    | inl o ↦ elim o [ inl p ↦ inl (ap (λ z. (anchor xs z).cluster) p ∙ sym e) | inr n ↦ absurd n ]
    | inr p ↦ inl p
  ];
  inner = λ k l i. elim i [ inl p ↦ j.whole k l p | inr n ↦ absurd n ];
}

pub growing_first : (xs : List Anchor) (es : List Pair) (begin left : List Offer) (c : ℕ) → 0 < length xs → es ≡ [] → c ≡ (anchor xs 0).cluster
    → IsRing xs (0 ∷ []) begin → IsAbsorbed xs c begin left → Growing xs es left
growing_first xs es begin left c l p e r a =
    let b : (more : List ℕ) × IsJoinedBy xs c (0 ∷ []) more × IsRing xs more left = a.ring (0 ∷ []) r in (
      c ∷ [],
      b.0,
      record {
        onward = λ rest g. subst (λ z. IsTree xs (z ++ rest)) (sym p) (begin_tree xs l rest (subst (λ z. IsGrown xs (z ∷ []) rest) e g));
        matched = first_matched xs c b.0 e b.1;
        ring = b.2;
      },
    )

-- where no anchor is outside, all clusters are joined
none_left : (xs : List Anchor) (done inside : List ℕ) (left : List Offer) → left ≡ [] → IsMatched xs done inside → IsRing xs inside left
    → (c : ℕ) → IsCluster xs c → IsOneOf c done
unfolding IsOneOf
none_left xs done inside left e m r c i = elim (is_one i.number inside) [
  | inl o ↦ subst (λ z. IsOneOf z done) i.is (m.joined i.number o)
  | inr n ↦ absurd (subst (λ z. IsOneOf i.number (offer_numbers z)) e (r.whole i.number i.there n))
]

pub growing_end : (xs : List Anchor) (es : List Pair) (left : List Offer) → left ≡ [] → Growing xs es left → IsTree xs es
unfolding IsGrown
growing_end xs es left e (done, inside, h) = subst (IsTree xs) (append-nil es) (h.onward [] (none_left xs done inside left e h.matched h.ring))

pub none_of : {A : Type 0} (xs : List A) → length xs ≡ 0 → xs ≡ []
none_of [] e = refl
none_of (x ∷ xs) e = absurd (some x xs e)
  where
    some : {A : Type 0} (x : A) (xs : List A) → length (x ∷ xs) ≡ 0 → ⊥
    some x xs e = omega (arith, e)

pub growing_sound : (xs : List Anchor) (es : List Pair) (left : List Offer) → Growing xs es left → All (λ o. IsSoundOffer xs o) left
growing_sound xs es left (done, inside, h) = h.ring.sound

-- the nearest one is among the numbers
pub nearest_number : (left : List Offer) (i : ℕ) (o : Offer) → i < length left → ((d : Offer) → get_or left i d ≡ o) → IsOneOf o.outside (offer_numbers left)
unfolding IsOneOf
nearest_number [] i o l e = absurd (none i l)
  where
    none : (i : ℕ) → i < length {A = Offer} [] → ⊥
    none i l = omega (arith, l)
nearest_number (p ∷ left) zero o l e = inl (ap (λ z. z.outside) (sym (e o)))
nearest_number (p ∷ left) (suc i) o l e = inr (nearest_number left i o (omega (arith, l)) e)

pub growing_falls : (xs : List Anchor) (left rest : List Offer) (o : Offer) (c : ℕ) → IsNearest xs left o → c ≡ (anchor xs o.outside).cluster
    → IsAbsorbed xs c left rest → length rest < length left
growing_falls xs left rest o c n e a = a.fewer o.outside (nearest_number left n.at o n.there n.is) (sym e)

-- of no anchor there is the empty tree
some_there : (a : Anchor) (xs : List Anchor) → length (a ∷ xs) ≡ 0 → ⊥
some_there a xs l = omega (arith, l)

pub empty_tree : (xs : List Anchor) (es : List Pair) → length xs ≡ 0 → es ≡ [] → IsTree xs es
unfolding IsTree
empty_tree [] es l e = e
empty_tree (a ∷ xs) es l e = absurd (some_there a xs l)

pub some_one : (n : ℕ) (b : Bool) → b ≡ (n == 0) → b ≡ false → 0 < n
some_one zero b e f = absurd (true≢false (sym e ∙ f))
some_one (suc n) b e f = omega arith
