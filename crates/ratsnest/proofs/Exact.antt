-- What grows by least pairs is exactly the ratsnest.
use Rattle.std.proofs.Common.{◌≡◌, refl, sym, subst, ℕ, List, [], ◌∷◌, ◌⊎◌, inl, inr, arith}
use Rattle.classes.specs.Classes.{IsOneOf}
use Rattle.classes.proofs.Reaching.{reaches_self, reaches_link, reaches_then, reaches_back, reaches_keeps, reaches_map}
use Rattle.ratsnest.specs.declared.Anchor.{Anchor}
use Rattle.ratsnest.specs.declared.Pair.{Pair}
use Rattle.ratsnest.specs.Ratsnest.{start, finish, IsPair, HasLesserKey, AreEndsOf, IsLinkedBy, AreJoinedBy, InRatsnest, IsLeaving, IsNextPair, IsCluster, IsGrown}
use Rattle.ratsnest.proofs.Order.{less_irr, less_trans, less_cases, is_one, is_pair_of}
use Rattle.ratsnest.proofs.Count.{IsEquiv, under_ends}

ends_back : (xs : List Anchor) (e : Pair) (c d : ℕ) → AreEndsOf xs e c d → AreEndsOf xs e d c
unfolding AreEndsOf
ends_back xs e c d (inl (p, q)) = inr (q, p)
ends_back xs e c d (inr (p, q)) = inl (q, p)

link_back : (xs : List Anchor) (P : Pair → Type 0) (c d : ℕ) → IsLinkedBy xs P c d → IsLinkedBy xs P d c
link_back xs P c d l = record { by = l.by; is = l.is; one = l.one; ends = ends_back xs l.by c d l.ends }

pub joined_equiv : (xs : List Anchor) (P : Pair → Type 0) → IsEquiv (AreJoinedBy xs P)
joined_equiv xs P = record {
  re = λ x. reaches_self (IsLinkedBy xs P) x;
  back = λ x y h. reaches_back (IsLinkedBy xs P) (link_back xs P) x y h;
  tr = λ x y z h k. reaches_then (IsLinkedBy xs P) x y z h k;
}

-- from any two ends back to the start and the finish
from_ends : (xs : List Anchor) (P : Pair → Type 0) (e : Pair) (c d : ℕ) → AreEndsOf xs e c d
    → AreJoinedBy xs P c d → AreJoinedBy xs P (start xs e) (finish xs e)
unfolding AreEndsOf
from_ends xs P e c d (inl (p, q)) h = subst (λ x. AreJoinedBy xs P x (finish xs e)) p (subst (λ x. AreJoinedBy xs P c x) q h)
from_ends xs P e c d (inr (p, q)) h = let q2 : IsEquiv (AreJoinedBy xs P) = joined_equiv xs P in
    q2.back (finish xs e) (start xs e) (subst (λ x. AreJoinedBy xs P x (start xs e)) p (subst (λ x. AreJoinedBy xs P c x) q h))

-- pairs of lesser key stay within
stays : (xs : List Anchor) (done : List ℕ) (e : Pair) (u c : ℕ) → IsNextPair xs done e u c
    → (x y : ℕ) → IsLinkedBy xs (λ f. HasLesserKey xs f e) x y → IsOneOf x done → IsOneOf y done
stays xs done e u c n x y l i = elim (is_one y done) [
  | inl j ↦ j
  | inr o ↦ absurd (n.least l.by x y (record { is = l.is; ends = l.ends; from = i; new = o }) l.one)
]

next_apart : (xs : List Anchor) (done : List ℕ) (e : Pair) (u c : ℕ) → IsNextPair xs done e u c
    → AreJoinedBy xs (λ f. HasLesserKey xs f e) u c → ⊥
next_apart xs done e u c n j = n.leaving.new
    (reaches_keeps (IsLinkedBy xs (λ f. HasLesserKey xs f e)) (λ x. IsOneOf x done) (stays xs done e u c n) u c j n.leaving.from)

-- the least pair that leaves is in the ratsnest
pub cut : (xs : List Anchor) (done : List ℕ) (e : Pair) (u c : ℕ) → IsNextPair xs done e u c → InRatsnest xs e
cut xs done e u c n = let q : IsEquiv (AreJoinedBy xs (λ f. HasLesserKey xs f e)) = joined_equiv xs (λ f. HasLesserKey xs f e) in
    let far : AreJoinedBy xs (λ f. HasLesserKey xs f e) (start xs e) (finish xs e) → ⊥ =
    (λ h. next_apart xs done e u c n (under_ends xs (AreJoinedBy xs (λ f. HasLesserKey xs f e)) q e u c n.leaving.ends h)) in
    record {
      is = n.leaving.is;
      differ = λ s. far (subst (λ x. AreJoinedBy xs (λ f. HasLesserKey xs f e) (start xs e) x) s (q.re (start xs e)));
      apart = far;
    }

pub grown_cut : (xs : List Anchor) (done : List ℕ) (es : List Pair) → IsGrown xs done es → (e : Pair) → IsOneOf e es → InRatsnest xs e
unfolding IsGrown IsOneOf
grown_cut xs done [] g e i = absurd i
grown_cut xs done (f ∷ es) (u, c, n, g) e (inl p) = subst (InRatsnest xs) (sym p) (cut xs done f u c n)
grown_cut xs done (f ∷ es) (u, c, n, g) e (inr i) = grown_cut xs (c ∷ done) es g e i

pub start_in : (xs : List Anchor) (e : Pair) → IsPair xs e → IsCluster xs (start xs e)
unfolding start
start_in xs e h = record { number = e.first; there = omega (arith, h.rising, h.there); is = refl }

pub finish_in : (xs : List Anchor) (e : Pair) → IsPair xs e → IsCluster xs (finish xs e)
unfolding finish
finish_in xs e h = record { number = e.second; there = h.there; is = refl }

-- the short pairs S of the tree T join the live ones, and short pairs leave from these alone
module _ (xs : List Anchor) (T S : Pair → Type 0) (down : (e f : Pair) → HasLesserKey xs e f → S f → S e)
    (tell : (e : Pair) → S e ⊎ (S e → ⊥)) where
  record IsHeld (done live : List ℕ) : Type 0 where
    pub joined : (x y : ℕ) → IsOneOf x live → IsOneOf y live → AreJoinedBy xs (λ e. T e × S e) x y
    pub old : (f : Pair) (v d : ℕ) → IsLeaving xs done f v d → S f → IsOneOf v live
    pub inner : (f : Pair) (v d : ℕ) → IsPair xs f → AreEndsOf xs f v d → S f → IsOneOf v done → IsOneOf d done
        → AreJoinedBy xs (λ e. T e × S e) v d

  J : ℕ → ℕ → Type 0
  J x y = AreJoinedBy xs (λ e. T e × S e) x y

  -- where the next pair isn't short, none leaves
  pub none_short : (done : List ℕ) (e : Pair) (u c : ℕ) → IsNextPair xs done e u c → (S e → ⊥)
      → (f : Pair) (v d : ℕ) → IsLeaving xs done f v d → S f → ⊥
  none_short done e u c n not_s f v d l s = elim (less_cases xs e f) [
    | inl k ↦ not_s (down e f k s)
    | inr o ↦ elim o [ inl p ↦ not_s (subst S (sym p) s) | inr k ↦ n.least f v d l k ]
  ]

  held_long : (done live : List ℕ) (e : Pair) (u c : ℕ) → IsNextPair xs done e u c → (S e → ⊥)
      → IsHeld done live → IsHeld (c ∷ done) (c ∷ [])
  unfolding IsOneOf
  held_long done live e u c n not_s h = let q : IsEquiv (AreJoinedBy xs (λ e. T e × S e)) = joined_equiv xs (λ e. T e × S e) in
      let bad : (f : Pair) (v d : ℕ) → IsLeaving xs done f v d → S f → ⊥ = none_short done e u c n not_s in
      let at_c : (x y : ℕ) → x ≡ c → y ≡ c → AreJoinedBy xs (λ e. T e × S e) x y =
      (λ x y p o. subst (λ z. AreJoinedBy xs (λ e. T e × S e) z y) (sym p) (subst (λ z. AreJoinedBy xs (λ e. T e × S e) c z) (sym o) (q.re c))) in
      record {
        joined = λ x y i j. elim i [ inl p ↦ elim j [ inl o ↦ at_c x y p o | inr o ↦ absurd o ] | inr p ↦ absurd p ];
        old = λ f v d l s. elim l.from [
          | inl p ↦ inl p
          | inr i ↦ absurd (bad f v d (record { is = l.is; ends = l.ends; from = i; new = λ k. l.new (inr k) }) s)
        ];
        inner = λ f v d t w s i j. elim i [
          | inl p ↦ elim j [
            | inl o ↦ at_c v d p o
            | inr o ↦ absurd (bad f d v (record {
              is = t;
              ends = ends_back xs f v d w;
              from = o;
              new = λ k. n.leaving.new (subst (λ z. IsOneOf z done) p k);
            }) s)
          ]
          | inr p ↦ elim j [
            | inl o ↦ absurd (bad f v d (record {
              is = t;
              ends = w;
              from = p;
              new = λ k. n.leaving.new (subst (λ z. IsOneOf z done) o k);
            }) s)
            | inr o ↦ h.inner f v d t w s p o
          ]
        ];
      }

  held_short : (done live : List ℕ) (e : Pair) (u c : ℕ) → IsNextPair xs done e u c → S e → T e
      → IsHeld done live → IsHeld (c ∷ done) (c ∷ live)
  unfolding IsOneOf
  held_short done live e u c n se te h = let q : IsEquiv (AreJoinedBy xs (λ e. T e × S e)) = joined_equiv xs (λ e. T e × S e) in
      let link : AreJoinedBy xs (λ e. T e × S e) u c = reaches_link (IsLinkedBy xs (λ e. T e × S e)) u c
      (record { by = e; is = n.leaving.is; one = (te, se); ends = n.leaving.ends }) in
      let to_c : (x : ℕ) → IsOneOf x live → AreJoinedBy xs (λ e. T e × S e) x c =
      (λ x i. q.tr x u c (h.joined x u i (h.old e u c n.leaving se)) link) in
      let at_c : (x y : ℕ) → x ≡ c → y ≡ c → AreJoinedBy xs (λ e. T e × S e) x y =
      (λ x y p o. subst (λ z. AreJoinedBy xs (λ e. T e × S e) z y) (sym p) (subst (λ z. AreJoinedBy xs (λ e. T e × S e) c z) (sym o) (q.re c))) in
      let half : (x y : ℕ) → IsOneOf x live → y ≡ c → AreJoinedBy xs (λ e. T e × S e) x y =
      (λ x y i o. subst (λ z. AreJoinedBy xs (λ e. T e × S e) x z) (sym o) (to_c x i)) in
      record {
        joined = λ x y i j. elim i [
          | inl p ↦ elim j [ inl o ↦ at_c x y p o | inr o ↦ q.back y x (half y x o p) ]
          | inr p ↦ elim j [ inl o ↦ half x y p o | inr o ↦ h.joined x y p o ]
        ];
        old = λ f v d l s. elim l.from [
          | inl p ↦ inl p
          | inr i ↦ inr (h.old f v d (record { is = l.is; ends = l.ends; from = i; new = λ k. l.new (inr k) }) s)
        ];
        inner = λ f v d t w s i j. elim i [
          | inl p ↦ elim j [
            | inl o ↦ at_c v d p o
            | inr o ↦ q.back d v (half d v (h.old f d v (record {
              is = t;
              ends = ends_back xs f v d w;
              from = o;
              new = λ k. n.leaving.new (subst (λ z. IsOneOf z done) p k);
            }) s) p)
          ]
          | inr p ↦ elim j [
            | inl o ↦ half v d (h.old f v d (record {
              is = t;
              ends = w;
              from = p;
              new = λ k. n.leaving.new (subst (λ z. IsOneOf z done) o k);
            }) s) o
            | inr o ↦ h.inner f v d t w s p o
          ]
        ];
      }

  -- at the end, the short pairs of the tree join the ends of each short pair
  held_all : (done live : List ℕ) (es : List Pair) → IsGrown xs done es → ((e : Pair) → IsOneOf e es → T e)
      → IsHeld done live → (f : Pair) → IsPair xs f → S f → AreJoinedBy xs (λ e. T e × S e) (start xs f) (finish xs f)
  unfolding IsGrown IsOneOf AreEndsOf
  held_all done live [] g t h f p s = h.inner f (start xs f) (finish xs f) p (inl (refl, refl)) s
      (g (start xs f) (start_in xs f p)) (g (finish xs f) (finish_in xs f p))
  held_all done live (e ∷ es) (u, c, n, g) t h f p s = elim (tell e) [
    | inl y ↦ held_all (c ∷ done) (c ∷ live) es g (λ k i. t k (inr i)) (held_short done live e u c n y (t e (inl refl)) h) f p s
    | inr y ↦ held_all (c ∷ done) (c ∷ []) es g (λ k i. t k (inr i)) (held_long done live e u c n y h) f p s
  ]

  pub held_from : (c : ℕ) (es : List Pair) → IsGrown xs (c ∷ []) es → ((e : Pair) → IsOneOf e es → T e)
      → (f : Pair) → IsPair xs f → S f → AreJoinedBy xs (λ e. T e × S e) (start xs f) (finish xs f)
  unfolding IsOneOf
  held_from c es g t = let q : IsEquiv (AreJoinedBy xs (λ e. T e × S e)) = joined_equiv xs (λ e. T e × S e) in
      let at_c : (x y : ℕ) → IsOneOf x (c ∷ []) → IsOneOf y (c ∷ []) → AreJoinedBy xs (λ e. T e × S e) x y =
      (λ x y i j. elim i [
        | inl p ↦ elim j [
          | inl o ↦ subst (λ z. AreJoinedBy xs (λ e. T e × S e) z y) (sym p)
              (subst (λ z. AreJoinedBy xs (λ e. T e × S e) c z) (sym o) (q.re c))
          | inr o ↦ absurd o
        ]
        | inr p ↦ absurd p
      ]) in
      held_all (c ∷ []) (c ∷ []) es g t (record {
        joined = at_c;
        old = λ f v d l s. l.from;
        inner = λ f v d p w s i j. at_c v d i j;
      })

-- each pair of the ratsnest is in what grew
pub grown_whole : (xs : List Anchor) (c : ℕ) (es : List Pair) → IsGrown xs (c ∷ []) es → (e : Pair) → InRatsnest xs e → IsOneOf e es
grown_whole xs c es g e r = elim (is_pair_of xs e es) [
  | inl i ↦ i
  | inr not_s ↦ absurd (r.apart (reaches_map (IsLinkedBy xs (λ f. IsOneOf f es × (HasLesserKey xs e f → ⊥))) (IsLinkedBy xs (λ f. HasLesserKey xs f e))
      (λ x y l. record {
        by = l.by;
        is = l.is;
        ends = l.ends;
        one = elim (less_cases xs l.by e) [
          | inl k ↦ k
          | inr o ↦ elim o [ inl p ↦ absurd (not_s (subst (λ z. IsOneOf z es) p l.one.0)) | inr k ↦ absurd (l.one.1 k) ]
        ];
      })
      (start xs e) (finish xs e)
      (held_from xs (λ f. IsOneOf f es) (λ f. HasLesserKey xs e f → ⊥)
      (λ f h k s m. s (less_trans xs e f h m k))
      (λ f. elim (less_cases xs e f) [
        | inl k ↦ inr (λ n. n k)
        | inr o ↦ inl (λ k. elim o [ inl p ↦ less_irr xs f (subst (λ z. HasLesserKey xs z f) p k) | inr m ↦ less_irr xs e (less_trans xs e f e k m) ])
      ])
      c es g (λ f i. i) e r.is (less_irr xs e))))
]
