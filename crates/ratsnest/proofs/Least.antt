-- The tree joins all clusters, with one pair fewer, and with as few long pairs as can be.
use Rattle.std.proofs.Common.{◌≡◌, refl, sym, subst, ◌∙◌, ℕ, suc, ◌+◌, ◌≤◌, ◌<◌, List, [], ◌∷◌, ◌⊎◌, inl, inr, arith, length}
use Rattle.std.specs.Prelude.{ℤ, ◌<ℤ◌, ◌≤ℤ◌, Bool, true, false, cond, int_lt}
use Rattle.std.proofs.lemmas.Bool.{cases_lt, true≢false}
use Rattle.std.proofs.lemmas.Int.{ints, by_lt_z}
use Rattle.classes.specs.Classes.{IsOneOf}
use Rattle.classes.proofs.Reaching.{reaches_link, reaches_then, reaches_keeps}
use Rattle.ratsnest.specs.declared.Anchor.{Anchor}
use Rattle.ratsnest.specs.declared.Pair.{Pair}
use Rattle.ratsnest.specs.Ratsnest.{start, finish, dist_sq, IsPair, HasLesserKey, AreEndsOf, IsLinkedBy, AreJoinedBy, InRatsnest, IsNextPair, IsCluster, IsGrown, IsTree, JoinsAll, longer, Apart, HasClusters}
use Rattle.ratsnest.proofs.Order.{is_one}
use Rattle.ratsnest.proofs.Count.{IsEquiv, under_joined, count}
use Rattle.ratsnest.proofs.Exact.{joined_equiv, none_short, grown_cut, grown_whole, start_in, finish_in}

abbrev IsShort : List Anchor → ℤ → Pair → Type 0
IsShort xs bound e = int_lt bound (dist_sq xs e) ≡ false

is_not : (b d : ℤ) → d ≤ℤ b → int_lt b d ≡ false
is_not b d l = grind (arith, ints)

not_both : (b d e : ℤ) → (d ≤ℤ e) → int_lt b e ≡ false → b <ℤ d → ⊥
not_both b d e h k l = grind (arith, ints)

key_short : (b d e : ℤ) → (d ≤ℤ e) → int_lt b e ≡ false → int_lt b d ≡ false
key_short b d e h k = by_lt_z {P = int_lt b d ≡ false} b d (λ l. absurd (not_both b d e h k l)) (λ l. is_not b d l)

less_le : (xs : List Anchor) (e f : Pair) → HasLesserKey xs e f → dist_sq xs e ≤ℤ dist_sq xs f
unfolding HasLesserKey
less_le xs e f (inl h) = omega (arith, ints, h)
less_le xs e f (inr (h, k)) = omega (arith, ints, h)

short_down : (xs : List Anchor) (bound : ℤ) (e f : Pair) → HasLesserKey xs e f → IsShort xs bound f → IsShort xs bound e
short_down xs bound e f h k = key_short bound (dist_sq xs e) (dist_sq xs f) (less_le xs e f h) k

bool_tell : (b : Bool) → (b ≡ false) ⊎ (b ≡ false → ⊥)
bool_tell false = inl refl
bool_tell true = inr (λ h. true≢false h)

long_not : (b : Bool) → b ≡ true → b ≡ false → ⊥
long_not b p z = true≢false (sym p ∙ z)

straight : (xs : List Anchor) (e : Pair) → AreEndsOf xs e (start xs e) (finish xs e)
unfolding AreEndsOf
straight xs e = inl (refl, refl)

pub end_in : (xs : List Anchor) (e : Pair) (u c : ℕ) → IsPair xs e → AreEndsOf xs e u c → IsCluster xs c
unfolding AreEndsOf
end_in xs e u c p (inl (h, k)) = subst (IsCluster xs) (sym k) (finish_in xs e p)
end_in xs e u c p (inr (h, k)) = subst (IsCluster xs) (sym k) (start_in xs e p)

-- which one of the tree's long pairs leads to each class of the short ones
record HasReps (xs : List Anchor) (bound : ℤ) (n : ℕ) (ss : List ℕ) : Type 0 where
  pub apart : Apart (AreJoinedBy xs (λ f. IsShort xs bound f)) ss
  pub many : length ss ≡ n
  pub these : (x : ℕ) → IsOneOf x ss → IsCluster xs x

reps_step : (xs : List Anchor) (bound : ℤ) (done rs : List ℕ) (e : Pair) (es : List Pair) (u c : ℕ) → IsNextPair xs done e u c
    → ((x : ℕ) → IsOneOf x rs → IsOneOf x done) → ((x : ℕ) → IsOneOf x done → IsCluster xs x)
    → Apart (AreJoinedBy xs (λ f. IsShort xs bound f)) rs
    → (b : Bool) → int_lt bound (dist_sq xs e) ≡ b
    → ((ts : List ℕ) → ((x : ℕ) → IsOneOf x ts → IsOneOf x (c ∷ done)) → ((x : ℕ) → IsOneOf x (c ∷ done) → IsCluster xs x)
    → Apart (AreJoinedBy xs (λ f. IsShort xs bound f)) ts → (ss : List ℕ) × HasReps xs bound (length ts + longer xs bound es) ss)
    → (ss : List ℕ) × HasReps xs bound (length rs + cond b (suc (longer xs bound es)) (longer xs bound es)) ss
unfolding IsOneOf Apart
reps_step xs bound done rs e es u c n sub all t true p go =
    let r : (ss : List ℕ) × HasReps xs bound (length (c ∷ rs) + longer xs bound es) ss = go (c ∷ rs)
    (λ x i. elim i [ inl o ↦ inl o | inr o ↦ inr (sub x o) ])
    (λ x i. elim i [ inl o ↦ subst (IsCluster xs) (sym o) (end_in xs e u c n.leaving.is n.leaving.ends) | inr o ↦ all x o ]) (
      (λ s i k. n.leaving.new (reaches_keeps (IsLinkedBy xs (λ f. IsShort xs bound f)) (λ x. IsOneOf x done)
          (λ x y l o. elim (is_one y done) [
            | inl j ↦ j
            | inr m ↦ absurd (none_short xs (λ f. IsShort xs bound f) (λ f. IsShort xs bound f) (short_down xs bound)
                (λ f. bool_tell (int_lt bound (dist_sq xs f))) done e u c n (λ z. absurd (long_not (int_lt bound (dist_sq xs e)) p z))
                l.by x y (record { is = l.is; ends = l.ends; from = o; new = m }) l.one)
          ])
          s c (let q : IsEquiv (AreJoinedBy xs (λ f. IsShort xs bound f)) = joined_equiv xs (λ f. IsShort xs bound f) in q.back c s k) (sub s i))),
      t,
    ) in
    (r.0, record { apart = r.1.apart; many = r.1.many ∙ omega arith; these = r.1.these })
reps_step xs bound done rs e es u c n sub all t false p go = go rs (λ x i. inr (sub x i))
    (λ x i. elim i [ inl o ↦ subst (IsCluster xs) (sym o) (end_in xs e u c n.leaving.is n.leaving.ends) | inr o ↦ all x o ]) t

reps : (xs : List Anchor) (bound : ℤ) (done rs : List ℕ) (es : List Pair) → IsGrown xs done es
    → ((x : ℕ) → IsOneOf x rs → IsOneOf x done) → ((x : ℕ) → IsOneOf x done → IsCluster xs x)
    → Apart (AreJoinedBy xs (λ f. IsShort xs bound f)) rs
    → (ss : List ℕ) × HasReps xs bound (length rs + longer xs bound es) ss
unfolding IsGrown longer
reps xs bound done rs [] g sub all t = (rs, record { apart = t; many = omega arith; these = λ x i. all x (sub x i) })
reps xs bound done rs (e ∷ es) (u, c, n, g) sub all t = reps_step xs bound done rs e es u c n sub all t
    (int_lt bound (dist_sq xs e)) refl (λ ts s a k. reps xs bound (c ∷ done) ts es g s a k)

-- the joined clusters and the ends that are new are all clusters, each once
grown_all : (xs : List Anchor) (done : List ℕ) (es : List Pair) → IsGrown xs done es
    → ((x : ℕ) → IsOneOf x done → IsCluster xs x) → Apart (λ c d. c ≡ d) done
    → (all : List ℕ) × HasClusters xs all × (length all ≡ length done + length es)
unfolding IsGrown Apart IsOneOf
grown_all xs done [] g sub t = (done, record { apart = t; these = sub; whole = g }, omega arith)
grown_all xs done (e ∷ es) (u, c, n, g) sub t =
    let r : (all : List ℕ) × HasClusters xs all × (length all ≡ length (c ∷ done) + length es) =
    grown_all xs (c ∷ done) es g
    (λ x i. elim i [ inl o ↦ subst (IsCluster xs) (sym o) (end_in xs e u c n.leaving.is n.leaving.ends) | inr o ↦ sub x o ])
    (λ s i k. n.leaving.new (subst (λ z. IsOneOf z done) (sym k) i), t) in
    (r.0, r.1, r.2 ∙ omega arith)

grown_joins : (xs : List Anchor) (T : Pair → Type 0) (a : ℕ) (done : List ℕ) (es : List Pair) → IsGrown xs done es
    → ((e : Pair) → IsOneOf e es → T e) → ((x : ℕ) → IsOneOf x done → AreJoinedBy xs T a x)
    → (x : ℕ) → IsCluster xs x → AreJoinedBy xs T a x
unfolding IsGrown IsOneOf
grown_joins xs T a done [] g t h = λ x i. h x (g x i)
grown_joins xs T a done (e ∷ es) (u, c, n, g) t h = grown_joins xs T a (c ∷ done) es g (λ f i. t f (inr i))
    (λ x i. elim i [
      | inl o ↦ subst (λ z. AreJoinedBy xs T a z) (sym o) (reaches_then (IsLinkedBy xs T) a u c (h u n.leaving.from)
          (reaches_link (IsLinkedBy xs T) u c (record { by = e; is = n.leaving.is; one = t e (inl refl); ends = n.leaving.ends })))
      | inr o ↦ h x o
    ])

first_in : (a : Anchor) (xs : List Anchor) → IsCluster (a ∷ xs) a.cluster
first_in a xs = record { number = 0; there = omega arith; is = refl }

only_first : (a : Anchor) (xs : List Anchor) (x : ℕ) → IsOneOf x (a.cluster ∷ []) → IsCluster (a ∷ xs) x
unfolding IsOneOf
only_first a xs x (inl e) = subst (IsCluster (a ∷ xs)) (sym e) (first_in a xs)
only_first a xs x (inr i) = absurd i

none_there : (k : ℕ) → k < length {A = Anchor} [] → ⊥
none_there k l = omega (arith, l)

no_more : (s : ℕ) → IsOneOf s [] → ⊥
unfolding IsOneOf
no_more s i = i

-- the tree joins all clusters
tree_all : (xs : List Anchor) (es : List Pair) → IsTree xs es → (c d : ℕ) → IsCluster xs c → IsCluster xs d
    → AreJoinedBy xs (λ e. IsOneOf e es) c d
unfolding IsTree IsOneOf
tree_all [] es h c d i j = absurd (none_there i.number i.there)
tree_all (a ∷ xs) es g c d i j = let q : IsEquiv (AreJoinedBy (a ∷ xs) (λ e. IsOneOf e es)) = joined_equiv (a ∷ xs) (λ e. IsOneOf e es) in
    let from : (x : ℕ) → IsCluster (a ∷ xs) x → AreJoinedBy (a ∷ xs) (λ e. IsOneOf e es) a.cluster x =
    grown_joins (a ∷ xs) (λ e. IsOneOf e es) a.cluster (a.cluster ∷ []) es g (λ e k. k)
    (λ x k. elim k [ inl o ↦ subst (λ z. AreJoinedBy (a ∷ xs) (λ e. IsOneOf e es) a.cluster z) (sym o) (q.re a.cluster) | inr o ↦ absurd o ]) in
    q.tr c a.cluster d (q.back a.cluster c (from c i)) (from d j)

tree_pairs : (xs : List Anchor) (es : List Pair) → IsTree xs es → (e : Pair) → IsOneOf e es → IsPair xs e
unfolding IsTree IsOneOf
tree_pairs [] es h e i = absurd (subst (λ l. IsOneOf e l) h i)
tree_pairs (a ∷ xs) es g e i = let r : InRatsnest (a ∷ xs) e = grown_cut (a ∷ xs) (a.cluster ∷ []) es g e i in r.is

pub tree_joins : (xs : List Anchor) (es : List Pair) → IsTree xs es → JoinsAll xs es
tree_joins xs es g = record { pairs = tree_pairs xs es g; joins = tree_all xs es g }

-- with one pair fewer than there are clusters
pub tree_many : (a : Anchor) (xs : List Anchor) (es : List Pair) → IsTree (a ∷ xs) es
    → (all : List ℕ) × HasClusters (a ∷ xs) all × (length all ≡ suc (length es))
unfolding IsTree Apart
tree_many a xs es g = let r : (all : List ℕ) × HasClusters (a ∷ xs) all × (length all ≡ length (a.cluster ∷ []) + length es) =
    grown_all (a ∷ xs) (a.cluster ∷ []) es g (only_first a xs) (λ s i k. no_more s i, tt) in
    (r.0, r.1, r.2 ∙ omega arith)

-- it is the ratsnest
pub tree_is : (a : Anchor) (xs : List Anchor) (es : List Pair) → IsTree (a ∷ xs) es
    → (e : Pair) → (IsOneOf e es → InRatsnest (a ∷ xs) e) × (InRatsnest (a ∷ xs) e → IsOneOf e es)
unfolding IsTree
tree_is a xs es g e = (grown_cut (a ∷ xs) (a.cluster ∷ []) es g e, grown_whole (a ∷ xs) a.cluster es g e)

count_all : (xs : List Anchor) (bound : ℤ) (js : List Pair) → JoinsAll xs js → (ss : List ℕ) (n : ℕ) → HasReps xs bound n ss
    → suc (longer xs bound js) < n → ⊥
count_all xs bound js j ss n r l =
    let q : IsEquiv (AreJoinedBy xs (λ f. IsShort xs bound f)) = joined_equiv xs (λ f. IsShort xs bound f) in
    count xs bound js (AreJoinedBy xs (λ f. IsShort xs bound f)) q
    (λ e i s. reaches_link (IsLinkedBy xs (λ f. IsShort xs bound f)) (start xs e) (finish xs e)
    (record { by = e; is = j.pairs e i; one = s; ends = straight xs e }))
    ss r.apart
    (λ x y i o. under_joined xs js (AreJoinedBy xs (λ f. IsShort xs bound f)) q x y (j.joins x y (r.these x i) (r.these y o)))
    (subst (λ m. suc (longer xs bound js) < m) (sym r.many) l)

-- and no joining list has fewer long pairs
pub tree_least : (xs : List Anchor) (es js : List Pair) → IsTree xs es → JoinsAll xs js → (bound : ℤ)
    → longer xs bound es ≤ longer xs bound js
unfolding IsTree longer Apart
tree_least [] es js h j bound = rw h (omega arith)
tree_least (a ∷ xs) es js g j bound = elim (cases_lt (longer (a ∷ xs) bound js) (longer (a ∷ xs) bound es)) [
  | inl l ↦ let r : (ss : List ℕ) × HasReps (a ∷ xs) bound (length (a.cluster ∷ []) + longer (a ∷ xs) bound es) ss =
      reps (a ∷ xs) bound (a.cluster ∷ []) (a.cluster ∷ []) es g (λ x i. i) (only_first a xs) (λ s i k. no_more s i, tt) in
      let R : IsEquiv (AreJoinedBy (a ∷ xs) (λ f. IsShort (a ∷ xs) bound f)) = joined_equiv (a ∷ xs) (λ f. IsShort (a ∷ xs) bound f) in
      absurd (count_all (a ∷ xs) bound js j r.0 (length (a.cluster ∷ []) + longer (a ∷ xs) bound es) r.1 (omega (arith, l)))
  | inr l ↦ l
]
