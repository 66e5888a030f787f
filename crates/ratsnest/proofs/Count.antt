-- How many classes a list of pairs can join.
use Rattle.std.proofs.Common.{◌≡◌, refl, sym, subst, ℕ, suc, ◌≤◌, ◌<◌, List, [], ◌∷◌, ◌⊎◌, inl, inr, arith, length}
use Rattle.std.specs.Prelude.{ℤ, Bool, true, false, cond, int_lt}
use Rattle.classes.specs.Classes.{IsOneOf}
use Rattle.classes.proofs.Reaching.{reaches_keeps}
use Rattle.ratsnest.specs.declared.Anchor.{Anchor}
use Rattle.ratsnest.specs.declared.Pair.{Pair}
use Rattle.ratsnest.specs.Ratsnest.{start, finish, dist_sq, AreEndsOf, IsLinkedBy, AreJoinedBy, longer, Apart}

pub record IsEquiv (R : ℕ → ℕ → Type 0) : Type 0 where
  pub re : (x : ℕ) → R x x
  pub back : (x y : ℕ) → R x y → R y x
  pub tr : (x y z : ℕ) → R x y → R y z → R x z

-- a and b put together
abbrev pub Add : (ℕ → ℕ → Type 0) → ℕ → ℕ → ℕ → ℕ → Type 0
Add R a b x y = R x y ⊎ ((R x a × R b y) ⊎ (R x b × R a y))

add_tr : (R : ℕ → ℕ → Type 0) → IsEquiv R → (a b x y z : ℕ) → Add R a b x y → Add R a b y z → Add R a b x z
add_tr R q a b x y z (inl p) (inl r) = inl (q.tr x y z p r)
add_tr R q a b x y z (inl p) (inr (inl (r, s))) = inr (inl (q.tr x y a p r, s))
add_tr R q a b x y z (inl p) (inr (inr (r, s))) = inr (inr (q.tr x y b p r, s))
add_tr R q a b x y z (inr (inl (p, o))) (inl r) = inr (inl (p, q.tr b y z o r))
add_tr R q a b x y z (inr (inl (p, o))) (inr (inl (r, s))) = inr (inl (p, s))
add_tr R q a b x y z (inr (inl (p, o))) (inr (inr (r, s))) = inl (q.tr x a z p s)
add_tr R q a b x y z (inr (inr (p, o))) (inl r) = inr (inr (p, q.tr a y z o r))
add_tr R q a b x y z (inr (inr (p, o))) (inr (inl (r, s))) = inl (q.tr x b z p s)
add_tr R q a b x y z (inr (inr (p, o))) (inr (inr (r, s))) = inr (inr (p, s))

add_back : (R : ℕ → ℕ → Type 0) → IsEquiv R → (a b x y : ℕ) → Add R a b x y → Add R a b y x
add_back R q a b x y (inl p) = inl (q.back x y p)
add_back R q a b x y (inr (inl (p, o))) = inr (inr (q.back b y o, q.back x a p))
add_back R q a b x y (inr (inr (p, o))) = inr (inl (q.back a y o, q.back x b p))

add_equiv : (R : ℕ → ℕ → Type 0) → IsEquiv R → (a b : ℕ) → IsEquiv (Add R a b)
add_equiv R q a b = record {
  re = λ x. inl (q.re x);
  back = λ x y. add_back R q a b x y;
  tr = λ x y z. add_tr R q a b x y z;
}

-- the pairs of the list put together one by one
unfoldable pub Under : List Anchor → List Pair → (ℕ → ℕ → Type 0) → ℕ → ℕ → Type 0
Under xs [] R x y = R x y
Under xs (e ∷ es) R x y = Under xs es (Add R (start xs e) (finish xs e)) x y

under_equiv : (xs : List Anchor) (es : List Pair) (R : ℕ → ℕ → Type 0) → IsEquiv R → IsEquiv (Under xs es R)
unfolding Under
under_equiv xs [] R q = record { re = q.re; back = q.back; tr = q.tr }
under_equiv xs (e ∷ es) R q = let h : IsEquiv (Under xs es (Add R (start xs e) (finish xs e))) =
    under_equiv xs es (Add R (start xs e) (finish xs e)) (add_equiv R q (start xs e) (finish xs e)) in
    record { re = h.re; back = h.back; tr = h.tr }

under_has : (xs : List Anchor) (es : List Pair) (R : ℕ → ℕ → Type 0) (x y : ℕ) → R x y → Under xs es R x y
unfolding Under
under_has xs [] R x y r = r
under_has xs (e ∷ es) R x y r = under_has xs es (Add R (start xs e) (finish xs e)) x y (inl r)

under_one : (xs : List Anchor) (es : List Pair) (R : ℕ → ℕ → Type 0) → IsEquiv R → (e : Pair) → IsOneOf e es
    → Under xs es R (start xs e) (finish xs e)
unfolding Under IsOneOf
under_one xs [] R q e i = absurd i
under_one xs (f ∷ es) R q e (inl p) = subst (λ g. Under xs es (Add R (start xs f) (finish xs f)) (start xs g) (finish xs g)) (sym p)
    (under_has xs es (Add R (start xs f) (finish xs f)) (start xs f) (finish xs f)
    (inr (inl (q.re (start xs f), q.re (finish xs f)))))
under_one xs (f ∷ es) R q e (inr i) =
    under_one xs es (Add R (start xs f) (finish xs f)) (add_equiv R q (start xs f) (finish xs f)) e i

pub under_ends : (xs : List Anchor) (Q : ℕ → ℕ → Type 0) → IsEquiv Q → (e : Pair) (c d : ℕ) → AreEndsOf xs e c d
    → Q (start xs e) (finish xs e) → Q c d
unfolding AreEndsOf
under_ends xs Q q e c d (inl (p, o)) r = subst (λ x. Q x d) (sym p) (subst (λ x. Q (start xs e) x) (sym o) r)
under_ends xs Q q e c d (inr (p, o)) r = q.back d c (subst (λ x. Q x c) (sym o) (subst (λ x. Q (start xs e) x) (sym p) r))

-- what the list joins
pub under_joined : (xs : List Anchor) (es : List Pair) (R : ℕ → ℕ → Type 0) → IsEquiv R → (x y : ℕ)
    → AreJoinedBy xs (λ e. IsOneOf e es) x y → Under xs es R x y
under_joined xs es R q x y j = let h : IsEquiv (Under xs es R) = under_equiv xs es R q in
    reaches_keeps (IsLinkedBy xs (λ e. IsOneOf e es)) (Under xs es R x)
    (λ u v l r. h.tr x u v r (under_ends xs (Under xs es R) h l.by u v l.ends (under_one xs es R q l.by l.one)))
    x y j (h.re x)

either : (A : Type 0) → ((A ⊎ (A → ⊥)) → ⊥) → ⊥
either A h = h (inr (λ a. h (inl a)))

-- without the one that is related to b
pub record IsRest (R : ℕ → ℕ → Type 0) (b : ℕ) (rs ss : List ℕ) : Type 0 where
  pub many : length rs ≤ suc (length ss)
  pub some : (s : ℕ) → IsOneOf s ss → IsOneOf s rs
  pub apart : Apart R ss
  pub none : (s : ℕ) → IsOneOf s ss → R s b → ⊥

rest : (R : ℕ → ℕ → Type 0) → IsEquiv R → (b : ℕ) (rs : List ℕ) → Apart R rs → ((ss : List ℕ) → IsRest R b rs ss → ⊥) → ⊥
unfolding Apart IsOneOf
rest R q b [] t h = h [] (record { many = omega arith; some = λ s i. i; apart = tt; none = λ s i r. i })
rest R q b (r ∷ rs) (t, ts) h = either (R r b) (λ o. elim o [
  | inl y ↦ h rs (record {
    many = omega arith;
    some = λ s i. inr i;
    apart = ts;
    none = λ s i k. t s i (q.tr r b s y (q.back s b k));
  })
  | inr n ↦ rest R q b rs ts (λ ss k. h (r ∷ ss) (record {
    many = omega (arith, k.many);
    some = λ s i. elim i [ inl e ↦ inl e | inr j ↦ inr (k.some s j) ];
    apart = (λ s i. t s (k.some s i), k.apart);
    none = λ s i. elim i [ inl e ↦ (λ l. n (subst (λ x. R x b) e l)) | inr j ↦ k.none s j ];
  }))
])

apart_add : (R : ℕ → ℕ → Type 0) → IsEquiv R → (a b : ℕ) (rs : List ℕ) → Apart R rs
    → ((s : ℕ) → IsOneOf s rs → R s b → ⊥) → Apart (Add R a b) rs
unfolding Apart IsOneOf
apart_add R q a b [] t n = tt
apart_add R q a b (r ∷ rs) (t, ts) n = (
  λ s i k. elim k [
    | inl x ↦ t s i x
    | inr o ↦ elim o [ inl x ↦ n s (inr i) (q.back b s x.1) | inr x ↦ n r (inl refl) x.0 ]
  ],
  apart_add R q a b rs ts (λ s i. n s (inr i)),
)

apart_map : (R Q : ℕ → ℕ → Type 0) → ((x y : ℕ) → Q x y → R x y) → (rs : List ℕ) → Apart R rs → Apart Q rs
unfolding Apart
apart_map R Q f [] t = tt
apart_map R Q f (r ∷ rs) (t, ts) = (λ s i k. t s i (f r s k), apart_map R Q f rs ts)

add_same : (R : ℕ → ℕ → Type 0) → IsEquiv R → (a b : ℕ) → R a b → (x y : ℕ) → Add R a b x y → R x y
add_same R q a b r x y (inl p) = p
add_same R q a b r x y (inr (inl (p, o))) = q.tr x a y p (q.tr a b y r o)
add_same R q a b r x y (inr (inr (p, o))) = q.tr x b y p (q.tr b a y (q.back a b r) o)

count_step : (xs : List Anchor) (bound : ℤ) (e : Pair) (es : List Pair) (R : ℕ → ℕ → Type 0) → IsEquiv R
    → ((f : Pair) → IsOneOf f (e ∷ es) → int_lt bound (dist_sq xs f) ≡ false → R (start xs f) (finish xs f))
    → (rs : List ℕ) → Apart R rs → ((x y : ℕ) → IsOneOf x rs → IsOneOf y rs → Under xs (e ∷ es) R x y)
    → (b : Bool) → int_lt bound (dist_sq xs e) ≡ b → suc (cond b (suc (longer xs bound es)) (longer xs bound es)) < length rs
    → ((Q : ℕ → ℕ → Type 0) → IsEquiv Q
    → ((f : Pair) → IsOneOf f es → int_lt bound (dist_sq xs f) ≡ false → Q (start xs f) (finish xs f))
    → (ss : List ℕ) → Apart Q ss → ((x y : ℕ) → IsOneOf x ss → IsOneOf y ss → Under xs es Q x y)
    → suc (longer xs bound es) < length ss → ⊥)
    → ⊥
unfolding Under IsOneOf
count_step xs bound e es R q s rs t j true p l go = rest R q (finish xs e) rs t (λ ss k.
    go (Add R (start xs e) (finish xs e)) (add_equiv R q (start xs e) (finish xs e)) (λ f i o. inl (s f (inr i) o)) ss
    (apart_add R q (start xs e) (finish xs e) ss k.apart k.none)
    (λ x y i o. j x y (k.some x i) (k.some y o)) (omega (arith, l, k.many)))
count_step xs bound e es R q s rs t j false p l go =
    go (Add R (start xs e) (finish xs e)) (add_equiv R q (start xs e) (finish xs e)) (λ f i o. inl (s f (inr i) o)) rs
    (apart_map R (Add R (start xs e) (finish xs e)) (add_same R q (start xs e) (finish xs e) (s e (inl refl) p)) rs t)
    j l

-- a list of pairs that joins things which the short pairs leave apart has a long pair for each but one
pub count : (xs : List Anchor) (bound : ℤ) (es : List Pair) (R : ℕ → ℕ → Type 0) → IsEquiv R
    → ((e : Pair) → IsOneOf e es → int_lt bound (dist_sq xs e) ≡ false → R (start xs e) (finish xs e))
    → (rs : List ℕ) → Apart R rs → ((x y : ℕ) → IsOneOf x rs → IsOneOf y rs → Under xs es R x y)
    → suc (longer xs bound es) < length rs → ⊥
unfolding Under Apart IsOneOf longer
count xs bound [] R q s [] t j l = omega (arith, l)
count xs bound [] R q s (r ∷ []) t j l = omega (arith, l)
count xs bound [] R q s (r ∷ u ∷ rs) (t, ts) j l = t u (inl refl) (j r u (inl refl) (inr (inl refl)))
count xs bound (e ∷ es) R q s rs t j l = count_step xs bound e es R q s rs t j (int_lt bound (dist_sq xs e)) refl l
    (λ Q w f ss k o m. count xs bound es Q w f ss k o m)
