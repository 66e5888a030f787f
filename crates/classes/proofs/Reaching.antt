-- Laws of reachability.
use Rattle.std.proofs.Common.{◌≡◌, refl, sym, subst, ℕ, zero, suc, List, [], ◌∷◌, ◌⊎◌, inl, inr}
use Rattle.classes.specs.Classes.{Chain, Reaches, IsLeastOf, IsOneOf}
use Rattle.classes.specs.Laws.{Link, AreLinked}

chain_more : {A : Type 0} (R : A → A → Type 0) (n : ℕ) (a b c : A) → Chain R n a b → R b c → Chain R (suc n) a c
unfolding Chain
chain_more R zero a b c e r = (c, subst (λ x. R x c) (sym e) r, refl)
chain_more R (suc n) a b c (m, l, t) r = (m, l, chain_more R n m b c t r)

pub reaches_self : {A : Type 0} (R : A → A → Type 0) (a : A) → Reaches R a a
unfolding Reaches Chain
reaches_self R a = (0, refl)

pub reaches_link : {A : Type 0} (R : A → A → Type 0) (a b : A) → R a b → Reaches R a b
unfolding Reaches Chain
reaches_link R a b r = (1, (b, r, refl))

pub reaches_step : {A : Type 0} (R : A → A → Type 0) (a b c : A) → R a b → Reaches R b c → Reaches R a c
unfolding Reaches Chain
reaches_step R a b c r (n, t) = (suc n, (b, r, t))

chain_then : {A : Type 0} (R : A → A → Type 0) (n : ℕ) (a b c : A) → Chain R n a b → Reaches R b c → Reaches R a c
unfolding Chain
chain_then R zero a b c e t = subst (λ x. Reaches R x c) (sym e) t
chain_then R (suc n) a b c (m, l, s) t = reaches_step R a m c l (chain_then R n m b c s t)

pub reaches_then : {A : Type 0} (R : A → A → Type 0) (a b c : A) → Reaches R a b → Reaches R b c → Reaches R a c
unfolding Reaches
reaches_then R a b c (n, s) t = chain_then R n a b c s t

chain_back : {A : Type 0} (R : A → A → Type 0) → ((x y : A) → R x y → R y x)
    → (n : ℕ) (a b : A) → Chain R n a b → Reaches R b a
unfolding Chain
chain_back R s zero a b e = subst (λ x. Reaches R b x) (sym e) (reaches_self R b)
chain_back R s (suc n) a b (m, l, t) = reaches_then R b m a (chain_back R s n m b t) (reaches_link R m a (s a m l))

-- where links go both ways, so does reaching
pub reaches_back : {A : Type 0} (R : A → A → Type 0) → ((x y : A) → R x y → R y x) → (a b : A) → Reaches R a b → Reaches R b a
unfolding Reaches
reaches_back R s a b (n, t) = chain_back R s n a b t

-- more links reach more
chain_map : {A : Type 0} (R S : A → A → Type 0) → ((x y : A) → R x y → S x y) → (n : ℕ) (a b : A) → Chain R n a b → Chain S n a b
unfolding Chain
chain_map R S f zero a b e = e
chain_map R S f (suc n) a b (m, l, t) = (m, f a m l, chain_map R S f n m b t)

pub reaches_map : {A : Type 0} (R S : A → A → Type 0) → ((x y : A) → R x y → S x y) → (a b : A) → Reaches R a b → Reaches S a b
unfolding Reaches
reaches_map R S f a b (n, t) = (n, chain_map R S f n a b t)

-- what links keep, reaching keeps
chain_keeps : {A : Type 0} (R : A → A → Type 0) (P : A → Type 0) → ((x y : A) → R x y → P x → P y)
    → (n : ℕ) (a b : A) → Chain R n a b → P a → P b
unfolding Chain
chain_keeps R P k zero a b e p = subst P e p
chain_keeps R P k (suc n) a b (m, l, t) p = chain_keeps R P k n m b t (k a m l p)

pub reaches_keeps : {A : Type 0} (R : A → A → Type 0) (P : A → Type 0) → ((x y : A) → R x y → P x → P y)
    → (a b : A) → Reaches R a b → P a → P b
unfolding Reaches
reaches_keeps R P k a b (n, t) p = chain_keeps R P k n a b t p

-- the least of a class is one
pub least_one : {A : Type 0} (R Le : A → A → Type 0) → ((x y : A) → Le x y → Le y x → x ≡ y)
    → (a m n : A) → IsLeastOf R Le a m → IsLeastOf R Le a n → m ≡ n
least_one R Le anti a m n h k = anti m n (h.least n k.reached) (k.least m h.reached)

-- all of a class have the same least one
pub least_shared : {A : Type 0} (R Le : A → A → Type 0) → ((x y : A) → R x y → R y x)
    → (a b m : A) → Reaches R a b → IsLeastOf R Le a m → IsLeastOf R Le b m
least_shared R Le s a b m r h = record {
  reached = reaches_then R b a m (reaches_back R s a b r) h.reached;
  least = λ c t. h.least c (reaches_then R a b c r t);
}

-- where membership is told, a list has none or a least one of the class
abbrev HasNone : {A : Type 0} → (A → Type 0) → List A → Type 0
HasNone {A} P xs = (x : A) → IsOneOf x xs → P x → ⊥

abbrev HasLeast : {A : Type 0} → (A → Type 0) → (A → A → Type 0) → List A → Type 0
HasLeast {A} P Le xs = (m : A) × P m × ((x : A) → IsOneOf x xs → P x → Le m x)

least_put : {A : Type 0} (P : A → Type 0) (Le : A → A → Type 0) (y : A) (ys : List A) (m : A) → P m
    → ((x : A) → IsOneOf x ys → P x → Le m x) → (P y → Le m y) → HasLeast P Le (y ∷ ys)
unfolding IsOneOf
least_put P Le y ys m p l h =
    (m, p, λ x i q. elim i [ inl e ↦ subst (λ z. Le m z) (sym e) (h (subst P e q)) | inr j ↦ l x j q ])

least_go : {A : Type 0} (P : A → Type 0) (Le : A → A → Type 0) → ((x : A) → Le x x) → ((x y z : A) → Le x y → Le y z → Le x z)
    → ((x y : A) → Le x y ⊎ Le y x) → (y : A) (ys : List A) → (P y ⊎ (P y → ⊥))
    → (HasNone P ys ⊎ HasLeast P Le ys) → (HasNone P (y ∷ ys) ⊎ HasLeast P Le (y ∷ ys))
unfolding IsOneOf
least_go P Le re tr to y ys (inl p) (inl n) = inr (least_put P Le y ys y p (λ x i q. absurd (n x i q)) (λ q. re y))
least_go P Le re tr to y ys (inl p) (inr (m, pm, l)) = elim (to m y) [
  | inl h ↦ inr (least_put P Le y ys m pm l (λ q. h))
  | inr h ↦ inr (least_put P Le y ys y p (λ x i q. tr y m x h (l x i q)) (λ q. re y))
]
least_go P Le re tr to y ys (inr none) (inl n) = inl (λ x i q. elim i [ inl e ↦ none (subst P e q) | inr j ↦ n x j q ])
least_go P Le re tr to y ys (inr none) (inr (m, pm, l)) = inr (least_put P Le y ys m pm l (λ q. absurd (none q)))

pub least_in : {A : Type 0} (P : A → Type 0) (Le : A → A → Type 0) → ((x : A) → Le x x) → ((x y z : A) → Le x y → Le y z → Le x z)
    → ((x y : A) → Le x y ⊎ Le y x) → ((x : A) → P x ⊎ (P x → ⊥))
    → (xs : List A) → HasNone P xs ⊎ HasLeast P Le xs
unfolding IsOneOf
least_in P Le re tr to tell [] = inl (λ x i p. i)
least_in P Le re tr to tell (y ∷ ys) = least_go P Le re tr to y ys (tell y) (least_in P Le re tr to tell ys)

-- a class whose members all stand in the list has a least one
pub class_least : {A : Type 0} (R Le : A → A → Type 0) → ((x : A) → Le x x) → ((x y z : A) → Le x y → Le y z → Le x z)
    → ((x y : A) → Le x y ⊎ Le y x) → (a : A) → ((x : A) → Reaches R a x ⊎ (Reaches R a x → ⊥))
    → (xs : List A) → ((x : A) → Reaches R a x → IsOneOf x xs) → (m : A) × IsLeastOf R Le a m
class_least {A} R Le re tr to a tell xs all = elim (least_in (Reaches R a) Le re tr to tell xs) [
  | inl n ↦ absurd (n a (all a (reaches_self R a)) (reaches_self R a))
  | inr h ↦ (h.0, record { reached = h.1; least = λ b r. h.2 b (all b r) r })
]

-- listed links go both ways
pub linked_back : (links : List Link) (a b : ℕ) → AreLinked links a b → AreLinked links b a
unfolding AreLinked
linked_back links a b (inl h) = inr h
linked_back links a b (inr h) = inl h
