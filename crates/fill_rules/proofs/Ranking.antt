-- The ranked list is the ranking.
use Rattle.std.proofs.Common.{◌≡◌, refl, sym, ap, subst, ℕ, zero, suc, ◌+◌, ◌≤◌, ◌<◌, ◌⊎◌, inl, inr, arith, List, [], ◌∷◌, ◌++◌, length, get_or, map}
use Rattle.std.specs.Prelude.{Bool, true, false, cond, nat_le}
use Rattle.std.proofs.lemmas.Bool.{cases_eq, cases_lt}
use Rattle.std.proofs.lemmas.Bool.Decides.{nat_tests}
use Rattle.classes.specs.Classes.{IsOneOf}
use Rattle.board_language.specs.declared.board.Zone.{Zone}
use Rattle.board_language.specs.Board.{Board}
use Rattle.board_language.specs.Copper.{has_layer}
use Rattle.fill_rules.specs.Tasks.{Task, no_zone, layers_below, tasks_from, task_zone, put_by_priority, put_all, ranked}
use Rattle.fill_rules.specs.Ranking.{IsFiled, Outranks, IsSortedBy, IsRanking}
use Rattle.board_language.proofs.Members.{one_of_append, append_left, append_right, one_of_map, map_one_of}

sorted_append : {A : Type 0} (R : A → A → Type 0) (xs ys : List A) → IsSortedBy R xs → IsSortedBy R ys
    → ((x y : A) → IsOneOf x xs → IsOneOf y ys → R x y) → IsSortedBy R (xs ++ ys)
unfolding IsSortedBy IsOneOf
sorted_append R [] ys h g f = g
sorted_append R (x ∷ xs) ys h g f = (
  λ y i. elim (one_of_append y xs ys i) [ inl j ↦ h.0 y j | inr j ↦ f x y (inl refl) j ],
  sorted_append R xs ys h.1 g (λ u v i j. f u v (inr i) j),
)

sorted_map : {A B : Type 0} (R : A → A → Type 0) (S : B → B → Type 0) (f : A → B) → ((x y : A) → R x y → S (f x) (f y)) → (xs : List A) → IsSortedBy R xs → IsSortedBy S (map f xs)
unfolding IsSortedBy
sorted_map R S f k [] h = tt
sorted_map R S f k (x ∷ xs) h = (
  λ y i. let r = one_of_map f y xs i in subst (S (f x)) (sym r.2) (k x r.0 (h.0 r.0 r.1)),
  sorted_map R S f k xs h.1,
)

-- ---- layers
last_of : (n l : ℕ) (b : Bool) → IsOneOf l (cond b (n ∷ []) []) → (l ≡ n) × (b ≡ true)
unfolding IsOneOf
last_of n l true (inl e) = (e, refl)
last_of n l true (inr i) = absurd i
last_of n l false i = absurd i

layers_are : (m n l : ℕ) → IsOneOf l (layers_below m n) → (l < n) × (has_layer m l ≡ true)
unfolding IsOneOf
layers_are m zero l h = absurd h
layers_are m (suc n) l h = elim (one_of_append l (layers_below m n) (cond (has_layer m n) (n ∷ []) []) h) [
  | inl i ↦ let r = layers_are m n l i in let q : l < n = r.0 in (omega arith, r.1)
  | inr i ↦ let r = last_of n l (has_layer m n) i in (omega (arith, r.0), subst (λ (k : ℕ). has_layer m k ≡ true) (sym r.0) r.1)
]

last_in : (n : ℕ) (b : Bool) → b ≡ true → IsOneOf n (cond b (n ∷ []) [])
unfolding IsOneOf
last_in n b e = subst (λ (x : Bool). IsOneOf n (cond x (n ∷ []) [])) (sym e) (inl refl)

layers_have : (m n l : ℕ) → l < n → has_layer m l ≡ true → IsOneOf l (layers_below m n)
layers_have m zero l h e = absurd (omega arith)
layers_have m (suc n) l h e = elim (cases_eq l n) [
  | inl q ↦ append_right l (layers_below m n) (cond (has_layer m n) (n ∷ []) [])
      (subst (λ (k : ℕ). IsOneOf k (cond (has_layer m n) (n ∷ []) [])) (sym q) (last_in n (has_layer m n) (subst (λ (k : ℕ). has_layer m k ≡ true) q e)))
  | inr ne ↦ append_left l (layers_below m n) (cond (has_layer m n) (n ∷ []) []) (layers_have m n l (omega (arith, ne)) e)
]

abbrev IsBelow : ℕ → ℕ → Type 0
IsBelow x y = x < y

last_sorted : (n : ℕ) (b : Bool) → IsSortedBy IsBelow (cond b (n ∷ []) [])
unfolding IsSortedBy IsOneOf
last_sorted n true = (λ y i. absurd i, tt)
last_sorted n false = tt

layers_sorted : (m n : ℕ) → IsSortedBy IsBelow (layers_below m n)
unfolding IsSortedBy
layers_sorted m zero = tt
layers_sorted m (suc n) =
    sorted_append IsBelow (layers_below m n) (cond (has_layer m n) (n ∷ []) []) (layers_sorted m n) (last_sorted n (has_layer m n))
    (λ x y i j. let l : x < n = (layers_are m n x i).0 in let e : y ≡ n = (last_of n y (has_layer m n) j).0 in omega arith)

-- ---- all tasks in file order
record IsAmong (count z : ℕ) (zones : List Zone) (t : Task) : Type 0 where
  k : ℕ
  zone : t.zone ≡ z + k
  within : k < length zones
  layer : t.layer < count
  has : has_layer (get_or zones k no_zone).layers t.layer ≡ true

abbrev task : ℕ → ℕ → Task
task z l = record { zone = z; layer = l }

tasks_are : (count z : ℕ) (zones : List Zone) (t : Task) → IsOneOf t (tasks_from count z zones) → IsAmong count z zones t
unfolding IsOneOf
tasks_are count z [] t h = absurd h
tasks_are count z (y ∷ zones) t h = elim (one_of_append t (map (task z) (layers_below y.layers count)) (tasks_from count (suc z) zones) h) [
  | inl i ↦
      let r = one_of_map (task z) t (layers_below y.layers count) i in
      let l = layers_are y.layers count r.0 r.1 in
      let le : t.layer ≡ r.0 = ap (λ (u : Task). u.layer) r.2 in
      let ze : t.zone ≡ z = ap (λ (u : Task). u.zone) r.2 in
      let less : r.0 < count = l.0 in
      record { k = 0; zone = omega arith; within = omega arith; layer = omega arith; has = subst (λ (x : ℕ). has_layer y.layers x ≡ true) (sym le) l.1 }
  | inr i ↦
      let r = tasks_are count (suc z) zones t i in
      let ze : t.zone ≡ suc z + r.k = r.zone in
      let w : r.k < length zones = r.within in
      record { k = suc r.k; zone = omega arith; within = omega arith; layer = r.layer; has = r.has }
]

tasks_have : (count z : ℕ) (zones : List Zone) (k l : ℕ) → k < length zones → l < count → has_layer (get_or zones k no_zone).layers l ≡ true
    → IsOneOf (task (z + k) l) (tasks_from count z zones)
tasks_have count z [] k l h c e = absurd (omega arith)
tasks_have count z (y ∷ zones) zero l h c e =
    append_left (task (z + 0) l) (map (task z) (layers_below y.layers count)) (tasks_from count (suc z) zones)
    (subst (λ (x : ℕ). IsOneOf (task x l) (map (task z) (layers_below y.layers count))) same (map_one_of (task z) l (layers_below y.layers count) (layers_have y.layers count l c e)))
  where
    same : z ≡ z + 0
    same = omega arith
tasks_have count z (y ∷ zones) (suc k) l h c e =
    append_right (task (z + suc k) l) (map (task z) (layers_below y.layers count)) (tasks_from count (suc z) zones)
    (subst (λ (x : ℕ). IsOneOf (task x l) (tasks_from count (suc z) zones)) same (tasks_have count (suc z) zones k l less c e))
  where
    same : suc z + k ≡ z + suc k
    same = omega arith

    less : k < length zones
    less = omega arith

tasks_filed : (count z : ℕ) (zones : List Zone) → IsSortedBy IsFiled (tasks_from count z zones)
unfolding IsSortedBy
tasks_filed count z [] = tt
tasks_filed count z (y ∷ zones) =
    sorted_append IsFiled (map (task z) (layers_below y.layers count)) (tasks_from count (suc z) zones)
    (sorted_map IsBelow IsFiled (task z) (λ a b h. inr (refl, h)) (layers_below y.layers count) (layers_sorted y.layers count))
    (tasks_filed count (suc z) zones)
    (λ s t i j.
    let r = one_of_map (task z) s (layers_below y.layers count) i in
    let q = tasks_are count (suc z) zones t j in
    let se : s.zone ≡ z = ap (λ (u : Task). u.zone) r.2 in
    let te : t.zone ≡ suc z + q.k = q.zone in
    inl (omega arith))

-- ---- by priority
le_true : (a b : ℕ) → nat_le a b ≡ true → a ≤ b
le_true a b e = grind (arith, nat_tests)

le_false : (a b : ℕ) → nat_le a b ≡ false → b < a
le_false a b e = grind (arith, nat_tests)

outranks_by : (b : Board) (t y : Task) → (task_zone b y).priority ≤ (task_zone b t).priority → IsFiled t y → Outranks b t y
outranks_by b t y h f = elim (cases_lt (task_zone b y).priority (task_zone b t).priority) [
  | inl l ↦ inl l
  | inr g ↦ inr (omega arith, f)
]

outranks_le : (b : Board) (s t : Task) → Outranks b s t → (task_zone b t).priority ≤ (task_zone b s).priority
outranks_le b s t (inl h) = omega arith
outranks_le b s t (inr (e, f)) = omega (arith, e)

abbrev IsPut : Task → List Task → Task → Type 0
IsPut t us x = (x ≡ t) ⊎ IsOneOf x us

put_are : (b : Board) (t : Task) (us : List Task) (x : Task) → IsOneOf x (put_by_priority b t us) → IsPut t us x
unfolding IsOneOf
put_are b t [] x h = h
put_are b t (u ∷ us) x h = pick (nat_le (task_zone b u).priority (task_zone b t).priority) h (put_are b t us x)
  where
    pick : (c : Bool) → IsOneOf x (cond c (t ∷ u ∷ us) (u ∷ put_by_priority b t us)) → (IsOneOf x (put_by_priority b t us) → IsPut t us x) → IsPut t (u ∷ us) x
    pick true i k = i
    pick false (inl e) k = inr (inl e)
    pick false (inr i) k = elim (k i) [ inl e ↦ inl e | inr j ↦ inr (inr j) ]

put_have : (b : Board) (t : Task) (us : List Task) (x : Task) → IsPut t us x → IsOneOf x (put_by_priority b t us)
unfolding IsOneOf
put_have b t [] x h = h
put_have b t (u ∷ us) x h = pick (nat_le (task_zone b u).priority (task_zone b t).priority) h (put_have b t us x)
  where
    pick : (c : Bool) → IsPut t (u ∷ us) x → (IsPut t us x → IsOneOf x (put_by_priority b t us)) → IsOneOf x (cond c (t ∷ u ∷ us) (u ∷ put_by_priority b t us))
    pick true i k = i
    pick false (inl e) k = inr (k (inl e))
    pick false (inr (inl e)) k = inl e
    pick false (inr (inr i)) k = inr (k (inr i))

put_sorted : (b : Board) (t : Task) (us : List Task) → ((y : Task) → IsOneOf y us → IsFiled t y) → IsSortedBy (Outranks b) us → IsSortedBy (Outranks b) (put_by_priority b t us)
unfolding IsSortedBy IsOneOf
put_sorted b t [] f h = (λ y i. absurd i, tt)
put_sorted b t (u ∷ us) f h = pick (nat_le (task_zone b u).priority (task_zone b t).priority) refl (put_sorted b t us (λ y i. f y (inr i)) h.1)
  where
    pick : (c : Bool) → nat_le (task_zone b u).priority (task_zone b t).priority ≡ c → IsSortedBy (Outranks b) (put_by_priority b t us) → IsSortedBy (Outranks b) (cond c (t ∷ u ∷ us) (u ∷ put_by_priority b t us))
    pick true e k = (
      λ y i. elim i [
        | inl q ↦ subst (Outranks b t) (sym q) (outranks_by b t u (le_true _ _ e) (f u (inl refl)))
        | inr j ↦ let a : (task_zone b y).priority ≤ (task_zone b u).priority = outranks_le b u y (h.0 y j) in
            let c : (task_zone b u).priority ≤ (task_zone b t).priority = le_true _ _ e in
            outranks_by b t y (omega arith) (f y (inr j))
      ],
      h,
    )
    pick false e k = (
      λ y i. elim (put_are b t us y i) [
        | inl q ↦ subst (Outranks b u) (sym q) (inl (le_false _ _ e))
        | inr j ↦ h.0 y j
      ],
      k,
    )

all_are : (b : Board) (ts : List Task) (x : Task) → IsOneOf x (put_all b ts) → IsOneOf x ts
unfolding IsOneOf
all_are b [] x h = h
all_are b (t ∷ ts) x h = elim (put_are b t (put_all b ts) x h) [ inl e ↦ inl e | inr i ↦ inr (all_are b ts x i) ]

all_have : (b : Board) (ts : List Task) (x : Task) → IsOneOf x ts → IsOneOf x (put_all b ts)
unfolding IsOneOf
all_have b [] x h = h
all_have b (t ∷ ts) x (inl e) = put_have b t (put_all b ts) x (inl e)
all_have b (t ∷ ts) x (inr i) = put_have b t (put_all b ts) x (inr (all_have b ts x i))

all_sorted : (b : Board) (ts : List Task) → IsSortedBy IsFiled ts → IsSortedBy (Outranks b) (put_all b ts)
unfolding IsSortedBy
all_sorted b [] h = tt
all_sorted b (t ∷ ts) h = put_sorted b t (put_all b ts) (λ y i. h.0 y (all_are b ts y i)) (all_sorted b ts h.1)

pub ranked_is : (b : Board) → IsRanking b (ranked b)
unfolding ranked task_zone
ranked_is b = record {
  members = λ t. (
    λ i.
        let r = tasks_are (length b.layers) 0 b.zones t (all_are b (tasks_from (length b.layers) 0 b.zones) t i) in
        let e : r.k ≡ t.zone = omega (arith, r.zone) in
        record { zone = omega (arith, r.within); layer = r.layer; has = subst (λ (k : ℕ). has_layer (get_or b.zones k no_zone).layers t.layer ≡ true) e r.has },
    λ k.
        all_have b (tasks_from (length b.layers) 0 b.zones) t
        (subst (λ (z : ℕ). IsOneOf (task z t.layer) (tasks_from (length b.layers) 0 b.zones)) (zero_plus t.zone) (tasks_have (length b.layers) 0 b.zones t.zone t.layer k.zone k.layer k.has)),
  );
  sorted = all_sorted b (tasks_from (length b.layers) 0 b.zones) (tasks_filed (length b.layers) 0 b.zones);
}
  where
    zero_plus : (n : ℕ) → 0 + n ≡ n
    zero_plus n = omega arith
