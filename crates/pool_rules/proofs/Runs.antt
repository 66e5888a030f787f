-- Every lawful run is a good one.
use Rattle.std.proofs.Common.{◌≡◌, refl, sym, ◌∙◌, ap, subst, ℕ, zero, suc, ◌+◌, ◌≤◌, ◌<◌, ◌⊎◌, inl, inr, arith, List, [], ◌∷◌, ◌++◌, length, get_or, set, replicate, length-set}
use Rattle.std.specs.Prelude.{Bool, true, false, cond, ◌==◌}
use Rattle.std.proofs.lemmas.Bool.{cases_eq, eq-eqb, ne_eqb, cases_lt}
use Rattle.std.proofs.lemmas.List.{get_or-set_same, get_or-set_other}
use Rattle.pool_rules.specs.declared.PoolEvent.{PoolEvent}
use Rattle.pool_rules.specs.declared.PoolEvent.TheVariants.{Take, Finish, Back}
use Rattle.pool_rules.specs.declared.Slot.{Slot}
use Rattle.pool_rules.specs.declared.Slot.TheVariants.{Waiting, Held, Finished, Returned}
use Rattle.pool_rules.specs.Runs.{PoolState, slot_at, opening, pool_step, run, IsTake, IsEvent, IsReady, IsLawful}
use Rattle.pool_rules.specs.Laws.{IsUpward, finish_of, finishes, take_of, takes, event_task, IsGoodRun, GoodRunsLaw, HeldLaw, OneTakeLaw, EventsLaw}

-- ---- slots
abbrev done_of : Slot → ℕ
done_of Finished = 1
done_of Waiting = 0
done_of (Held w) = 0
done_of Returned = 0

abbrev IsBackSlot : Slot → Type 0
IsBackSlot Returned = Unit {0}
IsBackSlot Waiting = ⊥
IsBackSlot (Held w) = ⊥
IsBackSlot Finished = ⊥

-- how many events a task has had
abbrev rank : Slot → ℕ
rank Waiting = 0
rank (Held w) = 1
rank Finished = 2
rank Returned = 2

abbrev weigh : List Slot → ℕ
weigh [] = 0
weigh (x ∷ xs) = rank x + weigh xs

done_le : (x : Slot) → done_of x ≤ 1
done_le Waiting = omega arith
done_le (Held w) = omega arith
done_le Finished = omega arith
done_le Returned = omega arith

rank_le : (x : Slot) → rank x ≤ 2
rank_le Waiting = omega arith
rank_le (Held w) = omega arith
rank_le Finished = omega arith
rank_le Returned = omega arith

weigh_le : (xs : List Slot) → weigh xs ≤ length xs + length xs
weigh_le [] = omega arith
weigh_le (x ∷ xs) = omega (arith, rank_le x, weigh_le xs)

weigh-set : (xs : List Slot) (i : ℕ) (y : Slot) → i < length xs → weigh (set xs i y) + rank (get_or xs i Finished) ≡ weigh xs + rank y
weigh-set [] i y h = absurd (omega arith)
weigh-set (x ∷ xs) zero y h = omega arith
weigh-set (x ∷ xs) (suc i) y h = omega (arith, weigh-set xs i y (omega arith))

weigh-replicate : (n : ℕ) → weigh (replicate n Waiting) ≡ 0
weigh-replicate zero = refl
weigh-replicate (suc n) = omega (arith, weigh-replicate n)

-- a task whose slot is not that past the end is within
within : (xs : List Slot) (i : ℕ) → (get_or xs i Finished ≡ Finished → ⊥) → i < length xs
within [] i h = absurd (h refl)
within (x ∷ xs) zero h = omega arith
within (x ∷ xs) (suc i) h = let r : i < length xs = within xs i h in omega arith

pub waiting_within : (xs : List Slot) (i : ℕ) → get_or xs i Finished ≡ Waiting → i < length xs
waiting_within xs i e = within xs i (λ f. let g : Waiting ≡ Finished = sym e ∙ f in cc)

pub held_within : (xs : List Slot) (i w : ℕ) → get_or xs i Finished ≡ Held w → i < length xs
held_within xs i w e = within xs i (λ f. let g : Held w ≡ Finished = sym e ∙ f in cc)

pub get_or-replicate : (n i : ℕ) → i < n → get_or (replicate n Waiting) i Finished ≡ Waiting
get_or-replicate zero i h = absurd (omega arith)
get_or-replicate (suc n) zero h = refl
get_or-replicate (suc n) (suc i) h = get_or-replicate n i (omega arith)

pub length-replicate : (n : ℕ) → length (replicate n Waiting) ≡ n
length-replicate zero = refl
length-replicate (suc n) = ap suc (length-replicate n)

-- what of the slot of i changes where that of k does
done-set : (xs : List Slot) (k i : ℕ) (y : Slot) → k < length xs → (a : ℕ) → done_of y ≡ done_of (get_or xs k Finished) + a
    → done_of (get_or (set xs k y) i Finished) ≡ done_of (get_or xs i Finished) + cond (k == i) a 0
done-set xs k i y h a e = elim (cases_eq i k) [
  | inl q ↦ subst (λ j. done_of (get_or (set xs k y) j Finished) ≡ done_of (get_or xs j Finished) + cond (k == j) a 0) (sym q)
      (rw (get_or-set_same xs k y Finished h, eq-eqb k k refl) e)
  | inr ne ↦ rw (get_or-set_other xs k i y Finished ne, ne_eqb k i (λ r. ne (sym r))) (omega arith)
]

-- ---- one event
length_step : (reach : ℕ → ℕ → Bool) (s : PoolState) (e : PoolEvent) → length (pool_step s e).slots ≡ length s.slots
length_step reach s (Take w i) = length-set s.slots i (Held w)
length_step reach s (Finish w i) = length-set s.slots i Finished
length_step reach s (Back w i) = length-set s.slots i Returned

cond_zero : (b : Bool) → cond {A = ℕ} b 0 0 ≡ 0
cond_zero true = refl
cond_zero false = refl

done_step : (reach : ℕ → ℕ → Bool) (s : PoolState) (e : PoolEvent) → IsEvent reach s e → (i : ℕ)
    → done_of (slot_at (pool_step s e) i) ≡ done_of (slot_at s i) + finish_of i e
done_step reach s (Take w k) h i =
    let r = done-set s.slots k i (Held w) (waiting_within s.slots k h.ready.waiting) 0 (rw h.ready.waiting refl) in
    r ∙ ap (λ (z : ℕ). done_of (slot_at s i) + z) (cond_zero (k == i))
done_step reach s (Finish w k) h i = done-set s.slots k i Finished (held_within s.slots k w h) 1 (rw h refl)
done_step reach s (Back w k) h i =
    let r = done-set s.slots k i Returned (held_within s.slots k w h) 0 (rw h refl) in
    r ∙ ap (λ (z : ℕ). done_of (slot_at s i) + z) (cond_zero (k == i))

weigh_step : (reach : ℕ → ℕ → Bool) (s : PoolState) (e : PoolEvent) → IsEvent reach s e → weigh (pool_step s e).slots ≡ weigh s.slots + 1
weigh_step reach s (Take w k) h =
    let r = weigh-set s.slots k (Held w) (waiting_within s.slots k h.ready.waiting) in
    let q : rank (slot_at s k) ≡ 0 = ap rank h.ready.waiting in omega arith
weigh_step reach s (Finish w k) h =
    let r = weigh-set s.slots k Finished (held_within s.slots k w h) in
    let q : rank (slot_at s k) ≡ 1 = ap rank h in omega arith
weigh_step reach s (Back w k) h =
    let r = weigh-set s.slots k Returned (held_within s.slots k w h) in
    let q : rank (slot_at s k) ≡ 1 = ap rank h in omega arith

-- none stands given back, or one was
abbrev IsCalm : PoolState → Type 0
IsCalm s = s.backed ≡ false → (i : ℕ) → slot_at s i ≡ Returned → ⊥

calm-set : (xs : List Slot) (k : ℕ) (y : Slot) → k < length xs → (y ≡ Returned → ⊥) → ((i : ℕ) → get_or xs i Finished ≡ Returned → ⊥)
    → (i : ℕ) → get_or (set xs k y) i Finished ≡ Returned → ⊥
calm-set xs k y h ne f i e = elim (cases_eq i k) [
  | inl q ↦ ne (sym (get_or-set_same xs k y Finished h) ∙ (ap (λ j. get_or (set xs k y) j Finished) (sym q) ∙ e))
  | inr d ↦ f i (sym (get_or-set_other xs k i y Finished d) ∙ e)
]

calm_step : (reach : ℕ → ℕ → Bool) (s : PoolState) (e : PoolEvent) → IsEvent reach s e → IsCalm s → IsCalm (pool_step s e)
calm_step reach s (Take w k) h c b = calm-set s.slots k (Held w) (waiting_within s.slots k h.ready.waiting) (λ e. cc) (c b)
calm_step reach s (Finish w k) h c b = calm-set s.slots k Finished (held_within s.slots k w h) (λ e. cc) (c b)
calm_step reach s (Back w k) h c b = absurd (true_false b)
  where
    true_false : true ≡ false → ⊥
    true_false e = cc

-- ---- whole runs
pub lawful_parts : (reach : ℕ → ℕ → Bool) (s : PoolState) (xs ys : List PoolEvent) → IsLawful reach s (xs ++ ys) → IsLawful reach s xs × IsLawful reach (run s xs) ys
unfolding IsLawful
lawful_parts reach s [] ys h = (tt, h)
lawful_parts reach s (x ∷ xs) ys h = let r = lawful_parts reach (pool_step s x) xs ys h.1 in ((h.0, r.0), r.1)

pub lawful_more : (reach : ℕ → ℕ → Bool) (s : PoolState) (xs : List PoolEvent) (e : PoolEvent) → IsLawful reach s xs → IsEvent reach (run s xs) e → IsLawful reach s (xs ++ e ∷ [])
unfolding IsLawful
lawful_more reach s [] e h g = (g, tt)
lawful_more reach s (x ∷ xs) e h g = (h.0, lawful_more reach (pool_step s x) xs e h.1 g)

pub run_more : (s : PoolState) (xs : List PoolEvent) (e : PoolEvent) → run s (xs ++ e ∷ []) ≡ pool_step (run s xs) e
run_more s [] e = refl
run_more s (x ∷ xs) e = run_more (pool_step s x) xs e

pub length_run : (reach : ℕ → ℕ → Bool) (s : PoolState) (es : List PoolEvent) → length (run s es).slots ≡ length s.slots
length_run reach s [] = refl
length_run reach s (e ∷ es) = length_run reach (pool_step s e) es ∙ length_step reach s e

done_run : (reach : ℕ → ℕ → Bool) (s : PoolState) (es : List PoolEvent) → IsLawful reach s es → (i : ℕ)
    → done_of (slot_at (run s es) i) ≡ done_of (slot_at s i) + finishes i es
unfolding IsLawful
done_run reach s [] h i = omega arith
done_run reach s (e ∷ es) h i = omega (arith, done_run reach (pool_step s e) es h.1 i, done_step reach s e h.0 i)

weigh_run : (reach : ℕ → ℕ → Bool) (s : PoolState) (es : List PoolEvent) → IsLawful reach s es → weigh (run s es).slots ≡ weigh s.slots + length es
unfolding IsLawful
weigh_run reach s [] h = omega arith
weigh_run reach s (e ∷ es) h = omega (arith, weigh_run reach (pool_step s e) es h.1, weigh_step reach s e h.0)

calm_run : (reach : ℕ → ℕ → Bool) (s : PoolState) (es : List PoolEvent) → IsLawful reach s es → IsCalm s → IsCalm (run s es)
unfolding IsLawful
calm_run reach s [] h c = c
calm_run reach s (e ∷ es) h c = calm_run reach (pool_step s e) es h.1 (calm_step reach s e h.0 c)

opening_calm : (n : ℕ) → IsCalm (opening n)
opening_calm n b i e = go n i e
  where
    go : (m k : ℕ) → get_or (replicate m Waiting) k Finished ≡ Returned → ⊥
    go zero k f = cc
    go (suc m) zero f = cc
    go (suc m) (suc k) f = go m k f

-- ---- the least unfinished task
abbrev HasLeast : PoolState → Type 0
HasLeast s = (k : ℕ) × (done_of (slot_at s k) ≡ 0) × ((j : ℕ) → j < k → done_of (slot_at s j) ≡ 1)

least_below : (s : PoolState) (n : ℕ) → HasLeast s ⊎ ((j : ℕ) → j < n → done_of (slot_at s j) ≡ 1)
least_below s zero = inr (λ j h. absurd (omega arith))
least_below s (suc n) = elim (least_below s n) [
  | inl l ↦ inl l
  | inr all ↦ elim (cases_lt 0 (done_of (slot_at s n))) [
    | inl p ↦ inr (λ j h. elim (cases_eq j n) [
      | inl e ↦ subst (λ k. done_of (slot_at s k) ≡ 1) (sym e) (omega (arith, done_le (slot_at s n)))
      | inr ne ↦ all j (omega (arith, ne))
    ])
    | inr z ↦ inl (n, omega arith, all)
  ]
]

done_is : (x : Slot) → done_of x ≡ 1 → x ≡ Finished
done_is Waiting e = absurd (omega arith)
done_is (Held w) e = absurd (omega arith)
done_is Finished e = refl
done_is Returned e = absurd (omega arith)

waiting_is : (x : Slot) → done_of x ≡ 0 → ((w : ℕ) → x ≡ Held w → ⊥) → (x ≡ Returned → ⊥) → x ≡ Waiting
waiting_is Waiting e h r = refl
waiting_is (Held w) e h r = absurd (h w refl)
waiting_is Finished e h r = absurd (omega arith)
waiting_is Returned e h r = absurd (r refl)

-- the least unfinished task may be taken
least_take : (reach : ℕ → ℕ → Bool) → IsUpward reach → (s : PoolState) → IsCalm s → s.backed ≡ false
    → ((i w : ℕ) → slot_at s i ≡ Held w → ⊥) → (l : HasLeast s) → IsTake reach s l.0
least_take reach up s c b none (k, z, all) = record {
  calm = b;
  ready = record {
    waiting = waiting_is (slot_at s k) z (none k) (c b k);
    done = λ j r. done_is (slot_at s j) (all j (up j k r));
  };
  least = λ j h r. let d : 0 ≡ 1 = sym (ap done_of r.waiting) ∙ all j h in omega arith;
}

good_once : (reach : ℕ → ℕ → Bool) (n : ℕ) (es : List PoolEvent) → IsLawful reach (opening n) es → (i : ℕ) → finishes i es ≤ 1
good_once reach n es h i = omega (arith, done_run reach (opening n) es h i, done_le (slot_at (run (opening n) es) i))

opening_open : (n i : ℕ) → i < n → done_of (slot_at (opening n) i) ≡ 0
opening_open n i h = ap done_of (get_or-replicate n i h)

good_before : (reach : ℕ → ℕ → Bool) → IsUpward reach → (n : ℕ) (xs ys : List PoolEvent) (w i : ℕ)
    → IsLawful reach (opening n) (xs ++ Take w i ∷ ys) → (j : ℕ) → reach j i ≡ true → finishes j xs ≡ 1
unfolding IsLawful
good_before reach up n xs ys w i h j r =
    let p = lawful_parts reach (opening n) xs (Take w i ∷ ys) h in
    let t : IsTake reach (run (opening n) xs) i = p.1.0 in
    let inside : i < length (run (opening n) xs).slots = waiting_within (run (opening n) xs).slots i t.ready.waiting in
    let size : length (run (opening n) xs).slots ≡ n = length_run reach (opening n) xs ∙ length-replicate n in
    let less : j < i = up j i r in
    let zero_ : done_of (slot_at (opening n) j) ≡ 0 = opening_open n j (omega arith) in
    let one : done_of (slot_at (run (opening n) xs) j) ≡ 1 = ap done_of (t.ready.done j r) in
    omega (arith, done_run reach (opening n) xs p.0 j)

good_on : (reach : ℕ → ℕ → Bool) → IsUpward reach → (n : ℕ) (es : List PoolEvent) → IsLawful reach (opening n) es
    → (run (opening n) es).backed ≡ false → ((i w : ℕ) → slot_at (run (opening n) es) i ≡ Held w → ⊥)
    → (i : ℕ) → i < n → finishes i es ≡ 0 → (k : ℕ) × ((w : ℕ) → IsLawful reach (opening n) (es ++ Take w k ∷ []))
good_on reach up n es h b none i l z =
    let s = run (opening n) es in
    let open_ : done_of (slot_at s i) ≡ 0 = omega (arith, done_run reach (opening n) es h i, opening_open n i l) in
    elim (least_below s (suc i)) [
      | inl m ↦ (m.0, λ w. lawful_more reach (opening n) es (Take w m.0) h (least_take reach up s (calm_run reach (opening n) es h (opening_calm n)) b none m))
      | inr all ↦ let d : done_of (slot_at s i) ≡ 1 = all i (omega arith) in absurd (omega arith)
    ]

pub good_short : (reach : ℕ → ℕ → Bool) (n : ℕ) (es : List PoolEvent) → IsLawful reach (opening n) es → length es ≤ n + n
good_short reach n es h =
    omega (arith, weigh_run reach (opening n) es h, weigh-replicate n, weigh_le (run (opening n) es).slots, length_run reach (opening n) es, length-replicate n)

-- ---- what is above a held task is finished
finished_stays : (reach : ℕ → ℕ → Bool) (s : PoolState) (e : PoolEvent) → IsEvent reach s e → (j : ℕ) → slot_at s j ≡ Finished → slot_at (pool_step s e) j ≡ Finished
finished_stays reach s (Take w k) h j f = elim (cases_eq j k) [
  | inl q ↦ let g : Waiting ≡ Finished = sym h.ready.waiting ∙ (ap (slot_at s) (sym q) ∙ f) in cc
  | inr ne ↦ get_or-set_other s.slots k j (Held w) Finished ne ∙ f
]
finished_stays reach s (Finish w k) h j f = elim (cases_eq j k) [
  | inl q ↦ let g : Held w ≡ Finished = sym h ∙ (ap (slot_at s) (sym q) ∙ f) in cc
  | inr ne ↦ get_or-set_other s.slots k j Finished Finished ne ∙ f
]
finished_stays reach s (Back w k) h j f = elim (cases_eq j k) [
  | inl q ↦ let g : Held w ≡ Finished = sym h ∙ (ap (slot_at s) (sym q) ∙ f) in cc
  | inr ne ↦ get_or-set_other s.slots k j Returned Finished ne ∙ f
]

abbrev IsHeldDone : (ℕ → ℕ → Bool) → PoolState → Type 0
IsHeldDone reach s = (i v : ℕ) → slot_at s i ≡ Held v → (j : ℕ) → reach j i ≡ true → slot_at s j ≡ Finished

held_set : (xs : List Slot) (k i v : ℕ) (y : Slot) → k < length xs → get_or (set xs k y) i Finished ≡ Held v → (y ≡ Held v) ⊎ (get_or xs i Finished ≡ Held v)
held_set xs k i v y l h = elim (cases_eq i k) [
  | inl q ↦ inl (sym (get_or-set_same xs k y Finished l) ∙ (ap (λ (n : ℕ). get_or (set xs k y) n Finished) (sym q) ∙ h))
  | inr ne ↦ inr (sym (get_or-set_other xs k i y Finished ne) ∙ h)
]

held_done_step : (reach : ℕ → ℕ → Bool) (s : PoolState) (e : PoolEvent) → IsEvent reach s e → IsHeldDone reach s → IsHeldDone reach (pool_step s e)
held_done_step reach s (Take w k) h a i v g j r = elim (cases_eq i k) [
  | inl q ↦ finished_stays reach s (Take w k) h j (h.ready.done j (subst (λ (n : ℕ). reach j n ≡ true) q r))
  | inr ne ↦ finished_stays reach s (Take w k) h j (a i v (sym (get_or-set_other s.slots k i (Held w) Finished ne) ∙ g) j r)
]
held_done_step reach s (Finish w k) h a i v g j r =
    finished_stays reach s (Finish w k) h j (elim (held_set s.slots k i v Finished (held_within s.slots k w h) g) [
      | inl e ↦ absurd (apart e)
      | inr e ↦ a i v e j r
    ])
  where
    apart : Finished ≡ Held v → ⊥
    apart e = cc
held_done_step reach s (Back w k) h a i v g j r =
    finished_stays reach s (Back w k) h j (elim (held_set s.slots k i v Returned (held_within s.slots k w h) g) [
      | inl e ↦ absurd (apart e)
      | inr e ↦ a i v e j r
    ])
  where
    apart : Returned ≡ Held v → ⊥
    apart e = cc

held_done_run : (reach : ℕ → ℕ → Bool) (s : PoolState) (es : List PoolEvent) → IsLawful reach s es → IsHeldDone reach s → IsHeldDone reach (run s es)
unfolding IsLawful
held_done_run reach s [] h a = a
held_done_run reach s (e ∷ es) h a = held_done_run reach (pool_step s e) es h.1 (held_done_step reach s e h.0 a)

opening_none : (n i v : ℕ) → get_or (replicate n Waiting) i Finished ≡ Held v → ⊥
opening_none zero i v h = cc
opening_none (suc n) zero v h = cc
opening_none (suc n) (suc i) v h = opening_none n i v h

-- each task that reaches a held one is finished
pub held_done : HeldLaw
held_done reach n es h = held_done_run reach (opening n) es h (λ i v e. absurd (opening_none n i v e))

-- ---- who holds a task took it
holder_of : Slot → ℕ
holder_of Waiting = 0
holder_of (Held w) = w
holder_of Finished = 0
holder_of Returned = 0

held_step : (reach : ℕ → ℕ → Bool) (s : PoolState) (e : PoolEvent) (w i : ℕ) → IsEvent reach s e → slot_at (pool_step s e) i ≡ Held w → (slot_at s i ≡ Held w) ⊎ 1 ≤ take_of w i e
unfolding holder_of
held_step reach s (Take v k) w i h g = elim (cases_eq i k) [
  | inl q ↦
      let now : Held v ≡ Held w = sym (get_or-set_same s.slots k (Held v) Finished (waiting_within s.slots k h.ready.waiting)) ∙ (ap (λ (n : ℕ). slot_at (pool_step s (Take v k)) n) (sym q) ∙ g) in
      let who : v ≡ w = ap holder_of now in
      inr (rw (eq-eqb v w who, eq-eqb k i (sym q)) (omega arith))
  | inr ne ↦ inl (sym (get_or-set_other s.slots k i (Held v) Finished ne) ∙ g)
]
held_step reach s (Finish v k) w i h g = elim (held_set s.slots k i w Finished (held_within s.slots k v h) g) [
  | inl e ↦ absurd (apart e)
  | inr e ↦ inl e
]
  where
    apart : Finished ≡ Held w → ⊥
    apart e = cc
held_step reach s (Back v k) w i h g = elim (held_set s.slots k i w Returned (held_within s.slots k v h) g) [
  | inl e ↦ absurd (apart e)
  | inr e ↦ inl e
]
  where
    apart : Returned ≡ Held w → ⊥
    apart e = cc

held_taken : (reach : ℕ → ℕ → Bool) (s : PoolState) (es : List PoolEvent) (w i : ℕ) → IsLawful reach s es → slot_at (run s es) i ≡ Held w → (slot_at s i ≡ Held w) ⊎ 1 ≤ takes w i es
unfolding IsLawful
held_taken reach s [] w i h g = inl g
held_taken reach s (e ∷ es) w i h g = elim (held_taken reach (pool_step s e) es w i h.1 g) [
  | inl a ↦ elim (held_step reach s e w i h.0 a) [
    | inl b ↦ inl b
    | inr b ↦ inr (omega (arith, b))
  ]
  | inr a ↦ inr (omega (arith, a))
]

good_own : (reach : ℕ → ℕ → Bool) (n : ℕ) (xs ys : List PoolEvent) (w i : ℕ) → IsLawful reach (opening n) (xs ++ Finish w i ∷ ys) → 1 ≤ takes w i xs
unfolding IsLawful
good_own reach n xs ys w i h =
    let p = lawful_parts reach (opening n) xs (Finish w i ∷ ys) h in
    elim (held_taken reach (opening n) xs w i p.0 p.1.0) [
      | inl e ↦ absurd (opening_none n i w e)
      | inr t ↦ t
    ]

-- ---- the laws
pub lawful_good : GoodRunsLaw
lawful_good reach up n es h = record {
  once = good_once reach n es h;
  own = λ xs ys w i e. good_own reach n xs ys w i (subst (IsLawful reach (opening n)) e h);
  before = λ xs ys w i e j r. good_before reach up n xs ys w i (subst (IsLawful reach (opening n)) e h) j r;
  goes_on = good_on reach up n es h;
  short = good_short reach n es h;
}

-- ---- one take at a time, and what events do
pub one_take : OneTakeLaw
one_take reach s i j h g = elim (cases_lt i j) [
  | inl l ↦ absurd (g.least i l h.ready)
  | inr l ↦ elim (cases_lt j i) [
    | inl k ↦ absurd (h.least j k g.ready)
    | inr k ↦ omega (arith, l, k)
  ]
]

stays : (s : PoolState) (e : PoolEvent) (j : ℕ) → (event_task e ≡ j → ⊥) → slot_at (pool_step s e) j ≡ slot_at s j
stays s (Take w i) j ne = get_or-set_other s.slots i j (Held w) Finished (λ q. ne (sym q))
stays s (Finish w i) j ne = get_or-set_other s.slots i j Finished Finished (λ q. ne (sym q))
stays s (Back w i) j ne = get_or-set_other s.slots i j Returned Finished (λ q. ne (sym q))

pub events : EventsLaw
events = record {
  take = λ reach s w i h. get_or-set_same s.slots i (Held w) Finished (waiting_within s.slots i h.ready.waiting);
  finish = λ reach s w i h. get_or-set_same s.slots i Finished Finished (held_within s.slots i w h);
  back = λ reach s w i h. get_or-set_same s.slots i Returned Finished (held_within s.slots i w h);
  rest = stays;
  halt = λ s w i. refl;
}
