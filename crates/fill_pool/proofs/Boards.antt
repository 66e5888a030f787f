-- Runs of a board's pool: what the tables of a program say is what the board says.
use Rattle.std.proofs.Common.{◌≡◌, refl, sym, ◌∙◌, ap, subst, ℕ, zero, suc, ◌+◌, ◌≤◌, ◌<◌, ◌⊎◌, inl, inr, arith, List, [], ◌∷◌, ◌++◌, length, get_or}
use Rattle.std.specs.Prelude.{Bool, true, false, cond, ◌==◌, ◌↔◌}
use Rattle.std.specs.List.{All}
use Rattle.std.proofs.lemmas.Bool.{cases_eq, cases_lt, eq-eqb, ne_eqb, true≢false}
use Rattle.classes.specs.Classes.{IsOneOf}
use Rattle.board_language.specs.Board.{Board}
use Rattle.pool_rules.specs.declared.PoolEvent.{PoolEvent}
use Rattle.pool_rules.specs.declared.PoolEvent.TheVariants.{Take, Finish, Back}
use Rattle.pool_rules.specs.declared.Slot.TheVariants.{Waiting, Held}
use Rattle.pool_rules.specs.Runs.{PoolState, slot_at, opening, pool_step, run, IsReady, IsTake, IsEvent, IsLawful}
use Rattle.pool_rules.specs.Laws.{IsUpward}
use Rattle.pool_rules.proofs.Runs.{waiting_within, held_within, lawful_more, lawful_parts, length_run, length-replicate, good_short, held_done, lawful_good}
use Rattle.fill_pool.specs.Runs.{count_of, IsReachOf, state_of, IsRunOf, IsHalted, IsReadyIn, IsNext, IsHeldBy}
use Rattle.fill_pool.specs.Inner.Tables.{IsTableOf}
use Rattle.fill_pool.specs.Laws.{BoardRunsLaw, FollowsLaw, AboveLaw}

-- ---- members of a list
abbrev pub has : ℕ → List ℕ → Bool
has j [] = false
has j (k ∷ ks) = cond (j == k) true (has j ks)

has_is : (j : ℕ) (row : List ℕ) → has j row ≡ true → IsOneOf j row
unfolding IsOneOf
has_is j [] e = absurd (true≢false (sym e))
has_is j (k ∷ ks) e = elim (cases_eq j k) [
  | inl q ↦ inl q
  | inr ne ↦ inr (has_is j ks (sym (ap (λ (b : Bool). cond b true (has j ks)) (ne_eqb j k ne)) ∙ e))
]

is_has : (j : ℕ) (row : List ℕ) → IsOneOf j row → has j row ≡ true
unfolding IsOneOf
is_has j [] h = absurd h
is_has j (k ∷ ks) (inl q) = ap (λ (b : Bool). cond b true (has j ks)) (eq-eqb j k q)
is_has j (k ∷ ks) (inr h) = go (j == k) (is_has j ks h)
  where
    go : (b : Bool) → has j ks ≡ true → cond b true (has j ks) ≡ true
    go true e = refl
    go false e = e

pub all_one_of : {A : Type 0} (P : A → Type 0) (xs : List A) (x : A) → All P xs → IsOneOf x xs → P x
unfolding IsOneOf
all_one_of P [] x h i = absurd i
all_one_of P (y ∷ xs) x h (inl e) = subst P (sym e) (h 0 y (omega arith))
all_one_of P (y ∷ xs) x h (inr i) = all_one_of P xs x (λ k d l. h (suc k) d (omega (arith, l))) i

pub one_of_get : {A : Type 0} (xs : List A) (k : ℕ) (d : A) → k < length xs → IsOneOf (get_or xs k d) xs
unfolding IsOneOf
one_of_get [] k d l = absurd (omega arith)
one_of_get (x ∷ xs) zero d l = inl refl
one_of_get (x ∷ xs) (suc k) d l = inr (one_of_get xs k d (omega (arith, l)))

past : {A : Type 0} (xs : List A) (k : ℕ) (d : A) → length xs ≤ k → get_or xs k d ≡ d
past [] k d l = refl
past (x ∷ xs) zero d l = absurd (omega (arith, l))
past (x ∷ xs) (suc k) d l = past xs k d (omega (arith, l))

-- ---- given back
backed_run : (s : PoolState) (es : List PoolEvent) → (run s es).backed ≡ true → (s.backed ≡ true) ⊎ IsHalted es
unfolding IsOneOf
backed_run s [] h = inl h
backed_run s (Take w i ∷ es) h = elim (backed_run (pool_step s (Take w i)) es h) [ inl b ↦ inl b | inr (v, k, o) ↦ inr (v, k, inr o) ]
backed_run s (Finish w i ∷ es) h = elim (backed_run (pool_step s (Finish w i)) es h) [ inl b ↦ inl b | inr (v, k, o) ↦ inr (v, k, inr o) ]
backed_run s (Back w i ∷ es) h = inr (w, i, inl refl)

run_backed : (s : PoolState) (es : List PoolEvent) → (s.backed ≡ true) ⊎ IsHalted es → (run s es).backed ≡ true
unfolding IsOneOf
run_backed s [] (inl h) = h
run_backed s [] (inr (w, i, o)) = absurd o
run_backed s (Take w i ∷ es) (inl h) = run_backed (pool_step s (Take w i)) es (inl h)
run_backed s (Finish w i ∷ es) (inl h) = run_backed (pool_step s (Finish w i)) es (inl h)
run_backed s (Back w i ∷ es) h = run_backed (pool_step s (Back w i)) es (inl refl)
run_backed s (Take w i ∷ es) (inr (v, k, inr o)) = run_backed (pool_step s (Take w i)) es (inr (v, k, o))
run_backed s (Finish w i ∷ es) (inr (v, k, inr o)) = run_backed (pool_step s (Finish w i)) es (inr (v, k, o))
run_backed s (Take w i ∷ es) (inr (v, k, inl e)) = absurd (let f : Back v k ≡ Take w i = e in cc)
run_backed s (Finish w i ∷ es) (inr (v, k, inl e)) = absurd (let f : Back v k ≡ Finish w i = e in cc)

pub halted_is : (b : Board) (es : List PoolEvent) → (state_of b es).backed ≡ true ↔ IsHalted es
halted_is b es = (
  λ h. elim (backed_run (opening (count_of b)) es h) [ inl e ↦ absurd (true≢false (sym e)) | inr k ↦ k ],
  λ h. run_backed (opening (count_of b)) es (inr h),
)

pub calm_is : (b : Board) (es : List PoolEvent) → (state_of b es).backed ≡ false → IsHalted es → ⊥
calm_is b es e h = true≢false (sym ((halted_is b es).1 h) ∙ e)

pub is_calm : (b : Board) (es : List PoolEvent) → (IsHalted es → ⊥) → (state_of b es).backed ≡ false
is_calm b es n = go (state_of b es).backed (λ e. n ((halted_is b es).0 e))
  where
    go : (x : Bool) → (x ≡ true → ⊥) → x ≡ false
    go true h = absurd (h refl)
    go false h = refl

-- ---- the tasks that reach a task
abbrev pub reach_of : List (List ℕ) → ℕ → ℕ → Bool
reach_of table j i = has j (get_or table i [])

pub table_reach : (b : Board) (table : List (List ℕ)) → IsTableOf b table → IsReachOf b (reach_of table)
table_reach b table t j i = (
  λ e. elim (cases_lt i (count_of b)) [
    | inl l ↦ (l, ((t.each i l).same j).0 (has_is j (get_or table i []) e))
    | inr n ↦ absurd (true≢false (sym (ap (has j) (sym (past table i [] (omega (arith, n, t.rows)))) ∙ e)))
  ],
  λ h. is_has j (get_or table i []) (((t.each i h.0).same j).1 h.1),
)

pub slots_size : (b : Board) (es : List PoolEvent) → length (state_of b es).slots ≡ count_of b
slots_size b es = length_run (λ j i. false) (opening (count_of b)) es ∙ length-replicate (count_of b)

pub waiting_in : (b : Board) (es : List PoolEvent) (i : ℕ) → slot_at (state_of b es) i ≡ Waiting → i < count_of b
waiting_in b es i w = subst (λ (n : ℕ). i < n) (slots_size b es) (waiting_within (state_of b es).slots i w)

pub held_in : (b : Board) (es : List PoolEvent) (i v : ℕ) → slot_at (state_of b es) i ≡ Held v → i < count_of b
held_in b es i v w = subst (λ (n : ℕ). i < n) (slots_size b es) (held_within (state_of b es).slots i v w)

module _ (b : Board) (reach : ℕ → ℕ → Bool) (r : IsReachOf b reach) (es : List PoolEvent) where
  ready_on : (i : ℕ) → IsReadyIn b es i → IsReady reach (state_of b es) i
  ready_on i h = record { waiting = h.waiting; done = λ j e. h.done j ((r j i).0 e).1 }

  on_ready : (i : ℕ) → IsReady reach (state_of b es) i → IsReadyIn b es i
  on_ready i h = record { waiting = h.waiting; done = λ j e. h.done j ((r j i).1 (waiting_in b es i h.waiting, e)) }

  next_take : (i : ℕ) → IsNext b es i → IsTake reach (state_of b es) i
  next_take i h = record { calm = is_calm b es h.calm; ready = ready_on i h.ready; least = λ j l e. h.first j l (on_ready j e) }

  take_next : (i : ℕ) → IsTake reach (state_of b es) i → IsNext b es i
  take_next i h = record { calm = calm_is b es h.calm; ready = on_ready i h.ready; first = λ j l e. h.least j l (ready_on j e) }

  upward : IsUpward reach
  upward j i e = ((r j i).0 e).1.above

-- ---- what may follow a run
more : (b : Board) (es : List PoolEvent) (e : PoolEvent) (w : IsRunOf b es) → ((reach : ℕ → ℕ → Bool) → IsReachOf b reach → IsEvent reach (state_of b es) e) → IsRunOf b (es ++ e ∷ [])
unfolding IsRunOf
more b es e (reach, r, l) h = (reach, r, lawful_more reach (opening (count_of b)) es e l (h reach r))

last_event : (b : Board) (es : List PoolEvent) (e : PoolEvent) → IsRunOf b (es ++ e ∷ []) → (reach : ℕ → ℕ → Bool) × IsReachOf b reach × IsEvent reach (state_of b es) e
unfolding IsRunOf IsLawful
last_event b es e (reach, r, l) = (reach, r, (lawful_parts reach (opening (count_of b)) es (e ∷ []) l).1.0)

pub take_follows : (b : Board) (es : List PoolEvent) (w i : ℕ) → IsRunOf b es → IsNext b es i → IsRunOf b (es ++ Take w i ∷ [])
take_follows b es w i h n = more b es (Take w i) h (λ reach r. next_take b reach r es i n)

pub finish_follows : (b : Board) (es : List PoolEvent) (w i : ℕ) → IsRunOf b es → IsHeldBy b es w i → IsRunOf b (es ++ Finish w i ∷ [])
finish_follows b es w i h n = more b es (Finish w i) h (λ reach r. n)

pub back_follows : (b : Board) (es : List PoolEvent) (w i : ℕ) → IsRunOf b es → IsHeldBy b es w i → IsRunOf b (es ++ Back w i ∷ [])
back_follows b es w i h n = more b es (Back w i) h (λ reach r. n)

pub follows : FollowsLaw
follows = record {
  take = take_follows;
  taken = λ b es w i h. let l = last_event b es (Take w i) h in take_next b l.0 l.1 es i l.2;
  finish = finish_follows;
  finished = λ b es w i h. (last_event b es (Finish w i) h).2;
  back = back_follows;
  backed = λ b es w i h. (last_event b es (Back w i) h).2;
}

pub run_short : (b : Board) (es : List PoolEvent) → IsRunOf b es → length es ≤ count_of b + count_of b
unfolding IsRunOf
run_short b es (reach, r, l) = good_short reach (count_of b) es l

pub above_done : AboveLaw
unfolding IsRunOf
above_done b es (reach, r, l) w i h j e = held_done reach (count_of b) es l i w h j ((r j i).1 (held_in b es i w h, e))

first_event : (reach : ℕ → ℕ → Bool) (s : PoolState) (e : PoolEvent) (es : List PoolEvent) → IsLawful reach s (e ∷ es) → IsEvent reach s e
unfolding IsLawful
first_event reach s e es h = h.0

event_after : (reach : ℕ → ℕ → Bool) (b : Board) (xs ys : List PoolEvent) (e : PoolEvent) → IsLawful reach (opening (count_of b)) (xs ++ e ∷ ys) → IsEvent reach (state_of b xs) e
event_after reach b xs ys e h = first_event reach (state_of b xs) e ys (lawful_parts reach (opening (count_of b)) xs (e ∷ ys) h).1

pub board_runs : BoardRunsLaw
unfolding IsRunOf
board_runs b es (reach, r, l) =
    let n = count_of b in
    let g = lawful_good reach (upward b reach r es) n es l in
    record {
      once = g.once;
      own = g.own;
      above = λ xs ys w i e j h.
          let t = event_after reach b xs ys (Take w i) (subst (IsLawful reach (opening n)) e l) in
          g.before xs ys w i e j ((r j i).1 (waiting_in b xs i t.ready.waiting, h));
      goes_on = λ calm none i less open_.
          let k = g.goes_on (is_calm b es calm) none i less open_ in
          (k.0, take_next b reach r es k.0 (event_after reach b es [] (Take 0 k.0) (k.1 0)));
      short = g.short;
    }
