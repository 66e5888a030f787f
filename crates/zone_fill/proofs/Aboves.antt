-- Fills in rank order, and those of them that are above a task.
use Rattle.std.proofs.Common.{◌≡◌, ◌∙◌, refl, sym, ap, subst, ◌⊎◌, inl, inr, ℕ, zero, suc, ◌+◌, ◌<◌, ◌≤◌, arith, List, [], ◌∷◌, ◌++◌, length, map, get_or}
use Rattle.std.proofs.lemmas.Bool.{cases_lt, true≢false}
use Rattle.std.proofs.lemmas.List.{get_or-map, length-map, map-append, length-append}
use Rattle.std.proofs.lemmas.List.Elements.{All-append, All-cons}
use Rattle.std.specs.Prelude.{◌↔◌, Bool, true, false, cond, IsTrue}
use Rattle.std.specs.List.{All}
use Rattle.classes.specs.Classes.{IsOneOf}
use Rattle.board_language.specs.Board.{Board}
use Rattle.fill_rules.specs.Tasks.{Task, ranked, task_at, no_task}
use Rattle.fill_rules.specs.Ranking.{IsTask, Outranks}
use Rattle.fill_rules.specs.Reach.{IsReaching}
use Rattle.fill_rules.specs.Made.{Made, no_fill}
use Rattle.fills.specs.declared.Task as rules_task
use Rattle.fills.specs.Fills.{task_of, IsFillOf, AreBoardFills}
use Rattle.fills.specs.Above.{AreRanksAscending, AreFillsOfTasks, AreFillsAboveTask}
use Rattle.knockouts.specs.Reaching.{ReachesTask, ReachByRankLaw}
use Rattle.knockouts.proofs.Near.{ranks_above}
use Rattle.zone_fill.specs.Task.{IsFillOfTask}
use Rattle.zone_fill.specs.First.{AreFirstFills, IsNextTask}
use Rattle.zone_fill.specs.Inner.Reached.{AreAboveFirst}

-- ---- one more at the end

is_one : {m j : ℕ} → ((j ≡ m) ⊎ ⊥) → ⊥ ⊎ (j ≡ m)
is_one (inl e) = inr e
is_one (inr z) = absurd z

one_is : {m j : ℕ} → (⊥ ⊎ (j ≡ m)) → (j ≡ m) ⊎ ⊥
one_is (inl z) = absurd z
one_is (inr e) = inl e

member_end : (js : List ℕ) (m j : ℕ) → IsOneOf j (js ++ m ∷ []) ↔ (IsOneOf j js ⊎ (j ≡ m))
unfolding IsOneOf
member_end [] m j = (λ h. is_one h, λ h. one_is h)
member_end (k ∷ js) m j =
    let r = member_end js m j in (
      λ h. elim h [
        | inl e ↦ inl (inl e)
        | inr o ↦ elim (r.0 o) [ inl p ↦ inl (inr p) | inr e ↦ inr e ]
      ],
      λ h. elim h [
        | inl o ↦ elim o [ inl e ↦ inl e | inr p ↦ inr (r.1 (inl p)) ]
        | inr e ↦ inr (r.1 (inr e))
      ],
    )

ascending_end : (low : ℕ) (js : List ℕ) (m : ℕ) → AreRanksAscending low js → low ≤ m → ((j : ℕ) → IsOneOf j js → j < m) → AreRanksAscending low (js ++ m ∷ [])
unfolding IsOneOf
ascending_end low [] m a l h = (l, tt)
ascending_end low (j ∷ js) m a l h =
    let less = h j (inl refl) in
    (a.0, ascending_end (j + 1) js m a.1 (omega (arith, less)) (λ i o. h i (inr o)))

fills_end : (b : Board) (js : List ℕ) (fs : List Made) (m : ℕ) (f : Made) → AreFillsOfTasks b js fs → IsFillOf b m f → AreFillsOfTasks b (js ++ m ∷ []) (fs ++ f ∷ [])
fills_end b [] [] m f h i = (i, tt)
fills_end b [] (g ∷ fs) m f h i = absurd h
fills_end b (j ∷ js) [] m f h i = absurd h
fills_end b (j ∷ js) (g ∷ fs) m f h i = (h.0, fills_end b js fs m f h.1 i)

-- ---- the fills above a task

pub none_above_first : (b : Board) (i : ℕ) (above : List Made) → above ≡ [] → AreAboveFirst b 0 i above
unfolding IsOneOf
none_above_first b i above e =
    subst (AreAboveFirst b 0 i) (sym e) (record { ranks = []; order = tt; same = λ j. (λ no. absurd no, λ r. (let l = r.0 in omega (arith, l))); each = tt })

above_more : (b : Board) (n i : ℕ) (f : Made) (above : List Made) → IsReaching b n i → IsFillOf b n f → AreAboveFirst b n i above → AreAboveFirst b (n + 1) i (above ++ f ∷ [])
above_more b n i f above r h a =
    record {
      ranks = a.ranks ++ n ∷ [];
      order = ascending_end 0 a.ranks n a.order (omega arith) (λ j o. ((a.same j).0 o).0);
      same = λ j. (
        λ o. elim ((member_end a.ranks n j).0 o) [
          | inl p ↦ (let q = (a.same j).0 p in let l = q.0 in (omega (arith, l), q.1))
          | inr e ↦ (omega (arith, e), subst (λ (k : ℕ). IsReaching b k i) (sym e) r)
        ],
        λ q. (member_end a.ranks n j).1 (elim (cases_lt j n) [
          | inl l ↦ inl ((a.same j).1 (l, q.1))
          | inr g ↦ (let l = q.0 in inr (omega (arith, l, g)))
        ]),
      );
      each = fills_end b a.ranks above n f a.each h;
    }

above_same : (b : Board) (n i : ℕ) (above : List Made) → (IsReaching b n i → ⊥) → AreAboveFirst b n i above → AreAboveFirst b (n + 1) i above
above_same b n i above r a =
    record {
      ranks = a.ranks;
      order = a.order;
      same = λ j. (
        λ o. (let q = (a.same j).0 o in let l = q.0 in (omega (arith, l), q.1)),
        λ q. elim (cases_lt j n) [
          | inl l ↦ (a.same j).1 (l, q.1)
          | inr g ↦ (let l = q.0 in let e : j ≡ n = omega (arith, l, g) in absurd (r (subst (λ (k : ℕ). IsReaching b k i) e q.1)))
        ],
      );
      each = a.each;
    }

above_by : (b : Board) (n i : ℕ) (f : Made) (above : List Made) (wanted : Bool) → IsTrue wanted ↔ IsReaching b n i → IsFillOf b n f → AreAboveFirst b n i above
    → AreAboveFirst b (n + 1) i (cond wanted (above ++ f ∷ []) above)
above_by b n i f above true w h a = above_more b n i f above (w.0 refl) h a
above_by b n i f above false w h a = above_same b n i above (λ r. true≢false (sym (w.1 r))) a

-- one more fill is looked at
pub above_step : (b : Board) (t : Task) (fs : List Made) (n : ℕ) (f : Made) (above into : List Made) (wanted : Bool) → ReachByRankLaw → IsNextTask b t fs → n < length fs → f ≡ get_or fs n no_fill
    → IsTrue wanted ↔ ReachesTask b f.task t → into ≡ cond wanted (above ++ f ∷ []) above → AreAboveFirst b n (length fs) above → AreAboveFirst b (n + 1) (length fs) into
above_step b t fs n f above into wanted ranks next l e w is a =
    let within = next.within in
    let law = ranks b n (length fs) (omega (arith, l, within)) within in
    let made : IsFillOf b n f = subst (IsFillOf b n) (sym e) (next.first.each n l) in
    let same : ReachesTask b (task_at b n) (task_at b (length fs)) ↔ ReachesTask b f.task t =
    subst (λ (u : Task). ReachesTask b (task_at b n) (task_at b (length fs)) ↔ ReachesTask b u t) (sym made.task)
    (subst (λ (u : Task). ReachesTask b (task_at b n) (task_at b (length fs)) ↔ ReachesTask b (task_at b n) u) next.task (λ r. r, λ r. r)) in
    subst (AreAboveFirst b (n + 1) (length fs)) (sym is)
    (above_by b n (length fs) f above wanted (λ y. law.1 (same.1 (w.0 y)), λ r. w.1 (same.0 (law.0 r))) made a)

-- all are looked at
pub above_all : (b : Board) (t : Task) (fs : List Made) (n : ℕ) (above : List Made) → IsNextTask b t fs → n ≡ length fs → AreAboveFirst b n (length fs) above → AreFillsAboveTask b t above
above_all b t fs n above next e a =
    record {
      rank = length fs;
      within = next.within;
      task = next.task;
      above = record {
        tasks = a.ranks;
        reaching = record {
          order = a.order;
          same = λ j. (
            λ o. ((a.same j).0 o).1,
            λ r. (a.same j).1 (let l = r.above in (omega (arith, l, e), r)),
          );
        };
        each = a.each;
      };
    }

-- ---- all fills of a board

not_self : (b : Board) (t : Task) → Outranks b t t → ⊥
not_self b t h = omega (arith, h)

one_rank : (b : Board) (i j : ℕ) → i < length (ranked b) → j < length (ranked b) → task_at b i ≡ task_at b j → i ≡ j
one_rank b i j li lj e =
    elim (cases_lt i j) [
      | inl l ↦ absurd (not_self b (task_at b j) (subst (λ (t : Task). Outranks b t (task_at b j)) e (ranks_above b i j l lj)))
      | inr g ↦ elim (cases_lt j i) [
        | inl l ↦ absurd (not_self b (task_at b i) (subst (λ (t : Task). Outranks b t (task_at b i)) (sym e) (ranks_above b j i l li)))
        | inr h ↦ omega (arith, g, h)
      ]
    ]

pub none_first : (b : Board) (fs : List Made) → fs ≡ [] → AreFirstFills b fs
none_first b fs e = subst (AreFirstFills b) (sym e) (record { tasks = λ k d l. absurd (omega (arith, l)); each = λ i l. absurd (omega (arith, l)) })

each_end : (b : Board) (k : ℕ) (fs : List Made) (f : Made) → ((i : ℕ) → i < length fs → IsFillOf b (k + i) (get_or fs i no_fill)) → IsFillOf b (k + length fs) f
    → (i : ℕ) → i < length (fs ++ f ∷ []) → IsFillOf b (k + i) (get_or (fs ++ f ∷ []) i no_fill)
each_end b k [] f h one zero l = one
each_end b k [] f h one (suc i) l = absurd (omega (arith, l))
each_end b k (g ∷ fs) f h one zero l = h 0 (omega arith)
each_end b k (g ∷ fs) f h one (suc i) l =
    subst (λ (n : ℕ). IsFillOf b n (get_or (fs ++ f ∷ []) i no_fill)) (omega arith)
    (each_end b (suc k) fs f (λ m p. subst (λ (n : ℕ). IsFillOf b n (get_or fs m no_fill)) (omega arith) (h (suc m) (omega (arith, p))))
    (subst (λ (n : ℕ). IsFillOf b n f) (omega arith) one) i (omega (arith, l)))

-- the next fill is added
pub first_more : (b : Board) (t : Task) (fs : List Made) (f : Made) (into : List Made) → IsTask b t → IsNextTask b t fs → IsFillOfTask b t f → into ≡ fs ++ f ∷ [] → AreFirstFills b into
first_more b t fs f into task next h is =
    let rank : h.rank ≡ length fs = one_rank b h.rank (length fs) h.within next.within (h.task ∙ sym next.task) in
    let fill : IsFillOf b (length fs) f = subst (λ (n : ℕ). IsFillOf b n f) rank h.fill in
    let own : IsTask b f.task = subst (IsTask b) (sym (fill.task ∙ next.task)) task in
    subst (AreFirstFills b) (sym is) (record {
      tasks = All-append (λ (g : Made). IsTask b g.task) fs (f ∷ []) next.first.tasks (All-cons (λ (g : Made). IsTask b g.task) f [] own (λ k d l. absurd (omega (arith, l))));
      each = λ i l. subst (λ (n : ℕ). IsFillOf b n (get_or (fs ++ f ∷ []) i no_fill)) (omega arith) (each_end b 0 fs f (λ m p. subst (λ (n : ℕ). IsFillOf b n (get_or fs m no_fill)) (omega arith) (next.first.each m p)) (subst (λ (n : ℕ). IsFillOf b n f) (omega arith) fill) i l);
    })

-- the fill of the task that comes next, over lists that are lent
pub next_task : (b : Board) (ts us : List rules_task.Task) (k : ℕ) (d : rules_task.Task) {X : Type 0} (f : X → Made) (xs ys : List X) → map task_of ts ≡ ranked b → us ≡ ts → ys ≡ xs → k < length us
    → length (map f xs) ≡ k → AreFirstFills b (map f xs) → IsNextTask b (task_of (get_or us k d)) (map f ys)
unfolding task_at
next_task b ts us k d f xs ys e same lent l n first =
    let count : length us ≡ length (ranked b) = sym (length-map us task_of) ∙ ap (λ vs. length (map task_of vs)) same ∙ ap length e in
    let fills : map f xs ≡ map f ys = ap (map f) (sym lent) in
    subst (IsNextTask b (task_of (get_or us k d))) fills (record {
      within = omega (arith, count, l, n);
      task = ap (λ (i : ℕ). get_or (ranked b) i (no_task b)) n ∙ ap (λ vs. get_or vs k (no_task b)) (sym (ap (map task_of) same ∙ e)) ∙ get_or-map task_of us k d (no_task b) l;
      first = first;
    })

-- all fills are there
pub all_fills : (b : Board) (ts us : List rules_task.Task) (k : ℕ) (fs : List Made) → map task_of ts ≡ ranked b → us ≡ ts → k ≡ length us → length fs ≡ k → AreFirstFills b fs → AreBoardFills b fs
all_fills b ts us k fs e same l n first =
    let count : length us ≡ length (ranked b) = sym (length-map us task_of) ∙ ap (λ vs. length (map task_of vs)) same ∙ ap length e in
    record { count = omega (arith, count, l, n); each = first.each }

-- a fill of the list, as it is read
pub fill_at : {X : Type 0} (f : X → Made) (xs : List X) (k : ℕ) (x : X) → k < length xs → x ≡ get_or xs k x → f x ≡ get_or (map f xs) k no_fill
fill_at f xs k x l e = ap f e ∙ sym (get_or-map f xs k x no_fill l)

pub task_at_fill : {X : Type 0} (f : X → Made) (b : Board) (xs : List X) (k : ℕ) (x : X) → k < length xs → x ≡ get_or xs k x → (t : Task) → (f x).task ≡ t → AreFirstFills b (map f xs) → IsTask b t
task_at_fill f b xs k x l e t is h =
    subst (IsTask b) is (subst (λ (m : Made). IsTask b m.task) (sym (fill_at f xs k x l e)) (h.tasks k no_fill (let n = length-map xs f in omega (arith, n, l))))

pub fills_count : {X : Type 0} (f : X → Made) (xs : List X) (k : ℕ) → k < length xs → k < length (map f xs)
fills_count f xs k l = let n = length-map xs f in omega (arith, n, l)

-- one more, where it is pushed
pub pushed_fill : {X : Type 0} (f : X → Made) (xs ys : List X) (x : X) (m : Made) → ys ≡ xs ++ x ∷ [] → f x ≡ m → map f ys ≡ map f xs ++ m ∷ []
pushed_fill f xs ys x m e is = ap (map f) e ∙ map-append f xs (x ∷ []) ∙ ap (λ (n : Made). map f xs ++ n ∷ []) is

pub count_more : (fs gs : List Made) (f : Made) (k : ℕ) → gs ≡ fs ++ f ∷ [] → length fs ≡ k → length gs ≡ k + 1
count_more fs gs f k e n = ap length e ∙ length-append fs (f ∷ []) ∙ ap (λ (i : ℕ). i + 1) n

pub wanted_by : {A : Type 0} (w : Bool) (x y : A) (xs ys : List A) → x ≡ y → ys ≡ cond w (xs ++ x ∷ []) xs → ys ≡ cond w (xs ++ y ∷ []) xs
wanted_by w x y xs ys e is = is ∙ ap (λ z. cond w (xs ++ z ∷ []) xs) e

-- each of the tasks that are lent is one of the board's
pub lent_task : (b : Board) (ts us : List rules_task.Task) (k : ℕ) (d : rules_task.Task) → us ≡ ts → k < length us → All (λ (t : rules_task.Task). IsTask b (task_of t)) ts → IsTask b (task_of (get_or us k d))
lent_task b ts us k d e l h = subst (All (λ (t : rules_task.Task). IsTask b (task_of t))) (sym e) h k d l
