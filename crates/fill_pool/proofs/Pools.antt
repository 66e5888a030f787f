-- Each call on a pool keeps what it keeps.
use Rattle.std.proofs.Common.{◌≡◌, refl, sym, ◌∙◌, ap, subst, ℕ, zero, suc, ◌+◌, ◌≤◌, ◌<◌, inl, inr, arith, List, [], ◌∷◌, ◌++◌, length, get_or, set, length-set, length-append}
use Rattle.std.specs.Prelude.{map, Bool, true, false, IsTrue, IsFalse, ◌↔◌, Option, Some, None}
use Rattle.std.specs.List.{All}
use Rattle.std.proofs.lemmas.Bool.{cases_eq}
use Rattle.std.proofs.lemmas.List.{get_or-set_same, get_or-set_other, get_or-map, map-append, append_assoc}
use Rattle.std.proofs.lemmas.List.Elements.{All-head, All-tail}
use Rattle.classes.specs.Classes.{IsOneOf}
use Rattle.board_language.specs.Board.{Board}
use Rattle.fill_rules.specs.Tasks.{Task, ranked, no_task, task_at}
use Rattle.pool_rules.specs.declared.PoolEvent.{PoolEvent}
use Rattle.pool_rules.specs.declared.PoolEvent.TheVariants.{Take, Finish, Back}
use Rattle.pool_rules.specs.declared.Slot.{Slot}
use Rattle.pool_rules.specs.declared.Slot.TheVariants.{Waiting, Held, Finished, Returned}
use Rattle.pool_rules.specs.Runs.{PoolState, slot_at, opening, pool_step}
use Rattle.pool_rules.proofs.Runs.{waiting_within, held_within, run_more, get_or-replicate}
use Rattle.fill_rules.specs.Made.{Made, no_fill}
use Rattle.fills.specs.Fills.{IsFillOf, AreBoardFills}
use Rattle.fill_pool.specs.Runs.{count_of, state_of, IsRunOf, IsNext, IsHeldBy, AllFinished}
use Rattle.fills.specs.Above.{AreReaching, AreFillsOfTasks, AreFillsAbove}
use Rattle.fill_pool.specs.Inner.Slots.{IsFull, made_in_slot, made_at}
use Rattle.fill_pool.specs.Inner.Fields.{HasFill, IsPool}
use Rattle.fill_pool.proofs.Boards.{one_of_get, held_in, above_done}

-- ---- slots that hold fills
full_is : (b : Board) (i : ℕ) (o : Option Made) → HasFill b i o → IsFull o
full_is b i None h = h
full_is b i (Some f) h = tt

made_is : (b : Board) (i : ℕ) (o : Option Made) → HasFill b i o → IsFillOf b i (made_in_slot o)
made_is b i None h = absurd h
made_is b i (Some f) h = h

-- what is finished after a slot became something else was finished before
before_set : (slots : List Slot) (i j : ℕ) (x : Slot) → i < length slots → (x ≡ Finished → ⊥) → get_or (set slots i x) j Finished ≡ Finished → get_or slots j Finished ≡ Finished
before_set slots i j x l ne f = elim (cases_eq j i) [
  | inl e ↦ absurd (ne (sym (get_or-set_same slots i x Finished l) ∙ (ap (λ k. get_or (set slots i x) k Finished) (sym e) ∙ f)))
  | inr n ↦ sym (get_or-set_other slots i j x Finished n) ∙ f
]

after : (b : Board) (es : List PoolEvent) (e : PoolEvent) (j : ℕ) (x : Slot) → slot_at (state_of b (es ++ e ∷ [])) j ≡ x → slot_at (pool_step (state_of b es) e) j ≡ x
after b es e j x h = ap (λ (s : PoolState). slot_at s j) (sym (run_more (opening (count_of b)) es e)) ∙ h

held_not : (v : ℕ) → Held v ≡ Finished → ⊥
held_not v e = cc

returned_not : Returned ≡ Finished → ⊥
returned_not e = cc

waiting_not : Waiting ≡ Finished → ⊥
waiting_not e = cc

module _ (b : Board) (es : List PoolEvent) (tasks : List Task) (fills : List (Option Made)) (all : List Made) (cap : ℕ) (p : IsPool b es tasks fills all cap) where
  -- the same fills serve after an event that finishes nothing
  kept : (e : PoolEvent) → ((j : ℕ) → slot_at (pool_step (state_of b es) e) j ≡ Finished → slot_at (state_of b es) j ≡ Finished) → IsPool b (es ++ e ∷ []) tasks fills all cap
  kept e h = record {
    ranks = p.ranks;
    sized = p.sized;
    right = λ j f l. p.right j (h j (after b es e j Finished f)) l;
    none_yet = p.none_yet;
    room = p.room;
  }

  pub pool_take : (v i : ℕ) → IsNext b es i → IsPool b (es ++ Take v i ∷ []) tasks fills all cap
  pool_take v i n = kept (Take v i) (λ j f. before_set (state_of b es).slots i j (Held v) (waiting_within (state_of b es).slots i n.ready.waiting) (held_not v) f)

  pub pool_back : (v i : ℕ) → IsHeldBy b es v i → IsPool b (es ++ Back v i ∷ []) tasks fills all cap
  pool_back v i h = kept (Back v i) (λ j f. before_set (state_of b es).slots i j Returned (held_within (state_of b es).slots i v h) returned_not f)

  pub pool_finish : (v i : ℕ) (f : Made) → IsHeldBy b es v i → IsFillOf b i f → IsPool b (es ++ Finish v i ∷ []) tasks (set fills i (Some f)) all cap
  pool_finish v i f h is =
      let m : i < length fills = omega (arith, held_in b es i v h, p.sized) in
      record {
        ranks = p.ranks;
        sized = length-set fills i (Some f) ∙ p.sized;
        right = λ j g l. elim (cases_eq j i) [
          | inl e ↦ subst (λ (k : ℕ). HasFill b k (get_or (set fills i (Some f)) k None)) (sym e) (subst (HasFill b i) (sym (get_or-set_same fills i (Some f) None m)) is)
          | inr n ↦
              subst (HasFill b j) (sym (get_or-set_other fills i j (Some f) None n))
              (p.right j (sym (get_or-set_other (state_of b es).slots i j Finished Finished n) ∙ after b es (Finish v i) j Finished g) l)
        ];
        none_yet = p.none_yet;
        room = p.room;
      }

  pub after_take : (v i : ℕ) (new : List PoolEvent) → IsNext b es i → new ≡ es ++ Take v i ∷ [] → IsPool b new tasks fills all cap
  after_take v i new n e = subst (λ (t : List PoolEvent). IsPool b t tasks fills all cap) (sym e) (pool_take v i n)

  pub after_none : (new : List PoolEvent) → new ≡ es → IsPool b new tasks fills all cap
  after_none new e = subst (λ (t : List PoolEvent). IsPool b t tasks fills all cap) (sym e) p

  pub after_back : (r : Bool) (v i : ℕ) (new : List PoolEvent) → (IsTrue r ↔ IsHeldBy b es v i) → (IsTrue r → new ≡ es ++ Back v i ∷ []) → (IsFalse r → new ≡ es) → IsPool b new tasks fills all cap
  after_back true v i new h e s = subst (λ (t : List PoolEvent). IsPool b t tasks fills all cap) (sym (e refl)) (pool_back v i (h.0 refl))
  after_back false v i new h e s = after_none new (s refl)

  pub after_finish : (v i : ℕ) (f : Made) (new : List PoolEvent) (slots : List (Option Made)) → IsHeldBy b es v i → IsFillOf b i f → new ≡ es ++ Finish v i ∷ [] → slots ≡ set fills i (Some f)
      → IsPool b new tasks slots all cap
  after_finish v i f new slots h is e s =
      subst (λ (t : List PoolEvent). IsPool b t tasks slots all cap) (sym e) (subst (λ (os : List (Option Made)). IsPool b (es ++ Finish v i ∷ []) tasks os all cap) (sym s) (pool_finish v i f h is))

  -- ---- the fills above a task that is held
  pub above_has : IsRunOf b es → (v i : ℕ) → IsHeldBy b es v i → (js : List ℕ) → AreReaching b i js → (j : ℕ) → IsOneOf j js → HasFill b j (get_or fills j None)
  above_has lawful v i h js r j o =
      let reaching = (r.same j).0 o in
      p.right j (above_done b es lawful v i h j reaching) (omega (arith, reaching.above, held_in b es i v h))

  pub above_full : IsRunOf b es → (v i : ℕ) → IsHeldBy b es v i → (js : List ℕ) → AreReaching b i js → All (λ (j : ℕ). IsFull (get_or fills j None)) js
  above_full lawful v i h js r = λ k d l. full_is b (get_or js k d) (get_or fills (get_or js k d) None) (above_has lawful v i h js r (get_or js k d) (one_of_get js k d l))

  row_fills : (js : List ℕ) → All (λ (j : ℕ). HasFill b j (get_or fills j None)) js → AreFillsOfTasks b js (map (made_at fills) js)
  row_fills [] h = tt
  row_fills (j ∷ js) h =
      (made_is b j (get_or fills j None) (All-head (λ (k : ℕ). HasFill b k (get_or fills k None)) j js h), row_fills js (All-tail (λ (k : ℕ). HasFill b k (get_or fills k None)) j js h))

  pub above_fills : IsRunOf b es → (v i : ℕ) → IsHeldBy b es v i → (js : List ℕ) → AreReaching b i js → (out : List Made) → out ≡ map (made_at fills) js → AreFillsAbove b i out
  above_fills lawful v i h js r out e = record {
    tasks = js;
    reaching = r;
    each = subst (AreFillsOfTasks b js) (sym e) (row_fills js (λ k d l. above_has lawful v i h js r (get_or js k d) (one_of_get js k d l)));
  }

  -- ---- the fills of all
  pub all_full : AllFinished b es → All IsFull fills
  all_full done = λ k d l. full_at k d l
    where
      full_at : (k : ℕ) (d : Option Made) → k < length fills → IsFull (get_or fills k d)
      full_at k d l =
          let m : k < count_of b = omega (arith, l, p.sized) in
          subst IsFull (sym (get_or_any fills k d None l)) (full_is b k (get_or fills k None) (p.right k (done k m) m))
        where
          get_or_any : {A : Type 0} (xs : List A) (k : ℕ) (d e : A) → k < length xs → get_or xs k d ≡ get_or xs k e
          get_or_any [] k d e l = absurd (omega arith)
          get_or_any (x ∷ xs) zero d e l = refl
          get_or_any (x ∷ xs) (suc k) d e l = get_or_any xs k d e (omega (arith, l))

  pub all_fills : AllFinished b es → (out : List Made) → map Some out ≡ fills → AreBoardFills b out
  all_fills done out e =
      let n : length out ≡ count_of b = sym (length_some out) ∙ ap length e ∙ p.sized in
      record {
        count = n;
        each = λ i l.
            let m : i < count_of b = omega (arith, l, n) in
            let h : HasFill b i (get_or (map Some out) i None) = subst (λ (os : List (Option Made)). HasFill b i (get_or os i None)) (sym e) (p.right i (done i m) m) in
            subst (HasFill b i) (get_or-map Some out i no_fill None l) h;
      }
    where
      length_some : (out : List Made) → length (map Some out) ≡ length out
      length_some [] = refl
      length_some (x ∷ xs) = ap suc (length_some xs)

-- ---- at the opening
pub new_pool : (b : Board) (tasks : List Task) (fills : List (Option Made)) (all : List Made) (cap : ℕ) → tasks ≡ ranked b → length fills ≡ count_of b → all ≡ [] → count_of b ≤ cap
    → IsPool b [] tasks fills all cap
new_pool b tasks fills all cap t s a r = record {
  ranks = t;
  sized = s;
  right = λ i f l. absurd (waiting_not (sym (get_or-replicate (count_of b) i l) ∙ f));
  none_yet = a;
  room = r;
}

-- ---- loops over lists
-- the fill of the next slot goes behind the others
pub same_step : {A : Type 0} (v : A → Made) (w : Option A → Option Made) (all new : List A) (o : Option A) (x : A) (left rest : List (Option A)) (whole : List (Option Made))
    → map Some (map v all) ++ map w left ≡ whole → left ≡ o ∷ rest → o ≡ Some x → w (Some x) ≡ Some (v x) → new ≡ all ++ x ∷ []
    → map Some (map v new) ++ map w rest ≡ whole
same_step {A} v w all new o x left rest whole h l e f n =
    let front = map Some (map v all) in
    let a : map Some (map v new) ≡ map Some (map v all ++ v x ∷ []) = ap (λ (t : List A). map Some (map v t)) n ∙ ap (λ (t : List Made). map Some t) (map-append v all (x ∷ [])) in
    let b : map Some (map v new) ≡ front ++ (Some (v x) ∷ []) = a ∙ map-append Some (map v all) (v x ∷ []) in
    let c : map Some (map v new) ++ map w rest ≡ front ++ (Some (v x) ∷ map w rest) =
    ap (λ (t : List (Option Made)). t ++ map w rest) b ∙ append_assoc front (Some (v x) ∷ []) (map w rest) in
    let d : front ++ (Some (v x) ∷ map w rest) ≡ front ++ (w o ∷ map w rest) = ap (λ (y : Option Made). front ++ (y ∷ map w rest)) (sym f ∙ ap w (sym e)) in
    c ∙ (d ∙ (ap (λ (t : List (Option A)). front ++ map w t) (sym l) ∙ h))

pub full_step : {F : Type 0} (w : F → Option Made) (o : F) (left rest : List F) → All IsFull (map w left) → left ≡ o ∷ rest → All IsFull (map w rest)
full_step w o left rest h e = All-tail IsFull (w o) (map w rest) (subst (λ (t : List _). All IsFull (map w t)) e h)

pub room_step : {A F : Type 0} (all new : List A) (x : A) (o : F) (left rest : List F) (cap more : ℕ) → length all + length left ≤ cap → left ≡ o ∷ rest → new ≡ all ++ x ∷ [] → cap ≤ more
    → length new + length rest ≤ more
room_step all new x o left rest cap more h l n c = omega (arith, h, ap length l, ap length n, length-append all (x ∷ []), c)

pub room_left : {A F : Type 0} (all : List A) (o : F) (left rest : List F) (cap : ℕ) → length all + length left ≤ cap → left ≡ o ∷ rest → length all < cap
room_left all o left rest cap h l = omega (arith, h, ap length l)

-- the task that the code reads
pub task_is : {X : Type 0} (f : X → Task) (b : Board) (xs : List X) → map f xs ≡ ranked b → (i : ℕ) → i < count_of b → (x : X) → x ≡ get_or xs i x → f x ≡ task_at b i
unfolding task_at
task_is f b xs e i l x h =
    let m : i < length xs = omega (arith, l, length_mapped f xs, ap length e) in
    ap f h ∙ (sym (get_or-map f xs i x (no_task b) m) ∙ ap (λ (ts : List Task). get_or ts i (no_task b)) e)
  where
    length_mapped : {X : Type 0} (f : X → Task) (xs : List X) → length (map f xs) ≡ length xs
    length_mapped f [] = refl
    length_mapped f (x ∷ xs) = ap suc (length_mapped f xs)

-- what was copied into an empty list
pub copied_as : {A F : Type 0} (v : A → Made) (w : F → Option Made) (new old : List A) (now fills : List F) (row : List ℕ)
    → map v new ≡ map v old ++ map (made_at (map w now)) row → old ≡ [] → now ≡ fills → map v new ≡ map (made_at (map w fills)) row
copied_as {A} {F} v w new old now fills row h e f =
    h ∙ (ap (λ (xs : List A). map v xs ++ map (made_at (map w now)) row) e ∙ ap (λ (fs : List F). map (made_at (map w fs)) row) f)
