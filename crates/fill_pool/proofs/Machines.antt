-- Each call on a machine keeps what it keeps.
use Rattle.std.proofs.Common.{◌≡◌, refl, sym, ◌∙◌, ap, subst, ℕ, suc, ◌+◌, ◌≤◌, ◌<◌, arith, List, [], ◌∷◌, ◌++◌, length, get_or, set, replicate, length-append}
use Rattle.std.specs.Prelude.{Bool, true, false, cond, IsTrue, ◌↔◌, map, ◌^◌}
use Rattle.std.proofs.lemmas.Bool.{true≢false}
use Rattle.std.proofs.lemmas.List.{get_or-set_same, get_or-map}
use Rattle.board_language.specs.Board.{Board}
use Rattle.pool_rules.specs.declared.PoolEvent.{PoolEvent}
use Rattle.pool_rules.specs.declared.PoolEvent.TheVariants.{Take, Finish, Back}
use Rattle.pool_rules.specs.declared.Slot.{Slot}
use Rattle.pool_rules.specs.declared.Slot.TheVariants.{Waiting, Held, Finished, Returned}
use Rattle.pool_rules.specs.Runs.{PoolState, slot_at, opening, pool_step, IsLawful}
use Rattle.pool_rules.proofs.Runs.{waiting_within, run_more}
use Rattle.fill_pool.specs.Inner.Slots.{IsReadyRow}
use Rattle.fill_pool.specs.Runs.{count_of, state_of, IsRunOf, IsHalted, IsReadyIn, IsNext, NoneReady, IsHeldBy, AllFinished, NoneHeld}
use Rattle.fills.specs.Above.{AreReaching}
use Rattle.fill_pool.specs.Inner.Tables.{IsTableOf}
use Rattle.fill_pool.specs.Inner.Fields.{IsMachine}
use Rattle.fill_pool.proofs.Boards.{all_one_of, one_of_get, table_reach, slots_size, waiting_in, halted_is, calm_is, take_follows, finish_follows, back_follows, run_short, reach_of}

abbrev state : List Slot → Bool → PoolState
state slots halted = record { slots = slots; backed = halted }

pub pushed : {A : Type 0} (b : Bool) (x y z : A) → b ≡ true → z ≡ cond b x y → z ≡ x
pushed true x y z e h = h
pushed false x y z e h = absurd (true≢false (sym e))

pub length_map : {X : Type 0} (f : X → List ℕ) (rows : List X) → length (map f rows) ≡ length rows
length_map f [] = refl
length_map f (x ∷ xs) = ap suc (length_map f xs)

module _ (b : Board) (slots : List Slot) (table : List (List ℕ)) (es : List PoolEvent) (halted : Bool) (cap : ℕ) (p : IsMachine b slots table es halted cap) where
  -- ---- what the slots say
  pub told : (i : ℕ) (x : Slot) → get_or slots i Finished ≡ x → slot_at (state_of b es) i ≡ x
  told i x h = ap (λ (s : PoolState). slot_at s i) p.stands ∙ h

  pub tells : (i : ℕ) (x : Slot) → slot_at (state_of b es) i ≡ x → get_or slots i Finished ≡ x
  tells i x h = ap (λ (s : PoolState). slot_at s i) (sym p.stands) ∙ h

  pub sized : length slots ≡ count_of b
  sized = ap (λ (s : PoolState). length s.slots) (sym p.stands) ∙ slots_size b es

  pub few_slots : length slots < 2 ^ 32
  few_slots = subst (λ (n : ℕ). n < 2 ^ 32) (sym sized) p.few

  pub row_ready : (i : ℕ) → IsReadyRow table slots i → IsReadyIn b es i
  row_ready i h =
      let w = told i Waiting h.waiting in
      record {
        waiting = w;
        done = λ j r. told j Finished
            (all_one_of (λ (k : ℕ). get_or slots k Finished ≡ Finished) (get_or table i []) j h.done (((p.table_is.each i (waiting_in b es i w)).same j).1 r));
      }

  pub ready_row : (i : ℕ) → IsReadyIn b es i → IsReadyRow table slots i
  ready_row i h = record {
    waiting = tells i Waiting h.waiting;
    done = λ k d l. tells (get_or (get_or table i []) k d) Finished
        (h.done (get_or (get_or table i []) k d) (((p.table_is.each i (waiting_in b es i h.waiting)).same (get_or (get_or table i []) k d)).0 (one_of_get (get_or table i []) k d l)));
  }

  pub next_row : halted ≡ false → (i : ℕ) → IsReadyRow table slots i → ((j : ℕ) → j < i → IsReadyRow table slots j → ⊥) → IsNext b es i
  next_row off i h l = record {
    calm = calm_is b es (ap (λ (s : PoolState). s.backed) p.stands ∙ off);
    ready = row_ready i h;
    first = λ j m r. l j m (ready_row j r);
  }

  pub none_row : ((j : ℕ) → IsReadyRow table slots j → ⊥) → NoneReady b es
  none_row h j r = h j (ready_row j r)

  pub halted_told : IsTrue halted ↔ IsHalted es
  halted_told =
      let e = ap (λ (s : PoolState). s.backed) p.stands in
      (λ t. (halted_is b es).0 (e ∙ t), λ h. sym e ∙ (halted_is b es).1 h)

  pub on_halt : halted ≡ true → IsHalted es
  on_halt t = halted_told.0 t

  -- ---- one more event
  room_for : (e : PoolEvent) → IsRunOf b (es ++ e ∷ []) → length es < cap
  room_for e h = omega (arith, run_short b (es ++ e ∷ []) h, length-append es (e ∷ []), p.room)

  step_to : (e : PoolEvent) (new : List Slot) (off : Bool) (more : ℕ) → IsRunOf b (es ++ e ∷ []) → pool_step (state slots halted) e ≡ state new off → cap ≤ more
      → IsMachine b new table (es ++ e ∷ []) off more
  step_to e new off more h s le = record {
    table_is = p.table_is;
    lawful = h;
    stands = run_more (opening (count_of b)) es e ∙ (ap (λ (t : PoolState). pool_step t e) p.stands ∙ s);
    room = omega (arith, p.room, le);
    few = p.few;
  }

  after : (e : PoolEvent) (slots' : List Slot) (off : Bool) (more : ℕ) (new : List PoolEvent) (ok : Bool) → IsRunOf b (es ++ e ∷ []) → pool_step (state slots halted) e ≡ state slots' off
      → (length es < cap → ok ≡ true) → new ≡ cond ok (es ++ e ∷ []) es → cap ≤ more
      → (new ≡ es ++ e ∷ []) × IsMachine b slots' table new off more
  after e slots' off more new ok h s room is le =
      let items = pushed ok (es ++ e ∷ []) es new (room (room_for e h)) is in
      (items, subst (λ (l : List PoolEvent). IsMachine b slots' table l off more) (sym items) (step_to e slots' off more h s le))

  pub after_take : (i v more : ℕ) (new : List PoolEvent) (ok : Bool) → IsNext b es i → (length es < cap → ok ≡ true) → new ≡ cond ok (es ++ Take v i ∷ []) es → cap ≤ more
      → (new ≡ es ++ Take v i ∷ []) × IsMachine b (set slots i (Held v)) table new halted more
  after_take i v more new ok n room is le =
      after (Take v i) (set slots i (Held v)) halted more new ok (take_follows b es v i p.lawful n) refl room is le

  pub after_finish : (i v more : ℕ) (new : List PoolEvent) (ok : Bool) → get_or slots i Finished ≡ Held v → (length es < cap → ok ≡ true) → new ≡ cond ok (es ++ Finish v i ∷ []) es → cap ≤ more
      → (new ≡ es ++ Finish v i ∷ []) × IsMachine b (set slots i Finished) table new halted more
  after_finish i v more new ok n room is le =
      after (Finish v i) (set slots i Finished) halted more new ok (finish_follows b es v i p.lawful (told i (Held v) n)) refl room is le

  pub after_back : (i v more : ℕ) (new : List PoolEvent) (ok : Bool) → get_or slots i Finished ≡ Held v → (length es < cap → ok ≡ true) → new ≡ cond ok (es ++ Back v i ∷ []) es → cap ≤ more
      → (new ≡ es ++ Back v i ∷ []) × IsMachine b (set slots i Returned) table new true more
  after_back i v more new ok n room is le =
      after (Back v i) (set slots i Returned) true more new ok (back_follows b es v i p.lawful (told i (Held v) n)) refl room is le

  -- ---- questions
  pub done_told : (now : List Slot) → now ≡ slots → (T : Type 0) → T ↔ ((i : ℕ) → i < length now → get_or now i Finished ≡ Finished) → T ↔ AllFinished b es
  done_told now en T h =
      let size : length now ≡ count_of b = ap length en ∙ sized in (
        λ t i l. told i Finished (subst (λ (s : List Slot). get_or s i Finished ≡ Finished) en (h.0 t i (subst (λ (n : ℕ). i < n) (sym size) l))),
        λ a. h.1 (λ i l. subst (λ (s : List Slot). get_or s i Finished ≡ Finished) (sym en) (tells i Finished (a i (subst (λ (n : ℕ). i < n) size l)))),
      )

  pub idle_told : (now : List Slot) → now ≡ slots → (T : Type 0) → T ↔ ((i v : ℕ) → get_or now i Finished ≡ Held v → ⊥) → T ↔ NoneHeld b es
  idle_told now en T h = (
    λ t i v e. h.0 t i v (subst (λ (s : List Slot). get_or s i Finished ≡ Held v) (sym en) (tells i (Held v) e)),
    λ a. h.1 (λ i v e. a i v (told i (Held v) (subst (λ (s : List Slot). get_or s i Finished ≡ Held v) en e))),
  )

-- ---- at the opening
pub taken_holds : (b : Board) (es : List PoolEvent) (v i : ℕ) → IsNext b es i → IsHeldBy b (es ++ Take v i ∷ []) v i
taken_holds b es v i n =
    ap (λ (s : PoolState). slot_at s i) (run_more (opening (count_of b)) es (Take v i))
    ∙ get_or-set_same (state_of b es).slots i (Held v) Finished (waiting_within (state_of b es).slots i n.ready.waiting)

none_yet : (b : Board) (table : List (List ℕ)) → IsTableOf b table → IsRunOf b []
unfolding IsRunOf IsLawful
none_yet b table t = (reach_of table, table_reach b table t, tt)

pub new_machine : (b : Board) (table : List (List ℕ)) → IsTableOf b table → (n cap : ℕ) → n ≡ length table → n < 2 ^ 32 → n + n ≤ cap → (slots : List Slot) → slots ≡ replicate n Waiting
    → IsMachine b slots table [] false cap
new_machine b table t n cap e few room slots se =
    let c : n ≡ count_of b = e ∙ t.rows in
    record {
      table_is = t;
      lawful = none_yet b table t;
      stands = ap (λ (s : List Slot). state s false) (ap (λ (m : ℕ). replicate m Waiting) (sym c) ∙ sym se);
      room = omega (arith, c, room);
      few = omega (arith, c, few);
    }

-- the row that the code reads
pub row_is : {X : Type 0} (f : X → List ℕ) (b : Board) (table : List X) → IsTableOf b (map f table) → (i : ℕ) → i < count_of b → (x : X) → x ≡ get_or table i x
    → AreReaching b i (f x)
row_is f b table t i l x e =
    let m : i < length table = omega (arith, l, t.rows, length_map f table) in
    subst (AreReaching b i) (get_or-map f table i x [] m ∙ ap f (sym e)) (t.each i l)
