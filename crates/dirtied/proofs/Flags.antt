-- Flags by rank, one after another.
use Rattle.std.proofs.Common.{◌≡◌, ◌∙◌, refl, ap, sym, subst, ℕ, zero, suc, ◌<◌, ◌+◌, arith, Bool, true, false, List, [], ◌∷◌, ◌++◌, length, get_or, map, Result, Ok, Err}
use Rattle.std.specs.Prelude.{◌↔◌, IfOk}
use Rattle.board_language.specs.Board.{Board}
use Rattle.fill_rules.specs.Tasks.{Task, ranked, task_at, no_task}
use Rattle.fills.specs.declared.Task as fills
use Rattle.fills.specs.Fills.{task_of}
use Rattle.dirtied.specs.Dirtied.{AreTaskFlags}
use Rattle.dirtied.specs.Inner.Ranked.{AreTasks}

-- the flags tell of each of their places whether P holds
abbrev pub TellUpTo : (ℕ → Type 0) → List Bool → Type 0
TellUpTo P flags = (j : ℕ) → j < length flags → (get_or flags j false ≡ true) ↔ P j

tell_more : (P : ℕ → Type 0) (flags : List Bool) (f : Bool) → TellUpTo P flags → (f ≡ true) ↔ P (length flags) → TellUpTo P (flags ++ f ∷ [])
tell_more P [] f h p zero l = p
tell_more P [] f h p (suc j) l = absurd (omega (arith, l))
tell_more P (g ∷ flags) f h p zero l = h zero (omega arith)
tell_more P (g ∷ flags) f h p (suc j) l = tell_more (λ n. P (suc n)) flags f (λ n m. h (suc n) (omega (arith, m))) p j (omega (arith, l))

length_more : (flags : List Bool) (f : Bool) → length (flags ++ f ∷ []) ≡ suc (length flags)
length_more [] f = omega arith
length_more (g ∷ flags) f = let l = length_more flags f in omega (arith, l)

-- so many flags, and they tell
pub record AreSoFar (P : ℕ → Type 0) (i : ℕ) (flags : List Bool) : Type 0 where
  pub count : length flags ≡ i
  pub tell : TellUpTo P flags

pub none_yet : (P : ℕ → Type 0) → AreSoFar P 0 []
none_yet P = record { count = refl; tell = λ j l. absurd (omega (arith, l)) }

pub one_more : (P : ℕ → Type 0) (i : ℕ) (flags new : List Bool) (f : Bool) → AreSoFar P i flags → new ≡ flags ++ f ∷ [] → (f ≡ true) ↔ P i → AreSoFar P (i + 1) new
one_more P i flags new f h n p =
    let l = length_more flags f in
    let c = h.count in
    subst (AreSoFar P (i + 1)) (sym n)
    (record { count = omega (arith, l, c); tell = tell_more P flags f h.tell (subst (λ k. (f ≡ true) ↔ P k) (sym h.count) p) })

-- ---- tasks by rank

length_as : {A B : Type 0} (f : A → B) (xs : List A) → length (map f xs) ≡ length xs
length_as f [] = refl
length_as f (x ∷ xs) = ap suc (length_as f xs)

pub count_is : (b : Board) (tasks : List fills.Task) → AreTasks b tasks → length tasks ≡ length (ranked b)
count_is b tasks h = sym (length_as task_of tasks) ∙ ap length h.order

at_place : {A B : Type 0} (f : A → B) (xs : List A) (k : ℕ) (d : A) (e : B) → k < length xs → get_or (map f xs) k e ≡ f (get_or xs k d)
at_place f [] k d e l = absurd (omega (arith, l))
at_place f (x ∷ xs) zero d e l = refl
at_place f (x ∷ xs) (suc k) d e l = at_place f xs k d e (omega (arith, l))

pub task_is : (b : Board) (tasks : List fills.Task) (k : ℕ) (d : fills.Task) → AreTasks b tasks → k < length tasks → task_of (get_or tasks k d) ≡ task_at b k
unfolding task_at
task_is b tasks k d h l = sym (at_place task_of tasks k d (no_task b) l) ∙ ap (λ (ts : List Task). get_or ts k (no_task b)) h.order

-- ---- all flags

pub all_told : (b : Board) (P : ℕ → Type 0) (tasks : List fills.Task) (flags : List Bool) → AreTasks b tasks → AreSoFar P (length tasks) flags → AreTaskFlags b P flags
all_told b P tasks flags h s =
    let c = count_is b tasks h in
    record { all = s.count ∙ c; each = λ k l. s.tell k (subst (λ n. k < n) (sym (s.count ∙ c)) l) }

pub flags_as : (b : Board) (P Q : ℕ → Type 0) (flags : List Bool) → ((k : ℕ) → P k ↔ Q k) → AreTaskFlags b P flags → AreTaskFlags b Q flags
flags_as b P Q flags h f = record { all = f.all; each = λ k l. (λ e. (h k).0 ((f.each k l).0 e), λ q. (f.each k l).1 ((h k).1 q)) }

pub ok_so : {A E : Type 0} (r : Result A E) (P Q : A → Type 0) → ((a : A) → P a → Q a) → IfOk r P → IfOk r Q
ok_so (Ok a) P Q f h = f a h
ok_so (Err e) P Q f h = tt
