-- A walk with its count, step by step.
use Rattle.std.proofs.Common.{◌≡◌, ◌∙◌, refl, sym, ap, subst, ℕ, ◌+◌, ◌<◌, List, [], ◌∷◌, ◌++◌, length, length-append, map, get_or, arith}
use Rattle.std.specs.Prelude.{◌↔◌, Bool, true, false, not, cond, IsTrue}
use Rattle.std.proofs.lemmas.List.{length-map, get_or_default}
use Rattle.std.proofs.lemmas.List.Sums.{sum_by-append, count_by-le-length}
use Rattle.board_language.specs.Board.{Board}
use Rattle.board_language.specs.Facts.{IsSoundBoard}
use Rattle.fill_rules.specs.Tasks.{Task, ranked, task_at}
use Rattle.fill_rules.specs.Ranking.{IsTask}
use Rattle.fill_rules.specs.Made.{Made, no_fill}
use Rattle.fills.specs.Fills.{IsFillOf, AreBoardFills}
use Rattle.zone_fill.specs.Task.{IsFillOfTask}
use Rattle.zone_fill.specs.First.{IsNextTask}
use Rattle.dirty_rules.proofs.Ranks.{one_rank, task_of}
use Rattle.refill_laws.specs.OneEdit.{old_rank}
use Rattle.refill_laws.specs.Flags.{AreFlags}
use Rattle.refill_laws.specs.Walks.{AreFillsSoFar}
use Rattle.refill_laws.specs.Walked.{count_set, IsWalkedTo}
use Rattle.refill_laws.proofs.Steps.{start_law, kept_step, made_step}
use Rattle.refill_walk.specs.Inner.Walk.{IsCountedWalk, IsFilledAgain}
use Rattle.refill_walk.proofs.Again.{is_anew, is_again}
use Rattle.refill_walk.proofs.Counts.{few_tasks}

one_set : (mark : Bool) → count_set (mark ∷ []) ≡ cond mark 1 0
one_set true = refl
one_set false = refl

more_set : (marks : List Bool) (mark : Bool) → count_set (marks ++ mark ∷ []) ≡ count_set marks + cond mark 1 0
more_set marks mark = sum_by-append (λ (m : Bool). cond m 1 0) marks (mark ∷ []) ∙ ap (λ (n : ℕ). count_set marks + n) (one_set mark)

pub first_walk : (b d : Board) (olds : List Made) (flagged : ℕ → Bool) (fills : List Made) (changed : List Bool) → fills ≡ [] → changed ≡ []
    → IsCountedWalk b d olds flagged fills changed 0
first_walk b d olds flagged fills changed e f =
    subst (λ (ms : List Made). IsCountedWalk b d olds flagged ms changed 0) (sym e)
    (subst (λ (bs : List Bool). IsCountedWalk b d olds flagged [] bs 0) (sym f)
    (record { again = []; walked = start_law d (old_rank b d) olds flagged; as_many = refl }))

-- `==` turned round tells what differs
pub differs_by : (same : Bool) (P : Type 0) → IsTrue same ↔ P → (not same ≡ false) ↔ P
differs_by true P h = (λ e. h.0 refl, λ p. refl)
differs_by false P h = (λ e. h.0 (sym e), λ p. sym (h.1 p))

module _ (b d : Board) (olds : List Made) (flagged : ℕ → Bool) (fills : List Made) (changed : List Bool) (count : ℕ)
    (w : IsCountedWalk b d olds flagged fills changed count) (n : ℕ) (k : length fills ≡ n)
  where
    moved : (into : List Made) (marks : List Bool) (f : Made) (differs anew : Bool) → into ≡ fills ++ f ∷ [] → marks ≡ changed ++ differs ∷ []
        → IsWalkedTo d (old_rank b d) olds flagged (fills ++ f ∷ []) (w.again ++ anew ∷ []) (changed ++ differs ∷ [])
        → (now : ℕ) → now ≡ count + cond anew 1 0 → IsCountedWalk b d olds flagged into marks now
    moved into marks f differs anew e g h now c =
        subst (λ (ms : List Made). IsCountedWalk b d olds flagged ms marks now) (sym e)
        (subst (λ (bs : List Bool). IsCountedWalk b d olds flagged (fills ++ f ∷ []) bs now) (sym g)
        (record {
          again = w.again ++ anew ∷ [];
          walked = h;
          as_many = c ∙ ap (λ (m : ℕ). m + cond anew 1 0) w.as_many ∙ sym (more_set w.again anew);
        }))

    -- the next task keeps its fill
    pub kept_next : IsSoundBoard b → IsSoundBoard d → AreFlags b d (old_rank b d) flagged → AreBoardFills b olds → n < length (ranked d)
        → (IsFilledAgain d flagged changed n → ⊥) → (f : Made) → f ≡ get_or olds (old_rank b d n) no_fill
        → (into : List Made) (marks : List Bool) → into ≡ fills ++ f ∷ [] → marks ≡ changed ++ false ∷ []
        → (now : ℕ) → now ≡ count → IsCountedWalk b d olds flagged into marks now
    kept_next sb sd flags filled l stays f is into marks e g now c =
        let s : f ≡ get_or olds (old_rank b d (length fills)) no_fill = subst (λ (m : ℕ). f ≡ get_or olds (old_rank b d m) no_fill) (sym k) is in
        moved into marks (get_or olds (old_rank b d (length fills)) no_fill) false false (e ∙ ap (λ (m : Made). fills ++ m ∷ []) s) g
        (kept_step b d sb sd (old_rank b d) olds flagged flags filled fills w.again changed w.walked (omega (arith, l, k))
        (λ a. stays (subst (λ (m : ℕ). IsFilledAgain d flagged changed m) k (is_again d (old_rank b d) olds flagged fills w.again changed w.walked a))))
        now (omega (arith, c))

    -- the next task has a fill that is made on the board d
    pub made_next : (f x : Made) (same : Bool) → IsFillOf d n f → IsFilledAgain d flagged changed n → x ≡ get_or olds (old_rank b d n) no_fill
        → IsTrue same ↔ (x.pieces ≡ f.pieces)
        → (into : List Made) (marks : List Bool) → into ≡ fills ++ f ∷ [] → marks ≡ changed ++ not same ∷ []
        → (now : ℕ) → now ≡ count + 1 → IsCountedWalk b d olds flagged into marks now
    made_next f x same is anew old h into marks e g now c =
        let o : x ≡ get_or olds (old_rank b d (length fills)) no_fill = subst (λ (m : ℕ). x ≡ get_or olds (old_rank b d m) no_fill) (sym k) old in
        moved into marks f (not same) true e g
        (made_step d (old_rank b d) olds flagged fills w.again changed w.walked
        (is_anew d (old_rank b d) olds flagged fills w.again changed w.walked (subst (λ (m : ℕ). IsFilledAgain d flagged changed m) (sym k) anew)) f
        (subst (λ (m : ℕ). IsFillOf d m f) (sym k) is) (not same)
        (subst (λ (y : Made). (not same ≡ false) ↔ (y.pieces ≡ f.pieces)) o (differs_by same (x.pieces ≡ f.pieces) h)))
        now c

    -- the count is small
    pub few_again : IsSoundBoard d → n < length (ranked d) → count < 64000
    few_again s l =
        let a = few_tasks d s in
        let m = count_by-le-length (λ (mark : Bool). mark) w.again in
        omega (arith, a, m, l, k, w.as_many, w.walked.as_many)

-- ---- the next task

pub next_task : (d : Board) (fills : List Made) (n : ℕ) (t : Task) → AreFillsSoFar d fills → length fills ≡ n → n < length (ranked d) → t ≡ task_at d n → IsNextTask d t fills
next_task d fills n t h k l e = record {
  within = omega (arith, k, l);
  task = ap (λ (m : ℕ). task_at d m) k ∙ sym e;
  first = record {
    tasks = λ m x v.
        let f = h.each m v in
        let o : IsTask d (get_or fills m no_fill).task = task_of d m (get_or fills m no_fill).task (record { within = omega (arith, v, k, l); is = sym f.task }) in
        subst (λ (y : Made). IsTask d y.task) (get_or_default fills m no_fill x v) o;
    each = h.each;
  };
}

pub made_is : (d : Board) (t : Task) (f : Made) {X : Type 0} (g : X → Made) (xs : List X) → IsNextTask d t (map g xs) → IsFillOfTask d t f → IsFillOf d (length xs) f
made_is d t f g xs next h =
    let r : h.rank ≡ length (map g xs) =
    one_rank d h.rank (length (map g xs)) t (record { within = h.within; is = h.task }) (record { within = next.within; is = next.task }) in
    subst (λ (m : ℕ). IsFillOf d m f) (r ∙ length-map xs g) h.fill

pub one_longer : {X : Type 0} (g : X → Made) (xs ys : List X) (f : Made) → map g ys ≡ map g xs ++ f ∷ [] → length ys ≡ length xs + 1
one_longer g xs ys f e =
    let a = length-map xs g in let b = length-map ys g in let c = ap (λ (ms : List Made). length ms) e ∙ length-append (map g xs) (f ∷ []) in
    omega (arith, a, b, c)

-- the same over a list that is lent
pub next_lent : (d : Board) {X : Type 0} (g : X → Made) (xs ys : List X) (t : Task) → ys ≡ xs → AreFillsSoFar d (map g xs) → length xs < length (ranked d)
    → t ≡ task_at d (length xs) → IsNextTask d t (map g ys)
next_lent d g xs ys t e h l is =
    subst (λ zs. IsNextTask d t (map g zs)) (sym e) (next_task d (map g xs) (length xs) t h (length-map xs g) l is)

pub same_pieces : (r : Bool) (x f a b : Made) → x ≡ a → f ≡ b → IsTrue r ↔ (x.pieces ≡ f.pieces) → IsTrue r ↔ (a.pieces ≡ b.pieces)
same_pieces r x f a b e g h =
    subst (λ (y : Made). IsTrue r ↔ (y.pieces ≡ b.pieces)) e (subst (λ (y : Made). IsTrue r ↔ (x.pieces ≡ y.pieces)) g h)
