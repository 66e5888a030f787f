-- Where the fills of a board stand: each is that of one of its tasks, which comes next after the fills of lesser ranks.
use Rattle.std.proofs.Common.{◌≡◌, ◌∙◌, refl, sym, ap, subst, ℕ, zero, suc, ◌<◌, ◌≤◌, ◌⊎◌, inl, inr, arith, List, [], ◌∷◌, length, get_or, take}
use Rattle.std.proofs.lemmas.List.{get_or-take, length-take-le, get_or_default}
use Rattle.classes.specs.Classes.{IsOneOf}
use Rattle.board_language.specs.Board.{Board}
use Rattle.fill_rules.specs.Tasks.{ranked, task_at, no_task}
use Rattle.fill_rules.specs.Ranking.{IsTask}
use Rattle.fill_rules.specs.Made.{Made, no_fill}
use Rattle.fill_rules.proofs.Ranking.{ranked_is}
use Rattle.fills.specs.Fills.{IsFillOf, AreBoardFills}
use Rattle.zone_fill.specs.First.{IsNextTask}

one_at : {A : Type 0} (xs : List A) (k : ℕ) (d : A) → k < length xs → IsOneOf (get_or xs k d) xs
unfolding IsOneOf
one_at [] k d l = absurd (omega (arith, l))
one_at (x ∷ xs) zero d l = inl refl
one_at (x ∷ xs) (suc k) d l = inr (one_at xs k d (omega (arith, l)))

task_of_rank : (b : Board) (r : ℕ) → r < length (ranked b) → IsTask b (task_at b r)
unfolding task_at
task_of_rank b r l = ((ranked_is b).members (task_at b r)).0 (one_at (ranked b) r (no_task b) l)

-- the fill of a rank is that of one of the board's tasks
pub is_task : (b : Board) (fs : List Made) → AreBoardFills b fs → (r : ℕ) → r < length fs → IsTask b (get_or fs r no_fill).task
is_task b fs h r l = let c = h.count in subst (IsTask b) (sym (h.each r l).task) (task_of_rank b r (omega (arith, c, l)))

-- and that task comes next after the fills of lesser ranks
pub is_next : (b : Board) (fs : List Made) → AreBoardFills b fs → (r : ℕ) → r < length fs → IsNextTask b (get_or fs r no_fill).task (take r fs)
is_next b fs h r l =
    let c = h.count in
    let n : length (take r fs) ≡ r = length-take-le r fs (omega (arith, l)) in
    record {
      within = omega (arith, c, l, n);
      task = ap (task_at b) n ∙ sym (h.each r l).task;
      first = record {
        tasks = λ i d m. (let less : i < r = omega (arith, m, n) in let within : i < length fs = omega (arith, less, l) in
            subst (λ (f : Made). IsTask b f.task) (sym (get_or-take r fs i d less ∙ get_or_default fs i d no_fill within)) (is_task b fs h i within));
        each = λ i m. (let less : i < r = omega (arith, m, n) in
            subst (IsFillOf b i) (sym (get_or-take r fs i no_fill less)) (h.each i (omega (arith, less, l))));
      };
    }
