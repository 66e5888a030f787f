-- The tasks of a board in a list in rank order.
use Rattle.std.proofs.Common.{◌≡◌, ◌∙◌, sym, ap, subst, ℕ, ◌<◌, List, length, map, get_or, arith}
use Rattle.std.specs.Prelude.{◌↔◌, Bool, IsTrue}
use Rattle.std.proofs.lemmas.List.{get_or-map, length-map}
use Rattle.board_language.specs.Board.{Board}
use Rattle.fill_rules.specs.Tasks.{Task, ranked, task_at, no_task}
use Rattle.fill_rules.specs.Ranking.{IsTask}
use Rattle.fill_rules.specs.Reach.{IsReaching}
use Rattle.fill_rules.specs.Nodes.{rank_in}
use Rattle.fill_rules.specs.Made.{Made}
use Rattle.fills.specs.declared.Task as code
use Rattle.fills.specs.Fills as fills
use Rattle.fills.specs.Fills.{AreBoardFills}
use Rattle.knockouts.specs.Reaching.{ReachesTask}
use Rattle.knockouts.proofs.Near.{ranks_law}
use Rattle.dirty_rules.proofs.Ranks.{task_of}
use Rattle.refill_laws.specs.OneEdit.{old_rank}
use Rattle.refill_laws.specs.Flags.{AreFlags}

module _ (b : Board) (ts : List code.Task) (order : map fills.task_of ts ≡ ranked b) where
  pub task_count : length ts ≡ length (ranked b)
  task_count = sym (length-map ts fills.task_of) ∙ ap (λ (us : List Task). length us) order

  pub task_is : (k : ℕ) (d : code.Task) → k < length ts → fills.task_of (get_or ts k d) ≡ task_at b k
  unfolding task_at
  task_is k d l = sym (get_or-map fills.task_of ts k d (no_task b) l) ∙ ap (λ (us : List Task). get_or us k (no_task b)) order

  pub is_task : (k : ℕ) (d : code.Task) → k < length ts → IsTask b (fills.task_of (get_or ts k d))
  is_task k d l =
      task_of b k (fills.task_of (get_or ts k d))
      (record { within = subst (λ (n : ℕ). k < n) task_count l; is = sym (task_is k d l) })

  -- one task reaches another, by their ranks
  pub by_ranks : (j k : ℕ) (c d : code.Task) (r : Bool) → j < length ts → k < length ts
      → IsTrue r ↔ ReachesTask b (fills.task_of (get_or ts j c)) (fills.task_of (get_or ts k d)) → IsTrue r ↔ IsReaching b j k
  by_ranks j k c d r lj lk h =
      let g : IsTrue r ↔ ReachesTask b (task_at b j) (task_at b k) =
      subst (λ (t : Task). IsTrue r ↔ ReachesTask b (task_at b j) t) (task_is k d lk)
      (subst (λ (t : Task). IsTrue r ↔ ReachesTask b t (fills.task_of (get_or ts k d))) (task_is j c lj) h) in
      let q = ranks_law b j k (subst (λ (n : ℕ). j < n) task_count lj) (subst (λ (n : ℕ). k < n) task_count lk) in
      (λ x. q.1 (g.0 x), λ x. g.1 (q.0 x))

-- ---- where tasks stood before

pub old_is : (b d : Board) (us ts : List code.Task) → map fills.task_of us ≡ ranked b → map fills.task_of ts ≡ ranked d → (k : ℕ) (x : code.Task) → k < length ts
    → (r : ℕ) → r ≡ rank_in (fills.task_of (get_or ts k x)) (map fills.task_of us) → r ≡ old_rank b d k
unfolding old_rank
old_is b d us ts before order k x l r e =
    e ∙ ap (λ (vs : List Task). rank_in (fills.task_of (get_or ts k x)) vs) before
    ∙ ap (λ (t : Task). rank_in t (ranked b)) (task_is d ts order k x l)

pub old_within : (b d : Board) (flagged : ℕ → Bool) {X : Type 0} (g : X → Made) (xs : List X) → AreFlags b d (old_rank b d) flagged → AreBoardFills b (map g xs)
    → (k : ℕ) → k < length (ranked d) → old_rank b d k < length xs
old_within b d flagged g xs flags filled k l =
    let w = (flags.ranks k l).within in
    let m = length-map xs g in
    let c = filled.count in
    omega (arith, w, m, c)
