-- A board has few tasks.
use Rattle.std.proofs.Common.{◌≡◌, refl, ◌∙◌, ap, ℕ, zero, suc, ◌*◌, ◌≤◌, arith, List, [], ◌∷◌, length, map}
use Rattle.std.specs.Prelude.{Bool, true, false, cond, nat_le}
use Rattle.std.proofs.lemmas.List.{length-append, length-map}
use Rattle.board_language.specs.declared.board.Zone.{Zone}
use Rattle.board_language.specs.Board.{Board}
use Rattle.board_language.specs.Copper.{has_layer}
use Rattle.board_language.specs.Facts.{IsSoundBoard}
use Rattle.fill_rules.specs.Tasks.{Task, layers_below, tasks_from, task_zone, put_by_priority, put_all, ranked}

one_most : (n : ℕ) (b : Bool) → length (cond b (n ∷ []) []) ≤ 1
one_most n true = omega arith
one_most n false = omega arith

layers_most : (m n : ℕ) → length (layers_below m n) ≤ n
layers_most m zero = omega arith
layers_most m (suc n) =
    let h = layers_most m n in
    let o = one_most n (has_layer m n) in
    let e = length-append (layers_below m n) (cond (has_layer m n) (n ∷ []) []) in
    omega (arith, h, o, e)

tasks_most : (count z : ℕ) (zones : List Zone) → count ≤ 32 → length (tasks_from count z zones) ≤ 32 * length zones
tasks_most count z [] l = omega arith
tasks_most count z (y ∷ zones) l =
    let own = map (λ (k : ℕ). task z k) (layers_below y.layers count) in
    let h = tasks_most count (suc z) zones l in
    let o = layers_most y.layers count in
    let m = length-map (layers_below y.layers count) (λ (k : ℕ). task z k) in
    let e = length-append own (tasks_from count (suc z) zones) in
    omega (arith, h, o, m, e, l)
  where
    task : ℕ → ℕ → Task
    task z k = record { zone = z; layer = k }

put_count : (b : Board) (t : Task) (us : List Task) → length (put_by_priority b t us) ≡ suc (length us)
put_count b t [] = refl
put_count b t (u ∷ us) = pick (nat_le (task_zone b u).priority (task_zone b t).priority) (put_count b t us)
  where
    pick : (c : Bool) → length (put_by_priority b t us) ≡ suc (length us) → length (cond c (t ∷ u ∷ us) (u ∷ put_by_priority b t us)) ≡ suc (suc (length us))
    pick true h = refl
    pick false h = ap suc h

all_count : (b : Board) (ts : List Task) → length (put_all b ts) ≡ length ts
all_count b [] = refl
all_count b (t ∷ ts) = put_count b t (put_all b ts) ∙ ap suc (all_count b ts)

-- at most 2,000 zones on at most 32 layers
pub few_tasks : (b : Board) → IsSoundBoard b → length (ranked b) ≤ 64000
unfolding ranked
few_tasks b s =
    let e = all_count b (tasks_from (length b.layers) 0 b.zones) in
    let m = tasks_most (length b.layers) 0 b.zones s.layers in
    omega (arith, e, m, s.outlines)
