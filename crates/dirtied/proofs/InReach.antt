-- Tasks that reach each other, without their ranks; and what a zone's change dirties.
use Rattle.std.proofs.Common.{◌≡◌, ◌∙◌, refl, sym, subst, ℕ, ◌<◌, inl, inr, Bool, true, false, length}
use Rattle.std.specs.Prelude.{◌↔◌, IsTrue}
use Rattle.std.proofs.lemmas.Bool.{false≢true}
use Rattle.board_language.specs.declared.board.Zone.{Zone}
use Rattle.board_language.specs.Board.{Board}
use Rattle.board_language.specs.Copper.{has_layer}
use Rattle.fill_rules.specs.Tasks.{Task, task_zone, task_at}
use Rattle.fill_rules.specs.Ranking.{IsTask}
use Rattle.knockouts.specs.Reaching.{ReachesTask}
use Rattle.knockouts.proofs.Near.{ranks_law}
use Rattle.dirty_rules.specs.Dirty.{IsReachingTask, AreTasksInReach, IsZoneDirtying}
use Rattle.dirty_rules.proofs.Ranks.{task_of, rank_of}

-- ---- the board's tasks

pub task_told : (b : Board) (t : Task) (z : Zone) (count : ℕ) (r : Bool) → t.zone < length b.zones → z ≡ task_zone b t → count ≡ length b.layers
    → IsTrue r ↔ ((t.layer < count) × (has_layer z.layers t.layer ≡ true)) → IsTrue r ↔ IsTask b t
task_told b t z count r l e c h = (
  λ x. let y = h.0 x in
      record { zone = l; layer = subst (λ n. t.layer < n) c y.0; has = subst (λ (u : Zone). has_layer u.layers t.layer ≡ true) e y.1 },
  λ i. h.1 (subst (λ n. t.layer < n) (sym c) i.layer, subst (λ (u : Zone). has_layer u.layers t.layer ≡ true) (sym e) i.has),
)

-- both are the board's, and the one reaches the other
record AreReaching (b : Board) (s t : Task) : Type 0 where
  upper : IsTask b s
  lower : IsTask b t
  reaches : ReachesTask b s t

out_of_ranks : (b : Board) (s t : Task) → IsReachingTask b s t → AreReaching b s t
out_of_ranks b s t r =
    let k : ReachesTask b (task_at b r.rank) (task_at b r.below) = (ranks_law b r.rank r.below r.first.within r.second.within).0 r.reaching in
    record {
      upper = task_of b r.rank s r.first;
      lower = task_of b r.below t r.second;
      reaches = subst (λ x. ReachesTask b s x) r.second.is (subst (λ x. ReachesTask b x (task_at b r.below)) r.first.is k);
    }

into_ranks : (b : Board) (s t : Task) → IsTask b s → IsTask b t → ReachesTask b s t → IsReachingTask b s t
into_ranks b s t u l k =
    let i = rank_of b s u in
    let j = rank_of b t l in
    record {
      rank = i.0;
      below = j.0;
      first = i.1;
      second = j.1;
      reaching = (ranks_law b i.0 j.0 i.1.within j.1.within).1 (subst (λ x. ReachesTask b (task_at b i.0) x) (sym j.1.is) (subst (λ x. ReachesTask b x t) (sym i.1.is) k));
    }

pub no_upper : (b : Board) (s t : Task) (p : Bool) → IsTrue p ↔ IsTask b s → p ≡ false → IsReachingTask b s t → ⊥
no_upper b s t p h e r = false≢true (sym e ∙ h.1 (out_of_ranks b s t r).upper)

pub no_lower : (b : Board) (s t : Task) (p : Bool) → IsTrue p ↔ IsTask b t → p ≡ false → IsReachingTask b s t → ⊥
no_lower b s t p h e r = false≢true (sym e ∙ h.1 (out_of_ranks b s t r).lower)

pub both_there : (b : Board) (s t : Task) (r : Bool) → IsTask b s → IsTask b t → IsTrue r ↔ ReachesTask b s t → IsTrue r ↔ IsReachingTask b s t
both_there b s t r u l h = (λ e. into_ranks b s t u l (h.0 e), λ k. h.1 (out_of_ranks b s t k).reaches)

-- ---- one layer

same_layer : (b : Board) (s t : Task) → AreTasksInReach b s t → s.layer ≡ t.layer
same_layer b s t (inl r) = (out_of_ranks b s t r).reaches.layer
same_layer b s t (inr r) = sym (out_of_ranks b t s r).reaches.layer

task_so : (s : Task) (n l : ℕ) → s.zone ≡ n → s.layer ≡ l → s ≡ record { zone = n; layer = l }
task_so s n l z k = subst (λ x. s ≡ record { zone = n; layer = x }) k (subst (λ x. s ≡ record { zone = x; layer = s.layer }) z refl)

-- a task of the zone that is in reach of another is the zone's task on the layer of that
on_its_layer : (b : Board) (n : ℕ) (s t : Task) → s.zone ≡ n → AreTasksInReach b s t → AreTasksInReach b (record { zone = n; layer = t.layer }) t
on_its_layer b n s t z r = subst (λ x. AreTasksInReach b x t) (task_so s n t.layer z (same_layer b s t r)) r

-- ---- what a zone's change dirties

pub by_own : (b d : Board) (n : ℕ) (t : Task) → t.zone ≡ n → IsZoneDirtying b d n t
unfolding IsZoneDirtying
by_own b d n t e = inl e

pub by_old : (b d : Board) (n : ℕ) (t : Task) → AreTasksInReach b (record { zone = n; layer = t.layer }) t → IsZoneDirtying b d n t
unfolding IsZoneDirtying
by_old b d n t r = inr (record { zone = n; layer = t.layer }, refl, inl r)

pub by_new : (b d : Board) (n : ℕ) (t : Task) → AreTasksInReach d (record { zone = n; layer = t.layer }) t → IsZoneDirtying b d n t
unfolding IsZoneDirtying
by_new b d n t r = inr (record { zone = n; layer = t.layer }, refl, inr r)

pub last_left : (b d : Board) (n : ℕ) (t : Task) → (t.zone ≡ n → ⊥) → (AreTasksInReach b (record { zone = n; layer = t.layer }) t → ⊥) → IsZoneDirtying b d n t
    → AreTasksInReach d (record { zone = n; layer = t.layer }) t
unfolding IsZoneDirtying
last_left b d n t other off (inl e) = absurd (other e)
last_left b d n t other off (inr (s, z, inl r)) = absurd (off (on_its_layer b n s t z r))
last_left b d n t other off (inr (s, z, inr r)) = on_its_layer d n s t z r

pub told_last : (b d : Board) (n : ℕ) (t : Task) (first last : Bool) → (t.zone ≡ n → ⊥) → first ≡ false → IsTrue first ↔ AreTasksInReach b (record { zone = n; layer = t.layer }) t
    → IsTrue last ↔ AreTasksInReach d (record { zone = n; layer = t.layer }) t → IsTrue last ↔ IsZoneDirtying b d n t
told_last b d n t first last other e f l = (λ x. by_new b d n t (l.0 x), λ z. l.1 (last_left b d n t other (λ r. false≢true (sym e ∙ f.1 r)) z))
