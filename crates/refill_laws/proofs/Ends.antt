-- At the end of a walk: whose fill changed, by the tasks, and the dirty set of a list of edits.
use Rattle.std.proofs.Common.{◌≡◌, ◌∙◌, refl, ap, sym, subst, ℕ, ◌<◌, ◌≤◌, inl, inr, List, length, get_or, arith}
use Rattle.std.specs.Prelude.{◌≢◌, ◌↔◌, Bool, true, false}
use Rattle.std.proofs.lemmas.Bool.{cases_lt, cases_Bool, both_ways}
use Rattle.std.proofs.lemmas.List.{get_or_past}
use Rattle.board_language.specs.Board.{Board}
use Rattle.fill_rules.specs.Tasks.{Task, no_task, ranked, task_at}
use Rattle.fill_rules.specs.Made.{Made, no_fill}
use Rattle.fill_rules.specs.Nodes.{rank_in, made_of}
use Rattle.fills.specs.Fills.{AreBoardFills}
use Rattle.dirty_rules.specs.Dirty.{IsRankOf, AreOldRanks}
use Rattle.dirty_rules.proofs.Ranks.{one_rank, task_of}
use Rattle.refill_laws.specs.Walks.{AreFilledAgain, numbers_with}
use Rattle.refill_laws.specs.Walked.{is_set, IsWalkedTo}
use Rattle.refill_laws.specs.StepLaws.{EndChangedLaw, EndDirtyLaw}
use Rattle.refill_laws.proofs.OldRanks.{at_place, place_is, past_end}
use Rattle.refill_laws.proofs.Counts.{dirty_count}
use Rattle.refill_laws.proofs.Steps.{counted}

-- a task that has a rank has its fill there
fill_there : (b : Board) (fills : List Made) (t : Task) (r : ℕ) → IsRankOf b r t → made_of b fills t ≡ get_or fills r no_fill
fill_there b fills t r h = ap (λ (i : ℕ). get_or fills i no_fill) (one_rank b (rank_in t (ranked b)) r t (place_is b t (task_of b r t h)) h)

is_rank : (b : Board) (t : Task) → rank_in t (ranked b) < length (ranked b) → IsRankOf b (rank_in t (ranked b)) t
unfolding task_at
is_rank b t l = record { within = l; is = at_place t (ranked b) (no_task b) l }

-- and one that has none has no fill
no_fill_there : (b : Board) (fills : List Made) (t : Task) → length fills ≡ length (ranked b) → t.zone ≡ length b.zones → made_of b fills t ≡ no_fill
no_fill_there b fills t e z = get_or_past fills (rank_in t (ranked b)) no_fill (elim (cases_lt (rank_in t (ranked b)) (length (ranked b))) [
  | inl l ↦ absurd (omega (arith, z, (task_of b (rank_in t (ranked b)) t (is_rank b t l)).zone))
  | inr l ↦ omega (arith, l, e)
])

differ : (c : Bool) (P : Type 0) → (c ≡ false) ↔ P → (c ≡ true) ↔ (P → ⊥)
differ c P h = (
  λ e p. both_ways c (h.1 p) e,
  λ n. elim (cases_Bool c) [ inl e ↦ e | inr e ↦ absurd (n (h.0 e)) ],
)

module _ (b d : Board) (old : ℕ → ℕ) (olds : List Made) (flagged : ℕ → Bool) (fills : List Made) (again changed : List Bool)
    (zones : length b.zones ≡ length d.zones) (ranks : AreOldRanks b d old) (filled : AreBoardFills b olds)
    (w : IsWalkedTo d old olds flagged fills again changed) (e : length fills ≡ length (ranked d)) (k : ℕ)
  where
    same_within : k < length (ranked d) → (is_set changed k ≡ false) ↔ ((made_of b olds (task_at d k)).pieces ≡ (made_of d fills (task_at d k)).pieces)
    same_within l =
        let x : made_of b olds (task_at d k) ≡ get_or olds (old k) no_fill = fill_there b olds (task_at d k) (old k) (ranks k l) in
        let y : made_of d fills (task_at d k) ≡ get_or fills k no_fill = fill_there d fills (task_at d k) k (record { within = l; is = refl }) in
        let t = w.tells.each k (omega (arith, l, e)) in (
          λ q. ap (λ (f : Made). f.pieces) x ∙ t.0 q ∙ sym (ap (λ (f : Made). f.pieces) y),
          λ p. t.1 (sym (ap (λ (f : Made). f.pieces) x) ∙ p ∙ ap (λ (f : Made). f.pieces) y),
        )

    same_past : length (ranked d) ≤ k → (is_set changed k ≡ false) ↔ ((made_of b olds (task_at d k)).pieces ≡ (made_of d fills (task_at d k)).pieces)
    same_past l =
        let z : (task_at d k).zone ≡ length d.zones = past_end d k l in
        let x : made_of b olds (task_at d k) ≡ no_fill = no_fill_there b olds (task_at d k) filled.count (z ∙ sym zones) in
        let y : made_of d fills (task_at d k) ≡ no_fill = no_fill_there d fills (task_at d k) e z in (
          λ q. ap (λ (f : Made). f.pieces) (x ∙ sym y),
          λ p. get_or_past changed k false (omega (arith, l, e, w.as_told)),
        )

    pub changed_here : (is_set changed k ≡ true) ↔ ((made_of b olds (task_at d k)).pieces ≢ (made_of d fills (task_at d k)).pieces)
    changed_here = differ (is_set changed k) ((made_of b olds (task_at d k)).pieces ≡ (made_of d fills (task_at d k)).pieces)
        (elim (cases_lt k (length (ranked d))) [ inl l ↦ same_within l | inr l ↦ same_past l ])

pub end_changed : EndChangedLaw
end_changed b d old olds flagged fills again changed zones ranks filled w e k = changed_here b d old olds flagged fills again changed zones ranks filled w e k

pub end_dirty : EndDirtyLaw
end_dirty text list rules d old olds flagged fills again changed flags w e = (
  numbers_with (is_set again) (length (ranked d)),
  dirty_count text list rules d flagged (is_set changed) (is_set again) flags
      (subst (λ (n : ℕ). AreFilledAgain d n flagged (is_set changed) (is_set again)) e w.anew),
  sym (counted again) ∙ ap (λ (n : ℕ). length (numbers_with (is_set again) n)) (w.as_many ∙ e),
)
