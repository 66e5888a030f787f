-- What a walk tells at its end, and where it was broken off.
use Rattle.std.proofs.Common.{◌≡◌, ◌∙◌, sym, subst, ◌⊎◌, inl, inr, ℕ, ◌+◌, ◌<◌, ◌≤◌, List, length, arith}
use Rattle.std.specs.Prelude.{Bool}
use Rattle.board_language.specs.Board.{Board}
use Rattle.fill_rules.specs.Tasks.{ranked}
use Rattle.fill_rules.specs.Made.{Made}
use Rattle.fills.specs.Fills.{AreBoardFills}
use Rattle.dirty_rules.specs.Dirty.{AreOldRanks}
use Rattle.refill_laws.specs.OneEdit.{old_rank}
use Rattle.refill_laws.specs.Walked.{is_set}
use Rattle.refill_laws.proofs.Walks.{all_fills}
use Rattle.refill_laws.proofs.Steps.{end_tells, some_ranks, end_count, early_count}
use Rattle.refill_laws.proofs.Ends.{end_changed}
use Rattle.refill_walk.specs.Refill.{IsDirtyCount, AreStepsWithin}
use Rattle.refill_walk.specs.Inner.Walk.{IsCountedWalk, IsFilledAgain}
use Rattle.refill_walk.proofs.Again.{is_anew}

module _ (b d : Board) (olds : List Made) (flagged : ℕ → Bool) (fills : List Made) (changed : List Bool) (count : ℕ) (ranks : AreOldRanks b d (old_rank b d))
    (filled : AreBoardFills b olds) (w : IsCountedWalk b d olds flagged fills changed count) (n : ℕ) (k : length fills ≡ n)
  where
    -- ---- the end

    pub whole_fills : n ≡ length (ranked d) → AreBoardFills d fills
    whole_fills e = all_fills d fills w.walked.right (k ∙ e)

    pub dirty_count : length b.zones ≡ length d.zones → n ≡ length (ranked d) → IsDirtyCount b olds d fills flagged count
    dirty_count z e =
        let list = some_ranks b d (old_rank b d) olds flagged fills w.again changed w.walked (k ∙ e) in
        record {
          changed = is_set changed;
          tells = end_changed b d (old_rank b d) olds flagged fills w.again changed z ranks filled w.walked (k ∙ e);
          ranks = list.0;
          are = list.1;
          count = w.as_many ∙ end_count b d (old_rank b d) olds flagged fills w.again changed ranks filled w.walked (k ∙ e) (is_set changed)
              (end_tells b d (old_rank b d) olds flagged fills w.again changed ranks filled w.walked (k ∙ e)) list.0 list.1;
        }

    -- ---- how far the steps went

    pub steps_so_far : (before now : ℕ) → n ≤ length (ranked d) → now ≡ before + count → AreStepsWithin b d flagged before now
    steps_so_far before now l e = record {
      grown = omega (arith, e);
      most = λ all tells list is_list.
          (let h = (early_count b d (old_rank b d) olds flagged fills w.again changed ranks filled w.walked (omega (arith, l, k)) all tells list is_list).0 in
          omega (arith, h, e, w.as_many));
    }

    steps_next : (before now : ℕ) → n < length (ranked d) → IsFilledAgain d flagged changed n → before ≤ now → now ≤ before + count + 1
        → AreStepsWithin b d flagged before now
    steps_next before now l a g m = record {
      grown = g;
      most = λ all tells list is_list.
          (let v : length fills < length (ranked d) = omega (arith, l, k) in
          let h = (early_count b d (old_rank b d) olds flagged fills w.again changed ranks filled w.walked (omega (arith, v)) all tells list is_list).1 v
          (is_anew d (old_rank b d) olds flagged fills w.again changed w.walked (subst (λ (i : ℕ). IsFilledAgain d flagged changed i) (sym k) a)) in
          omega (arith, h, m, w.as_many));
    }

    -- where the step to the next task was broken off
    pub steps_broken : (before here now : ℕ) → n < length (ranked d) → here ≡ before + count
        → (now ≡ here) ⊎ (IsFilledAgain d flagged changed n × (here ≤ now) × (now ≤ here + 1)) → AreStepsWithin b d flagged before now
    steps_broken before here now l e (inl s) = steps_so_far before now (omega (arith, l)) (s ∙ e)
    steps_broken before here now l e (inr s) =
        let g = s.1 in let m = s.2 in steps_next before now l s.0 (omega (arith, g, e)) (omega (arith, m, e))
