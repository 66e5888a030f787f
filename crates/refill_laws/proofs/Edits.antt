-- What an edit leaves: each task has an old rank, and one that isn't dirtied is untouched.
use Rattle.std.proofs.Common.{ℕ, ◌<◌, inl, inr, List, [], ◌∷◌, length, arith}
use Rattle.board_language.specs.declared.board.Track.{Track}
use Rattle.board_language.specs.declared.board.Via.{Via}
use Rattle.board_language.specs.declared.board.Rules.{Rules}
use Rattle.board_language.specs.Board.{Board}
use Rattle.fill_rules.specs.Tasks.{ranked}
use Rattle.fill_rules.specs.Dirty.{IsUntouched}
use Rattle.fill_rules.specs.Edits.{AreSameBut}
use Rattle.edit_language.specs.declared.edit.Edit.{Edit}
use Rattle.edit_language.specs.declared.edit.Edit.TheVariants as edits
use Rattle.edit_language.specs.Edited.{IsBoardOf}
use Rattle.dirty_rules.specs.Dirty.{AreOldRanks}
use Rattle.edit_changes.specs.Changes.{IsChange}
use Rattle.edit_changes.specs.Laws.{IsLeftAlone}
use Rattle.edit_changes.proofs.Changes.{change_law}
use Rattle.edit_changes.proofs.LeftAlone.{left_alone_law}
use Rattle.edit_changes.proofs.SameBut.{added_track, added_via, dropped_track, dropped_via, priority_set, clearance_set}
use Rattle.refill_laws.specs.OneEdit.{LeadsTo}
use Rattle.refill_laws.specs.Laws.{RanksLaw, ZonesLaw, EditLaw}
use Rattle.refill_laws.proofs.OldRanks.{KeepTasks, as_many, keeps_counted, keeps_placed, old_ranks, one_old_rank, same_ranks, ranks_counted, untouched_renamed}

-- ---- ranks

by_copper : (b d : Board) (ts : List Track) (vs : List Via) → AreSameBut b d ts vs → KeepTasks b d
by_copper b d ts vs s = keeps_counted b d s.layers s.zones

by_change : (text new : List ℕ) (rules : Rules) (b d : Board) (edit : Edit) → IsBoardOf text rules b → IsChange text new rules edit b d → KeepTasks b d
unfolding IsChange
by_change text new rules b d (edits.Track from to width layer net stamp) o c = by_copper b d (c.track ∷ []) [] (added_track new rules stamp _ b d c)
by_change text new rules b d (edits.Via at size drill top bottom net stamp) o c = by_copper b d [] (c.via ∷ []) (added_via new rules stamp _ b d c)
by_change text new rules b d (edits.Drop stamp) o (inl c) = by_copper b d (c.track ∷ []) [] (dropped_track text rules stamp b d o c)
by_change text new rules b d (edits.Drop stamp) o (inr c) = by_copper b d [] (c.via ∷ []) (dropped_via text rules stamp b d o c)
by_change text new rules b d (edits.Priority stamp value) o c = let s = priority_set text stamp value b d c in record { layers = s.layers; zones = s.zone_layers }
by_change text new rules b d (edits.Clearance stamp value) o c = let s = clearance_set text stamp value b d c in keeps_placed b d s.layers s.places

changed : (text new : List ℕ) (rules : Rules) (b d : Board) (edit : Edit) → LeadsTo text new rules b d edit → IsChange text new rules edit b d
changed text new rules b d edit s = change_law text new rules b d edit s.written s.accepted s.before s.after

pub ranks_law : RanksLaw
ranks_law text new rules b d edit s = old_ranks b d (by_change text new rules b d edit s.before (changed text new rules b d edit s))

pub zones_law : ZonesLaw
zones_law text new rules b d edit s = as_many b d (by_change text new rules b d edit s.before (changed text new rules b d edit s))

-- ---- untouched tasks

module _ (text new : List ℕ) (rules : Rules) (b d : Board) (old : ℕ → ℕ) (ranks : AreOldRanks b d old) (k : ℕ) (l : k < length (ranked d)) where
  -- where the ranks stayed, they are the old ones
  renamed : AreOldRanks b d (λ (m : ℕ). m) → IsUntouched b d (λ (m : ℕ). m) k → IsUntouched b d old k
  renamed h u = untouched_renamed b d k (λ (m : ℕ). m) old (λ m w. one_old_rank b d (λ (j : ℕ). j) old h ranks m (omega (arith, w, l))) u

  by_same_but : (ts : List Track) (vs : List Via) → AreSameBut b d ts vs → IsUntouched b d (λ (m : ℕ). m) k → IsUntouched b d old k
  by_same_but ts vs s u = renamed (ranks_counted b d s.layers s.zones) u

  by_left : (edit : Edit) → IsBoardOf text rules b → IsChange text new rules edit b d → IsLeftAlone edit b d k → IsUntouched b d old k
  unfolding IsChange IsLeftAlone
  by_left (edits.Track from to width layer net stamp) o c u = by_same_but (c.track ∷ []) [] (added_track new rules stamp _ b d c) u
  by_left (edits.Via at size drill top bottom net stamp) o c u = by_same_but [] (c.via ∷ []) (added_via new rules stamp _ b d c) u
  by_left (edits.Drop stamp) o (inl c) u = by_same_but (c.track ∷ []) [] (dropped_track text rules stamp b d o c) u
  by_left (edits.Drop stamp) o (inr c) u = by_same_but [] (c.via ∷ []) (dropped_via text rules stamp b d o c) u
  by_left (edits.Priority stamp value) o c u = u old ranks
  by_left (edits.Clearance stamp value) o c u = let s = clearance_set text stamp value b d c in renamed (same_ranks b d s.layers s.places) u

pub edit_law : EditLaw
edit_law text new rules b d edit s one old ranks k l clean =
    by_left text new rules b d old ranks k l edit s.before (changed text new rules b d edit s)
    (left_alone_law text new rules b d edit s.written s.accepted s.before s.after one k l clean)
