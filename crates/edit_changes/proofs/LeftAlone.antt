-- A task that an accepted edit doesn't dirty directly is untouched.
use Rattle.std.proofs.Common.{ℕ, ◌≤◌, ◌<◌, inl, inr, List, length}
use Rattle.board_language.specs.declared.board.Rules.{Rules}
use Rattle.board_language.specs.Board.{Board}
use Rattle.fill_rules.specs.Tasks.{ranked}
use Rattle.edit_language.specs.declared.edit.Edit.{Edit}
use Rattle.edit_language.specs.declared.edit.Edit.TheVariants.{Track, Via, Drop, Priority, Clearance}
use Rattle.edit_language.specs.Edited.{IsBoardOf}
use Rattle.dirty_rules.specs.Dirty.{IsDirtying}
use Rattle.dirty_rules.proofs.Copper.{track_law, via_law, drop_track_law, drop_via_law}
use Rattle.dirty_rules.proofs.ZoneEdits.{clearance_law, priority_law}
use Rattle.edit_changes.specs.Changes.{IsChange}
use Rattle.edit_changes.specs.Laws.{IsLeftAlone, LeftAloneLaw}
use Rattle.edit_changes.proofs.SameBut.{added_track, added_via, dropped_track, dropped_via, priority_set, clearance_set}
use Rattle.edit_changes.proofs.Changes.{change_law}

left_alone : (text new : List ℕ) (rules : Rules) (b d : Board) (edit : Edit) → IsBoardOf text rules b → IsChange text new rules edit b d → 1 ≤ d.rules.floor → (k : ℕ) → k < length (ranked d)
    → (IsDirtying text new rules b d edit k → ⊥) → IsLeftAlone edit b d k
unfolding IsChange IsLeftAlone IsDirtying
left_alone text new rules b d (Track from to width layer net stamp) o h one k l clean =
    track_law text new rules b d from to width layer net stamp h.track h.is (added_track new rules stamp _ b d h) one k clean
left_alone text new rules b d (Via at size drill top bottom net stamp) o h one k l clean =
    via_law text new rules b d at size drill top bottom net stamp h.via h.is (added_via new rules stamp _ b d h) one k clean
left_alone text new rules b d (Drop stamp) o (inl h) one k l clean = drop_track_law text new rules b d stamp h.track h.is (dropped_track text rules stamp b d o h) one k clean
left_alone text new rules b d (Drop stamp) o (inr h) one k l clean = drop_via_law text new rules b d stamp h.via h.is (dropped_via text rules stamp b d o h) one k clean
left_alone text new rules b d (Priority stamp value) o h one k l clean =
    λ old ranks. priority_law b d h.number (priority_set text stamp value b d h) one old ranks k l (λ z. clean (h.number, h.is, z))
left_alone text new rules b d (Clearance stamp value) o h one k l clean =
    clearance_law b d h.number (clearance_set text stamp value b d h) one k l (λ z. clean (h.number, h.is, z))

pub left_alone_law : LeftAloneLaw
left_alone_law text new rules b d edit w a h g one k l clean = left_alone text new rules b d edit h (change_law text new rules b d edit w a h g) one k l clean
