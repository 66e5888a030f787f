-- A task that a track or via which comes or goes doesn't dirty is untouched.
use Rattle.std.proofs.Common.{subst, ℕ, ◌≤◌, inl, inr, [], ◌∷◌}
use Rattle.classes.specs.Classes.{IsOneOf}
use Rattle.board_language.specs.declared.board.Track.{Track}
use Rattle.board_language.specs.declared.board.Via.{Via}
use Rattle.board_language.specs.Board.{Board}
use Rattle.fill_rules.specs.Dirty.{IsUntouched}
use Rattle.fill_rules.specs.Edits.{AreSameBut, IsTrackDirtying, IsViaDirtying}
use Rattle.fill_rules.proofs.Edits.{direct_law}
use Rattle.dirty_rules.specs.Dirty.{IsDirtying}
use Rattle.dirty_rules.specs.Laws.{TrackLaw, ViaLaw, DropTrackLaw, DropViaLaw}

none : {X : Type 0} (x : X) → IsOneOf x [] → ⊥
unfolding IsOneOf
none x m = m

just : {X : Type 0} (P : X → Type 0) (x y : X) → IsOneOf y (x ∷ []) → P y → P x
unfolding IsOneOf
just P x y (inl e) p = subst P e p
just P x y (inr m) p = absurd m

by_track : (b d : Board) (track : Track) → AreSameBut b d (track ∷ []) [] → 1 ≤ d.rules.floor → (k : ℕ) → (IsTrackDirtying d k track → ⊥) → IsUntouched b d (λ (j : ℕ). j) k
by_track b d track s one k h =
    direct_law b d (track ∷ []) [] s one k (λ t m w. h (just (IsTrackDirtying d k) track t m w)) (λ v m w. none v m)

by_via : (b d : Board) (via : Via) → AreSameBut b d [] (via ∷ []) → 1 ≤ d.rules.floor → (k : ℕ) → (IsViaDirtying d k via → ⊥) → IsUntouched b d (λ (j : ℕ). j) k
by_via b d via s one k h =
    direct_law b d [] (via ∷ []) s one k (λ t m w. none t m) (λ v m w. h (just (IsViaDirtying d k) via v m w))

pub track_law : TrackLaw
unfolding IsDirtying
track_law text new rules b d from to width layer net stamp track h s one k clean = by_track b d track s one k (λ w. clean (track, h, w))

pub via_law : ViaLaw
unfolding IsDirtying
via_law text new rules b d at size drill top bottom net stamp via h s one k clean = by_via b d via s one k (λ w. clean (via, h, w))

pub drop_track_law : DropTrackLaw
unfolding IsDirtying
drop_track_law text new rules b d stamp track h s one k clean = by_track b d track s one k (λ w. clean (inl (track, h, w)))

pub drop_via_law : DropViaLaw
unfolding IsDirtying
drop_via_law text new rules b d stamp via h s one k clean = by_via b d via s one k (λ w. clean (inr (via, h, w)))
