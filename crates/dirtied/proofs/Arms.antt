-- What each kind of edit dirties, by what has its stamp and by the texts of the two boards.
use Rattle.std.proofs.Common.{◌≡◌, ◌∙◌, refl, sym, subst, ℕ, inl, inr, Bool, true, false, List, Option, None, Some, option_map}
use Rattle.std.specs.Prelude.{◌⊎◌, ◌↔◌, is_some}
use Rattle.std.proofs.lemmas.Option.{none-some, same_Some}
use Rattle.std.proofs.lemmas.Bool.{false≢true}
use Rattle.board_text.specs.declared.stamped.Stamped.{Stamped}
use Rattle.board_text.specs.declared.stamped.Stamped.TheVariants as things
use Rattle.board_language.specs.declared.board.Track.{Track}
use Rattle.board_language.specs.declared.board.Via.{Via}
use Rattle.board_language.specs.declared.board.Rules.{Rules}
use Rattle.board_language.specs.Board.{Board}
use Rattle.board_items.specs.Stamps.{stamped}
use Rattle.board_model.specs.Whole.{Whole}
use Rattle.fill_rules.specs.Tasks.{task_at}
use Rattle.fill_rules.specs.Edits.{IsTrackDirtying, IsViaDirtying}
use Rattle.edit_language.specs.declared.edit.Edit.{Edit}
use Rattle.edit_language.specs.declared.edit.Edit.TheVariants as edits
use Rattle.board_edit.specs.Edited.{IsReadOf}
use Rattle.dirty_rules.specs.Dirty.{IsDirtyingAsTrack, IsDirtyingAsVia, IsDirtyingAsZone, IsZoneDirtying, IsDirtying}
use Rattle.dirtied.specs.Dirtied.{AreTaskFlags, AreDirtied}
use Rattle.dirtied.specs.Inner.Named.{track_in, via_in, zone_number_in, IsDirtyingTrack, IsDirtyingVia, IsDirtyingZone, IsDirtyingCopper, IsDirtyingNamed}
use Rattle.dirtied.proofs.Flags.{flags_as}
use Rattle.dirtied.proofs.Stamped.{track_is, via_is, zone_is}

-- ---- where there is something, and where there is nothing

pub some_track : (b : Board) (o : Option Track) (track : Track) (flags : List Bool) → o ≡ Some track → AreTaskFlags b (λ k. IsTrackDirtying b k track) flags → AreTaskFlags b (IsDirtyingTrack b o) flags
unfolding IsDirtyingTrack
some_track b o track flags e f =
    flags_as b _ _ flags (λ k. (λ d. (track, e, d), λ d. subst (IsTrackDirtying b k) (same_Some d.0 track (sym d.1 ∙ e)) d.2)) f

pub no_track : (b : Board) (o : Option Track) (flags : List Bool) → o ≡ None → AreTaskFlags b (λ k. ⊥) flags → AreTaskFlags b (IsDirtyingTrack b o) flags
unfolding IsDirtyingTrack
no_track b o flags e f = flags_as b _ _ flags (λ k. (λ n. absurd n, λ d. none-some d.0 (sym e ∙ d.1))) f

pub some_via : (b : Board) (o : Option Via) (via : Via) (flags : List Bool) → o ≡ Some via → AreTaskFlags b (λ k. IsViaDirtying b k via) flags → AreTaskFlags b (IsDirtyingVia b o) flags
unfolding IsDirtyingVia
some_via b o via flags e f = flags_as b _ _ flags (λ k. (λ d. (via, e, d), λ d. subst (IsViaDirtying b k) (same_Some d.0 via (sym d.1 ∙ e)) d.2)) f

pub no_via : (b : Board) (o : Option Via) (flags : List Bool) → o ≡ None → AreTaskFlags b (λ k. ⊥) flags → AreTaskFlags b (IsDirtyingVia b o) flags
unfolding IsDirtyingVia
no_via b o flags e f = flags_as b _ _ flags (λ k. (λ n. absurd n, λ d. none-some d.0 (sym e ∙ d.1))) f

pub some_zone : (b d : Board) (o : Option ℕ) (n : ℕ) (flags : List Bool) → o ≡ Some n → AreTaskFlags d (λ k. IsZoneDirtying b d n (task_at d k)) flags → AreTaskFlags d (IsDirtyingZone b d o) flags
unfolding IsDirtyingZone
some_zone b d o n flags e f =
    flags_as d _ _ flags (λ k. (λ x. (n, e, x), λ x. subst (λ m. IsZoneDirtying b d m (task_at d k)) (same_Some x.0 n (sym x.1 ∙ e)) x.2)) f

pub no_zone : (b d : Board) (o : Option ℕ) (flags : List Bool) → o ≡ None → AreTaskFlags d (λ k. ⊥) flags → AreTaskFlags d (IsDirtyingZone b d o) flags
unfolding IsDirtyingZone
no_zone b d o flags e f = flags_as d _ _ flags (λ k. (λ n. absurd n, λ x. none-some x.0 (sym e ∙ x.1))) f

-- ---- what is dropped

not_via : (b : Board) (o : Option Stamped) (track : Track) (via : Via) → track_in b o ≡ Some track → via_in b o ≡ Some via → ⊥
not_via b None track via t v = none-some track t
not_via b (Some (things.Track n)) track via t v = none-some via v
not_via b (Some (things.Via n)) track via t v = none-some track t
not_via b (Some (things.Zone n)) track via t v = none-some track t
not_via b (Some things.Other) track via t v = none-some track t

pub drops_track : (b d : Board) (o : Option Stamped) (p : Option Track) (track : Track) (flags : List Bool) → p ≡ track_in b o → p ≡ Some track → AreTaskFlags d (IsDirtyingTrack d p) flags
    → AreTaskFlags d (IsDirtyingCopper b d o) flags
unfolding IsDirtyingCopper IsDirtyingTrack IsDirtyingVia
drops_track b d o p track flags e s f = flags_as d _ _ flags (λ k. (λ x. inl (x.0, sym e ∙ x.1, x.2), λ x. back k x)) f
  where
    back : (k : ℕ) → IsDirtyingTrack d (track_in b o) k ⊎ IsDirtyingVia d (via_in b o) k → IsDirtyingTrack d p k
    back k (inl x) = (x.0, e ∙ x.1, x.2)
    back k (inr y) = absurd (not_via b o track y.0 (sym e ∙ s) y.1)

pub drops_via : (b d : Board) (o : Option Stamped) (p : Option Track) (q : Option Via) (flags : List Bool) → p ≡ track_in b o → p ≡ None → q ≡ via_in b o → AreTaskFlags d (IsDirtyingVia d q) flags
    → AreTaskFlags d (IsDirtyingCopper b d o) flags
unfolding IsDirtyingCopper IsDirtyingTrack IsDirtyingVia
drops_via b d o p q flags e n v f = flags_as d _ _ flags (λ k. (λ x. inr (x.0, sym v ∙ x.1, x.2), λ x. back k x)) f
  where
    back : (k : ℕ) → IsDirtyingTrack d (track_in b o) k ⊎ IsDirtyingVia d (via_in b o) k → IsDirtyingVia d q k
    back k (inl x) = absurd (none-some x.0 (sym n ∙ e ∙ x.1))
    back k (inr y) = (y.0, v ∙ y.1, y.2)

pub some_mapped : {X Y : Type 0} (h : X → Y) (o : Option X) (r : Bool) → r ≡ is_some o → r ≡ true → (y : Y) × (option_map h o ≡ Some y)
some_mapped h None r e t = absurd (false≢true (sym e ∙ t))
some_mapped h (Some x) r e t = (h x, refl)

pub none_mapped : {X Y : Type 0} (h : X → Y) (o : Option X) (r : Bool) → r ≡ is_some o → r ≡ false → option_map h o ≡ None
none_mapped h None r e t = refl
none_mapped h (Some x) r e t = absurd (false≢true (sym t ∙ e))

-- ---- by the texts

track_told : (text : List ℕ) (rules : Rules) (w : Whole) (d : Board) (stamp : List ℕ) (k : ℕ) → IsReadOf text w → w.board.rules ≡ rules
    → IsDirtyingTrack d (track_in w.board (stamped w.stamps stamp)) k ↔ IsDirtyingAsTrack text rules stamp d k
unfolding IsDirtyingTrack
track_told text rules w d stamp k h e =
    (λ x. (x.0, (track_is text rules w stamp x.0 h e).0 x.1, x.2), λ x. (x.0, (track_is text rules w stamp x.0 h e).1 x.1, x.2))

via_told : (text : List ℕ) (rules : Rules) (w : Whole) (d : Board) (stamp : List ℕ) (k : ℕ) → IsReadOf text w → w.board.rules ≡ rules
    → IsDirtyingVia d (via_in w.board (stamped w.stamps stamp)) k ↔ IsDirtyingAsVia text rules stamp d k
unfolding IsDirtyingVia
via_told text rules w d stamp k h e =
    (λ x. (x.0, (via_is text rules w stamp x.0 h e).0 x.1, x.2), λ x. (x.0, (via_is text rules w stamp x.0 h e).1 x.1, x.2))

zone_told : (text : List ℕ) (rules : Rules) (w : Whole) (d : Board) (stamp : List ℕ) (k : ℕ) → IsReadOf text w → w.board.rules ≡ rules
    → IsDirtyingZone w.board d (zone_number_in (stamped w.stamps stamp)) k ↔ IsDirtyingAsZone text stamp w.board d k
unfolding IsDirtyingZone
zone_told text rules w d stamp k h e =
    (λ x. (x.0, (zone_is text rules w stamp x.0 h e).0 x.1, x.2), λ x. (x.0, (zone_is text rules w stamp x.0 h e).1 x.1, x.2))

either_told : {A B C D : Type 0} → A ↔ C → B ↔ D → (A ⊎ B) ↔ (C ⊎ D)
either_told {A} {B} {C} {D} f g = (there, back)
  where
    there : A ⊎ B → C ⊎ D
    there (inl a) = inl (f.0 a)
    there (inr b) = inr (g.0 b)

    back : C ⊎ D → A ⊎ B
    back (inl c) = inl (f.1 c)
    back (inr d) = inr (g.1 d)

named_told : (text after : List ℕ) (rules : Rules) (old new : Whole) (edit : Edit) (k : ℕ) → IsReadOf text old → IsReadOf after new → old.board.rules ≡ rules → new.board.rules ≡ rules
    → IsDirtyingNamed old new edit k ↔ IsDirtying text after rules old.board new.board edit k
unfolding IsDirtyingNamed IsDirtyingCopper IsDirtying
named_told text after rules old new (edits.Track from to width layer net stamp) k g h e r = track_told after rules new new.board stamp k h r
named_told text after rules old new (edits.Via at size drill top bottom net stamp) k g h e r = via_told after rules new new.board stamp k h r
named_told text after rules old new (edits.Drop stamp) k g h e r =
    either_told (track_told text rules old new.board stamp k g e) (via_told text rules old new.board stamp k g e)
named_told text after rules old new (edits.Priority stamp value) k g h e r = zone_told text rules old new.board stamp k g e
named_told text after rules old new (edits.Clearance stamp value) k g h e r = zone_told text rules old new.board stamp k g e

pub told : (old new : Whole) (edit : Edit) (flags : List Bool) → AreTaskFlags new.board (IsDirtyingNamed old new edit) flags → AreDirtied old new edit flags
told old new edit flags f text after rules g h e r = flags_as new.board _ _ flags (λ k. named_told text after rules old new edit k g h e r) f
