-- A board has at most one first offence.
use Rattle.std.proofs.Common.{◌≡◌, ◌∙◌, refl, ap, sym, subst, ℕ, Bool, true, false, cond, List, ◌∷◌, ◌++◌, Option, None, Some, inl, inr}
use Rattle.std.proofs.lemmas.Option.{none-some, same_Some}
use Rattle.grid_num.specs.declared.Point.{Point}
use Rattle.outline_slab.specs.declared.error.OutlineFault.{OutlineFault}
use Rattle.outline_slab.proofs.OneFault.{one_fault_law, no_fault_law}
use Rattle.board_language.specs.declared.offence.OffenceKind.{OffenceKind}
use Rattle.board_text.specs.Things.{Placed, Thing, thing_of}
use Rattle.board_text.specs.Things as things
use Rattle.board_text.specs.Items.{Context, line_of}
use Rattle.board_language.specs.Zones.{corners_read, is_read_zone, is_read_area}
use Rattle.board_language.specs.Counts.{is_one_too_many}
use Rattle.board_language.specs.Offences.{IsOutlineResult, IsKindOf, kind_with, kind_as, has_outline, area_kind, zone_kind, stamp_kind, is_double_stamp}
use Rattle.board_language.specs.Reading.{AreSound, IsFirstOffence, IsAccepted, IsOffence}
use Rattle.board_language.specs.Laws.{OneOffenceLaw, NoOffenceLaw}
use Rattle.board_language.proofs.Places.{compared}

-- ---- one item

same_outline : (corners : List Point) (f g : Option OutlineFault) → IsOutlineResult corners f → IsOutlineResult corners g → f ≡ g
same_outline corners None None a b = refl
same_outline corners None (Some g) a b = absurd (no_fault_law corners g a b)
same_outline corners (Some f) None a b = absurd (no_fault_law corners f b a)
same_outline corners (Some f) (Some g) a b = ap Some (one_fault_law corners f g a b)

-- an outline counts where the item is read
by_reading : (F : Option OutlineFault → Option OffenceKind) (b : Bool) (x : Option OffenceKind) (f g : Option OutlineFault) → (b ≡ true → f ≡ g) → cond b (F f) x ≡ cond b (F g) x
by_reading F true x f g e = ap F (e refl)
by_reading F false x f g e = refl

-- of a thing without an outline none counts
by_thing : (c : Context) (before : List Placed) (p : Placed) (f g : Option OutlineFault) (t : Thing) → (has_outline c p.item t ≡ true → f ≡ g) → kind_as c before p f t ≡ kind_as c before p g t
by_thing c before p f g things.Board e = refl
by_thing c before p f g things.Layers e = refl
by_thing c before p f g things.Net e = refl
by_thing c before p f g things.Track e = refl
by_thing c before p f g things.CurvedTrack e = refl
by_thing c before p f g things.Via e = refl
by_thing c before p f g things.Footprint e = refl
by_thing c before p f g things.RuleArea e =
    by_reading (λ o. area_kind c p.item o (is_double_stamp c before p.item) (is_one_too_many c before p)) (is_read_area c p.item) (stamp_kind (is_double_stamp c before p.item)) f g e
by_thing c before p f g things.Zone e =
    by_reading (λ o. zone_kind c p.item o (is_double_stamp c before p.item) (is_one_too_many c before p)) (is_read_zone c p.item) (stamp_kind (is_double_stamp c before p.item)) f g e
by_thing c before p f g things.Drawing e = refl
by_thing c before p f g (things.Pad footprint) e = refl
by_thing c before p f g things.FootprintDrawing e = refl
by_thing c before p f g things.FootprintZone e = refl
by_thing c before p f g things.Other e = refl

pub same_kind : (c : Context) (before : List Placed) (p : Placed) (kind other : Option OffenceKind) → IsKindOf c before p kind → IsKindOf c before p other → kind ≡ other
unfolding kind_with
same_kind c before p kind other a b =
    a.is_kind
    ∙ by_thing c before p a.outline b.outline (thing_of c.bytes p) (λ e. same_outline (corners_read c.bytes p.item) a.outline b.outline (a.is_outline e) (b.is_outline e))
    ∙ sym b.is_kind

-- ---- first offences

sound_no_first : (c : Context) (items : List Placed) (before after : List Placed) (p : Placed) (kind : OffenceKind)
    → AreSound c items → items ≡ before ++ p ∷ after → IsKindOf c before p (Some kind) → ⊥
sound_no_first c items before after p kind s e k = none-some kind (same_kind c before p None (Some kind) (s before after p e) k)

abbrev IsSameOffence : ℕ → ℕ → ℕ → ℕ → OffenceKind → OffenceKind → Type 0
IsSameOffence at place line other kind last = (at ≡ place) × (line ≡ other) × (kind ≡ last)

one_first : (c : Context) (items : List Placed) (at place line other : ℕ) (kind last : OffenceKind)
    → IsFirstOffence c items at line kind → IsFirstOffence c items place other last → IsSameOffence at place line other kind last
one_first c items at place line other kind last a b =
    elim (compared a.before a.after b.before b.after a.item b.item (sym a.stands ∙ b.stands)) [
      | inl s ↦
          let k : IsKindOf c b.before b.item (Some kind) = subst (λ (q : Placed). IsKindOf c b.before q (Some kind)) s.item (subst (λ (q : List Placed). IsKindOf c q a.item (Some kind)) s.front a.is_kind) in
          let place_is : at ≡ place = a.at_item ∙ ap (λ (q : Placed). q.item.from) s.item ∙ sym b.at_item in
          (place_is, a.on_line ∙ ap (line_of c.bytes) place_is ∙ sym b.on_line, same_Some kind last (same_kind c b.before b.item (Some kind) (Some last) k b.is_kind))
      | inr (inl w) ↦ absurd (sound_no_first c b.before a.before w.rest a.item kind b.sound w.is a.is_kind)
      | inr (inr w) ↦ absurd (sound_no_first c a.before b.before w.rest b.item last a.sound w.is b.is_kind)
    ]

pub one_offence : OneOffenceLaw
unfolding IsOffence
one_offence text root at place line other kind last a b = one_first _ _ at place line other kind last a b

pub no_offence : NoOffenceLaw
unfolding IsAccepted IsOffence
no_offence text root at line kind s a = sound_no_first _ _ a.before a.after a.item kind s a.stands a.is_kind
