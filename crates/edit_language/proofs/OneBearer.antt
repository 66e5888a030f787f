-- In an accepted board no two things have one stamp.
use Rattle.std.proofs.Common.{◌≡◌, ◌∙◌, refl, ap, sym, subst, ℕ, zero, suc, Bool, true, false, not, ◌&&◌, ◌||◌, nat_lt, cond, List, [], ◌∷◌, ◌++◌, filter_map, get_or, Option, None, Some, inl, inr}
use Rattle.std.specs.Prelude.{codes}
use Rattle.std.specs.List.{list_any, cons_option}
use Rattle.std.specs.Option.{option_or}
use Rattle.std.specs.Str.{bytes_eq}
use Rattle.std.proofs.lemmas.Bool.{false≢true}
use Rattle.std.proofs.lemmas.Option.{none-some}
use Rattle.std.proofs.lemmas.List.Elements.{filter_map-append}
use Rattle.std.proofs.lemmas.Slice.Eq.{bytes_eq-Decides}
use Rattle.sexpr_text.specs.Items.{Item}
use Rattle.outline_slab.specs.declared.error.OutlineFault.{OutlineFault}
use Rattle.board_language.specs.declared.offence.OffenceKind.{OffenceKind}
use Rattle.board_language.specs.declared.offence.OffenceKind.TheVariants as kinds
use Rattle.board_text.specs.Fields.{is_text}
use Rattle.board_text.specs.Layers.{is_among, has_unknown}
use Rattle.board_text.specs.Things.{Placed, Thing, thing_of, items_of_board}
use Rattle.board_text.specs.Things as things
use Rattle.board_text.specs.Items.{Context, size_of, net_of, is_unknown_net, has_bad_size, context_of}
use Rattle.board_language.specs.Tracks.{track_layer, via_layer, track_fault, via_fault}
use Rattle.board_language.specs.Zones.{is_read_zone, is_read_area}
use Rattle.board_language.specs.Zones as zones
use Rattle.board_language.specs.Counts.{is_one_too_many}
use Rattle.board_language.specs.Offences.{stamp_as, stamp_of_placed, stamps_among, is_stamped_among, track_kind, track_kinds, via_kind, via_kinds, zone_kind, zone_kinds, area_kind, area_kinds, stamp_kind, kind_as, kind_with, IsKindOf}
use Rattle.board_language.specs.Reading.{AreSound, IsAccepted}
use Rattle.edit_language.specs.StampLaws.{OneBearerLaw}
use Rattle.board_language.proofs.NoneOffends.{some_at}
use Rattle.board_language.proofs.Places.{compared}

-- ---- kinds

track_double : (c : Context) (item : Item) (many : Bool) → track_kind c item true many ≡ None → ⊥
unfolding track_kind
track_double c item many e = some_at 5 (track_kinds c item true many) kinds.DoubleStamp refl e

via_double : (c : Context) (item : Item) (many : Bool) → via_kind c item true many ≡ None → ⊥
unfolding via_kind
via_double c item many e = some_at 5 (via_kinds c item true many) kinds.DoubleStamp refl e

zone_double : (c : Context) (zone : Item) (outline : Option OutlineFault) (many : Bool) → zone_kind c zone outline true many ≡ None → ⊥
unfolding zone_kind
zone_double c zone outline many e = some_at 12 (zone_kinds c zone outline true many) kinds.DoubleStamp refl e

area_double : (c : Context) (zone : Item) (outline : Option OutlineFault) (many : Bool) → area_kind c zone outline true many ≡ None → ⊥
unfolding area_kind
area_double c zone outline many e = some_at 5 (area_kinds c zone outline true many) kinds.DoubleStamp refl e

-- of a zone or rule area that is read, and of one that isn't
zone_by : (c : Context) (item : Item) (outline : Option OutlineFault) (many read : Bool)
    → cond read (zone_kind c item outline true many) (stamp_kind true) ≡ None → ⊥
zone_by c item outline many true e = zone_double c item outline many e
zone_by c item outline many false e = none-some kinds.DoubleStamp (sym e)

area_by : (c : Context) (item : Item) (outline : Option OutlineFault) (many read : Bool)
    → cond read (area_kind c item outline true many) (stamp_kind true) ≡ None → ⊥
area_by c item outline many true e = area_double c item outline many e
area_by c item outline many false e = none-some kinds.DoubleStamp (sym e)

-- ---- a stamp that stands before

any_middle : {X : Type 0} (test : X → Bool) (xs ys : List X) (x : X) → test x ≡ true → list_any test (xs ++ x ∷ ys) ≡ true
any_middle test [] ys x e = ap (λ b. b || list_any test ys) e
any_middle test (y ∷ xs) ys x e = ap (λ b. test y || b) (any_middle test xs ys x e) ∙ or_true (test y)
  where
    or_true : (b : Bool) → (b || true) ≡ true
    or_true true = refl
    or_true false = refl

named : (stamp : List ℕ) (o : Option (List ℕ)) → is_text stamp o ≡ true → o ≡ Some stamp
named stamp None e = absurd (false≢true e)
named stamp (Some text) e = ap Some ((bytes_eq-Decides text stamp).0 e)

stands_among : (text stamp : List ℕ) (before rest : List Placed) (p : Placed) → stamp_of_placed text p ≡ Some stamp
    → is_among (stamps_among text (before ++ p ∷ rest)) stamp ≡ true
unfolding stamps_among
stands_among text stamp before rest p e =
    let l : filter_map (stamp_of_placed text) (before ++ p ∷ rest)
    ≡ filter_map (stamp_of_placed text) before ++ stamp ∷ filter_map (stamp_of_placed text) rest =
    filter_map-append (stamp_of_placed text) before (p ∷ rest)
    ∙ ap (λ o. filter_map (stamp_of_placed text) before ++ cons_option o (filter_map (stamp_of_placed text) rest)) e in
    ap (list_any (λ o. bytes_eq o stamp)) l
    ∙ any_middle (λ o. bytes_eq o stamp) (filter_map (stamp_of_placed text) before) (filter_map (stamp_of_placed text) rest) stamp ((bytes_eq-Decides stamp stamp).1 refl)

abbrev doubled : Context → List Placed → Option (List ℕ) → Bool
doubled c before stamp = is_stamped_among (stamps_among c.bytes before) stamp

-- an item whose stamp stands before offends
offends : (c : Context) (before : List Placed) (q : Placed) (outline : Option OutlineFault) (stamp : List ℕ) (t : Thing)
    → stamp_as c.bytes q.item t ≡ Some stamp → is_among (stamps_among c.bytes before) stamp ≡ true → kind_as c before q outline t ≡ None → ⊥
offends c before q outline stamp things.Track e d k =
    track_double c q.item (is_one_too_many c before q) (sym (ap (λ b. track_kind c q.item b (is_one_too_many c before q)) (ap (doubled c before) e ∙ d)) ∙ k)
offends c before q outline stamp things.Via e d k =
    via_double c q.item (is_one_too_many c before q) (sym (ap (λ b. via_kind c q.item b (is_one_too_many c before q)) (ap (doubled c before) e ∙ d)) ∙ k)
offends c before q outline stamp things.Zone e d k =
    zone_by c q.item outline (is_one_too_many c before q) (is_read_zone c q.item) (sym (ap (λ b. cond (is_read_zone c q.item) (zone_kind c q.item outline b (is_one_too_many c before q)) (stamp_kind b)) (ap (doubled c before) e ∙ d)) ∙ k)
offends c before q outline stamp things.RuleArea e d k =
    area_by c q.item outline (is_one_too_many c before q) (is_read_area c q.item) (sym (ap (λ b. cond (is_read_area c q.item) (area_kind c q.item outline b (is_one_too_many c before q)) (stamp_kind b)) (ap (doubled c before) e ∙ d)) ∙ k)
offends c before q outline stamp things.Board e d k = none-some stamp e
offends c before q outline stamp things.Layers e d k = none-some stamp e
offends c before q outline stamp things.Net e d k = none-some stamp e
offends c before q outline stamp things.CurvedTrack e d k = none-some stamp e
offends c before q outline stamp things.Footprint e d k = none-some stamp e
offends c before q outline stamp things.Drawing e d k = none-some stamp e
offends c before q outline stamp (things.Pad footprint) e d k = none-some stamp e
offends c before q outline stamp things.FootprintDrawing e d k = none-some stamp e
offends c before q outline stamp things.FootprintZone e d k = none-some stamp e
offends c before q outline stamp things.Other e d k = none-some stamp e

later_offends : (c : Context) (stamp : List ℕ) (before rest : List Placed) (p q : Placed) → stamp_of_placed c.bytes p ≡ Some stamp → stamp_of_placed c.bytes q ≡ Some stamp
    → IsKindOf c (before ++ p ∷ rest) q None → ⊥
unfolding kind_with
later_offends c stamp before rest p q e f k =
    offends c (before ++ p ∷ rest) q k.outline stamp (thing_of c.bytes q) f (stands_among c.bytes stamp before rest p e) (sym k.is_kind)

one : (c : Context) (stamp : List ℕ) (items before after other behind : List Placed) (p q : Placed) → AreSound c items
    → items ≡ before ++ p ∷ after → items ≡ other ++ q ∷ behind → stamp_of_placed c.bytes p ≡ Some stamp → stamp_of_placed c.bytes q ≡ Some stamp → (before ≡ other) × (p ≡ q)
one c stamp items before after other behind p q sound e f g h = elim (compared before after other behind p q (sym e ∙ f)) [
  | inl s ↦ (s.front, s.item)
  | inr (inl w) ↦ absurd (later_offends c stamp before w.rest p q g h (subst (λ (l : List Placed). IsKindOf c l q None) w.is (sound other behind q f)))
  | inr (inr w) ↦ absurd (later_offends c stamp other w.rest q p h g (subst (λ (l : List Placed). IsKindOf c l p None) w.is (sound before after p e)))
]

pub one_bearer : OneBearerLaw
unfolding IsAccepted context_of
one_bearer text root stamp before after other behind p q sound e f g h =
    one (context_of text root) stamp (items_of_board text root) before after other behind p q sound e f (named stamp (stamp_of_placed text p) g) (named stamp (stamp_of_placed text q) h)
