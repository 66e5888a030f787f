-- No two items of an accepted board have one stamp.
use Rattle.std.proofs.Common.{◌≡◌, refl, sym, ap, subst, ◌∙◌, ℕ, zero, suc, ◌<◌, arith, Bool, true, false, cond, List, [], ◌∷◌, ◌++◌, ◌||◌, append_assoc, length, get_or, Option, None, Some}
use Rattle.std.specs.Prelude.{AllPairs, filter_map}
use Rattle.std.specs.List.{cons_option}
use Rattle.std.specs.Str.{bytes_eq}
use Rattle.std.proofs.lemmas.Bool.{false≢true}
use Rattle.std.proofs.lemmas.List.{append-nil}
use Rattle.std.proofs.lemmas.List.Quantifiers.{all_pairs_push}
use Rattle.std.proofs.lemmas.Slice.Eq.{bytes_eq-Decides}
use Rattle.outline_slab.specs.declared.error.OutlineFault.{OutlineFault}
use Rattle.board_language.specs.declared.offence.OffenceKind.TheVariants as kinds
use Rattle.board_text.specs.Layers.{is_among}
use Rattle.board_text.specs.Things.{Placed, Thing, Track, Via, RuleArea, Zone, thing_of, items_of_board}
use Rattle.board_text.specs.Items.{Context, context_of}
use Rattle.board_language.specs.Zones.{is_read_zone, is_read_area}
use Rattle.board_language.specs.Counts.{is_one_too_many}
use Rattle.board_language.specs.Offences.{stamp_as, stamp_of_placed, stamps_among, is_stamped_among, is_double_stamp, zone_kind, area_kind, stamp_kind, kind_as, kind_with}
use Rattle.board_language.specs.Reading.{AreSound, IsAccepted}
use Rattle.board_facts.specs.Stamps.{AreStampedApart}
use Rattle.board_facts.specs.Laws.{StampsLaw}
use Rattle.board_facts.proofs.Passed.{no_some, no_test, track_passed, via_passed, zone_passed, area_passed}

-- ---- a stamp of an item is none of those before it

is_single : (c : Context) (before : List Placed) (p : Placed) (outline : Option OutlineFault) (t : Thing) (stamp : List ℕ) → None ≡ kind_as c before p outline t
    → stamp_as c.bytes p.item t ≡ Some stamp → is_among (stamps_among c.bytes before) stamp ≡ false
is_single c before p outline Track stamp k e =
    subst (λ o. is_stamped_among (stamps_among c.bytes before) o ≡ false) e (track_passed c p.item (is_double_stamp c before p.item) (is_one_too_many c before p) (sym k)).both.single
is_single c before p outline Via stamp k e =
    subst (λ o. is_stamped_among (stamps_among c.bytes before) o ≡ false) e (via_passed c p.item (is_double_stamp c before p.item) (is_one_too_many c before p) (sym k)).single
is_single c before p outline Zone stamp k e = subst (λ o. is_stamped_among (stamps_among c.bytes before) o ≡ false) e (by_read (is_read_zone c p.item) k)
  where
    by_read : (b : Bool) → None ≡ cond b (zone_kind c p.item outline (is_double_stamp c before p.item) (is_one_too_many c before p)) (stamp_kind (is_double_stamp c before p.item))
        → is_double_stamp c before p.item ≡ false
    by_read true k = (zone_passed c p.item outline (is_double_stamp c before p.item) (is_one_too_many c before p) (sym k)).both.single
    by_read false k = no_test kinds.DoubleStamp (is_double_stamp c before p.item) (sym k)
is_single c before p outline RuleArea stamp k e = subst (λ o. is_stamped_among (stamps_among c.bytes before) o ≡ false) e (by_read (is_read_area c p.item) k)
  where
    by_read : (b : Bool) → None ≡ cond b (area_kind c p.item outline (is_double_stamp c before p.item) (is_one_too_many c before p)) (stamp_kind (is_double_stamp c before p.item))
        → is_double_stamp c before p.item ≡ false
    by_read true k = (area_passed c p.item outline (is_double_stamp c before p.item) (is_one_too_many c before p) (sym k)).single
    by_read false k = no_test kinds.DoubleStamp (is_double_stamp c before p.item) (sym k)
is_single c before p outline _ stamp k e = no_some stamp e

-- ---- a stamp that an item before has is one of them

or_true : (b : Bool) → (b || true) ≡ true
or_true true = refl
or_true false = refl

stands_among : (bytes : List ℕ) (before : List Placed) (k : ℕ) (d : Placed) (stamp : List ℕ) → k < length before → stamp_of_placed bytes (get_or before k d) ≡ Some stamp
    → is_among (stamps_among bytes before) stamp ≡ true
unfolding stamps_among
stands_among bytes [] k d stamp l e = absurd (omega (arith, l))
stands_among bytes (q ∷ before) zero d stamp l e =
    let more = filter_map (stamp_of_placed bytes) before in
    ap (λ o. is_among (cons_option o more) stamp) e ∙ ap (λ b. b || is_among more stamp) ((bytes_eq-Decides stamp stamp).1 refl)
stands_among bytes (q ∷ before) (suc k) d stamp l e = by_first (stamp_of_placed bytes q) (stands_among bytes before k d stamp (omega (arith, l)) e)
  where
    by_first : (o : Option (List ℕ)) → is_among (filter_map (stamp_of_placed bytes) before) stamp ≡ true → is_among (cons_option o (filter_map (stamp_of_placed bytes) before)) stamp ≡ true
    by_first None h = h
    by_first (Some other) h = ap (λ b. bytes_eq other stamp || b) h ∙ or_true (bytes_eq other stamp)

-- ---- the board

own_up_to : (c : Context) (items before more : List Placed) → AreSound c items → items ≡ before ++ more → AllPairs (AreStampedApart c.bytes) before → AllPairs (AreStampedApart c.bytes) items
unfolding kind_with
own_up_to c items before [] sound e h = subst (λ (xs : List Placed). AllPairs (AreStampedApart c.bytes) xs) (sym (e ∙ append-nil before)) h
own_up_to c items before (p ∷ more) sound e h =
    let k = sound before more p e in
    own_up_to c items (before ++ p ∷ []) more sound (e ∙ sym (append_assoc before (p ∷ []) more))
    (all_pairs_push (AreStampedApart c.bytes) before p h
    (λ i d l stamp first second. false≢true (sym (is_single c before p k.outline (thing_of c.bytes p) stamp k.is_kind second) ∙ stands_among c.bytes before i d stamp l first)))

pub stamps : StampsLaw
unfolding IsAccepted context_of
stamps bytes root a = own_up_to (context_of bytes root) (items_of_board bytes root) [] (items_of_board bytes root) a refl (λ i j d less within. absurd (omega (arith, within)))
