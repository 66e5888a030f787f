-- A new priority of a zone.
use Rattle.std.proofs.Common.{◌≡◌, ◌∙◌, refl, ap, sym, subst, ℕ, ◌+◌, ◌<◌, true, List, [], ◌∷◌, ◌++◌, length, codes, decimal, arith, Option, None, Some}
use Rattle.std.specs.Prelude.{pos}
use Rattle.std.proofs.lemmas.Option.{none-some}
use Rattle.sexpr_text.specs.Items.{Item}
use Rattle.sexpr_text.specs.Trees.{IsRoot}
use Rattle.text_splices.specs.Splice.{IsSplice}
use Rattle.board_text.specs.Lists.{lists_of}
use Rattle.board_text.specs.Fields.{list_of}
use Rattle.board_text.specs.Numbers.{whole_number, length_of}
use Rattle.board_text.specs.Items.{context_of, size_of, tail_of}
use Rattle.board_text.specs.Things.{Placed, OnBoard, Zone, on_board}
use Rattle.board_text.specs.declared.stamped.Stamped.{Stamped}
use Rattle.board_text.specs.declared.stamped.Stamped.TheVariants as stamped
use Rattle.board_language.specs.declared.board.Rules.{Rules}
use Rattle.board_language.specs.Zones.{is_read_zone, clearance_list, first_join, join_in, span_or_none, spans_of, zone_of}
use Rattle.board_language.specs.Reading.{all_of, zone_from, board_of}
use Rattle.board_language.specs.Stamps.{stamp_of, bearer_of}
use Rattle.text_shapes.specs.Shapes.{forest_shape}
use Rattle.text_shapes.specs.Seen.{ItemSeen, is_named, sight}
use Rattle.text_shapes.specs.Spellings.{Spelling, contents, IsTextSpelling}
use Rattle.text_shapes.proofs.Seen.{value_in, value_seen, texts, texts_seen}
use Rattle.same_boards.specs.Contents.{without}
use Rattle.same_boards.specs.Alike.{unplaced_zone}
use Rattle.same_boards.proofs.Fields.{value_two}
use Rattle.edit_language.specs.declared.edit.Edit.TheVariants as edits
use Rattle.edit_language.specs.Scripts.{IsWholeNumber}
use Rattle.edit_language.specs.Splices.{whole_list, priority_by, priority_splice, splice_of}
use Rattle.edit_language.specs.Edited.{if_no_zone, item_or, splice_in}
use Rattle.dirty_rules.specs.Dirty.{HasZone}
use Rattle.edit_changes.specs.Changes.{with_priority, IsZoneChanged}
use Rattle.edit_changes.proofs.Holes.{plug}
use Rattle.edit_changes.proofs.Texts.{IsSpelt, spelt}
use Rattle.edit_changes.proofs.Lists.{Word, Lists, value_bytes, list_spelt, list_is}
use Rattle.edit_changes.proofs.Lines.{whole_good}
use Rattle.edit_changes.proofs.Numbers.{whole_read}
use Rattle.edit_changes.proofs.Found.{IsListHole}
use Rattle.edit_changes.proofs.InPlace.{hole_there, item_there, head_there}
use Rattle.edit_changes.proofs.Patches.{items_of_lists}
use Rattle.edit_changes.proofs.Boards.{part_of_board}
use Rattle.edit_changes.proofs.Standing.{zone_stamped, zone_head}
use Rattle.edit_changes.proofs.ZoneRead.{AreOther, list_but, in_but, zone_but}
use Rattle.edit_changes.proofs.Inside.{IsListIn, found_in, none_in}
use Rattle.edit_changes.proofs.Zoned.{IsTextWith, IsSetTo, set_to, replaced_text, at_tail, put_to, put_text}
use Rattle.edit_changes.proofs.ZoneBoards.{zone_new, same_context, same_but, set_list, zone_changed}

-- ---- how pads are joined, by what is seen

abbrev pub join_seen : Option ItemSeen → Rattle.board_language.specs.declared.Join.Join
join_seen None = first_join []
join_seen (Some s) = first_join (texts s)

pub join_is : (text : List ℕ) (o : Option Item) → join_in text o ≡ join_seen (sight text o)
join_is text None = refl
join_is text (Some x) = ap first_join (texts_seen text x)

-- ---- zones and their numbers

pub zones_number : (text : List ℕ) (root : Item) (rules : Rules) (xs : List Item) (n : ℕ) → n ≡ length (all_of zone_from (context_of text root) (items_of_lists text xs))
    → n ≡ length (part_of_board (context_of text root) xs rules).zones
unfolding context_of
zones_number text root rules xs n e = e

-- the stamp of an edit of a zone is a zone's
pub zone_named : (o : Option Stamped) → if_no_zone o ≡ None → (n : ℕ) × (o ≡ Some (stamped.Zone n))
zone_named None e = absurd (none-some _ (sym e))
zone_named (Some (stamped.Zone n)) e = (n, refl)
zone_named (Some (stamped.Track n)) e = absurd (none-some _ (sym e))
zone_named (Some (stamped.Via n)) e = absurd (none-some _ (sym e))
zone_named (Some stamped.Other) e = absurd (none-some _ (sym e))

-- ---- the list

abbrev priority_spelt : ℕ → Spelling
priority_spelt value = list_spelt (codes "priority") (Word (decimal value) ∷ [])

priority_list : (value : ℕ) → whole_list (codes "priority") value ≡ value_bytes (Lists (priority_spelt value))
priority_list value = list_is (codes "priority") (Word (decimal value) ∷ [])

other_names : AreOther (codes "priority" ∷ [])
other_names = record { polygon = refl; layer = refl; layers = refl; net = refl; thickness = refl; fill = refl; keepout = refl }

module _ (text new : List ℕ) (root last : Item) (rules : Rules) (xs ys : List Item) (i : Item) (r : IsRoot text root) (l : IsRoot new last) (e : lists_of root ≡ xs ++ i ∷ ys)
    (thing : on_board text i ≡ Zone) (read : is_read_zone (context_of text root) i ≡ true) (value : ℕ) (w : IsWholeNumber value)
  where
    abbrev p : IsSpelt text root
    p = spelt text root r

    abbrev h : IsListHole (length p.before + 1) p.inner xs i
    h = hole_there text root p xs ys i e

    -- where the list is set
    module _ (inner : Spelling) (t : IsTextWith text root p xs ys i h new inner) (s : IsSetTo text root p xs ys i h (codes "priority") inner (priority_spelt value)) where
      abbrev j : Item
      j = zone_new text new root last rules xs ys i p h e l (codes "priority") inner (priority_spelt value) t s thing read other_names

      same : without (codes "priority" ∷ []) (forest_shape text i.inner) ≡ without (codes "priority" ∷ []) (forest_shape new j.inner)
      same = same_but text new root last rules xs ys i p h e l (codes "priority") inner (priority_spelt value) t s thing read other_names

      priority_now : (zone_of (context_of new last) j).priority ≡ value
      unfolding zone_of context_of
      priority_now =
          value_seen whole_number new 0 0 (list_of new (codes "priority") j)
          ∙ ap (value_in whole_number 0 0) (set_list text new root last rules xs ys i p h e l (codes "priority") inner (priority_spelt value) t s thing read other_names)
          ∙ whole_read value w

      clearance_now : (zone_of (context_of new last) j).clearance ≡ (zone_of (context_of text root) i).clearance
      unfolding zone_of context_of
      clearance_now =
          ap size_of (sym (value_two text new length_of 0 (pos 0) (clearance_list text i) (clearance_list new j) (in_but text new (codes "priority" ∷ []) i j same (codes "connect_pads") (codes "clearance") refl refl)))

      join_now : (zone_of (context_of text root) i).join ≡ (zone_of (context_of new last) j).join
      unfolding zone_of context_of
      join_now =
          join_is text (list_of text (codes "connect_pads") i) ∙ ap join_seen (list_but text new (codes "priority" ∷ []) i j same (codes "connect_pads") refl)
          ∙ sym (join_is new (list_of new (codes "connect_pads") j))

      zone_now : unplaced_zone (zone_of (context_of new last) j) ≡ with_priority value (unplaced_zone (zone_of (context_of text root) i))
      unfolding context_of
      zone_now =
          zone_but (context_of text root) (context_of new last)
          (same_context text new root last rules xs ys i p h e l (codes "priority") inner (priority_spelt value) t s thing read other_names).copper (codes "priority" ∷ []) other_names i j same
          value (zone_of (context_of text root) i).clearance priority_now clearance_now join_now

      set_board : (stamp : List ℕ) (n : ℕ) → HasZone text stamp n → n ≡ length (part_of_board (context_of text root) xs rules).zones
          → IsZoneChanged text stamp (with_priority value) (board_of text root rules) (board_of new last rules)
      set_board stamp n has k =
          zone_changed text new root last rules xs ys i p h e l (codes "priority") inner (priority_spelt value) t s thing read other_names stamp n (with_priority value) has k zone_now

    zone_there : is_named (codes "zone") (contents h.inner) ≡ true
    zone_there = head_there text root p xs ys i h e (codes "zone") ∙ (zone_head text i thing).0

    shaped : forest_shape text i.inner ≡ contents h.inner
    shaped = ap (λ (z : ItemSeen). z.inner) (item_there text root p xs ys i h e)

    good : (room : ℕ) → 0 < room → IsTextSpelling room (priority_spelt value)
    good room some = whole_good room (codes "priority") value (omega arith) refl w

    -- by whether the zone has the list
    pub by_list : (o : Option Item) → list_of text (codes "priority") i ≡ o
        → IsSplice text (priority_by (span_or_none o) (tail_of text i) value).from (priority_by (span_or_none o) (tail_of text i) value).to (priority_by (span_or_none o) (tail_of text i) value).put new
        → (stamp : List ℕ) (n : ℕ) → HasZone text stamp n → n ≡ length (part_of_board (context_of text root) xs rules).zones
        → IsZoneChanged text stamp (with_priority value) (board_of text root rules) (board_of new last rules)
    by_list (Some x) f s stamp n has k =
        let q : IsListIn text (codes "priority") (i.from + 1) h.inner x = found_in text (codes "priority") (i.from + 1) h.inner i x h.inner_is shaped f in
        set_board (plug q.hole (Rattle.text_shapes.specs.Spellings.Spelling.Nested q.white (priority_spelt value) q.rest))
        (replaced_text text root p xs ys i h new (codes "priority") (codes "zone") (priority_spelt value) zone_there refl x q good
        (subst (λ z. IsSplice text x.from x.to z new) (priority_list value) s))
        (set_to text root p xs ys i h new (codes "priority") (codes "zone") (priority_spelt value) zone_there refl x q) stamp n has k
    by_list None f s stamp n has k =
        set_board (at_tail text root p xs ys i h new (codes "priority") (codes "zone") (priority_spelt value) zone_there refl)
        (put_text text root p xs ys i h new (codes "priority") (codes "zone") (priority_spelt value) zone_there refl good
        (subst (λ z. IsSplice text (tail_of text i) (tail_of text i) (codes " " ++ z) new) (priority_list value) s))
        (put_to text root p xs ys i h new (codes "priority") (codes "zone") (priority_spelt value) zone_there refl (none_in text (codes "priority") h.inner i shaped f)) stamp n has k

-- ---- the board
module _ (text new : List ℕ) (root last : Item) (rules : Rules) (stamp : List ℕ) (value : ℕ) (w : IsWholeNumber value) (r : IsRoot text root) (l : IsRoot new last)
    (s : IsSplice text (splice_in text root (edits.Priority stamp value)).from (splice_in text root (edits.Priority stamp value)).to (splice_in text root (edits.Priority stamp value)).put new)
  where
    list_splice : (q : Placed) → bearer_of text root stamp ≡ Some q
        → IsSplice text (priority_by (span_or_none (list_of text (codes "priority") q.item)) (tail_of text q.item) value).from
        (priority_by (span_or_none (list_of text (codes "priority") q.item)) (tail_of text q.item) value).to
        (priority_by (span_or_none (list_of text (codes "priority") q.item)) (tail_of text q.item) value).put new
    unfolding splice_in splice_of priority_splice spans_of
    list_splice q e =
        subst (λ o. IsSplice text (priority_by (span_or_none (list_of text (codes "priority") (item_or root o))) (tail_of text (item_or root o)) value).from
        (priority_by (span_or_none (list_of text (codes "priority") (item_or root o))) (tail_of text (item_or root o)) value).to
        (priority_by (span_or_none (list_of text (codes "priority") (item_or root o))) (tail_of text (item_or root o)) value).put new) e s

    pub priority_change : (n : ℕ) → stamp_of text root stamp ≡ Some (stamped.Zone n) → IsZoneChanged text stamp (with_priority value) (board_of text root rules) (board_of new last rules)
    priority_change n e =
        let z = zone_stamped text root stamp n e in
        by_list text new root last rules z.0.xs z.0.ys z.0.item r l z.0.stands z.0.thing z.1 value w (list_of text (codes "priority") z.0.item) refl
        (list_splice (record { item = z.0.item; site = OnBoard }) z.0.bearer) stamp n (record { root = root; is_root = r; stamped = e }) (zones_number text root rules z.0.xs n z.2)
