-- A new clearance of a zone.
use Rattle.std.proofs.Common.{◌≡◌, ◌∙◌, refl, ap, sym, subst, ℕ, suc, ◌+◌, ◌-◌, ◌<◌, Bool, true, false, List, [], ◌∷◌, ◌++◌, length, codes, arith, length-append, Option, None, Some, option_and_then}
use Rattle.std.specs.Prelude.{pos, filter_map, find}
use Rattle.std.proofs.lemmas.Bool.{false≢true}
use Rattle.sexpr_text.specs.Items.{Item, unescaped}
use Rattle.sexpr_text.specs.Trees.{IsRoot}
use Rattle.text_splices.specs.Splice.{IsSplice}
use Rattle.grid_num.specs.Written.{mm_of}
use Rattle.board_text.specs.Lists.{lists_of}
use Rattle.board_text.specs.Fields.{list_of}
use Rattle.board_text.specs.Numbers.{whole_number, length_of}
use Rattle.board_text.specs.Items.{context_of, size_of, tail_of}
use Rattle.board_text.specs.Things.{Placed, OnBoard, Zone, on_board}
use Rattle.board_text.specs.declared.stamped.Stamped.TheVariants as stamped
use Rattle.board_language.specs.declared.board.Rules.{Rules}
use Rattle.board_language.specs.Zones.{is_read_zone, clearance_list, span_or_none, spans_of, zone_of}
use Rattle.board_language.specs.Reading.{board_of}
use Rattle.board_language.specs.Stamps.{stamp_of, bearer_of}
use Rattle.text_shapes.specs.Shapes.{forest_shape}
use Rattle.text_shapes.specs.Seen.{ItemSeen, parts, is_named, sight}
use Rattle.text_shapes.specs.Spellings.{Spelling, spelt_bytes, contents, IsTextSpelling}
use Rattle.text_shapes.specs.Spellings.Spelling.{Ends, Nested}
use Rattle.text_shapes.proofs.Seen.{heads, sub, sub_seen, in_seen, text_in, texts, value_in, value_seen}
use Rattle.text_shapes.proofs.Spellings.{length-bytes}
use Rattle.same_boards.specs.Contents.{without}
use Rattle.same_boards.specs.Alike.{unplaced_zone}
use Rattle.same_boards.proofs.Fields.{value_two}
use Rattle.edit_language.specs.declared.edit.Edit.TheVariants as edits
use Rattle.edit_language.specs.Scripts.{IsSize}
use Rattle.edit_language.specs.Splices.{list_text, length_list, clearance_by, clearance_splice, splice_of}
use Rattle.edit_language.specs.Edited.{item_or, splice_in}
use Rattle.dirty_rules.specs.Dirty.{HasZone}
use Rattle.edit_changes.specs.Changes.{with_clearance, IsZoneChanged}
use Rattle.edit_changes.proofs.Holes.{Hole, Here, PastName, PastString, PastList, Into, plug, under, plug_under, front, deep, IsFlat, deep_flat, list_seen, lists_before, lists_in, lists_plug, last_hole, last_white, last_is, last_flat, front_under, deep_under}
use Rattle.edit_changes.proofs.Texts.{IsSpelt, spelt}
use Rattle.edit_changes.proofs.Lists.{Word, Lists, value_bytes, list_spelt, list_is, list_good}
use Rattle.edit_changes.proofs.Lines.{length_good}
use Rattle.edit_changes.proofs.Numbers.{size_read}
use Rattle.edit_changes.proofs.Found.{IsListHole}
use Rattle.edit_changes.proofs.InPlace.{hole_there, item_there, head_there}
use Rattle.edit_changes.proofs.Patches.{AllFail, find_lists}
use Rattle.edit_changes.proofs.Boards.{part_of_board}
use Rattle.edit_changes.proofs.Standing.{zone_stamped, zone_head}
use Rattle.edit_changes.proofs.ZoneRead.{AreOther, list_but, zone_but}
use Rattle.edit_changes.proofs.Inside.{IsListIn, found_in, none_in, first_there}
use Rattle.edit_changes.proofs.Inserts.{replaced, put_behind, replaced_good, behind_good, named_plug, last_width}
use Rattle.edit_changes.proofs.Zoned.{round, within, within_plug, within_text, within_good, within_front, within_deep, IsTextWith, IsSetTo, set_to, at_tail, put_to, put_text}
use Rattle.edit_changes.proofs.ZoneBoards.{zone_new, same_context, same_but, set_list, zone_changed}
use Rattle.edit_changes.proofs.Priorities.{join_seen, join_is, zones_number}

-- ---- words of a list in which another list stands

said_plug : (k : Hole) (s t : Spelling) → IsFlat k → filter_map text_in (parts (contents s)) ≡ filter_map text_in (parts (contents t))
    → filter_map text_in (parts (contents (plug k s))) ≡ filter_map text_in (parts (contents (plug k t)))
said_plug Here s t f e = e
said_plug (PastName w u k) s t f e = ap (λ z. u ∷ z) (said_plug k s t f e)
said_plug (PastString w u k) s t f e = ap (λ z. unescaped false u ∷ z) (said_plug k s t f e)
said_plug (PastList w inner k) s t f e = said_plug k s t f e
said_plug (Into w k rest) s t f e = absurd f

texts_plug : (k : Hole) (s t : Spelling) (name : List ℕ) → IsFlat k → is_named name (contents (plug k s)) ≡ true → is_named name (contents s) ≡ false
    → filter_map text_in (parts (contents s)) ≡ filter_map text_in (parts (contents t)) → texts (list_seen (contents (plug k s))) ≡ texts (list_seen (contents (plug k t)))
texts_plug Here s t name f h n e = absurd (false≢true (sym n ∙ h))
texts_plug (PastName w u k) s t name f h n e = said_plug k s t f e
texts_plug (PastString w u k) s t name f h n e = absurd (false≢true h)
texts_plug (PastList w inner k) s t name f h n e = absurd (false≢true h)
texts_plug (Into w k rest) s t name f h n e = absurd f

-- ---- the lists

abbrev clearance_spelt : ℕ → Spelling
clearance_spelt value = list_spelt (codes "clearance") (Word (mm_of (pos value)) ∷ [])

clearance_is : (value : ℕ) → length_list (codes "clearance") value ≡ value_bytes (Lists (clearance_spelt value))
clearance_is value = list_is (codes "clearance") (Word (mm_of (pos value)) ∷ [])

abbrev connect_spelt : ℕ → Spelling
connect_spelt value = list_spelt (codes "connect_pads") (Lists (clearance_spelt value) ∷ [])

connect_is : (value : ℕ) → list_text (codes "connect_pads") (length_list (codes "clearance") value ∷ []) ≡ value_bytes (Lists (connect_spelt value))
connect_is value = ap (λ z. list_text (codes "connect_pads") (z ∷ [])) (clearance_is value) ∙ list_is (codes "connect_pads") (Lists (clearance_spelt value) ∷ [])

other_names : AreOther (codes "connect_pads" ∷ [])
other_names = record { polygon = refl; layer = refl; layers = refl; net = refl; thickness = refl; fill = refl; keepout = refl }

module _ (text new : List ℕ) (root last : Item) (rules : Rules) (xs ys : List Item) (i : Item) (r : IsRoot text root) (l : IsRoot new last) (e : lists_of root ≡ xs ++ i ∷ ys)
    (thing : on_board text i ≡ Zone) (read : is_read_zone (context_of text root) i ≡ true) (value : ℕ) (w : IsSize value)
  where
    abbrev p : IsSpelt text root
    p = spelt text root r

    abbrev h : IsListHole (length p.before + 1) p.inner xs i
    h = hole_there text root p xs ys i e

    -- where `connect_pads` is set
    module _ (inner y : Spelling) (t : IsTextWith text root p xs ys i h new inner) (s : IsSetTo text root p xs ys i h (codes "connect_pads") inner y)
        (own : find (heads (codes "clearance")) (parts (contents y)) ≡ Some (list_seen (contents (clearance_spelt value))))
        (joined : join_seen (sight text (list_of text (codes "connect_pads") i)) ≡ join_seen (Some (list_seen (contents y))))
      where
        abbrev j : Item
        j = zone_new text new root last rules xs ys i p h e l (codes "connect_pads") inner y t s thing read other_names

        same : without (codes "connect_pads" ∷ []) (forest_shape text i.inner) ≡ without (codes "connect_pads" ∷ []) (forest_shape new j.inner)
        same = same_but text new root last rules xs ys i p h e l (codes "connect_pads") inner y t s thing read other_names

        set : sight new (list_of new (codes "connect_pads") j) ≡ Some (list_seen (contents y))
        set = set_list text new root last rules xs ys i p h e l (codes "connect_pads") inner y t s thing read other_names

        list_now : sight new (clearance_list new j) ≡ Some (list_seen (contents (clearance_spelt value)))
        list_now =
            in_seen new (codes "connect_pads") (codes "clearance") j
            ∙ ap (option_and_then (sub (codes "clearance"))) (sym (sub_seen new (codes "connect_pads") j) ∙ set) ∙ own

        clearance_now : (zone_of (context_of new last) j).clearance ≡ value
        unfolding zone_of context_of
        clearance_now =
            ap size_of (value_seen length_of new 0 (pos 0) (clearance_list new j) ∙ ap (value_in length_of 0 (pos 0)) list_now ∙ size_read value w)

        priority_now : (zone_of (context_of new last) j).priority ≡ (zone_of (context_of text root) i).priority
        unfolding zone_of context_of
        priority_now =
            sym (value_two text new whole_number 0 0 (list_of text (codes "priority") i) (list_of new (codes "priority") j) (list_but text new (codes "connect_pads" ∷ []) i j same (codes "priority") refl))

        join_now : (zone_of (context_of text root) i).join ≡ (zone_of (context_of new last) j).join
        unfolding zone_of context_of
        join_now = join_is text (list_of text (codes "connect_pads") i) ∙ joined ∙ sym (join_is new (list_of new (codes "connect_pads") j) ∙ ap join_seen set)

        zone_now : unplaced_zone (zone_of (context_of new last) j) ≡ with_clearance value (unplaced_zone (zone_of (context_of text root) i))
        unfolding context_of
        zone_now =
            zone_but (context_of text root) (context_of new last)
            (same_context text new root last rules xs ys i p h e l (codes "connect_pads") inner y t s thing read other_names).copper (codes "connect_pads" ∷ []) other_names i j same
            (zone_of (context_of text root) i).priority value priority_now clearance_now join_now

        set_board : (stamp : List ℕ) (n : ℕ) → HasZone text stamp n → n ≡ length (part_of_board (context_of text root) xs rules).zones
            → IsZoneChanged text stamp (with_clearance value) (board_of text root rules) (board_of new last rules)
        set_board stamp n has k =
            zone_changed text new root last rules xs ys i p h e l (codes "connect_pads") inner y t s thing read other_names stamp n (with_clearance value) has k zone_now

    zone_there : is_named (codes "zone") (contents h.inner) ≡ true
    zone_there = head_there text root p xs ys i h e (codes "zone") ∙ (zone_head text i thing).0

    shaped : forest_shape text i.inner ≡ contents h.inner
    shaped = ap (λ (z : ItemSeen). z.inner) (item_there text root p xs ys i h e)

    good : (room : ℕ) → IsTextSpelling room (clearance_spelt value)
    good room = length_good room (codes "clearance") value (omega arith) refl w

    connect_good : (room : ℕ) → 0 < room → IsTextSpelling room (connect_spelt value)
    connect_good room some = list_good room (codes "connect_pads") (Lists (clearance_spelt value) ∷ []) (omega arith) refl ((some, good (room - 1)), tt)

    -- ---- in the `connect_pads` that is there
    module _ (x : Item) (f : list_of text (codes "connect_pads") i ≡ Some x) where
      abbrev q : IsListIn text (codes "connect_pads") (i.from + 1) h.inner x
      q = found_in text (codes "connect_pads") (i.from + 1) h.inner i x h.inner_is shaped f

      x_shaped : forest_shape text x.inner ≡ contents q.inner
      x_shaped = ap (λ (z : ItemSeen). z.inner) q.seen

      -- a place in it
      abbrev in_connect : Hole → Hole
      in_connect k = under q.hole (Into q.white k q.rest)

      connect_plug : (k : Hole) (s : Spelling) → plug (in_connect k) s ≡ plug q.hole (Nested q.white (plug k s) q.rest)
      connect_plug k s = plug_under q.hole (Into q.white k q.rest) s

      connect_inner : (k : Hole) (s : Spelling) → q.inner ≡ plug k s → h.inner ≡ plug (in_connect k) s
      connect_inner k s a = q.is ∙ ap (λ z. plug q.hole (Nested q.white z q.rest)) a ∙ sym (connect_plug k s)

      connect_front : (k : Hole) → length (front (within text root p xs ys i h (in_connect k))) ≡ x.from + 1 + length (front k)
      connect_front k =
          let a = q.from_is in
          omega (
            arith,
            within_front text root p xs ys i h (in_connect k),
            ap length (front_under q.hole (Into q.white k q.rest)),
            length-append (front q.hole) (q.white ++ 40 ∷ front k),
            length-append q.white (40 ∷ front k),
            a,
          )

      connect_deep : (k : Hole) → IsFlat k → deep (within text root p xs ys i h (in_connect k)) ≡ 3
      connect_deep k a = omega (arith, within_deep text root p xs ys i h (in_connect k), deep_under q.hole (Into q.white k q.rest), deep_flat q.hole q.flat, deep_flat k a)

      text_with : (k : Hole) (s : Spelling) → new ≡ spelt_bytes (plug (within text root p xs ys i h (in_connect k)) s) → IsTextSpelling 64 (plug (within text root p xs ys i h (in_connect k)) s)
          → IsTextWith text root p xs ys i h new (plug q.hole (Nested q.white (plug k s) q.rest))
      text_with k s a g =
          let z = within_plug text root p xs ys i h (in_connect k) s ∙ ap (λ u. plug (round text root p xs ys i h) (Nested h.white u h.rest)) (connect_plug k s) in
          record { is = a ∙ ap spelt_bytes z; good = subst (IsTextSpelling 64) z g }

      -- what is seen of the new `connect_pads`
      module _ (k : Hole) (s t : Spelling) (flat : IsFlat k) (a : q.inner ≡ plug k s) (n : is_named (codes "connect_pads") (contents s) ≡ false)
          (said : filter_map text_in (parts (contents s)) ≡ filter_map text_in (parts (contents t)))
        where
          old_named : is_named (codes "connect_pads") (contents (plug k s)) ≡ true
          old_named = ap (λ z. is_named (codes "connect_pads") (contents z)) (sym a) ∙ q.named

          new_named : is_named (codes "connect_pads") (contents (plug k t)) ≡ true
          new_named = named_plug k s t (codes "connect_pads") (codes "connect_pads") old_named n ∙ old_named

          joined : join_seen (sight text (list_of text (codes "connect_pads") i)) ≡ join_seen (Some (list_seen (contents (plug k t))))
          joined =
              ap (λ o. join_seen (sight text o)) f ∙ ap (λ z. join_seen (Some z)) q.seen ∙ ap (λ z. join_seen (Some (list_seen (contents z)))) a
              ∙ ap Rattle.board_language.specs.Zones.first_join (texts_plug k s t (codes "connect_pads") flat old_named n said)

          set_clearance : find (heads (codes "clearance")) (parts (contents (plug k t))) ≡ Some (list_seen (contents (clearance_spelt value)))
              → IsTextWith text root p xs ys i h new (plug q.hole (Nested q.white (plug k t) q.rest))
              → (stamp : List ℕ) (n : ℕ) → HasZone text stamp n → n ≡ length (part_of_board (context_of text root) xs rules).zones
              → IsZoneChanged text stamp (with_clearance value) (board_of text root rules) (board_of new last rules)
          set_clearance own z =
              set_board (plug q.hole (Nested q.white (plug k t) q.rest)) (plug k t) z
              (set_to text root p xs ys i h new (codes "connect_pads") (codes "zone") (plug k t) zone_there new_named x q) own joined

      in_place : (c : Item) → list_of text (codes "clearance") x ≡ Some c → IsSplice text c.from c.to (length_list (codes "clearance") value) new
          → (stamp : List ℕ) (n : ℕ) → HasZone text stamp n → n ≡ length (part_of_board (context_of text root) xs rules).zones
          → IsZoneChanged text stamp (with_clearance value) (board_of text root rules) (board_of new last rules)
      in_place c g s =
          let k : IsListIn text (codes "clearance") (x.from + 1) q.inner c = found_in text (codes "clearance") (x.from + 1) q.inner x c q.inner_is x_shaped g in
          let a = k.from_is in
          let b = k.to_is in
          set_clearance k.hole (Nested k.white k.inner k.rest) (Nested k.white (clearance_spelt value) k.rest) k.flat k.is refl refl
          (find_lists (codes "clearance") (contents (plug k.hole (Nested k.white (clearance_spelt value) k.rest)))
          ∙ ap (find (heads (codes "clearance"))) (lists_plug k.hole (Nested k.white (clearance_spelt value) k.rest) k.flat)
          ∙ first_there (heads (codes "clearance")) (lists_before k.hole) (lists_in k.rest) (list_seen (contents (clearance_spelt value))) k.none refl)
          (text_with k.hole (Nested k.white (clearance_spelt value) k.rest)
          (replaced text new (within text root p xs ys i h (in_connect k.hole)) k.white k.inner (clearance_spelt value) k.rest c.from c.to
          (within_text text root p xs ys i h (in_connect k.hole) (Nested k.white k.inner k.rest) (connect_inner k.hole (Nested k.white k.inner k.rest) k.is))
          (omega (arith, a, connect_front k.hole)) (omega (arith, b, length-append (spelt_bytes k.inner) (41 ∷ []), length-bytes k.inner))
          (subst (λ z. IsSplice text c.from c.to z new) (clearance_is value) s))
          (replaced_good (within text root p xs ys i h (in_connect k.hole)) k.white k.inner (clearance_spelt value) k.rest 64
          (within_good text root p xs ys i h (in_connect k.hole) (Nested k.white k.inner k.rest) (connect_inner k.hole (Nested k.white k.inner k.rest) k.is)) (λ m u. good (m - 1))))

      at_close : list_of text (codes "clearance") x ≡ None → IsSplice text (x.to - 1) (x.to - 1) (codes " " ++ length_list (codes "clearance") value) new
          → (stamp : List ℕ) (n : ℕ) → HasZone text stamp n → n ≡ length (part_of_board (context_of text root) xs rules).zones
          → IsZoneChanged text stamp (with_clearance value) (board_of text root rules) (board_of new last rules)
      at_close g s =
          let k : Hole = last_hole q.inner in
          let v : List ℕ = last_white q.inner in
          let a : q.inner ≡ plug (last_hole q.inner) (Ends (last_white q.inner)) = sym (last_is q.inner) in
          let b = q.to_is in
          let fail : AllFail (heads (codes "clearance")) (lists_before (last_hole q.inner)) =
          subst (AllFail (heads (codes "clearance"))) (ap lists_in a ∙ lists_plug (last_hole q.inner) (Ends (last_white q.inner)) (last_flat q.inner) ∙ Rattle.std.proofs.Common.append-nil (lists_before (last_hole q.inner)))
          (none_in text (codes "clearance") q.inner x x_shaped g) in
          set_clearance k (Ends v) (Nested (v ++ codes " ") (clearance_spelt value) (Ends [])) (last_flat q.inner) a refl refl
          (find_lists (codes "clearance") (contents (plug k (Nested (v ++ codes " ") (clearance_spelt value) (Ends []))))
          ∙ ap (find (heads (codes "clearance"))) (lists_plug k (Nested (v ++ codes " ") (clearance_spelt value) (Ends [])) (last_flat q.inner))
          ∙ first_there (heads (codes "clearance")) (lists_before k) [] (list_seen (contents (clearance_spelt value))) fail refl)
          (text_with k (Nested (v ++ codes " ") (clearance_spelt value) (Ends []))
          (put_behind text new (within text root p xs ys i h (in_connect k)) v (codes " ") (clearance_spelt value) (x.to - 1)
          (within_text text root p xs ys i h (in_connect k) (Ends v) (connect_inner k (Ends v) a)) (omega (arith, b, connect_front k, last_width q.inner))
          (subst (λ z. IsSplice text (x.to - 1) (x.to - 1) (codes " " ++ z) new) (clearance_is value) s))
          (behind_good (within text root p xs ys i h (in_connect k)) v (codes " ") (clearance_spelt value) 64 refl (omega (arith, connect_deep k (last_flat q.inner)))
          (within_good text root p xs ys i h (in_connect k) (Ends v) (connect_inner k (Ends v) a)) (λ m u. good (m - 1))))

    -- ---- by which lists are there
    pub by_lists : (o : Option Item) → list_of text (codes "connect_pads") i ≡ o → (c : Option Item) → option_and_then (list_of text (codes "clearance")) o ≡ c
        → IsSplice text (clearance_by (span_or_none c) (span_or_none o) (tail_of text i) value).from (clearance_by (span_or_none c) (span_or_none o) (tail_of text i) value).to
        (clearance_by (span_or_none c) (span_or_none o) (tail_of text i) value).put new
        → (stamp : List ℕ) (n : ℕ) → HasZone text stamp n → n ≡ length (part_of_board (context_of text root) xs rules).zones
        → IsZoneChanged text stamp (with_clearance value) (board_of text root rules) (board_of new last rules)
    by_lists (Some x) f (Some c) g s = in_place x f c g s
    by_lists (Some x) f None g s = at_close x f g s
    by_lists None f (Some c) g s = absurd (Rattle.std.proofs.lemmas.Option.none-some c g)
    by_lists None f None g s =
        set_board (at_tail text root p xs ys i h new (codes "connect_pads") (codes "zone") (connect_spelt value) zone_there refl) (connect_spelt value)
        (put_text text root p xs ys i h new (codes "connect_pads") (codes "zone") (connect_spelt value) zone_there refl connect_good
        (subst (λ z. IsSplice text (tail_of text i) (tail_of text i) (codes " " ++ z) new) (connect_is value) s))
        (put_to text root p xs ys i h new (codes "connect_pads") (codes "zone") (connect_spelt value) zone_there refl (none_in text (codes "connect_pads") h.inner i shaped f)) refl
        (ap (λ o. join_seen (sight text o)) f)

-- ---- the board
module _ (text new : List ℕ) (root last : Item) (rules : Rules) (stamp : List ℕ) (value : ℕ) (w : IsSize value) (r : IsRoot text root) (l : IsRoot new last)
    (s : IsSplice text (splice_in text root (edits.Clearance stamp value)).from (splice_in text root (edits.Clearance stamp value)).to (splice_in text root (edits.Clearance stamp value)).put new)
  where
    list_splice : (q : Placed) → bearer_of text root stamp ≡ Some q
        → IsSplice text (clearance_by (span_or_none (clearance_list text q.item)) (span_or_none (list_of text (codes "connect_pads") q.item)) (tail_of text q.item) value).from
        (clearance_by (span_or_none (clearance_list text q.item)) (span_or_none (list_of text (codes "connect_pads") q.item)) (tail_of text q.item) value).to
        (clearance_by (span_or_none (clearance_list text q.item)) (span_or_none (list_of text (codes "connect_pads") q.item)) (tail_of text q.item) value).put new
    unfolding splice_in splice_of clearance_splice spans_of
    list_splice q e =
        subst (λ o. IsSplice text
        (clearance_by (span_or_none (clearance_list text (item_or root o))) (span_or_none (list_of text (codes "connect_pads") (item_or root o))) (tail_of text (item_or root o)) value).from
        (clearance_by (span_or_none (clearance_list text (item_or root o))) (span_or_none (list_of text (codes "connect_pads") (item_or root o))) (tail_of text (item_or root o)) value).to
        (clearance_by (span_or_none (clearance_list text (item_or root o))) (span_or_none (list_of text (codes "connect_pads") (item_or root o))) (tail_of text (item_or root o)) value).put new) e s

    pub clearance_change : (n : ℕ) → stamp_of text root stamp ≡ Some (stamped.Zone n) → IsZoneChanged text stamp (with_clearance value) (board_of text root rules) (board_of new last rules)
    clearance_change n e =
        let z = zone_stamped text root stamp n e in
        by_lists text new root last rules z.0.xs z.0.ys z.0.item r l z.0.stands z.0.thing z.1 value w (list_of text (codes "connect_pads") z.0.item) refl (clearance_list text z.0.item) refl
        (list_splice (record { item = z.0.item; site = OnBoard }) z.0.bearer) stamp n (record { root = root; is_root = r; stamped = e }) (zones_number text root rules z.0.xs n z.2)
