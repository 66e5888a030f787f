-- A track or via that is dropped is gone from the board.
use Rattle.std.proofs.Common.{◌≡◌, ◌∙◌, refl, ap, sym, subst, ℕ, ◌+◌, ◌⊎◌, inl, inr, true, false, List, [], ◌∷◌, ◌++◌, map, length, codes, append_assoc, Option, None, Some}
use Rattle.std.specs.Prelude.{filter}
use Rattle.std.proofs.lemmas.Option.{none-some}
use Rattle.sexpr_text.specs.Items.{Item, is_headed}
use Rattle.sexpr_text.specs.Trees.{IsRoot}
use Rattle.text_splices.specs.Splice.{IsSplice}
use Rattle.board_text.specs.Lists.{lists_of}
use Rattle.board_text.specs.Items.{context_of}
use Rattle.board_text.specs.Things.{Placed, OnBoard}
use Rattle.board_text.specs.declared.stamped.Stamped.{Stamped}
use Rattle.board_text.specs.declared.stamped.Stamped.TheVariants as stamped
use Rattle.board_language.specs.declared.board.Rules.{Rules}
use Rattle.board_language.specs.Tracks.{track_of, via_of}
use Rattle.board_language.specs.Reading.{all_of, track_from, via_from, board_of}
use Rattle.board_language.specs.Stamps.{stamp_of, bearer_of}
use Rattle.fill_rules.specs.Edits.{unplaced, unplaced_via}
use Rattle.text_shapes.specs.Seen.{item_seen, parts}
use Rattle.text_shapes.specs.Spellings.{spelt_bytes, contents, IsTextSpelling}
use Rattle.text_shapes.specs.Spellings.Spelling.{Nested}
use Rattle.text_shapes.proofs.Seen.{groups, is_group, length-map_is}
use Rattle.same_boards.specs.Alike.{unplaced_zone}
use Rattle.same_boards.proofs.Roots.{other_headed}
use Rattle.edit_language.specs.declared.edit.Edit.TheVariants as edits
use Rattle.edit_language.specs.Splices.{splice_of}
use Rattle.edit_language.specs.Edited.{if_no_copper, stamp_refusal, refusal_in, item_or, splice_in}
use Rattle.edit_language.proofs.Stamps.{track_stamp, via_stamp}
use Rattle.edit_changes.specs.Changes.{left_without, IsTrackDropped, IsViaDropped}
use Rattle.edit_changes.proofs.Holes.{front, back, mend, mend_bytes, mend_good, mend_lists, behind_white, white_bytes, white_good, white_lists, list_seen, lists_before, lists_in}
use Rattle.edit_changes.proofs.Texts.{IsSpelt, spelt, root_contents}
use Rattle.edit_changes.proofs.Found.{IsListHole}
use Rattle.edit_changes.proofs.InPlace.{hole_there, place, place_good, instead, lists_there, front_seen, item_there, behind_there, head_there}
use Rattle.edit_changes.proofs.Patches.{ArePatched, AreMatched, matched_at, items_of_lists}
use Rattle.edit_changes.proofs.Boards.{GivesAlone, part_of_board, AreSpliced, AreBoardsSpliced, spliced_boards, same_spliced}
use Rattle.edit_changes.proofs.Things.{gives_none, gives_track, gives_via}
use Rattle.edit_changes.proofs.NewCopper.{no_list, same_rest}
use Rattle.edit_changes.proofs.Standing.{track_stamped, via_stamped, track_head, via_head}

left_past : {X : Type 0} (xs ys : List X) (x : X) → left_without (length xs) (xs ++ x ∷ ys) ≡ xs ++ ys
left_past [] ys x = refl
left_past (y ∷ xs) ys x = ap (λ z. y ∷ z) (left_past xs ys x)

dropped_is : {X : Type 0} (s : X → X) (xs ys front behind : List X) (u : X) (n : ℕ) → AreSpliced s xs ys (map s front) (u ∷ []) [] behind → n ≡ length front
    → map s ys ≡ left_without n (map s xs)
dropped_is s xs ys front behind u n a e =
    a.new ∙ sym (left_past (map s front) behind u) ∙ ap (left_without (length (map s front))) (sym a.old)
    ∙ ap (λ k. left_without k (map s xs)) (sym (length-map_is s front) ∙ sym e)

-- ---- a list that is taken out of the text
module _ (text new : List ℕ) (root last : Item) (xs ys : List Item) (i : Item) (r : IsRoot text root) (l : IsRoot new last) (e : lists_of root ≡ xs ++ i ∷ ys)
    (s : IsSplice text i.from i.to [] new)
  where
    p : IsSpelt text root
    p = spelt text root r

    h : IsListHole (length p.before + 1) p.inner xs i
    h = hole_there text root p xs ys i e

    new_is : new ≡ spelt_bytes (mend (place text root p xs ys i h) (behind_white h.white h.rest))
    new_is =
        instead text root p xs ys i h [] new s
        ∙ append_assoc (front (place text root p xs ys i h)) h.white (spelt_bytes h.rest ++ back (place text root p xs ys i h))
        ∙ ap (λ z. front (place text root p xs ys i h) ++ z)
        (sym (append_assoc h.white (spelt_bytes h.rest) (back (place text root p xs ys i h)))
        ∙ ap (λ z. z ++ back (place text root p xs ys i h)) (sym (white_bytes h.white h.rest)))
        ∙ sym (mend_bytes (place text root p xs ys i h) (behind_white h.white h.rest))

    new_good : IsTextSpelling 64 (mend (place text root p xs ys i h) (behind_white h.white h.rest))
    new_good =
        mend_good (place text root p xs ys i h) (Nested h.white h.inner h.rest) (behind_white h.white h.rest) 64 (place_good text root p xs ys i h) (λ m q k. white_good h.white h.rest m k.0 k.3)

    new_lists : groups (item_seen new last) ≡ lists_before h.hole ++ lists_in h.rest
    new_lists =
        ap (λ z. filter is_group (parts z)) (root_contents new p.before p.behind (mend h.hole (behind_white h.white h.rest)) last new_is new_good l)
        ∙ mend_lists h.hole (behind_white h.white h.rest) h.flat ∙ ap (λ z. lists_before h.hole ++ z) (white_lists h.white h.rest)

    -- the boards' lists are the same but for that one
    patched : is_headed text (codes "layers") i ≡ false → is_headed text (codes "net") i ≡ false
        → ArePatched text new root last (lists_before h.hole) (list_seen (contents h.inner) ∷ []) [] (lists_in h.rest)
    patched f g = record {
      old = lists_there text root p xs ys i h;
      new = new_lists;
      out_layers = (head_there text root p xs ys i h e (codes "layers") ∙ f, tt);
      put_layers = tt;
      out_nets = (head_there text root p xs ys i h e (codes "net") ∙ g, tt);
      put_nets = tt;
    }

    module _ (f : is_headed text (codes "layers") i ≡ false) (g : is_headed text (codes "net") i ≡ false) (rules : Rules) where
      abbrev m : AreMatched text new root last (lists_before h.hole) (list_seen (contents h.inner) ∷ []) [] (lists_in h.rest)
      m =
          matched_at text new root last (lists_before h.hole) (list_seen (contents h.inner) ∷ []) [] (lists_in h.rest) xs (i ∷ []) ys e (front_seen text root p xs ys i h e)
          (ap (λ z. z ∷ []) (item_there text root p xs ys i h e)) (behind_there text root p xs ys i h e) (patched f g)

      none_put : GivesAlone (context_of new last) m.ns rules [] [] []
      none_put = subst (λ z. GivesAlone (context_of new last) z rules [] [] []) (sym (no_list (item_seen new) m.ns m.put_is)) (gives_none (context_of new last) rules)

      pub track_gone : is_headed text (codes "segment") i ≡ true
          → AreBoardsSpliced (board_of text root rules) (board_of new last rules) (part_of_board (context_of text root) xs rules) (part_of_board (context_of text root) ys rules)
          (track_of (context_of text root) i ∷ []) [] [] [] [] []
      unfolding context_of
      track_gone k =
          spliced_boards text new root last rules (lists_before h.hole) (list_seen (contents h.inner) ∷ []) [] (lists_in h.rest) (patched f g) m
          (track_of (context_of text root) i ∷ []) [] [] [] [] [] (gives_track (context_of text root) i rules k) none_put

      pub via_gone : is_headed text (codes "via") i ≡ true
          → AreBoardsSpliced (board_of text root rules) (board_of new last rules) (part_of_board (context_of text root) xs rules) (part_of_board (context_of text root) ys rules)
          [] [] (via_of (context_of text root) i ∷ []) [] [] []
      unfolding context_of
      via_gone k =
          spliced_boards text new root last rules (lists_before h.hole) (list_seen (contents h.inner) ∷ []) [] (lists_in h.rest) (patched f g) m
          [] [] (via_of (context_of text root) i ∷ []) [] [] [] (gives_via (context_of text root) i rules k) none_put

-- ---- the board

tracks_number : (text : List ℕ) (root : Item) (rules : Rules) (xs : List Item) (n : ℕ) → n ≡ length (all_of track_from (context_of text root) (items_of_lists text xs))
    → n ≡ length (part_of_board (context_of text root) xs rules).tracks
unfolding context_of
tracks_number text root rules xs n e = e

vias_number : (text : List ℕ) (root : Item) (rules : Rules) (xs : List Item) (n : ℕ) → n ≡ length (all_of via_from (context_of text root) (items_of_lists text xs))
    → n ≡ length (part_of_board (context_of text root) xs rules).vias
unfolding context_of
vias_number text root rules xs n e = e

module _ (text new : List ℕ) (root last : Item) (rules : Rules) (stamp : List ℕ) (r : IsRoot text root) (l : IsRoot new last)
    (s : IsSplice text (splice_in text root (edits.Drop stamp)).from (splice_in text root (edits.Drop stamp)).to (splice_in text root (edits.Drop stamp)).put new)
  where
    list_splice : (p : Placed) → bearer_of text root stamp ≡ Some p → IsSplice text p.item.from p.item.to [] new
    unfolding splice_in splice_of
    list_splice p e = subst (λ o. IsSplice text (item_or root o).from (item_or root o).to [] new) e s

    track_dropped : (n : ℕ) → stamp_of text root stamp ≡ Some (stamped.Track n) → IsTrackDropped text rules stamp (board_of text root rules) (board_of new last rules)
    track_dropped n e =
        let t = track_stamped text root stamp n e in
        let i = t.0.item in
        let k = track_head text i t.0.thing in
        let a = track_gone text new root last t.0.xs t.0.ys i r l t.0.stands (list_splice (record { item = i; site = OnBoard }) t.0.bearer)
        (other_headed text text (codes "segment") (codes "layers") refl i k) (other_headed text text (codes "segment") (codes "net") refl i k) rules k in
        record {
          track = track_of (context_of text root) i;
          is = record { root = root; is_root = r; number = n; stamped = e; is = track_stamp text root rules stamp n (record { item = i; site = OnBoard }) e t.0.bearer };
          tracks = dropped_is unplaced _ _ (part_of_board (context_of text root) t.0.xs rules).tracks _ (unplaced (track_of (context_of text root) i)) n a.tracks (tracks_number text root rules t.0.xs n t.1);
          vias = same_spliced unplaced_via _ _ _ _ a.vias;
          zones = same_spliced unplaced_zone _ _ _ _ a.zones;
          rest = same_rest _ _ _ _ _ _ _ _ _ _ a;
        }

    via_dropped : (n : ℕ) → stamp_of text root stamp ≡ Some (stamped.Via n) → IsViaDropped text rules stamp (board_of text root rules) (board_of new last rules)
    via_dropped n e =
        let t = via_stamped text root stamp n e in
        let i = t.0.item in
        let k = via_head text i t.0.thing in
        let a = via_gone text new root last t.0.xs t.0.ys i r l t.0.stands (list_splice (record { item = i; site = OnBoard }) t.0.bearer)
        (other_headed text text (codes "via") (codes "layers") refl i k) (other_headed text text (codes "via") (codes "net") refl i k) rules k in
        record {
          via = via_of (context_of text root) i;
          is = record { root = root; is_root = r; number = n; stamped = e; is = via_stamp text root rules stamp n (record { item = i; site = OnBoard }) e t.0.bearer };
          tracks = same_spliced unplaced _ _ _ _ a.tracks;
          vias = dropped_is unplaced_via _ _ (part_of_board (context_of text root) t.0.xs rules).vias _ (unplaced_via (via_of (context_of text root) i)) n a.vias (vias_number text root rules t.0.xs n t.1);
          zones = same_spliced unplaced_zone _ _ _ _ a.zones;
          rest = same_rest _ _ _ _ _ _ _ _ _ _ a;
        }

    pub drop_change : refusal_in text root (edits.Drop stamp) ≡ None
        → IsTrackDropped text rules stamp (board_of text root rules) (board_of new last rules) ⊎ IsViaDropped text rules stamp (board_of text root rules) (board_of new last rules)
    unfolding stamp_refusal
    drop_change f = by_stamp (stamp_of text root stamp) refl f
      where
        by_stamp : (o : Option Stamped) → stamp_of text root stamp ≡ o → if_no_copper o ≡ None
            → IsTrackDropped text rules stamp (board_of text root rules) (board_of new last rules) ⊎ IsViaDropped text rules stamp (board_of text root rules) (board_of new last rules)
        by_stamp None e q = absurd (none-some _ (sym q))
        by_stamp (Some (stamped.Track n)) e q = inl (track_dropped n e)
        by_stamp (Some (stamped.Via n)) e q = inr (via_dropped n e)
        by_stamp (Some (stamped.Zone n)) e q = absurd (none-some _ (sym q))
        by_stamp (Some stamped.Other) e q = absurd (none-some _ (sym q))
