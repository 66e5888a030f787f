-- The board in which one list of a zone is another.
use Rattle.std.proofs.Common.{◌≡◌, ◌∙◌, refl, ap, sym, subst, ℕ, ◌+◌, true, List, [], ◌∷◌, ◌++◌, map, length, codes, Some}
use Rattle.std.specs.Prelude.{filter, find}
use Rattle.sexpr_text.specs.Items.{Item, is_headed}
use Rattle.sexpr_text.specs.Trees.{IsRoot}
use Rattle.board_text.specs.Lists.{lists_of}
use Rattle.board_text.specs.Fields.{list_of}
use Rattle.board_text.specs.Items.{context_of}
use Rattle.board_text.specs.Things.{Zone, on_board}
use Rattle.board_language.specs.declared.board.Zone as zones
use Rattle.board_language.specs.declared.board.Rules.{Rules}
use Rattle.board_language.specs.Zones.{is_read_zone, zone_of}
use Rattle.board_language.specs.Reading.{board_of}
use Rattle.fill_rules.specs.Edits.{unplaced, unplaced_via}
use Rattle.text_shapes.specs.Shapes.{forest_shape}
use Rattle.text_shapes.specs.Seen.{ItemSeen, item_seen, parts, sight}
use Rattle.text_shapes.specs.Spellings.{Spelling, contents}
use Rattle.text_shapes.specs.Spellings.Spelling.{Nested}
use Rattle.text_shapes.proofs.Seen.{heads, heads_seen, groups, is_group, length-map_is, sub_seen}
use Rattle.same_boards.specs.Contents.{without}
use Rattle.same_boards.specs.Alike.{unplaced_zone}
use Rattle.same_boards.specs.Laws.{IsSameContext}
use Rattle.same_boards.proofs.Roots.{other_headed}
use Rattle.dirty_rules.specs.Dirty.{HasZone}
use Rattle.edit_changes.specs.Changes.{changed_at, IsZoneChanged}
use Rattle.edit_changes.proofs.Holes.{plug, list_seen, lists_before, lists_in, lists_plug}
use Rattle.edit_changes.proofs.Texts.{IsSpelt, root_contents}
use Rattle.edit_changes.proofs.Found.{IsListHole}
use Rattle.edit_changes.proofs.InPlace.{lists_there, front_seen, item_there, behind_there, head_there}
use Rattle.edit_changes.proofs.Patches.{ArePatched, AreMatched, matched_at, context_same}
use Rattle.edit_changes.proofs.Boards.{GivesAlone, part_of_board, AreSpliced, AreBoardsSpliced, spliced_boards, same_spliced}
use Rattle.edit_changes.proofs.Things.{gives_zone, zone_thing_is}
use Rattle.edit_changes.proofs.NewCopper.{one_list, same_rest}
use Rattle.edit_changes.proofs.Standing.{zone_head}
use Rattle.edit_changes.proofs.ZoneRead.{AreOther, has_but, read_but}
use Rattle.edit_changes.proofs.Zoned.{IsTextWith, IsSetTo}

changed_past : {X : Type 0} (f : X → X) (xs ys : List X) (x : X) → changed_at (length xs) f (xs ++ x ∷ ys) ≡ xs ++ f x ∷ ys
changed_past f [] ys x = refl
changed_past f (y ∷ xs) ys x = ap (λ z. y ∷ z) (changed_past f xs ys x)

changed_is : {X : Type 0} (s f : X → X) (xs ys front behind : List X) (u v : X) (n : ℕ) → AreSpliced s xs ys (map s front) (u ∷ []) (v ∷ []) behind → v ≡ f u → n ≡ length front
    → map s ys ≡ changed_at n f (map s xs)
changed_is s f xs ys front behind u v n a h e =
    a.new ∙ ap (λ z. map s front ++ z ∷ behind) h ∙ sym (changed_past f (map s front) behind u) ∙ ap (changed_at (length (map s front)) f) (sym a.old)
    ∙ ap (λ k. changed_at k f (map s xs)) (sym (length-map_is s front) ∙ sym e)

module _ (text new : List ℕ) (root last : Item) (rules : Rules) (xs ys : List Item) (i : Item) (p : IsSpelt text root) (h : IsListHole (length p.before + 1) p.inner xs i) (e : lists_of root ≡ xs ++ i ∷ ys)
    (l : IsRoot new last) (name : List ℕ) (inner y : Spelling) (t : IsTextWith text root p xs ys i h new inner) (s : IsSetTo text root p xs ys i h name inner y)
    (thing : on_board text i ≡ Zone) (read : is_read_zone (context_of text root) i ≡ true) (o : AreOther (name ∷ []))
  where
    zone_headed : is_headed text (codes "zone") i ≡ true
    zone_headed = (zone_head text i thing).0

    head_new : (other : List ℕ) → heads other (list_seen (contents inner)) ≡ is_headed text other i
    head_new other = s.heads_are other ∙ head_there text root p xs ys i h e other

    new_lists : groups (item_seen new last) ≡ lists_before h.hole ++ list_seen (contents inner) ∷ lists_in h.rest
    new_lists =
        ap (λ z. filter is_group (parts z)) (root_contents new p.before p.behind (plug h.hole (Nested h.white inner h.rest)) last t.is t.good l)
        ∙ lists_plug h.hole (Nested h.white inner h.rest) h.flat

    patched : ArePatched text new root last (lists_before h.hole) (list_seen (contents h.inner) ∷ []) (list_seen (contents inner) ∷ []) (lists_in h.rest)
    patched =
        let f = other_headed text text (codes "zone") (codes "layers") refl i zone_headed in
        let g = other_headed text text (codes "zone") (codes "net") refl i zone_headed in
        record {
          old = lists_there text root p xs ys i h;
          new = new_lists;
          out_layers = (head_there text root p xs ys i h e (codes "layers") ∙ f, tt);
          put_layers = (head_new (codes "layers") ∙ f, tt);
          out_nets = (head_there text root p xs ys i h e (codes "net") ∙ g, tt);
          put_nets = (head_new (codes "net") ∙ g, tt);
        }

    abbrev m : AreMatched text new root last (lists_before h.hole) (list_seen (contents h.inner) ∷ []) (list_seen (contents inner) ∷ []) (lists_in h.rest)
    m =
        matched_at text new root last (lists_before h.hole) (list_seen (contents h.inner) ∷ []) (list_seen (contents inner) ∷ []) (lists_in h.rest) xs (i ∷ []) ys e
        (front_seen text root p xs ys i h e) (ap (λ z. z ∷ []) (item_there text root p xs ys i h e)) (behind_there text root p xs ys i h e) patched

    -- the zone in the new text
    found : (z : Item) × (m.ns ≡ z ∷ []) × (item_seen new z ≡ list_seen (contents inner))
    found = one_list (item_seen new) m.ns (list_seen (contents inner)) m.put_is

    pub zone_new : Item
    zone_new = found.0

    pub same_context : IsSameContext (context_of text root) (context_of new last)
    same_context = context_same text new root last (lists_before h.hole) (list_seen (contents h.inner) ∷ []) (list_seen (contents inner) ∷ []) (lists_in h.rest) patched

    -- the same but for the list
    pub same_but : without (name ∷ []) (forest_shape text i.inner) ≡ without (name ∷ []) (forest_shape new zone_new.inner)
    unfolding zone_new
    same_but =
        ap (λ (z : ItemSeen). without (name ∷ []) z.inner) (item_there text root p xs ys i h e) ∙ s.same
        ∙ sym (ap (λ (z : ItemSeen). without (name ∷ []) z.inner) found.2)

    -- the list
    pub set_list : sight new (list_of new name zone_new) ≡ Some (list_seen (contents y))
    unfolding zone_new
    set_list = sub_seen new name found.0 ∙ ap (λ (z : ItemSeen). find (heads name) (parts z.inner)) found.2 ∙ s.found

    new_headed : is_headed new (codes "zone") zone_new ≡ true
    unfolding zone_new
    new_headed = heads_seen new (codes "zone") found.0 ∙ ap (heads (codes "zone")) found.2 ∙ head_new (codes "zone") ∙ zone_headed

    new_thing : on_board new zone_new ≡ Zone
    new_thing = zone_thing_is new zone_new new_headed (sym (has_but text new (name ∷ []) i zone_new same_but (codes "keepout") o.keepout) ∙ (zone_head text i thing).1)

    new_read : is_read_zone (context_of new last) zone_new ≡ true
    unfolding context_of
    new_read = sym (read_but (context_of text root) (context_of new last) same_context.copper (name ∷ []) o i zone_new same_but) ∙ read

    zone_spliced : AreBoardsSpliced (board_of text root rules) (board_of new last rules) (part_of_board (context_of text root) xs rules) (part_of_board (context_of text root) ys rules)
        [] [] [] [] (zone_of (context_of text root) i ∷ []) (zone_of (context_of new last) zone_new ∷ [])
    unfolding context_of zone_new
    zone_spliced =
        spliced_boards text new root last rules (lists_before h.hole) (list_seen (contents h.inner) ∷ []) (list_seen (contents inner) ∷ []) (lists_in h.rest) patched m
        [] [] [] [] (zone_of (context_of text root) i ∷ []) (zone_of (context_of new last) zone_new ∷ [])
        (gives_zone (context_of text root) i rules zone_headed thing read)
        (subst (λ z. GivesAlone (context_of new last) z rules [] [] (zone_of (context_of new last) zone_new ∷ [])) (sym found.1)
        (gives_zone (context_of new last) zone_new rules new_headed new_thing new_read))

    pub zone_changed : (stamp : List ℕ) (n : ℕ) (change : zones.Zone → zones.Zone) → HasZone text stamp n → n ≡ length (part_of_board (context_of text root) xs rules).zones
        → unplaced_zone (zone_of (context_of new last) zone_new) ≡ change (unplaced_zone (zone_of (context_of text root) i))
        → IsZoneChanged text stamp change (board_of text root rules) (board_of new last rules)
    zone_changed stamp n change has k q =
        let a = zone_spliced in
        record {
          number = n;
          is = has;
          tracks = same_spliced unplaced _ _ _ _ a.tracks;
          vias = same_spliced unplaced_via _ _ _ _ a.vias;
          zones = changed_is unplaced_zone change _ _ (part_of_board (context_of text root) xs rules).zones _ (unplaced_zone (zone_of (context_of text root) i))
              (unplaced_zone (zone_of (context_of new last) zone_new)) n a.zones q k;
          rest = same_rest _ _ _ _ _ _ _ _ _ _ a;
        }
