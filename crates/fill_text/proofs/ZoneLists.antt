-- The lists of a board's zones are those from which its zones are read.
use Rattle.std.proofs.Common.{◌≡◌, refl, sym, ap, ◌∙◌, subst, Bool, true, false, cond, inl, inr, List, [], ◌∷◌, map, filter, Option, None, Some, is_some}
use Rattle.std.specs.Prelude.{◌⊎◌, flat_map}
use Rattle.std.specs.List.{cons_option}
use Rattle.sexpr_text.specs.Items.{Item}
use Rattle.board_text.specs.Lists.{lists_of}
use Rattle.board_text.specs.Items.{Context, context_of}
use Rattle.board_text.specs.Things.{Thing, Board, Layers, Net, Track, CurvedTrack, Via, Footprint, RuleArea, Zone, Drawing, Pad, FootprintDrawing, FootprintZone, Other, thing_of, on_board, with_own, items_of_board}
use Rattle.board_language.specs.declared.board.Zone as zones
use Rattle.board_language.specs.Zones.{is_read_zone, zone_of}
use Rattle.board_language.specs.Reading.{zone_from, board_of, all_of}
use Rattle.board_facts.proofs.OnBoard.{IsOfBoard, next_got}
use Rattle.fill_text.specs.FillLists.{is_copper_zone, zones_in}
use Rattle.fill_text.specs.ReadLaws.{ZoneListsLaw}

in_no_footprint : (c : Context) → IsOfBoard (zone_from c)
in_no_footprint c = record { pad = λ item footprint. refl; zone = λ item. refl; drawing = λ item. refl; other = λ item. refl }

if_read : (c : Context) (list : Item) (b : Bool) → (cond b (Some (zone_of c list)) None ≡ None) ⊎ (cond b (Some (zone_of c list)) None ≡ Some (zone_of c list))
if_read c list true = inr refl
if_read c list false = inl refl

-- a list gives the zone that is read of it, or none
none_or_zone : (c : Context) (list : Item) (t : Thing) → (zone_from c list t ≡ None) ⊎ (zone_from c list t ≡ Some (zone_of c list))
none_or_zone c list Board = inl refl
none_or_zone c list Layers = inl refl
none_or_zone c list Net = inl refl
none_or_zone c list Track = inl refl
none_or_zone c list CurvedTrack = inl refl
none_or_zone c list Via = inl refl
none_or_zone c list Footprint = inl refl
none_or_zone c list RuleArea = inl refl
none_or_zone c list Zone = if_read c list (is_read_zone c list)
none_or_zone c list Drawing = inl refl
none_or_zone c list (Pad footprint) = inl refl
none_or_zone c list FootprintDrawing = inl refl
none_or_zone c list FootprintZone = inl refl
none_or_zone c list Other = inl refl

-- one list more, in front
put_zone : (c : Context) (list : Item) (lists : List Item) (o : Option zones.Zone) → (o ≡ None) ⊎ (o ≡ Some (zone_of c list))
    → cons_option o (map (zone_of c) lists) ≡ map (zone_of c) (cond (is_some o) (list ∷ lists) lists)
put_zone c list lists o (inl e) = subst (λ z. cons_option z (map (zone_of c) lists) ≡ map (zone_of c) (cond (is_some z) (list ∷ lists) lists)) (sym e) refl
put_zone c list lists o (inr e) = subst (λ z. cons_option z (map (zone_of c) lists) ≡ map (zone_of c) (cond (is_some z) (list ∷ lists) lists)) (sym e) refl

zones_among : (c : Context) (lists : List Item) → all_of zone_from c (flat_map (with_own c.bytes) lists) ≡ map (zone_of c) (filter (is_copper_zone c) lists)
zones_among c [] = refl
zones_among c (list ∷ lists) =
    next_got c.bytes (zone_from c) list lists (in_no_footprint c)
    ∙ ap (cons_option (zone_from c list (on_board c.bytes list))) (zones_among c lists)
    ∙ put_zone c list (filter (is_copper_zone c) lists) (zone_from c list (on_board c.bytes list)) (none_or_zone c list (on_board c.bytes list))

pub zone_lists : ZoneListsLaw
unfolding board_of zones_in items_of_board thing_of context_of
zone_lists bytes root rules = zones_among (context_of bytes root) (lists_of root)
