-- The pieces of a text that edits replace lie in the text.
use Rattle.std.proofs.Common.{◌≡◌, refl, ℕ, ◌+◌, ◌-◌, ◌<◌, ◌≤◌, arith, List, length, Option, None, Some}
use Rattle.std.specs.Prelude.{IfSome}
use Rattle.sexpr_text.specs.Items.{Item}
use Rattle.sexpr_text.specs.Trees.{IsRoot}
use Rattle.sexpr_text.specs.declared.Span.{Span}
use Rattle.board_language.specs.declared.board.ZoneSpans.{ZoneSpans}
use Rattle.board_text.specs.Things.{Placed}
use Rattle.board_text.specs.Items.{span_of}
use Rattle.board_language.specs.Zones.{spans_of}
use Rattle.edit_language.specs.declared.edit.Edit.{Edit}
use Rattle.edit_language.specs.declared.edit.Edit.TheVariants.{Track, Via, Drop, Priority, Clearance}
use Rattle.board_language.specs.Stamps.{bearer_of}
use Rattle.edit_language.specs.Splices.{priority_by, priority_splice, clearance_by, clearance_splice, splice_of}
use Rattle.edit_language.specs.Edited.{edit_stamp, item_or, splice_in}
use Rattle.edit_language.proofs.Stamps.{bearer}
use Rattle.board_facts.specs.Places.{IsListBetween, HasPlaces}
use Rattle.board_facts.proofs.Spans.{Stands, between, zone_places, root_in, item_stands}
use Rattle.edit_facts.specs.Laws.{IsInText, ZoneLaw, EditLaw}

-- ---- a zone's lists

in_place : (size from to : ℕ) (list : Span) (put : List ℕ) → to ≤ size → IsListBetween from to list → IsInText size (record { from = list.from; to = list.to; put = put })
in_place size from to list put l b = let o = b.some in let e = b.ends in record { order = omega (arith, o); within = omega (arith, e, l) }

at_place : (size place : ℕ) (put : List ℕ) → place ≤ size → IsInText size (record { from = place; to = place; put = put })
at_place size place put l = record { order = omega arith; within = l }

priority_in : (size from tail value : ℕ) (list : Option Span) → tail ≤ size → IfSome list (IsListBetween from tail) → IsInText size (priority_by list tail value)
priority_in size from tail value None l h = at_place size tail _ l
priority_in size from tail value (Some list) l h = in_place size from tail list _ l h

clearance_in : (size from tail value : ℕ) (clearance connect : Option Span) → tail ≤ size → IfSome clearance (IsListBetween from tail) → IfSome connect (IsListBetween from tail)
    → IsInText size (clearance_by clearance connect tail value)
clearance_in size from tail value (Some list) connect l h g = in_place size from tail list _ l h
clearance_in size from tail value None (Some list) l h g = let e = g.ends in at_place size (list.to - 1) _ (omega (arith, e, l))
clearance_in size from tail value None None l h g = at_place size tail _ l

closes : (from tail : ℕ) (connect : Option Span) → IfSome connect (IsListBetween from tail) → IfSome connect (λ list. 0 < list.to)
closes from tail None h = tt
closes from tail (Some list) h = let o = h.some in omega (arith, o)

priority_of : (size value : ℕ) (zone : Span) (s : ZoneSpans) → zone.to ≤ size → HasPlaces zone s → IsInText size (priority_splice s value)
unfolding priority_splice
priority_of size value zone s l h = let c = h.closes in priority_in size (zone.from + 1) s.tail value s.priority (omega (arith, c, l)) h.priority

clearance_of : (size value : ℕ) (zone : Span) (s : ZoneSpans) → zone.to ≤ size → HasPlaces zone s → IsInText size (clearance_splice s value)
unfolding clearance_splice
clearance_of size value zone s l h = let c = h.closes in clearance_in size (zone.from + 1) s.tail value s.clearance s.connect (omega (arith, c, l)) h.clearance h.connect

pub zone_law : ZoneLaw
zone_law size z value h =
    record {
      priority = priority_of size value z.span z.spans h.list.ends h.places;
      clearance = clearance_of size value z.span z.spans h.list.ends h.places;
      connect = closes (z.span.from + 1) z.spans.tail z.spans.connect h.places.connect;
    }

-- ---- an edit

-- the item that has the edit's stamp, or the board, stands in the text
bearer_stands : (text : List ℕ) (root : Item) (stamp : List ℕ) → IsRoot text root → Stands text (item_or root (bearer_of text root stamp))
bearer_stands text root stamp r = by_bearer (bearer_of text root stamp) refl
  where
    by_bearer : (o : Option Placed) → bearer_of text root stamp ≡ o → Stands text (item_or root o)
    by_bearer None e = record { room = 64; list = root_in text root r }
    by_bearer (Some p) e = item_stands text root p r (bearer text root stamp p e).0

splice_in_text : (text : List ℕ) (root item : Item) (edit : Edit) → IsRoot text root → Stands text item → IsInText (length text) (splice_of text root edit item)
unfolding splice_of
splice_in_text text root item (Track from to width layer net stamp) r s = let h = root_in text root r in let e = h.ends in at_place (length text) (root.to - 1) _ (omega (arith, e))
splice_in_text text root item (Via at size drill top bottom net stamp) r s = let h = root_in text root r in let e = h.ends in at_place (length text) (root.to - 1) _ (omega (arith, e))
splice_in_text text root item (Drop stamp) r s = in_place (length text) 0 (length text) (span_of item) _ (omega arith) (between text s.room 0 (length text) item s.list)
splice_in_text text root item (Priority stamp value) r s =
    priority_of (length text) value (span_of item) (spans_of text item) s.list.ends (zone_places text s.room 0 (length text) item s.list)
splice_in_text text root item (Clearance stamp value) r s =
    clearance_of (length text) value (span_of item) (spans_of text item) s.list.ends (zone_places text s.room 0 (length text) item s.list)

pub edit_law : EditLaw
unfolding splice_in
edit_law text root edit r = splice_in_text text root (item_or root (bearer_of text root (edit_stamp edit))) edit r (bearer_stands text root (edit_stamp edit) r)
