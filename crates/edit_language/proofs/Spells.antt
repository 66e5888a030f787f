-- The text that an edit makes of a list is one list again.
use Rattle.std.proofs.Common.{◌≡◌, ◌∙◌, refl, ap, sym, subst, ℕ, ◌-◌, ◌<◌, Bool, true, false, cond, List, [], ◌∷◌, ◌++◌, decimal, Option, None, Some, arith}
use Rattle.std.specs.Prelude.{codes, pos, suc, option_and_then}
use Rattle.std.proofs.lemmas.Option.{none-some}
use Rattle.grid_num.specs.declared.Point.{Point}
use Rattle.grid_num.specs.Written.{mm_of}
use Rattle.text_splices.specs.Splice.{IsSplice}
use Rattle.sexpr_text.specs.Grammar.{Forest, Spelt}
use Rattle.sexpr_text.specs.Grammar.Forest.{Nil, Group}
use Rattle.sexpr_text.specs.Items.{Item}
use Rattle.sexpr_text.specs.Trees.{IsRoot}
use Rattle.sexpr_text.specs.declared.NodeKind.TheVariants as kinds
use Rattle.board_text.specs.Fields.{list_of}
use Rattle.board_text.specs.Items.{tail_of, version_of}
use Rattle.board_text.specs.Things.{Placed}
use Rattle.board_language.specs.Zones.{span_or_none, spans_of}
use Rattle.edit_language.specs.declared.edit.Edit.{Edit}
use Rattle.edit_language.specs.declared.edit.Edit.TheVariants.{Track, Via, Drop, Priority, Clearance}
use Rattle.edit_language.specs.declared.edit.EditRefusal.TheVariants.{NoStamp}
use Rattle.edit_language.specs.Scripts.{IsPointInRange, IsSize, IsWholeNumber, IsFormed}
use Rattle.board_language.specs.Stamps.{stamp_of, bearer_of}
use Rattle.edit_language.specs.Splices.{Splice, list_text, point_list, length_list, whole_list, between_quotes, has_uuids, stamp_text, track_line, via_line, priority_by, priority_splice, clearance_by, clearance_splice, splice_of}
use Rattle.edit_language.specs.Edited.{edit_stamp, if_no_copper, if_no_zone, item_or, splice_in, stamp_refusal}
use Rattle.edit_language.specs.SpellLaws.{SpellLaw}
use Rattle.edit_language.proofs.Steady.{IsSteady, IsPlaceIn, IsNamed, steady_both, steady_nothing, steady_space, steady_line_end, steady_name, steady_quoted, steady_list, spliced_spells}
use Rattle.edit_language.proofs.Standing.{IsListIn, board_list, close_place, open_place, end_place, solid_place}
use Rattle.edit_language.proofs.Lookups.{bearer_list, borne, list_within}
use Rattle.edit_language.proofs.Named.{mm_named, small_named, decimal_named, is_named}

-- ---- lists that are put in

steady_point : (room : ℕ) (name : List ℕ) (p : Point) → room < 63 → IsNamed name → IsPointInRange p → IsSteady (suc room) (point_list name p)
steady_point room name p low n h =
    steady_list room name (mm_of p.x ∷ mm_of p.y ∷ []) low n (steady_name room (mm_of p.x) (mm_named p.x h.0), (steady_name room (mm_of p.y) (mm_named p.y h.1), tt))

steady_length : (room : ℕ) (name : List ℕ) (n : ℕ) → room < 63 → IsNamed name → IsSize n → IsSteady (suc room) (length_list name n)
steady_length room name n low h l = steady_list room name (mm_of (pos n) ∷ []) low h (steady_name room (mm_of (pos n)) (small_named n l), tt)

steady_whole : (room : ℕ) (name : List ℕ) (n : ℕ) → room < 63 → IsNamed name → IsWholeNumber n → IsSteady (suc room) (whole_list name n)
steady_whole room name n low h l = steady_list room name (decimal n ∷ []) low h (steady_name room (decimal n) (decimal_named n (omega (arith, l))), tt)

steady_word : (room : ℕ) (name word : List ℕ) → room < 63 → IsNamed name → IsNamed word → IsSteady (suc room) (list_text name (word ∷ []))
steady_word room name word low h w = steady_list room name (word ∷ []) low h (steady_name room word w, tt)

steady_stamp : (version : ℕ) (stamp : List ℕ) → IsNamed stamp → IsSteady 62 (stamp_text version stamp)
steady_stamp version stamp n = by_test (has_uuids version)
  where
    by_test : (b : Bool) → IsSteady 62 (cond b (list_text (codes "uuid") (between_quotes stamp ∷ [])) (list_text (codes "tstamp") (stamp ∷ [])))
    by_test true = steady_list 61 (codes "uuid") (between_quotes stamp ∷ []) (omega arith) refl (steady_quoted 61 stamp n, tt)
    by_test false = steady_word 61 (codes "tstamp") stamp (omega arith) refl n

steady_line : (list : List ℕ) → IsSteady 63 list → IsSteady 63 (32 ∷ 32 ∷ (list ++ 10 ∷ []))
steady_line list h =
    steady_both 63 (32 ∷ []) (32 ∷ (list ++ 10 ∷ [])) (steady_space 63)
    (steady_both 63 (32 ∷ []) (list ++ 10 ∷ []) (steady_space 63) (steady_both 63 list (10 ∷ []) h (steady_line_end 63)))

steady_spaced : (room : ℕ) (list : List ℕ) → IsSteady room list → IsSteady room (32 ∷ list)
steady_spaced room list h = steady_both room (32 ∷ []) list (steady_space room) h

steady_track : (version : ℕ) (from to : Point) (width : ℕ) (layer : List ℕ) (net : ℕ) (stamp : List ℕ) → IsFormed (Track from to width layer net stamp)
    → IsSteady 63 (track_line version from to width layer net stamp)
unfolding IsFormed track_line
steady_track version from to width layer net stamp f =
    steady_line _ (steady_list 62 (codes "segment") _ (omega arith) refl (
      steady_point 61 (codes "start") from (omega arith) refl f.0,
      (
        steady_point 61 (codes "end") to (omega arith) refl f.1,
        (
          steady_length 61 (codes "width") width (omega arith) refl f.2,
          (
            steady_list 61 (codes "layer") (between_quotes layer ∷ []) (omega arith) refl (steady_quoted 61 layer (is_named layer f.3), tt),
            (
              steady_whole 61 (codes "net") net (omega arith) refl f.4,
              (
                steady_stamp version stamp (is_named stamp f.5),
                tt,
              ),
            ),
          ),
        ),
      ),
    ))

steady_via : (version : ℕ) (at : Point) (size drill : ℕ) (top bottom : List ℕ) (net : ℕ) (stamp : List ℕ) → IsFormed (Via at size drill top bottom net stamp)
    → IsSteady 63 (via_line version at size drill top bottom net stamp)
unfolding IsFormed via_line
steady_via version at size drill top bottom net stamp f =
    steady_line _ (steady_list 62 (codes "via") _ (omega arith) refl (
      steady_point 61 (codes "at") at (omega arith) refl f.0,
      (
        steady_length 61 (codes "size") size (omega arith) refl f.1,
        (
          steady_length 61 (codes "drill") drill (omega arith) refl f.2,
          (
            steady_list 61 (codes "layers") (between_quotes top ∷ between_quotes bottom ∷ []) (omega arith) refl (steady_quoted 61 top (is_named top f.3), (steady_quoted 61 bottom (is_named bottom f.4), tt)),
            (
              steady_whole 61 (codes "net") net (omega arith) refl f.5,
              (
                steady_stamp version stamp (is_named stamp f.6),
                tt,
              ),
            ),
          ),
        ),
      ),
    ))

-- ---- where they are put

abbrev IsDone : List ℕ → Splice → List ℕ → Type 0
IsDone text s new = IsSplice text s.from s.to s.put new

abbrev Spells : List ℕ → Type 0
Spells new = (tree : Forest) × Spelt new tree

before_close : (text new line : List ℕ) (root : Item) → IsRoot text root → IsSteady 63 line → IsSplice text (root.to - 1) (root.to - 1) line new → Spells new
before_close text new line root r h s =
    let l = board_list text root r in
    let p : IsPlaceIn text 63 (root.to - 1) = close_place text 63 64 root.from root.to r.spelt.utf8 l.bracket l.ended in
    spliced_spells text new line 63 (root.to - 1) (root.to - 1) _ r.spelt p p h s

in_place : (text new put : List ℕ) (room : ℕ) (root item : Item) → IsRoot text root → IsListIn text room item → IsSteady room put
    → IsSplice text item.from item.to put new → Spells new
in_place text new put room root item r l h s =
    spliced_spells text new put room item.from item.to _ r.spelt (open_place text room item r.spelt.utf8 l) (end_place text room item r.spelt.utf8 l) h s

at_tail : (text new put : List ℕ) (root zone : Item) → IsRoot text root → IsListIn text 63 zone → IsSteady 62 put
    → IsSplice text (tail_of text zone) (tail_of text zone) put new → Spells new
at_tail text new put root zone r l h s =
    let p = solid_place text 62 (zone.to - 1) r.spelt.utf8 (close_place text 62 63 zone.from zone.to r.spelt.utf8 l.bracket l.ended) in
    spliced_spells text new put 62 (tail_of text zone) (tail_of text zone) _ r.spelt p p h s

priority_spells : (text new : List ℕ) (root zone : Item) (value : ℕ) (o : Option Item) → IsRoot text root → IsListIn text 63 zone → IsWholeNumber value
    → list_of text (codes "priority") zone ≡ o → IsDone text (priority_by (span_or_none o) (tail_of text zone) value) new → Spells new
priority_spells text new root zone value (Some list) r l v e s =
    in_place text new _ 62 root list r (list_within text (codes "priority") 63 zone list (omega arith) l e) (steady_whole 61 (codes "priority") value (omega arith) refl v) s
priority_spells text new root zone value None r l v e s =
    at_tail text new _ root zone r l (steady_spaced 62 _ (steady_whole 61 (codes "priority") value (omega arith) refl v)) s

-- the `clearance` in a `connect_pads`
clearance_spells : (text new : List ℕ) (root zone : Item) (value : ℕ) (o : Option Item) → IsRoot text root → IsListIn text 63 zone → IsSize value
    → list_of text (codes "connect_pads") zone ≡ o
    → (c : Option Item) → option_and_then (list_of text (codes "clearance")) o ≡ c
    → IsDone text (clearance_by (span_or_none c) (span_or_none o) (tail_of text zone) value) new → Spells new
clearance_spells text new root zone value None r l v e None f s =
    at_tail text new _ root zone r l (steady_spaced 62 _ (steady_list 61 (codes "connect_pads") _ (omega arith) refl (steady_length 60 (codes "clearance") value (omega arith) refl v, tt))) s
clearance_spells text new root zone value None r l v e (Some list) f s = absurd (none-some list f)
clearance_spells text new root zone value (Some connect) r l v e (Some list) f s =
    let m = list_within text (codes "connect_pads") 63 zone connect (omega arith) l e in
    in_place text new _ 61 root list r (list_within text (codes "clearance") 62 connect list (omega arith) m f) (steady_length 60 (codes "clearance") value (omega arith) refl v) s
clearance_spells text new root zone value (Some connect) r l v e None f s =
    let m = list_within text (codes "connect_pads") 63 zone connect (omega arith) l e in
    let p = close_place text 61 62 connect.from connect.to r.spelt.utf8 m.bracket m.ended in
    spliced_spells text new _ 61 (connect.to - 1) (connect.to - 1) _ r.spelt p p (steady_spaced 61 _ (steady_length 60 (codes "clearance") value (omega arith) refl v)) s

-- ---- each edit

copper_named : (text stamp : List ℕ) (root : Item) → if_no_copper (stamp_of text root stamp) ≡ None → stamp_of text root stamp ≡ None → ⊥
copper_named text stamp root h e = none-some NoStamp (sym h ∙ ap if_no_copper e)

zone_named : (text stamp : List ℕ) (root : Item) → if_no_zone (stamp_of text root stamp) ≡ None → stamp_of text root stamp ≡ None → ⊥
zone_named text stamp root h e = none-some NoStamp (sym h ∙ ap if_no_zone e)

-- the item that an edit names
named_item : (text stamp : List ℕ) (root : Item) → IsRoot text root → (stamp_of text root stamp ≡ None → ⊥) → IsListIn text 63 (item_or root (bearer_of text root stamp))
named_item text stamp root r h =
    let b = borne text stamp root h in
    subst (λ (o : Option Placed). IsListIn text 63 (item_or root o)) (sym b.1) (bearer_list text stamp root b.0 r b.1)

spells : (text new : List ℕ) (root : Item) (edit : Edit) → IsRoot text root → IsFormed edit → stamp_refusal edit (stamp_of text root (edit_stamp edit)) ≡ None
    → IsDone text (splice_in text root edit) new → Spells new
unfolding splice_in splice_of stamp_refusal priority_splice clearance_splice spans_of IsFormed
spells text new root (Track from to width layer net stamp) r f h s = before_close text new _ root r (steady_track (version_of text root) from to width layer net stamp f) s
spells text new root (Via at size drill top bottom net stamp) r f h s = before_close text new _ root r (steady_via (version_of text root) at size drill top bottom net stamp f) s
spells text new root (Drop stamp) r f h s =
    in_place text new [] 63 root (item_or root (bearer_of text root stamp)) r (named_item text stamp root r (copper_named text stamp root h)) (steady_nothing 63) s
spells text new root (Priority stamp value) r f h s =
    priority_spells text new root (item_or root (bearer_of text root stamp)) value _ r (named_item text stamp root r (zone_named text stamp root h)) f.1 refl s
spells text new root (Clearance stamp value) r f h s =
    clearance_spells text new root (item_or root (bearer_of text root stamp)) value _ r (named_item text stamp root r (zone_named text stamp root h)) f.1 refl _ refl s

root_in : (new : List ℕ) (tree : Forest) → Spelt new tree → (root : Item) × IsRoot new root
root_in new (Group from to inner Nil) s = (record { kind = kinds.List; from = from; to = to; inner = inner }, record { list = refl; spelt = s })
root_in new tree s = absurd s.list

pub spell_law : SpellLaw
spell_law text edit new f p =
    let t = spells text new p.root edit p.is_root f p.fits p.spliced in
    root_in new t.0 t.1
