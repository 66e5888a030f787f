-- Which piece of a board's text an edit takes out, and what it puts in.
use Rattle.std.specs.Prelude.{ℕ, ◌-◌, Bool, nat_lt, cond, List, [], ◌∷◌, ◌++◌, codes, pos, Option, None, Some}
use Rattle.std.specs.Fmt.{decimal}
use Rattle.grid_num.specs.declared.Point.{Point}
use Rattle.grid_num.specs.Written.{mm_of}
use Rattle.sexpr_text.specs.Items.{Item}
use Rattle.sexpr_text.specs.declared.Span.{Span}
use Rattle.board_language.specs.declared.board.ZoneSpans.{ZoneSpans}
use Rattle.board_text.specs.Items.{span_of, version_of}
use Rattle.board_language.specs.Zones.{spans_of}
use Rattle.edit_language.specs.declared.edit.Edit.{Edit}
use Rattle.edit_language.specs.declared.edit.Edit.TheVariants.{Track, Via, Drop, Priority, Clearance}

-- the bytes from one place to another are taken out, the last place not counted in, and these are put there
pub record Splice : Type 0 where
  pub from : ℕ
  pub to : ℕ
  pub put : List ℕ

-- bytes go in at a place, and none come out
abbrev pub put_at : ℕ → List ℕ → Splice
put_at place bytes = record { from = place; to = place; put = bytes }

-- bytes go in for those of a span
abbrev pub put_for : Span → List ℕ → Splice
put_for span bytes = record { from = span.from; to = span.to; put = bytes }

-- the place of a list's closing parenthesis
abbrev pub close_of : Span → ℕ
close_of list = list.to - 1

-- ---- lists as they are written: (start 0.5 2)

-- each value behind a space
unfoldable pub values_text : List (List ℕ) → List ℕ
values_text [] = []
values_text (value ∷ values) = codes " " ++ (value ++ values_text values)

-- a list by its head, with a space before each value
unfoldable pub list_text : List ℕ → List (List ℕ) → List ℕ
list_text name values = codes "(" ++ (name ++ (values_text values ++ codes ")"))

-- a list of a point, in millimetres
abbrev pub point_list : List ℕ → Point → List ℕ
point_list name p = list_text name (mm_of p.x ∷ mm_of p.y ∷ [])

-- a list of a length, in millimetres
abbrev pub length_list : List ℕ → ℕ → List ℕ
length_list name length = list_text name (mm_of (pos length) ∷ [])

-- a list of a whole number
abbrev pub whole_list : List ℕ → ℕ → List ℕ
whole_list name number = list_text name (decimal number ∷ [])

-- a name between quotes; names of the language have none inside
abbrev pub between_quotes : List ℕ → List ℕ
between_quotes name = codes "\"" ++ (name ++ codes "\"")

-- ---- new tracks and vias

-- a list on a line of its own
abbrev pub on_own_line : List ℕ → List ℕ
on_own_line list = codes "  " ++ (list ++ codes "\n")

-- the editors of texts above version 20221018 write a stamp as a `uuid`
abbrev pub has_uuids : ℕ → Bool
has_uuids version = nat_lt 20221018 version

-- the list of a new thing's stamp in a text of this version: a string in a `uuid`, or a word in a `tstamp`
abbrev pub stamp_text : ℕ → List ℕ → List ℕ
stamp_text version stamp = cond (has_uuids version) (list_text (codes "uuid") (between_quotes stamp ∷ [])) (list_text (codes "tstamp") (stamp ∷ []))

-- the line of a new track in a text of this version
unfoldable pub track_line : ℕ → Point → Point → ℕ → List ℕ → ℕ → List ℕ → List ℕ
track_line version from to width layer net stamp =
    on_own_line (list_text (codes "segment") (
    point_list (codes "start") from
    ∷ point_list (codes "end") to
    ∷ length_list (codes "width") width
    ∷ list_text (codes "layer") (between_quotes layer ∷ [])
    ∷ whole_list (codes "net") net
    ∷ stamp_text version stamp
    ∷ []))

-- the line of a new via in a text of this version
unfoldable pub via_line : ℕ → Point → ℕ → ℕ → List ℕ → List ℕ → ℕ → List ℕ → List ℕ
via_line version at size drill top bottom net stamp =
    on_own_line (list_text (codes "via") (
    point_list (codes "at") at
    ∷ length_list (codes "size") size
    ∷ length_list (codes "drill") drill
    ∷ list_text (codes "layers") (between_quotes top ∷ between_quotes bottom ∷ [])
    ∷ whole_list (codes "net") net
    ∷ stamp_text version stamp
    ∷ []))

-- directly before the board's closing parenthesis
abbrev pub put_before_close : Span → List ℕ → Splice
put_before_close board line = put_at (close_of board) line

-- ---- a track or via that is taken away

-- the list goes, and nothing comes in its place
abbrev pub take_out : Span → Splice
take_out span = put_for span []

-- ---- a zone's priority and clearance, by where its lists stand

-- a list behind a space
abbrev pub behind_space : List ℕ → List ℕ
behind_space list = codes " " ++ list

-- in place of the zone's `priority`; where there is none, at the zone's tail
abbrev pub priority_by : Option Span → ℕ → ℕ → Splice
priority_by (Some list) tail value = put_for list (whole_list (codes "priority") value)
priority_by None tail value = put_at tail (behind_space (whole_list (codes "priority") value))

-- a new priority goes in for the old one, or behind the zone's last list
unfoldable pub priority_splice : ZoneSpans → ℕ → Splice
priority_splice zone value = priority_by zone.priority zone.tail value

-- In place of the `clearance` in the zone's `connect_pads`; where there is none, directly before that list's closing
-- parenthesis; where there is no `connect_pads` either, with one at the zone's tail.
abbrev pub clearance_by : Option Span → Option Span → ℕ → ℕ → Splice
clearance_by (Some list) connect tail value = put_for list (length_list (codes "clearance") value)
clearance_by None (Some connect) tail value = put_at (close_of connect) (behind_space (length_list (codes "clearance") value))
clearance_by None None tail value = put_at tail (behind_space (list_text (codes "connect_pads") (length_list (codes "clearance") value ∷ [])))

-- a new clearance goes in for the old one, or into `connect_pads`, or behind the zone's last list in a new one
unfoldable pub clearance_splice : ZoneSpans → ℕ → Splice
clearance_splice zone value = clearance_by zone.clearance zone.connect zone.tail value

-- ---- all of them

-- what an edit does to the text of this board, by the text's own version, where the item has the stamp that the edit names
unfoldable pub splice_of : List ℕ → Item → Edit → Item → Splice
splice_of text board (Track from to width layer net stamp) item = put_before_close (span_of board) (track_line (version_of text board) from to width layer net stamp)
splice_of text board (Via at size drill top bottom net stamp) item = put_before_close (span_of board) (via_line (version_of text board) at size drill top bottom net stamp)
splice_of text board (Drop stamp) item = take_out (span_of item)
splice_of text board (Priority stamp value) item = priority_splice (spans_of text item) value
splice_of text board (Clearance stamp value) item = clearance_splice (spans_of text item) value
