-- Rows worked by hand: what scripts say, and what edits put into a text.
use Rattle.std.specs.Prelude.{◌≡◌, ℕ, List, [], ◌∷◌, codes, pos, negsuc, Option, None, Some}
use Rattle.grid_num.specs.declared.Point.{Point}
use Rattle.sexpr_text.specs.declared.Span.{Span}
use Rattle.board_language.specs.declared.board.ZoneSpans.{ZoneSpans}
use Rattle.edit_language.specs.declared.edit.Edit.TheVariants.{Track, Via, Drop, Priority, Clearance}
use Rattle.edit_language.specs.declared.edit.EditKind.TheVariants.{TooLong, BadWord, TooFewWords, TooManyWords, BadNumber}
use Rattle.edit_language.specs.declared.edit.EditRefusal.TheVariants.{NoStamp, WrongKind, StampTaken}
use Rattle.board_text.specs.declared.stamped.Stamped.TheVariants as stamps
use Rattle.edit_language.specs.Edited.{stamp_refusal}
use Rattle.edit_language.specs.Forms.{fault_of}
use Rattle.edit_language.specs.Scripts.{Edits, Fault, script_of}
use Rattle.edit_language.specs.Splices.{Splice, take_out, put_before_close, track_line, via_line, priority_splice, clearance_splice}

-- a place in nanometres
abbrev pub at : ℕ → ℕ → Point
at x y = record { x = pos x; y = pos y }

-- ---- scripts

-- what these scripts say
pub record ScriptRows : Type 0 where
  pub track : script_of (codes "track 8 5 9 5 0.25 F.Cu 3 t9") ≡ Edits (Track (at 8000000 5000000) (at 9000000 5000000) 250000 (codes "F.Cu") 3 (codes "t9") ∷ [])
  pub via : script_of (codes "via -0.000001 5 0.6 .3 F.Cu B.Cu 1 v1\n")
      ≡ Edits (Via (record { x = negsuc 0; y = pos 5000000 }) 600000 300000 (codes "F.Cu") (codes "B.Cu") 1 (codes "v1") ∷ [])
  pub two : script_of (codes "priority z2 2\nclearance z2 0.3\n") ≡ Edits (Priority (codes "z2") 2 ∷ Clearance (codes "z2") 300000 ∷ [])
  -- comments, and lines without a word, are no edits; blanks are spaces, tabs and carriage returns
  pub comment : script_of (codes "# drop t8\n\t\r\n \t#drop t7\n  drop\tt9 \r\n") ≡ Edits (Drop (codes "t9") ∷ [])
  pub empty : script_of [] ≡ Edits []
  -- but they count as lines
  pub line : script_of (codes "# a comment\n\ndrop t9\nmove t1\n") ≡ Fault 4 BadWord
  pub unknown : script_of (codes "move t1\n") ≡ Fault 1 BadWord
  pub few : script_of (codes "track 0 0") ≡ Fault 1 TooFewWords
  -- the number of words is tried before their forms
  pub many : script_of (codes "priority z!2 x y") ≡ Fault 1 TooManyWords
  pub misfit : script_of (codes "priority z!2 x") ≡ Fault 1 BadWord
  pub number : script_of (codes "track 0 0 1 1 x F.Cu 3 t9") ≡ Fault 1 BadNumber
  -- a width isn't negative, and a whole number has at most ten digits
  pub negative : script_of (codes "track 0 0 1 1 -1 F.Cu 3 t9") ≡ Fault 1 BadNumber
  pub digits : script_of (codes "priority z2 00000000001") ≡ Fault 1 BadNumber
  pub greatest : script_of (codes "priority z2 4294967295") ≡ Edits (Priority (codes "z2") 4294967295 ∷ [])
  pub beyond : script_of (codes "priority z2 4294967296") ≡ Fault 1 BadNumber

-- the 10,001st edit is one too many, whatever it says
pub record LengthRows : Type 0 where
  pub last : fault_of 9999 (record { number = 1; words = codes "move" ∷ [] }) ≡ Some BadWord
  pub beyond : fault_of 10000 (record { number = 1; words = codes "move" ∷ [] }) ≡ Some TooLong

-- ---- splices

-- a zone with its lists at these places
abbrev pub zone_with : Option Span → Option Span → Option Span → ℕ → ZoneSpans
zone_with priority connect clearance tail = record { priority = priority; connect = connect; clearance = clearance; tail = tail; fills = [] }

-- from one byte to before another
abbrev pub span_at : ℕ → ℕ → Span
span_at from to = record { from = from; to = to }

-- these bytes in place of those of a span
abbrev pub piece : ℕ → ℕ → List ℕ → Splice
piece from to put = record { from = from; to = to; put = put }

-- what these edits put into a text, and where
pub record SpliceRows : Type 0 where
  pub track : put_before_close (span_at 0 902) (track_line 20221018 (at 8000000 5000000) (at 9000000 5000000) 250000 (codes "F.Cu") 3 (codes "t9"))
      ≡ piece 901 901 (codes "  (segment (start 8 5) (end 9 5) (width 0.25) (layer \"F.Cu\") (net 3) (tstamp t9))\n")
  -- above that version a stamp is a `uuid`, between quotes
  pub newer_track : put_before_close (span_at 0 902) (track_line 20221019 (at 8000000 5000000) (at 9000000 5000000) 250000 (codes "F.Cu") 3 (codes "t9"))
      ≡ piece 901 901 (codes "  (segment (start 8 5) (end 9 5) (width 0.25) (layer \"F.Cu\") (net 3) (uuid \"t9\"))\n")
  pub via : put_before_close (span_at 0 902) (via_line 20211014 (at 1000000 5000000) 600000 300000 (codes "F.Cu") (codes "B.Cu") 1 (codes "v1"))
      ≡ piece 901 901 (codes "  (via (at 1 5) (size 0.6) (drill 0.3) (layers \"F.Cu\" \"B.Cu\") (net 1) (tstamp v1))\n")
  pub newer_via : put_before_close (span_at 0 902) (via_line 20241231 (at 1000000 5000000) 600000 300000 (codes "F.Cu") (codes "B.Cu") 1 (codes "v1"))
      ≡ piece 901 901 (codes "  (via (at 1 5) (size 0.6) (drill 0.3) (layers \"F.Cu\" \"B.Cu\") (net 1) (uuid \"v1\"))\n")
  pub drop : take_out (span_at 820 899) ≡ piece 820 899 []
  pub priority : priority_splice (zone_with (Some (span_at 300 312)) None None 500) 2 ≡ piece 300 312 (codes "(priority 2)")
  pub new_priority : priority_splice (zone_with None None None 500) 2 ≡ piece 500 500 (codes " (priority 2)")
  pub clearance : clearance_splice (zone_with None (Some (span_at 310 342)) (Some (span_at 324 341)) 500) 300000 ≡ piece 324 341 (codes "(clearance 0.3)")
  -- (connect_pads yes) at 310: its closing parenthesis is the byte at 327
  pub in_connect : clearance_splice (zone_with None (Some (span_at 310 328)) None 500) 300000 ≡ piece 327 327 (codes " (clearance 0.3)")
  pub with_connect : clearance_splice (zone_with None None None 500) 300000 ≡ piece 500 500 (codes " (connect_pads (clearance 0.3))")

-- ---- refusals

-- why these edits are refused for the thing with their stamp, or not
pub record RefusalRows : Type 0 where
  pub nothing : stamp_refusal (Drop (codes "t9")) None ≡ Some NoStamp
  pub zone_dropped : stamp_refusal (Drop (codes "z1")) (Some (stamps.Zone 0)) ≡ Some WrongKind
  pub track_dropped : stamp_refusal (Drop (codes "t9")) (Some (stamps.Track 4)) ≡ None
  pub track_set : stamp_refusal (Priority (codes "t9") 2) (Some (stamps.Track 4)) ≡ Some WrongKind
  pub area_set : stamp_refusal (Clearance (codes "a1") 300000) (Some stamps.Other) ≡ Some WrongKind
  pub zone_set : stamp_refusal (Clearance (codes "z1") 300000) (Some (stamps.Zone 0)) ≡ None
  pub taken : stamp_refusal (Track (at 8 5) (at 9 5) 250000 (codes "F.Cu") 3 (codes "z1")) (Some (stamps.Zone 0)) ≡ Some StampTaken
  pub free : stamp_refusal (Track (at 8 5) (at 9 5) 250000 (codes "F.Cu") 3 (codes "t9")) None ≡ None
