-- Where the lists of a board stand in its text, as an editor of the text sees them. A place is a number of bytes from the
-- start; a list takes the bytes from its opening parenthesis to its closing one.
--
--     (zone (net 1) (priority 2) (filled_polygon ..)     )
--     |             ------------ -------------------|    |
--     opens         replaced     an old fill     tail    closes
use Rattle.std.specs.Prelude.{ℕ, ◌+◌, ◌<◌, ◌≤◌, List, [], ◌∷◌, map, IfSome}
use Rattle.std.specs.List.{All}
use Rattle.sexpr_text.specs.declared.Span.{Span}
use Rattle.board_language.specs.declared.board.Track.{Track}
use Rattle.board_language.specs.declared.board.Via.{Via}
use Rattle.board_language.specs.declared.board.Zone.{Zone}
use Rattle.board_language.specs.declared.board.ZoneSpans.{ZoneSpans}
use Rattle.board_language.specs.Board.{Board}

-- a list, with some bytes, stands between these places
pub record IsListBetween (from to : ℕ) (list : Span) : Type 0 where
  pub begins : from ≤ list.from
  pub some : list.from < list.to
  pub ends : list.to ≤ to

-- the lists stand between these places in order, none inside another
unfoldable pub AreBetween : ℕ → ℕ → List Span → Type 0
AreBetween from to [] = from ≤ to
AreBetween from to (list ∷ lists) = IsListBetween from to list × AreBetween list.to to lists

-- A zone's tail is inside its list. Before the tail and behind the opening parenthesis stand the lists that edits replace,
-- and the fills that were written before, in order and none inside another.
pub record HasPlaces (zone : Span) (s : ZoneSpans) : Type 0 where
  pub opens : zone.from < s.tail
  pub closes : s.tail < zone.to
  pub priority : IfSome s.priority (IsListBetween (zone.from + 1) s.tail)
  pub connect : IfSome s.connect (IsListBetween (zone.from + 1) s.tail)
  pub clearance : IfSome s.clearance (IsListBetween (zone.from + 1) s.tail)
  pub fills : AreBetween (zone.from + 1) s.tail s.fills

-- in a text of so many bytes
pub record IsPlacedZone (size : ℕ) (z : Zone) : Type 0 where
  pub list : IsListBetween 0 size z.span
  pub places : HasPlaces z.span z.spans

-- The tracks, vias and zones of a board stand in its text, which has so many bytes; the zones in order, none inside another.
pub record IsPlacedBoard (size : ℕ) (b : Board) : Type 0 where
  pub tracks : All (λ (t : Track). IsListBetween 0 size t.span) b.tracks
  pub vias : All (λ (v : Via). IsListBetween 0 size v.span) b.vias
  pub zones : All (IsPlacedZone size) b.zones
  pub order : AreBetween 0 size (map (λ (z : Zone). z.span) b.zones)
