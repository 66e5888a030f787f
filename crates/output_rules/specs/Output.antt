-- The written board: the text of the board, with the old fills of its copper zones taken out and their rings put in.
use Rattle.std.specs.Prelude.{ℕ, suc, List, [], ◌∷◌, ◌++◌, map, length, get_or}
use Rattle.std.specs.List.{flat_map}
use Rattle.sexpr_text.specs.declared.Span.{Span}
use Rattle.board_language.specs.declared.board.Zone.{Zone}
use Rattle.board_language.specs.declared.board.ZoneSpans.{ZoneSpans}
use Rattle.board_language.specs.Board.{Board}
use Rattle.board_text.specs.Items.{solid_end}
use Rattle.fill_rules.specs.Tasks.{Task, layers_below, ranked}
use Rattle.fill_rules.specs.Nodes.{rank_in}
use Rattle.rings.specs.Rings.{Traced, not_traced}
use Rattle.output_rules.specs.Pieces.{Piece, replaced}
use Rattle.output_rules.specs.Rings.{ring_text}

-- the outlines of a task's fill; they stand in rank order
abbrev pub traced_of : Board → List Traced → Task → Traced
traced_of b traced t = get_or traced (rank_in t (ranked b)) not_traced

-- the name of a layer by its number
abbrev pub layer_name : Board → ℕ → List ℕ
layer_name b l = get_or b.layers l []

-- ---- what goes: each old fill, with the white space directly before it

-- an old fill goes, with the white space before it
abbrev pub old_fill : List ℕ → Span → Piece
old_fill text fill = record { from = solid_end text fill.from; to = fill.to; put = [] }

-- the old fills of all zones, in file order
abbrev pub old_fills : List ℕ → List Zone → List Piece
old_fills text zones = flat_map (λ (zone : Zone). map (old_fill text) zone.spans.fills) zones

-- the text without the fills that were written before
unfoldable pub text_without_fills : List ℕ → Board → List ℕ
text_without_fills text b = replaced 0 (old_fills text b.zones) text

-- ---- what comes: the rings of the zone, directly behind the last byte before its closing parenthesis that isn't white space

-- the rings of a zone, in the order of the layers and then in their own
abbrev pub rings_text : Board → List Traced → ℕ → Zone → List ℕ
rings_text b traced z zone =
    flat_map (λ (l : ℕ). flat_map (ring_text (layer_name b l)) (traced_of b traced (record { zone = z; layer = l })).rings) (layers_below zone.layers (length b.layers))

-- a zone's old fills go, and what is written of its fill stands at its tail
abbrev pub zone_pieces : List ℕ → ZoneSpans → List ℕ → List Piece
zone_pieces text spans rings = map (old_fill text) spans.fills ++ (record { from = spans.tail; to = spans.tail; put = rings } ∷ [])

-- of the zones from number z on
abbrev pub pieces_from : List ℕ → Board → List Traced → ℕ → List Zone → List Piece
pieces_from text b traced z [] = []
pieces_from text b traced z (zone ∷ zones) = zone_pieces text zone.spans (rings_text b traced z zone) ++ pieces_from text b traced (suc z) zones

-- what is replaced in a board's text: in each zone the old fills, and its rings at the tail
unfoldable pub board_pieces : List ℕ → Board → List Traced → List Piece
board_pieces text b traced = pieces_from text b traced 0 b.zones

-- the text with these rings in its zones
unfoldable pub text_with_rings : List ℕ → Board → List Traced → List ℕ
text_with_rings text b traced = replaced 0 (board_pieces text b traced) text
