-- The things of a board, by what stamps stand for.
use Rattle.std.specs.Prelude.{◌<◌, length, slice_get, Option, None, Some, option_map}
use Rattle.sexpr_text.specs.declared.Span.{Span}
use Rattle.board_text.specs.declared.stamped.Stamped.{Stamped}
use Rattle.board_text.specs.declared.stamped.Stamped.TheVariants.{Track, Via, Zone, Other}
use Rattle.board_language.specs.Board.{Board}
use Rattle.board_language.specs.declared.board.Zone as zones
use Rattle.board_language.specs.declared.board.Track as tracks
use Rattle.board_language.specs.declared.board.Via as vias

-- the number is that of a thing of the board
abbrev pub IsNumber : Board → Option Stamped → Type 0
IsNumber b None = Unit {0}
IsNumber b (Some (Track n)) = n < length b.tracks
IsNumber b (Some (Via n)) = n < length b.vias
IsNumber b (Some (Zone n)) = n < length b.zones
IsNumber b (Some Other) = Unit {0}

-- where the track or via stands
abbrev pub copper_span : Board → Option Stamped → Option Span
copper_span b None = None
copper_span b (Some (Track n)) = option_map (λ (t : tracks.Track). t.span) (slice_get b.tracks n)
copper_span b (Some (Via n)) = option_map (λ (v : vias.Via). v.span) (slice_get b.vias n)
copper_span b (Some (Zone n)) = None
copper_span b (Some Other) = None

-- the copper zone
abbrev pub zone_in : Board → Option Stamped → Option zones.Zone
zone_in b None = None
zone_in b (Some (Track n)) = None
zone_in b (Some (Via n)) = None
zone_in b (Some (Zone n)) = slice_get b.zones n
zone_in b (Some Other) = None
