-- What the code's words for things stand for.
use Rattle.sexpr_text.specs.Items.{Item}
use Rattle.board_text.specs.Things as things
use Rattle.board_items.specs.declared.thing.Thing.{Thing}
use Rattle.board_items.specs.declared.thing.Thing.TheVariants as on_board
use Rattle.board_items.specs.declared.thing.Own.{Own}
use Rattle.board_items.specs.declared.thing.Own.TheVariants as own

-- what a list of the board is
abbrev pub thing_shown : Thing → things.Thing
thing_shown on_board.Layers = things.Layers
thing_shown on_board.Net = things.Net
thing_shown on_board.Track = things.Track
thing_shown on_board.CurvedTrack = things.CurvedTrack
thing_shown on_board.Via = things.Via
thing_shown on_board.Footprint = things.Footprint
thing_shown on_board.RuleArea = things.RuleArea
thing_shown on_board.Zone = things.Zone
thing_shown on_board.Drawing = things.Drawing
thing_shown on_board.Other = things.Other

-- what a list of this footprint is
abbrev pub own_shown : Item → Own → things.Thing
own_shown footprint own.Pad = things.Pad footprint
own_shown footprint own.Zone = things.FootprintZone
own_shown footprint own.Drawing = things.FootprintDrawing
own_shown footprint own.Other = things.Other
