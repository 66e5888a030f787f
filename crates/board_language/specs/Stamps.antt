-- What a stamp stands for: tracks, vias and zones of any kind have stamps, and in an accepted board no two have the same.
use Rattle.std.specs.Prelude.{ℕ, Bool, not, cond, List, length, take, find, Option, option_map}
use Rattle.std.specs.List.{prefix_len}
use Rattle.sexpr_text.specs.Items.{Item}
use Rattle.board_text.specs.Fields.{is_text}
use Rattle.board_text.specs.Things.{Placed, Thing, thing_of, items_of_board}
use Rattle.board_text.specs.Things as things
use Rattle.board_text.specs.Items.{Context, context_of}
use Rattle.board_language.specs.Zones.{is_read_zone}
use Rattle.board_language.specs.Offences.{stamp_of_placed}
use Rattle.board_text.specs.declared.stamped.Stamped.{Stamped}
use Rattle.board_text.specs.declared.stamped.Stamped.TheVariants as stamped
use Rattle.board_language.specs.Reading.{all_of, track_from, via_from, zone_from}

-- the item has the stamp
abbrev pub has_stamp : List ℕ → List ℕ → Placed → Bool
has_stamp text stamp p = is_text stamp (stamp_of_placed text p)

-- the track, via or zone that has the stamp: the first in the file
unfoldable pub bearer_in : List ℕ → List ℕ → List Placed → Option Placed
bearer_in text stamp items = find (has_stamp text stamp) items

-- the items before it
unfoldable pub before_bearer : List ℕ → List ℕ → List Placed → List Placed
before_bearer text stamp items = take (prefix_len (λ p. not (has_stamp text stamp p)) items) items

-- of a track, via or zone as many tracks, vias or read zones stand before it as its number says
abbrev pub stamped_as : Context → List Placed → Item → Thing → Stamped
stamped_as c before item things.Track = stamped.Track (length (all_of track_from c before))
stamped_as c before item things.Via = stamped.Via (length (all_of via_from c before))
stamped_as c before item things.Zone = cond (is_read_zone c item) (stamped.Zone (length (all_of zone_from c before))) stamped.Other
stamped_as c before item _ = stamped.Other

-- what the item is among those of the board, behind these
unfoldable pub stamped_behind : Context → List Placed → Placed → Stamped
stamped_behind c before p = stamped_as c before p.item (thing_of c.bytes p)

-- what has the stamp in a list of items, where anything has
abbrev pub stamped_in : Context → List ℕ → List Placed → Option Stamped
stamped_in c stamp items = option_map (stamped_behind c (before_bearer c.bytes stamp items)) (bearer_in c.bytes stamp items)

-- what has the stamp in the board of this text, where anything has
unfoldable pub stamp_of : List ℕ → Item → List ℕ → Option Stamped
stamp_of text board stamp = stamped_in (context_of text board) stamp (items_of_board text board)

-- its item
unfoldable pub bearer_of : List ℕ → Item → List ℕ → Option Placed
bearer_of text board stamp = bearer_in text stamp (items_of_board text board)
