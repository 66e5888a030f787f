-- How large a board may be: how much of its most an item takes.
use Rattle.std.specs.Prelude.{ℕ, ◌+◌, Bool, ◌&&◌, ◌||◌, nat_le, nat_lt, cond, List, length, sum_by}
use Rattle.sexpr_text.specs.Items.{Item}
use Rattle.board_text.specs.Things.{Placed, Thing, Net, Track, Via, RuleArea, Zone, Drawing, Pad, thing_of}
use Rattle.board_text.specs.Items.{Context}
use Rattle.board_language.specs.Pads.{is_read_pad}
use Rattle.board_language.specs.Zones.{is_read_zone, is_read_area}
use Rattle.board_language.specs.Edges.{edges_read}

-- nets, tracks, vias, read pads, pieces of the edge and read copper zones are counted together
abbrev pub things_as : Context → Item → Thing → ℕ
things_as c item Net = 1
things_as c item Track = 1
things_as c item Via = 1
things_as c item (Pad footprint) = cond (is_read_pad c item) 1 0
things_as c item Zone = cond (is_read_zone c item) 1 0
things_as c item Drawing = length (edges_read c.bytes item)
things_as c item _ = 0

-- how many things an item is
unfoldable pub things_of : Context → Placed → ℕ
things_of c p = things_as c p.item (thing_of c.bytes p)

-- read copper zones and read rule areas are counted together
abbrev pub outlines_as : Context → Item → Thing → ℕ
outlines_as c item Zone = cond (is_read_zone c item) 1 0
outlines_as c item RuleArea = cond (is_read_area c item) 1 0
outlines_as c item _ = 0

-- how many outlines an item has
unfoldable pub outlines_of : Context → Placed → ℕ
outlines_of c p = outlines_as c p.item (thing_of c.bytes p)

-- with the item, after those before it, the most is passed for the first time
abbrev pub is_first_over : ℕ → ℕ → ℕ → Bool
is_first_over most before own = nat_le before most && nat_lt most (before + own)

-- it is the first with which there are too many things, or too many outlines
unfoldable pub is_one_too_many : Context → List Placed → Placed → Bool
is_one_too_many c before p =
    is_first_over 200000 (sum_by (things_of c) before) (things_of c p) || is_first_over 2000 (sum_by (outlines_of c) before) (outlines_of c p)
