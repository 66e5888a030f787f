-- What all kinds of items have in common: points, nets, stamps, lines, sizes, the version.
use Rattle.std.specs.Prelude.{ℕ, zero, suc, ◌-◌, Bool, true, false, not, ◌&&◌, ◌||◌, ◌==◌, nat_lt, if◌then◌else◌, List, take, codes, count_by, find, filter_map, slice_index, Option, ℤ, pos, negsuc, option_and_then, option_map}
use Rattle.std.specs.List.{list_any}
use Rattle.grid_num.specs.declared.Point.{Point}
use Rattle.sexpr_text.specs.Grammar.{is_space}
use Rattle.sexpr_text.specs.Items.{Item, children_of, is_headed}
use Rattle.sexpr_text.specs.declared.Span.{Span}
use Rattle.board_text.specs.Lists.{headed}
use Rattle.board_text.specs.Fields.{list_of, text_at}
use Rattle.board_text.specs.Numbers.{whole_number, length_at, value_at}
use Rattle.board_text.specs.Layers.{copper_layers}

-- what holds for the whole board: its bytes, its copper layers in their order, and its nets
pub record Context : Type 0 where
  pub bytes : List ℕ
  pub copper : List (List ℕ)
  pub nets : List ℕ

-- ---- places

-- the line of a place, from 1: one more than the line feeds before it
unfoldable pub line_of : List ℕ → ℕ → ℕ
line_of bytes at = suc (count_by (λ byte. byte == 10) (take at bytes))

-- where an item stands
abbrev pub span_of : Item → Span
span_of item = record { from = item.from; to = item.to }

-- of the first n bytes, how many are left without the white space at their end
unfoldable pub solid_end : List ℕ → ℕ → ℕ
solid_end bytes zero = zero
solid_end bytes (suc n) = if is_space (slice_index bytes n) then solid_end bytes n else suc n

-- the place behind the last byte before a list's closing parenthesis that isn't white space
abbrev pub tail_of : List ℕ → Item → ℕ
tail_of bytes item = solid_end bytes (item.to - 1)

-- ---- lengths and points

-- a length that isn't negative
abbrev pub size_of : ℤ → ℕ
size_of (pos n) = n
size_of (negsuc n) = 0

-- less than 0
abbrev pub is_below_zero : ℤ → Bool
is_below_zero (pos n) = false
is_below_zero (negsuc n) = true

-- more than 100 mm, or below 0
abbrev pub is_no_length : ℤ → Bool
is_no_length z = is_below_zero z || nat_lt 100000000 (size_of z)

-- no width or size: less than 1 nm, or more than 100 mm
abbrev pub is_no_size : ℤ → Bool
is_no_size z = is_no_length z || (size_of z == 0)

-- whether a list that may be absent has a length that is negative or above 100 mm
abbrev pub is_bad_length : List ℕ → Option Item → Bool
is_bad_length bytes list = is_no_length (length_at bytes 0 list)

-- the first list with this head, read as a length, as a size and as a point
abbrev pub length_in : List ℕ → List ℕ → Item → ℤ
length_in bytes name item = length_at bytes 0 (list_of bytes name item)

-- the two lengths of a list as a point
abbrev pub point_at : List ℕ → Option Item → Point
point_at bytes list = record { x = length_at bytes 0 list; y = length_at bytes 1 list }

-- the point in the first list with this head
abbrev pub point_in : List ℕ → List ℕ → Item → Point
point_in bytes name item = point_at bytes (list_of bytes name item)

-- the width or size in the list with this head is out of its range
abbrev pub has_bad_size : List ℕ → List ℕ → Item → Bool
has_bad_size bytes name item = is_no_size (length_in bytes name item)

-- the length in one of the lists with these heads is negative, or above 100 mm
abbrev pub has_bad_length : List ℕ → List (List ℕ) → Item → Bool
has_bad_length bytes names item = list_any (λ name. is_bad_length bytes (list_of bytes name item)) names

-- ---- nets

-- the whole number in the first list with this head; 0 where there is no such list
abbrev pub whole_in : List ℕ → List ℕ → Item → ℕ
whole_in bytes name item = value_at whole_number bytes 0 0 (list_of bytes name item)

-- the number of an item's net
abbrev pub net_of : List ℕ → Item → ℕ
net_of bytes item = whole_in bytes (codes "net") item

-- the number that a `net` of the board declares
abbrev pub declared_net : List ℕ → Item → Option ℕ
declared_net bytes net = option_map whole_number (text_at bytes 0 net)

-- the numbers of all nets that a board declares
unfoldable pub declared_nets : List ℕ → Item → List ℕ
declared_nets bytes board = filter_map (declared_net bytes) (headed bytes (codes "net") board)

-- the number is one of these
abbrev pub has_number : List ℕ → ℕ → Bool
has_number numbers n = list_any (λ m. m == n) numbers

-- net 0 needs no declaration
abbrev pub is_unknown_net : Context → ℕ → Bool
is_unknown_net c n = not (n == 0) && not (has_number c.nets n)

-- what holds for the board of this text
unfoldable pub context_of : List ℕ → Item → Context
context_of bytes board = record { bytes = bytes; copper = copper_layers bytes board; nets = declared_nets bytes board }

-- ---- stamps

-- a list that holds a stamp: its head is `tstamp`, or `uuid` in the texts of newer editors
abbrev pub is_stamp_list : List ℕ → Item → Bool
is_stamp_list bytes item = is_headed bytes (codes "tstamp") item || is_headed bytes (codes "uuid") item

-- of several such lists in an item the first counts, whichever head it has
abbrev pub stamp_list : List ℕ → Item → Option Item
stamp_list bytes item = find (is_stamp_list bytes) (children_of item)

-- the stamp of a track, via or zone: the first item behind that head, where it is a word or a string
abbrev pub stamp_in : List ℕ → Item → Option (List ℕ)
stamp_in bytes item = option_and_then (text_at bytes 0) (stamp_list bytes item)

-- ---- the version

-- the board's version: the whole number behind the head of its first `version`; 0 where there is none
abbrev pub version_of : List ℕ → Item → ℕ
version_of bytes board = whole_in bytes (codes "version") board
