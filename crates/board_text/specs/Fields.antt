-- What stands in an item of a board: its lists by their heads, and the words and strings behind its head by their
-- places, which count from 0. Of two lists with the same head the first counts.
use Rattle.std.specs.Prelude.{ℕ, Bool, false, not, cond, is_some, List, [], find, filter_map, nat_eq, slice_get, slice_range, Option, None, Some, option_and_then}
use Rattle.std.specs.List.{list_any, starts_with}
use Rattle.std.specs.Str.{bytes_eq}
use Rattle.sexpr_text.specs.Items.{Item, children_of, content_of, head_of, is_headed}
use Rattle.sexpr_text.specs.declared.Span.{Span}
use Rattle.board_text.specs.Lists.{is_list, behind_head}

-- the first child list with this head
abbrev pub list_of : List ℕ → List ℕ → Item → Option Item
list_of bytes name item = find (is_headed bytes name) (children_of item)

-- there is a list with this head
abbrev pub has_list : List ℕ → List ℕ → Item → Bool
has_list bytes name item = is_some (list_of bytes name item)

-- the first list with the second head inside the first list with the first head, as the `clearance` in a `connect_pads`
abbrev pub list_in : List ℕ → List ℕ → List ℕ → Item → Option Item
list_in bytes outer name item = option_and_then (list_of bytes name) (list_of bytes outer item)

-- a word or a string counts by its content; a list has none
abbrev pub text_of : List ℕ → Item → Option (List ℕ)
text_of bytes item = cond (is_list item) None (Some (content_of bytes item))

-- the content at this place behind the head
abbrev pub text_at : List ℕ → ℕ → Item → Option (List ℕ)
text_at bytes place item = option_and_then (text_of bytes) (slice_get (behind_head item) place)

-- the contents of all words and strings behind the head
abbrev pub texts_of : List ℕ → Item → List (List ℕ)
texts_of bytes item = filter_map (text_of bytes) (behind_head item)

-- a content that may be absent is this text
abbrev pub is_text : List ℕ → Option (List ℕ) → Bool
is_text text None = false
is_text text (Some other) = bytes_eq other text

-- whether this text stands at this place
abbrev pub says_at : List ℕ → ℕ → List ℕ → Item → Bool
says_at bytes place text item = is_text text (text_at bytes place item)

-- whether it stands anywhere behind the head
abbrev pub says : List ℕ → List ℕ → Item → Bool
says bytes text item = list_any (λ other. bytes_eq other text) (texts_of bytes item)

-- the bytes of a place; none where there is no place
abbrev pub text_from : List ℕ → Option Span → List ℕ
text_from bytes None = []
text_from bytes (Some head) = slice_range bytes head.from head.to

-- the head of a list; the empty text where it has none
abbrev pub head_text : List ℕ → Item → List ℕ
head_text bytes item = text_from bytes (head_of item)

-- whether the head begins with this, as `gr_` begins the heads of drawings
abbrev pub head_begins : List ℕ → List ℕ → Item → Bool
head_begins bytes front item = starts_with nat_eq (head_text bytes item) front

-- whether a list that may be absent is there and passes
abbrev pub passes : (Item → Bool) → Option Item → Bool
passes test None = false
passes test (Some item) = test item

-- one of the lists with these heads isn't there
abbrev pub lacks : List ℕ → List (List ℕ) → Item → Bool
lacks bytes names item = list_any (λ name. not (has_list bytes name item)) names
