-- Where the parts of a spelling stand in its text, if the text is one.
use Rattle.std.specs.Prelude.{ℕ, Bool, ◌||◌, ◌==◌, if◌then◌else◌, List, take, drop, slice_index}
use Rattle.std.specs.List.{prefix_len}
use Rattle.std.specs.Char.{is_ascii_digit}

-- the first byte is this one
abbrev pub begins_with : List ℕ → ℕ → Bool
begins_with text byte = slice_index text 0 == byte

-- the text behind its sign
abbrev pub unsigned_of : List ℕ → List ℕ
unsigned_of text = drop (if begins_with text 45 || begins_with text 43 then 1 else 0) text

-- how many digits a text begins with
abbrev pub digit_count : List ℕ → ℕ
digit_count text = prefix_len is_ascii_digit text

-- the digits before the point
abbrev pub whole_of : List ℕ → List ℕ
whole_of text = take (digit_count (unsigned_of text)) (unsigned_of text)

-- what stands behind the point, where one is next
abbrev pub after_point : List ℕ → List ℕ
after_point rest = drop (if begins_with rest 46 then 1 else 0) rest

-- the digits behind the point
abbrev pub fraction_of : List ℕ → List ℕ
fraction_of text = after_point (drop (digit_count (unsigned_of text)) (unsigned_of text))
