-- The contents of a text without its places: words, strings and lists, one inside another.
--
--     ( a   "b c"   ( d ) )      a list of the word a, the string of b, a space and c, and a list of the word d
use Rattle.std.specs.Prelude.{ℕ, ◌+◌, ◌-◌, false, List, slice_range}
use Rattle.sexpr_text.specs.Grammar.{Forest}
use Rattle.sexpr_text.specs.Grammar.Forest.{Nil, Word, Text, Group}
use Rattle.sexpr_text.specs.Items.{unescaped}

-- The contents of items, without their places.
pub data Shape : Type 0 where
  Over : Shape
  Bare : (content : List ℕ) (rest : Shape) → Shape
  Quoted : (content : List ℕ) (rest : Shape) → Shape
  Inside : (inner rest : Shape) → Shape

-- the contents of the items of a text
abbrev pub forest_shape : List ℕ → Forest → Shape
forest_shape bytes Nil = Over
forest_shape bytes (Word from to rest) = Bare (slice_range bytes from to) (forest_shape bytes rest)
forest_shape bytes (Text from to rest) = Quoted (unescaped false (slice_range bytes (from + 1) (to - 1))) (forest_shape bytes rest)
forest_shape bytes (Group from to inner rest) = Inside (forest_shape bytes inner) (forest_shape bytes rest)
