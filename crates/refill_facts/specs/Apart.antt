-- Where words stand beside the old fills of a board. An old fill goes with the white space before it, so a word that comes
-- right behind it could run into the word that stands before it.
--
--     (zone (net 1) thermal (filled_polygon ..)island)      would be left as      (zone (net 1) thermalisland)
use Rattle.std.specs.Prelude.{◌≡◌, ℕ, Bool, true, false, not, ◌&&◌, ◌==◌, List}
use Rattle.sexpr_text.specs.Grammar.{Forest}
use Rattle.sexpr_text.specs.Grammar.Forest.{Nil, Word, Text, Group}
use Rattle.sexpr_text.specs.Items.{Item}
use Rattle.sexpr_text.specs.declared.NodeKind.TheVariants as kinds
use Rattle.board_text.specs.Lists.{lists_of}
use Rattle.board_text.specs.Items.{context_of}
use Rattle.board_text.specs.Things.{Zone, on_board}
use Rattle.classes.specs.Classes.{IsOneOf}
use Rattle.board_language.specs.Zones.{is_fill, is_read_zone}

-- the first of the items is a word that begins at the place
abbrev pub is_word_at : ℕ → Forest → Bool
is_word_at at Nil = false
is_word_at at (Word from to rest) = from == at
is_word_at at (Text from to rest) = false
is_word_at at (Group from to inner rest) = false

-- directly behind no old fill among the items comes a word
abbrev pub are_apart : List ℕ → Forest → Bool
are_apart text Nil = true
are_apart text (Word from to rest) = are_apart text rest
are_apart text (Text from to rest) = are_apart text rest
are_apart text (Group from to inner rest) =
    not (is_fill text (record { kind = kinds.List; from = from; to = to; inner = inner }) && is_word_at to rest) && are_apart text rest

-- in no copper zone of the board that is read comes a word directly behind an old fill, without white space between them
abbrev pub AreFillsApart : List ℕ → Item → Type 0
AreFillsApart text root =
    (zone : Item) → IsOneOf zone (lists_of root) → on_board text zone ≡ Zone → is_read_zone (context_of text root) zone ≡ true → are_apart text zone.inner ≡ true
