-- The items of a text, one by one: what stands where, a list's children and head, a leaf's content.
use Rattle.std.specs.Prelude.{ℕ, ◌+◌, ◌-◌, Bool, true, false, ◌==◌, List, [], ◌∷◌, Option, Some, None, if◌then◌else◌, slice_range}
use Rattle.std.specs.Str.{bytes_eq}
use Rattle.sexpr_text.specs.Grammar.{Forest}
use Rattle.sexpr_text.specs.Grammar.Forest.{Nil, Word, Text, Group}
use Rattle.sexpr_text.specs.declared.NodeKind.{NodeKind}
use Rattle.sexpr_text.specs.declared.NodeKind.TheVariants as kinds
use Rattle.sexpr_text.specs.declared.Span.{Span}

-- One item: the place of its first byte, the place behind its last one, and the items inside it. A leaf has none inside.
pub record Item : Type 0 where
  pub kind : NodeKind
  pub from : ℕ
  pub to : ℕ
  pub inner : Forest

-- the items of a forest, in order
abbrev pub items_of : Forest → List Item
items_of Nil = []
items_of (Word from to rest) = record { kind = kinds.Word; from = from; to = to; inner = Nil } ∷ items_of rest
items_of (Text from to rest) = record { kind = kinds.Text; from = from; to = to; inner = Nil } ∷ items_of rest
items_of (Group from to inner rest) = record { kind = kinds.List; from = from; to = to; inner = inner } ∷ items_of rest

-- the items directly inside a list, in order
abbrev pub children_of : Item → List Item
children_of item = items_of item.inner

-- one item alone
abbrev pub alone : NodeKind → ℕ → ℕ → Forest → Forest
alone kinds.List from to inner = Group from to inner Nil
alone kinds.Word from to inner = Word from to Nil
alone kinds.Text from to inner = Text from to Nil

-- a forest of one item
abbrev pub forest_of : Item → Forest
forest_of item = alone item.kind item.from item.to item.inner

-- a word or a string
abbrev pub IsLeafKind : NodeKind → Type 0
IsLeafKind kinds.List = ⊥
IsLeafKind kinds.Word = Unit {0}
IsLeafKind kinds.Text = Unit {0}

-- the item is a word or a string
abbrev pub IsLeaf : Item → Type 0
IsLeaf item = IsLeafKind item.kind

-- what a backslash and this byte stand for
abbrev pub meaning : ℕ → ℕ
meaning c = if c == 110 then 10 else (if c == 114 then 13 else (if c == 116 then 9 else c))

-- The bytes between a string's quotes without their escapes. The flag says whether a backslash stands before them.
abbrev pub unescaped : Bool → List ℕ → List ℕ
unescaped escaped [] = []
unescaped true (c ∷ cs) = meaning c ∷ unescaped false cs
unescaped false (c ∷ cs) = if c == 92 then unescaped true cs else c ∷ unescaped false cs

-- the content of what stands between two places
abbrev pub content_at : NodeKind → List ℕ → ℕ → ℕ → List ℕ
content_at kinds.List bytes from to = []
content_at kinds.Word bytes from to = slice_range bytes from to
content_at kinds.Text bytes from to = unescaped false (slice_range bytes (from + 1) (to - 1))

-- a leaf's bytes without quotes and escapes
abbrev pub content_of : List ℕ → Item → List ℕ
content_of bytes item = content_at item.kind bytes item.from item.to

-- where the first item lies, if that is a word
abbrev pub first_word : Forest → Option Span
first_word Nil = None
first_word (Word from to rest) = Some (record { from = from; to = to })
first_word (Text from to rest) = None
first_word (Group from to inner rest) = None

-- the place of a list's first child, where that is a word
abbrev pub head_of : Item → Option Span
head_of item = first_word item.inner

-- whether the bytes at a place, if there is one, are this name
abbrev pub is_name : List ℕ → List ℕ → Option Span → Bool
is_name bytes name None = false
is_name bytes name (Some head) = bytes_eq (slice_range bytes head.from head.to) name

-- whether an item is a list whose head is this name
abbrev pub is_headed : List ℕ → List ℕ → Item → Bool
is_headed bytes name item = is_name bytes name (head_of item)
