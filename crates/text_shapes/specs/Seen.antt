-- What is item_seen of an item of a text: its kind and its contents, and not its place.
use Rattle.std.specs.Prelude.{ℕ, Bool, false, List, [], ◌∷◌, Option, option_map}
use Rattle.std.specs.Str.{bytes_eq}
use Rattle.sexpr_text.specs.Items.{Item, content_of}
use Rattle.sexpr_text.specs.declared.NodeKind.{NodeKind}
use Rattle.sexpr_text.specs.declared.NodeKind.TheVariants as kinds
use Rattle.text_shapes.specs.Shapes.{Shape, forest_shape}
use Rattle.text_shapes.specs.Shapes.Shape.{Over, Bare, Quoted, Inside}

-- an item without its place
pub record ItemSeen : Type 0 where
  pub kind : NodeKind
  pub text : List ℕ
  pub inner : Shape

-- what is item_seen of an item of the text
abbrev pub item_seen : List ℕ → Item → ItemSeen
item_seen bytes item = record { kind = item.kind; text = content_of bytes item; inner = forest_shape bytes item.inner }

-- the items of a shape, in order
abbrev pub parts : Shape → List ItemSeen
parts Over = []
parts (Bare t rest) = record { kind = kinds.Word; text = t; inner = Over } ∷ parts rest
parts (Quoted t rest) = record { kind = kinds.Text; text = t; inner = Over } ∷ parts rest
parts (Inside inner rest) = record { kind = kinds.List; text = []; inner = inner } ∷ parts rest

-- an item that may be absent
abbrev pub sight : List ℕ → Option Item → Option ItemSeen
sight bytes o = option_map (item_seen bytes) o

-- the first word of a shape is this name
abbrev pub is_named : List ℕ → Shape → Bool
is_named name Over = false
is_named name (Bare t rest) = bytes_eq t name
is_named name (Quoted t rest) = false
is_named name (Inside inner rest) = false

-- the first word of a shape; the empty text where it has none
abbrev pub head_in : Shape → List ℕ
head_in Over = []
head_in (Bare t rest) = t
head_in (Quoted t rest) = []
head_in (Inside inner rest) = []
