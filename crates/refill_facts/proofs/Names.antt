-- The names of layers of a text are UTF-8.
use Rattle.std.proofs.Common.{ℕ, zero, suc, Bool, true, false, cond, List, [], ◌∷◌, drop, get_or, Option, None, Some}
use Rattle.std.specs.Prelude.{filter, filter_map, find, slice_get, option_and_then, codes}
use Rattle.std.specs.List.{cons_option}
use Rattle.std.specs.Str.{IsUtf8}
use Rattle.std.proofs.lemmas.Str.{IsUtf8-nil}
use Rattle.sexpr_text.specs.Grammar.{Forest}
use Rattle.sexpr_text.specs.Grammar.Forest.{Nil, Word, Text, Group}
use Rattle.sexpr_text.specs.Items.{Item, items_of, content_of}
use Rattle.board_text.specs.Lists.{is_list}
use Rattle.board_text.specs.Fields.{list_of, text_of, text_at}
use Rattle.board_text.specs.Layers.{is_layer, is_copper, name_of_layer, names_in, declared_layers, copper_layers}
use Rattle.text_shapes.specs.Shapes.{forest_shape}
use Rattle.text_shapes.proofs.Utf8.{AllUtf8}

-- each of the list
abbrev pub Every : {X : Type 0} → (X → Type 0) → List X → Type 0
Every P [] = Unit {0}
Every P (x ∷ xs) = P x × Every P xs

-- what is there
abbrev There : {X : Type 0} → (X → Type 0) → Option X → Type 0
There P None = Unit {0}
There P (Some x) = P x

every_filter : {X : Type 0} (P : X → Type 0) (p : X → Bool) (xs : List X) → Every P xs → Every P (filter p xs)
every_filter P p [] h = tt
every_filter P p (x ∷ xs) h = pick (p x) (every_filter P p xs h.1)
  where
    pick : (b : Bool) → Every P (filter p xs) → Every P (cond b (x ∷ filter p xs) (filter p xs))
    pick true k = (h.0, k)
    pick false k = k

there_found : {X : Type 0} (P : X → Type 0) (p : X → Bool) (xs : List X) → Every P xs → There P (find p xs)
there_found P p [] h = tt
there_found P p (x ∷ xs) h = pick (p x) (there_found P p xs h.1)
  where
    pick : (b : Bool) → There P (find p xs) → There P (cond b (Some x) (find p xs))
    pick true k = h.0
    pick false k = k

every_given : {X Y : Type 0} (P : X → Type 0) (Q : Y → Type 0) (f : X → Option Y) → ((x : X) → P x → There Q (f x)) → (xs : List X) → Every P xs → Every Q (filter_map f xs)
every_given P Q f g [] h = tt
every_given P Q f g (x ∷ xs) h = pick (f x) (g x h.0) (every_given P Q f g xs h.1)
  where
    pick : (o : Option _) → There Q o → Every Q (filter_map f xs) → Every Q (cons_option o (filter_map f xs))
    pick None t k = k
    pick (Some y) t k = (t, k)

every_behind : {X : Type 0} (P : X → Type 0) (xs : List X) → Every P xs → Every P (drop 1 xs)
every_behind P [] h = tt
every_behind P (x ∷ xs) h = h.1

first_there : {X : Type 0} (P : X → Type 0) (xs : List X) → Every P xs → There P (slice_get xs 0)
first_there P [] h = tt
first_there P (x ∷ xs) h = h.0

pub every_at : {X : Type 0} (P : X → Type 0) (d : X) → P d → (xs : List X) → Every P xs → (n : ℕ) → P (get_or xs n d)
every_at P d k [] h n = k
every_at P d k (x ∷ xs) h zero = h.0
every_at P d k (x ∷ xs) h (suc n) = every_at P d k xs h.1 n

-- the item's content is UTF-8, and so are those inside it
abbrev IsItemUtf8 : List ℕ → Item → Type 0
IsItemUtf8 text item = IsUtf8 (content_of text item) × AllUtf8 (forest_shape text item.inner)

items_utf8 : (text : List ℕ) (f : Forest) → AllUtf8 (forest_shape text f) → Every (IsItemUtf8 text) (items_of f)
items_utf8 text Nil h = tt
items_utf8 text (Word from to rest) h = ((h.0, tt), items_utf8 text rest h.1)
items_utf8 text (Text from to rest) h = ((h.0, tt), items_utf8 text rest h.1)
items_utf8 text (Group from to inner rest) h = ((IsUtf8-nil, h.0), items_utf8 text rest h.1)

text_there : (text : List ℕ) (o : Option Item) → There (IsItemUtf8 text) o → There IsUtf8 (option_and_then (text_of text) o)
text_there text None h = tt
text_there text (Some item) h = pick (is_list item)
  where
    pick : (b : Bool) → There IsUtf8 (cond b None (Some (content_of text item)))
    pick true = tt
    pick false = h.0

name_there : (text : List ℕ) (layer : Item) → IsItemUtf8 text layer → There IsUtf8 (name_of_layer text layer)
name_there text layer h = pick (is_list layer)
  where
    pick : (b : Bool) → There IsUtf8 (cond b (text_at text 0 layer) None)
    pick true = text_there text (slice_get (drop 1 (items_of layer.inner)) 0) (first_there (IsItemUtf8 text) (drop 1 (items_of layer.inner)) (every_behind (IsItemUtf8 text) (items_of layer.inner) (items_utf8 text layer.inner h.1)))
    pick false = tt

names_there : (text : List ℕ) (o : Option Item) → There (IsItemUtf8 text) o → Every IsUtf8 (names_in text o)
names_there text None h = tt
names_there text (Some layers) h =
    every_given (IsItemUtf8 text) IsUtf8 (name_of_layer text) (name_there text) (filter is_layer (drop 1 (items_of layers.inner)))
    (every_filter (IsItemUtf8 text) is_layer (drop 1 (items_of layers.inner)) (every_behind (IsItemUtf8 text) (items_of layers.inner) (items_utf8 text layers.inner h.1)))

pub layers_utf8 : (text : List ℕ) (root : Item) → AllUtf8 (forest_shape text root.inner) → Every IsUtf8 (copper_layers text root)
unfolding copper_layers
layers_utf8 text root h =
    every_filter IsUtf8 is_copper (declared_layers text root) (names_there text (list_of text (codes "layers") root)
    (there_found (IsItemUtf8 text) (Rattle.sexpr_text.specs.Items.is_headed text (codes "layers")) (items_of root.inner) (items_utf8 text root.inner h)))
