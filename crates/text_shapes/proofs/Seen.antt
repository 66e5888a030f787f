-- What is read of the items of a text, told by their contents alone.
use Rattle.std.proofs.Common.{◌≡◌, ◌∙◌, refl, ap, ℕ, zero, suc, Bool, true, false, not, cond, ◌||◌, List, [], ◌∷◌, map, length, drop, find, filter, filter_map, slice_get, nat_lt, nat_eq, Option, None, Some, is_some, option_map, option_and_then}
use Rattle.std.specs.List.{list_any, cons_option, starts_with}
use Rattle.grid_num.specs.declared.read.NumFault.{NumFault}
use Rattle.sexpr_text.specs.Grammar.{Forest}
use Rattle.sexpr_text.specs.Grammar.Forest.{Nil, Word, Text, Group}
use Rattle.sexpr_text.specs.Items.{Item, items_of, children_of, first_word, is_name, is_headed}
use Rattle.sexpr_text.specs.declared.NodeKind.TheVariants as kinds
use Rattle.board_text.specs.Lists.{is_list_kind, is_list, lists_of, headed, behind_head}
use Rattle.board_text.specs.Fields.{list_of, has_list, list_in, text_of, text_at, texts_of, text_from, head_begins, passes, lacks}
use Rattle.board_text.specs.Numbers.{text_fault, if_there, fault_at, is_short, has_short, read_or, value_at}
use Rattle.board_text.specs.Layers.{names_of}
use Rattle.text_shapes.specs.Shapes.{forest_shape}
use Rattle.text_shapes.specs.Seen.{ItemSeen, item_seen, parts, sight, is_named, head_in}

pub same_or : (a b c d : Bool) → a ≡ c → b ≡ d → (a || b) ≡ (c || d)
same_or a b c d e f = rw (e, f) refl

-- ---- lists, and what is item_seen of their elements

find_step : {X Y : Type 0} (f : X → Y) (x : X) (xs : List X) (ys : Option Y) (p : X → Bool) (a b : Bool) → a ≡ b → option_map f (find p xs) ≡ ys
    → option_map f (cond a (Some x) (find p xs)) ≡ cond b (Some (f x)) ys
find_step f x xs ys p true b e ih = ap (λ z. cond z (Some (f x)) ys) e
find_step f x xs ys p false b e ih = ih ∙ ap (λ z. cond z (Some (f x)) ys) e

pub find_map : {X Y : Type 0} (f : X → Y) (p : X → Bool) (q : Y → Bool) → ((x : X) → p x ≡ q (f x)) → (xs : List X) → option_map f (find p xs) ≡ find q (map f xs)
find_map f p q h [] = refl
find_map f p q h (x ∷ xs) = find_step f x xs (find q (map f xs)) p (p x) (q (f x)) (h x) (find_map f p q h xs)

filter_step : {X Y : Type 0} (f : X → Y) (x : X) (xs : List X) (ys : List Y) (a b : Bool) → a ≡ b → map f xs ≡ ys → map f (cond a (x ∷ xs) xs) ≡ cond b (f x ∷ ys) ys
filter_step f x xs ys true b e ih = ap (λ z. f x ∷ z) ih ∙ ap (λ z. cond z (f x ∷ ys) ys) e
filter_step f x xs ys false b e ih = ih ∙ ap (λ z. cond z (f x ∷ ys) ys) e

pub filter_map_is : {X Y : Type 0} (f : X → Y) (p : X → Bool) (q : Y → Bool) → ((x : X) → p x ≡ q (f x)) → (xs : List X) → map f (filter p xs) ≡ filter q (map f xs)
filter_map_is f p q h [] = refl
filter_map_is f p q h (x ∷ xs) = filter_step f x (filter p xs) (filter q (map f xs)) (p x) (q (f x)) (h x) (filter_map_is f p q h xs)

pub given_map : {X Y Z : Type 0} (f : X → Y) (p : X → Option Z) (q : Y → Option Z) → ((x : X) → p x ≡ q (f x)) → (xs : List X) → filter_map p xs ≡ filter_map q (map f xs)
given_map f p q h [] = refl
given_map f p q h (x ∷ xs) = ap (λ o. cons_option o (filter_map p xs)) (h x) ∙ ap (cons_option (q (f x))) (given_map f p q h xs)

pub any_map : {X Y : Type 0} (f : X → Y) (p : X → Bool) (q : Y → Bool) → ((x : X) → p x ≡ q (f x)) → (xs : List X) → list_any p xs ≡ list_any q (map f xs)
any_map f p q h [] = refl
any_map f p q h (x ∷ xs) = ap (λ b. b || list_any p xs) (h x) ∙ ap (λ b. q (f x) || b) (any_map f p q h xs)

pub map_map : {X Y Z : Type 0} (f : X → Y) (p : X → Z) (q : Y → Z) → ((x : X) → p x ≡ q (f x)) → (xs : List X) → map p xs ≡ map q (map f xs)
map_map f p q h [] = refl
map_map f p q h (x ∷ xs) = ap (λ z. z ∷ map p xs) (h x) ∙ ap (λ z. q (f x) ∷ z) (map_map f p q h xs)

pub get_map : {X Y : Type 0} (f : X → Y) (xs : List X) (k : ℕ) → option_map f (slice_get xs k) ≡ slice_get (map f xs) k
get_map f [] k = refl
get_map f (x ∷ xs) zero = refl
get_map f (x ∷ xs) (suc k) = get_map f xs k

pub length-map_is : {X Y : Type 0} (f : X → Y) (xs : List X) → length xs ≡ length (map f xs)
length-map_is f [] = refl
length-map_is f (x ∷ xs) = ap suc (length-map_is f xs)

behind_map : {X Y : Type 0} (f : X → Y) (xs : List X) → map f (drop 1 xs) ≡ drop 1 (map f xs)
behind_map f [] = refl
behind_map f (x ∷ xs) = refl

-- ---- the items inside an item

pub parts_seen : (bytes : List ℕ) (f : Forest) → map (item_seen bytes) (items_of f) ≡ parts (forest_shape bytes f)
parts_seen bytes Nil = refl
parts_seen bytes (Word from to rest) = ap (λ z. item_seen bytes (record { kind = kinds.Word; from = from; to = to; inner = Nil }) ∷ z) (parts_seen bytes rest)
parts_seen bytes (Text from to rest) = ap (λ z. item_seen bytes (record { kind = kinds.Text; from = from; to = to; inner = Nil }) ∷ z) (parts_seen bytes rest)
parts_seen bytes (Group from to inner rest) = ap (λ z. item_seen bytes (record { kind = kinds.List; from = from; to = to; inner = inner }) ∷ z) (parts_seen bytes rest)

abbrev pub heads : List ℕ → ItemSeen → Bool
heads name s = is_named name s.inner

named_seen : (bytes name : List ℕ) (f : Forest) → is_name bytes name (first_word f) ≡ is_named name (forest_shape bytes f)
named_seen bytes name Nil = refl
named_seen bytes name (Word from to rest) = refl
named_seen bytes name (Text from to rest) = refl
named_seen bytes name (Group from to inner rest) = refl

pub heads_seen : (bytes name : List ℕ) (item : Item) → is_headed bytes name item ≡ heads name (item_seen bytes item)
heads_seen bytes name item = named_seen bytes name item.inner

head_in_seen : (bytes : List ℕ) (f : Forest) → text_from bytes (first_word f) ≡ head_in (forest_shape bytes f)
head_in_seen bytes Nil = refl
head_in_seen bytes (Word from to rest) = refl
head_in_seen bytes (Text from to rest) = refl
head_in_seen bytes (Group from to inner rest) = refl

abbrev pub begins : List ℕ → ItemSeen → Bool
begins front s = starts_with nat_eq (head_in s.inner) front

pub begins_seen : (bytes front : List ℕ) (item : Item) → head_begins bytes front item ≡ begins front (item_seen bytes item)
begins_seen bytes front item = ap (λ t. starts_with nat_eq t front) (head_in_seen bytes item.inner)

-- ---- lists by their heads

abbrev pub sub : List ℕ → ItemSeen → Option ItemSeen
sub name s = find (heads name) (parts s.inner)

pub sub_seen : (bytes name : List ℕ) (item : Item) → sight bytes (list_of bytes name item) ≡ sub name (item_seen bytes item)
sub_seen bytes name item = find_map (item_seen bytes) (is_headed bytes name) (heads name) (heads_seen bytes name) (children_of item) ∙ ap (find (heads name)) (parts_seen bytes item.inner)

some_seen : {X Y : Type 0} (f : X → Y) (o : Option X) → is_some o ≡ is_some (option_map f o)
some_seen f None = refl
some_seen f (Some x) = refl

abbrev pub has : List ℕ → ItemSeen → Bool
has name s = is_some (sub name s)

pub has_seen : (bytes name : List ℕ) (item : Item) → has_list bytes name item ≡ has name (item_seen bytes item)
has_seen bytes name item = some_seen (item_seen bytes) (list_of bytes name item) ∙ ap is_some (sub_seen bytes name item)

abbrev pub sub_in : List ℕ → List ℕ → ItemSeen → Option ItemSeen
sub_in outer name s = option_and_then (sub name) (sub outer s)

then_seen : (bytes name : List ℕ) (o : Option Item) → sight bytes (option_and_then (list_of bytes name) o) ≡ option_and_then (sub name) (sight bytes o)
then_seen bytes name None = refl
then_seen bytes name (Some item) = sub_seen bytes name item

pub in_seen : (bytes outer name : List ℕ) (item : Item) → sight bytes (list_in bytes outer name item) ≡ sub_in outer name (item_seen bytes item)
in_seen bytes outer name item = then_seen bytes name (list_of bytes outer item) ∙ ap (option_and_then (sub name)) (sub_seen bytes outer item)

abbrev pub is_group : ItemSeen → Bool
is_group s = is_list_kind s.kind

abbrev pub groups : ItemSeen → List ItemSeen
groups s = filter is_group (parts s.inner)

pub groups_seen : (bytes : List ℕ) (item : Item) → map (item_seen bytes) (lists_of item) ≡ groups (item_seen bytes item)
groups_seen bytes item = filter_map_is (item_seen bytes) is_list is_group (λ x. refl) (children_of item) ∙ ap (filter is_group) (parts_seen bytes item.inner)

abbrev pub subs : List ℕ → ItemSeen → List ItemSeen
subs name s = filter (heads name) (parts s.inner)

pub subs_seen : (bytes name : List ℕ) (item : Item) → map (item_seen bytes) (headed bytes name item) ≡ subs name (item_seen bytes item)
subs_seen bytes name item = filter_map_is (item_seen bytes) (is_headed bytes name) (heads name) (heads_seen bytes name) (children_of item) ∙ ap (filter (heads name)) (parts_seen bytes item.inner)

-- ---- words and strings

abbrev pub behind : ItemSeen → List ItemSeen
behind s = drop 1 (parts s.inner)

pub behind_seen : (bytes : List ℕ) (item : Item) → map (item_seen bytes) (behind_head item) ≡ behind (item_seen bytes item)
behind_seen bytes item = behind_map (item_seen bytes) (children_of item) ∙ ap (drop 1) (parts_seen bytes item.inner)

abbrev pub text_in : ItemSeen → Option (List ℕ)
text_in s = cond (is_group s) None (Some s.text)

pub then_map : {X Y Z : Type 0} (f : X → Y) (p : X → Option Z) (q : Y → Option Z) → ((x : X) → p x ≡ q (f x)) → (o : Option X) → option_and_then p o ≡ option_and_then q (option_map f o)
then_map f p q h None = refl
then_map f p q h (Some x) = h x

abbrev pub said_at : ℕ → ItemSeen → Option (List ℕ)
said_at place s = option_and_then text_in (slice_get (behind s) place)

pub said_seen : (bytes : List ℕ) (place : ℕ) (item : Item) → text_at bytes place item ≡ said_at place (item_seen bytes item)
said_seen bytes place item =
    then_map (item_seen bytes) (text_of bytes) text_in (λ x. refl) (slice_get (behind_head item) place)
    ∙ ap (option_and_then text_in) (get_map (item_seen bytes) (behind_head item) place ∙ ap (λ xs. slice_get xs place) (behind_seen bytes item))

abbrev pub texts : ItemSeen → List (List ℕ)
texts s = filter_map text_in (behind s)

pub texts_seen : (bytes : List ℕ) (item : Item) → texts_of bytes item ≡ texts (item_seen bytes item)
texts_seen bytes item = given_map (item_seen bytes) (text_of bytes) text_in (λ x. refl) (behind_head item) ∙ ap (filter_map text_in) (behind_seen bytes item)

-- ---- what may be absent

abbrev pub fault_there : (List ℕ → Option NumFault) → Option ItemSeen → Option NumFault
fault_there read None = None
fault_there read (Some s) = text_fault read (text_in s)

pub fault_there_seen : (read : List ℕ → Option NumFault) (bytes : List ℕ) (o : Option Item) → if_there read bytes o ≡ fault_there read (sight bytes o)
fault_there_seen read bytes None = refl
fault_there_seen read bytes (Some item) = refl

abbrev pub fault_in : (List ℕ → Option NumFault) → ℕ → Option ItemSeen → Option NumFault
fault_in read place None = None
fault_in read place (Some s) = fault_there read (slice_get (behind s) place)

pub fault_seen : (read : List ℕ → Option NumFault) (bytes : List ℕ) (place : ℕ) (o : Option Item) → fault_at read bytes place o ≡ fault_in read place (sight bytes o)
fault_seen read bytes place None = refl
fault_seen read bytes place (Some item) =
    fault_there_seen read bytes (slice_get (behind_head item) place)
    ∙ ap (fault_there read) (get_map (item_seen bytes) (behind_head item) place ∙ ap (λ xs. slice_get xs place) (behind_seen bytes item))

abbrev pub short : ℕ → Option ItemSeen → Bool
short n None = false
short n (Some s) = nat_lt (length (behind s)) n

pub short_seen : (bytes : List ℕ) (n : ℕ) (o : Option Item) → is_short n o ≡ short n (sight bytes o)
short_seen bytes n None = refl
short_seen bytes n (Some item) = ap (λ k. nat_lt k n) (length-map_is (item_seen bytes) (behind_head item) ∙ ap length (behind_seen bytes item))

abbrev pub value_in : {X : Type 0} → (List ℕ → X) → ℕ → X → Option ItemSeen → X
value_in read place absent None = absent
value_in read place absent (Some s) = read_or read absent (said_at place s)

pub value_seen : {X : Type 0} (read : List ℕ → X) (bytes : List ℕ) (place : ℕ) (absent : X) (o : Option Item)
    → value_at read bytes place absent o ≡ value_in read place absent (sight bytes o)
value_seen read bytes place absent None = refl
value_seen read bytes place absent (Some item) = ap (read_or read absent) (said_seen bytes place item)

abbrev pub texts_there : Option ItemSeen → List (List ℕ)
texts_there None = []
texts_there (Some s) = texts s

pub texts_there_seen : (bytes : List ℕ) (o : Option Item) → names_of bytes o ≡ texts_there (sight bytes o)
texts_there_seen bytes None = refl
texts_there_seen bytes (Some item) = texts_seen bytes item

abbrev pub passing : (ItemSeen → Bool) → Option ItemSeen → Bool
passing test None = false
passing test (Some s) = test s

pub passing_seen : (bytes : List ℕ) (p : Item → Bool) (q : ItemSeen → Bool) → ((x : Item) → p x ≡ q (item_seen bytes x)) → (o : Option Item) → passes p o ≡ passing q (sight bytes o)
passing_seen bytes p q h None = refl
passing_seen bytes p q h (Some item) = h item

abbrev pub groups_there : Option ItemSeen → List ItemSeen
groups_there None = []
groups_there (Some s) = groups s

-- ---- several heads

abbrev pub lacking : List (List ℕ) → ItemSeen → Bool
lacking names s = list_any (λ name. not (has name s)) names

pub lacking_seen : (bytes : List ℕ) (names : List (List ℕ)) (item : Item) → lacks bytes names item ≡ lacking names (item_seen bytes item)
lacking_seen bytes [] item = refl
lacking_seen bytes (name ∷ names) item =
    ap (λ b. not b || lacks bytes names item) (has_seen bytes name item) ∙ ap (λ b. not (has name (item_seen bytes item)) || b) (lacking_seen bytes names item)

abbrev pub shortened : ℕ → List (List ℕ) → ItemSeen → Bool
shortened n names s = list_any (λ name. short n (sub name s)) names

pub shortened_seen : (bytes : List ℕ) (n : ℕ) (names : List (List ℕ)) (item : Item) → has_short bytes n names item ≡ shortened n names (item_seen bytes item)
shortened_seen bytes n [] item = refl
shortened_seen bytes n (name ∷ names) item =
    ap (λ b. b || has_short bytes n names item) (short_seen bytes n (list_of bytes name item) ∙ ap (short n) (sub_seen bytes name item))
    ∙ ap (λ b. short n (sub name (item_seen bytes item)) || b) (shortened_seen bytes n names item)
