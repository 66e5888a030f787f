-- In the head of a board that is made nothing offends, and it declares two layers and three nets.
use Rattle.std.proofs.Common.{◌≡◌, ◌∙◌, refl, ap, ℕ, suc, Bool, true, false, not, cond, ◌||◌, List, [], ◌∷◌, ◌++◌, map, filter, filter_map, length, codes, nat_lt, slice_get, Option, None, Some, option_map}
use Rattle.std.specs.Prelude.{is_none}
use Rattle.std.specs.List.{list_any}
use Rattle.grid_num.specs.declared.read.NumFault.{NumFault}
use Rattle.sexpr_text.specs.Items.{Item, is_headed, children_of}
use Rattle.board_text.specs.Lists.{is_list, is_string_kind, headed, behind_head}
use Rattle.board_text.specs.Fields.{list_of, has_list}
use Rattle.board_text.specs.Numbers.{first_of, fault_at, is_short, whole_fault, whole_number}
use Rattle.board_text.specs.Layers.{Name, has_double, is_layer, layers_in, name_of_layer, names_in, layer_fault, layers_fault, layer_names_in, is_copper, copper_layers}
use Rattle.board_text.specs.Items.{Context, context_of, version_of, declared_net, declared_nets}
use Rattle.board_language.specs.declared.offence.OffenceKind.TheVariants as kinds
use Rattle.board_language.specs.Offences.{first_kind, when, number_offence, is_version, board_kind, layers_kind, net_kind}
use Rattle.text_shapes.specs.Layouts.{Layout, shape}
use Rattle.text_shapes.specs.Seen.{ItemSeen, item_seen, sight, parts}
use Rattle.text_shapes.proofs.Seen.{parts_seen, heads, heads_seen, has, has_seen, is_group, behind, behind_seen, said_at, said_seen, subs, subs_seen, fault_there, fault_there_seen, fault_in, fault_seen, short, short_seen, filter_map_is, given_map, any_map, map_map, get_map}
use Rattle.gen_facts.proofs.Lines.{layers_line, net_line}
use Rattle.text_shapes.specs.Laws.{list_seen}
use Rattle.gen_facts.proofs.Entries.{Entry}
use Rattle.gen_facts.proofs.Entries.Entry.{ViaAt, TrackAt}
use Rattle.gen_facts.proofs.Boards.{entry_line, entries_layout, zones_layout, head_layout}
use Rattle.gen_facts.proofs.CopperKind.{sub_is, value_is, both_layers, three_nets, one_is, two_is}

-- what is item_seen of the whole board
abbrev pub board_seen : List Entry → ℕ → ItemSeen
board_seen es e = list_seen (head_layout (entries_layout 1 es (zones_layout e)))

-- ---- the board

board_none_by : (head version layers : Bool) → head ≡ true → version ≡ true → layers ≡ true
    → first_kind (when kinds.NotBoard (not head) ∷ when kinds.Version (not version) ∷ when kinds.MissingPart (not layers) ∷ []) ≡ None
board_none_by head version layers a b c = rw (a, b, c) refl

version_number : whole_number (codes "20221018") ≡ 20221018
unfolding whole_number whole_fault
version_number = refl

pub board_none : (c : Context) (root : Item) (es : List Entry) (e : ℕ) → item_seen c.bytes root ≡ board_seen es e → board_kind c root ≡ None
unfolding board_kind
board_none c root es e h =
    board_none_by (is_headed c.bytes (codes "kicad_pcb") root) (is_version (version_of c.bytes root)) (has_list c.bytes (codes "layers") root)
    (heads_seen c.bytes (codes "kicad_pcb") root ∙ ap (heads (codes "kicad_pcb")) h)
    (ap is_version (value_is whole_number c.bytes (codes "version") 0 0 root _ h ∙ version_number))
    (has_seen c.bytes (codes "layers") root ∙ ap (has (codes "layers")) h)

-- ---- layers

abbrev is_layer_seen : ItemSeen → Bool
is_layer_seen s = is_group s || is_string_kind s.kind

abbrev layers_there : ItemSeen → List ItemSeen
layers_there s = filter is_layer_seen (behind s)

layers_seen : (bytes : List ℕ) (item : Item) → map (item_seen bytes) (layers_in item) ≡ layers_there (item_seen bytes item)
layers_seen bytes item = filter_map_is (item_seen bytes) is_layer is_layer_seen (λ x. refl) (behind_head item) ∙ ap (filter is_layer_seen) (behind_seen bytes item)

abbrev layer_name : ItemSeen → Option Name
layer_name s = cond (is_group s) (said_at 0 s) None

layer_name_seen : (bytes : List ℕ) (item : Item) → name_of_layer bytes item ≡ layer_name (item_seen bytes item)
layer_name_seen bytes item = ap (λ t. cond (is_list item) t None) (said_seen bytes 0 item)

layer_names_is : (bytes : List ℕ) (item : Item) (s : ItemSeen) → item_seen bytes item ≡ s → layer_names_in bytes item ≡ filter_map layer_name (layers_there s)
layer_names_is bytes item s e =
    given_map (item_seen bytes) (name_of_layer bytes) layer_name (layer_name_seen bytes) (layers_in item) ∙ ap (filter_map layer_name) (layers_seen bytes item ∙ ap layers_there e)

abbrev names_there : Option ItemSeen → List Name
names_there None = []
names_there (Some s) = filter_map layer_name (layers_there s)

names_in_seen : (bytes : List ℕ) (o : Option Item) → names_in bytes o ≡ names_there (sight bytes o)
names_in_seen bytes None = refl
names_in_seen bytes (Some item) = layer_names_is bytes item (item_seen bytes item) refl

pub copper_is : (bytes : List ℕ) (root : Item) (es : List Entry) (e : ℕ) → item_seen bytes root ≡ board_seen es e → (context_of bytes root).copper ≡ both_layers
unfolding context_of copper_layers
copper_is bytes root es e h = ap (filter is_copper) (names_in_seen bytes (list_of bytes (codes "layers") root) ∙ ap names_there (sub_is bytes (codes "layers") root _ h))

layers_none_by : (lacks : Bool) (fault : Option NumFault) (double many : Bool) → lacks ≡ false → fault ≡ None → double ≡ false → many ≡ false
    → first_kind (when kinds.MissingPart lacks ∷ number_offence fault ∷ when kinds.DoubleLayer double ∷ when kinds.TooMany many ∷ []) ≡ None
layers_none_by lacks fault double many a b c d = rw (a, b, c, d) refl

number_fault_seen : (bytes : List ℕ) (layer : Item) → layer_fault bytes layer ≡ fault_there whole_fault (slice_get (parts (item_seen bytes layer).inner) 0)
number_fault_seen bytes layer =
    fault_there_seen whole_fault bytes (slice_get (children_of layer) 0)
    ∙ ap (fault_there whole_fault) (get_map (item_seen bytes) (children_of layer) 0 ∙ ap (λ xs. slice_get xs 0) (parts_seen bytes layer.inner))

numbers_read : first_of (whole_fault (codes "0") ∷ whole_fault (codes "31") ∷ []) ≡ None
unfolding whole_fault
numbers_read = refl

layers_read : (bytes : List ℕ) (item : Item) → item_seen bytes item ≡ list_seen layers_line → layers_fault bytes item ≡ None
unfolding layers_fault
layers_read bytes item h =
    ap first_of (
    map_map (item_seen bytes) (layer_fault bytes) (λ s. fault_there whole_fault (slice_get (parts s.inner) 0)) (number_fault_seen bytes) (layers_in item)
    ∙ ap (map (λ s. fault_there whole_fault (slice_get (parts s.inner) 0))) (layers_seen bytes item ∙ ap layers_there h))
    ∙ numbers_read

no_double : has_double both_layers ≡ false
unfolding has_double
no_double = refl

pub layers_none : (c : Context) (item : Item) → item_seen c.bytes item ≡ list_seen layers_line → layers_kind c item ≡ None
unfolding layers_kind
layers_none c item h =
    layers_none_by (list_any (λ layer. is_none (name_of_layer c.bytes layer)) (layers_in item)) (layers_fault c.bytes item) (has_double (layer_names_in c.bytes item))
    (nat_lt 32 (length (filter is_copper (layer_names_in c.bytes item))))
    (any_map (item_seen c.bytes) (λ layer. is_none (name_of_layer c.bytes layer)) (λ s. is_none (layer_name s)) (λ x. ap is_none (layer_name_seen c.bytes x)) (layers_in item)
    ∙ ap (list_any (λ s. is_none (layer_name s))) (layers_seen c.bytes item ∙ ap layers_there h))
    (layers_read c.bytes item h)
    (ap has_double (layer_names_is c.bytes item _ h) ∙ no_double)
    (ap (λ names. nat_lt 32 (length (filter is_copper names))) (layer_names_is c.bytes item _ h))

-- ---- nets

net_none_by : (lacks : Bool) (fault : Option NumFault) (double many : Bool) → lacks ≡ false → fault ≡ None → double ≡ false → many ≡ false
    → first_kind (when kinds.MissingPart lacks ∷ number_offence fault ∷ when kinds.DoubleNet double ∷ when kinds.TooMany many ∷ []) ≡ None
net_none_by lacks fault double many a b c d = rw (a, b, c, d) refl

-- the net of a number that is read
pub net_none : (c : Context) (item : Item) (number name : List ℕ) (double many : Bool) → item_seen c.bytes item ≡ list_seen (net_line number name) → whole_fault number ≡ None → double ≡ false
    → many ≡ false → net_kind c item double many ≡ None
unfolding net_kind
net_none c item number name double many h f d m =
    net_none_by (is_short 1 (Some item)) (fault_at whole_fault c.bytes 0 (Some item)) double many
    (short_seen c.bytes 1 (Some item) ∙ ap (λ s. short 1 (Some s)) h)
    (fault_seen whole_fault c.bytes 0 (Some item) ∙ ap (λ s. fault_in whole_fault 0 (Some s)) h ∙ f)
    d m

abbrev net_there : ItemSeen → Option ℕ
net_there s = option_map whole_number (said_at 0 s)

net_there_seen : (bytes : List ℕ) (item : Item) → declared_net bytes item ≡ net_there (item_seen bytes item)
net_there_seen bytes item = ap (option_map whole_number) (said_seen bytes 0 item)

pub declared_is : (bytes : List ℕ) (item : Item) (number name : List ℕ) → item_seen bytes item ≡ list_seen (net_line number name) → declared_net bytes item ≡ Some (whole_number number)
declared_is bytes item number name h = net_there_seen bytes item ∙ ap net_there h

-- the items of a shape that are entries, with what stands behind them
abbrev pub entry_seen : Entry → ℕ → ItemSeen
entry_seen e i = list_seen (entry_line e i)

abbrev pub entries_seen : ℕ → List Entry → List ItemSeen
entries_seen i [] = []
entries_seen i (e ∷ es) = entry_seen e i ∷ entries_seen (suc i) es

pub entries_parts : (es : List Entry) (i : ℕ) (rest : Layout) → parts (shape (entries_layout i es rest)) ≡ entries_seen i es ++ parts (shape rest)
entries_parts [] i rest = refl
entries_parts (e ∷ es) i rest = ap (λ z. entry_seen e i ∷ z) (entries_parts es (suc i) rest)

-- none of them passes
pub none_kept : (p : ItemSeen → Bool) → ((e : Entry) (i : ℕ) → p (entry_seen e i) ≡ false) → (es : List Entry) (i : ℕ) (rest : List ItemSeen) → filter p (entries_seen i es ++ rest) ≡ filter p rest
none_kept p h [] i rest = refl
none_kept p h (e ∷ es) i rest = ap (λ b. cond b (entry_seen e i ∷ filter p (entries_seen (suc i) es ++ rest)) (filter p (entries_seen (suc i) es ++ rest))) (h e i) ∙ none_kept p h es (suc i) rest

-- all of them pass
pub all_kept : (p : ItemSeen → Bool) → ((e : Entry) (i : ℕ) → p (entry_seen e i) ≡ true) → (es : List Entry) (i : ℕ) (rest : List ItemSeen)
    → filter p (entries_seen i es ++ rest) ≡ entries_seen i es ++ filter p rest
all_kept p h [] i rest = refl
all_kept p h (e ∷ es) i rest =
    ap (λ b. cond b (entry_seen e i ∷ filter p (entries_seen (suc i) es ++ rest)) (filter p (entries_seen (suc i) es ++ rest))) (h e i) ∙ ap (λ z. entry_seen e i ∷ z) (all_kept p h es (suc i) rest)

no_net : (e : Entry) (i : ℕ) → heads (codes "net") (entry_seen e i) ≡ false
no_net (ViaAt second x y) i = refl
no_net (TrackAt x y) i = refl

abbrev pub net_seen : List ℕ → List ℕ → ItemSeen
net_seen number name = list_seen (net_line number name)

nets_in_board : (es : List Entry) (e : ℕ) → subs (codes "net") (board_seen es e) ≡ net_seen (codes "0") [] ∷ net_seen (codes "1") (codes "GND") ∷ net_seen (codes "2") (codes "VCC") ∷ []
nets_in_board es e =
    ap (λ z. net_seen (codes "0") [] ∷ net_seen (codes "1") (codes "GND") ∷ net_seen (codes "2") (codes "VCC") ∷ z)
    (ap (filter (heads (codes "net"))) (entries_parts es 1 (zones_layout e)) ∙ none_kept (heads (codes "net")) no_net es 1 (parts (shape (zones_layout e))))

pub zero_net : whole_number (codes "0") ≡ 0
unfolding whole_number whole_fault
zero_net = refl

three_are : (a b c : ℕ) → a ≡ 0 → b ≡ 1 → c ≡ 2 → a ∷ b ∷ c ∷ [] ≡ three_nets
three_are a b c e f g = rw (e, f, g) refl

pub nets_are : (bytes : List ℕ) (root : Item) (es : List Entry) (e : ℕ) → item_seen bytes root ≡ board_seen es e → (context_of bytes root).nets ≡ three_nets
unfolding context_of declared_nets
nets_are bytes root es e h =
    given_map (item_seen bytes) (declared_net bytes) net_there (net_there_seen bytes) (headed bytes (codes "net") root)
    ∙ ap (filter_map net_there) (subs_seen bytes (codes "net") root ∙ ap (subs (codes "net")) h ∙ nets_in_board es e)
    ∙ three_are (whole_number (codes "0")) (whole_number (codes "1")) (whole_number (codes "2")) zero_net one_is two_is
