-- In a via and a track of a board that is made nothing offends.
use Rattle.std.proofs.Common.{◌≡◌, ◌∙◌, refl, ap, ℕ, ◌≤◌, Bool, true, false, not, cond, ◌||◌, ◌&&◌, ◌==◌, List, [], ◌∷◌, length, codes, nat_lt, Option, None}
use Rattle.std.specs.Prelude.{pos}
use Rattle.grid_num.specs.Written.{mm_of}
use Rattle.grid_num.specs.declared.read.NumFault.{NumFault}
use Rattle.sexpr_text.specs.Items.{Item}
use Rattle.board_text.specs.Fields.{list_of, lacks}
use Rattle.board_text.specs.Numbers.{first_of, fault_at, has_short, length_fault, length_of, whole_fault, whole_number, value_at, point_fault}
use Rattle.board_text.specs.Layers.{Name, is_among, layer_names, name_at}
use Rattle.board_text.specs.Items.{Context, is_no_size, has_number, is_unknown_net, net_of, has_bad_size}
use Rattle.board_language.specs.declared.offence.OffenceKind.TheVariants as kinds
use Rattle.board_language.specs.Tracks.{track_fault, via_fault, track_layer, via_layer}
use Rattle.board_language.specs.Offences.{first_kind, when, number_offence, track_lacks, via_lacks, track_kind, via_kind}
use Rattle.text_shapes.specs.Seen.{ItemSeen, item_seen, sight}
use Rattle.text_shapes.proofs.Seen.{sub, sub_seen, lacking, lacking_seen, shortened, shortened_seen, texts_there, texts_there_seen, fault_in, fault_seen, value_in, value_seen}
use Rattle.gen_facts.proofs.Numbers.{stamp_of, mm_fault}
use Rattle.gen_facts.proofs.Lines.{via_line, track_line}
use Rattle.text_shapes.specs.Laws.{list_seen}

-- ---- what is read of a list, by what is item_seen of the item

pub lacks_is : (bytes : List ℕ) (names : List (List ℕ)) (item : Item) (s : ItemSeen) → item_seen bytes item ≡ s → lacks bytes names item ≡ lacking names s
lacks_is bytes names item s e = lacking_seen bytes names item ∙ ap (lacking names) e

pub short_is : (bytes : List ℕ) (n : ℕ) (names : List (List ℕ)) (item : Item) (s : ItemSeen) → item_seen bytes item ≡ s → has_short bytes n names item ≡ shortened n names s
short_is bytes n names item s e = shortened_seen bytes n names item ∙ ap (shortened n names) e

pub sub_is : (bytes name : List ℕ) (item : Item) (s : ItemSeen) → item_seen bytes item ≡ s → sight bytes (list_of bytes name item) ≡ sub name s
sub_is bytes name item s e = sub_seen bytes name item ∙ ap (sub name) e

pub names_is : (bytes name : List ℕ) (item : Item) (s : ItemSeen) → item_seen bytes item ≡ s → layer_names bytes name item ≡ texts_there (sub name s)
names_is bytes name item s e = texts_there_seen bytes (list_of bytes name item) ∙ ap texts_there (sub_is bytes name item s e)

pub fault_is : (read : List ℕ → Option NumFault) (bytes name : List ℕ) (place : ℕ) (item : Item) (s : ItemSeen) → item_seen bytes item ≡ s
    → fault_at read bytes place (list_of bytes name item) ≡ fault_in read place (sub name s)
fault_is read bytes name place item s e = fault_seen read bytes place (list_of bytes name item) ∙ ap (fault_in read place) (sub_is bytes name item s e)

pub value_is : {X : Type 0} (read : List ℕ → X) (bytes name : List ℕ) (place : ℕ) (absent : X) (item : Item) (s : ItemSeen) → item_seen bytes item ≡ s
    → value_at read bytes place absent (list_of bytes name item) ≡ value_in read place absent (sub name s)
value_is read bytes name place absent item s e = value_seen read bytes place absent (list_of bytes name item) ∙ ap (value_in read place absent) (sub_is bytes name item s e)

-- ---- tests and faults that don't hold

pub none_of_two : (a b : Bool) → a ≡ false → b ≡ false → (a || b) ≡ false
none_of_two a b e f = rw (e, f) refl

none_of_four : (a b c d : Bool) → a ≡ false → b ≡ false → c ≡ false → d ≡ false → (a || (b || (c || d))) ≡ false
none_of_four a b c d e f g h = rw (e, f, g, h) refl

pub first_of_two : (a b : Option NumFault) → a ≡ None → b ≡ None → first_of (a ∷ b ∷ []) ≡ None
first_of_two a b e f = rw (e, f) refl

first_of_three : (a b c : Option NumFault) → a ≡ None → b ≡ None → c ≡ None → first_of (a ∷ b ∷ c ∷ []) ≡ None
first_of_three a b c e f g = rw (e, f, g) refl

first_of_four : (a b c d : Option NumFault) → a ≡ None → b ≡ None → c ≡ None → d ≡ None → first_of (a ∷ b ∷ c ∷ d ∷ []) ≡ None
first_of_four a b c d e f g h = rw (e, f, g, h) refl

copper_kinds_none : (lacks : Bool) (fault : Option NumFault) (bad layer net double many : Bool) → lacks ≡ false → fault ≡ None → bad ≡ false → layer ≡ false → net ≡ false → double ≡ false → many ≡ false
    → first_kind (
    when kinds.MissingPart lacks
    ∷ number_offence fault
    ∷ when kinds.BadSize bad
    ∷ when kinds.UnknownLayer layer
    ∷ when kinds.UnknownNet net
    ∷ when kinds.DoubleStamp double
    ∷ when kinds.TooMany many
    ∷ []) ≡ None
copper_kinds_none lacks fault bad layer net double many a b c d e f g = rw (a, b, c, d, e, f, g) refl

-- ---- the layers and nets of the board

abbrev pub both_layers : List Name
both_layers = codes "F.Cu" ∷ codes "B.Cu" ∷ []

abbrev pub three_nets : List ℕ
three_nets = 0 ∷ 1 ∷ 2 ∷ []

via_layers_known : (copper names : List Name) → copper ≡ both_layers → names ≡ both_layers → not (is_among copper (name_at 0 names) && is_among copper (name_at 1 names)) ≡ false
via_layers_known copper names e f = rw (e, f) refl

track_layer_known : (copper names : List Name) → copper ≡ both_layers → names ≡ codes "F.Cu" ∷ [] → not (is_among copper (name_at 0 names)) ≡ false
track_layer_known copper names e f = rw (e, f) refl

net_known : (nets : List ℕ) (n m : ℕ) → nets ≡ three_nets → n ≡ m → (not (m == 0) && not (has_number three_nets m)) ≡ false → (not (n == 0) && not (has_number nets n)) ≡ false
net_known nets n m e f g = ap (λ k. not (k == 0) && not (has_number nets k)) f ∙ ap (λ ms. not (m == 0) && not (has_number ms m)) e ∙ g

-- the number of a net's text
abbrev pub net_text : Bool → List ℕ
net_text second = cond second (codes "2") (codes "1")

pub one_is : whole_number (codes "1") ≡ 1
unfolding whole_number whole_fault
one_is = refl

pub two_is : whole_number (codes "2") ≡ 2
unfolding whole_number whole_fault
two_is = refl

pub one_fault : whole_fault (codes "1") ≡ None
unfolding whole_fault
one_fault = refl

two_fault : whole_fault (codes "2") ≡ None
unfolding whole_fault
two_fault = refl

pub net_fault : (second : Bool) → whole_fault (net_text second) ≡ None
net_fault true = two_fault
net_fault false = one_fault

pub known_net : (c : Context) (item : Item) (second : Bool) → c.nets ≡ three_nets → net_of c.bytes item ≡ whole_number (net_text second) → is_unknown_net c (net_of c.bytes item) ≡ false
known_net c item true e f = net_known c.nets (net_of c.bytes item) 2 e (f ∙ two_is) refl
known_net c item false e f = net_known c.nets (net_of c.bytes item) 1 e (f ∙ one_is) refl

-- ---- a via

size_fault : length_fault (codes "0.6") ≡ None
unfolding length_fault
size_fault = refl

size_is : length_of (codes "0.6") ≡ pos 600000
unfolding length_of length_fault
size_is = refl

abbrev pub via_seen : Bool → ℕ → ℕ → ℕ → ItemSeen
via_seen second x y i = list_seen (via_line (net_text second) (mm_of (pos x)) (mm_of (pos y)) (stamp_of i))

via_complete : (bytes : List ℕ) (item : Item) (second : Bool) (x y i : ℕ) → item_seen bytes item ≡ via_seen second x y i → via_lacks bytes item ≡ false
via_complete bytes item second x y i e =
    none_of_four (lacks bytes (codes "at" ∷ codes "size" ∷ []) item) (nat_lt (length (layer_names bytes (codes "layers") item)) 2) (has_short bytes 2 (codes "at" ∷ []) item)
    (has_short bytes 1 (codes "size" ∷ codes "net" ∷ []) item)
    (lacks_is bytes (codes "at" ∷ codes "size" ∷ []) item _ e)
    (ap (λ names. nat_lt (length names) 2) (names_is bytes (codes "layers") item _ e))
    (short_is bytes 2 (codes "at" ∷ []) item _ e)
    (short_is bytes 1 (codes "size" ∷ codes "net" ∷ []) item _ e)

via_numbers : (bytes : List ℕ) (item : Item) (second : Bool) (x y i : ℕ) → x ≤ 500000000 → y ≤ 500000000 → item_seen bytes item ≡ via_seen second x y i → via_fault bytes item ≡ None
unfolding via_fault
via_numbers bytes item second x y i h k e =
    first_of_three (point_fault bytes (list_of bytes (codes "at") item)) (fault_at length_fault bytes 0 (list_of bytes (codes "size") item))
    (fault_at whole_fault bytes 0 (list_of bytes (codes "net") item))
    (first_of_two (fault_at length_fault bytes 0 (list_of bytes (codes "at") item)) (fault_at length_fault bytes 1 (list_of bytes (codes "at") item))
    (fault_is length_fault bytes (codes "at") 0 item _ e ∙ mm_fault x h) (fault_is length_fault bytes (codes "at") 1 item _ e ∙ mm_fault y k))
    (fault_is length_fault bytes (codes "size") 0 item _ e ∙ size_fault)
    (fault_is whole_fault bytes (codes "net") 0 item _ e ∙ net_fault second)

pub via_none : (c : Context) (item : Item) (second : Bool) (x y i : ℕ) (double many : Bool) → c.copper ≡ both_layers → c.nets ≡ three_nets → x ≤ 500000000 → y ≤ 500000000
    → item_seen c.bytes item ≡ via_seen second x y i → double ≡ false → many ≡ false → via_kind c item double many ≡ None
unfolding via_kind
via_none c item second x y i double many layers nets h k e d m =
    copper_kinds_none (via_lacks c.bytes item) (via_fault c.bytes item) (has_bad_size c.bytes (codes "size") item)
    (not (is_among c.copper (via_layer c.bytes 0 item) && is_among c.copper (via_layer c.bytes 1 item))) (is_unknown_net c (net_of c.bytes item)) double many
    (via_complete c.bytes item second x y i e)
    (via_numbers c.bytes item second x y i h k e)
    (ap is_no_size (value_is length_of c.bytes (codes "size") 0 (pos 0) item _ e ∙ size_is))
    (via_layers_known c.copper (layer_names c.bytes (codes "layers") item) layers (names_is c.bytes (codes "layers") item _ e))
    (known_net c item second nets (value_is whole_number c.bytes (codes "net") 0 0 item _ e))
    d m

-- ---- a track

pub width_fault : length_fault (codes "0.25") ≡ None
unfolding length_fault
width_fault = refl

pub width_is : length_of (codes "0.25") ≡ pos 250000
unfolding length_of length_fault
width_is = refl

abbrev pub track_seen : ℕ → ℕ → ℕ → ℕ → ℕ → ItemSeen
track_seen x0 y0 x1 y1 i = list_seen (track_line (mm_of (pos x0)) (mm_of (pos y0)) (mm_of (pos x1)) (mm_of (pos y1)) (stamp_of i))

track_complete : (bytes : List ℕ) (item : Item) (x0 y0 x1 y1 i : ℕ) → item_seen bytes item ≡ track_seen x0 y0 x1 y1 i → track_lacks bytes item ≡ false
track_complete bytes item x0 y0 x1 y1 i e =
    none_of_four (lacks bytes (codes "start" ∷ codes "end" ∷ codes "width" ∷ []) item) (nat_lt (length (layer_names bytes (codes "layer") item)) 1)
    (has_short bytes 2 (codes "start" ∷ codes "end" ∷ []) item) (has_short bytes 1 (codes "width" ∷ codes "net" ∷ []) item)
    (lacks_is bytes (codes "start" ∷ codes "end" ∷ codes "width" ∷ []) item _ e)
    (ap (λ names. nat_lt (length names) 1) (names_is bytes (codes "layer") item _ e))
    (short_is bytes 2 (codes "start" ∷ codes "end" ∷ []) item _ e)
    (short_is bytes 1 (codes "width" ∷ codes "net" ∷ []) item _ e)

two_lengths : (bytes name : List ℕ) (item : Item) (s : ItemSeen) → item_seen bytes item ≡ s → fault_in length_fault 0 (sub name s) ≡ None → fault_in length_fault 1 (sub name s) ≡ None
    → point_fault bytes (list_of bytes name item) ≡ None
two_lengths bytes name item s e f g =
    first_of_two (fault_at length_fault bytes 0 (list_of bytes name item)) (fault_at length_fault bytes 1 (list_of bytes name item))
    (fault_is length_fault bytes name 0 item s e ∙ f) (fault_is length_fault bytes name 1 item s e ∙ g)

track_numbers : (bytes : List ℕ) (item : Item) (x0 y0 x1 y1 i : ℕ) → x0 ≤ 500000000 → y0 ≤ 500000000 → x1 ≤ 500000000 → y1 ≤ 500000000 → item_seen bytes item ≡ track_seen x0 y0 x1 y1 i
    → track_fault bytes item ≡ None
unfolding track_fault
track_numbers bytes item x0 y0 x1 y1 i a b h k e =
    first_of_four (point_fault bytes (list_of bytes (codes "start") item)) (point_fault bytes (list_of bytes (codes "end") item))
    (fault_at length_fault bytes 0 (list_of bytes (codes "width") item)) (fault_at whole_fault bytes 0 (list_of bytes (codes "net") item))
    (two_lengths bytes (codes "start") item _ e (mm_fault x0 a) (mm_fault y0 b))
    (two_lengths bytes (codes "end") item _ e (mm_fault x1 h) (mm_fault y1 k))
    (fault_is length_fault bytes (codes "width") 0 item _ e ∙ width_fault)
    (fault_is whole_fault bytes (codes "net") 0 item _ e ∙ net_fault true)

pub track_none : (c : Context) (item : Item) (x0 y0 x1 y1 i : ℕ) (double many : Bool) → c.copper ≡ both_layers → c.nets ≡ three_nets → x0 ≤ 500000000 → y0 ≤ 500000000 → x1 ≤ 500000000
    → y1 ≤ 500000000 → item_seen c.bytes item ≡ track_seen x0 y0 x1 y1 i → double ≡ false → many ≡ false → track_kind c item double many ≡ None
unfolding track_kind
track_none c item x0 y0 x1 y1 i double many layers nets a b h k e d m =
    copper_kinds_none (track_lacks c.bytes item) (track_fault c.bytes item) (has_bad_size c.bytes (codes "width") item) (not (is_among c.copper (track_layer c.bytes item)))
    (is_unknown_net c (net_of c.bytes item)) double many
    (track_complete c.bytes item x0 y0 x1 y1 i e)
    (track_numbers c.bytes item x0 y0 x1 y1 i a b h k e)
    (ap is_no_size (value_is length_of c.bytes (codes "width") 0 (pos 0) item _ e ∙ width_is))
    (track_layer_known c.copper (layer_names c.bytes (codes "layer") item) layers (names_is c.bytes (codes "layer") item _ e))
    (known_net c item true nets (value_is whole_number c.bytes (codes "net") 0 0 item _ e))
    d m
