-- In a zone of a board that is made nothing offends, and its outline is a square.
use Rattle.std.proofs.Common.{◌≡◌, ◌∙◌, refl, ap, ℕ, ◌≤◌, Bool, true, false, not, cond, ◌||◌, ◌==◌, List, [], ◌∷◌, map, flat_map, find, length, codes, bytes_eq, nat_lt, Option, None, Some}
use Rattle.std.specs.Prelude.{ℤ, pos, is_none, if◌then◌else◌}
use Rattle.std.specs.List.{list_any}
use Rattle.grid_num.specs.declared.Point.{Point}
use Rattle.grid_num.specs.Written.{mm_of}
use Rattle.grid_num.specs.declared.read.NumFault.{NumFault}
use Rattle.sexpr_text.specs.Items.{Item, is_headed}
use Rattle.board_text.specs.Lists.{lists_of, headed}
use Rattle.board_text.specs.Fields.{list_of, list_in, text_at, texts_of, says_at, passes, has_list}
use Rattle.board_text.specs.Numbers.{first_of, fault_at, is_short, has_short, length_fault, length_of, whole_fault, whole_number, area_fault, value_at, point_fault}
use Rattle.board_text.specs.Layers.{Name, is_among, meant_by, meant_in, has_unknown}
use Rattle.board_text.specs.Items.{Context, is_no_length, size_of, point_at, is_unknown_net, net_of}
use Rattle.board_language.specs.declared.offence.OffenceKind.TheVariants as kinds
use Rattle.board_language.specs.Zones as zones
use Rattle.board_language.specs.Offences.{first_kind, when, number_offence, has_teardrop, is_hatched, is_smoothed, is_other_mode, has_other_mode, has_two_outlines, has_arc, outline_lacks, zone_lacks, zone_is_bad, bad_outline, is_long_outline, zone_kind}
use Rattle.text_shapes.specs.Seen.{ItemSeen, item_seen, sight}
use Rattle.text_shapes.proofs.Seen.{sub_in, in_seen, heads, heads_seen, groups, groups_seen, groups_there, subs, subs_seen, texts, texts_seen, said_at, said_seen, passing, passing_seen, short, short_seen, fault_in, fault_seen, value_in, value_seen, find_map, any_map, map_map, length-map_is, same_or}
use Rattle.gen_facts.proofs.Numbers.{mm_fault, mm_value}
use Rattle.gen_facts.proofs.Lines.{zone_line}
use Rattle.text_shapes.specs.Laws.{list_seen}
use Rattle.gen_facts.proofs.CopperKind.{sub_is, short_is, fault_is, value_is, none_of_two, both_layers, three_nets, net_text, net_fault, one_fault, one_is, width_fault, width_is, known_net}

-- the zone on the front, or that on the back
abbrev pub zone_seen : Bool → ℕ → ItemSeen
zone_seen back e =
    list_seen (zone_line (net_text back) (cond back (codes "VCC") (codes "GND")) (cond back (codes "B.Cu") (codes "F.Cu")) (cond back (codes "zb") (codes "zf")) (mm_of (pos e)))

-- ---- what is read of a list in a list

in_is : (bytes outer name : List ℕ) (item : Item) (s : ItemSeen) → item_seen bytes item ≡ s → sight bytes (list_in bytes outer name item) ≡ sub_in outer name s
in_is bytes outer name item s e = in_seen bytes outer name item ∙ ap (sub_in outer name) e

fault_in_is : (read : List ℕ → Option NumFault) (bytes outer name : List ℕ) (item : Item) (s : ItemSeen) → item_seen bytes item ≡ s
    → fault_at read bytes 0 (list_in bytes outer name item) ≡ fault_in read 0 (sub_in outer name s)
fault_in_is read bytes outer name item s e = fault_seen read bytes 0 (list_in bytes outer name item) ∙ ap (fault_in read 0) (in_is bytes outer name item s e)

value_in_is : {X : Type 0} (read : List ℕ → X) (bytes outer name : List ℕ) (absent : X) (item : Item) (s : ItemSeen) → item_seen bytes item ≡ s
    → value_at read bytes 0 absent (list_in bytes outer name item) ≡ value_in read 0 absent (sub_in outer name s)
value_in_is read bytes outer name absent item s e = value_seen read bytes 0 absent (list_in bytes outer name item) ∙ ap (value_in read 0 absent) (in_is bytes outer name item s e)

short_in_is : (bytes outer name : List ℕ) (item : Item) (s : ItemSeen) → item_seen bytes item ≡ s → is_short 1 (list_in bytes outer name item) ≡ short 1 (sub_in outer name s)
short_in_is bytes outer name item s e = short_seen bytes 1 (list_in bytes outer name item) ∙ ap (short 1) (in_is bytes outer name item s e)

is_absent : (bytes : List ℕ) (o : Option Item) → is_none (sight bytes o) ≡ true → o ≡ None
is_absent bytes None h = refl
is_absent bytes (Some item) h = absurd (bad h)
  where
    bad : false ≡ true → ⊥
    bad h = cc

same_none : (bytes : List ℕ) (o : Option Item) → is_none o ≡ is_none (sight bytes o)
same_none bytes None = refl
same_none bytes (Some item) = refl

-- ---- tests that don't hold

none_of_three : (a b c : Bool) → a ≡ false → b ≡ false → c ≡ false → (a || (b || c)) ≡ false
none_of_three a b c e f g = rw (e, f, g) refl

none_in_four : (a b c d : Bool) → a ≡ false → b ≡ false → c ≡ false → d ≡ false → (a || (b || (c || (d || false)))) ≡ false
none_in_four a b c d e f g h = rw (e, f, g, h) refl

none_in_five : (a b c d e : Bool) → a ≡ false → b ≡ false → c ≡ false → d ≡ false → e ≡ false → (a || (b || (c || (d || (e || false))))) ≡ false
none_in_five a b c d e p q r s t = rw (p, q, r, s, t) refl

first_of_nine : (a b c d e f g h i : Option NumFault) → a ≡ None → b ≡ None → c ≡ None → d ≡ None → e ≡ None → f ≡ None → g ≡ None → h ≡ None → i ≡ None
    → first_of (a ∷ b ∷ c ∷ d ∷ e ∷ f ∷ g ∷ h ∷ i ∷ []) ≡ None
first_of_nine a b c d e f g h i p q r s t u v w x = rw (p, q, r, s, t, u, v, w, x) refl

zone_kinds_none : (tear hatch smooth mode two arc lacks : Bool) (fault : Option NumFault) (bad thin layer net double many : Bool)
    → tear ≡ false → hatch ≡ false → smooth ≡ false → mode ≡ false → two ≡ false → arc ≡ false → lacks ≡ false → fault ≡ None → bad ≡ false → thin ≡ false → layer ≡ false → net ≡ false → double ≡ false
    → many ≡ false
    → first_kind (
    when kinds.Teardrop tear
    ∷ when kinds.HatchFill hatch
    ∷ when kinds.Smoothing smooth
    ∷ when kinds.IslandArea mode
    ∷ when kinds.ManyOutlines two
    ∷ when kinds.PolygonArc arc
    ∷ when kinds.MissingPart lacks
    ∷ number_offence fault
    ∷ when kinds.BadSize bad
    ∷ when kinds.Thin thin
    ∷ when kinds.UnknownLayer layer
    ∷ when kinds.UnknownNet net
    ∷ when kinds.DoubleStamp double
    ∷ bad_outline None
    ∷ when kinds.TooMany many
    ∷ []) ≡ None
zone_kinds_none tear hatch smooth mode two arc lacks fault bad thin layer net double many a b c d e f g h i j k l m n =
    rw (a, b, c, d, e, f, g, h, i, j, k, l, m, n) refl

-- ---- layers

abbrev names_layers : ItemSeen → Bool
names_layers s = heads (codes "layer") s || heads (codes "layers") s

layer_list_is : (bytes : List ℕ) (zone : Item) (s : ItemSeen) → item_seen bytes zone ≡ s → sight bytes (zones.layer_list bytes zone) ≡ find names_layers (groups s)
layer_list_is bytes zone s e =
    find_map (item_seen bytes) (λ list. is_headed bytes (codes "layer") list || is_headed bytes (codes "layers") list) names_layers
    (λ x. same_or (is_headed bytes (codes "layer") x) (is_headed bytes (codes "layers") x) _ _ (heads_seen bytes (codes "layer") x) (heads_seen bytes (codes "layers") x)) (lists_of zone)
    ∙ ap (find names_layers) (groups_seen bytes zone ∙ ap groups e)

abbrev meant_there : List Name → Option ItemSeen → List Name
meant_there copper None = []
meant_there copper (Some s) = flat_map (meant_by copper) (texts s)

meant_seen : (bytes : List ℕ) (copper : List Name) (o : Option Item) → meant_in bytes copper o ≡ meant_there copper (sight bytes o)
meant_seen bytes copper None = refl
meant_seen bytes copper (Some item) = ap (flat_map (meant_by copper)) (texts_seen bytes item)

front_meant : flat_map (meant_by both_layers) (codes "F.Cu" ∷ []) ≡ codes "F.Cu" ∷ []
unfolding meant_by
front_meant = refl

back_meant : flat_map (meant_by both_layers) (codes "B.Cu" ∷ []) ≡ codes "B.Cu" ∷ []
unfolding meant_by
back_meant = refl

-- the layer of a zone
abbrev layer_of : Bool → Name
layer_of back = cond back (codes "B.Cu") (codes "F.Cu")

side_meant : (back : Bool) → flat_map (meant_by both_layers) (layer_of back ∷ []) ≡ layer_of back ∷ []
side_meant true = back_meant
side_meant false = front_meant

zone_meant : (bytes : List ℕ) (copper : List Name) (zone : Item) (back : Bool) (e : ℕ) → copper ≡ both_layers → item_seen bytes zone ≡ zone_seen back e
    → meant_in bytes copper (zones.layer_list bytes zone) ≡ layer_of back ∷ []
zone_meant bytes copper zone back e layers h =
    meant_seen bytes copper (zones.layer_list bytes zone) ∙ ap (meant_there copper) (layer_list_is bytes zone _ h) ∙ ap (λ k. flat_map (meant_by k) (layer_of back ∷ [])) layers ∙ side_meant back

pub zone_read : (c : Context) (zone : Item) (back : Bool) (e : ℕ) → c.copper ≡ both_layers → item_seen c.bytes zone ≡ zone_seen back e → zones.is_read_zone c zone ≡ true
zone_read c zone back e layers h = ap (λ names. not (length names == 0)) (zone_meant c.bytes c.copper zone back e layers h)

side_known : (copper meant : List Name) (back : Bool) → copper ≡ both_layers → meant ≡ layer_of back ∷ [] → list_any (λ name. not (is_among copper name)) meant ≡ false
side_known copper meant true e f = rw (e, f) refl
side_known copper meant false e f = rw (e, f) refl

-- ---- the outline

there_seen : (bytes : List ℕ) (o : Option Item) → map (item_seen bytes) (zones.lists_in o) ≡ groups_there (sight bytes o)
there_seen bytes None = refl
there_seen bytes (Some item) = groups_seen bytes item

corners_is : (bytes : List ℕ) (zone : Item) (s : ItemSeen) → item_seen bytes zone ≡ s → map (item_seen bytes) (zones.corner_lists bytes zone) ≡ groups_there (sub_in (codes "polygon") (codes "pts") s)
corners_is bytes zone s e = there_seen bytes (zones.points_list bytes zone) ∙ ap groups_there (in_is bytes (codes "polygon") (codes "pts") zone s e)

two_faults : (a b c d : Option NumFault) → a ≡ c → b ≡ d → first_of (a ∷ b ∷ []) ≡ first_of (c ∷ d ∷ [])
two_faults a b c d e f = rw (e, f) refl

abbrev point_fault_in : ItemSeen → Option NumFault
point_fault_in s = first_of (fault_in length_fault 0 (Some s) ∷ fault_in length_fault 1 (Some s) ∷ [])

square_fault : (a b : Option NumFault) → a ≡ None → b ≡ None
    → first_of (first_of (a ∷ a ∷ []) ∷ first_of (b ∷ a ∷ []) ∷ first_of (b ∷ b ∷ []) ∷ first_of (a ∷ b ∷ []) ∷ []) ≡ None
square_fault a b e f = rw (e, f) refl

zero_fault : length_fault (codes "0") ≡ None
unfolding length_fault
zero_fault = refl

zero_is : length_of (codes "0") ≡ pos 0
unfolding length_of length_fault
zero_is = refl

corners_read_well : (bytes : List ℕ) (zone : Item) (back : Bool) (e : ℕ) → e ≤ 500000000 → item_seen bytes zone ≡ zone_seen back e → zones.corners_fault bytes zone ≡ None
unfolding zones.corners_fault
corners_read_well bytes zone back e l h =
    ap first_of (
    map_map (item_seen bytes) (λ list. point_fault bytes (Some list)) point_fault_in
    (λ x. two_faults (fault_at length_fault bytes 0 (Some x)) (fault_at length_fault bytes 1 (Some x)) _ _ (fault_seen length_fault bytes 0 (Some x)) (fault_seen length_fault bytes 1 (Some x)))
    (zones.corner_lists bytes zone)
    ∙ ap (map point_fault_in) (corners_is bytes zone _ h))
    ∙ square_fault (length_fault (codes "0")) (length_fault (mm_of (pos e))) zero_fault (mm_fault e l)

-- the corners of a square, in nanometres
abbrev pub square : ℕ → List Point
square e =
    record { x = pos 0; y = pos 0 } ∷ record { x = pos e; y = pos 0 } ∷ record { x = pos e; y = pos e } ∷ record { x = pos 0; y = pos e } ∷ []

abbrev point : ℤ → ℤ → Point
point a b = record { x = a; y = b }

same_point : (a b c d : ℤ) → a ≡ c → b ≡ d → point a b ≡ point c d
same_point a b c d e f = rw (e, f) refl

abbrev point_there : ItemSeen → Point
point_there s = record { x = value_in length_of 0 (pos 0) (Some s); y = value_in length_of 1 (pos 0) (Some s) }

abbrev square_of : ℤ → ℤ → List Point
square_of a b = record { x = a; y = a } ∷ record { x = b; y = a } ∷ record { x = b; y = b } ∷ record { x = a; y = b } ∷ []

square_is : (a b : ℤ) (e : ℕ) → a ≡ pos 0 → b ≡ pos e → square_of a b ≡ square e
square_is a b e p q = rw (p, q) refl

pub corners_square : (bytes : List ℕ) (zone : Item) (back : Bool) (e : ℕ) → e ≤ 500000000 → item_seen bytes zone ≡ zone_seen back e → zones.corners_read bytes zone ≡ square e
unfolding zones.corners_read
corners_square bytes zone back e l h =
    map_map (item_seen bytes) (λ list. point_at bytes (Some list)) point_there
    (λ x. same_point _ _ _ _ (value_seen length_of bytes 0 (pos 0) (Some x)) (value_seen length_of bytes 1 (pos 0) (Some x)))
    (zones.corner_lists bytes zone)
    ∙ ap (map point_there) (corners_is bytes zone _ h)
    ∙ square_is (length_of (codes "0")) (length_of (mm_of (pos e))) e zero_is (mm_value e l)

no_arc : (bytes : List ℕ) (zone : Item) (back : Bool) (e : ℕ) → item_seen bytes zone ≡ zone_seen back e → has_arc bytes zone ≡ false
no_arc bytes zone back e h =
    any_map (item_seen bytes) (λ list. not (is_headed bytes (codes "xy") list)) (λ s. not (heads (codes "xy") s)) (λ x. ap not (heads_seen bytes (codes "xy") x)) (zones.corner_lists bytes zone)
    ∙ ap (list_any (λ s. not (heads (codes "xy") s))) (corners_is bytes zone _ h)

outline_there : (bytes : List ℕ) (zone : Item) (back : Bool) (e : ℕ) → item_seen bytes zone ≡ zone_seen back e → outline_lacks bytes zone ≡ false
outline_there bytes zone back e h =
    none_of_two (is_none (zones.points_list bytes zone)) (list_any (λ list. is_short 2 (Some list)) (zones.corner_lists bytes zone))
    (same_none bytes (zones.points_list bytes zone) ∙ ap is_none (in_is bytes (codes "polygon") (codes "pts") zone _ h))
    (any_map (item_seen bytes) (λ list. is_short 2 (Some list)) (λ s. short 2 (Some s)) (λ x. short_seen bytes 2 (Some x)) (zones.corner_lists bytes zone)
    ∙ ap (list_any (λ s. short 2 (Some s))) (corners_is bytes zone _ h))

is_short_outline : (bytes : List ℕ) (zone : Item) (back : Bool) (e : ℕ) → item_seen bytes zone ≡ zone_seen back e → is_long_outline bytes zone ≡ false
is_short_outline bytes zone back e h =
    ap (nat_lt 20000) (length-map_is (item_seen bytes) (zones.corner_lists bytes zone) ∙ ap length (corners_is bytes zone _ h))

one_outline : (bytes : List ℕ) (zone : Item) (back : Bool) (e : ℕ) → item_seen bytes zone ≡ zone_seen back e → has_two_outlines bytes zone ≡ false
one_outline bytes zone back e h =
    ap (nat_lt 1) (length-map_is (item_seen bytes) (headed bytes (codes "polygon") zone) ∙ ap length (subs_seen bytes (codes "polygon") zone ∙ ap (subs (codes "polygon")) h))

-- ---- what isn't there

no_teardrop : (bytes : List ℕ) (zone : Item) (back : Bool) (e : ℕ) → item_seen bytes zone ≡ zone_seen back e → has_teardrop bytes zone ≡ false
no_teardrop bytes zone back e h =
    ap (passes (λ attr. has_list bytes (codes "teardrop") attr || list_any (λ text. bytes_eq text (codes "teardrop")) (texts_of bytes attr)))
    (is_absent bytes (list_of bytes (codes "attr") zone) (ap is_none (sub_is bytes (codes "attr") zone _ h)))

no_hatch : (bytes : List ℕ) (zone : Item) (back : Bool) (e : ℕ) → item_seen bytes zone ≡ zone_seen back e → is_hatched bytes zone ≡ false
no_hatch bytes zone back e h =
    ap (passes (says_at bytes 0 (codes "hatch"))) (is_absent bytes (list_in bytes (codes "fill") (codes "mode") zone) (ap is_none (in_is bytes (codes "fill") (codes "mode") zone _ h)))

no_smoothing : (bytes : List ℕ) (zone : Item) (back : Bool) (e : ℕ) → item_seen bytes zone ≡ zone_seen back e → is_smoothed bytes zone ≡ false
no_smoothing bytes zone back e h =
    ap (passes (λ list. not (says_at bytes 0 (codes "none") list)))
    (is_absent bytes (list_in bytes (codes "fill") (codes "smoothing") zone) (ap is_none (in_is bytes (codes "fill") (codes "smoothing") zone _ h)))

-- ---- numbers

mode_one : is_other_mode (Some (codes "1")) ≡ false
unfolding whole_fault whole_number
mode_one = refl

mode_known : (bytes : List ℕ) (zone : Item) (back : Bool) (e : ℕ) → item_seen bytes zone ≡ zone_seen back e → has_other_mode bytes zone ≡ false
mode_known bytes zone back e h =
    passing_seen bytes (λ list. is_other_mode (text_at bytes 0 list)) (λ s. is_other_mode (said_at 0 s)) (λ x. ap is_other_mode (said_seen bytes 0 x)) (zones.mode_list bytes zone)
    ∙ ap (passing (λ s. is_other_mode (said_at 0 s))) (in_is bytes (codes "fill") (codes "island_removal_mode") zone _ h)
    ∙ mode_one

mode_is : (bytes : List ℕ) (zone : Item) (back : Bool) (e : ℕ) → item_seen bytes zone ≡ zone_seen back e → zones.mode_in bytes zone ≡ 1
mode_is bytes zone back e h = value_in_is whole_number bytes (codes "fill") (codes "island_removal_mode") 0 zone _ h ∙ one_is

no_area : (bytes : List ℕ) (zone : Item) (back : Bool) (e : ℕ) → item_seen bytes zone ≡ zone_seen back e → zones.island_area_list bytes zone ≡ None
no_area bytes zone back e h = ap (λ m. if m == 2 then list_in bytes (codes "fill") (codes "island_area_min") zone else None) (mode_is bytes zone back e h)

clearance_fault : length_fault (codes "0.2") ≡ None
unfolding length_fault
clearance_fault = refl

half_fault : length_fault (codes "0.5") ≡ None
unfolding length_fault
half_fault = refl

clearance_is : length_of (codes "0.2") ≡ pos 200000
unfolding length_of length_fault
clearance_is = refl

half_is : length_of (codes "0.5") ≡ pos 500000
unfolding length_of length_fault
half_is = refl

zone_numbers : (bytes : List ℕ) (zone : Item) (back : Bool) (e : ℕ) → e ≤ 500000000 → item_seen bytes zone ≡ zone_seen back e → zones.zone_fault bytes zone ≡ None
unfolding zones.zone_fault
zone_numbers bytes zone back e l h =
    first_of_nine (fault_at whole_fault bytes 0 (list_of bytes (codes "net") zone)) (fault_at whole_fault bytes 0 (list_of bytes (codes "priority") zone))
    (fault_at length_fault bytes 0 (zones.clearance_list bytes zone)) (fault_at length_fault bytes 0 (list_of bytes (codes "min_thickness") zone))
    (fault_at length_fault bytes 0 (zones.gap_list bytes zone)) (fault_at length_fault bytes 0 (zones.bridge_list bytes zone)) (fault_at whole_fault bytes 0 (zones.mode_list bytes zone))
    (fault_at area_fault bytes 0 (zones.island_area_list bytes zone)) (zones.corners_fault bytes zone)
    (fault_is whole_fault bytes (codes "net") 0 zone _ h ∙ net_fault back)
    (fault_is whole_fault bytes (codes "priority") 0 zone _ h)
    (fault_in_is length_fault bytes (codes "connect_pads") (codes "clearance") zone _ h ∙ clearance_fault)
    (fault_is length_fault bytes (codes "min_thickness") 0 zone _ h ∙ width_fault)
    (fault_in_is length_fault bytes (codes "fill") (codes "thermal_gap") zone _ h ∙ half_fault)
    (fault_in_is length_fault bytes (codes "fill") (codes "thermal_bridge_width") zone _ h ∙ half_fault)
    (fault_in_is whole_fault bytes (codes "fill") (codes "island_removal_mode") zone _ h ∙ one_fault)
    (ap (fault_at area_fault bytes 0) (no_area bytes zone back e h))
    (corners_read_well bytes zone back e l h)

zone_complete : (bytes : List ℕ) (zone : Item) (back : Bool) (e : ℕ) → item_seen bytes zone ≡ zone_seen back e → zone_lacks bytes zone ≡ false
zone_complete bytes zone back e h =
    none_of_three (outline_lacks bytes zone) (has_short bytes 1 (codes "net" ∷ codes "priority" ∷ codes "min_thickness" ∷ []) zone)
    (list_any (is_short 1) (zones.clearance_list bytes zone ∷ zones.gap_list bytes zone ∷ zones.bridge_list bytes zone ∷ zones.mode_list bytes zone ∷ zones.island_area_list bytes zone ∷ []))
    (outline_there bytes zone back e h)
    (short_is bytes 1 (codes "net" ∷ codes "priority" ∷ codes "min_thickness" ∷ []) zone _ h)
    (none_in_five (is_short 1 (zones.clearance_list bytes zone)) (is_short 1 (zones.gap_list bytes zone)) (is_short 1 (zones.bridge_list bytes zone)) (is_short 1 (zones.mode_list bytes zone))
    (is_short 1 (zones.island_area_list bytes zone))
    (short_in_is bytes (codes "connect_pads") (codes "clearance") zone _ h)
    (short_in_is bytes (codes "fill") (codes "thermal_gap") zone _ h)
    (short_in_is bytes (codes "fill") (codes "thermal_bridge_width") zone _ h)
    (short_in_is bytes (codes "fill") (codes "island_removal_mode") zone _ h)
    (ap (is_short 1) (no_area bytes zone back e h)))

thickness_read : (bytes : List ℕ) (zone : Item) (back : Bool) (e : ℕ) → item_seen bytes zone ≡ zone_seen back e → zones.thickness_in bytes zone ≡ pos 250000
thickness_read bytes zone back e h = value_is length_of bytes (codes "min_thickness") 0 (pos 250000) zone _ h ∙ width_is

zone_in_range : (bytes : List ℕ) (zone : Item) (back : Bool) (e : ℕ) → item_seen bytes zone ≡ zone_seen back e → zone_is_bad bytes zone ≡ false
zone_in_range bytes zone back e h =
    none_in_four (is_no_length (zones.clearance_in bytes zone)) (is_no_length (zones.thickness_in bytes zone)) (is_no_length (zones.gap_in bytes zone)) (is_no_length (zones.bridge_in bytes zone))
    (ap is_no_length (value_in_is length_of bytes (codes "connect_pads") (codes "clearance") (pos 0) zone _ h ∙ clearance_is))
    (ap is_no_length (thickness_read bytes zone back e h))
    (ap is_no_length (value_in_is length_of bytes (codes "fill") (codes "thermal_gap") (pos 500000) zone _ h ∙ half_is))
    (ap is_no_length (value_in_is length_of bytes (codes "fill") (codes "thermal_bridge_width") (pos 500000) zone _ h ∙ half_is))

-- ---- the whole

pub zone_none : (c : Context) (zone : Item) (back : Bool) (e : ℕ) (double many : Bool) → c.copper ≡ both_layers → c.nets ≡ three_nets → e ≤ 500000000 → item_seen c.bytes zone ≡ zone_seen back e
    → double ≡ false → many ≡ false → zone_kind c zone None double many ≡ None
unfolding zone_kind
zone_none c zone back e double many layers nets l h d m =
    zone_kinds_none (has_teardrop c.bytes zone) (is_hatched c.bytes zone) (is_smoothed c.bytes zone) (has_other_mode c.bytes zone) (has_two_outlines c.bytes zone) (has_arc c.bytes zone)
    (zone_lacks c.bytes zone) (zones.zone_fault c.bytes zone) (zone_is_bad c.bytes zone) (nat_lt (size_of (zones.thickness_in c.bytes zone)) 1000)
    (has_unknown c.bytes c.copper (zones.layer_list c.bytes zone)) (is_unknown_net c (net_of c.bytes zone)) double (many || is_long_outline c.bytes zone)
    (no_teardrop c.bytes zone back e h) (no_hatch c.bytes zone back e h) (no_smoothing c.bytes zone back e h) (mode_known c.bytes zone back e h) (one_outline c.bytes zone back e h)
    (no_arc c.bytes zone back e h) (zone_complete c.bytes zone back e h) (zone_numbers c.bytes zone back e l h) (zone_in_range c.bytes zone back e h)
    (ap (λ z. nat_lt (size_of z) 1000) (thickness_read c.bytes zone back e h))
    (side_known c.copper (meant_in c.bytes c.copper (zones.layer_list c.bytes zone)) back layers (zone_meant c.bytes c.copper zone back e layers h))
    (known_net c zone back nets (value_is whole_number c.bytes (codes "net") 0 0 zone _ h))
    d
    (none_of_two many (is_long_outline c.bytes zone) m (is_short_outline c.bytes zone back e h))
