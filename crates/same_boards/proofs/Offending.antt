-- How an item offends is told by its contents, whatever its place.
use Rattle.std.proofs.Common.{◌≡◌, ◌∙◌, refl, ap, ℕ, Bool, false, not, ◌||◌, ◌&&◌, List, [], ◌∷◌, length, filter, slice_get, codes, Option, None, Some}
use Rattle.std.specs.Prelude.{◌==◌, nat_lt, is_none, bytes_eq}
use Rattle.std.specs.List.{list_any}
use Rattle.outline_slab.specs.declared.error.OutlineFault.{OutlineFault}
use Rattle.sexpr_text.specs.Items.{Item, children_of, is_headed}
use Rattle.board_text.specs.Lists.{is_list, is_string, headed, behind_head}
use Rattle.board_text.specs.Fields.{list_of, list_in, has_list, text_at, says_at, texts_of}
use Rattle.board_text.specs.Numbers.{is_decimal, is_zero, first_of, whole_fault, whole_number, is_short}
use Rattle.board_text.specs.Layers.{is_among, has_double, is_copper, is_layer, layers_in, name_of_layer, layer_fault, layers_fault, layer_names_in, has_unknown, is_edge_name, layer_names}
use Rattle.board_text.specs.Items.{Context, size_of, is_no_length, is_no_size, has_number, is_unknown_net, net_of}
use Rattle.board_language.specs.declared.offence.OffenceKind.TheVariants as kinds
use Rattle.board_language.specs.Pads.{is_type, is_shape, is_hole, is_read_pad, has_read_pad, drill_of, drill_width, drill_height, ratio_in, bridge_list}
use Rattle.board_language.specs.Zones as zones
use Rattle.board_language.specs.Edges.{is_on_copper}
use Rattle.board_language.specs.Offences.{when, number_offence, first_kind, layers_kind, net_kind, track_lacks, track_kind, via_lacks, via_kind, is_bad_connect, has_angle, footprint_kind, pad_types, pad_shapes, is_zero_text, is_chamfered, is_off_hole, pad_lacks, is_bad_ratio, has_bad_drill, pad_is_bad, pad_kind, has_teardrop, is_hatched, is_smoothed, has_two_outlines, has_arc, outline_lacks, is_long_outline, bad_outline, area_kind, is_other_mode, has_other_mode, zone_lacks, zone_is_bad, zone_kind, drawing_kind, footprint_drawing_kind}
use Rattle.same_boards.specs.Contents.{Each}
use Rattle.same_boards.proofs.Each.{each_map, each_any, each_given, each_filter, each_length}
use Rattle.same_boards.proofs.Fields.{both_or, both_and, both_cond, also, alone, two, Same, SameOption, Weak, weak_of, list_two, count_two, has_two, in_two, children_two, behind_two, headed_two, begins_two, list_kind_two, said_two, texts_two, names_two, value_two, fault_two, there_two, short_two, get_two, passes_two, any_two, lacks_two, has_short_two, bad_length_two, bad_lengths_two, number_two, bad_size_two, net_two, unknown_two, drawn_two}
use Rattle.same_boards.proofs.Things as things
use Rattle.same_boards.proofs.Things.{says_two}
use Rattle.same_boards.proofs.Pads as own
use Rattle.same_boards.proofs.Values.{read_pad_told}

pub same : {X : Type 0} (x : X) → x ≡ x
same x = refl

any_of : {X : Type 0} (f g : X → Bool) → ((x : X) → f x ≡ g x) → (xs : List X) → list_any f xs ≡ list_any g xs
any_of f g h [] = refl
any_of f g h (x ∷ xs) = both_or (h x) (any_of f g h xs)

module _ (a b : List ℕ) where
  -- ---- layers

  string_two : (x y : Item) → Same a b x y → is_string x ≡ is_string y
  string_two x y e = ap (λ (s : Rattle.text_shapes.specs.Seen.ItemSeen). Rattle.board_text.specs.Lists.is_string_kind s.kind) e

  pub layers_in_two : (i j : Item) → Same a b i j → Each (Same a b) (layers_in i) (layers_in j)
  layers_in_two i j e =
      each_filter (Same a b) (Same a b) is_layer is_layer (λ x y h. both_or (list_kind_two a b x y h) (string_two x y h)) (λ x y h t. h) (behind_head i) (behind_head j) (behind_two a b i j e)

  pub name_of_two : (x y : Item) → Same a b x y → name_of_layer a x ≡ name_of_layer b y
  name_of_two x y e = both_cond (list_kind_two a b x y e) (said_two a b 0 x y e) refl

  pub names_in_two : (i j : Item) → Same a b i j → layer_names_in a i ≡ layer_names_in b j
  names_in_two i j e = each_given (Same a b) (name_of_layer a) (name_of_layer b) name_of_two (layers_in i) (layers_in j) (layers_in_two i j e)

  layer_fault_two : (x y : Item) → Same a b x y → layer_fault a x ≡ layer_fault b y
  layer_fault_two x y e = there_two a b whole_fault (slice_get (children_of x) 0) (slice_get (children_of y) 0) (get_two a b 0 (children_of x) (children_of y) (children_two a b x y e))

  layers_fault_two : (i j : Item) → Same a b i j → layers_fault a i ≡ layers_fault b j
  unfolding layers_fault
  layers_fault_two i j e = ap first_of (each_map (Same a b) (layer_fault a) (layer_fault b) layer_fault_two (layers_in i) (layers_in j) (layers_in_two i j e))

  -- ---- tracks and vias

  named_two : (name : List ℕ) → Rattle.same_boards.proofs.Fields.Differs Rattle.same_boards.specs.Contents.fill_heads name → (i j : Item) → Weak a b i j → layer_names a name i ≡ layer_names b name j
  named_two name d i j w = names_two a b (list_of a name i) (list_of b name j) (list_two a b name d i j w)

  track_lacks_two : (i j : Item) → Weak a b i j → track_lacks a i ≡ track_lacks b j
  track_lacks_two i j w =
      both_or (lacks_two a b (codes "start" ∷ codes "end" ∷ codes "width" ∷ []) refl i j w)
      (both_or (ap (λ names. nat_lt (length names) 1) (named_two (codes "layer") refl i j w))
      (both_or (has_short_two a b 2 (codes "start" ∷ codes "end" ∷ []) refl i j w) (has_short_two a b 1 (codes "width" ∷ codes "net" ∷ []) refl i j w)))

  via_lacks_two : (i j : Item) → Weak a b i j → via_lacks a i ≡ via_lacks b j
  via_lacks_two i j w =
      both_or (lacks_two a b (codes "at" ∷ codes "size" ∷ []) refl i j w)
      (both_or (ap (λ names. nat_lt (length names) 2) (named_two (codes "layers") refl i j w))
      (both_or (has_short_two a b 2 (codes "at" ∷ []) refl i j w) (has_short_two a b 1 (codes "size" ∷ codes "net" ∷ []) refl i j w)))

  -- ---- footprints and pads

  bad_connect_two : (i j : Item) → Weak a b i j → is_bad_connect a i ≡ is_bad_connect b j
  bad_connect_two i j w = ap (nat_lt 3) (number_two a b whole_number 0 0 (codes "zone_connect") refl i j w)

  has_angle_two : (i j : Item) → Weak a b i j → has_angle a i ≡ has_angle b j
  has_angle_two i j w = ap (λ o. not (is_none o)) (own.angle_two a b i j w)

  chamfered_two : (i j : Item) → Weak a b i j → is_chamfered a i ≡ is_chamfered b j
  chamfered_two i j w =
      passes_two a b (λ list. not (is_zero_text (text_at a 0 list))) (λ list. not (is_zero_text (text_at b 0 list))) (λ x y e. ap (λ o. not (is_zero_text o)) (said_two a b 0 x y e))
      (list_of a (codes "chamfer_ratio") i) (list_of b (codes "chamfer_ratio") j) (list_two a b (codes "chamfer_ratio") refl i j w)

  off_hole_two : (i j : Item) → Weak a b i j → is_off_hole a i ≡ is_off_hole b j
  off_hole_two i j w =
      passes_two a b (λ list. list_any (λ text. is_decimal text && not (is_zero text)) (texts_of a list)) (λ list. list_any (λ text. is_decimal text && not (is_zero text)) (texts_of b list))
      (λ x y e. ap (list_any (λ text. is_decimal text && not (is_zero text))) (texts_two a b x y e))
      (list_in a (codes "drill") (codes "offset") i) (list_in b (codes "drill") (codes "offset") j) (in_two a b (codes "drill") (codes "offset") refl refl i j w)

  pad_lacks_two : (i j : Item) → Weak a b i j → pad_lacks a i ≡ pad_lacks b j
  pad_lacks_two i j w =
      both_or (lacks_two a b (codes "at" ∷ codes "size" ∷ []) refl i j w)
      (both_or (has_short_two a b 2 (codes "at" ∷ codes "size" ∷ []) refl i j w)
      (both_or (has_short_two a b 1 (codes "net" ∷ codes "roundrect_rratio" ∷ codes "clearance" ∷ codes "zone_connect" ∷ codes "thermal_gap" ∷ []) refl i j w)
      (short_two a b 1 (bridge_list a i) (bridge_list b j) (own.bridge_list_two a b i j w))))

  bad_drill_two : (i j : Item) → Same a b i j → has_bad_drill a i ≡ has_bad_drill b j
  bad_drill_two i j e =
      let w = weak_of a b i j e in
      both_and (own.hole_two a b i j e)
      (both_or (ap is_no_length (own.width_two a b (drill_of a i) (drill_of b j) (own.drill_two a b i j w))) (ap is_no_length (own.height_two a b (drill_of a i) (drill_of b j) (own.drill_two a b i j w))))

  pad_bad_two : (i j : Item) → Same a b i j → pad_is_bad a i ≡ pad_is_bad b j
  pad_bad_two i j e =
      let w = weak_of a b i j e in
      both_or (ap is_no_size (own.size_two a b 0 i j w)) (both_or (ap is_no_size (own.size_two a b 1 i j w)) (both_or (bad_drill_two i j e) (both_or (ap is_bad_ratio (own.ratio_two a b i j w))
      (both_or (bad_lengths_two a b (codes "clearance" ∷ codes "thermal_gap" ∷ []) refl i j w)
      (both_or (bad_length_two a b (bridge_list a i) (bridge_list b j) (own.bridge_list_two a b i j w)) (bad_connect_two i j w))))))

  -- ---- zones

  teardrop_two : (i j : Item) → Weak a b i j → has_teardrop a i ≡ has_teardrop b j
  teardrop_two i j w =
      passes_two a b (λ attr. has_list a (codes "teardrop") attr || list_any (λ text. bytes_eq text (codes "teardrop")) (texts_of a attr))
      (λ attr. has_list b (codes "teardrop") attr || list_any (λ text. bytes_eq text (codes "teardrop")) (texts_of b attr))
      (λ x y e. both_or (has_two a b (codes "teardrop") refl x y (weak_of a b x y e)) (ap (list_any (λ text. bytes_eq text (codes "teardrop"))) (texts_two a b x y e)))
      (list_of a (codes "attr") i) (list_of b (codes "attr") j) (list_two a b (codes "attr") refl i j w)

  hatched_two : (i j : Item) → Weak a b i j → is_hatched a i ≡ is_hatched b j
  hatched_two i j w =
      passes_two a b (says_at a 0 (codes "hatch")) (says_at b 0 (codes "hatch")) (says_two a b 0 (codes "hatch"))
      (list_in a (codes "fill") (codes "mode") i) (list_in b (codes "fill") (codes "mode") j) (in_two a b (codes "fill") (codes "mode") refl refl i j w)

  smoothed_two : (i j : Item) → Weak a b i j → is_smoothed a i ≡ is_smoothed b j
  smoothed_two i j w =
      passes_two a b (λ list. not (says_at a 0 (codes "none") list)) (λ list. not (says_at b 0 (codes "none") list)) (λ x y e. ap not (says_two a b 0 (codes "none") x y e))
      (list_in a (codes "fill") (codes "smoothing") i) (list_in b (codes "fill") (codes "smoothing") j) (in_two a b (codes "fill") (codes "smoothing") refl refl i j w)

  two_outlines_two : (i j : Item) → Weak a b i j → has_two_outlines a i ≡ has_two_outlines b j
  two_outlines_two i j w = ap (nat_lt 1) (each_length (Same a b) (headed a (codes "polygon") i) (headed b (codes "polygon") j) (count_two a b (codes "polygon") refl i j w))

  arc_two : (i j : Item) → Weak a b i j → has_arc a i ≡ has_arc b j
  arc_two i j w =
      each_any (Same a b) (λ list. not (is_headed a (codes "xy") list)) (λ list. not (is_headed b (codes "xy") list)) (λ x y e. ap not (headed_two a b (codes "xy") x y e))
      (zones.corner_lists a i) (zones.corner_lists b j) (things.corners_two a b i j w)

  absent_two : (o p : Option Item) → SameOption a b o p → is_none o ≡ is_none p
  absent_two None None e = refl
  absent_two None (Some y) e = ap is_none e
  absent_two (Some x) None e = ap is_none e
  absent_two (Some x) (Some y) e = refl

  outline_lacks_two : (i j : Item) → Weak a b i j → outline_lacks a i ≡ outline_lacks b j
  outline_lacks_two i j w =
      both_or (absent_two (zones.points_list a i) (zones.points_list b j) (things.points_list_two a b i j w))
      (each_any (Same a b) (λ list. is_short 2 (Some list)) (λ list. is_short 2 (Some list)) (λ x y e. short_two a b 2 (Some x) (Some y) (ap Some e))
      (zones.corner_lists a i) (zones.corner_lists b j) (things.corners_two a b i j w))

  long_two : (i j : Item) → Weak a b i j → is_long_outline a i ≡ is_long_outline b j
  long_two i j w = ap (nat_lt 20000) (each_length (Same a b) (zones.corner_lists a i) (zones.corner_lists b j) (things.corners_two a b i j w))

  other_mode_two : (i j : Item) → Weak a b i j → has_other_mode a i ≡ has_other_mode b j
  other_mode_two i j w =
      passes_two a b (λ list. is_other_mode (text_at a 0 list)) (λ list. is_other_mode (text_at b 0 list)) (λ x y e. ap is_other_mode (said_two a b 0 x y e))
      (zones.mode_list a i) (zones.mode_list b j) (things.mode_list_two a b i j w)

  zone_lacks_two : (i j : Item) → Weak a b i j → zone_lacks a i ≡ zone_lacks b j
  zone_lacks_two i j w =
      both_or (outline_lacks_two i j w) (both_or (has_short_two a b 1 (codes "net" ∷ codes "priority" ∷ codes "min_thickness" ∷ []) refl i j w)
      (both_or (short_two a b 1 (zones.clearance_list a i) (zones.clearance_list b j) (things.clearance_list_two a b i j w))
      (both_or (short_two a b 1 (zones.gap_list a i) (zones.gap_list b j) (things.gap_list_two a b i j w))
      (both_or (short_two a b 1 (zones.bridge_list a i) (zones.bridge_list b j) (things.bridge_width_two a b i j w))
      (both_or (short_two a b 1 (zones.mode_list a i) (zones.mode_list b j) (things.mode_list_two a b i j w))
      (both_or (short_two a b 1 (zones.island_area_list a i) (zones.island_area_list b j) (things.area_list_two a b i j w)) (same false)))))))

  zone_bad_two : (i j : Item) → Weak a b i j → zone_is_bad a i ≡ zone_is_bad b j
  zone_bad_two i j w =
      ap (list_any is_no_length) (also (things.clearance_two a b i j w) (also (things.thickness_two a b i j w) (also (things.gap_two a b i j w) (alone (things.bridge_two a b i j w)))))

-- ---- two boards with the same layers and nets
module _ (c d : Context) (k : c.copper ≡ d.copper) (n : c.nets ≡ d.nets) where
  unknown_net_told : (i j : Item) → Weak c.bytes d.bytes i j → is_unknown_net c (net_of c.bytes i) ≡ is_unknown_net d (net_of d.bytes j)
  unknown_net_told i j w = two (λ nets m. not (m == 0) && not (has_number nets m)) n (net_two c.bytes d.bytes i j w)

  unknown_told : (o p : Option Item) → SameOption c.bytes d.bytes o p → has_unknown c.bytes c.copper o ≡ has_unknown d.bytes d.copper p
  unknown_told o p e = unknown_two c.bytes d.bytes c.copper o p e ∙ ap (λ z. has_unknown d.bytes z p) k

  pub layers_told : (i j : Item) → Same c.bytes d.bytes i j → layers_kind c i ≡ layers_kind d j
  unfolding layers_kind
  layers_told i j e =
      ap first_kind (also (ap (when kinds.MissingPart) (each_any (Same c.bytes d.bytes) (λ layer. is_none (name_of_layer c.bytes layer)) (λ layer. is_none (name_of_layer d.bytes layer))
      (λ x y h. ap is_none (name_of_two c.bytes d.bytes x y h)) (layers_in i) (layers_in j) (layers_in_two c.bytes d.bytes i j e)))
      (also (ap number_offence (layers_fault_two c.bytes d.bytes i j e)) (also (ap (λ names. when kinds.DoubleLayer (has_double names)) (names_in_two c.bytes d.bytes i j e))
      (alone (ap (λ names. when kinds.TooMany (nat_lt 32 (length (filter is_copper names)))) (names_in_two c.bytes d.bytes i j e))))))

  pub net_told : (i j : Item) (double many : Bool) → Same c.bytes d.bytes i j → net_kind c i double many ≡ net_kind d j double many
  unfolding net_kind
  net_told i j double many e =
      ap first_kind (also (ap (when kinds.MissingPart) (short_two c.bytes d.bytes 1 (Some i) (Some j) (ap Some e)))
      (also (ap number_offence (fault_two c.bytes d.bytes whole_fault 0 (Some i) (Some j) (ap Some e)))
      (also (same (when kinds.DoubleNet double)) (alone (same (when kinds.TooMany many))))))

  pub track_told : (i j : Item) (double many : Bool) → Weak c.bytes d.bytes i j → track_kind c i double many ≡ track_kind d j double many
  unfolding track_kind
  track_told i j double many w =
      ap first_kind (also (ap (when kinds.MissingPart) (track_lacks_two c.bytes d.bytes i j w)) (also (ap number_offence (things.track_fault_two c.bytes d.bytes i j w))
      (also (ap (when kinds.BadSize) (bad_size_two c.bytes d.bytes (codes "width") refl i j w))
      (also (ap (when kinds.UnknownLayer) (ap not (two is_among k (things.track_layer_two c.bytes d.bytes i j w))))
      (also (ap (when kinds.UnknownNet) (unknown_net_told i j w)) (also (same (when kinds.DoubleStamp double)) (alone (same (when kinds.TooMany many)))))))))

  pub via_told : (i j : Item) (double many : Bool) → Weak c.bytes d.bytes i j → via_kind c i double many ≡ via_kind d j double many
  unfolding via_kind
  via_told i j double many w =
      ap first_kind (also (ap (when kinds.MissingPart) (via_lacks_two c.bytes d.bytes i j w)) (also (ap number_offence (things.via_fault_two c.bytes d.bytes i j w))
      (also (ap (when kinds.BadSize) (bad_size_two c.bytes d.bytes (codes "size") refl i j w))
      (also (ap (when kinds.UnknownLayer) (ap not (both_and (two is_among k (things.via_layer_two c.bytes d.bytes 0 i j w)) (two is_among k (things.via_layer_two c.bytes d.bytes 1 i j w)))))
      (also (ap (when kinds.UnknownNet) (unknown_net_told i j w)) (also (same (when kinds.DoubleStamp double)) (alone (same (when kinds.TooMany many)))))))))

  has_read_told : (i j : Item) → Same c.bytes d.bytes i j → has_read_pad c i ≡ has_read_pad d j
  has_read_told i j e =
      each_any (Same c.bytes d.bytes) (is_read_pad c) (is_read_pad d) (read_pad_told c d k) (Rattle.board_language.specs.Pads.pads_of c.bytes i) (Rattle.board_language.specs.Pads.pads_of d.bytes j)
      (each_filter (Same c.bytes d.bytes) (Same c.bytes d.bytes) (is_headed c.bytes (codes "pad")) (is_headed d.bytes (codes "pad")) (headed_two c.bytes d.bytes (codes "pad")) (λ x y h t. h)
      (Rattle.board_text.specs.Lists.lists_of i) (Rattle.board_text.specs.Lists.lists_of j) (Rattle.same_boards.proofs.Fields.lists_two c.bytes d.bytes i j e))

  pub footprint_told : (i j : Item) → Same c.bytes d.bytes i j → footprint_kind c i ≡ footprint_kind d j
  unfolding footprint_kind
  footprint_told i j e =
      let w = weak_of c.bytes d.bytes i j e in
      ap first_kind (also (ap (when kinds.MissingPart) (both_or (both_and (has_read_told i j e) (ap not (has_two c.bytes d.bytes (codes "at") refl i j w)))
      (both_or (has_short_two c.bytes d.bytes 2 (codes "at" ∷ []) refl i j w)
      (has_short_two c.bytes d.bytes 1 (codes "clearance" ∷ codes "zone_connect" ∷ codes "thermal_gap" ∷ codes "thermal_width" ∷ []) refl i j w))))
      (also (ap number_offence (own.footprint_fault_two c.bytes d.bytes i j w))
      (also (ap (when kinds.Angle) (both_and (has_read_told i j e) (ap not (has_angle_two c.bytes d.bytes i j w))))
      (alone (ap (when kinds.BadSize) (both_or (bad_lengths_two c.bytes d.bytes (codes "clearance" ∷ codes "thermal_gap" ∷ codes "thermal_width" ∷ []) refl i j w) (bad_connect_two c.bytes d.bytes i j w)))))))

  pub pad_told : (f g i j : Item) (many : Bool) → Same c.bytes d.bytes f g → Same c.bytes d.bytes i j → pad_kind c f i many ≡ pad_kind d g j many
  unfolding pad_kind
  pad_told f g i j many s e =
      let w = weak_of c.bytes d.bytes i j e in
      ap first_kind (also (ap (when kinds.PadType) (ap not (any_of (λ name. is_type c.bytes name i) (λ name. is_type d.bytes name j) (λ name. own.type_two c.bytes d.bytes name i j e) pad_types)))
      (also (ap (when kinds.PadShape) (both_or (ap not (any_of (λ name. is_shape c.bytes name i) (λ name. is_shape d.bytes name j) (λ name. own.form_two c.bytes d.bytes name i j e) pad_shapes))
      (chamfered_two c.bytes d.bytes i j w)))
      (also (ap (when kinds.PadOffset) (off_hole_two c.bytes d.bytes i j w)) (also (ap (when kinds.MissingPart) (pad_lacks_two c.bytes d.bytes i j w))
      (also (ap number_offence (own.pad_fault_two c.bytes d.bytes f g i j s e)) (also (ap (when kinds.Angle) (ap not (has_angle_two c.bytes d.bytes i j w)))
      (also (ap (when kinds.BadSize) (pad_bad_two c.bytes d.bytes i j e))
      (also (ap (when kinds.UnknownLayer) (unknown_told (list_of c.bytes (codes "layers") i) (list_of d.bytes (codes "layers") j) (list_two c.bytes d.bytes (codes "layers") refl i j w)))
      (also (ap (when kinds.UnknownNet) (unknown_net_told i j w)) (alone (same (when kinds.TooMany many))))))))))))

  pub area_told : (i j : Item) (outline : Option OutlineFault) (double many : Bool) → Weak c.bytes d.bytes i j → area_kind c i outline double many ≡ area_kind d j outline double many
  unfolding area_kind
  area_told i j outline double many w =
      ap first_kind (also (ap (when kinds.ManyOutlines) (two_outlines_two c.bytes d.bytes i j w)) (also (ap (when kinds.PolygonArc) (arc_two c.bytes d.bytes i j w))
      (also (ap (when kinds.MissingPart) (outline_lacks_two c.bytes d.bytes i j w)) (also (ap number_offence (things.corners_fault_two c.bytes d.bytes i j w))
      (also (ap (when kinds.UnknownLayer) (unknown_told (zones.layer_list c.bytes i) (zones.layer_list d.bytes j) (things.layer_list_two c.bytes d.bytes i j w)))
      (also (same (when kinds.DoubleStamp double)) (also (same (bad_outline outline))
      (alone (ap (when kinds.TooMany) (both_or (same many) (long_two c.bytes d.bytes i j w)))))))))))

  pub zone_told : (i j : Item) (outline : Option OutlineFault) (double many : Bool) → Weak c.bytes d.bytes i j → zone_kind c i outline double many ≡ zone_kind d j outline double many
  unfolding zone_kind
  zone_told i j outline double many w =
      ap first_kind (also (ap (when kinds.Teardrop) (teardrop_two c.bytes d.bytes i j w)) (also (ap (when kinds.HatchFill) (hatched_two c.bytes d.bytes i j w))
      (also (ap (when kinds.Smoothing) (smoothed_two c.bytes d.bytes i j w)) (also (ap (when kinds.IslandArea) (other_mode_two c.bytes d.bytes i j w))
      (also (ap (when kinds.ManyOutlines) (two_outlines_two c.bytes d.bytes i j w)) (also (ap (when kinds.PolygonArc) (arc_two c.bytes d.bytes i j w))
      (also (ap (when kinds.MissingPart) (zone_lacks_two c.bytes d.bytes i j w)) (also (ap number_offence (things.zone_fault_two c.bytes d.bytes i j w))
      (also (ap (when kinds.BadSize) (zone_bad_two c.bytes d.bytes i j w)) (also (ap (λ z. when kinds.Thin (nat_lt (size_of z) 1000)) (things.thickness_two c.bytes d.bytes i j w))
      (also (ap (when kinds.UnknownLayer) (unknown_told (zones.layer_list c.bytes i) (zones.layer_list d.bytes j) (things.layer_list_two c.bytes d.bytes i j w)))
      (also (ap (when kinds.UnknownNet) (unknown_net_told i j w)) (also (same (when kinds.DoubleStamp double)) (also (same (bad_outline outline))
      (alone (ap (when kinds.TooMany) (both_or (same many) (long_two c.bytes d.bytes i j w))))))))))))))))))

  on_copper_told : (i j : Item) → Weak c.bytes d.bytes i j → is_on_copper c.bytes i ≡ is_on_copper d.bytes j
  on_copper_told i j w = drawn_two c.bytes d.bytes is_copper i j w

  pub drawing_told : (i j : Item) (many : Bool) → Same c.bytes d.bytes i j → drawing_kind c i many ≡ drawing_kind d j many
  unfolding drawing_kind
  drawing_told i j many e =
      ap first_kind (also (ap (when kinds.CopperGraphic) (on_copper_told i j (weak_of c.bytes d.bytes i j e)))
      (also (ap (when kinds.EdgeCurve) (both_and (things.edge_two c.bytes d.bytes i j e) (things.curved_two c.bytes d.bytes i j e)))
      (also (ap (when kinds.MissingPart) (both_and (things.edge_two c.bytes d.bytes i j e) (things.lacks_points_two c.bytes d.bytes i j e)))
      (also (ap number_offence (both_cond (things.edge_two c.bytes d.bytes i j e) (things.edge_fault_two c.bytes d.bytes i j e) (same None)))
      (alone (same (when kinds.TooMany many)))))))

  pub footprint_drawing_told : (i j : Item) → Same c.bytes d.bytes i j → footprint_drawing_kind c i ≡ footprint_drawing_kind d j
  unfolding footprint_drawing_kind
  footprint_drawing_told i j e =
      ap first_kind (also (ap (when kinds.CopperGraphic) (on_copper_told i j (weak_of c.bytes d.bytes i j e)))
      (alone (ap (when kinds.FootprintEdge) (both_and (begins_two c.bytes d.bytes (codes "fp_") i j e) (drawn_two c.bytes d.bytes is_edge_name i j (weak_of c.bytes d.bytes i j e))))))
