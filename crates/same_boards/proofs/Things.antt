-- Tracks, vias, pads, zones, rule areas and edges of two texts with the same contents are the same but for places.
use Rattle.std.proofs.Common.{◌≡◌, ◌∙◌, refl, ap, ℕ, Bool, true, false, not, cond, List, [], ◌∷◌, map, codes, Option, None, Some, is_some}
use Rattle.std.specs.Prelude.{◌==◌, pos}
use Rattle.std.proofs.lemmas.Bool.{false≢true, true≢false}
use Rattle.grid_num.specs.declared.Point.{Point}
use Rattle.sexpr_text.specs.Items.{Item, is_headed}
use Rattle.board_text.specs.Fields.{list_of, list_in, is_text, says_at}
use Rattle.board_text.specs.Numbers.{first_of, length_fault, point_fault, whole_fault, area_fault, length_of, area_number, whole_number, is_short}
use Rattle.board_text.specs.Layers.{Name, name_at, has_copper, is_edge_name}
use Rattle.board_text.specs.Items.{point_at, point_in}
use Rattle.board_language.specs.declared.EdgeForm.{EdgeForm}
use Rattle.board_language.specs.declared.EdgeForm.TheVariants.{Line, Rectangle, Arc, Polygon, Other}
use Rattle.board_language.specs.Tracks.{track_fault, via_fault, track_layer, via_layer}
use Rattle.board_language.specs.Zones as zones
use Rattle.board_language.specs.Zones.{layer_list, is_read_zone, keeps_copper_out, is_read_area, points_list, lists_in, corners_read, corner_in_units, outline_of, clearance_list, gap_list, mode_list, clearance_in, thickness_in, gap_in, bridge_in, mode_in, island_area_list, island_area_in, islands_by, islands_in, first_join, join_in, zone_of, area_of, corners_fault, zone_fault}
use Rattle.board_language.specs.Edges as edges
use Rattle.board_language.specs.Edges.{form_of, is_edge, straight, sides_of, rectangle_corners, edges_as, edges_read, is_wide, needed_points, lacks_point, lacks_as, lacks_points, fault_as, edge_fault, is_unread, is_curved_as, is_curved}
use Rattle.same_boards.specs.Contents.{fill_heads, Each}
use Rattle.same_boards.proofs.Each.{each_map, each_any}
use Rattle.same_boards.proofs.Fields.{both_or, both_and, both_cond, also, alone, two, Differs, Same, SameOption, Weak, weak_of, same_inside, list_two, has_two, in_two, either_two, lists_two, headed_two, begins_two, said_two, texts_two, names_two, value_two, fault_two, passes_two, short_two, any_two, number_two, number_fault_two, point_two, point_in_two, point_fault_two, point_fault_in_two, copper_two, drawn_two}

-- what a word at a place says
module _ (a b : List ℕ) where
  pub says_two : (place : ℕ) (text : List ℕ) (x y : Item) → Same a b x y → says_at a place text x ≡ says_at b place text y
  says_two place text x y e = ap (is_text text) (said_two a b place x y e)

  -- ---- tracks and vias

  pub track_layer_two : (i j : Item) → Weak a b i j → track_layer a i ≡ track_layer b j
  track_layer_two i j w = ap (name_at 0) (names_two a b (list_of a (codes "layer") i) (list_of b (codes "layer") j) (list_two a b (codes "layer") refl i j w))

  pub track_fault_two : (i j : Item) → Weak a b i j → track_fault a i ≡ track_fault b j
  unfolding track_fault
  track_fault_two i j w =
      ap first_of (also (point_fault_in_two a b (codes "start") refl i j w) (also (point_fault_in_two a b (codes "end") refl i j w)
      (also (number_fault_two a b length_fault 0 (codes "width") refl i j w) (alone (number_fault_two a b whole_fault 0 (codes "net") refl i j w)))))

  pub via_layer_two : (place : ℕ) (i j : Item) → Weak a b i j → via_layer a place i ≡ via_layer b place j
  via_layer_two place i j w = ap (name_at place) (names_two a b (list_of a (codes "layers") i) (list_of b (codes "layers") j) (list_two a b (codes "layers") refl i j w))

  pub via_fault_two : (i j : Item) → Weak a b i j → via_fault a i ≡ via_fault b j
  unfolding via_fault
  via_fault_two i j w =
      ap first_of (also (point_fault_in_two a b (codes "at") refl i j w)
      (also (number_fault_two a b length_fault 0 (codes "size") refl i j w) (alone (number_fault_two a b whole_fault 0 (codes "net") refl i j w))))

  -- ---- drawings and edges

  pub corners_in_two : (o p : Option Item) → SameOption a b o p → Each (Same a b) (lists_in o) (lists_in p)
  corners_in_two None None e = tt
  corners_in_two None (Some y) e = absurd (false≢true (ap is_some e))
  corners_in_two (Some x) None e = absurd (true≢false (ap is_some e))
  corners_in_two (Some x) (Some y) e = lists_two a b x y (same_inside a b x y e)

  pub edge_corners_two : (i j : Item) → Weak a b i j → Each (Same a b) (edges.corner_lists a i) (edges.corner_lists b j)
  edge_corners_two i j w = corners_in_two (list_of a (codes "pts") i) (list_of b (codes "pts") j) (list_two a b (codes "pts") refl i j w)

  pub form_two : (i j : Item) → Same a b i j → form_of a i ≡ form_of b j
  form_two i j e =
      both_cond (headed_two a b (codes "gr_line") i j e) refl (both_cond (headed_two a b (codes "gr_rect") i j e) refl
      (both_cond (headed_two a b (codes "gr_arc") i j e) refl (both_cond (headed_two a b (codes "gr_poly") i j e) refl refl)))

  pub edge_two : (i j : Item) → Same a b i j → is_edge a i ≡ is_edge b j
  edge_two i j e = both_and (begins_two a b (codes "gr_") i j e) (drawn_two a b is_edge_name i j (weak_of a b i j e))

  points_two : (xs ys : List Item) → Each (Same a b) xs ys → map (λ list. point_at a (Some list)) xs ≡ map (λ list. point_at b (Some list)) ys
  points_two xs ys h = each_map (Same a b) (λ list. point_at a (Some list)) (λ list. point_at b (Some list)) (λ x y e. point_two a b (Some x) (Some y) (ap Some e)) xs ys h

  edges_as_two : (form : EdgeForm) (i j : Item) → Same a b i j → edges_as form a i ≡ edges_as form b j
  edges_as_two Line i j e = ap (λ z. z ∷ []) (two straight (point_in_two a b (codes "start") refl i j (weak_of a b i j e)) (point_in_two a b (codes "end") refl i j (weak_of a b i j e)))
  edges_as_two Rectangle i j e =
      ap sides_of (two rectangle_corners (point_in_two a b (codes "start") refl i j (weak_of a b i j e)) (point_in_two a b (codes "end") refl i j (weak_of a b i j e)))
  edges_as_two Arc i j e =
      ap (λ z. z ∷ []) (two (λ (p q : Point). record { from = p; to = q; bow = true }) (point_in_two a b (codes "start") refl i j (weak_of a b i j e)) (point_in_two a b (codes "end") refl i j (weak_of a b i j e)))
  edges_as_two Polygon i j e = ap sides_of (points_two (edges.corner_lists a i) (edges.corner_lists b j) (edge_corners_two i j (weak_of a b i j e)))
  edges_as_two Other i j e = refl

  pub edges_two : (i j : Item) → Same a b i j → edges_read a i ≡ edges_read b j
  unfolding edges_read
  edges_two i j e = both_cond (edge_two i j e) (edges_as_two (form_of a i) i j e ∙ ap (λ f. edges_as f b j) (form_two i j e)) refl

  lacks_point_two : (name : List ℕ) → Differs fill_heads name → (i j : Item) → Weak a b i j → lacks_point a i name ≡ lacks_point b j name
  lacks_point_two name d i j w = both_or (ap not (has_two a b name d i j w)) (short_two a b 2 (list_of a name i) (list_of b name j) (list_two a b name d i j w))

  lacks_as_two : (form : EdgeForm) (i j : Item) → Same a b i j → lacks_as form a i ≡ lacks_as form b j
  lacks_as_two Line i j e = any_two a b (lacks_point a i) (lacks_point b j) (λ name d. lacks_point_two name d i j (weak_of a b i j e)) (needed_points Line) refl
  lacks_as_two Rectangle i j e = any_two a b (lacks_point a i) (lacks_point b j) (λ name d. lacks_point_two name d i j (weak_of a b i j e)) (needed_points Rectangle) refl
  lacks_as_two Arc i j e = any_two a b (lacks_point a i) (lacks_point b j) (λ name d. lacks_point_two name d i j (weak_of a b i j e)) (needed_points Arc) refl
  lacks_as_two Polygon i j e =
      each_any (Same a b) (λ list. is_short 2 (Some list)) (λ list. is_short 2 (Some list)) (λ x y h. short_two a b 2 (Some x) (Some y) (ap Some h))
      (edges.corner_lists a i) (edges.corner_lists b j) (edge_corners_two i j (weak_of a b i j e))
  lacks_as_two Other i j e = refl

  pub lacks_points_two : (i j : Item) → Same a b i j → lacks_points a i ≡ lacks_points b j
  unfolding lacks_points
  lacks_points_two i j e = lacks_as_two (form_of a i) i j e ∙ ap (λ f. lacks_as f b j) (form_two i j e)

  fault_as_two : (form : EdgeForm) (i j : Item) → Same a b i j → fault_as form a i ≡ fault_as form b j
  fault_as_two Line i j e = ap first_of (also (point_fault_in_two a b (codes "start") refl i j (weak_of a b i j e)) (alone (point_fault_in_two a b (codes "end") refl i j (weak_of a b i j e))))
  fault_as_two Rectangle i j e = ap first_of (also (point_fault_in_two a b (codes "start") refl i j (weak_of a b i j e)) (alone (point_fault_in_two a b (codes "end") refl i j (weak_of a b i j e))))
  fault_as_two Arc i j e =
      ap first_of (also (point_fault_in_two a b (codes "start") refl i j (weak_of a b i j e)) (also (point_fault_in_two a b (codes "mid") refl i j (weak_of a b i j e))
      (alone (point_fault_in_two a b (codes "end") refl i j (weak_of a b i j e)))))
  fault_as_two Polygon i j e =
      ap first_of (each_map (Same a b) (λ list. point_fault a (Some list)) (λ list. point_fault b (Some list)) (λ x y h. point_fault_two a b (Some x) (Some y) (ap Some h))
      (edges.corner_lists a i) (edges.corner_lists b j) (edge_corners_two i j (weak_of a b i j e)))
  fault_as_two Other i j e = refl

  pub edge_fault_two : (i j : Item) → Same a b i j → edge_fault a i ≡ edge_fault b j
  unfolding edge_fault
  edge_fault_two i j e = fault_as_two (form_of a i) i j e ∙ ap (λ f. fault_as f b j) (form_two i j e)

  wide_two : (i j : Item) → Weak a b i j → is_wide (point_in a (codes "start") i) (point_in a (codes "mid") i) (point_in a (codes "end") i)
      ≡ is_wide (point_in b (codes "start") j) (point_in b (codes "mid") j) (point_in b (codes "end") j)
  wide_two i j w =
      two (λ p q. is_wide p q (point_in a (codes "end") i)) (point_in_two a b (codes "start") refl i j w) (point_in_two a b (codes "mid") refl i j w)
      ∙ ap (is_wide (point_in b (codes "start") j) (point_in b (codes "mid") j)) (point_in_two a b (codes "end") refl i j w)

  curved_as_two : (form : EdgeForm) (i j : Item) → Same a b i j → is_curved_as form a i ≡ is_curved_as form b j
  curved_as_two Line i j e = refl
  curved_as_two Rectangle i j e = refl
  curved_as_two Arc i j e = both_and (ap not (both_or (lacks_points_two i j e) (ap is_some (edge_fault_two i j e)))) (wide_two i j (weak_of a b i j e))
  curved_as_two Polygon i j e =
      each_any (Same a b) (λ list. not (is_headed a (codes "xy") list)) (λ list. not (is_headed b (codes "xy") list)) (λ x y h. ap not (headed_two a b (codes "xy") x y h))
      (edges.corner_lists a i) (edges.corner_lists b j) (edge_corners_two i j (weak_of a b i j e))
  curved_as_two Other i j e = refl

  pub curved_two : (i j : Item) → Same a b i j → is_curved a i ≡ is_curved b j
  unfolding is_curved
  curved_two i j e = curved_as_two (form_of a i) i j e ∙ ap (λ f. is_curved_as f b j) (form_two i j e)

  -- ---- zones and rule areas

  pub layer_list_two : (i j : Item) → Weak a b i j → SameOption a b (layer_list a i) (layer_list b j)
  layer_list_two i j w = either_two a b (codes "layer") (codes "layers") refl refl i j w

  pub read_zone_two : (copper : List Name) (i j : Item) → Weak a b i j → has_copper a copper (layer_list a i) ≡ has_copper b copper (layer_list b j)
  read_zone_two copper i j w = copper_two a b copper (layer_list a i) (layer_list b j) (layer_list_two i j w)

  pub keeps_out_two : (i j : Item) → Weak a b i j → keeps_copper_out a i ≡ keeps_copper_out b j
  keeps_out_two i j w =
      passes_two a b (says_at a 0 (codes "not_allowed")) (says_at b 0 (codes "not_allowed")) (says_two 0 (codes "not_allowed"))
      (list_in a (codes "keepout") (codes "copperpour") i) (list_in b (codes "keepout") (codes "copperpour") j) (in_two a b (codes "keepout") (codes "copperpour") refl refl i j w)

  pub points_list_two : (i j : Item) → Weak a b i j → SameOption a b (points_list a i) (points_list b j)
  points_list_two i j w = in_two a b (codes "polygon") (codes "pts") refl refl i j w

  pub corners_two : (i j : Item) → Weak a b i j → Each (Same a b) (zones.corner_lists a i) (zones.corner_lists b j)
  corners_two i j w = corners_in_two (points_list a i) (points_list b j) (points_list_two i j w)

  pub corners_read_two : (i j : Item) → Weak a b i j → corners_read a i ≡ corners_read b j
  unfolding corners_read
  corners_read_two i j w = points_two (zones.corner_lists a i) (zones.corner_lists b j) (corners_two i j w)

  pub corners_fault_two : (i j : Item) → Weak a b i j → corners_fault a i ≡ corners_fault b j
  unfolding corners_fault
  corners_fault_two i j w =
      ap first_of (each_map (Same a b) (λ list. point_fault a (Some list)) (λ list. point_fault b (Some list)) (λ x y h. point_fault_two a b (Some x) (Some y) (ap Some h))
      (zones.corner_lists a i) (zones.corner_lists b j) (corners_two i j w))

  pub clearance_list_two : (i j : Item) → Weak a b i j → SameOption a b (clearance_list a i) (clearance_list b j)
  clearance_list_two i j w = in_two a b (codes "connect_pads") (codes "clearance") refl refl i j w

  pub gap_list_two : (i j : Item) → Weak a b i j → SameOption a b (gap_list a i) (gap_list b j)
  gap_list_two i j w = in_two a b (codes "fill") (codes "thermal_gap") refl refl i j w

  pub bridge_width_two : (i j : Item) → Weak a b i j → SameOption a b (zones.bridge_list a i) (zones.bridge_list b j)
  bridge_width_two i j w = in_two a b (codes "fill") (codes "thermal_bridge_width") refl refl i j w

  pub mode_list_two : (i j : Item) → Weak a b i j → SameOption a b (mode_list a i) (mode_list b j)
  mode_list_two i j w = in_two a b (codes "fill") (codes "island_removal_mode") refl refl i j w

  pub clearance_two : (i j : Item) → Weak a b i j → clearance_in a i ≡ clearance_in b j
  clearance_two i j w = value_two a b length_of 0 (pos 0) (clearance_list a i) (clearance_list b j) (clearance_list_two i j w)

  pub thickness_two : (i j : Item) → Weak a b i j → thickness_in a i ≡ thickness_in b j
  thickness_two i j w = number_two a b length_of 0 (pos 250000) (codes "min_thickness") refl i j w

  pub gap_two : (i j : Item) → Weak a b i j → gap_in a i ≡ gap_in b j
  gap_two i j w = value_two a b length_of 0 (pos 500000) (gap_list a i) (gap_list b j) (gap_list_two i j w)

  pub bridge_two : (i j : Item) → Weak a b i j → bridge_in a i ≡ bridge_in b j
  bridge_two i j w = value_two a b length_of 0 (pos 500000) (zones.bridge_list a i) (zones.bridge_list b j) (bridge_width_two i j w)

  pub mode_two : (i j : Item) → Weak a b i j → mode_in a i ≡ mode_in b j
  mode_two i j w = value_two a b whole_number 0 0 (mode_list a i) (mode_list b j) (mode_list_two i j w)

  area_there : (m n : Bool) (o p : Option Item) → m ≡ n → SameOption a b o p → SameOption a b (cond m o None) (cond n p None)
  area_there true true o p e h = h
  area_there true false o p e h = absurd (true≢false e)
  area_there false true o p e h = absurd (false≢true e)
  area_there false false o p e h = refl

  pub area_list_two : (i j : Item) → Weak a b i j → SameOption a b (island_area_list a i) (island_area_list b j)
  area_list_two i j w =
      area_there (mode_in a i == 2) (mode_in b j == 2) (list_in a (codes "fill") (codes "island_area_min") i) (list_in b (codes "fill") (codes "island_area_min") j)
      (ap (λ n. n == 2) (mode_two i j w)) (in_two a b (codes "fill") (codes "island_area_min") refl refl i j w)

  pub islands_two : (i j : Item) → Weak a b i j → islands_in a i ≡ islands_in b j
  unfolding islands_in
  islands_two i j w = two islands_by (mode_two i j w) (value_two a b area_number 0 10000000 (island_area_list a i) (island_area_list b j) (area_list_two i j w))

  join_there : (o p : Option Item) → SameOption a b o p → join_in a o ≡ join_in b p
  join_there None None e = refl
  join_there None (Some y) e = absurd (false≢true (ap is_some e))
  join_there (Some x) None e = absurd (true≢false (ap is_some e))
  join_there (Some x) (Some y) e = ap first_join (texts_two a b x y (same_inside a b x y e))

  pub join_two : (i j : Item) → Weak a b i j → join_in a (list_of a (codes "connect_pads") i) ≡ join_in b (list_of b (codes "connect_pads") j)
  join_two i j w = join_there (list_of a (codes "connect_pads") i) (list_of b (codes "connect_pads") j) (list_two a b (codes "connect_pads") refl i j w)

  pub zone_fault_two : (i j : Item) → Weak a b i j → zone_fault a i ≡ zone_fault b j
  unfolding zone_fault
  zone_fault_two i j w =
      ap first_of (also (number_fault_two a b whole_fault 0 (codes "net") refl i j w) (also (number_fault_two a b whole_fault 0 (codes "priority") refl i j w)
      (also (fault_two a b length_fault 0 (clearance_list a i) (clearance_list b j) (clearance_list_two i j w)) (also (number_fault_two a b length_fault 0 (codes "min_thickness") refl i j w)
      (also (fault_two a b length_fault 0 (gap_list a i) (gap_list b j) (gap_list_two i j w)) (also (fault_two a b length_fault 0 (zones.bridge_list a i) (zones.bridge_list b j) (bridge_width_two i j w))
      (also (fault_two a b whole_fault 0 (mode_list a i) (mode_list b j) (mode_list_two i j w)) (also (fault_two a b area_fault 0 (island_area_list a i) (island_area_list b j) (area_list_two i j w))
      (alone (corners_fault_two i j w))))))))))
