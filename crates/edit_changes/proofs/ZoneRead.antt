-- What is read of a zone where a list in it may be another: all but what that list says.
use Rattle.std.proofs.Common.{◌≡◌, ◌∙◌, refl, ap, sym, ℕ, Bool, true, false, cond, ◌||◌, ◌&&◌, List, [], map, codes, Option, None, Some, is_some}
use Rattle.std.specs.Prelude.{◌==◌, find, filter, pos}
use Rattle.std.proofs.lemmas.Bool.{and_parts, false≢true, true≢false}
use Rattle.grid_num.specs.declared.Point.{Point}
use Rattle.sexpr_text.specs.Items.{Item, children_of, is_headed}
use Rattle.board_text.specs.Lists.{is_list}
use Rattle.board_text.specs.Fields.{list_of, list_in, has_list}
use Rattle.board_text.specs.Numbers.{length_of, whole_number, area_number}
use Rattle.board_text.specs.Layers.{has_copper, layer_set}
use Rattle.board_text.specs.Items.{Context, point_at, size_of}
use Rattle.board_language.specs.declared.Join.{Join}
use Rattle.board_language.specs.declared.IslandMode.{IslandMode}
use Rattle.board_language.specs.declared.board.Zone.{Zone}
use Rattle.board_language.specs.Zones.{layer_list, is_read_zone, points_list, corners_read, corner_in_units, clearance_list, gap_list, bridge_list, mode_list, clearance_in, thickness_in, gap_in, bridge_in, mode_in, island_area_list, islands_by, islands_in, join_in, zone_of}
use Rattle.board_language.specs.Zones as zones
use Rattle.text_shapes.specs.Shapes.{forest_shape}
use Rattle.text_shapes.specs.Seen.{ItemSeen, item_seen, parts}
use Rattle.text_shapes.proofs.Seen.{find_map, parts_seen, heads, heads_seen, is_group}
use Rattle.same_boards.specs.Contents.{without, Each}
use Rattle.same_boards.specs.Alike.{unplaced_zone}
use Rattle.same_boards.proofs.Each.{each_map}
use Rattle.same_boards.proofs.Fields.{both_or, both_and, two, keeps, parts_without, find_kept, find_filter, Differs, heads_kept, Same, SameOption, then_two, value_two, point_two, copper_two, layers_two}
use Rattle.same_boards.proofs.Things.{corners_in_two}

-- the names of the lists that are read of a zone, but for its priority and `connect_pads`, are none of these
pub record AreOther (names : List (List ℕ)) : Type 0 where
  pub polygon : Differs names (codes "polygon")
  pub layer : Differs names (codes "layer")
  pub layers : Differs names (codes "layers")
  pub net : Differs names (codes "net")
  pub thickness : Differs names (codes "min_thickness")
  pub fill : Differs names (codes "fill")
  pub keepout : Differs names (codes "keepout")

-- ---- lists that aren't those
module _ (a b : List ℕ) (names : List (List ℕ)) (i j : Item) (w : without names (forest_shape a i.inner) ≡ without names (forest_shape b j.inner)) where
  kept_parts : filter (keeps names) (parts (forest_shape a i.inner)) ≡ filter (keeps names) (parts (forest_shape b j.inner))
  kept_parts = sym (parts_without names (forest_shape a i.inner)) ∙ ap parts w ∙ parts_without names (forest_shape b j.inner)

  find_but : (P Q : Item → Bool) (p : ItemSeen → Bool) → ((x : Item) → P x ≡ p (item_seen a x)) → ((x : Item) → Q x ≡ p (item_seen b x)) → ((s : ItemSeen) → p s ≡ true → keeps names s ≡ true)
      → SameOption a b (find P (children_of i)) (find Q (children_of j))
  find_but P Q p f g h =
      find_map (item_seen a) P p f (children_of i) ∙ ap (find p) (parts_seen a i.inner) ∙ find_kept p (keeps names) h (parts (forest_shape a i.inner))
      ∙ ap (find p) kept_parts
      ∙ sym (find_map (item_seen b) Q p g (children_of j) ∙ ap (find p) (parts_seen b j.inner) ∙ find_kept p (keeps names) h (parts (forest_shape b j.inner)))

  pub list_but : (name : List ℕ) → Differs names name → SameOption a b (list_of a name i) (list_of b name j)
  list_but name d = find_but (is_headed a name) (is_headed b name) (heads name) (heads_seen a name) (heads_seen b name) (heads_kept names name d)

  pub has_but : (name : List ℕ) → Differs names name → has_list a name i ≡ has_list b name j
  has_but name d = there (list_of a name i) (list_of b name j) (list_but name d)
    where
      there : (o p : Option Item) → SameOption a b o p → is_some o ≡ is_some p
      there None None e = refl
      there None (Some y) e = ap is_some e
      there (Some x) None e = ap is_some e
      there (Some x) (Some y) e = refl

  either_kept : (one other : List ℕ) → Differs names one → Differs names other → (s : ItemSeen) → (heads one s || heads other s) ≡ true → keeps names s ≡ true
  either_kept one other d f s e = pick (heads one s) (heads other s) e (heads_kept names one d s) (heads_kept names other f s)
    where
      pick : (x y : Bool) → (x || y) ≡ true → (x ≡ true → keeps names s ≡ true) → (y ≡ true → keeps names s ≡ true) → keeps names s ≡ true
      pick true y q h g = h refl
      pick false y q h g = g q

  layer_but : Differs names (codes "layer") → Differs names (codes "layers") → SameOption a b (layer_list a i) (layer_list b j)
  layer_but c d =
      ap (Rattle.text_shapes.specs.Seen.sight a) (find_filter (λ x. is_headed a (codes "layer") x || is_headed a (codes "layers") x) is_list (children_of i))
      ∙ find_but (λ x. is_list x && (is_headed a (codes "layer") x || is_headed a (codes "layers") x)) (λ x. is_list x && (is_headed b (codes "layer") x || is_headed b (codes "layers") x))
      (λ s. is_group s && (heads (codes "layer") s || heads (codes "layers") s)) (λ x. both_and refl (both_or (heads_seen a (codes "layer") x) (heads_seen a (codes "layers") x)))
      (λ x. both_and refl (both_or (heads_seen b (codes "layer") x) (heads_seen b (codes "layers") x)))
      (λ s e. either_kept (codes "layer") (codes "layers") c d s (and_parts (is_group s) (heads (codes "layer") s || heads (codes "layers") s) e).1)
      ∙ sym (ap (Rattle.text_shapes.specs.Seen.sight b) (find_filter (λ x. is_headed b (codes "layer") x || is_headed b (codes "layers") x) is_list (children_of j)))

  pub in_but : (outer name : List ℕ) → Differs names outer → Differs Rattle.same_boards.specs.Contents.fill_heads name → SameOption a b (list_in a outer name i) (list_in b outer name j)
  in_but outer name c d = then_two a b name d (list_of a outer i) (list_of b outer j) (list_but outer c)

  points_but : (xs ys : List Item) → Each (Same a b) xs ys → map (λ list. point_at a (Some list)) xs ≡ map (λ list. point_at b (Some list)) ys
  points_but xs ys h = each_map (Same a b) (λ list. point_at a (Some list)) (λ list. point_at b (Some list)) (λ x y e. point_two a b (Some x) (Some y) (ap Some e)) xs ys h

  corners_but : Differs names (codes "polygon") → corners_read a i ≡ corners_read b j
  unfolding corners_read
  corners_but d =
      points_but (zones.corner_lists a i) (zones.corner_lists b j) (corners_in_two a b (points_list a i) (points_list b j) (in_but (codes "polygon") (codes "pts") d refl))

  mode_but : Differs names (codes "fill") → mode_in a i ≡ mode_in b j
  mode_but d = value_two a b whole_number 0 0 (mode_list a i) (mode_list b j) (in_but (codes "fill") (codes "island_removal_mode") d refl)

  area_there : (m n : Bool) (o p : Option Item) → m ≡ n → SameOption a b o p → SameOption a b (cond m o None) (cond n p None)
  area_there true true o p e h = h
  area_there true false o p e h = absurd (true≢false e)
  area_there false true o p e h = absurd (false≢true e)
  area_there false false o p e h = refl

  area_list_but : Differs names (codes "fill") → SameOption a b (island_area_list a i) (island_area_list b j)
  area_list_but d =
      area_there (mode_in a i == 2) (mode_in b j == 2) (list_in a (codes "fill") (codes "island_area_min") i) (list_in b (codes "fill") (codes "island_area_min") j)
      (ap (λ n. n == 2) (mode_but d)) (in_but (codes "fill") (codes "island_area_min") d refl)

  islands_but : Differs names (codes "fill") → islands_in a i ≡ islands_in b j
  unfolding islands_in
  islands_but d = two islands_by (mode_but d) (value_two a b area_number 0 10000000 (island_area_list a i) (island_area_list b j) (area_list_but d))

-- ---- zones field by field

abbrev pub zone_by : List Point → ℕ → ℕ → ℕ → Join → ℕ → ℕ → ℕ → ℕ → IslandMode → Zone
zone_by o l n p j c t g b i =
    record {
      outline = o;
      layers = l;
      net = n;
      priority = p;
      join = j;
      clearance = c;
      thickness = t;
      gap = g;
      bridge = b;
      islands = i;
      spans = record { priority = None; connect = None; clearance = None; tail = 0; fills = [] };
      span = record { from = 0; to = 0 };
      line = 0;
    }

zone_parts : {o o' : List Point} {l l' n n' p p' : ℕ} {j j' : Join} {c c' t t' g g' b b' : ℕ} {i i' : IslandMode}
    → o ≡ o' → l ≡ l' → n ≡ n' → p ≡ p' → j ≡ j' → c ≡ c' → t ≡ t' → g ≡ g' → b ≡ b' → i ≡ i' → zone_by o l n p j c t g b i ≡ zone_by o' l' n' p' j' c' t' g' b' i'
zone_parts e1 e2 e3 e4 e5 e6 e7 e8 e9 e10 = rw (e1, e2, e3, e4, e5, e6, e7, e8, e9, e10) refl

-- the zones are the same but for these values of their priority and clearance
module _ (c d : Context) (k : c.copper ≡ d.copper) (names : List (List ℕ)) (o : AreOther names) (i j : Item)
    (w : without names (forest_shape c.bytes i.inner) ≡ without names (forest_shape d.bytes j.inner))
  where
    pub read_but : is_read_zone c i ≡ is_read_zone d j
    read_but =
        copper_two c.bytes d.bytes c.copper (layer_list c.bytes i) (layer_list d.bytes j) (layer_but c.bytes d.bytes names i j w o.layer o.layers)
        ∙ ap (λ z. has_copper d.bytes z (layer_list d.bytes j)) k

    pub zone_but : (p q : ℕ) → (zone_of d j).priority ≡ p → (zone_of d j).clearance ≡ q → (zone_of c i).join ≡ (zone_of d j).join
        → unplaced_zone (zone_of d j) ≡ Rattle.edit_changes.specs.Changes.with_priority p (Rattle.edit_changes.specs.Changes.with_clearance q (unplaced_zone (zone_of c i)))
    unfolding zone_of
    zone_but p q e f g =
        sym (zone_parts (ap (map corner_in_units) (corners_but c.bytes d.bytes names i j w o.polygon))
        (layers_two c.bytes d.bytes c.copper (layer_list c.bytes i) (layer_list d.bytes j) (layer_but c.bytes d.bytes names i j w o.layer o.layers)
        ∙ ap (λ z. layer_set d.bytes z (layer_list d.bytes j)) k)
        (value_two c.bytes d.bytes whole_number 0 0 (list_of c.bytes (codes "net") i) (list_of d.bytes (codes "net") j) (list_but c.bytes d.bytes names i j w (codes "net") o.net)) (sym e) g (sym f)
        (ap size_of (value_two c.bytes d.bytes length_of 0 (pos 250000) (list_of c.bytes (codes "min_thickness") i) (list_of d.bytes (codes "min_thickness") j)
        (list_but c.bytes d.bytes names i j w (codes "min_thickness") o.thickness)))
        (ap size_of (value_two c.bytes d.bytes length_of 0 (pos 500000) (gap_list c.bytes i) (gap_list d.bytes j) (in_but c.bytes d.bytes names i j w (codes "fill") (codes "thermal_gap") o.fill refl)))
        (ap size_of (value_two c.bytes d.bytes length_of 0 (pos 500000) (zones.bridge_list c.bytes i) (zones.bridge_list d.bytes j)
        (in_but c.bytes d.bytes names i j w (codes "fill") (codes "thermal_bridge_width") o.fill refl)))
        (islands_but c.bytes d.bytes names i j w o.fill))
