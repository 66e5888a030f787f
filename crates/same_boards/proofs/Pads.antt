-- Pads of two texts with the same contents are the same but for the lines on which they stand.
use Rattle.std.proofs.Common.{◌≡◌, ◌∙◌, refl, ap, ℕ, Bool, true, false, not, cond, ◌||◌, List, [], ◌∷◌, take, filter, slice_get, codes, Option, None, Some, is_some, option_and_then}
use Rattle.std.specs.Prelude.{max, unwrap_or, pos, ◌+ℤ◌}
use Rattle.std.specs.List.{list_any}
use Rattle.std.proofs.lemmas.Bool.{false≢true, true≢false}
use Rattle.grid_num.specs.declared.Point.{Point}
use Rattle.grid_num.specs.declared.read.NumFault.TheVariants.{OutOfRange}
use Rattle.sexpr_text.specs.Items.{Item, is_headed}
use Rattle.board_text.specs.Lists.{is_list, lists_of, behind_head}
use Rattle.board_text.specs.Fields.{list_of, text_of, is_text}
use Rattle.board_text.specs.Numbers.{first_of, text_fault, item_fault, length_fault, whole_fault, ratio_fault, read_or, length_of, length_at, ratio_of, whole_number, value_at, quarter_turns}
use Rattle.board_text.specs.Layers.{Name, has_copper}
use Rattle.board_text.specs.Items.{size_of}
use Rattle.board_language.specs.Pads.{Size, is_type, is_shape, is_hole, kind_of, pads_of, turns_of, turns_at, turns_in, turned_by, pad_place, is_far, place_fault, without_oval, drill_items, drill_of, length_from, drill_width, drill_height, written_size, drilled_size, swapped, size_on_board, rounded_by, corner_radius, ratio_in, shape_of, some_length, own_length, bridge_list, join_by_number, own_join, drill_fault, pad_fault, footprint_fault}
use Rattle.same_boards.specs.Contents.{fill_heads, Each}
use Rattle.same_boards.proofs.Each.{each_map, each_any, each_filter}
use Rattle.same_boards.proofs.Fields.{both_or, both_cond, also, alone, two, Differs, Same, SameOption, Weak, weak_of, same_inside, list_two, either_two, lists_two, behind_two, headed_two, text_two, list_kind_two, value_two, fault_two, get_two, option_two, number_two, number_fault_two, point_in_two, point_fault_in_two, copper_two}
use Rattle.same_boards.proofs.Things.{says_two}

without_is : (bytes : List ℕ) (x : Item) (xs : List Item) → without_oval bytes (x ∷ xs) ≡ cond (is_text (codes "oval") (text_of bytes x)) xs (x ∷ xs)
without_is bytes x xs = by_case (is_list x) refl
  where
    by_case : (b : Bool) → is_list x ≡ b → without_oval bytes (x ∷ xs) ≡ cond (is_text (codes "oval") (text_of bytes x)) xs (x ∷ xs)
    by_case true e = rw e refl
    by_case false e = rw e refl

module _ (a b : List ℕ) where
  -- ---- types, layers and angles

  pub type_two : (name : List ℕ) (i j : Item) → Same a b i j → is_type a name i ≡ is_type b name j
  type_two name i j e = says_two a b 1 name i j e

  pub form_two : (name : List ℕ) (i j : Item) → Same a b i j → is_shape a name i ≡ is_shape b name j
  form_two name i j e = says_two a b 2 name i j e

  pub hole_two : (i j : Item) → Same a b i j → is_hole a i ≡ is_hole b j
  hole_two i j e = type_two (codes "np_thru_hole") i j e

  pub kind_two : (i j : Item) → Same a b i j → kind_of a i ≡ kind_of b j
  kind_two i j e = both_cond (hole_two i j e) refl (both_cond (type_two (codes "thru_hole") i j e) refl refl)

  pub read_two : (copper : List Name) (i j : Item) → Same a b i j
      → (is_hole a i || has_copper a copper (list_of a (codes "layers") i)) ≡ (is_hole b j || has_copper b copper (list_of b (codes "layers") j))
  read_two copper i j e =
      both_or (hole_two i j e) (copper_two a b copper (list_of a (codes "layers") i) (list_of b (codes "layers") j) (list_two a b (codes "layers") refl i j (weak_of a b i j e)))

  pub any_read_two : (copper : List Name) (f g : Item) → Same a b f g
      → list_any (λ pad. is_hole a pad || has_copper a copper (list_of a (codes "layers") pad)) (pads_of a f)
      ≡ list_any (λ pad. is_hole b pad || has_copper b copper (list_of b (codes "layers") pad)) (pads_of b g)
  any_read_two copper f g e =
      each_any (Same a b) (λ pad. is_hole a pad || has_copper a copper (list_of a (codes "layers") pad)) (λ pad. is_hole b pad || has_copper b copper (list_of b (codes "layers") pad)) (read_two copper)
      (pads_of a f) (pads_of b g)
      (each_filter (Same a b) (Same a b) (is_headed a (codes "pad")) (is_headed b (codes "pad")) (headed_two a b (codes "pad")) (λ x y h t. h) (lists_of f) (lists_of g) (lists_two a b f g e))

  turns_there : (o p : Option Item) → SameOption a b o p → turns_of a o ≡ turns_of b p
  turns_there None None e = refl
  turns_there None (Some y) e = absurd (false≢true (ap is_some e))
  turns_there (Some x) None e = absurd (true≢false (ap is_some e))
  turns_there (Some x) (Some y) e = ap (option_and_then quarter_turns) (text_two a b x y (same_inside a b x y e))

  turns_at_two : (o p : Option Item) → SameOption a b o p → turns_at a o ≡ turns_at b p
  turns_at_two None None e = refl
  turns_at_two None (Some y) e = absurd (false≢true (ap is_some e))
  turns_at_two (Some x) None e = absurd (true≢false (ap is_some e))
  turns_at_two (Some x) (Some y) e =
      turns_there (slice_get (behind_head x) 2) (slice_get (behind_head y) 2) (get_two a b 2 (behind_head x) (behind_head y) (behind_two a b x y (same_inside a b x y e)))

  pub angle_two : (i j : Item) → Weak a b i j → turns_at a (list_of a (codes "at") i) ≡ turns_at b (list_of b (codes "at") j)
  angle_two i j w = turns_at_two (list_of a (codes "at") i) (list_of b (codes "at") j) (list_two a b (codes "at") refl i j w)

  turns_two : (i j : Item) → Weak a b i j → turns_in a i ≡ turns_in b j
  turns_two i j w = ap (λ o. unwrap_or o 0) (angle_two i j w)

  -- ---- places and sizes

  pub place_two : (f g i j : Item) → Same a b f g → Same a b i j → pad_place a f i ≡ pad_place b g j
  unfolding pad_place
  place_two f g i j c e =
      two (λ (base own : Point). record { x = base.x +ℤ own.x; y = base.y +ℤ own.y }) (point_in_two a b (codes "at") refl f g (weak_of a b f g c))
      (two turned_by (turns_two f g (weak_of a b f g c)) (point_in_two a b (codes "at") refl i j (weak_of a b i j e)))

  place_fault_two : (f g i j : Item) → Same a b f g → Same a b i j → place_fault a f i ≡ place_fault b g j
  place_fault_two f g i j c e = ap (λ (p : Point). cond (is_far p.x || is_far p.y) (Some OutOfRange) None) (place_two f g i j c e)

  oval_step : (x y : Item) (xs ys : List Item) (p q : Bool) → p ≡ q → Same a b x y → Each (Same a b) xs ys → Each (Same a b) (cond p xs (x ∷ xs)) (cond q ys (y ∷ ys))
  oval_step x y xs ys true true e s r = r
  oval_step x y xs ys true false e s r = absurd (true≢false e)
  oval_step x y xs ys false true e s r = absurd (false≢true e)
  oval_step x y xs ys false false e s r = (s, r)

  oval_two : (xs ys : List Item) → Each (Same a b) xs ys → Each (Same a b) (without_oval a xs) (without_oval b ys)
  oval_two [] [] e = tt
  oval_two [] (y ∷ ys) e = absurd e
  oval_two (x ∷ xs) [] e = absurd e
  oval_two (x ∷ xs) (y ∷ ys) e =
      rw (without_is a x xs, without_is b y ys)
      (oval_step x y xs ys (is_text (codes "oval") (text_of a x)) (is_text (codes "oval") (text_of b y)) (ap (is_text (codes "oval")) (text_two a b x y e.0)) e.0 e.1)

  take_two : (xs ys : List Item) → Each (Same a b) xs ys → Each (Same a b) (take 2 xs) (take 2 ys)
  take_two [] [] e = tt
  take_two [] (y ∷ ys) e = absurd e
  take_two (x ∷ xs) [] e = absurd e
  take_two (x ∷ []) (y ∷ []) e = (e.0, tt)
  take_two (x ∷ []) (y ∷ z ∷ ys) e = absurd e.1
  take_two (x ∷ z ∷ xs) (y ∷ []) e = absurd e.1
  take_two (x ∷ z ∷ xs) (y ∷ u ∷ ys) e = (e.0, (e.1.0, tt))

  drill_there : (o p : Option Item) → SameOption a b o p → Each (Same a b) (drill_items a o) (drill_items b p)
  drill_there None None e = tt
  drill_there None (Some y) e = absurd (false≢true (ap is_some e))
  drill_there (Some x) None e = absurd (true≢false (ap is_some e))
  drill_there (Some x) (Some y) e =
      take_two (without_oval a (filter (λ item. not (is_list item)) (behind_head x))) (without_oval b (filter (λ item. not (is_list item)) (behind_head y)))
      (oval_two (filter (λ item. not (is_list item)) (behind_head x)) (filter (λ item. not (is_list item)) (behind_head y))
      (each_filter (Same a b) (Same a b) (λ item. not (is_list item)) (λ item. not (is_list item)) (λ u v h. ap not (list_kind_two a b u v h)) (λ u v h t. h) (behind_head x) (behind_head y)
      (behind_two a b x y (same_inside a b x y e))))

  pub drill_two : (i j : Item) → Weak a b i j → Each (Same a b) (drill_of a i) (drill_of b j)
  drill_two i j w = drill_there (list_of a (codes "drill") i) (list_of b (codes "drill") j) (list_two a b (codes "drill") refl i j w)

  length_from_two : (x y : Item) → Same a b x y → length_from a x ≡ length_from b y
  length_from_two x y e = ap (read_or length_of (pos 0)) (text_two a b x y e)

  pub width_two : (xs ys : List Item) → Each (Same a b) xs ys → drill_width a xs ≡ drill_width b ys
  width_two [] [] e = refl
  width_two [] (y ∷ ys) e = absurd e
  width_two (x ∷ xs) [] e = absurd e
  width_two (x ∷ xs) (y ∷ ys) e = length_from_two x y e.0

  pub height_two : (xs ys : List Item) → Each (Same a b) xs ys → drill_height a xs ≡ drill_height b ys
  height_two [] [] e = refl
  height_two [] (y ∷ ys) e = absurd e
  height_two (x ∷ xs) [] e = absurd e
  height_two (x ∷ []) (y ∷ []) e = length_from_two x y e.0
  height_two (x ∷ []) (y ∷ z ∷ ys) e = absurd e.1
  height_two (x ∷ z ∷ xs) (y ∷ []) e = absurd e.1
  height_two (x ∷ z ∷ xs) (y ∷ u ∷ ys) e = length_from_two z u e.1.0

  pub size_two : (place : ℕ) (i j : Item) → Weak a b i j → length_at a place (list_of a (codes "size") i) ≡ length_at b place (list_of b (codes "size") j)
  size_two place i j w = number_two a b length_of place (pos 0) (codes "size") refl i j w

  written_two : (i j : Item) → Weak a b i j → written_size a i ≡ written_size b j
  written_two i j w = two (λ (x y : ℕ). record { width = x; height = y }) (ap size_of (size_two 0 i j w)) (ap size_of (size_two 1 i j w))

  drilled_two : (i j : Item) → Same a b i j → drilled_size a i ≡ drilled_size b j
  drilled_two i j e =
      both_cond (hole_two i j e)
      (two (λ (x y : ℕ). record { width = x; height = y })
      (two max (ap size_of (size_two 0 i j (weak_of a b i j e))) (ap size_of (width_two (drill_of a i) (drill_of b j) (drill_two i j (weak_of a b i j e)))))
      (two max (ap size_of (size_two 1 i j (weak_of a b i j e))) (ap size_of (height_two (drill_of a i) (drill_of b j) (drill_two i j (weak_of a b i j e))))))
      (written_two i j (weak_of a b i j e))

  pub on_board_two : (i j : Item) → Same a b i j → size_on_board a i ≡ size_on_board b j
  unfolding size_on_board
  on_board_two i j e = two swapped (turns_two i j (weak_of a b i j e)) (drilled_two i j e)

  pub ratio_two : (i j : Item) → Weak a b i j → ratio_in a i ≡ ratio_in b j
  ratio_two i j w = number_two a b ratio_of 0 (pos 2500000000) (codes "roundrect_rratio") refl i j w

  shape_at : (at : Point) (s : Size) (i j : Item) → Same a b i j → shape_of a i at s ≡ shape_of b j at s
  unfolding shape_of
  shape_at at s i j e =
      both_cond (form_two (codes "circle") i j e) refl (both_cond (form_two (codes "oval") i j e) refl (both_cond (form_two (codes "roundrect") i j e)
      (ap (λ q. rounded_by (corner_radius (size_of q) s) at s) (ratio_two i j (weak_of a b i j e))) refl))

  pub shape_two : (f g i j : Item) → Same a b f g → Same a b i j → shape_of a i (pad_place a f i) (size_on_board a i) ≡ shape_of b j (pad_place b g j) (size_on_board b j)
  shape_two f g i j c e =
      shape_at (pad_place a f i) (size_on_board a i) i j e ∙ two (shape_of b j) (place_two f g i j c e) (on_board_two i j e)

  -- ---- how a pad is joined

  pub own_two : (name : List ℕ) → Differs fill_heads name → (i j : Item) → Weak a b i j → own_length a name i ≡ own_length b name j
  own_two name d i j w = ap some_length (number_two a b length_of 0 (pos 0) name d i j w)

  pub bridge_list_two : (i j : Item) → Weak a b i j → SameOption a b (bridge_list a i) (bridge_list b j)
  bridge_list_two i j w = either_two a b (codes "thermal_bridge_width") (codes "thermal_width") refl refl i j w

  pub own_join_two : (i j : Item) → Weak a b i j → own_join a i ≡ own_join b j
  own_join_two i j w =
      option_two a b (λ list. join_by_number (value_at whole_number a 0 0 (Some list))) (λ list. join_by_number (value_at whole_number b 0 0 (Some list)))
      (λ x y e. ap join_by_number (value_two a b whole_number 0 0 (Some x) (Some y) (ap Some e)))
      (list_of a (codes "zone_connect") i) (list_of b (codes "zone_connect") j) (list_two a b (codes "zone_connect") refl i j w)

  -- ---- numbers that can't be read

  drill_fault_two : (i j : Item) → Same a b i j → drill_fault a i ≡ drill_fault b j
  drill_fault_two i j e =
      both_cond (hole_two i j e)
      (ap first_of (each_map (Same a b) (item_fault length_fault a) (item_fault length_fault b) (λ x y h. ap (text_fault length_fault) (text_two a b x y h)) (drill_of a i) (drill_of b j)
      (drill_two i j (weak_of a b i j e)))) refl

  pub pad_fault_two : (f g i j : Item) → Same a b f g → Same a b i j → pad_fault a f i ≡ pad_fault b g j
  unfolding pad_fault
  pad_fault_two f g i j c e =
      let w = weak_of a b i j e in
      ap first_of (also (point_fault_in_two a b (codes "at") refl i j w) (also (place_fault_two f g i j c e) (also (point_fault_in_two a b (codes "size") refl i j w)
      (also (drill_fault_two i j e) (also (number_fault_two a b whole_fault 0 (codes "net") refl i j w) (also (number_fault_two a b ratio_fault 0 (codes "roundrect_rratio") refl i j w)
      (also (number_fault_two a b length_fault 0 (codes "clearance") refl i j w) (also (number_fault_two a b whole_fault 0 (codes "zone_connect") refl i j w)
      (also (number_fault_two a b length_fault 0 (codes "thermal_gap") refl i j w)
      (alone (fault_two a b length_fault 0 (bridge_list a i) (bridge_list b j) (bridge_list_two i j w))))))))))))

  pub footprint_fault_two : (i j : Item) → Weak a b i j → footprint_fault a i ≡ footprint_fault b j
  unfolding footprint_fault
  footprint_fault_two i j w =
      ap first_of (also (point_fault_in_two a b (codes "at") refl i j w) (also (number_fault_two a b length_fault 0 (codes "clearance") refl i j w)
      (also (number_fault_two a b whole_fault 0 (codes "zone_connect") refl i j w) (also (number_fault_two a b length_fault 0 (codes "thermal_gap") refl i j w)
      (alone (number_fault_two a b length_fault 0 (codes "thermal_width") refl i j w))))))
