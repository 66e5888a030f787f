-- What stands in the items of two texts with the same contents is the same: lists by their heads, words, numbers.
use Rattle.std.proofs.Common.{◌≡◌, ◌∙◌, refl, ap, sym, subst, ℕ, zero, suc, Bool, true, false, not, cond, ◌||◌, ◌&&◌, List, [], ◌∷◌, map, length, drop, find, filter, slice_get, codes, Option, None, Some, is_some, option_map, option_and_then}
use Rattle.std.specs.Prelude.{◌==◌, pos, ℤ}
use Rattle.std.specs.List.{list_any, list_all, starts_with}
use Rattle.std.proofs.lemmas.Bool.{and_parts, false≢true, true≢false}
use Rattle.std.proofs.lemmas.Option.{same_Some}
use Rattle.std.proofs.lemmas.Slice.Eq.{bytes_eq-Decides}
use Rattle.grid_num.specs.declared.read.NumFault.{NumFault}
use Rattle.sexpr_text.specs.Items.{Item, children_of, is_headed}
use Rattle.board_text.specs.Lists.{is_list, lists_of, headed, behind_head}
use Rattle.board_text.specs.Fields.{list_of, has_list, list_in, text_of, text_at, texts_of, passes, lacks, head_begins}
use Rattle.board_text.specs.Numbers.{first_of, if_there, fault_at, is_short, has_short, value_at, length_of, whole_number, point_fault, length_fault}
use Rattle.board_text.specs.Layers.{Name, names_of, meant_in, meant_by, has_copper, has_unknown, is_among, layer_set, bits, is_drawn_on}
use Rattle.board_text.specs.Items.{point_at, point_in, net_of, is_no_length, is_no_size, is_bad_length, has_bad_length, has_bad_size, is_stamp_list, stamp_list, stamp_in}
use Rattle.text_shapes.specs.Shapes.{Shape, forest_shape}
use Rattle.text_shapes.specs.Shapes.Shape.{Over, Bare, Quoted, Inside}
use Rattle.text_shapes.specs.Seen.{ItemSeen, item_seen, parts, sight, is_named}
use Rattle.text_shapes.proofs.Seen.{find_map, filter_map_is, parts_seen, heads, heads_seen, is_group, groups, groups_seen, behind_seen, texts_there, texts_there_seen, value_in, value_seen, fault_in, fault_seen, fault_there, fault_there_seen, short, short_seen, said_at, said_seen, texts, texts_seen, begins, begins_seen}
use Rattle.same_boards.specs.Contents.{fill_heads, is_named_among, without, Each}
use Rattle.same_boards.proofs.Each.{maps_each}

-- ---- tests and lists

pub both_or : {a b c d : Bool} → a ≡ c → b ≡ d → (a || b) ≡ (c || d)
both_or {a} {b} {c} {d} e f = ap (λ z. z || b) e ∙ ap (λ z. c || z) f

pub both_and : {a b c d : Bool} → a ≡ c → b ≡ d → (a && b) ≡ (c && d)
both_and {a} {b} {c} {d} e f = ap (λ z. z && b) e ∙ ap (λ z. c && z) f

pub also : {X : Type 0} {x y : X} {xs ys : List X} → x ≡ y → xs ≡ ys → x ∷ xs ≡ y ∷ ys
also {X} {x} {y} {xs} {ys} e f = ap (λ z. z ∷ xs) e ∙ ap (λ z. y ∷ z) f

pub alone : {X : Type 0} {x y : X} → x ≡ y → x ∷ [] ≡ y ∷ []
alone e = ap (λ z. z ∷ []) e

pub two : {X Y Z : Type 0} {x y : X} {u v : Y} → (f : X → Y → Z) → x ≡ y → u ≡ v → f x u ≡ f y v
two {X} {Y} {Z} {x} {y} {u} {v} f e g = ap (λ z. f z u) e ∙ ap (f y) g

pub both_cond : {X : Type 0} {a b : Bool} {x y u v : X} → a ≡ b → x ≡ y → u ≡ v → cond a x u ≡ cond b y v
both_cond {X} {a} {b} {x} {y} {u} {v} e f g = ap (λ z. cond z x u) e ∙ ap (λ z. cond b z u) f ∙ ap (λ z. cond b y z) g

-- ---- lists that are left out

-- the part isn't a list with one of these heads
abbrev pub keeps : List (List ℕ) → ItemSeen → Bool
keeps names s = not (is_group s && is_named_among names s.inner)

cond_not : {X : Type 0} (b : Bool) (x y : X) → cond (not b) x y ≡ cond b y x
cond_not true x y = refl
cond_not false x y = refl

inside_kept : (names : List (List ℕ)) (x : ItemSeen) (inner rest : Shape) (b : Bool) (ys : List ItemSeen) → parts rest ≡ ys → x ≡ record { kind = Rattle.sexpr_text.specs.declared.NodeKind.TheVariants.List; text = []; inner = inner }
    → parts (cond b rest (Inside inner rest)) ≡ cond (not b) (x ∷ ys) ys
inside_kept names x inner rest true ys e f = e
inside_kept names x inner rest false ys e f = ap (λ z. record { kind = Rattle.sexpr_text.specs.declared.NodeKind.TheVariants.List; text = []; inner = inner } ∷ z) e ∙ ap (λ z. z ∷ ys) (sym f)

pub parts_without : (names : List (List ℕ)) (s : Shape) → parts (without names s) ≡ filter (keeps names) (parts s)
parts_without names Over = refl
parts_without names (Bare t rest) = ap (λ z. record { kind = Rattle.sexpr_text.specs.declared.NodeKind.TheVariants.Word; text = t; inner = Over } ∷ z) (parts_without names rest)
parts_without names (Quoted t rest) = ap (λ z. record { kind = Rattle.sexpr_text.specs.declared.NodeKind.TheVariants.Text; text = t; inner = Over } ∷ z) (parts_without names rest)
parts_without names (Inside inner rest) =
    inside_kept names (record { kind = Rattle.sexpr_text.specs.declared.NodeKind.TheVariants.List; text = []; inner = inner }) inner (without names rest) (is_named_among names inner)
    (filter (keeps names) (parts rest)) (parts_without names rest) refl

find_kept_step : {X : Type 0} (a k : Bool) (x : X) (o : Option X) (xs : List X) (p : X → Bool) → p x ≡ a → (a ≡ true → k ≡ true) → o ≡ find p xs
    → cond a (Some x) o ≡ find p (cond k (x ∷ xs) xs)
find_kept_step true true x o xs p e h r = ap (λ z. cond z (Some x) (find p xs)) (sym e)
find_kept_step true false x o xs p e h r = absurd (false≢true (h refl))
find_kept_step false true x o xs p e h r = r ∙ ap (λ z. cond z (Some x) (find p xs)) (sym e)
find_kept_step false false x o xs p e h r = r

-- what is looked for is found among those that are kept
pub find_kept : {X : Type 0} (p k : X → Bool) → ((x : X) → p x ≡ true → k x ≡ true) → (xs : List X) → find p xs ≡ find p (filter k xs)
find_kept p k h [] = refl
find_kept p k h (x ∷ xs) = find_kept_step (p x) (k x) x (find p xs) (filter k xs) p refl (h x) (find_kept p k h xs)

filter_kept_step : {X : Type 0} (a k : Bool) (x : X) (zs xs : List X) (p : X → Bool) → p x ≡ a → (a ≡ true → k ≡ true) → zs ≡ filter p xs
    → cond a (x ∷ zs) zs ≡ filter p (cond k (x ∷ xs) xs)
filter_kept_step true true x zs xs p e h r = ap (λ z. x ∷ z) r ∙ ap (λ z. cond z (x ∷ filter p xs) (filter p xs)) (sym e)
filter_kept_step true false x zs xs p e h r = absurd (false≢true (h refl))
filter_kept_step false true x zs xs p e h r = r ∙ ap (λ z. cond z (x ∷ filter p xs) (filter p xs)) (sym e)
filter_kept_step false false x zs xs p e h r = r

pub filter_kept : {X : Type 0} (p k : X → Bool) → ((x : X) → p x ≡ true → k x ≡ true) → (xs : List X) → filter p xs ≡ filter p (filter k xs)
filter_kept p k h [] = refl
filter_kept p k h (x ∷ xs) = filter_kept_step (p x) (k x) x (filter p xs) (filter k xs) p refl (h x) (filter_kept p k h xs)

find_filter_step : {X : Type 0} (a : Bool) (x : X) (xs : List X) (p : X → Bool) (o : Option X) → find p xs ≡ o → find p (cond a (x ∷ xs) xs) ≡ cond (a && p x) (Some x) o
find_filter_step true x xs p o e = ap (λ z. cond (p x) (Some x) z) e
find_filter_step false x xs p o e = e

pub find_filter : {X : Type 0} (p k : X → Bool) (xs : List X) → find p (filter k xs) ≡ find (λ (x : X). k x && p x) xs
find_filter p k [] = refl
find_filter p k (x ∷ xs) = find_filter_step (k x) x (filter k xs) p (find (λ (y : _). k y && p y) xs) (find_filter p k xs)

-- a head that isn't one of the names
abbrev pub Differs : List (List ℕ) → List ℕ → Type 0
Differs names name = is_named_among names (Bare name Over) ≡ false

keeps_named : (names : List (List ℕ)) (name : List ℕ) (b : Bool) (s : Shape) → Differs names name → is_named name s ≡ true → not (b && is_named_among names s) ≡ true
keeps_named names name b Over d e = absurd (false≢true e)
keeps_named names name b (Quoted t rest) d e = absurd (false≢true e)
keeps_named names name b (Inside t rest) d e = absurd (false≢true e)
keeps_named names name b (Bare t rest) d e =
    pick b (is_named_among names (Bare t rest)) (subst (λ z. is_named_among names (Bare z Over) ≡ false) (sym ((bytes_eq-Decides t name).0 e)) d)
  where
    pick : (b c : Bool) → c ≡ false → not (b && c) ≡ true
    pick true c f = ap not f
    pick false c f = refl

pub heads_kept : (names : List (List ℕ)) (name : List ℕ) → Differs names name → (s : ItemSeen) → heads name s ≡ true → keeps names s ≡ true
heads_kept names name d s e = keeps_named names name (is_group s) s.inner d e

either_kept : (names : List (List ℕ)) (one other : List ℕ) → Differs names one → Differs names other → (s : ItemSeen) → (heads one s || heads other s) ≡ true → keeps names s ≡ true
either_kept names one other d f s e = pick (heads one s) (heads other s) e (heads_kept names one d s) (heads_kept names other f s)
  where
    pick : (a b : Bool) → (a || b) ≡ true → (a ≡ true → keeps names s ≡ true) → (b ≡ true → keeps names s ≡ true) → keeps names s ≡ true
    pick true b e h g = h refl
    pick false b e h g = g e

-- ---- two texts
module _ (a b : List ℕ) where
  -- the two items have the same contents
  abbrev pub Same : Item → Item → Type 0
  Same i j = item_seen a i ≡ item_seen b j

  -- and so have items that may be absent
  abbrev pub SameOption : Option Item → Option Item → Type 0
  SameOption o p = sight a o ≡ sight b p

  -- inside the two items stands the same but for old fills
  abbrev pub Weak : Item → Item → Type 0
  Weak i j = without fill_heads (forest_shape a i.inner) ≡ without fill_heads (forest_shape b j.inner)

  pub weak_of : (i j : Item) → Same i j → Weak i j
  weak_of i j e = ap (λ (s : ItemSeen). without fill_heads s.inner) e

  pub same_inside : (x y : Item) → Some (item_seen a x) ≡ Some (item_seen b y) → Same x y
  same_inside x y e = same_Some (item_seen a x) (item_seen b y) e

  kept_parts : (i j : Item) → Weak i j → filter (keeps fill_heads) (parts (forest_shape a i.inner)) ≡ filter (keeps fill_heads) (parts (forest_shape b j.inner))
  kept_parts i j w = sym (parts_without fill_heads (forest_shape a i.inner)) ∙ ap parts w ∙ parts_without fill_heads (forest_shape b j.inner)

  -- what is looked for among the children, and is no old fill
  find_two : (P Q : Item → Bool) (p : ItemSeen → Bool) → ((x : Item) → P x ≡ p (item_seen a x)) → ((x : Item) → Q x ≡ p (item_seen b x)) → ((s : ItemSeen) → p s ≡ true → keeps fill_heads s ≡ true)
      → (i j : Item) → Weak i j → SameOption (find P (children_of i)) (find Q (children_of j))
  find_two P Q p f g h i j w =
      find_map (item_seen a) P p f (children_of i) ∙ ap (find p) (parts_seen a i.inner) ∙ find_kept p (keeps fill_heads) h (parts (forest_shape a i.inner))
      ∙ ap (find p) (kept_parts i j w)
      ∙ sym (find_map (item_seen b) Q p g (children_of j) ∙ ap (find p) (parts_seen b j.inner) ∙ find_kept p (keeps fill_heads) h (parts (forest_shape b j.inner)))

  pub list_two : (name : List ℕ) → Differs fill_heads name → (i j : Item) → Weak i j → SameOption (list_of a name i) (list_of b name j)
  list_two name d i j w = find_two (is_headed a name) (is_headed b name) (heads name) (heads_seen a name) (heads_seen b name) (heads_kept fill_heads name d) i j w

  pub count_two : (name : List ℕ) → Differs fill_heads name → (i j : Item) → Weak i j → Each Same (headed a name i) (headed b name j)
  count_two name d i j w =
      maps_each (item_seen a) (item_seen b) (headed a name i) (headed b name j)
      (filter_map_is (item_seen a) (is_headed a name) (heads name) (heads_seen a name) (children_of i) ∙ ap (filter (heads name)) (parts_seen a i.inner)
      ∙ filter_kept (heads name) (keeps fill_heads) (heads_kept fill_heads name d) (parts (forest_shape a i.inner))
      ∙ ap (filter (heads name)) (kept_parts i j w)
      ∙ sym (filter_map_is (item_seen b) (is_headed b name) (heads name) (heads_seen b name) (children_of j) ∙ ap (filter (heads name)) (parts_seen b j.inner)
      ∙ filter_kept (heads name) (keeps fill_heads) (heads_kept fill_heads name d) (parts (forest_shape b j.inner))))

  pub has_two : (name : List ℕ) → Differs fill_heads name → (i j : Item) → Weak i j → has_list a name i ≡ has_list b name j
  has_two name d i j w = there (list_of a name i) (list_of b name j) (list_two name d i j w)
    where
      there : (o p : Option Item) → SameOption o p → is_some o ≡ is_some p
      there None None e = refl
      there None (Some y) e = ap is_some e
      there (Some x) None e = ap is_some e
      there (Some x) (Some y) e = refl

  pub then_two : (name : List ℕ) → Differs fill_heads name → (o p : Option Item) → SameOption o p → SameOption (option_and_then (list_of a name) o) (option_and_then (list_of b name) p)
  then_two name d None None e = refl
  then_two name d None (Some y) e = absurd (false≢true (ap is_some e))
  then_two name d (Some x) None e = absurd (true≢false (ap is_some e))
  then_two name d (Some x) (Some y) e = list_two name d x y (weak_of x y (same_inside x y e))

  pub in_two : (outer name : List ℕ) → Differs fill_heads outer → Differs fill_heads name → (i j : Item) → Weak i j → SameOption (list_in a outer name i) (list_in b outer name j)
  in_two outer name c d i j w = then_two name d (list_of a outer i) (list_of b outer j) (list_two outer c i j w)

  -- of the lists with one of two heads the first
  pub either_two : (one other : List ℕ) → Differs fill_heads one → Differs fill_heads other → (i j : Item) → Weak i j
      → SameOption (find (λ x. is_headed a one x || is_headed a other x) (lists_of i)) (find (λ x. is_headed b one x || is_headed b other x) (lists_of j))
  either_two one other c d i j w =
      ap (sight a) (find_filter (λ x. is_headed a one x || is_headed a other x) is_list (children_of i))
      ∙ find_two (λ x. is_list x && (is_headed a one x || is_headed a other x)) (λ x. is_list x && (is_headed b one x || is_headed b other x))
      (λ s. is_group s && (heads one s || heads other s)) (λ x. both_and refl (both_or (heads_seen a one x) (heads_seen a other x))) (λ x. both_and refl (both_or (heads_seen b one x) (heads_seen b other x)))
      (λ s e. either_kept fill_heads one other c d s (and_parts (is_group s) (heads one s || heads other s) e).1) i j w
      ∙ sym (ap (sight b) (find_filter (λ x. is_headed b one x || is_headed b other x) is_list (children_of j)))

  pub stamp_two : (i j : Item) → Weak i j → SameOption (stamp_list a i) (stamp_list b j)
  stamp_two i j w =
      find_two (is_stamp_list a) (is_stamp_list b) (λ s. heads (codes "tstamp") s || heads (codes "uuid") s)
      (λ x. both_or (heads_seen a (codes "tstamp") x) (heads_seen a (codes "uuid") x)) (λ x. both_or (heads_seen b (codes "tstamp") x) (heads_seen b (codes "uuid") x))
      (either_kept fill_heads (codes "tstamp") (codes "uuid") refl refl) i j w

  -- ---- what is read of a list

  pub lists_two : (x y : Item) → Same x y → Each Same (lists_of x) (lists_of y)
  lists_two x y e = maps_each (item_seen a) (item_seen b) (lists_of x) (lists_of y) (groups_seen a x ∙ ap groups e ∙ sym (groups_seen b y))

  pub children_two : (x y : Item) → Same x y → Each Same (children_of x) (children_of y)
  children_two x y e = maps_each (item_seen a) (item_seen b) (children_of x) (children_of y) (parts_seen a x.inner ∙ ap (λ (s : ItemSeen). parts s.inner) e ∙ sym (parts_seen b y.inner))

  pub behind_two : (x y : Item) → Same x y → Each Same (behind_head x) (behind_head y)
  behind_two x y e = maps_each (item_seen a) (item_seen b) (behind_head x) (behind_head y) (behind_seen a x ∙ ap (λ (s : ItemSeen). drop 1 (parts s.inner)) e ∙ sym (behind_seen b y))

  pub headed_two : (name : List ℕ) (x y : Item) → Same x y → is_headed a name x ≡ is_headed b name y
  headed_two name x y e = heads_seen a name x ∙ ap (heads name) e ∙ sym (heads_seen b name y)

  pub begins_two : (front : List ℕ) (x y : Item) → Same x y → head_begins a front x ≡ head_begins b front y
  begins_two front x y e = begins_seen a front x ∙ ap (begins front) e ∙ sym (begins_seen b front y)

  pub list_kind_two : (x y : Item) → Same x y → is_list x ≡ is_list y
  list_kind_two x y e = ap is_group e

  pub text_two : (x y : Item) → Same x y → text_of a x ≡ text_of b y
  text_two x y e = ap (λ (s : ItemSeen). cond (is_group s) None (Some s.text)) e

  pub said_two : (place : ℕ) (x y : Item) → Same x y → text_at a place x ≡ text_at b place y
  said_two place x y e = said_seen a place x ∙ ap (said_at place) e ∙ sym (said_seen b place y)

  pub texts_two : (x y : Item) → Same x y → texts_of a x ≡ texts_of b y
  texts_two x y e = texts_seen a x ∙ ap texts e ∙ sym (texts_seen b y)

  pub names_two : (o p : Option Item) → SameOption o p → names_of a o ≡ names_of b p
  names_two o p e = texts_there_seen a o ∙ ap texts_there e ∙ sym (texts_there_seen b p)

  pub value_two : {X : Type 0} (read : List ℕ → X) (place : ℕ) (absent : X) (o p : Option Item) → SameOption o p → value_at read a place absent o ≡ value_at read b place absent p
  value_two read place absent o p e = value_seen read a place absent o ∙ ap (value_in read place absent) e ∙ sym (value_seen read b place absent p)

  pub fault_two : (read : List ℕ → Option NumFault) (place : ℕ) (o p : Option Item) → SameOption o p → fault_at read a place o ≡ fault_at read b place p
  fault_two read place o p e = fault_seen read a place o ∙ ap (fault_in read place) e ∙ sym (fault_seen read b place p)

  pub there_two : (read : List ℕ → Option NumFault) (o p : Option Item) → SameOption o p → if_there read a o ≡ if_there read b p
  there_two read o p e = fault_there_seen read a o ∙ ap (fault_there read) e ∙ sym (fault_there_seen read b p)

  pub short_two : (n : ℕ) (o p : Option Item) → SameOption o p → is_short n o ≡ is_short n p
  short_two n o p e = short_seen a n o ∙ ap (short n) e ∙ sym (short_seen b n p)

  pub get_two : (place : ℕ) (xs ys : List Item) → Each Same xs ys → SameOption (slice_get xs place) (slice_get ys place)
  get_two place [] [] e = refl
  get_two place [] (y ∷ ys) e = absurd e
  get_two place (x ∷ xs) [] e = absurd e
  get_two zero (x ∷ xs) (y ∷ ys) e = ap Some e.0
  get_two (suc n) (x ∷ xs) (y ∷ ys) e = get_two n xs ys e.1

  pub passes_two : (P Q : Item → Bool) → ((x y : Item) → Same x y → P x ≡ Q y) → (o p : Option Item) → SameOption o p → passes P o ≡ passes Q p
  passes_two P Q h None None e = refl
  passes_two P Q h None (Some y) e = absurd (false≢true (ap is_some e))
  passes_two P Q h (Some x) None e = absurd (true≢false (ap is_some e))
  passes_two P Q h (Some x) (Some y) e = h x y (same_inside x y e)

  -- what is read of a list that may be absent
  pub option_two : {Z : Type 0} (f g : Item → Z) → ((x y : Item) → Same x y → f x ≡ g y) → (o p : Option Item) → SameOption o p → option_map f o ≡ option_map g p
  option_two f g h None None e = refl
  option_two f g h None (Some y) e = absurd (false≢true (ap is_some e))
  option_two f g h (Some x) None e = absurd (true≢false (ap is_some e))
  option_two f g h (Some x) (Some y) e = ap Some (h x y (same_inside x y e))

  pub given_two : {Z : Type 0} (f g : Item → Option Z) → ((x y : Item) → Same x y → f x ≡ g y) → (o p : Option Item) → SameOption o p → option_and_then f o ≡ option_and_then g p
  given_two f g h None None e = refl
  given_two f g h None (Some y) e = absurd (false≢true (ap is_some e))
  given_two f g h (Some x) None e = absurd (true≢false (ap is_some e))
  given_two f g h (Some x) (Some y) e = h x y (same_inside x y e)

  -- ---- lists with several heads

  -- none of the heads is that of an old fill
  abbrev pub AllDiffer : List (List ℕ) → Type 0
  AllDiffer names = list_any (λ name. is_named_among fill_heads (Bare name Over)) names ≡ false

  pub any_two : (f g : List ℕ → Bool) → ((name : List ℕ) → Differs fill_heads name → f name ≡ g name) → (names : List (List ℕ)) → AllDiffer names → list_any f names ≡ list_any g names
  any_two f g h [] d = refl
  any_two f g h (name ∷ names) d =
      let s = parted (is_named_among fill_heads (Bare name Over)) (list_any (λ n. is_named_among fill_heads (Bare n Over)) names) d in
      both_or (h name s.0) (any_two f g h names s.1)
    where
      parted : (x y : Bool) → (x || y) ≡ false → (x ≡ false) × (y ≡ false)
      parted true y e = absurd (true≢false e)
      parted false y e = (refl, e)

  pub lacks_two : (names : List (List ℕ)) → AllDiffer names → (i j : Item) → Weak i j → lacks a names i ≡ lacks b names j
  lacks_two names d i j w = any_two (λ name. not (has_list a name i)) (λ name. not (has_list b name j)) (λ name c. ap not (has_two name c i j w)) names d

  pub has_short_two : (n : ℕ) (names : List (List ℕ)) → AllDiffer names → (i j : Item) → Weak i j → has_short a n names i ≡ has_short b n names j
  has_short_two n names d i j w =
      any_two (λ name. is_short n (list_of a name i)) (λ name. is_short n (list_of b name j)) (λ name c. short_two n (list_of a name i) (list_of b name j) (list_two name c i j w)) names d

  pub bad_length_two : (o p : Option Item) → SameOption o p → is_bad_length a o ≡ is_bad_length b p
  bad_length_two o p e = ap is_no_length (value_two length_of 0 (pos 0) o p e)

  pub bad_lengths_two : (names : List (List ℕ)) → AllDiffer names → (i j : Item) → Weak i j → has_bad_length a names i ≡ has_bad_length b names j
  bad_lengths_two names d i j w =
      any_two (λ name. is_bad_length a (list_of a name i)) (λ name. is_bad_length b (list_of b name j)) (λ name c. bad_length_two (list_of a name i) (list_of b name j) (list_two name c i j w)) names d

  -- ---- numbers and points

  pub number_two : {X : Type 0} (read : List ℕ → X) (place : ℕ) (absent : X) (name : List ℕ) → Differs fill_heads name → (i j : Item) → Weak i j
      → value_at read a place absent (list_of a name i) ≡ value_at read b place absent (list_of b name j)
  number_two read place absent name d i j w = value_two read place absent (list_of a name i) (list_of b name j) (list_two name d i j w)

  pub number_fault_two : (read : List ℕ → Option NumFault) (place : ℕ) (name : List ℕ) → Differs fill_heads name → (i j : Item) → Weak i j
      → fault_at read a place (list_of a name i) ≡ fault_at read b place (list_of b name j)
  number_fault_two read place name d i j w = fault_two read place (list_of a name i) (list_of b name j) (list_two name d i j w)

  pub point_two : (o p : Option Item) → SameOption o p → point_at a o ≡ point_at b p
  point_two o p e = two (λ (x y : ℤ). record { x = x; y = y }) (value_two length_of 0 (pos 0) o p e) (value_two length_of 1 (pos 0) o p e)

  pub point_in_two : (name : List ℕ) → Differs fill_heads name → (i j : Item) → Weak i j → point_in a name i ≡ point_in b name j
  point_in_two name d i j w = point_two (list_of a name i) (list_of b name j) (list_two name d i j w)

  pub point_fault_two : (o p : Option Item) → SameOption o p → point_fault a o ≡ point_fault b p
  point_fault_two o p e = ap first_of (also (fault_two length_fault 0 o p e) (alone (fault_two length_fault 1 o p e)))

  pub point_fault_in_two : (name : List ℕ) → Differs fill_heads name → (i j : Item) → Weak i j → point_fault a (list_of a name i) ≡ point_fault b (list_of b name j)
  point_fault_in_two name d i j w = point_fault_two (list_of a name i) (list_of b name j) (list_two name d i j w)

  pub bad_size_two : (name : List ℕ) → Differs fill_heads name → (i j : Item) → Weak i j → has_bad_size a name i ≡ has_bad_size b name j
  bad_size_two name d i j w = ap is_no_size (number_two length_of 0 (pos 0) name d i j w)

  pub net_two : (i j : Item) → Weak i j → net_of a i ≡ net_of b j
  net_two i j w = number_two whole_number 0 0 (codes "net") refl i j w

  pub own_stamp_two : (i j : Item) → Weak i j → stamp_in a i ≡ stamp_in b j
  own_stamp_two i j w = given_two (text_at a 0) (text_at b 0) (said_two 0) (stamp_list a i) (stamp_list b j) (stamp_two i j w)

  -- ---- layers

  pub meant_two : (copper : List Name) (o p : Option Item) → SameOption o p → meant_in a copper o ≡ meant_in b copper p
  meant_two copper None None e = refl
  meant_two copper None (Some y) e = absurd (false≢true (ap is_some e))
  meant_two copper (Some x) None e = absurd (true≢false (ap is_some e))
  meant_two copper (Some x) (Some y) e = ap (Rattle.std.specs.List.flat_map (meant_by copper)) (texts_two x y (same_inside x y e))

  pub copper_two : (copper : List Name) (o p : Option Item) → SameOption o p → has_copper a copper o ≡ has_copper b copper p
  copper_two copper o p e = ap (λ (names : List Name). not (length names == 0)) (meant_two copper o p e)

  pub unknown_two : (copper : List Name) (o p : Option Item) → SameOption o p → has_unknown a copper o ≡ has_unknown b copper p
  unknown_two copper o p e = ap (list_any (λ name. not (is_among copper name))) (meant_two copper o p e)

  pub layers_two : (copper : List Name) (o p : Option Item) → SameOption o p → layer_set a copper o ≡ layer_set b copper p
  unfolding layer_set
  layers_two copper o p e = ap (λ (names : List Name). bits (map (is_among names) copper)) (meant_two copper o p e)

  pub drawn_two : (test : Name → Bool) (i j : Item) → Weak i j → is_drawn_on test a i ≡ is_drawn_on test b j
  drawn_two test i j w = ap (list_any test) (names_two (list_of a (codes "layer") i) (list_of b (codes "layer") j) (list_two (codes "layer") refl i j w))
