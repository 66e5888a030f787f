-- Boards whose lists are the same but for some in one place.
use Rattle.std.proofs.Common.{◌≡◌, ◌∙◌, refl, ap, sym, ℕ, Bool, true, false, cond, List, [], ◌∷◌, ◌++◌, map, codes, Option, None, Some, is_some, option_map}
use Rattle.std.specs.Prelude.{filter, flat_map, find}
use Rattle.std.proofs.lemmas.Bool.{false≢true, true≢false}
use Rattle.sexpr_text.specs.Items.{Item, is_headed}
use Rattle.board_text.specs.Lists.{lists_of, headed}
use Rattle.board_text.specs.Fields.{list_of}
use Rattle.board_text.specs.Numbers.{whole_number}
use Rattle.board_text.specs.Layers.{is_copper, names_in, copper_layers}
use Rattle.board_text.specs.Items.{context_of, declared_net, declared_nets}
use Rattle.board_text.specs.Things.{Placed, InFootprint, with_own}
use Rattle.text_shapes.specs.Shapes.{Shape, forest_shape}
use Rattle.text_shapes.specs.Shapes.Shape.{Over, Bare, Quoted, Inside}
use Rattle.text_shapes.specs.Seen.{ItemSeen, item_seen, parts, is_named}
use Rattle.text_shapes.proofs.Seen.{heads, groups, groups_seen, is_group, sub_seen, subs_seen}
use Rattle.same_boards.specs.Contents.{unfilled, AreSamePlaced, AreSameItems, Each}
use Rattle.same_boards.specs.Laws.{IsSameContext}
use Rattle.same_boards.proofs.Each.{each_given, each_maps, each_flat_each, maps_each}
use Rattle.same_boards.proofs.Fields.{Same, SameOption, same_inside, lists_two, said_two, headed_two}
use Rattle.same_boards.proofs.Offending.{names_in_two}
use Rattle.edit_changes.proofs.Holes.{list_seen}

-- ---- lists

pub record IsCut {X Y : Type 0} (f : X → Y) (xs : List X) (us vs : List Y) : Type 0 where
  pub front : List X
  pub behind : List X
  pub is : xs ≡ front ++ behind
  pub front_is : map f front ≡ us
  pub behind_is : map f behind ≡ vs

head_or : {Y : Type 0} → Y → List Y → Y
head_or d [] = d
head_or d (y ∷ ys) = y

tail_in : {Y : Type 0} → List Y → List Y
tail_in [] = []
tail_in (y ∷ ys) = ys

is_cons : {Y : Type 0} → List Y → Bool
is_cons [] = false
is_cons (y ∷ ys) = true

pub same_head : {Y : Type 0} {x y : Y} {xs ys : List Y} → x ∷ xs ≡ y ∷ ys → x ≡ y
unfolding head_or
same_head {Y} {x} e = ap (head_or x) e

pub same_tail : {Y : Type 0} {x y : Y} {xs ys : List Y} → x ∷ xs ≡ y ∷ ys → xs ≡ ys
unfolding tail_in
same_tail e = ap tail_in e

pub none_some : {Y : Type 0} {y : Y} {ys : List Y} → [] ≡ y ∷ ys → ⊥
unfolding is_cons
none_some e = false≢true (ap is_cons e)

-- a list is cut where what is made of it is
pub cut : {X Y : Type 0} (f : X → Y) (xs : List X) (us vs : List Y) → map f xs ≡ us ++ vs → IsCut f xs us vs
cut f xs [] vs e = record { front = []; behind = xs; is = refl; front_is = refl; behind_is = e }
cut f [] (u ∷ us) vs e = absurd (none_some e)
cut f (x ∷ xs) (u ∷ us) vs e =
    let c = cut f xs us vs (same_tail e) in
    record { front = x ∷ c.front; behind = c.behind; is = ap (λ z. x ∷ z) c.is; front_is = ap (λ z. z ∷ map f c.front) (same_head e) ∙ ap (λ z. u ∷ z) c.front_is; behind_is = c.behind_is }

-- none of them passes
abbrev pub AllFail : {X : Type 0} → (X → Bool) → List X → Type 0
AllFail p [] = Unit {0}
AllFail p (x ∷ xs) = (p x ≡ false) × AllFail p xs

find_none : {X : Type 0} (p : X → Bool) (ms ys : List X) → AllFail p ms → find p (ms ++ ys) ≡ find p ys
find_none p [] ys h = refl
find_none p (m ∷ ms) ys h = ap (λ b. cond b (Some m) (find p (ms ++ ys))) h.0 ∙ find_none p ms ys h.1

find_past : {X : Type 0} (p : X → Bool) (xs ms ys : List X) → AllFail p ms → find p (xs ++ (ms ++ ys)) ≡ find p (xs ++ ys)
find_past p [] ms ys h = find_none p ms ys h
find_past p (x ∷ xs) ms ys h = ap (λ o. cond (p x) (Some x) o) (find_past p xs ms ys h)

filter_none : {X : Type 0} (p : X → Bool) (ms ys : List X) → AllFail p ms → filter p (ms ++ ys) ≡ filter p ys
filter_none p [] ys h = refl
filter_none p (m ∷ ms) ys h = ap (λ b. cond b (m ∷ filter p (ms ++ ys)) (filter p (ms ++ ys))) h.0 ∙ filter_none p ms ys h.1

filter_past : {X : Type 0} (p : X → Bool) (xs ms ys : List X) → AllFail p ms → filter p (xs ++ (ms ++ ys)) ≡ filter p (xs ++ ys)
filter_past p [] ms ys h = filter_none p ms ys h
filter_past p (x ∷ xs) ms ys h = ap (λ o. cond (p x) (x ∷ o) o) (filter_past p xs ms ys h)

-- lists alone have heads
pub find_lists : (name : List ℕ) (s : Shape) → find (heads name) (parts s) ≡ find (heads name) (filter is_group (parts s))
find_lists name Over = refl
find_lists name (Bare t rest) = find_lists name rest
find_lists name (Quoted t rest) = find_lists name rest
find_lists name (Inside inner rest) = ap (λ o. cond (is_named name inner) (Some (list_seen inner)) o) (find_lists name rest)

filter_lists : (name : List ℕ) (s : Shape) → filter (heads name) (parts s) ≡ filter (heads name) (filter is_group (parts s))
filter_lists name Over = refl
filter_lists name (Bare t rest) = filter_lists name rest
filter_lists name (Quoted t rest) = filter_lists name rest
filter_lists name (Inside inner rest) = ap (λ o. cond (is_named name inner) (list_seen inner ∷ o) o) (filter_lists name rest)

-- ---- two texts whose lists are the same but for some in one place

pub record ArePatched (a b : List ℕ) (root last : Item) (front out put behind : List ItemSeen) : Type 0 where
  pub old : groups (item_seen a root) ≡ front ++ (out ++ behind)
  pub new : groups (item_seen b last) ≡ front ++ (put ++ behind)
  pub out_layers : AllFail (heads (codes "layers")) out
  pub put_layers : AllFail (heads (codes "layers")) put
  pub out_nets : AllFail (heads (codes "net")) out
  pub put_nets : AllFail (heads (codes "net")) put

-- the lists themselves
pub record AreMatched (a b : List ℕ) (root last : Item) (starts out put ends : List ItemSeen) : Type 0 where
  pub xs : List Item
  pub ms : List Item
  pub ys : List Item
  pub us : List Item
  pub ns : List Item
  pub vs : List Item
  pub old : lists_of root ≡ xs ++ (ms ++ ys)
  pub new : lists_of last ≡ us ++ (ns ++ vs)
  pub front : Each (Same a b) xs us
  pub behind : Each (Same a b) ys vs
  pub out_is : map (item_seen a) ms ≡ out
  pub put_is : map (item_seen b) ns ≡ put
  pub starts_is : map (item_seen a) xs ≡ starts
  pub ends_is : map (item_seen a) ys ≡ ends

pub matched : (a b : List ℕ) (root last : Item) (front out put behind : List ItemSeen) → ArePatched a b root last front out put behind → AreMatched a b root last front out put behind
matched a b root last front out put behind p =
    let c = cut (item_seen a) (lists_of root) front (out ++ behind) (groups_seen a root ∙ p.old) in
    let e = cut (item_seen a) c.behind out behind c.behind_is in
    let d = cut (item_seen b) (lists_of last) front (put ++ behind) (groups_seen b last ∙ p.new) in
    let f = cut (item_seen b) d.behind put behind d.behind_is in
    record {
      xs = c.front;
      ms = e.front;
      ys = e.behind;
      us = d.front;
      ns = f.front;
      vs = f.behind;
      old = c.is ∙ ap (λ z. c.front ++ z) e.is;
      new = d.is ∙ ap (λ z. d.front ++ z) f.is;
      front = maps_each (item_seen a) (item_seen b) c.front d.front (c.front_is ∙ sym d.front_is);
      behind = maps_each (item_seen a) (item_seen b) e.behind f.behind (e.behind_is ∙ sym f.behind_is);
      out_is = e.front_is;
      put_is = f.front_is;
      starts_is = c.front_is;
      ends_is = e.behind_is;
    }

-- ---- their layers and nets

module _ (a b : List ℕ) (root last : Item) (front out put behind : List ItemSeen) (p : ArePatched a b root last front out put behind) where
  root_list : SameOption a b (list_of a (codes "layers") root) (list_of b (codes "layers") last)
  root_list =
      sub_seen a (codes "layers") root ∙ find_lists (codes "layers") (forest_shape a root.inner) ∙ ap (find (heads (codes "layers"))) p.old
      ∙ find_past (heads (codes "layers")) front out behind p.out_layers ∙ sym (find_past (heads (codes "layers")) front put behind p.put_layers)
      ∙ sym (sub_seen b (codes "layers") last ∙ find_lists (codes "layers") (forest_shape b last.inner) ∙ ap (find (heads (codes "layers"))) p.new)

  nets_there : Each (Same a b) (headed a (codes "net") root) (headed b (codes "net") last)
  nets_there =
      maps_each (item_seen a) (item_seen b) (headed a (codes "net") root) (headed b (codes "net") last)
      (subs_seen a (codes "net") root ∙ filter_lists (codes "net") (forest_shape a root.inner) ∙ ap (filter (heads (codes "net"))) p.old
      ∙ filter_past (heads (codes "net")) front out behind p.out_nets ∙ sym (filter_past (heads (codes "net")) front put behind p.put_nets)
      ∙ sym (subs_seen b (codes "net") last ∙ filter_lists (codes "net") (forest_shape b last.inner) ∙ ap (filter (heads (codes "net"))) p.new))

  nets_same : declared_nets a root ≡ declared_nets b last
  unfolding declared_nets
  nets_same =
      each_given (Same a b) (declared_net a) (declared_net b) (λ x y h. ap (option_map whole_number) (said_two a b 0 x y h)) (headed a (codes "net") root) (headed b (codes "net") last) nets_there

  names_there : (o q : Option Item) → SameOption a b o q → names_in a o ≡ names_in b q
  names_there None None h = refl
  names_there None (Some y) h = absurd (false≢true (ap is_some h))
  names_there (Some x) None h = absurd (true≢false (ap is_some h))
  names_there (Some x) (Some y) h = names_in_two a b x y (same_inside a b x y h)

  copper_same : copper_layers a root ≡ copper_layers b last
  unfolding copper_layers
  copper_same = ap (filter is_copper) (names_there (list_of a (codes "layers") root) (list_of b (codes "layers") last) root_list)

  pub context_same : IsSameContext (context_of a root) (context_of b last)
  unfolding context_of
  context_same = record { copper = copper_same; nets = nets_same }

-- ---- their items

-- the items of lists of a board
abbrev pub items_of_lists : List ℕ → List Item → List Placed
items_of_lists text xs = flat_map (with_own text) xs

module _ (a b : List ℕ) where
  own_there : (i j : Item) (p q : Bool) → p ≡ q → Same a b i j
      → Each (AreSamePlaced a b) (cond p (map (λ x. record { item = x; site = InFootprint i }) (lists_of i)) []) (cond q (map (λ x. record { item = x; site = InFootprint j }) (lists_of j)) [])
  own_there i j true true h f =
      each_maps (Same a b) (AreSamePlaced a b) (λ x. record { item = x; site = InFootprint i }) (λ x. record { item = x; site = InFootprint j }) (λ x y g. (f, g)) (lists_of i) (lists_of j)
      (lists_two a b i j f)
  own_there i j true false h f = absurd (true≢false h)
  own_there i j false true h f = absurd (false≢true h)
  own_there i j false false h f = tt

  with_own_each : (i j : Item) → Same a b i j → Each (AreSamePlaced a b) (with_own a i) (with_own b j)
  with_own_each i j l = (
    ap (λ (s : ItemSeen). record { kind = s.kind; text = s.text; inner = unfilled s.inner }) l,
    own_there i j (is_headed a (codes "footprint") i) (is_headed b (codes "footprint") j) (headed_two a b (codes "footprint") i j l) l,
  )

  pub items_each : (xs us : List Item) → Each (Same a b) xs us → AreSameItems a b (items_of_lists a xs) (items_of_lists b us)
  items_each xs us h = each_flat_each (Same a b) (AreSamePlaced a b) (with_own a) (with_own b) with_own_each xs us h

-- with a cut of the old lists that is given
abbrev pub matched_at : (a b : List ℕ) (root last : Item) (front out put behind : List ItemSeen) (xs ms ys : List Item) → lists_of root ≡ xs ++ (ms ++ ys)
    → map (item_seen a) xs ≡ front → map (item_seen a) ms ≡ out → map (item_seen a) ys ≡ behind → ArePatched a b root last front out put behind → AreMatched a b root last front out put behind
matched_at a b root last front out put behind xs ms ys e f g h p =
    let d = cut (item_seen b) (lists_of last) front (put ++ behind) (groups_seen b last ∙ p.new) in
    let k = cut (item_seen b) d.behind put behind d.behind_is in
    record {
      xs = xs;
      ms = ms;
      ys = ys;
      us = d.front;
      ns = k.front;
      vs = k.behind;
      old = e;
      new = d.is ∙ ap (λ z. d.front ++ z) k.is;
      front = maps_each (item_seen a) (item_seen b) xs d.front (f ∙ sym d.front_is);
      behind = maps_each (item_seen a) (item_seen b) ys k.behind (h ∙ sym k.behind_is);
      out_is = g;
      put_is = k.front_is;
      starts_is = f;
      ends_is = h;
    }
