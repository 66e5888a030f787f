-- Two texts with the same contents have the same layers, nets and items.
use Rattle.std.proofs.Common.{◌≡◌, ◌∙◌, refl, ap, sym, ℕ, Bool, true, false, cond, List, [], ◌∷◌, map, codes, Option, None, Some, is_some}
use Rattle.std.specs.Prelude.{filter, filter_map, flat_map, bytes_eq, nat_eq}
use Rattle.std.specs.List.{starts_with}
use Rattle.std.proofs.lemmas.Bool.{false≢true, true≢false}
use Rattle.std.proofs.lemmas.Slice.Eq.{bytes_eq-Decides}
use Rattle.sexpr_text.specs.Grammar.{Forest}
use Rattle.sexpr_text.specs.Grammar.Forest.{Nil, Word, Text, Group}
use Rattle.sexpr_text.specs.Items.{Item, items_of, children_of, is_headed, content_of}
use Rattle.sexpr_text.specs.declared.NodeKind.TheVariants as kinds
use Rattle.board_text.specs.Lists.{is_list, is_list_kind, lists_of, headed}
use Rattle.board_text.specs.Fields.{list_of, head_begins}
use Rattle.board_text.specs.Layers.{names_in, copper_layers, is_copper}
use Rattle.board_text.specs.Items.{declared_net, declared_nets, context_of}
use Rattle.board_text.specs.Things.{InFootprint, with_own, items_of_board}
use Rattle.text_shapes.specs.Shapes.{Shape, forest_shape}
use Rattle.text_shapes.specs.Shapes.Shape.{Over, Bare, Quoted, Inside}
use Rattle.text_shapes.specs.Seen.{ItemSeen, item_seen, parts, is_named, head_in}
use Rattle.text_shapes.proofs.Seen.{heads_seen, begins_seen}
use Rattle.same_boards.specs.Contents.{fill_heads, without, unfilled, board_contents, HaveSameContents, seen_unfilled, AreSamePlaced, AreSameItems, Each}
use Rattle.same_boards.specs.Laws.{IsSameContext}
use Rattle.same_boards.proofs.Each.{maps_each, each_filter, each_find, each_given, each_flat_each, each_maps}
use Rattle.same_boards.proofs.Fields.{Same, SameOption, Weak, same_inside, lists_two, said_two}
use Rattle.same_boards.proofs.Offending.{names_in_two}

-- ---- heads

unfilled_named : (name : List ℕ) (s : Shape) → is_named name (unfilled s) ≡ is_named name s
unfilled_named name Over = refl
unfilled_named name (Quoted t rest) = refl
unfilled_named name (Inside inner rest) = refl
unfilled_named name (Bare t rest) = pick (is_named (codes "zone") (Bare t rest))
  where
    pick : (b : Bool) → is_named name (cond b (without fill_heads (Bare t rest)) (Bare t rest)) ≡ is_named name (Bare t rest)
    pick true = refl
    pick false = refl

unfilled_head : (s : Shape) → head_in (unfilled s) ≡ head_in s
unfilled_head Over = refl
unfilled_head (Quoted t rest) = refl
unfilled_head (Inside inner rest) = refl
unfilled_head (Bare t rest) = pick (is_named (codes "zone") (Bare t rest))
  where
    pick : (b : Bool) → head_in (cond b (without fill_heads (Bare t rest)) (Bare t rest)) ≡ head_in (Bare t rest)
    pick true = refl
    pick false = refl

pub contents_named : (name : List ℕ) (s : Shape) → is_named name (board_contents s) ≡ is_named name s
contents_named name Over = refl
contents_named name (Bare t rest) = refl
contents_named name (Quoted t rest) = refl
contents_named name (Inside inner rest) = refl

-- a list has one head alone
pub only_head : (one other : List ℕ) → bytes_eq one other ≡ false → (s : Shape) → is_named one s ≡ true → is_named other s ≡ false
only_head one other n Over e = absurd (false≢true e)
only_head one other n (Quoted t rest) e = absurd (false≢true e)
only_head one other n (Inside inner rest) e = absurd (false≢true e)
only_head one other n (Bare t rest) e = ap (λ z. bytes_eq z other) ((bytes_eq-Decides t one).0 e) ∙ n

items_contents : (text : List ℕ) (f : Forest) → map (seen_unfilled text) (items_of f) ≡ parts (board_contents (forest_shape text f))
items_contents text Nil = refl
items_contents text (Word from to rest) = ap (λ z. seen_unfilled text (record { kind = kinds.Word; from = from; to = to; inner = Nil }) ∷ z) (items_contents text rest)
items_contents text (Text from to rest) = ap (λ z. seen_unfilled text (record { kind = kinds.Text; from = from; to = to; inner = Nil }) ∷ z) (items_contents text rest)
items_contents text (Group from to inner rest) = ap (λ z. seen_unfilled text (record { kind = kinds.List; from = from; to = to; inner = inner }) ∷ z) (items_contents text rest)

unzoned : (text : List ℕ) (i : Item) → is_headed text (codes "zone") i ≡ false → unfilled (forest_shape text i.inner) ≡ forest_shape text i.inner
unzoned text i h = ap (λ z. cond z (without fill_heads (forest_shape text i.inner)) (forest_shape text i.inner)) (sym (heads_seen text (codes "zone") i) ∙ h)

zoned : (text : List ℕ) (i : Item) → is_headed text (codes "zone") i ≡ true → unfilled (forest_shape text i.inner) ≡ without fill_heads (forest_shape text i.inner)
zoned text i h = ap (λ z. cond z (without fill_heads (forest_shape text i.inner)) (forest_shape text i.inner)) (sym (heads_seen text (codes "zone") i) ∙ h)

module _ (a b : List ℕ) where
  -- the two lists of the boards have the same contents
  abbrev pub Listed : Item → Item → Type 0
  Listed i j = seen_unfilled a i ≡ seen_unfilled b j

  pub listed_headed : (name : List ℕ) (i j : Item) → Listed i j → is_headed a name i ≡ is_headed b name j
  listed_headed name i j e =
      heads_seen a name i ∙ sym (unfilled_named name (forest_shape a i.inner)) ∙ ap (λ (s : ItemSeen). is_named name s.inner) e ∙ unfilled_named name (forest_shape b j.inner) ∙ sym (heads_seen b name j)

  pub listed_begins : (front : List ℕ) (i j : Item) → Listed i j → head_begins a front i ≡ head_begins b front j
  listed_begins front i j e =
      begins_seen a front i
      ∙ ap (λ t. starts_with nat_eq t front) (sym (unfilled_head (forest_shape a i.inner)) ∙ ap (λ (s : ItemSeen). head_in s.inner) e ∙ unfilled_head (forest_shape b j.inner))
      ∙ sym (begins_seen b front j)

  pub listed_same : (i j : Item) → Listed i j → is_headed a (codes "zone") i ≡ false → Same a b i j
  listed_same i j e h =
      sym (ap (λ (z : Shape). record { kind = i.kind; text = content_of a i; inner = z }) (unzoned a i h)) ∙ e
      ∙ ap (λ (z : Shape). record { kind = j.kind; text = content_of b j; inner = z }) (unzoned b j (sym (listed_headed (codes "zone") i j e) ∙ h))

  pub listed_weak : (i j : Item) → Listed i j → is_headed a (codes "zone") i ≡ true → Weak a b i j
  listed_weak i j e h = sym (zoned a i h) ∙ ap (λ (s : ItemSeen). s.inner) e ∙ zoned b j (sym (listed_headed (codes "zone") i j e) ∙ h)

  pub other_headed : (name other : List ℕ) → bytes_eq name other ≡ false → (i : Item) → is_headed a name i ≡ true → is_headed a other i ≡ false
  other_headed name other n i h = heads_seen a other i ∙ only_head name other n (forest_shape a i.inner) (sym (heads_seen a name i) ∙ h)

  -- ---- the boards themselves
  module _ (r s : Item) (e : HaveSameContents a r b s) where
    children_each : Each Listed (children_of r) (children_of s)
    children_each = maps_each (seen_unfilled a) (seen_unfilled b) (children_of r) (children_of s) (items_contents a r.inner ∙ ap parts e ∙ sym (items_contents b s.inner))

    same_by : (name : List ℕ) → bytes_eq name (codes "zone") ≡ false → (i j : Item) → Listed i j → is_headed a name i ≡ true → Same a b i j
    same_by name n i j l h = listed_same i j l (other_headed name (codes "zone") n i h)

    pub root_headed : (name : List ℕ) → is_headed a name r ≡ is_headed b name s
    root_headed name = heads_seen a name r ∙ sym (contents_named name (forest_shape a r.inner)) ∙ ap (is_named name) e ∙ contents_named name (forest_shape b s.inner) ∙ sym (heads_seen b name s)

    pub root_list : (name : List ℕ) → bytes_eq name (codes "zone") ≡ false → SameOption a b (list_of a name r) (list_of b name s)
    root_list name n =
        each_find Listed (item_seen a) (item_seen b) (is_headed a name) (is_headed b name) (listed_headed name) (same_by name n) (children_of r) (children_of s) children_each

    nets_there : Each (Same a b) (headed a (codes "net") r) (headed b (codes "net") s)
    nets_there = each_filter Listed (Same a b) (is_headed a (codes "net")) (is_headed b (codes "net")) (listed_headed (codes "net")) (same_by (codes "net") refl) (children_of r) (children_of s) children_each

    nets_same : declared_nets a r ≡ declared_nets b s
    unfolding declared_nets
    nets_same =
        each_given (Same a b) (declared_net a) (declared_net b) (λ x y h. ap (Rattle.std.specs.Prelude.option_map Rattle.board_text.specs.Numbers.whole_number) (said_two a b 0 x y h))
        (headed a (codes "net") r) (headed b (codes "net") s) nets_there

    names_there : (o p : Option Item) → SameOption a b o p → names_in a o ≡ names_in b p
    names_there None None h = refl
    names_there None (Some y) h = absurd (false≢true (ap is_some h))
    names_there (Some x) None h = absurd (true≢false (ap is_some h))
    names_there (Some x) (Some y) h = names_in_two a b x y (same_inside a b x y h)

    copper_same : copper_layers a r ≡ copper_layers b s
    unfolding copper_layers
    copper_same = ap (filter is_copper) (names_there (list_of a (codes "layers") r) (list_of b (codes "layers") s) (root_list (codes "layers") refl))

    pub context_same : IsSameContext (context_of a r) (context_of b s)
    unfolding context_of
    context_same = record { copper = copper_same; nets = nets_same }

    -- ---- their items

    own_there : (i j : Item) (p q : Bool) → p ≡ q → (p ≡ true → Same a b i j)
        → Each (AreSamePlaced a b) (cond p (map (λ x. record { item = x; site = InFootprint i }) (lists_of i)) []) (cond q (map (λ x. record { item = x; site = InFootprint j }) (lists_of j)) [])
    own_there i j true true h f =
        each_maps (Same a b) (AreSamePlaced a b) (λ x. record { item = x; site = InFootprint i }) (λ x. record { item = x; site = InFootprint j }) (λ x y g. (f refl, g)) (lists_of i) (lists_of j)
        (lists_two a b i j (f refl))
    own_there i j true false h f = absurd (true≢false h)
    own_there i j false true h f = absurd (false≢true h)
    own_there i j false false h f = tt

    with_own_each : (i j : Item) → Listed i j → Each (AreSamePlaced a b) (with_own a i) (with_own b j)
    with_own_each i j l =
        (l, own_there i j (is_headed a (codes "footprint") i) (is_headed b (codes "footprint") j) (listed_headed (codes "footprint") i j l) (same_by (codes "footprint") refl i j l))

    pub lists_each : Each Listed (lists_of r) (lists_of s)
    lists_each = each_filter Listed Listed is_list is_list (λ x y h. ap (λ (z : ItemSeen). is_list_kind z.kind) h) (λ x y h t. h) (children_of r) (children_of s) children_each

    pub items_same : AreSameItems a b (items_of_board a r) (items_of_board b s)
    unfolding items_of_board
    items_same = (e, each_flat_each Listed (AreSamePlaced a b) (with_own a) (with_own b) with_own_each (lists_of r) (lists_of s) lists_each)
