-- What of a text its board is told by: the contents of its lists, whatever their places, and of zones whatever old fills.
--
--     (zone (net 1) (filled_polygon ..) (polygon ..))      is read as      (zone (net 1) (polygon ..))
use Rattle.std.specs.Prelude.{◌≡◌, ℕ, Bool, cond, List, [], ◌∷◌, codes}
use Rattle.std.specs.List.{list_any}
use Rattle.sexpr_text.specs.Items.{Item}
use Rattle.text_shapes.specs.Shapes.{Shape, forest_shape}
use Rattle.text_shapes.specs.Shapes.Shape.{Over, Bare, Quoted, Inside}
use Rattle.text_shapes.specs.Seen.{ItemSeen, item_seen, is_named}
use Rattle.board_text.specs.Things.{Placed, Site, Root, OnBoard, InFootprint}

-- the lists of a zone that hold fills which were written before
abbrev pub fill_heads : List (List ℕ)
fill_heads = codes "filled_polygon" ∷ codes "fill_segments" ∷ []

-- the first word of a shape is one of these names
abbrev pub is_named_among : List (List ℕ) → Shape → Bool
is_named_among names s = list_any (λ name. is_named name s) names

-- without the lists that have one of these heads
abbrev pub without : List (List ℕ) → Shape → Shape
without names Over = Over
without names (Bare t rest) = Bare t (without names rest)
without names (Quoted t rest) = Quoted t (without names rest)
without names (Inside inner rest) = cond (is_named_among names inner) (without names rest) (Inside inner (without names rest))

-- what is inside a list of a board: of a zone without its old fills
abbrev pub unfilled : Shape → Shape
unfilled inner = cond (is_named (codes "zone") inner) (without fill_heads inner) inner

-- the contents of a board, of each zone without its old fills
abbrev pub board_contents : Shape → Shape
board_contents Over = Over
board_contents (Bare t rest) = Bare t (board_contents rest)
board_contents (Quoted t rest) = Quoted t (board_contents rest)
board_contents (Inside inner rest) = Inside (unfilled inner) (board_contents rest)

-- the two boards have the same contents, but for places and for the old fills of zones
abbrev pub HaveSameContents : List ℕ → Item → List ℕ → Item → Type 0
HaveSameContents text root other last = board_contents (forest_shape text root.inner) ≡ board_contents (forest_shape other last.inner)

-- ---- item by item

-- what is item_seen of a list of a board, of a zone without its old fills
abbrev pub seen_unfilled : List ℕ → Item → ItemSeen
seen_unfilled text item = record { kind = item.kind; text = (item_seen text item).text; inner = unfilled (forest_shape text item.inner) }

-- the two items have the same contents, by where they stand: the boards themselves, lists of the boards, lists of footprints
-- with the same contents
abbrev pub AreSameAt : List ℕ → List ℕ → Item → Item → Site → Site → Type 0
AreSameAt text other i j Root Root = HaveSameContents text i other j
AreSameAt text other i j OnBoard OnBoard = seen_unfilled text i ≡ seen_unfilled other j
AreSameAt text other i j (InFootprint f) (InFootprint g) = (item_seen text f ≡ item_seen other g) × (item_seen text i ≡ item_seen other j)
AreSameAt text other i j Root OnBoard = ⊥
AreSameAt text other i j Root (InFootprint g) = ⊥
AreSameAt text other i j OnBoard Root = ⊥
AreSameAt text other i j OnBoard (InFootprint g) = ⊥
AreSameAt text other i j (InFootprint f) Root = ⊥
AreSameAt text other i j (InFootprint f) OnBoard = ⊥

-- the two items of boards have the same contents, and stand in the same way
abbrev pub AreSamePlaced : List ℕ → List ℕ → Placed → Placed → Type 0
AreSamePlaced text other p q = AreSameAt text other p.item q.item p.site q.site

-- the elements of the two lists are in the relation one by one
abbrev pub Each : {X Y : Type 0} → (X → Y → Type 0) → List X → List Y → Type 0
Each R [] [] = Unit {0}
Each R [] (y ∷ ys) = ⊥
Each R (x ∷ xs) [] = ⊥
Each R (x ∷ xs) (y ∷ ys) = R x y × Each R xs ys

-- the items of the two boards, or some of them, have the same contents one by one
abbrev pub AreSameItems : List ℕ → List ℕ → List Placed → List Placed → Type 0
AreSameItems text other items others = Each (AreSamePlaced text other) items others
