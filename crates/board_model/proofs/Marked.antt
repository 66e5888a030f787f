-- What the items that follow are tried with: it is what stands before them.
use Rattle.std.proofs.Common.{◌≡◌, ◌∙◌, ap, sym, refl, ℕ, ◌+◌, Bool, true, false, cond, List, [], ◌∷◌, ◌++◌, ◌||◌, arith, append-nil, Option, None, Some}
use Rattle.std.specs.Prelude.{filter_map, sum_by}
use Rattle.std.specs.List.{list_any}
use Rattle.std.proofs.lemmas.List.Elements.{filter_map-append}
use Rattle.std.proofs.lemmas.List.Sums.{sum_by-append, sum_by-cons}
use Rattle.sexpr_text.specs.Items.{Item}
use Rattle.std.specs.Str.{bytes_eq}
use Rattle.board_text.specs.Layers.{Name, is_among}
use Rattle.board_text.specs.Things.{Placed, Thing, Board, Layers, Net, Track, CurvedTrack, Via, Footprint, RuleArea, Zone, Drawing, Pad, FootprintDrawing, FootprintZone, Other, thing_of}
use Rattle.board_text.specs.Items.{Context, stamp_in}
use Rattle.board_language.specs.Counts.{things_of, things_as, outlines_of, outlines_as}
use Rattle.board_language.specs.Pads.{is_read_pad}
use Rattle.board_language.specs.Zones.{is_read_zone, is_read_area}
use Rattle.board_language.specs.Offences.{has_layers, is_layers, nets_among, net_as, net_number, stamps_among, stamp_as, stamp_of_placed}
use Rattle.board_text.specs.declared.stamped.Stamped.{Stamped}
use Rattle.board_items.specs.Stamps.{Table, stamps_of, with_stamps}
use Rattle.board_items.proofs.StampTables.{among_all}
use Rattle.board_model.specs.State.{State, nothing_read_yet}
use Rattle.board_model.specs.Steps.{after_as, put, put_stamp}
use Rattle.board_model.specs.Run.{after}

-- ---- one more at the end

any_last : {X : Type 0} (f : X → Bool) (xs : List X) (x : X) → list_any f (xs ++ x ∷ []) ≡ (list_any f xs || f x)
any_last f [] x = one (f x)
  where
    one : (b : Bool) → (b || false) ≡ b
    one true = refl
    one false = refl
any_last f (y ∷ ys) x = rw (any_last f ys x) (three (f y) (list_any f ys) (f x))
  where
    three : (a b d : Bool) → (a || (b || d)) ≡ ((a || b) || d)
    three true b d = refl
    three false b d = refl

put_is : {Y : Type 0} (o : Option Y) (ys : List Y) → ys ++ filter_map (λ (p : Option Y). p) (o ∷ []) ≡ put ys o
put_is None ys = append-nil ys
put_is (Some y) ys = refl

pub found_last : {X Y : Type 0} (f : X → Option Y) (xs : List X) (x : X) → filter_map f (xs ++ x ∷ []) ≡ put (filter_map f xs) (f x)
found_last f xs x = filter_map-append f xs (x ∷ []) ∙ put_is (f x) (filter_map f xs)

plus_none : (n : ℕ) → n ≡ n + 0
plus_none n = omega arith

sum_last : {X : Type 0} (f : X → ℕ) (xs : List X) (x : X) → sum_by f (xs ++ x ∷ []) ≡ sum_by f xs + f x
sum_last f xs x = sum_by-append f xs (x ∷ []) ∙ ap (λ n. sum_by f xs + n) (sum_by-cons f x [] ∙ sym (plus_none (f x)))

-- ---- what one item changes

-- what a reading has of both states, it has of the one that a test picks
picked : {X Y : Type 0} (f : X → Y) (b : Bool) (x y : X) (z : Y) → f x ≡ z → f y ≡ z → f (cond b x y) ≡ z
picked f true x y z p q = p
picked f false x y z p q = q

or_false : (b : Bool) → b ≡ (b || false)
or_false true = refl
or_false false = refl

or_true : (b : Bool) → true ≡ (b || true)
or_true true = refl
or_true false = refl

layers_after : (c : Context) (s : State) (item : Item) (t : Thing) → (after_as c s item t).layers ≡ (s.layers || is_layers t)
layers_after c s item Board = or_false s.layers
layers_after c s item Layers = or_true s.layers
layers_after c s item Net = or_false s.layers
layers_after c s item Track = or_false s.layers
layers_after c s item CurvedTrack = or_false s.layers
layers_after c s item Via = or_false s.layers
layers_after c s item Footprint = or_false s.layers
layers_after c s item RuleArea = picked (λ (r : State). r.layers) (is_read_area c item) _ _ _ (or_false s.layers) (or_false s.layers)
layers_after c s item Zone = picked (λ (r : State). r.layers) (is_read_zone c item) _ _ _ (or_false s.layers) (or_false s.layers)
layers_after c s item Drawing = or_false s.layers
layers_after c s item (Pad footprint) = picked (λ (r : State). r.layers) (is_read_pad c item) _ _ _ (or_false s.layers) (or_false s.layers)
layers_after c s item FootprintDrawing = or_false s.layers
layers_after c s item FootprintZone = or_false s.layers
layers_after c s item Other = or_false s.layers

nets_after : (c : Context) (s : State) (item : Item) (t : Thing) → (after_as c s item t).nets ≡ put s.nets (net_as c.bytes item t)
nets_after c s item Board = refl
nets_after c s item Layers = refl
nets_after c s item Net = refl
nets_after c s item Track = refl
nets_after c s item CurvedTrack = refl
nets_after c s item Via = refl
nets_after c s item Footprint = refl
nets_after c s item RuleArea = picked (λ (r : State). r.nets) (is_read_area c item) _ _ _ refl refl
nets_after c s item Zone = picked (λ (r : State). r.nets) (is_read_zone c item) _ _ _ refl refl
nets_after c s item Drawing = refl
nets_after c s item (Pad footprint) = picked (λ (r : State). r.nets) (is_read_pad c item) _ _ _ refl refl
nets_after c s item FootprintDrawing = refl
nets_after c s item FootprintZone = refl
nets_after c s item Other = refl

or_none : (b : Bool) → (b || false) ≡ b
or_none true = refl
or_none false = refl

among_last : (names : List Name) (name other : Name) → is_among (names ++ name ∷ []) other ≡ (is_among names other || bytes_eq name other)
among_last names name other = any_last (λ n. bytes_eq n other) names name

-- of the names before, and the one of this item
one_name : (table : Table) (name : Option Name) (thing : Stamped) (other : Name) → is_among (stamps_of (put_stamp table name thing)) other ≡ is_among (put (stamps_of table) name) other
unfolding with_stamps
one_name table None thing other = refl
one_name table (Some name) thing other =
    among_all table ((name, thing) ∷ []) other ∙ ap (λ b. is_among (stamps_of table) other || b) (or_none (bytes_eq name other)) ∙ sym (among_last (stamps_of table) name other)

module _ (c : Context) (s : State) (item : Item) (other : Name) where
  abbrev there : State → Bool
  there r = is_among (stamps_of r.stamps) other

  names_after : (t : Thing) → is_among (stamps_of (after_as c s item t).stamps) other ≡ is_among (put (stamps_of s.stamps) (stamp_as c.bytes item t)) other
  names_after Board = refl
  names_after Layers = refl
  names_after Net = refl
  names_after Track = one_name s.stamps (stamp_in c.bytes item) _ other
  names_after CurvedTrack = refl
  names_after Via = one_name s.stamps (stamp_in c.bytes item) _ other
  names_after Footprint = refl
  names_after RuleArea = picked there (is_read_area c item) _ _ _ (one_name s.stamps (stamp_in c.bytes item) _ other) (one_name s.stamps (stamp_in c.bytes item) _ other)
  names_after Zone = picked there (is_read_zone c item) _ _ _ (one_name s.stamps (stamp_in c.bytes item) _ other) (one_name s.stamps (stamp_in c.bytes item) _ other)
  names_after Drawing = refl
  names_after (Pad footprint) = picked there (is_read_pad c item) _ _ _ refl refl
  names_after FootprintDrawing = refl
  names_after FootprintZone = refl
  names_after Other = refl

-- names that are the same to ask for, are so with one more
same_more : (xs ys : List Name) (name : Option Name) (other : Name) → is_among xs other ≡ is_among ys other → is_among (put xs name) other ≡ is_among (put ys name) other
same_more xs ys None other e = e
same_more xs ys (Some name) other e = among_last xs name other ∙ ap (λ b. b || bytes_eq name other) e ∙ sym (among_last ys name other)

-- one more, where a test holds
counted : (count : State → ℕ) (b : Bool) (new old : State) → count new ≡ count old + 1 → count (cond b new old) ≡ count old + cond b 1 0
counted count true new old e = e
counted count false new old e = plus_none (count old)

things_after : (c : Context) (s : State) (item : Item) (t : Thing) → (after_as c s item t).things ≡ s.things + things_as c item t
things_after c s item Board = plus_none s.things
things_after c s item Layers = plus_none s.things
things_after c s item Net = refl
things_after c s item Track = refl
things_after c s item CurvedTrack = plus_none s.things
things_after c s item Via = refl
things_after c s item Footprint = plus_none s.things
things_after c s item RuleArea = picked (λ (r : State). r.things) (is_read_area c item) _ _ _ (plus_none s.things) (plus_none s.things)
things_after c s item Zone = counted (λ (r : State). r.things) (is_read_zone c item) _ (record s { stamps = _ }) refl
things_after c s item Drawing = refl
things_after c s item (Pad footprint) = counted (λ (r : State). r.things) (is_read_pad c item) _ s refl
things_after c s item FootprintDrawing = plus_none s.things
things_after c s item FootprintZone = plus_none s.things
things_after c s item Other = plus_none s.things

outlines_after : (c : Context) (s : State) (item : Item) (t : Thing) → (after_as c s item t).outlines ≡ s.outlines + outlines_as c item t
outlines_after c s item Board = plus_none s.outlines
outlines_after c s item Layers = plus_none s.outlines
outlines_after c s item Net = plus_none s.outlines
outlines_after c s item Track = plus_none s.outlines
outlines_after c s item CurvedTrack = plus_none s.outlines
outlines_after c s item Via = plus_none s.outlines
outlines_after c s item Footprint = plus_none s.outlines
outlines_after c s item RuleArea = counted (λ (r : State). r.outlines) (is_read_area c item) _ (record s { stamps = _ }) refl
outlines_after c s item Zone = counted (λ (r : State). r.outlines) (is_read_zone c item) _ (record s { stamps = _ }) refl
outlines_after c s item Drawing = plus_none s.outlines
outlines_after c s item (Pad footprint) = picked (λ (r : State). r.outlines) (is_read_pad c item) _ _ _ (plus_none s.outlines) (plus_none s.outlines)
outlines_after c s item FootprintDrawing = plus_none s.outlines
outlines_after c s item FootprintZone = plus_none s.outlines
outlines_after c s item Other = plus_none s.outlines

-- ---- all of them

-- what the next item is tried with is what stands before it
pub record Marked (c : Context) (s : State) (before : List Placed) : Type 0 where
  pub layers : s.layers ≡ has_layers c before
  pub nets : s.nets ≡ nets_among c.bytes before
  pub stamps : (name : Name) → is_among (stamps_of s.stamps) name ≡ is_among (stamps_among c.bytes before) name
  pub things : s.things ≡ sum_by (things_of c) before
  pub outlines : s.outlines ≡ sum_by (outlines_of c) before

pub none_marked : (c : Context) → Marked c nothing_read_yet []
unfolding nets_among stamps_among
none_marked c = record { layers = refl; nets = refl; stamps = λ name. refl; things = refl; outlines = refl }

pub next_marked : (c : Context) (s : State) (before : List Placed) (p : Placed) → Marked c s before → Marked c (after c s p) (before ++ p ∷ [])
unfolding after nets_among stamps_among things_of outlines_of
next_marked c s before p h =
    let t = thing_of c.bytes p in
    record {
      layers = layers_after c s p.item t ∙ ap (λ b. b || is_layers t) h.layers ∙ sym (any_last (λ q. is_layers (thing_of c.bytes q)) before p);
      nets = nets_after c s p.item t ∙ ap (λ ns. put ns (net_as c.bytes p.item t)) h.nets ∙ sym (found_last (net_number c.bytes) before p);
      stamps =
          λ name.
          names_after c s p.item name t ∙ same_more (stamps_of s.stamps) (stamps_among c.bytes before) (stamp_as c.bytes p.item t) name (h.stamps name)
          ∙ ap (λ ns. is_among ns name) (sym (found_last (stamp_of_placed c.bytes) before p));
      things = things_after c s p.item t ∙ ap (λ n. n + things_as c p.item t) h.things ∙ sym (sum_last (things_of c) before p);
      outlines = outlines_after c s p.item t ∙ ap (λ n. n + outlines_as c p.item t) h.outlines ∙ sym (sum_last (outlines_of c) before p);
    }
