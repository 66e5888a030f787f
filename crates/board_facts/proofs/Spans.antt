-- The lists of a board stand in its text, and those of a zone within the zone.
use Rattle.std.proofs.Common.{◌≡◌, refl, sym, ap, subst, ◌∙◌, ℕ, zero, suc, ◌+◌, ◌-◌, ◌<◌, ◌≤◌, inl, inr, arith, Bool, true, false, cond, List, [], ◌∷◌, ◌++◌, ◌⊎◌, map, length, filter, find, Option, None, Some}
use Rattle.std.specs.Prelude.{codes, if◌then◌else◌, slice_index, flat_map, option_and_then, IfSome}
use Rattle.std.specs.List.{cons_option}
use Rattle.std.proofs.lemmas.Bool.{false≢true, cases_lt}
use Rattle.classes.specs.Classes.{IsOneOf}
use Rattle.sexpr_text.specs.Grammar.{Forest, Items, IsBracket, is_space}
use Rattle.sexpr_text.specs.Grammar.Forest.{Nil, Word, Text, Group}
use Rattle.sexpr_text.specs.Items.{Item, items_of, is_headed}
use Rattle.sexpr_text.specs.Trees.{IsRoot}
use Rattle.sexpr_text.specs.declared.NodeKind.TheVariants as kinds
use Rattle.sexpr_text.specs.declared.Span.{Span}
use Rattle.board_text.specs.Lists.{is_list, lists_of}
use Rattle.board_language.specs.declared.board.Track as tracks
use Rattle.board_language.specs.declared.board.Via as vias
use Rattle.board_language.specs.declared.board.Zone as zones
use Rattle.board_text.specs.Fields.{list_of}
use Rattle.board_text.specs.Things.{Placed, Thing, InFootprint, Track, Via, Zone, thing_of, on_board, with_own, items_of_board}
use Rattle.board_text.specs.Items.{Context, span_of, solid_end, tail_of, context_of}
use Rattle.board_language.specs.Tracks.{track_of, via_of}
use Rattle.board_language.specs.Zones.{is_read_zone, is_fill, clearance_list, span_or_none, spans_of, zone_of}
use Rattle.board_language.specs.Reading.{board_of, all_of, track_from, via_from, zone_from}
use Rattle.board_language.proofs.Members.{one_of_flat, one_of_map, append_right}
use Rattle.board_facts.specs.Places.{IsListBetween, AreBetween, HasPlaces, IsPlacedZone}
use Rattle.board_facts.specs.Laws.{PlacesLaw}
use Rattle.board_facts.proofs.Passed.{no_some, of_some}
use Rattle.board_facts.proofs.OnBoard.{IsOfBoard, next_got}
use Rattle.board_facts.proofs.Tried.{got_in, all_of_members}

-- ---- a list among the items from one place to another

pub record IsListIn (bytes : List ℕ) (room from to : ℕ) (list : Item) : Type 0 where
  pub bracket : IsBracket bytes room list.from list.to
  pub inner : Items bytes (room - 1) (list.from + 1) (list.to - 1) list.inner
  pub begins : from ≤ list.from
  pub ends : list.to ≤ to

wider : (bytes : List ℕ) (room a from to b : ℕ) (list : Item) → a ≤ from → to ≤ b → IsListIn bytes room from to list → IsListIn bytes room a b list
wider bytes room a from to b list l m h = let f = h.begins in let t = h.ends in record { bracket = h.bracket; inner = h.inner; begins = omega (arith, l, f); ends = omega (arith, m, t) }

pub between : (bytes : List ℕ) (room from to : ℕ) (list : Item) → IsListIn bytes room from to list → IsListBetween from to (span_of list)
between bytes room from to list h = let o = h.bracket.order in record { begins = h.begins; some = omega (arith, o); ends = h.ends }

-- the items end no earlier than they begin
order : (bytes : List ℕ) (room at end : ℕ) (f : Forest) → Items bytes room at end f → at ≤ end
order bytes room at end Nil i = i.order
order bytes room at end (Word from to rest) i = let a = i.0.order in let b = i.1.order in let c = order bytes room to end rest i.2 in omega (arith, a, b, c)
order bytes room at end (Text from to rest) i = let a = i.0.order in let b = i.1.order in let c = order bytes room to end rest i.2 in omega (arith, a, b, c)
order bytes room at end (Group from to inner rest) i = let a = i.0.order in let b = i.1.order in let c = order bytes room to end rest i.3 in omega (arith, a, b, c)

abbrev list_item : ℕ → ℕ → Forest → Item
list_item from to inner = record { kind = kinds.List; from = from; to = to; inner = inner }

first : (bytes : List ℕ) (room at end from to : ℕ) (inner rest : Forest) → Items bytes room at end (Group from to inner rest) → IsListIn bytes room at end (list_item from to inner)
first bytes room at end from to inner rest i = record { bracket = i.1; inner = i.2; begins = i.0.order; ends = order bytes room to end rest i.3 }

in_lists : (bytes : List ℕ) (room at end : ℕ) (f : Forest) (list : Item) → Items bytes room at end f → IsOneOf list (filter is_list (items_of f)) → IsListIn bytes room at end list
unfolding IsOneOf
in_lists bytes room at end Nil list i m = absurd m
in_lists bytes room at end (Word from to rest) list i m =
    let a = i.0.order in let b = i.1.order in wider bytes room at to end end list (omega (arith, a, b)) (omega arith) (in_lists bytes room to end rest list i.2 m)
in_lists bytes room at end (Text from to rest) list i m =
    let a = i.0.order in let b = i.1.order in wider bytes room at to end end list (omega (arith, a, b)) (omega arith) (in_lists bytes room to end rest list i.2 m)
in_lists bytes room at end (Group from to inner rest) list i (inl e) = subst (IsListIn bytes room at end) (sym e) (first bytes room at end from to inner rest i)
in_lists bytes room at end (Group from to inner rest) list i (inr m) =
    let a = i.0.order in let b = i.1.order in wider bytes room at to end end list (omega (arith, a, b)) (omega arith) (in_lists bytes room to end rest list i.3 m)

-- a list that is found by its head
found : (bytes name : List ℕ) (room at end : ℕ) (f : Forest) (list : Item) → Items bytes room at end f → find (is_headed bytes name) (items_of f) ≡ Some list → IsListIn bytes room at end list
found bytes name room at end Nil list i e = no_some list e
found bytes name room at end (Word from to rest) list i e =
    let a = i.0.order in let b = i.1.order in wider bytes room at to end end list (omega (arith, a, b)) (omega arith) (found bytes name room to end rest list i.2 e)
found bytes name room at end (Text from to rest) list i e =
    let a = i.0.order in let b = i.1.order in wider bytes room at to end end list (omega (arith, a, b)) (omega arith) (found bytes name room to end rest list i.2 e)
found bytes name room at end (Group from to inner rest) list i e = by_head (is_headed bytes name (list_item from to inner)) e (found bytes name room to end rest list i.3)
  where
    by_head : (b : Bool) → cond b (Some (list_item from to inner)) (find (is_headed bytes name) (items_of rest)) ≡ Some list
        → (find (is_headed bytes name) (items_of rest) ≡ Some list → IsListIn bytes room to end list) → IsListIn bytes room at end list
    by_head true e more = subst (IsListIn bytes room at end) (of_some (list_item from to inner) list e) (first bytes room at end from to inner rest i)
    by_head false e more = let a = i.0.order in let b = i.1.order in wider bytes room at to end end list (omega (arith, a, b)) (omega arith) (more e)

-- ---- white space before a place

-- what isn't white space stands before it
solid_from : (bytes : List ℕ) (k n : ℕ) → is_space (slice_index bytes k) ≡ false → suc k ≤ n → suc k ≤ solid_end bytes n
unfolding solid_end
solid_from bytes k zero e l = absurd (omega (arith, l))
solid_from bytes k (suc n) e l = by_test (is_space (slice_index bytes n)) refl (solid_from bytes k n e)
  where
    other : is_space (slice_index bytes n) ≡ true → k ≡ n → ⊥
    other s same = false≢true (sym e ∙ ap (λ m. is_space (slice_index bytes m)) same ∙ s)

    by_test : (b : Bool) → is_space (slice_index bytes n) ≡ b → (suc k ≤ n → suc k ≤ solid_end bytes n) → suc k ≤ (if b then solid_end bytes n else suc n)
    by_test false s more = l
    by_test true s more = by_place (cases_lt k n)
      where
        by_place : (k < n) ⊎ (n ≤ k) → suc k ≤ solid_end bytes n
        by_place (inl h) = more (omega (arith, h))
        by_place (inr h) = absurd (other s (omega (arith, h, l)))

solid_within : (bytes : List ℕ) (n : ℕ) → solid_end bytes n ≤ n
unfolding solid_end
solid_within bytes zero = omega arith
solid_within bytes (suc n) = by_test (is_space (slice_index bytes n)) (solid_within bytes n)
  where
    by_test : (b : Bool) → solid_end bytes n ≤ n → (if b then solid_end bytes n else suc n) ≤ suc n
    by_test true l = omega (arith, l)
    by_test false l = omega arith

-- a list ends before the white space behind it
ends_solid : (bytes : List ℕ) (room from end : ℕ) (list : Item) → IsListIn bytes room from end list → list.to ≤ solid_end bytes end
ends_solid bytes room from end list h =
    let o = h.bracket.order in
    let t = h.ends in
    let e : is_space (slice_index bytes (list.to - 1)) ≡ false = ap is_space h.bracket.closing in
    let s : suc (list.to - 1) ≤ solid_end bytes end = solid_from bytes (list.to - 1) end e (omega (arith, o, t)) in
    omega (arith, s, o)

-- ---- the lists of a zone

before_tail : (bytes : List ℕ) (room from end : ℕ) (list : Item) → IsListIn bytes room from end list → IsListBetween from (solid_end bytes end) (span_of list)
before_tail bytes room from end list h = let o = h.bracket.order in record { begins = h.begins; some = omega (arith, o); ends = ends_solid bytes room from end list h }

fills_between : (bytes : List ℕ) (room at end low : ℕ) (f : Forest) → Items bytes room at end f → low ≤ at → low ≤ solid_end bytes end
    → AreBetween low (solid_end bytes end) (map span_of (filter (is_fill bytes) (filter is_list (items_of f))))
unfolding AreBetween
fills_between bytes room at end low Nil i l s = s
fills_between bytes room at end low (Word from to rest) i l s = let a = i.0.order in let b = i.1.order in fills_between bytes room to end low rest i.2 (omega (arith, l, a, b)) s
fills_between bytes room at end low (Text from to rest) i l s = let a = i.0.order in let b = i.1.order in fills_between bytes room to end low rest i.2 (omega (arith, l, a, b)) s
fills_between bytes room at end low (Group from to inner rest) i l s =
    let a = i.0.order in
    let b = i.1.order in
    let list = first bytes room at end from to inner rest i in
    let here : IsListBetween low (solid_end bytes end) (span_of (list_item from to inner)) = before_tail bytes room low end (list_item from to inner) (wider bytes room low at end end (list_item from to inner) l (omega arith) list) in
    by_fill (is_fill bytes (list_item from to inner)) here (fills_between bytes room to end to rest i.3 (omega arith) here.ends)
    (fills_between bytes room to end low rest i.3 (omega (arith, l, a, b)) s)
  where
    by_fill : (b : Bool) → IsListBetween low (solid_end bytes end) (span_of (list_item from to inner))
        → AreBetween to (solid_end bytes end) (map span_of (filter (is_fill bytes) (filter is_list (items_of rest))))
        → AreBetween low (solid_end bytes end) (map span_of (filter (is_fill bytes) (filter is_list (items_of rest))))
        → AreBetween low (solid_end bytes end)
        (map span_of (cond b (list_item from to inner ∷ filter (is_fill bytes) (filter is_list (items_of rest))) (filter (is_fill bytes) (filter is_list (items_of rest)))))
    by_fill true here gone kept = (here, gone)
    by_fill false here gone kept = kept

-- a list of the zone that may be absent
one_before : (bytes : List ℕ) (room from end : ℕ) (list : Option Item) → ((l : Item) → list ≡ Some l → IsListIn bytes room from end l) → IfSome (span_or_none list) (IsListBetween from (solid_end bytes end))
one_before bytes room from end None h = tt
one_before bytes room from end (Some l) h = before_tail bytes room from end l (h l refl)

-- a list inside one of those
in_found : (bytes outer name : List ℕ) (room at end : ℕ) (f : Forest) (list : Item) → Items bytes room at end f
    → option_and_then (list_of bytes name) (find (is_headed bytes outer) (items_of f)) ≡ Some list → IsListIn bytes (room - 1) at end list
in_found bytes outer name room at end f list i e = by_outer (find (is_headed bytes outer) (items_of f)) refl e
  where
    by_outer : (o : Option Item) → find (is_headed bytes outer) (items_of f) ≡ o → option_and_then (list_of bytes name) o ≡ Some list → IsListIn bytes (room - 1) at end list
    by_outer None g e = no_some list e
    by_outer (Some l) g e =
        let h = found bytes outer room at end f l i g in
        let a = h.begins in
        let b = h.ends in
        wider bytes (room - 1) at (l.from + 1) (l.to - 1) end list (omega (arith, a)) (omega (arith, b)) (found bytes name (room - 1) (l.from + 1) (l.to - 1) l.inner list h.inner e)

pub zone_places : (bytes : List ℕ) (room from to : ℕ) (zone : Item) → IsListIn bytes room from to zone → HasPlaces (span_of zone) (spans_of bytes zone)
unfolding spans_of
zone_places bytes room from to zone h =
    let o = h.bracket.order in
    let opening : is_space (slice_index bytes zone.from) ≡ false = ap is_space h.bracket.opening in
    let opens : suc zone.from ≤ tail_of bytes zone = solid_from bytes zone.from (zone.to - 1) opening (omega (arith, o)) in
    let closes = solid_within bytes (zone.to - 1) in
    record {
      opens = omega (arith, opens);
      closes = omega (arith, closes, o);
      priority = one_before bytes (room - 1) (zone.from + 1) (zone.to - 1) (list_of bytes (codes "priority") zone)
          (λ l e. found bytes (codes "priority") (room - 1) (zone.from + 1) (zone.to - 1) zone.inner l h.inner e);
      connect = one_before bytes (room - 1) (zone.from + 1) (zone.to - 1) (list_of bytes (codes "connect_pads") zone)
          (λ l e. found bytes (codes "connect_pads") (room - 1) (zone.from + 1) (zone.to - 1) zone.inner l h.inner e);
      clearance = one_before bytes (room - 1 - 1) (zone.from + 1) (zone.to - 1) (clearance_list bytes zone)
          (λ l e. in_found bytes (codes "connect_pads") (codes "clearance") (room - 1) (zone.from + 1) (zone.to - 1) zone.inner l h.inner e);
      fills = fills_between bytes (room - 1) (zone.from + 1) (zone.to - 1) (zone.from + 1) zone.inner h.inner (omega arith) (omega (arith, opens));
    }

-- ---- the items of a board

pub record Stands (bytes : List ℕ) (item : Item) : Type 0 where
  pub room : ℕ
  pub list : IsListIn bytes room 0 (length bytes) item

own_stands : (bytes : List ℕ) (room : ℕ) (list : Item) (p : Placed) → IsListIn bytes room 0 (length bytes) list → IsOneOf p (with_own bytes list) → Stands bytes p.item
unfolding IsOneOf
own_stands bytes room list p h (inl e) = subst (λ (q : Placed). Stands bytes q.item) (sym e) (record { room = room; list = h })
own_stands bytes room list p h (inr m) = by_head (is_headed bytes (codes "footprint") list) m
  where
    by_head : (b : Bool) → IsOneOf p (cond b (map (λ j. record { item = j; site = InFootprint list }) (lists_of list)) []) → Stands bytes p.item
    by_head false m = absurd m
    by_head true m =
        let r = one_of_map (λ (j : Item). record { item = j; site = InFootprint list }) p (lists_of list) m in
        let t = h.ends in
        let l = wider bytes (room - 1) 0 (list.from + 1) (list.to - 1) (length bytes) r.0 (omega arith) (omega (arith, t)) (in_lists bytes (room - 1) (list.from + 1) (list.to - 1) list.inner r.0 h.inner r.1) in
        subst (λ (q : Placed). Stands bytes q.item) (sym r.2) (record { room = room - 1; list = l })

pub root_in : (bytes : List ℕ) (root : Item) → IsRoot bytes root → IsListIn bytes 64 0 (length bytes) root
root_in bytes root r =
    let i : Items bytes 64 0 (length bytes) (Group root.from root.to root.inner Nil) = r.spelt.items in
    record { bracket = i.1; inner = i.2; begins = i.0.order; ends = i.3.order }

pub item_stands : (bytes : List ℕ) (root : Item) (p : Placed) → IsRoot bytes root → IsOneOf p (items_of_board bytes root) → Stands bytes p.item
unfolding IsOneOf items_of_board
item_stands bytes root p r (inl e) = subst (λ (q : Placed). Stands bytes q.item) (sym e) (record { room = 64; list = root_in bytes root r })
item_stands bytes root p r (inr m) =
    let f = one_of_flat (with_own bytes) p (lists_of root) m in
    let h = root_in bytes root r in
    let t = h.ends in
    own_stands bytes 63 f.0 p (wider bytes 63 0 (root.from + 1) (root.to - 1) (length bytes) f.0 (omega arith) (omega (arith, t)) (in_lists bytes 63 (root.from + 1) (root.to - 1) root.inner f.0 h.inner f.1)) f.2

-- ---- tracks, vias and zones

track_as : (c : Context) (item : Item) (t : Thing) (y : tracks.Track) → track_from c item t ≡ Some y → y.span ≡ span_of item
unfolding track_of
track_as c item Track y e = ap (λ (z : tracks.Track). z.span) (sym (of_some (track_of c item) y e))
track_as c item _ y e = no_some y e

via_as : (c : Context) (item : Item) (t : Thing) (y : vias.Via) → via_from c item t ≡ Some y → y.span ≡ span_of item
unfolding via_of
via_as c item Via y e = ap (λ (z : vias.Via). z.span) (sym (of_some (via_of c item) y e))
via_as c item _ y e = no_some y e

zone_as : (c : Context) (item : Item) (t : Thing) (y : zones.Zone) → zone_from c item t ≡ Some y → y ≡ zone_of c item
zone_as c item Zone y e = by_read (is_read_zone c item) e
  where
    by_read : (b : Bool) → cond b (Some (zone_of c item)) None ≡ Some y → y ≡ zone_of c item
    by_read true e = sym (of_some (zone_of c item) y e)
    by_read false e = no_some y e
zone_as c item _ y e = no_some y e

zone_span : (c : Context) (item : Item) (t : Thing) (y : zones.Zone) → zone_from c item t ≡ Some y → y.span ≡ span_of item
unfolding zone_of
zone_span c item t y e = ap (λ (z : zones.Zone). z.span) (zone_as c item t y e)

zone_placed : (c : Context) (zone : Item) → Stands c.bytes zone → IsPlacedZone (length c.bytes) (zone_of c zone)
unfolding zone_of
zone_placed c zone s = record { list = between c.bytes s.room 0 (length c.bytes) zone s.list; places = zone_places c.bytes s.room 0 (length c.bytes) zone s.list }

middle : {X : Type 0} (before behind xs : List X) (x : X) → xs ≡ before ++ x ∷ behind → IsOneOf x xs
unfolding IsOneOf
middle before behind xs x e = subst (IsOneOf x) (sym e) (append_right x before (x ∷ behind) (inl refl))

-- ---- zones stand in order

abbrev span_of_zone : zones.Zone → Span
span_of_zone z = z.span

-- a footprint has none that is read
zones_of_board : (c : Context) → IsOfBoard (zone_from c)
zones_of_board c = record { pad = λ item footprint. refl; zone = λ item. refl; drawing = λ item. refl; other = λ item. refl }

next_zone : (low end : ℕ) (list : Span) (o : Option zones.Zone) (zs : List zones.Zone) → ((z : zones.Zone) → o ≡ Some z → z.span ≡ list) → IsListBetween low end list
    → AreBetween list.to end (map span_of_zone zs) → AreBetween low end (map span_of_zone zs) → AreBetween low end (map span_of_zone (cons_option o zs))
unfolding AreBetween
next_zone low end list None zs h here behind all = all
next_zone low end list (Some z) zs h here behind all =
    (subst (IsListBetween low end) (sym (h z refl)) here, subst (λ (s : Span). AreBetween s.to end (map span_of_zone zs)) (sym (h z refl)) behind)

zones_between : (c : Context) (room at end low : ℕ) (f : Forest) → Items c.bytes room at end f → low ≤ at
    → AreBetween low end (map span_of_zone (all_of zone_from c (flat_map (with_own c.bytes) (filter is_list (items_of f)))))
unfolding AreBetween
zones_between c room at end low Nil i l = let o = i.order in omega (arith, l, o)
zones_between c room at end low (Word from to rest) i l = let a = i.0.order in let b = i.1.order in zones_between c room to end low rest i.2 (omega (arith, l, a, b))
zones_between c room at end low (Text from to rest) i l = let a = i.0.order in let b = i.1.order in zones_between c room to end low rest i.2 (omega (arith, l, a, b))
zones_between c room at end low (Group from to inner rest) i l =
    let a = i.0.order in
    let b = i.1.order in
    let list = list_item from to inner in
    let more = all_of zone_from c (flat_map (with_own c.bytes) (filter is_list (items_of rest))) in
    let here : IsListBetween low end (span_of list) = between c.bytes room low end list (wider c.bytes room low at end end list l (omega arith) (first c.bytes room at end from to inner rest i)) in
    subst (λ zs. AreBetween low end (map span_of_zone zs)) (sym (next_got c.bytes (zone_from c) list (filter is_list (items_of rest)) (zones_of_board c)))
    (next_zone low end (span_of list) (zone_from c list (on_board c.bytes list)) more (zone_span c list (on_board c.bytes list)) here
    (zones_between c room to end to rest i.3 (omega arith)) (zones_between c room to end low rest i.3 (omega (arith, l, a, b))))

shorter : (low end last : ℕ) (lists : List Span) → end ≤ last → AreBetween low end lists → AreBetween low last lists
unfolding AreBetween
shorter low end last [] l h = omega (arith, l, h)
shorter low end last (list ∷ lists) l h = let e = h.0.ends in (record { begins = h.0.begins; some = h.0.some; ends = omega (arith, e, l) }, shorter list.to end last lists l h.1)

board_order : (c : Context) (root : Item) → IsRoot c.bytes root → AreBetween 0 (length c.bytes) (map span_of_zone (all_of zone_from c (items_of_board c.bytes root)))
unfolding items_of_board thing_of
board_order c root r =
    let h = root_in c.bytes root r in
    let t = h.ends in
    let o = h.bracket.order in
    shorter 0 (root.to - 1) (length c.bytes) (map span_of_zone (all_of zone_from c (flat_map (with_own c.bytes) (lists_of root)))) (omega (arith, t))
    (zones_between c 63 (root.from + 1) (root.to - 1) 0 root.inner h.inner (omega arith))

pub places : PlacesLaw
unfolding board_of context_of
places bytes root rules r =
    let c = context_of bytes root in
    let items = items_of_board bytes root in
    record {
      tracks = all_of_members (λ (y : tracks.Track). IsListBetween 0 (length bytes) y.span) (all_of track_from c items)
          (λ y i. (let g = got_in (λ (p : Placed). track_from c p.item (thing_of bytes p)) items y i in
          let s = item_stands bytes root g.item r (middle g.before g.behind items g.item g.stands) in
          subst (IsListBetween 0 (length bytes)) (sym (track_as c g.item.item (thing_of bytes g.item) y g.got)) (between bytes s.room 0 (length bytes) g.item.item s.list)));
      vias = all_of_members (λ (y : vias.Via). IsListBetween 0 (length bytes) y.span) (all_of via_from c items)
          (λ y i. (let g = got_in (λ (p : Placed). via_from c p.item (thing_of bytes p)) items y i in
          let s = item_stands bytes root g.item r (middle g.before g.behind items g.item g.stands) in
          subst (IsListBetween 0 (length bytes)) (sym (via_as c g.item.item (thing_of bytes g.item) y g.got)) (between bytes s.room 0 (length bytes) g.item.item s.list)));
      zones = all_of_members (IsPlacedZone (length bytes)) (all_of zone_from c items)
          (λ y i. (let g = got_in (λ (p : Placed). zone_from c p.item (thing_of bytes p)) items y i in
          let s = item_stands bytes root g.item r (middle g.before g.behind items g.item g.stands) in
          subst (IsPlacedZone (length bytes)) (sym (zone_as c g.item.item (thing_of bytes g.item) y g.got)) (zone_placed c g.item.item s)));
      order = board_order c root r;
    }
