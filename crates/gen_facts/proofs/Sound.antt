-- In a board that is made nothing offends, item by item.
use Rattle.std.proofs.Common.{◌≡◌, ◌∙◌, refl, ap, sym, subst, ℕ, suc, ◌+◌, ◌*◌, ◌^◌, ◌<◌, ◌≤◌, Bool, true, false, cond, ◌||◌, List, [], ◌∷◌, ◌++◌, map, flat_map, filter, length, codes, bytes_eq, Option, None, Some, arith, append-nil}
use Rattle.std.specs.List.{list_any}
use Rattle.std.proofs.lemmas.List.Folds.{list_any-append}
use Rattle.sexpr_text.specs.Items.{Item}
use Rattle.sexpr_text.specs.Trees.{IsRoot}
use Rattle.outline_slab.specs.Rules.{IsOutline}
use Rattle.board_text.specs.Lists.{lists_of}
use Rattle.board_text.specs.Numbers.{whole_fault, whole_number}
use Rattle.board_text.specs.Layers.{Name as Stamp, is_among}
use Rattle.board_text.specs.Things.{Placed, Root, Board, Layers, Net, Track, Via, Zone, Other, thing_of, with_own, items_of_board}
use Rattle.board_text.specs.Items.{Context, context_of, has_number, stamp_in}
use Rattle.board_language.specs.declared.offence.OffenceKind.{OffenceKind}
use Rattle.board_language.specs.Zones.{is_read_zone}
use Rattle.board_language.specs.Counts.{is_one_too_many}
use Rattle.board_language.specs.Offences.{layers_kind, zone_kind, stamp_kind, has_layers, is_double_net, is_double_stamp}
use Rattle.board_language.specs.Reading.{AreSound, IsAccepted}
use Rattle.board_gen.specs.Generated.{generated}
use Rattle.gen_facts.specs.Laws.{MadeLaw}
use Rattle.text_shapes.specs.Layouts.{shape, render}
use Rattle.text_shapes.specs.Layouts.Layout.{End, Name}
use Rattle.text_shapes.specs.Seen.{ItemSeen, item_seen, parts}
use Rattle.text_shapes.proofs.Seen.{heads, is_group, groups, groups_seen}
use Rattle.gen_facts.proofs.Numbers.{stamp_of}
use Rattle.gen_facts.proofs.Lines.{layers_line}
use Rattle.text_shapes.specs.Laws.{list_seen}
use Rattle.gen_facts.proofs.Entries.{Entry, IsPlaced, ArePlaced, rows_entries}
use Rattle.gen_facts.proofs.Entries.Entry.{ViaAt, TrackAt}
use Rattle.gen_facts.proofs.CopperKind.{both_layers, three_nets, net_fault, one_is, two_is, via_none, track_none}
use Rattle.gen_facts.proofs.ZoneKind.{zone_seen, zone_read, zone_none, corners_square}
use Rattle.gen_facts.proofs.Square.{square_outline}
use Rattle.gen_facts.proofs.Boards.{entries_layout, zones_layout, head_layout, board_layout, generated_is, board_good}
use Rattle.text_shapes.specs.Laws.{HasRoot}
use Rattle.text_shapes.proofs.Root.{root_there}
use Rattle.gen_facts.proofs.Heads.{board_seen, board_none, layers_none, net_none, declared_is, entry_seen, entries_seen, entries_parts, all_kept, net_seen, copper_is, nets_are, zero_net}
use Rattle.gen_facts.proofs.Walk.{placed, thing_seen, thing_is, root_thing, own_lists, stamp_is, AreOlder, older_fresh, older_other, older_more, At, nothing_before, Counts, one_behind, not_many, stamp_fresh, net_fresh, AreClean, clean_none, clean_step, no_outline, peel}

-- the layers and nets of a board that is made
record IsMade (c : Context) : Type 0 where
  copper : c.copper ≡ both_layers
  nets : c.nets ≡ three_nets

settled : (c : Context) (before : List Placed) (nets other : List ℕ) (stamps last : List Stamp) (n o : ℕ) → nets ≡ other → stamps ≡ last → At c before nets stamps n o → At c before other last n o
settled c before nets other stamps last n o e f a = record { nets_is = a.nets_is ∙ e; stamps_is = a.stamps_is ∙ f; things = a.things; outlines = a.outlines }

-- what stands behind the items that are tried
abbrev Goes : Context → List ItemSeen → List ℕ → List Stamp → ℕ → ℕ → Type 0
Goes c ss nets stamps n o = (before : List Placed) (xs : List Item) → map (item_seen c.bytes) xs ≡ ss → At c before nets stamps n o → AreClean c before (map placed xs)

-- ---- other lists, the list of layers, nets

step_other : (c : Context) (before : List Placed) (nets : List ℕ) (stamps : List Stamp) (n : ℕ) (xs : List Item) (s : ItemSeen) (ss : List ItemSeen) → thing_seen s ≡ Other → map (item_seen c.bytes) xs ≡ s ∷ ss
    → At c before nets stamps n 0 → Goes c ss nets stamps (n + 1) 0 → AreClean c before (map placed xs)
step_other c before nets stamps n xs s ss t h a more =
    let q = peel c.bytes xs s ss h in
    let is : thing_of c.bytes (placed q.first) ≡ Other = thing_is c.bytes q.first s q.first_is ∙ t in
    let d : Counts c (placed q.first) None None 0 = record { thing = Other; thing_is = is; net_is = refl; stamp_is = refl; one = omega arith; outline = omega arith } in
    let b : At c (before ++ placed q.first ∷ []) nets stamps (n + 1) 0 =
    settled c (before ++ placed q.first ∷ []) (nets ++ []) nets (stamps ++ []) stamps (n + 1) 0 (append-nil nets) (append-nil stamps)
    (one_behind c before (placed q.first) nets stamps n 0 None None 0 a d) in
    subst (λ ys. AreClean c before (map placed ys)) (sym q.is)
    (clean_step c before (placed q.first) (map placed q.rest) Other is no_outline refl (more (before ++ placed q.first ∷ []) q.rest q.rest_is b))

either_none : (b : Bool) (k : Option OffenceKind) → k ≡ None → cond b None k ≡ None
either_none true k e = refl
either_none false k e = e

step_layers : (c : Context) (before : List Placed) (nets : List ℕ) (stamps : List Stamp) (n : ℕ) (xs : List Item) (ss : List ItemSeen) → map (item_seen c.bytes) xs ≡ list_seen layers_line ∷ ss
    → At c before nets stamps n 0 → Goes c ss nets stamps (n + 1) 0 → AreClean c before (map placed xs)
step_layers c before nets stamps n xs ss h a more =
    let q = peel c.bytes xs (list_seen layers_line) ss h in
    let is : thing_of c.bytes (placed q.first) ≡ Layers = thing_is c.bytes q.first (list_seen layers_line) q.first_is in
    let d : Counts c (placed q.first) None None 0 = record { thing = Layers; thing_is = is; net_is = refl; stamp_is = refl; one = omega arith; outline = omega arith } in
    let b : At c (before ++ placed q.first ∷ []) nets stamps (n + 1) 0 =
    settled c (before ++ placed q.first ∷ []) (nets ++ []) nets (stamps ++ []) stamps (n + 1) 0 (append-nil nets) (append-nil stamps)
    (one_behind c before (placed q.first) nets stamps n 0 None None 0 a d) in
    subst (λ ys. AreClean c before (map placed ys)) (sym q.is)
    (clean_step c before (placed q.first) (map placed q.rest) Layers is no_outline (either_none (has_layers c before) (layers_kind c q.first) (layers_none c q.first q.first_is))
    (more (before ++ placed q.first ∷ []) q.rest q.rest_is b))

step_net : (c : Context) (before : List Placed) (nets : List ℕ) (stamps : List Stamp) (n : ℕ) (xs : List Item) (number name : List ℕ) (net : ℕ) (ss : List ItemSeen) → whole_number number ≡ net
    → whole_fault number ≡ None → has_number nets net ≡ false → n ≤ 1000 → map (item_seen c.bytes) xs ≡ net_seen number name ∷ ss → At c before nets stamps n 0
    → Goes c ss (nets ++ net ∷ []) stamps (n + 1) 0 → AreClean c before (map placed xs)
step_net c before nets stamps n xs number name net ss v f fresh l h a more =
    let q = peel c.bytes xs (net_seen number name) ss h in
    let is : thing_of c.bytes (placed q.first) ≡ Net = thing_is c.bytes q.first (net_seen number name) q.first_is in
    let declared = declared_is c.bytes q.first number name q.first_is ∙ ap Some v in
    let d : Counts c (placed q.first) (Some net) None 0 = record { thing = Net; thing_is = is; net_is = declared; stamp_is = refl; one = omega arith; outline = omega arith } in
    let b : At c (before ++ placed q.first ∷ []) (nets ++ net ∷ []) stamps (n + 1) 0 =
    settled c (before ++ placed q.first ∷ []) (nets ++ net ∷ []) (nets ++ net ∷ []) (stamps ++ []) stamps (n + 1) 0 refl (append-nil stamps)
    (one_behind c before (placed q.first) nets stamps n 0 (Some net) None 0 a d) in
    subst (λ ys. AreClean c before (map placed ys)) (sym q.is)
    (clean_step c before (placed q.first) (map placed q.rest) Net is no_outline
    (net_none c q.first number name (is_double_net c before q.first) (is_one_too_many c before (placed q.first)) q.first_is f
    (net_fresh c before q.first nets stamps n 0 net a declared fresh) (not_many c before (placed q.first) nets stamps n 0 (Some net) None 0 a d (omega (arith, l)) (omega arith)))
    (more (before ++ placed q.first ∷ []) q.rest q.rest_is b))

-- ---- vias and tracks

entry_counts : (c : Context) (e : Entry) (i : ℕ) (item : Item) → item_seen c.bytes item ≡ entry_seen e i → Counts c (placed item) None (Some (stamp_of i)) 0
entry_counts c (ViaAt second x y) i item h =
    record { thing = Via; thing_is = thing_is c.bytes item _ h; net_is = refl; stamp_is = stamp_is c.bytes item _ h; one = omega arith; outline = omega arith }
entry_counts c (TrackAt x y) i item h =
    record { thing = Track; thing_is = thing_is c.bytes item _ h; net_is = refl; stamp_is = stamp_is c.bytes item _ h; one = omega arith; outline = omega arith }

entry_clean : (c : Context) (m : IsMade c) (e : Entry) (i : ℕ) (before : List Placed) (item : Item) (items : List Placed) → item_seen c.bytes item ≡ entry_seen e i → IsPlaced e
    → is_double_stamp c before item ≡ false → is_one_too_many c before (placed item) ≡ false → AreClean c (before ++ placed item ∷ []) items → AreClean c before (placed item ∷ items)
entry_clean c m (ViaAt second x y) i before item items h p d k more =
    clean_step c before (placed item) items Via (thing_is c.bytes item _ h) no_outline
    (via_none c item second x y i (is_double_stamp c before item) (is_one_too_many c before (placed item)) m.copper m.nets (omega (arith, p.across)) (omega (arith, p.down)) h d k) more
entry_clean c m (TrackAt x y) i before item items h p d k more =
    clean_step c before (placed item) items Track (thing_is c.bytes item _ h) no_outline
    (track_none c item _ _ _ _ i (is_double_stamp c before item) (is_one_too_many c before (placed item)) m.copper m.nets (omega (arith, p.across)) (omega (arith, p.down)) (omega (arith, p.across))
    (omega (arith, p.down)) h d k) more

-- what stands behind the entries
abbrev GoesOn : Context → List ItemSeen → Type 0
GoesOn c zs = (i n : ℕ) (stamps : List Stamp) → n ≤ 100000 → AreOlder i stamps → Goes c zs three_nets stamps n 0

step_entries : (c : Context) (m : IsMade c) (es : List Entry) (i n : ℕ) (before : List Placed) (stamps : List Stamp) (xs : List Item) (zs : List ItemSeen) → ArePlaced es → i + length es < 2 ^ 64
    → n + length es ≤ 100000 → AreOlder i stamps → map (item_seen c.bytes) xs ≡ entries_seen i es ++ zs → At c before three_nets stamps n 0 → GoesOn c zs → AreClean c before (map placed xs)
step_entries c m [] i n before stamps xs zs p l k older h a more = more i n stamps (omega (arith, k)) older before xs h a
step_entries c m (e ∷ es) i n before stamps xs zs p l k older h a more =
    let q = peel c.bytes xs (entry_seen e i) (entries_seen (suc i) es ++ zs) h in
    let d = entry_counts c e i q.first q.first_is in
    let b : At c (before ++ placed q.first ∷ []) three_nets (stamps ++ stamp_of i ∷ []) (n + 1) 0 = one_behind c before (placed q.first) three_nets stamps n 0 None (Some (stamp_of i)) 0 a d in
    subst (λ ys. AreClean c before (map placed ys)) (sym q.is)
    (entry_clean c m e i before q.first (map placed q.rest) q.first_is p.0
    (stamp_fresh c before q.first three_nets stamps n 0 (stamp_of i) a (entry_stamp c e i q.first q.first_is) (older_fresh i stamps (omega (arith, l)) older))
    (not_many c before (placed q.first) three_nets stamps n 0 None (Some (stamp_of i)) 0 a d (omega (arith, k)) (omega arith))
    (step_entries c m es (suc i) (n + 1) (before ++ placed q.first ∷ []) (stamps ++ stamp_of i ∷ []) q.rest zs p.1 (omega (arith, l)) (omega (arith, k)) (older_more i stamps older) q.rest_is b more))
  where
    entry_stamp : (c : Context) (e : Entry) (i : ℕ) (item : Item) → item_seen c.bytes item ≡ entry_seen e i → stamp_in c.bytes item ≡ Some (stamp_of i)
    entry_stamp c (ViaAt second x y) i item h = stamp_is c.bytes item _ h
    entry_stamp c (TrackAt x y) i item h = stamp_is c.bytes item _ h

-- ---- zones

abbrev zone_stamp : Bool → Stamp
zone_stamp back = cond back (codes "zb") (codes "zf")

one_at_most : (b : Bool) → cond b 1 0 ≤ 1
one_at_most true = omega arith
one_at_most false = omega arith

read_kind : (c : Context) (item : Item) (double many : Bool) → is_read_zone c item ≡ true → zone_kind c item None double many ≡ None
    → cond (is_read_zone c item) (zone_kind c item None double many) (stamp_kind double) ≡ None
read_kind c item double many e k = ap (λ b. cond b (zone_kind c item None double many) (stamp_kind double)) e ∙ k

step_zone : (c : Context) (m : IsMade c) (back : Bool) (e half n o : ℕ) (before : List Placed) (stamps : List Stamp) (xs : List Item) (ss : List ItemSeen) → 1 ≤ e → e ≤ 500000000 → e ≡ half + half
    → n ≤ 150000 → o ≤ 1000 → is_among stamps (zone_stamp back) ≡ false → map (item_seen c.bytes) xs ≡ zone_seen back e ∷ ss → At c before three_nets stamps n o
    → Goes c ss three_nets (stamps ++ zone_stamp back ∷ []) (n + 1) (o + 1) → AreClean c before (map placed xs)
step_zone c m back e half n o before stamps xs ss low high two k j fresh h a more =
    let q = peel c.bytes xs (zone_seen back e) ss h in
    let is : thing_of c.bytes (placed q.first) ≡ Zone = thing_is c.bytes q.first (zone_seen back e) q.first_is in
    let s = stamp_is c.bytes q.first (zone_seen back e) q.first_is in
    let d : Counts c (placed q.first) None (Some (zone_stamp back)) 1 =
    record { thing = Zone; thing_is = is; net_is = refl; stamp_is = s; one = one_at_most (is_read_zone c q.first); outline = one_at_most (is_read_zone c q.first) } in
    let b : At c (before ++ placed q.first ∷ []) three_nets (stamps ++ zone_stamp back ∷ []) (n + 1) (o + 1) =
    one_behind c before (placed q.first) three_nets stamps n o None (Some (zone_stamp back)) 1 a d in
    subst (λ ys. AreClean c before (map placed ys)) (sym q.is)
    (clean_step c before (placed q.first) (map placed q.rest) Zone is
    (λ r. subst IsOutline (sym (corners_square c.bytes q.first back e high q.first_is)) (square_outline e half low two))
    (read_kind c q.first (is_double_stamp c before q.first) (is_one_too_many c before (placed q.first)) (zone_read c q.first back e m.copper q.first_is)
    (zone_none c q.first back e (is_double_stamp c before q.first) (is_one_too_many c before (placed q.first)) m.copper m.nets high q.first_is
    (stamp_fresh c before q.first three_nets stamps n o (zone_stamp back) a s fresh)
    (not_many c before (placed q.first) three_nets stamps n o None (Some (zone_stamp back)) 1 a d (omega (arith, k)) (omega (arith, j)))))
    (more (before ++ placed q.first ∷ []) q.rest q.rest_is b))

other_fresh : (i : ℕ) (stamps : List Stamp) → AreOlder i stamps → is_among (stamps ++ codes "zf" ∷ []) (codes "zb") ≡ false
other_fresh i stamps h =
    list_any-append (λ other. bytes_eq other (codes "zb")) stamps (codes "zf" ∷ [])
    ∙ ap (λ b. b || is_among (codes "zf" ∷ []) (codes "zb")) (older_other i stamps (codes "b") h)

abbrev both_zones : ℕ → List ItemSeen
both_zones e = zone_seen false e ∷ zone_seen true e ∷ []

ended : (c : Context) (before : List Placed) (xs : List Item) → map (item_seen c.bytes) xs ≡ [] → AreClean c before (map placed xs)
ended c before [] h = clean_none c before
ended c before (x ∷ xs) h = absurd (let n : length (map (item_seen c.bytes) (x ∷ xs)) ≡ 0 = ap length h in omega (arith, n))

step_zones : (c : Context) (m : IsMade c) (e half : ℕ) → 1 ≤ e → e ≤ 500000000 → e ≡ half + half → GoesOn c (both_zones e)
step_zones c m e half low high two i n stamps k older before xs h a =
    step_zone c m false e half n 0 before stamps xs (zone_seen true e ∷ []) low high two (omega (arith, k)) (omega arith) (older_other i stamps (codes "f") older) h a
    (λ before' xs' h' a'.
    step_zone c m true e half (n + 1) 1 before' (stamps ++ codes "zf" ∷ []) xs' [] low high two (omega (arith, k)) (omega arith) (other_fresh i stamps older) h' a'
    (λ before'' xs'' h'' a''. ended c before'' xs'' h''))

-- ---- the whole

entry_is_group : (e : Entry) (i : ℕ) → is_group (entry_seen e i) ≡ true
entry_is_group (ViaAt second x y) i = refl
entry_is_group (TrackAt x y) i = refl

abbrev version_seen : ItemSeen
version_seen = list_seen (Name [] (codes "version") (Name (codes " ") (codes "20221018") (End [])))

abbrev generator_seen : ItemSeen
generator_seen = list_seen (Name [] (codes "generator") (Name (codes " ") (codes "zonefill") (End [])))

-- the lists of the board, with others behind the head
abbrev head_groups : List ItemSeen → List ItemSeen
head_groups ss =
    version_seen ∷ generator_seen ∷ list_seen layers_line ∷ net_seen (codes "0") [] ∷ net_seen (codes "1") (codes "GND") ∷ net_seen (codes "2") (codes "VCC") ∷ ss

board_groups : (es : List Entry) (e : ℕ) → groups (board_seen es e) ≡ head_groups (entries_seen 1 es ++ both_zones e)
board_groups es e =
    ap head_groups (ap (filter is_group) (entries_parts es 1 (zones_layout e)) ∙ all_kept is_group entry_is_group es 1 (parts (shape (zones_layout e))))

zero_fault : whole_fault (codes "0") ≡ None
unfolding whole_fault
zero_fault = refl

step_head : (c : Context) (before : List Placed) (xs : List Item) (ss : List ItemSeen) → map (item_seen c.bytes) xs ≡ head_groups ss → At c before [] [] 1 0 → Goes c ss three_nets [] 7 0
    → AreClean c before (map placed xs)
step_head c before xs ss h a more =
    step_other c before [] [] 1 xs version_seen _ refl h a
    (λ b1 xs1 h1 a1.
    step_other c b1 [] [] 2 xs1 generator_seen _ refl h1 a1
    (λ b2 xs2 h2 a2.
    step_layers c b2 [] [] 3 xs2 _ h2 a2
    (λ b3 xs3 h3 a3.
    step_net c b3 [] [] 4 xs3 (codes "0") [] 0 _ zero_net zero_fault refl (omega arith) h3 a3
    (λ b4 xs4 h4 a4.
    step_net c b4 (0 ∷ []) [] 5 xs4 (codes "1") (codes "GND") 1 _ one_is (net_fault false) refl (omega arith) h4 a4
    (λ b5 xs5 h5 a5. step_net c b5 (0 ∷ 1 ∷ []) [] 6 xs5 (codes "2") (codes "VCC") 2 _ two_is (net_fault true) refl (omega arith) h5 a5 more)))))

none_any : (p : ItemSeen → Bool) → ((e : Entry) (i : ℕ) → p (entry_seen e i) ≡ false) → (es : List Entry) (i : ℕ) (rest : List ItemSeen) → list_any p rest ≡ false → list_any p (entries_seen i es ++ rest) ≡ false
none_any p h [] i rest g = g
none_any p h (e ∷ es) i rest g = ap (λ b. b || list_any p (entries_seen (suc i) es ++ rest)) (h e i) ∙ none_any p h es (suc i) rest g

no_footprint : (e : Entry) (i : ℕ) → heads (codes "footprint") (entry_seen e i) ≡ false
no_footprint (ViaAt second x y) i = refl
no_footprint (TrackAt x y) i = refl

abbrev root_placed : Item → Placed
root_placed root = record { item = root; site = Root }

-- the vias and tracks lie within the cells, of which there are at most 40,000, and the zones are so wide
pub record IsBoard (es : List Entry) (e half : ℕ) : Type 0 where
  pub placed : ArePlaced es
  pub few : length es ≤ 40000
  pub low : 1 ≤ e
  pub high : e ≤ 500000000
  pub two : e ≡ half + half

sound : (c : Context) (m : IsMade c) (root : Item) (es : List Entry) (e half : ℕ) → IsBoard es e half → item_seen c.bytes root ≡ board_seen es e
    → AreSound c (root_placed root ∷ flat_map (with_own c.bytes) (lists_of root))
sound c m root es e half p h =
    let lists : map (item_seen c.bytes) (lists_of root) ≡ head_groups (entries_seen 1 es ++ both_zones e) = groups_seen c.bytes root ∙ ap groups h ∙ board_groups es e in
    let own : flat_map (with_own c.bytes) (lists_of root) ≡ map placed (lists_of root) =
    own_lists c.bytes (lists_of root) (ap (list_any (heads (codes "footprint"))) lists ∙ none_any (heads (codes "footprint")) no_footprint es 1 (both_zones e) refl) in
    let d : Counts c (root_placed root) None None 0 =
    record { thing = Board; thing_is = root_thing c.bytes root; net_is = refl; stamp_is = refl; one = omega arith; outline = omega arith } in
    let a : At c (root_placed root ∷ []) [] [] 1 0 = one_behind c [] (root_placed root) [] [] 0 0 None None 0 (nothing_before c) d in
    let all : AreClean c (root_placed root ∷ []) (map placed (lists_of root)) =
    step_head c (root_placed root ∷ []) (lists_of root) (entries_seen 1 es ++ both_zones e) lists a
    (λ before xs g b.
    step_entries c m es 1 7 before [] xs (both_zones e) p.placed (omega (arith, p.few)) (omega (arith, p.few)) tt g b (step_zones c m e half p.low p.high p.two)) in
    let clean : AreClean c [] (root_placed root ∷ map placed (lists_of root)) =
    clean_step c [] (root_placed root) (map placed (lists_of root)) Board (root_thing c.bytes root) no_outline (board_none c root es e h) all in
    subst (λ ys. AreSound c (root_placed root ∷ ys)) (sym own) clean

accepted : (bytes : List ℕ) (root : Item) (es : List Entry) (e half : ℕ) → IsBoard es e half → item_seen bytes root ≡ board_seen es e → IsAccepted bytes root
unfolding IsAccepted items_of_board context_of
accepted bytes root es e half p h =
    sound (context_of bytes root) (record { copper = copper_is bytes root es e h; nets = nets_are bytes root es e h }) root es e half p h

spelt_board : (bytes : List ℕ) (es : List Entry) (e half : ℕ) → IsBoard es e half → bytes ≡ render (board_layout es e) [] → (root : Item) × IsRoot bytes root × IsAccepted bytes root
spelt_board bytes es e half p h =
    let r : HasRoot bytes (head_layout (entries_layout 1 es (zones_layout e))) =
    root_there bytes (head_layout (entries_layout 1 es (zones_layout e))) (codes "\n") h (board_good es e p.placed p.few p.high) in
    (r.root, r.is_root, accepted bytes r.root es e half p r.is_seen)

pub made_law : MadeLaw
made_law seed size s low high =
    let r = rows_entries size 0 seed 1 size high (omega (arith, high)) in
    let p : IsBoard r.1.entries (2000000 * size) (1000000 * size) =
    record { placed = r.1.placed; few = omega (arith, r.1.few, high); low = omega (arith, low); high = omega (arith, high); two = omega arith } in
    spelt_board (generated seed size) r.1.entries (2000000 * size) (1000000 * size) p (generated_is seed size r.1.entries r.1.text_is)
