-- The items of a board one after another, with what stands before each.
use Rattle.std.proofs.Common.{◌≡◌, ◌∙◌, refl, ap, sym, subst, ℕ, suc, ◌+◌, ◌^◌, ◌<◌, ◌≤◌, Bool, true, false, cond, ◌||◌, ◌&&◌, List, [], ◌∷◌, ◌++◌, map, flat_map, drop, find, get_or, length, codes, bytes_eq, nat_lt, nat_le, sum_by, Option, None, Some, option_and_then, arith, append_assoc, append-nil}
use Rattle.std.specs.Prelude.{if◌then◌else◌}
use Rattle.std.specs.List.{list_any, cons_option}
use Rattle.std.proofs.lemmas.Bool.{false≢true, true≢false}
use Rattle.std.proofs.lemmas.Bool.Decides.{nat_tests}
use Rattle.std.proofs.lemmas.List.Elements.{filter_map-append}
use Rattle.std.proofs.lemmas.List.Sums.{sum_by-append}
use Rattle.sexpr_text.specs.Items.{Item, is_headed, children_of}
use Rattle.board_text.specs.Lists.{lists_of}
use Rattle.board_text.specs.Fields.{has_list, head_begins, text_at}
use Rattle.board_text.specs.Layers.{Name, is_among}
use Rattle.board_text.specs.Things.{Placed, Root, OnBoard, InFootprint, Thing, Board, Layers, Net, Track, CurvedTrack, Via, Footprint, RuleArea, Zone, Drawing, Other, is_picture, thing_of, with_own}
use Rattle.board_text.specs.Items.{Context, has_number, is_stamp_list, stamp_list, stamp_in, declared_net}
use Rattle.outline_slab.specs.Rules.{IsOutline}
use Rattle.board_language.specs.Zones.{corners_read}
use Rattle.board_language.specs.Counts.{things_as, things_of, outlines_as, outlines_of, is_first_over, is_one_too_many}
use Rattle.board_language.specs.Offences.{net_as, net_number, nets_among, is_declared_among, is_double_net, stamp_as, stamp_of_placed, stamps_among, is_stamped_among, is_double_stamp, kind_as, kind_with, has_outline, IsKindOf}
use Rattle.text_shapes.specs.Seen.{ItemSeen, item_seen, parts}
use Rattle.text_shapes.proofs.Seen.{parts_seen, heads, heads_seen, has, has_seen, begins, begins_seen, said_at, said_seen, find_map, then_map, same_or}
use Rattle.gen_facts.proofs.Numbers.{stamp_of, stamps_differ}

-- a list of the board
abbrev pub placed : Item → Placed
placed item = record { item = item; site = OnBoard }

-- ---- what an item is

abbrev thing_by : (l n t a v f z k g : Bool) → Thing
thing_by l n t a v f z k g =
    if l then Layers
    else (if n then Net
    else (if t then Track
    else (if a then CurvedTrack
    else (if v then Via
    else (if f then Footprint
    else (if z then cond k RuleArea Zone else cond g Drawing Other))))))

same_thing : (l n t a v f z k g l' n' t' a' v' f' z' k' g' : Bool) → l ≡ l' → n ≡ n' → t ≡ t' → a ≡ a' → v ≡ v' → f ≡ f' → z ≡ z' → k ≡ k' → g ≡ g'
    → thing_by l n t a v f z k g ≡ thing_by l' n' t' a' v' f' z' k' g'
same_thing l n t a v f z k g l' n' t' a' v' f' z' k' g' p1 p2 p3 p4 p5 p6 p7 p8 p9 = rw (p1, p2, p3, p4, p5, p6, p7, p8, p9) refl

abbrev is_drawing : ItemSeen → Bool
is_drawing s = begins (codes "gr_") s || (heads (codes "dimension") s || (heads (codes "target") s || heads (codes "image") s))

drawing_seen : (bytes : List ℕ) (item : Item) → (head_begins bytes (codes "gr_") item || is_picture bytes item) ≡ is_drawing (item_seen bytes item)
drawing_seen bytes item =
    same_or (head_begins bytes (codes "gr_") item) (is_picture bytes item) _ _ (begins_seen bytes (codes "gr_") item)
    (same_or (is_headed bytes (codes "dimension") item) _ _ _ (heads_seen bytes (codes "dimension") item)
    (same_or (is_headed bytes (codes "target") item) (is_headed bytes (codes "image") item) _ _ (heads_seen bytes (codes "target") item) (heads_seen bytes (codes "image") item)))

abbrev pub thing_seen : ItemSeen → Thing
thing_seen s =
    thing_by (heads (codes "layers") s) (heads (codes "net") s) (heads (codes "segment") s) (heads (codes "arc") s) (heads (codes "via") s) (heads (codes "footprint") s) (heads (codes "zone") s)
    (has (codes "keepout") s) (is_drawing s)

-- what a list of the board is, by what is item_seen of it
pub thing_is : (bytes : List ℕ) (item : Item) (s : ItemSeen) → item_seen bytes item ≡ s → thing_of bytes (placed item) ≡ thing_seen s
unfolding thing_of
thing_is bytes item s e =
    same_thing (is_headed bytes (codes "layers") item) (is_headed bytes (codes "net") item) (is_headed bytes (codes "segment") item) (is_headed bytes (codes "arc") item)
    (is_headed bytes (codes "via") item) (is_headed bytes (codes "footprint") item) (is_headed bytes (codes "zone") item) (has_list bytes (codes "keepout") item)
    (head_begins bytes (codes "gr_") item || is_picture bytes item) _ _ _ _ _ _ _ _ _
    (heads_seen bytes (codes "layers") item) (heads_seen bytes (codes "net") item) (heads_seen bytes (codes "segment") item) (heads_seen bytes (codes "arc") item)
    (heads_seen bytes (codes "via") item) (heads_seen bytes (codes "footprint") item) (heads_seen bytes (codes "zone") item) (has_seen bytes (codes "keepout") item) (drawing_seen bytes item)
    ∙ ap thing_seen e

pub root_thing : (bytes : List ℕ) (root : Item) → thing_of bytes (record { item = root; site = Root }) ≡ Board
unfolding thing_of
root_thing bytes root = refl

-- a board without footprints has its own lists alone
pub own_lists : (bytes : List ℕ) (xs : List Item) → list_any (heads (codes "footprint")) (map (item_seen bytes) xs) ≡ false → flat_map (with_own bytes) xs ≡ map placed xs
own_lists bytes [] h = refl
own_lists bytes (x ∷ xs) h = step (heads (codes "footprint") (item_seen bytes x)) refl h (own_lists bytes xs)
  where
    step : (b : Bool) → heads (codes "footprint") (item_seen bytes x) ≡ b → (b || list_any (heads (codes "footprint")) (map (item_seen bytes) xs)) ≡ false
        → (list_any (heads (codes "footprint")) (map (item_seen bytes) xs) ≡ false → flat_map (with_own bytes) xs ≡ map placed xs) → flat_map (with_own bytes) (x ∷ xs) ≡ map placed (x ∷ xs)
    step true e h more = absurd (true≢false h)
    step false e h more =
        ap (λ b. placed x ∷ (cond b (map (λ i. record { item = i; site = InFootprint x }) (lists_of x)) [] ++ flat_map (with_own bytes) xs)) (heads_seen bytes (codes "footprint") x ∙ e)
        ∙ ap (λ z. placed x ∷ z) (more h)

-- ---- stamps

abbrev names_stamp : ItemSeen → Bool
names_stamp s = heads (codes "tstamp") s || heads (codes "uuid") s

abbrev pub stamp_there : ItemSeen → Option Name
stamp_there s = option_and_then (said_at 0) (find names_stamp (parts s.inner))

pub stamp_is : (bytes : List ℕ) (item : Item) (s : ItemSeen) → item_seen bytes item ≡ s → stamp_in bytes item ≡ stamp_there s
stamp_is bytes item s e =
    then_map (item_seen bytes) (text_at bytes 0) (said_at 0) (said_seen bytes 0) (stamp_list bytes item)
    ∙ ap (option_and_then (said_at 0)) (
    find_map (item_seen bytes) (is_stamp_list bytes) names_stamp
    (λ x. same_or (is_headed bytes (codes "tstamp") x) (is_headed bytes (codes "uuid") x) _ _ (heads_seen bytes (codes "tstamp") x) (heads_seen bytes (codes "uuid") x)) (children_of item)
    ∙ ap (find names_stamp) (parts_seen bytes item.inner))
    ∙ ap stamp_there e

-- the stamps of entries before i
abbrev pub AreOlder : ℕ → List Name → Type 0
AreOlder i [] = Unit {0}
AreOlder i (s ∷ ss) = (j : ℕ) × (j < i) × (s ≡ stamp_of j) × AreOlder i ss

pub older_fresh : (i : ℕ) (ss : List Name) → i < 2 ^ 64 → AreOlder i ss → is_among ss (stamp_of i) ≡ false
older_fresh i [] l h = refl
older_fresh i (s ∷ ss) l (j, m, e, h) =
    ap (λ t. bytes_eq t (stamp_of i) || is_among ss (stamp_of i)) e ∙ ap (λ b. b || is_among ss (stamp_of i)) (stamps_differ j i m l) ∙ older_fresh i ss l h

-- no stamp of an entry begins with z
pub older_other : (i : ℕ) (ss : List Name) (name : Name) → AreOlder i ss → is_among ss (122 ∷ name) ≡ false
older_other i [] name h = refl
older_other i (s ∷ ss) name (j, m, e, h) = ap (λ t. bytes_eq t (122 ∷ name) || is_among ss (122 ∷ name)) e ∙ older_other i ss name h

pub older_more : (i : ℕ) (ss : List Name) → AreOlder i ss → AreOlder (suc i) (ss ++ stamp_of i ∷ [])
older_more i [] h = (i, omega arith, refl, tt)
older_more i (s ∷ ss) (j, m, e, h) = (j, omega (arith, m), e, older_more i ss h)

-- ---- what stands before an item

pub record At (c : Context) (before : List Placed) (nets : List ℕ) (stamps : List Name) (n o : ℕ) : Type 0 where
  pub nets_is : nets_among c.bytes before ≡ nets
  pub stamps_is : stamps_among c.bytes before ≡ stamps
  pub things : sum_by (things_of c) before ≤ n
  pub outlines : sum_by (outlines_of c) before ≤ o

pub nothing_before : (c : Context) → At c [] [] [] 0 0
unfolding nets_among stamps_among
nothing_before c = record { nets_is = refl; stamps_is = refl; things = omega arith; outlines = omega arith }

-- what an item counts, as such a thing
pub record Counts (c : Context) (p : Placed) (net : Option ℕ) (stamp : Option Name) (k : ℕ) : Type 0 where
  pub thing : Thing
  pub thing_is : thing_of c.bytes p ≡ thing
  pub net_is : net_as c.bytes p.item thing ≡ net
  pub stamp_is : stamp_as c.bytes p.item thing ≡ stamp
  pub one : things_as c p.item thing ≤ 1
  pub outline : outlines_as c p.item thing ≤ k

things_in : (c : Context) (p : Placed) (t : Thing) → thing_of c.bytes p ≡ t → things_as c p.item t ≤ 1 → things_of c p ≤ 1
unfolding things_of
things_in c p t e h = omega (arith, ap (things_as c p.item) e, h)

outlines_in : (c : Context) (p : Placed) (t : Thing) (k : ℕ) → thing_of c.bytes p ≡ t → outlines_as c p.item t ≤ k → outlines_of c p ≤ k
unfolding outlines_of
outlines_in c p t k e h = omega (arith, ap (outlines_as c p.item) e, h)

more_nets : (bytes : List ℕ) (before : List Placed) (p : Placed) → nets_among bytes (before ++ p ∷ []) ≡ nets_among bytes before ++ cons_option (net_as bytes p.item (thing_of bytes p)) []
unfolding nets_among
more_nets bytes before p = filter_map-append (net_number bytes) before (p ∷ [])

more_stamps : (bytes : List ℕ) (before : List Placed) (p : Placed) → stamps_among bytes (before ++ p ∷ []) ≡ stamps_among bytes before ++ cons_option (stamp_as bytes p.item (thing_of bytes p)) []
unfolding stamps_among
more_stamps bytes before p = filter_map-append (stamp_of_placed bytes) before (p ∷ [])

pub one_behind : (c : Context) (before : List Placed) (p : Placed) (nets : List ℕ) (stamps : List Name) (n o : ℕ) (net : Option ℕ) (stamp : Option Name) (k : ℕ) → At c before nets stamps n o
    → Counts c p net stamp k → At c (before ++ p ∷ []) (nets ++ cons_option net []) (stamps ++ cons_option stamp []) (n + 1) (o + k)
one_behind c before p nets stamps n o net stamp k a d = record {
  nets_is =
      more_nets c.bytes before p ∙ ap (λ xs. xs ++ cons_option (net_as c.bytes p.item (thing_of c.bytes p)) []) a.nets_is
      ∙ ap (λ x. nets ++ cons_option x []) (ap (net_as c.bytes p.item) d.thing_is ∙ d.net_is);
  stamps_is =
      more_stamps c.bytes before p ∙ ap (λ xs. xs ++ cons_option (stamp_as c.bytes p.item (thing_of c.bytes p)) []) a.stamps_is
      ∙ ap (λ x. stamps ++ cons_option x []) (ap (stamp_as c.bytes p.item) d.thing_is ∙ d.stamp_is);
  things = omega (arith, a.things, things_in c p d.thing d.thing_is d.one, sum_by-append (things_of c) before (p ∷ []));
  outlines = omega (arith, a.outlines, outlines_in c p d.thing k d.thing_is d.outline, sum_by-append (outlines_of c) before (p ∷ []));
}

not_over : (m a b : ℕ) → a + b ≤ m → is_first_over m a b ≡ false
not_over m a b h = with_end (nat_le a m) (nat_lt m (a + b)) (end m (a + b) h)
  where
    end : (m s : ℕ) → s ≤ m → nat_lt m s ≡ false
    end m s h = grind (arith, nat_tests)

    with_end : (x y : Bool) → y ≡ false → (x && y) ≡ false
    with_end true y e = e
    with_end false y e = refl

pub not_many : (c : Context) (before : List Placed) (p : Placed) (nets : List ℕ) (stamps : List Name) (n o : ℕ) (net : Option ℕ) (stamp : Option Name) (k : ℕ) → At c before nets stamps n o
    → Counts c p net stamp k → n + 1 ≤ 200000 → o + k ≤ 2000 → is_one_too_many c before p ≡ false
unfolding is_one_too_many
not_many c before p nets stamps n o net stamp k a d l m =
    same_or (is_first_over 200000 (sum_by (things_of c) before) (things_of c p)) (is_first_over 2000 (sum_by (outlines_of c) before) (outlines_of c p)) false false
    (not_over 200000 (sum_by (things_of c) before) (things_of c p) (omega (arith, a.things, things_in c p d.thing d.thing_is d.one, l)))
    (not_over 2000 (sum_by (outlines_of c) before) (outlines_of c p) (omega (arith, a.outlines, outlines_in c p d.thing k d.thing_is d.outline, m)))

pub stamp_fresh : (c : Context) (before : List Placed) (item : Item) (nets : List ℕ) (stamps : List Name) (n o : ℕ) (stamp : Name) → At c before nets stamps n o → stamp_in c.bytes item ≡ Some stamp
    → is_among stamps stamp ≡ false → is_double_stamp c before item ≡ false
stamp_fresh c before item nets stamps n o stamp a e f =
    ap (λ o. is_stamped_among (stamps_among c.bytes before) o) e ∙ ap (λ ss. is_among ss stamp) a.stamps_is ∙ f

pub net_fresh : (c : Context) (before : List Placed) (item : Item) (nets : List ℕ) (stamps : List Name) (n o net : ℕ) → At c before nets stamps n o → declared_net c.bytes item ≡ Some net
    → has_number nets net ≡ false → is_double_net c before item ≡ false
net_fresh c before item nets stamps n o net a e f =
    ap (λ o. is_declared_among (nets_among c.bytes before) o) e ∙ ap (λ ns. has_number ns net) a.nets_is ∙ f

-- ---- a list in which nothing offends, behind others

abbrev pub AreClean : Context → List Placed → List Placed → Type 0
AreClean c before items = (front after : List Placed) (p : Placed) → items ≡ front ++ p ∷ after → IsKindOf c (before ++ front) p None

pub clean_none : (c : Context) (before : List Placed) → AreClean c before []
clean_none c before [] after p e = absurd (not_cons p after e)
  where
    not_cons : (p : Placed) (after : List Placed) → [] ≡ p ∷ after → ⊥
    not_cons p after e = let n : 0 ≡ length (p ∷ after) = ap length e in omega (arith, n)
clean_none c before (f ∷ front) after p e = absurd (not_cons f (front ++ p ∷ after) e)
  where
    not_cons : (p : Placed) (after : List Placed) → [] ≡ p ∷ after → ⊥
    not_cons p after e = let n : 0 ≡ length (p ∷ after) = ap length e in omega (arith, n)

same_first : (p q : Placed) (ps qs : List Placed) → p ∷ ps ≡ q ∷ qs → p ≡ q
same_first p q ps qs e = ap (λ l. get_or l 0 p) e

clean_more : (c : Context) (before : List Placed) (p : Placed) (items : List Placed) → IsKindOf c before p None → AreClean c (before ++ p ∷ []) items → AreClean c before (p ∷ items)
clean_more c before p items k h [] after q e =
    subst (λ x. IsKindOf c (before ++ []) x None) (same_first p q items after e) (subst (λ b. IsKindOf c b p None) (sym (append-nil before)) k)
clean_more c before p items k h (f ∷ front) after q e =
    subst (λ x. IsKindOf c (before ++ x ∷ front) q None) (same_first p f items (front ++ q ∷ after) e)
    (subst (λ b. IsKindOf c b q None) (append_assoc before (p ∷ []) front) (h front after q (ap (drop 1) e)))

kind_is : (c : Context) (before : List Placed) (p : Placed) (t : Thing) → thing_of c.bytes p ≡ t → kind_as c before p None t ≡ None → None ≡ kind_with c before p None
unfolding kind_with
kind_is c before p t e k = sym (ap (kind_as c before p None) e ∙ k)

-- an item that is such a thing, and doesn't offend as that
pub clean_step : (c : Context) (before : List Placed) (p : Placed) (items : List Placed) (t : Thing) → thing_of c.bytes p ≡ t
    → (has_outline c p.item t ≡ true → IsOutline (corners_read c.bytes p.item)) → kind_as c before p None t ≡ None → AreClean c (before ++ p ∷ []) items → AreClean c before (p ∷ items)
clean_step c before p items t e o k h =
    clean_more c before p items (record { outline = None; is_outline = λ b. o (sym (ap (has_outline c p.item) e) ∙ b); is_kind = kind_is c before p t e k }) h

-- what has no outline
pub no_outline : {X : Type 0} → false ≡ true → X
no_outline e = absurd (false≢true e)

-- ---- the first of a list that is item_seen

pub record Peeled (bytes : List ℕ) (xs : List Item) (s : ItemSeen) (ss : List ItemSeen) : Type 0 where
  pub first : Item
  pub rest : List Item
  pub is : xs ≡ first ∷ rest
  pub first_is : item_seen bytes first ≡ s
  pub rest_is : map (item_seen bytes) rest ≡ ss

pub peel : (bytes : List ℕ) (xs : List Item) (s : ItemSeen) (ss : List ItemSeen) → map (item_seen bytes) xs ≡ s ∷ ss → Peeled bytes xs s ss
peel bytes [] s ss e = absurd (let n : 0 ≡ length (s ∷ ss) = ap length e in omega (arith, n))
peel bytes (x ∷ xs) s ss e = record { first = x; rest = xs; is = refl; first_is = ap (λ l. get_or l 0 s) e; rest_is = ap (drop 1) e }
