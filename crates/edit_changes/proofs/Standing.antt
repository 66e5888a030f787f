-- What has a stamp is a list of the board, and where it stands among them.
use Rattle.std.proofs.Common.{◌≡◌, ◌∙◌, refl, ap, sym, ℕ, Bool, true, false, not, cond, ◌||◌, List, [], ◌∷◌, ◌++◌, map, take, length, codes, Option, None, Some, option_map}
use Rattle.std.specs.Prelude.{find, if◌then◌else◌}
use Rattle.std.specs.List.{prefix_len}
use Rattle.std.proofs.lemmas.Bool.{false≢true}
use Rattle.std.proofs.lemmas.Option.{none-some, same_Some}
use Rattle.sexpr_text.specs.Items.{Item, is_headed}
use Rattle.board_text.specs.Lists.{lists_of}
use Rattle.board_text.specs.Fields.{has_list, head_begins}
use Rattle.board_text.specs.Items.{Context, context_of}
use Rattle.board_text.specs.Things.{Placed, Site, Root, OnBoard, InFootprint, Thing, Layers, Net, Track, CurvedTrack, Via, Footprint, RuleArea, Zone, Drawing, Pad, FootprintDrawing, FootprintZone, Other, is_picture, on_board, thing_of, in_footprint, items_of_board}
use Rattle.board_text.specs.declared.stamped.Stamped.{Stamped}
use Rattle.board_text.specs.declared.stamped.Stamped.TheVariants as stamped
use Rattle.board_language.specs.Zones.{is_read_zone}
use Rattle.board_language.specs.Reading.{all_of, track_from, via_from, zone_from}
use Rattle.board_language.specs.Stamps.{has_stamp, bearer_in, before_bearer, stamped_as, stamped_behind, stamp_of, bearer_of}
use Rattle.edit_language.proofs.Stamps.{found}
use Rattle.edit_changes.proofs.Patches.{items_of_lists, same_head, same_tail, none_some}

-- ---- which stamps stand for which things

is_track : Stamped → Bool
is_track (stamped.Track n) = true
is_track _ = false

is_via : Stamped → Bool
is_via (stamped.Via n) = true
is_via _ = false

is_zone : Stamped → Bool
is_zone (stamped.Zone n) = true
is_zone _ = false

number_in : Stamped → ℕ
number_in (stamped.Track n) = n
number_in (stamped.Via n) = n
number_in (stamped.Zone n) = n
number_in stamped.Other = 0

no_track : (b : Bool) (n m : ℕ) → cond b (stamped.Zone n) stamped.Other ≡ stamped.Track m → ⊥
unfolding is_track
no_track true n m e = false≢true (ap is_track e)
no_track false n m e = false≢true (ap is_track e)

no_via : (b : Bool) (n m : ℕ) → cond b (stamped.Zone n) stamped.Other ≡ stamped.Via m → ⊥
unfolding is_via
no_via true n m e = false≢true (ap is_via e)
no_via false n m e = false≢true (ap is_via e)

zone_by : (b : Bool) (n m : ℕ) → cond b (stamped.Zone n) stamped.Other ≡ stamped.Zone m → (b ≡ true) × (m ≡ n)
unfolding is_zone number_in
zone_by true n m e = (refl, ap number_in (sym e))
zone_by false n m e = absurd (false≢true (ap is_zone e))

as_track : (c : Context) (before : List Placed) (item : Item) (t : Thing) (n : ℕ) → stamped_as c before item t ≡ stamped.Track n → (t ≡ Track) × (n ≡ length (all_of track_from c before))
unfolding is_track number_in
as_track c before item Track n e = (refl, ap number_in (sym e))
as_track c before item Zone n e = absurd (no_track (is_read_zone c item) _ n e)
as_track c before item _ n e = absurd (false≢true (ap is_track e))

as_via : (c : Context) (before : List Placed) (item : Item) (t : Thing) (n : ℕ) → stamped_as c before item t ≡ stamped.Via n → (t ≡ Via) × (n ≡ length (all_of via_from c before))
unfolding is_via number_in
as_via c before item Via n e = (refl, ap number_in (sym e))
as_via c before item Zone n e = absurd (no_via (is_read_zone c item) _ n e)
as_via c before item _ n e = absurd (false≢true (ap is_via e))

as_zone : (c : Context) (before : List Placed) (item : Item) (t : Thing) (n : ℕ) → stamped_as c before item t ≡ stamped.Zone n
    → (t ≡ Zone) × (is_read_zone c item ≡ true) × (n ≡ length (all_of zone_from c before))
unfolding is_zone
as_zone c before item Zone n e = let z = zone_by (is_read_zone c item) _ n e in (refl, z.0, z.1)
as_zone c before item _ n e = absurd (false≢true (ap is_zone e))

-- ---- where the item stands

is_stamped_thing : Thing → Bool
is_stamped_thing Track = true
is_stamped_thing Via = true
is_stamped_thing Zone = true
is_stamped_thing _ = false

own_unstamped : (f : Item) (p z u : Bool) → is_stamped_thing (if p then Pad f else (if z then FootprintZone else (if u then FootprintDrawing else Other))) ≡ false
unfolding is_stamped_thing
own_unstamped f true z u = refl
own_unstamped f false true u = refl
own_unstamped f false false true = refl
own_unstamped f false false false = refl

on_board_at : (text : List ℕ) (i : Item) (s : Site) → is_stamped_thing (thing_of text (record { item = i; site = s })) ≡ true → s ≡ OnBoard
unfolding thing_of is_stamped_thing
on_board_at text i Root h = absurd (false≢true h)
on_board_at text i OnBoard h = refl
on_board_at text i (InFootprint f) h =
    absurd (false≢true (sym (own_unstamped f (is_headed text (codes "pad") i) (is_headed text (codes "zone") i) (head_begins text (codes "fp_") i || is_headed text (codes "image") i)) ∙ h))

-- ---- the heads of things

chain : (l n t r v f z k d : Bool) → Thing
chain l n t r v f z k d =
    if l then Layers else (if n then Net else (if t then Track else (if r then CurvedTrack else (if v then Via else (if f then Footprint else (if z then cond k RuleArea Zone else cond d Drawing Other))))))

is_track_thing : Thing → Bool
is_track_thing Track = true
is_track_thing _ = false

is_via_thing : Thing → Bool
is_via_thing Via = true
is_via_thing _ = false

is_zone_thing : Thing → Bool
is_zone_thing Zone = true
is_zone_thing _ = false

track_chain : (l n t r v f z k d : Bool) → is_track_thing (chain l n t r v f z k d) ≡ true → t ≡ true
unfolding chain is_track_thing
track_chain true n t r v f z k d h = absurd (false≢true h)
track_chain false true t r v f z k d h = absurd (false≢true h)
track_chain false false true r v f z k d h = refl
track_chain false false false true v f z k d h = absurd (false≢true h)
track_chain false false false false true f z k d h = absurd (false≢true h)
track_chain false false false false false true z k d h = absurd (false≢true h)
track_chain false false false false false false true true d h = absurd (false≢true h)
track_chain false false false false false false true false d h = absurd (false≢true h)
track_chain false false false false false false false k true h = absurd (false≢true h)
track_chain false false false false false false false k false h = absurd (false≢true h)

via_chain : (l n t r v f z k d : Bool) → is_via_thing (chain l n t r v f z k d) ≡ true → v ≡ true
unfolding chain is_via_thing
via_chain true n t r v f z k d h = absurd (false≢true h)
via_chain false true t r v f z k d h = absurd (false≢true h)
via_chain false false true r v f z k d h = absurd (false≢true h)
via_chain false false false true v f z k d h = absurd (false≢true h)
via_chain false false false false true f z k d h = refl
via_chain false false false false false true z k d h = absurd (false≢true h)
via_chain false false false false false false true true d h = absurd (false≢true h)
via_chain false false false false false false true false d h = absurd (false≢true h)
via_chain false false false false false false false k true h = absurd (false≢true h)
via_chain false false false false false false false k false h = absurd (false≢true h)

zone_chain : (l n t r v f z k d : Bool) → is_zone_thing (chain l n t r v f z k d) ≡ true → (z ≡ true) × (k ≡ false)
unfolding chain is_zone_thing
zone_chain true n t r v f z k d h = absurd (false≢true h)
zone_chain false true t r v f z k d h = absurd (false≢true h)
zone_chain false false true r v f z k d h = absurd (false≢true h)
zone_chain false false false true v f z k d h = absurd (false≢true h)
zone_chain false false false false true f z k d h = absurd (false≢true h)
zone_chain false false false false false true z k d h = absurd (false≢true h)
zone_chain false false false false false false true true d h = absurd (false≢true h)
zone_chain false false false false false false true false d h = (refl, refl)
zone_chain false false false false false false false k true h = absurd (false≢true h)
zone_chain false false false false false false false k false h = absurd (false≢true h)

chain_is : (text : List ℕ) (i : Item)
    → on_board text i ≡ chain (is_headed text (codes "layers") i) (is_headed text (codes "net") i) (is_headed text (codes "segment") i) (is_headed text (codes "arc") i) (is_headed text (codes "via") i)
    (is_headed text (codes "footprint") i) (is_headed text (codes "zone") i) (has_list text (codes "keepout") i) (head_begins text (codes "gr_") i || is_picture text i)
unfolding chain
chain_is text i = refl

pub track_head : (text : List ℕ) (i : Item) → on_board text i ≡ Track → is_headed text (codes "segment") i ≡ true
unfolding is_track_thing
track_head text i e = track_chain _ _ _ _ _ _ _ _ _ (ap is_track_thing (sym (chain_is text i) ∙ e))

pub via_head : (text : List ℕ) (i : Item) → on_board text i ≡ Via → is_headed text (codes "via") i ≡ true
unfolding is_via_thing
via_head text i e = via_chain _ _ _ _ _ _ _ _ _ (ap is_via_thing (sym (chain_is text i) ∙ e))

pub zone_head : (text : List ℕ) (i : Item) → on_board text i ≡ Zone → (is_headed text (codes "zone") i ≡ true) × (has_list text (codes "keepout") i ≡ false)
unfolding is_zone_thing
zone_head text i e = zone_chain _ _ _ _ _ _ _ _ _ (ap is_zone_thing (sym (chain_is text i) ∙ e))

-- ---- items of the board and its lists

-- where the item of a list stands among the items of the board's lists, the list stands among the lists
pub record IsListSplit (text : List ℕ) (lists : List Item) (before : List Placed) (i : Item) : Type 0 where
  pub xs : List Item
  pub ys : List Item
  pub is : lists ≡ xs ++ i ∷ ys
  pub before_is : before ≡ items_of_lists text xs

on_board_site : Placed → Bool
on_board_site p = by_site p.site
  where
    by_site : Site → Bool
    by_site OnBoard = true
    by_site _ = false

-- what stands in footprints comes before
record IsPast (own before : List Placed) (tail whole : List Placed) : Type 0 where
  more : List Placed
  before_is : before ≡ own ++ more
  tail_is : tail ≡ more ++ whole

past_own : (f : Item) (own : List Item) (tail before after : List Placed) (i : Item) → map (λ x. record { item = x; site = InFootprint f }) own ++ tail ≡ before ++ record { item = i; site = OnBoard } ∷ after
    → IsPast (map (λ x. record { item = x; site = InFootprint f }) own) before tail (record { item = i; site = OnBoard } ∷ after)
unfolding on_board_site
past_own f [] tail before after i e = record { more = before; before_is = refl; tail_is = e }
past_own f (x ∷ own) tail [] after i e = absurd (false≢true (ap on_board_site (same_head e)))
past_own f (x ∷ own) tail (b ∷ before) after i e =
    let p = past_own f own tail before after i (same_tail e) in
    record { more = p.more; before_is = ap (λ z. z ∷ before) (sym (same_head e)) ∙ ap (λ z. record { item = x; site = InFootprint f } ∷ z) p.before_is; tail_is = p.tail_is }

past_footprint : (text : List ℕ) (x : Item) (own : List Item) (tail before after : List Placed) (i : Item) (b : Bool)
    → cond b (map (λ y. record { item = y; site = InFootprint x }) own) [] ++ tail ≡ before ++ record { item = i; site = OnBoard } ∷ after
    → IsPast (cond b (map (λ y. record { item = y; site = InFootprint x }) own) []) before tail (record { item = i; site = OnBoard } ∷ after)
past_footprint text x own tail before after i true e = past_own x own tail before after i e
past_footprint text x own tail before after i false e = record { more = before; before_is = refl; tail_is = e }

no_placed : (before after : List Placed) (p : Placed) → [] ≡ before ++ p ∷ after → ⊥
no_placed [] after p e = none_some e
no_placed (x ∷ before) after p e = none_some e

pub list_split : (text : List ℕ) (lists : List Item) (before after : List Placed) (i : Item) → items_of_lists text lists ≡ before ++ record { item = i; site = OnBoard } ∷ after
    → IsListSplit text lists before i
list_split text [] before after i e = absurd (no_placed before after (record { item = i; site = OnBoard }) e)
list_split text (x ∷ lists) [] after i e =
    record { xs = []; ys = lists; is = ap (λ z. z ∷ lists) (ap (λ (p : Placed). p.item) (same_head e)); before_is = refl }
list_split text (x ∷ lists) (b ∷ before) after i e =
    let p = past_footprint text x (lists_of x) (items_of_lists text lists) before after i (is_headed text (codes "footprint") x) (same_tail e) in
    let s = list_split text lists p.more after i p.tail_is in
    record {
      xs = x ∷ s.xs;
      ys = s.ys;
      is = ap (λ z. x ∷ z) s.is;
      before_is = ap (λ z. z ∷ before) (sym (same_head e)) ∙ ap (λ z. record { item = x; site = OnBoard } ∷ z) (p.before_is ∙ ap (λ z. in_footprint text x ++ z) s.before_is);
    }

board_split : (text : List ℕ) (root i : Item) (before after : List Placed) → items_of_board text root ≡ before ++ record { item = i; site = OnBoard } ∷ after
    → (xs : List Item) × (ys : List Item) × (lists_of root ≡ xs ++ i ∷ ys) × (before ≡ record { item = root; site = Root } ∷ items_of_lists text xs)
unfolding items_of_board on_board_site
board_split text root i [] after e = absurd (false≢true (ap on_board_site (same_head e)))
board_split text root i (b ∷ before) after e =
    let s = list_split text (lists_of root) before after i (same_tail e) in
    (s.xs, s.ys, s.is, ap (λ z. z ∷ before) (sym (same_head e)) ∙ ap (λ z. record { item = root; site = Root } ∷ z) s.before_is)

-- ---- what has a stamp

record IsMapped {X Y : Type 0} (g : X → Y) (o : Option X) (y : Y) : Type 0 where
  x : X
  is : o ≡ Some x
  made : g x ≡ y

mapped : {X Y : Type 0} (g : X → Y) (o : Option X) (y : Y) → option_map g o ≡ Some y → IsMapped g o y
mapped g None y e = absurd (none-some y e)
mapped g (Some x) y e = record { x = x; is = refl; made = same_Some (g x) y e }

record IsStamped (text : List ℕ) (root : Item) (stamp : List ℕ) (s : Stamped) : Type 0 where
  placed : Placed
  before : List Placed
  after : List Placed
  bearer : bearer_of text root stamp ≡ Some placed
  stands : items_of_board text root ≡ before ++ placed ∷ after
  made : stamped_as (context_of text root) before placed.item (thing_of text placed) ≡ s

stamped_there : (text : List ℕ) (root : Item) (stamp : List ℕ) (s : Stamped) → stamp_of text root stamp ≡ Some s → IsStamped text root stamp s
unfolding stamp_of bearer_of bearer_in before_bearer context_of stamped_behind
stamped_there text root stamp s e =
    let n = prefix_len (λ p. not (has_stamp text stamp p)) (items_of_board text root) in
    let m = mapped (stamped_behind (context_of text root) (take n (items_of_board text root))) (find (has_stamp text stamp) (items_of_board text root)) s e in
    let f = found (has_stamp text stamp) (items_of_board text root) m.x m.is in
    record { placed = m.x; before = take n (items_of_board text root); after = f.after; bearer = m.is; stands = f.is; made = m.made }

-- the list of the board that has the stamp, and the lists before and behind it
pub record IsListStamped (text : List ℕ) (root : Item) (stamp : List ℕ) (t : Thing) : Type 0 where
  pub item : Item
  pub xs : List Item
  pub ys : List Item
  pub bearer : bearer_of text root stamp ≡ Some (record { item = item; site = OnBoard })
  pub thing : on_board text item ≡ t
  pub stands : lists_of root ≡ xs ++ item ∷ ys

on_board_of : (text : List ℕ) (i : Item) → thing_of text (record { item = i; site = OnBoard }) ≡ on_board text i
unfolding thing_of
on_board_of text i = refl

-- with the list as its item
list_there : (text : List ℕ) (root : Item) (stamp : List ℕ) (s : Stamped) (t : Thing) → (h : IsStamped text root stamp s) → thing_of text h.placed ≡ t → is_stamped_thing t ≡ true
    → (l : IsListStamped text root stamp t) × (h.before ≡ record { item = root; site = Root } ∷ items_of_lists text l.xs) × (h.placed.item ≡ l.item)
list_there text root stamp s t h e k =
    let o : h.placed.site ≡ OnBoard = on_board_at text h.placed.item h.placed.site (ap is_stamped_thing e ∙ k) in
    let p : h.placed ≡ record { item = h.placed.item; site = OnBoard } = ap (λ (z : Site). record { item = h.placed.item; site = z }) o in
    let b = board_split text root h.placed.item h.before h.after (h.stands ∙ ap (λ z. h.before ++ z ∷ h.after) p) in (
      record {
        item = h.placed.item;
        xs = b.0;
        ys = b.1;
        bearer = h.bearer ∙ ap Some p;
        thing = sym (on_board_of text h.placed.item) ∙ ap (thing_of text) (sym p) ∙ e;
        stands = b.2;
      },
      b.3,
      refl,
    )

root_no_track : (c : Context) (root : Item) (items : List Placed) → all_of track_from c (record { item = root; site = Root } ∷ items) ≡ all_of track_from c items
unfolding thing_of
root_no_track c root items = refl

root_no_via : (c : Context) (root : Item) (items : List Placed) → all_of via_from c (record { item = root; site = Root } ∷ items) ≡ all_of via_from c items
unfolding thing_of
root_no_via c root items = refl

root_no_zone : (c : Context) (root : Item) (items : List Placed) → all_of zone_from c (record { item = root; site = Root } ∷ items) ≡ all_of zone_from c items
unfolding thing_of
root_no_zone c root items = refl

pub track_stamped : (text : List ℕ) (root : Item) (stamp : List ℕ) (n : ℕ) → stamp_of text root stamp ≡ Some (stamped.Track n)
    → (l : IsListStamped text root stamp Track) × (n ≡ length (all_of track_from (context_of text root) (items_of_lists text l.xs)))
unfolding is_stamped_thing
track_stamped text root stamp n e =
    let h = stamped_there text root stamp (stamped.Track n) e in
    let a = as_track (context_of text root) h.before h.placed.item (thing_of text h.placed) n h.made in
    let l = list_there text root stamp (stamped.Track n) Track h a.0 refl in
    (l.0, a.1 ∙ ap (λ z. length (all_of track_from (context_of text root) z)) l.1 ∙ ap length (root_no_track (context_of text root) root (items_of_lists text l.0.xs)))

pub via_stamped : (text : List ℕ) (root : Item) (stamp : List ℕ) (n : ℕ) → stamp_of text root stamp ≡ Some (stamped.Via n)
    → (l : IsListStamped text root stamp Via) × (n ≡ length (all_of via_from (context_of text root) (items_of_lists text l.xs)))
unfolding is_stamped_thing
via_stamped text root stamp n e =
    let h = stamped_there text root stamp (stamped.Via n) e in
    let a = as_via (context_of text root) h.before h.placed.item (thing_of text h.placed) n h.made in
    let l = list_there text root stamp (stamped.Via n) Via h a.0 refl in
    (l.0, a.1 ∙ ap (λ z. length (all_of via_from (context_of text root) z)) l.1 ∙ ap length (root_no_via (context_of text root) root (items_of_lists text l.0.xs)))

pub zone_stamped : (text : List ℕ) (root : Item) (stamp : List ℕ) (n : ℕ) → stamp_of text root stamp ≡ Some (stamped.Zone n)
    → (l : IsListStamped text root stamp Zone) × (is_read_zone (context_of text root) l.item ≡ true) × (n ≡ length (all_of zone_from (context_of text root) (items_of_lists text l.xs)))
unfolding is_stamped_thing
zone_stamped text root stamp n e =
    let h = stamped_there text root stamp (stamped.Zone n) e in
    let a = as_zone (context_of text root) h.before h.placed.item (thing_of text h.placed) n h.made in
    let l = list_there text root stamp (stamped.Zone n) Zone h a.0 refl in (
      l.0,
      ap (is_read_zone (context_of text root)) (sym l.2) ∙ a.1,
      a.2 ∙ ap (λ z. length (all_of zone_from (context_of text root) z)) l.1 ∙ ap length (root_no_zone (context_of text root) root (items_of_lists text l.0.xs)),
    )
