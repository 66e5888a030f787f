-- Stamps name things by their numbers in the board's lists.
use Rattle.std.proofs.Common.{◌≡◌, ◌∙◌, refl, ap, sym, subst, ℕ, suc, ◌+◌, Bool, true, false, not, cond, List, [], ◌∷◌, ◌++◌, length, take, find, filter_map, slice_get, Option, None, Some, option_map, inl, inr, arith, length-append}
use Rattle.std.specs.List.{prefix_len, cons_option}
use Rattle.std.specs.Prelude.{◌⊎◌}
use Rattle.std.proofs.lemmas.Option.{none-some, same_Some, slice_get-get_or}
use Rattle.std.proofs.lemmas.List.Elements.{filter_map-append}
use Rattle.std.proofs.Math.Seq.{get_or-append_seam}
use Rattle.classes.specs.Classes.{IsOneOf}
use Rattle.sexpr_text.specs.Items.{Item}
use Rattle.board_text.specs.Things.{Placed, Thing, thing_of, items_of_board}
use Rattle.board_text.specs.Things as things
use Rattle.board_text.specs.Items.{Context, context_of}
use Rattle.board_language.specs.Tracks.{track_of, via_of}
use Rattle.board_language.specs.Zones.{is_read_zone, zone_of}
use Rattle.board_language.specs.Reading.{board_of, all_of, track_from, via_from, zone_from}
use Rattle.board_text.specs.declared.stamped.Stamped.{Stamped}
use Rattle.board_text.specs.declared.stamped.Stamped.TheVariants.{Track, Via, Zone, Other}
use Rattle.board_language.specs.Stamps.{has_stamp, bearer_in, before_bearer, stamped_as, stamped_behind, stamped_in, stamp_of, bearer_of}
use Rattle.edit_language.specs.StampLaws.{TrackStampLaw, ViaStampLaw, ZoneStampLaw, BearerLaw, NoBearerLaw}

-- ---- finding

-- the item stands behind those that don't pass, and passes
pub record IsFound {X : Type 0} (p : X → Bool) (xs : List X) (n : ℕ) (x : X) : Type 0 where
  pub after : List X
  pub is : xs ≡ take n xs ++ x ∷ after
  pub passes : p x ≡ true

found_step : {X : Type 0} (p : X → Bool) (y : X) (ys : List X) (n : ℕ) (x : X) (b : Bool) → p y ≡ b → cond b (Some y) (find p ys) ≡ Some x
    → (find p ys ≡ Some x → IsFound p ys n x) → IsFound p (y ∷ ys) (cond (not b) (1 + n) 0) x
found_step p y ys n x true e f ih =
    let s = same_Some y x f in
    record { after = ys; is = ap (λ k. k ∷ ys) s; passes = ap p (sym s) ∙ e }
found_step p y ys n x false e f ih =
    let h = ih f in
    let k : suc n ≡ 1 + n = omega arith in
    record { after = h.after; is = ap (λ z. y ∷ z) h.is ∙ ap (λ m. take m (y ∷ ys) ++ x ∷ h.after) k; passes = h.passes }

pub found : {X : Type 0} (p : X → Bool) (xs : List X) (x : X) → find p xs ≡ Some x → IsFound p xs (prefix_len (λ y. not (p y)) xs) x
found p [] x e = absurd (none-some x e)
found p (y ∷ ys) x e = found_step p y ys (prefix_len (λ z. not (p z)) ys) x (p y) refl e (found p ys x)

none_step : {X : Type 0} (p : X → Bool) (y : X) (ys : List X) (x : X) (b : Bool) → p y ≡ b → cond b (Some y) (find p ys) ≡ None
    → (find p ys ≡ None → IsOneOf x ys → p x ≡ false) → (x ≡ y) ⊎ IsOneOf x ys → p x ≡ false
none_step p y ys x true e f ih m = absurd (none-some y (sym f))
none_step p y ys x false e f ih (inl s) = ap p s ∙ e
none_step p y ys x false e f ih (inr m) = ih f m

none_found : {X : Type 0} (p : X → Bool) (xs : List X) → find p xs ≡ None → (x : X) → IsOneOf x xs → p x ≡ false
unfolding IsOneOf
none_found p [] e x m = absurd m
none_found p (y ∷ ys) e x m = none_step p y ys x (p y) refl e (λ f. none_found p ys f x) m

pub one_of_middle : {X : Type 0} (xs ys : List X) (x : X) → IsOneOf x (xs ++ x ∷ ys)
unfolding IsOneOf
one_of_middle [] ys x = inl refl
one_of_middle (y ∷ xs) ys x = inr (one_of_middle xs ys x)

-- ---- numbers in lists

behind_front : {X : Type 0} (xs ys : List X) (y : X) → slice_get (xs ++ y ∷ ys) (length xs) ≡ Some y
behind_front xs ys y =
    let l : length (xs ++ y ∷ ys) ≡ length xs + length (y ∷ ys) = length-append xs (y ∷ ys) in
    slice_get-get_or (xs ++ y ∷ ys) (length xs) y (omega (arith, l)) ∙ ap Some (get_or-append_seam xs y ys y)

given : {X Y : Type 0} (h : X → Option Y) (x : X) (xs : List X) (y : Y) → h x ≡ Some y → filter_map h (x ∷ xs) ≡ y ∷ filter_map h xs
given h x xs y e = ap (λ o. cons_option o (filter_map h xs)) e

-- what the found item gives stands behind what those before it give
numbered : {X Y : Type 0} (h : X → Option Y) (items before after : List X) (x : X) (y : Y) → items ≡ before ++ x ∷ after → h x ≡ Some y
    → slice_get (filter_map h items) (length (filter_map h before)) ≡ Some y
numbered h items before after x y e f =
    let l : filter_map h items ≡ filter_map h before ++ y ∷ filter_map h after =
    ap (filter_map h) e ∙ filter_map-append h before (x ∷ after) ∙ ap (λ k. filter_map h before ++ k) (given h x after y f) in
    ap (λ k. slice_get k (length (filter_map h before))) l ∙ behind_front (filter_map h before) (filter_map h after) y

-- ---- what an item is

abbrev IsTrackStamp : Stamped → Type 0
IsTrackStamp (Track n) = Unit {0}
IsTrackStamp _ = ⊥

abbrev IsViaStamp : Stamped → Type 0
IsViaStamp (Via n) = Unit {0}
IsViaStamp _ = ⊥

abbrev IsZoneStamp : Stamped → Type 0
IsZoneStamp (Zone n) = Unit {0}
IsZoneStamp _ = ⊥

abbrev number_in : Stamped → ℕ
number_in (Track n) = n
number_in (Via n) = n
number_in (Zone n) = n
number_in Other = 0

zone_only : (b : Bool) (n : ℕ) → IsZoneStamp (cond b (Zone n) Other) → b ≡ true
zone_only true n h = refl
zone_only false n h = absurd h

zone_number : (b : Bool) (n m : ℕ) → cond b (Zone n) Other ≡ Zone m → m ≡ n
zone_number true n m e = ap number_in (sym e)
zone_number false n m e = absurd (subst IsZoneStamp (sym e) tt)

no_track : (b : Bool) (n : ℕ) → IsTrackStamp (cond b (Zone n) Other) → ⊥
no_track true n h = h
no_track false n h = h

no_via : (b : Bool) (n : ℕ) → IsViaStamp (cond b (Zone n) Other) → ⊥
no_via true n h = h
no_via false n h = h

as_track : (c : Context) (before : List Placed) (item : Item) (t : Thing) (n : ℕ) → stamped_as c before item t ≡ Track n
    → (track_from c item t ≡ Some (track_of c item)) × (n ≡ length (all_of track_from c before))
as_track c before item things.Track n e = (refl, ap number_in (sym e))
as_track c before item things.Zone n e = absurd (no_track (is_read_zone c item) _ (subst IsTrackStamp (sym e) tt))
as_track c before item _ n e = absurd (subst IsTrackStamp (sym e) tt)

as_via : (c : Context) (before : List Placed) (item : Item) (t : Thing) (n : ℕ) → stamped_as c before item t ≡ Via n
    → (via_from c item t ≡ Some (via_of c item)) × (n ≡ length (all_of via_from c before))
as_via c before item things.Via n e = (refl, ap number_in (sym e))
as_via c before item things.Zone n e = absurd (no_via (is_read_zone c item) _ (subst IsViaStamp (sym e) tt))
as_via c before item _ n e = absurd (subst IsViaStamp (sym e) tt)

as_zone : (c : Context) (before : List Placed) (item : Item) (t : Thing) (n : ℕ) → stamped_as c before item t ≡ Zone n
    → (zone_from c item t ≡ Some (zone_of c item)) × (n ≡ length (all_of zone_from c before))
as_zone c before item things.Zone n e = (
  ap (λ b. cond b (Some (zone_of c item)) None) (zone_only (is_read_zone c item) _ (subst IsZoneStamp (sym e) tt)),
  zone_number (is_read_zone c item) _ n e,
)
as_zone c before item _ n e = absurd (subst IsZoneStamp (sym e) tt)

-- ---- what has a stamp

found_bearer : (text stamp : List ℕ) (items : List Placed) (p : Placed) → bearer_in text stamp items ≡ Some p
    → IsFound (has_stamp text stamp) items (prefix_len (λ q. not (has_stamp text stamp q)) items) p
unfolding bearer_in
found_bearer text stamp items p e = found (has_stamp text stamp) items p e

before_is : (text stamp : List ℕ) (items : List Placed) → before_bearer text stamp items ≡ take (prefix_len (λ q. not (has_stamp text stamp q)) items) items
unfolding before_bearer
before_is text stamp items = refl

stands : (text stamp : List ℕ) (items : List Placed) (p : Placed) → bearer_in text stamp items ≡ Some p
    → (after : List Placed) × (items ≡ before_bearer text stamp items ++ p ∷ after)
stands text stamp items p e =
    let f = found_bearer text stamp items p e in
    (f.after, f.is ∙ ap (λ k. k ++ p ∷ f.after) (sym (before_is text stamp items)))

thing_in : (c : Context) (stamp : List ℕ) (items : List Placed) (p : Placed) (s : Stamped) → bearer_in c.bytes stamp items ≡ Some p
    → stamped_in c stamp items ≡ Some s → stamped_behind c (before_bearer c.bytes stamp items) p ≡ s
thing_in c stamp items p s e f =
    same_Some _ s (sym (ap (option_map (stamped_behind c (before_bearer c.bytes stamp items))) e) ∙ f)

track_in : (c : Context) (stamp : List ℕ) (items : List Placed) (n : ℕ) (p : Placed) → stamped_in c stamp items ≡ Some (Track n)
    → bearer_in c.bytes stamp items ≡ Some p → slice_get (all_of track_from c items) n ≡ Some (track_of c p.item)
unfolding stamped_behind
track_in c stamp items n p e f =
    let s = stands c.bytes stamp items p f in
    let t = as_track c (before_bearer c.bytes stamp items) p.item (thing_of c.bytes p) n (thing_in c stamp items p (Track n) f e) in
    ap (slice_get (all_of track_from c items)) t.1 ∙ numbered (λ q. track_from c q.item (thing_of c.bytes q)) items (before_bearer c.bytes stamp items) s.0 p (track_of c p.item) s.1 t.0

via_in : (c : Context) (stamp : List ℕ) (items : List Placed) (n : ℕ) (p : Placed) → stamped_in c stamp items ≡ Some (Via n)
    → bearer_in c.bytes stamp items ≡ Some p → slice_get (all_of via_from c items) n ≡ Some (via_of c p.item)
unfolding stamped_behind
via_in c stamp items n p e f =
    let s = stands c.bytes stamp items p f in
    let t = as_via c (before_bearer c.bytes stamp items) p.item (thing_of c.bytes p) n (thing_in c stamp items p (Via n) f e) in
    ap (slice_get (all_of via_from c items)) t.1 ∙ numbered (λ q. via_from c q.item (thing_of c.bytes q)) items (before_bearer c.bytes stamp items) s.0 p (via_of c p.item) s.1 t.0

zone_in : (c : Context) (stamp : List ℕ) (items : List Placed) (n : ℕ) (p : Placed) → stamped_in c stamp items ≡ Some (Zone n)
    → bearer_in c.bytes stamp items ≡ Some p → slice_get (all_of zone_from c items) n ≡ Some (zone_of c p.item)
unfolding stamped_behind
zone_in c stamp items n p e f =
    let s = stands c.bytes stamp items p f in
    let t = as_zone c (before_bearer c.bytes stamp items) p.item (thing_of c.bytes p) n (thing_in c stamp items p (Zone n) f e) in
    ap (slice_get (all_of zone_from c items)) t.1 ∙ numbered (λ q. zone_from c q.item (thing_of c.bytes q)) items (before_bearer c.bytes stamp items) s.0 p (zone_of c p.item) s.1 t.0

-- ---- the laws

pub track_stamp : TrackStampLaw
unfolding stamp_of bearer_of board_of context_of
track_stamp text root rules stamp n p e f = track_in (context_of text root) stamp (items_of_board text root) n p e f

pub via_stamp : ViaStampLaw
unfolding stamp_of bearer_of board_of context_of
via_stamp text root rules stamp n p e f = via_in (context_of text root) stamp (items_of_board text root) n p e f

pub zone_stamp : ZoneStampLaw
unfolding stamp_of bearer_of board_of context_of
zone_stamp text root rules stamp n p e f = zone_in (context_of text root) stamp (items_of_board text root) n p e f

pub bearer : BearerLaw
unfolding bearer_of
bearer text root stamp p e =
    let f = found_bearer text stamp (items_of_board text root) p e in
    (subst (IsOneOf p) (sym f.is) (one_of_middle (take (prefix_len (λ q. not (has_stamp text stamp q)) (items_of_board text root)) (items_of_board text root)) f.after p), f.passes)

none_mapped : {X Y : Type 0} (h : X → Y) (o : Option X) → option_map h o ≡ None → o ≡ None
none_mapped h None e = refl
none_mapped h (Some x) e = absurd (none-some (h x) (sym e))

pub no_bearer : NoBearerLaw
unfolding stamp_of bearer_in context_of
no_bearer text root stamp e p m = none_found (has_stamp text stamp) (items_of_board text root) (none_mapped _ _ e) p m
