-- An accepted board has no more things, and no more outlines, than a board may have.
use Rattle.std.proofs.Common.{◌≡◌, refl, sym, subst, ◌∙◌, ℕ, ◌+◌, ◌≤◌, ◌⊎◌, inl, inr, arith, Bool, true, false, cond, List, [], ◌∷◌, ◌++◌, ◌&&◌, append_assoc, length, length-append, Option, None, Some}
use Rattle.std.specs.Prelude.{nat_lt, nat_le, filter_map, flat_map, sum_by}
use Rattle.std.specs.List.{cons_option}
use Rattle.std.proofs.lemmas.Bool.{false≢true}
use Rattle.std.proofs.lemmas.Bool.Decides.{nat_tests}
use Rattle.std.proofs.lemmas.List.{append-nil}
use Rattle.std.proofs.lemmas.List.Sums.{sum_by_push, sum_by-cons}
use Rattle.sexpr_text.specs.Items.{Item}
use Rattle.outline_slab.specs.declared.error.OutlineFault.{OutlineFault}
use Rattle.board_text.specs.Things.{Placed, Thing, Net, Track, Via, RuleArea, Zone, Drawing, Pad, thing_of}
use Rattle.board_text.specs.Items.{Context, declared_net}
use Rattle.board_language.specs.Pads.{is_read_pad, pad_of}
use Rattle.board_language.specs.Counts.{things_as, things_of, outlines_as, outlines_of, is_first_over, is_one_too_many}
use Rattle.board_language.specs.Zones.{is_read_zone, is_read_area, zone_of, area_of}
use Rattle.board_language.specs.Offences.{net_as, net_number, nets_among, is_double_net, pad_kind, zone_kind, area_kind, stamp_kind, is_double_stamp, kind_as, kind_with}
use Rattle.board_language.specs.Reading.{AreSound, all_of, track_from, via_from, pad_from, zone_from, area_from, edges_from}
use Rattle.board_facts.proofs.Passed.{or_front, or_back, net_fits, track_passed, via_passed, pad_passed, zone_passed, area_passed, drawing_fits}

-- ---- what is counted isn't one too many

abbrev Fits : Context → List Placed → Placed → ℕ → ℕ → Type 0
Fits c before p things outlines = (is_one_too_many c before p ≡ false) ⊎ ((things ≡ 0) × (outlines ≡ 0))

fits_as : (c : Context) (before : List Placed) (p : Placed) (outline : Option OutlineFault) (t : Thing) → None ≡ kind_as c before p outline t → Fits c before p (things_as c p.item t) (outlines_as c p.item t)
fits_as c before p outline Net k = inl (net_fits c p.item (is_double_net c before p.item) (is_one_too_many c before p) (sym k))
fits_as c before p outline Track k = inl (track_passed c p.item (is_double_stamp c before p.item) (is_one_too_many c before p) (sym k)).both.fits
fits_as c before p outline Via k = inl (via_passed c p.item (is_double_stamp c before p.item) (is_one_too_many c before p) (sym k)).fits
fits_as c before p outline Drawing k = inl (drawing_fits c p.item (is_one_too_many c before p) (sym k))
fits_as c before p outline (Pad footprint) k = by_read (is_read_pad c p.item) k
  where
    by_read : (b : Bool) → None ≡ cond b (pad_kind c footprint p.item (is_one_too_many c before p)) None → Fits c before p (cond b 1 0) 0
    by_read true k = inl (pad_passed c footprint p.item (is_one_too_many c before p) (sym k)).fits
    by_read false k = inr (refl, refl)
fits_as c before p outline Zone k = by_read (is_read_zone c p.item) k
  where
    by_read : (b : Bool) → None ≡ cond b (zone_kind c p.item outline (is_double_stamp c before p.item) (is_one_too_many c before p)) (stamp_kind (is_double_stamp c before p.item))
        → Fits c before p (cond b 1 0) (cond b 1 0)
    by_read true k = inl (zone_passed c p.item outline (is_double_stamp c before p.item) (is_one_too_many c before p) (sym k)).both.fits
    by_read false k = inr (refl, refl)
fits_as c before p outline RuleArea k = by_read (is_read_area c p.item) k
  where
    by_read : (b : Bool) → None ≡ cond b (area_kind c p.item outline (is_double_stamp c before p.item) (is_one_too_many c before p)) (stamp_kind (is_double_stamp c before p.item))
        → Fits c before p 0 (cond b 1 0)
    by_read true k = inl (area_passed c p.item outline (is_double_stamp c before p.item) (is_one_too_many c before p) (sym k)).fits
    by_read false k = inr (refl, refl)
fits_as c before p outline _ k = inr (refl, refl)

-- ---- so there are never more than the most

not_over : (most before own : ℕ) → is_first_over most before own ≡ false → before ≤ most → before + own ≤ most
not_over most before own e h = by_test (nat_le before most) (is_le before h) e
  where
    is_le : (n : ℕ) → n ≤ most → nat_le n most ≡ true
    is_le n l = grind (arith, nat_tests)

    no_lt : (n : ℕ) → nat_lt most n ≡ false → n ≤ most
    no_lt n l = grind (arith, nat_tests)

    by_test : (b : Bool) → b ≡ true → (b && nat_lt most (before + own)) ≡ false → before + own ≤ most
    by_test true t f = no_lt (before + own) f
    by_test false t f = absurd (false≢true t)

-- a sum that no item carries over the most stays at most that
never_over : (f : Placed → ℕ) (most : ℕ) (items before more : List Placed) → items ≡ before ++ more
    → ((before after : List Placed) (p : Placed) → items ≡ before ++ p ∷ after → sum_by f before ≤ most → sum_by f before + f p ≤ most)
    → sum_by f before ≤ most → sum_by f items ≤ most
never_over f most items before [] e step h = subst (λ (xs : List Placed). sum_by f xs ≤ most) (sym (e ∙ append-nil before)) h
never_over f most items before (p ∷ more) e step h =
    never_over f most items (before ++ p ∷ []) more (e ∙ sym (append_assoc before (p ∷ []) more)) step (subst (λ n. n ≤ most) (sym (sum_by_push f before p)) (step before more p e h))

things_step : (c : Context) (before : List Placed) (p : Placed) (outlines : ℕ) → Fits c before p (things_of c p) outlines → sum_by (things_of c) before ≤ 200000 → sum_by (things_of c) before + things_of c p ≤ 200000
unfolding is_one_too_many
things_step c before p outlines (inl e) h =
    not_over 200000 (sum_by (things_of c) before) (things_of c p)
    (or_front (is_first_over 200000 (sum_by (things_of c) before) (things_of c p)) (is_first_over 2000 (sum_by (outlines_of c) before) (outlines_of c p)) e) h
things_step c before p outlines (inr z) h = let n = z.0 in omega (arith, n, h)

outlines_step : (c : Context) (before : List Placed) (p : Placed) (things : ℕ) → Fits c before p things (outlines_of c p) → sum_by (outlines_of c) before ≤ 2000 → sum_by (outlines_of c) before + outlines_of c p ≤ 2000
unfolding is_one_too_many
outlines_step c before p things (inl e) h =
    not_over 2000 (sum_by (outlines_of c) before) (outlines_of c p)
    (or_back (is_first_over 200000 (sum_by (things_of c) before) (things_of c p)) (is_first_over 2000 (sum_by (outlines_of c) before) (outlines_of c p)) e) h
outlines_step c before p things (inr z) h = let n = z.1 in omega (arith, n, h)

fits : (c : Context) (items before after : List Placed) (p : Placed) → AreSound c items → items ≡ before ++ p ∷ after → Fits c before p (things_of c p) (outlines_of c p)
unfolding kind_with things_of outlines_of
fits c items before after p sound e = let k = sound before after p e in fits_as c before p k.outline (thing_of c.bytes p) k.is_kind

things_most : (c : Context) (items : List Placed) → AreSound c items → sum_by (things_of c) items ≤ 200000
things_most c items sound =
    never_over (things_of c) 200000 items [] items refl (λ before after p e h. things_step c before p (outlines_of c p) (fits c items before after p sound e) h) (omega arith)

outlines_most : (c : Context) (items : List Placed) → AreSound c items → sum_by (outlines_of c) items ≤ 2000
outlines_most c items sound =
    never_over (outlines_of c) 2000 items [] items refl (λ before after p e h. outlines_step c before p (things_of c p) (fits c items before after p sound e) h) (omega arith)

-- ---- each thing is one of them

abbrev one : {Y : Type 0} → Option Y → ℕ
one o = length (cons_option o [])

cons_length : {Y : Type 0} (o : Option Y) (ys : List Y) → length (cons_option o ys) ≡ one o + length ys
cons_length None ys = omega arith
cons_length (Some y) ys = omega arith

six_counted : {X A B C D E F : Type 0} (e : X → Option F) (f : X → Option A) (g : X → Option B) (h : X → Option C) (i : X → Option D) (j : X → List E) (n : X → ℕ) (xs : List X)
    → ((x : X) → one (e x) + one (f x) + one (g x) + one (h x) + one (i x) + length (j x) ≤ n x)
    → length (filter_map e xs) + length (filter_map f xs) + length (filter_map g xs) + length (filter_map h xs) + length (filter_map i xs) + length (flat_map j xs) ≤ sum_by n xs
six_counted e f g h i j n [] w = omega arith
six_counted e f g h i j n (x ∷ xs) w =
    let more = six_counted e f g h i j n xs w in
    let here = w x in
    let z = cons_length (e x) (filter_map e xs) in
    let a = cons_length (f x) (filter_map f xs) in
    let b = cons_length (g x) (filter_map g xs) in
    let d = cons_length (h x) (filter_map h xs) in
    let k = cons_length (i x) (filter_map i xs) in
    let l = length-append (j x) (flat_map j xs) in
    let s = sum_by-cons n x xs in
    omega (arith, more, here, z, a, b, d, k, l, s)

two_counted : {X A B : Type 0} (f : X → Option A) (g : X → Option B) (n : X → ℕ) (xs : List X) → ((x : X) → one (f x) + one (g x) ≤ n x)
    → length (filter_map f xs) + length (filter_map g xs) ≤ sum_by n xs
two_counted f g n [] w = omega arith
two_counted f g n (x ∷ xs) w =
    let more = two_counted f g n xs w in
    let here = w x in
    let a = cons_length (f x) (filter_map f xs) in
    let b = cons_length (g x) (filter_map g xs) in
    let s = sum_by-cons n x xs in
    omega (arith, more, here, a, b, s)

option_most : {Y : Type 0} (o : Option Y) → one o ≤ 1
option_most None = omega arith
option_most (Some y) = omega arith

-- what is read of one item
thing_counted : (c : Context) (item : Item) (t : Thing)
    → one (net_as c.bytes item t) + one (track_from c item t) + one (via_from c item t) + one (pad_from c item t) + one (zone_from c item t) + length (edges_from c item t) ≤ things_as c item t
thing_counted c item Track = omega arith
thing_counted c item Via = omega arith
thing_counted c item (Pad footprint) = by_read (is_read_pad c item)
  where
    by_read : (b : Bool) → 0 + 0 + 0 + one (cond b (Some (pad_of c footprint item)) None) + 0 + 0 ≤ cond b 1 0
    by_read true = omega arith
    by_read false = omega arith
thing_counted c item Zone = by_read (is_read_zone c item)
  where
    by_read : (b : Bool) → 0 + 0 + 0 + 0 + one (cond b (Some (zone_of c item)) None) + 0 ≤ cond b 1 0
    by_read true = omega arith
    by_read false = omega arith
thing_counted c item Drawing = omega arith
thing_counted c item Net = let l = option_most (declared_net c.bytes item) in omega (arith, l)
thing_counted c item _ = omega arith

outline_counted : (c : Context) (item : Item) (t : Thing) → one (zone_from c item t) + one (area_from c item t) ≤ outlines_as c item t
outline_counted c item Zone = by_read (is_read_zone c item)
  where
    by_read : (b : Bool) → one (cond b (Some (zone_of c item)) None) + 0 ≤ cond b 1 0
    by_read true = omega arith
    by_read false = omega arith
outline_counted c item RuleArea = by_read (is_read_area c item)
  where
    by_read : (b : Bool) → 0 + one (cond b (Some (area_of c item)) None) ≤ cond b 1 0
    by_read true = omega arith
    by_read false = omega arith
outline_counted c item _ = omega arith

-- ---- the board

pub few_things : (c : Context) (items : List Placed) → AreSound c items
    → length (nets_among c.bytes items) + length (all_of track_from c items) + length (all_of via_from c items) + length (all_of pad_from c items) + length (all_of zone_from c items)
    + length (flat_map (λ (p : Placed). edges_from c p.item (thing_of c.bytes p)) items) ≤ 200000
unfolding things_of nets_among
few_things c items sound =
    let n =
    six_counted (net_number c.bytes) (λ (p : Placed). track_from c p.item (thing_of c.bytes p)) (λ (p : Placed). via_from c p.item (thing_of c.bytes p)) (λ (p : Placed). pad_from c p.item (thing_of c.bytes p))
    (λ (p : Placed). zone_from c p.item (thing_of c.bytes p)) (λ (p : Placed). edges_from c p.item (thing_of c.bytes p)) (things_of c) items (λ p. thing_counted c p.item (thing_of c.bytes p)) in
    let m = things_most c items sound in
    omega (arith, n, m)

pub few_outlines : (c : Context) (items : List Placed) → AreSound c items → length (all_of zone_from c items) + length (all_of area_from c items) ≤ 2000
unfolding outlines_of
few_outlines c items sound =
    let n =
    two_counted (λ (p : Placed). zone_from c p.item (thing_of c.bytes p)) (λ (p : Placed). area_from c p.item (thing_of c.bytes p)) (outlines_of c) items
    (λ p. outline_counted c p.item (thing_of c.bytes p)) in
    let m = outlines_most c items sound in
    omega (arith, n, m)
