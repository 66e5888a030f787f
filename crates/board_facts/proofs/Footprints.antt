-- The footprint of a pad of an accepted board has no offence either, so its lengths are no more than 100 mm.
use Rattle.std.proofs.Common.{◌≡◌, refl, sym, ap, subst, ◌∙◌, ℕ, inl, inr, Bool, true, false, cond, List, [], ◌∷◌, ◌++◌, ◌||◌, map, Option, None, Some}
use Rattle.std.specs.Prelude.{if◌then◌else◌, codes, slice_range}
use Rattle.std.specs.Str.{bytes_eq}
use Rattle.std.proofs.lemmas.Bool.{false≢true}
use Rattle.std.proofs.lemmas.Slice.Eq.{bytes_eq-Decides}
use Rattle.classes.specs.Classes.{IsOneOf}
use Rattle.sexpr_text.specs.declared.Span.{Span}
use Rattle.sexpr_text.specs.Items.{Item, is_headed, is_name, head_of}
use Rattle.board_text.specs.Lists.{lists_of}
use Rattle.board_text.specs.Fields.{has_list, head_begins}
use Rattle.board_text.specs.Things.{Placed, Site, Root, OnBoard, InFootprint, Thing, Layers, Net, Track, CurvedTrack, Via, Footprint, RuleArea, Zone, Drawing, Pad, FootprintDrawing, FootprintZone, Other, thing_of, items_of_board, with_own, on_board, is_picture}
use Rattle.board_text.specs.Items.{Context, is_no_length, length_in}
use Rattle.board_language.specs.Offences.{kind_as, kind_with}
use Rattle.board_language.specs.Reading.{AreSound}
use Rattle.board_language.proofs.Members.{one_of_flat, one_of_map, append_right, flat_one_of}
use Rattle.board_facts.proofs.Passed.{or_front, or_back, IsPassedFootprint, footprint_passed}

-- its three lengths
pub record IsFine (bytes : List ℕ) (footprint : Item) : Type 0 where
  pub clearance : is_no_length (length_in bytes (codes "clearance") footprint) ≡ false
  pub gap : is_no_length (length_in bytes (codes "thermal_gap") footprint) ≡ false
  pub width : is_no_length (length_in bytes (codes "thermal_width") footprint) ≡ false

-- ---- a footprint is tried as one

pub other_name : (bytes name other : List ℕ) (head : Option Span) → bytes_eq name other ≡ false → is_name bytes name head ≡ true → is_name bytes other head ≡ false
other_name bytes name other None n e = absurd (false≢true e)
other_name bytes name other (Some head) n e =
    subst (λ text. bytes_eq text other ≡ false) (sym ((bytes_eq-Decides (slice_range bytes head.from head.to) name).0 e)) n

is_footprint : (bytes : List ℕ) (item : Item) → is_headed bytes (codes "footprint") item ≡ true → on_board bytes item ≡ Footprint
is_footprint bytes item e =
    let a : is_headed bytes (codes "layers") item ≡ false = other_name bytes (codes "footprint") (codes "layers") (head_of item) refl e in
    let b : is_headed bytes (codes "net") item ≡ false = other_name bytes (codes "footprint") (codes "net") (head_of item) refl e in
    let d : is_headed bytes (codes "segment") item ≡ false = other_name bytes (codes "footprint") (codes "segment") (head_of item) refl e in
    let f : is_headed bytes (codes "arc") item ≡ false = other_name bytes (codes "footprint") (codes "arc") (head_of item) refl e in
    let g : is_headed bytes (codes "via") item ≡ false = other_name bytes (codes "footprint") (codes "via") (head_of item) refl e in
    by_tests (is_headed bytes (codes "layers") item) (is_headed bytes (codes "net") item) (is_headed bytes (codes "segment") item) (is_headed bytes (codes "arc") item)
    (is_headed bytes (codes "via") item) (is_headed bytes (codes "footprint") item) _ a b d f g e
  where
    by_tests : (l n t a v f : Bool) (more : Thing) → l ≡ false → n ≡ false → t ≡ false → a ≡ false → v ≡ false → f ≡ true
        → (if l then Layers else (if n then Net else (if t then Track else (if a then CurvedTrack else (if v then Via else (if f then Footprint else more)))))) ≡ Footprint
    by_tests l n t a v f more p q r s u w = rw (p, q, r, s, u, w) refl

footprint_sized : (bytes : List ℕ) (footprint : Item) → IsPassedFootprint bytes footprint → IsFine bytes footprint
footprint_sized bytes footprint h =
    let a = is_no_length (length_in bytes (codes "clearance") footprint) in
    let b = is_no_length (length_in bytes (codes "thermal_gap") footprint) in
    let d = is_no_length (length_in bytes (codes "thermal_width") footprint) in
    record {
      clearance = or_front a (b || (d || false)) h.lengths;
      gap = or_front b (d || false) (or_back a (b || (d || false)) h.lengths);
      width = or_front d false (or_back b (d || false) (or_back a (b || (d || false)) h.lengths));
    }

-- ---- where a pad stands

is_pad : Thing → Bool
is_pad (Pad footprint) = true
is_pad _ = false

footprint_or : Item → Thing → Item
footprint_or item (Pad footprint) = footprint
footprint_or item _ = item

site_or : Item → Site → Item
site_or item Root = item
site_or item OnBoard = item
site_or item (InFootprint footprint) = footprint

is_inside : Site → Bool
is_inside Root = false
is_inside OnBoard = false
is_inside (InFootprint footprint) = true

no_pad : (l n t a v f z k d : Bool)
    → is_pad (if l then Layers else (if n then Net else (if t then Track else (if a then CurvedTrack else (if v then Via else (if f then Footprint else (if z then cond k RuleArea Zone else cond d Drawing Other))))))) ≡ false
unfolding is_pad
no_pad true n t a v f z k d = refl
no_pad false true t a v f z k d = refl
no_pad false false true a v f z k d = refl
no_pad false false false true v f z k d = refl
no_pad false false false false true f z k d = refl
no_pad false false false false false true z k d = refl
no_pad false false false false false false true true d = refl
no_pad false false false false false false true false d = refl
no_pad false false false false false false false k true = refl
no_pad false false false false false false false k false = refl

of_pad : (f g : Item) (a b d : Bool) → (if a then Pad f else (if b then FootprintZone else (if d then FootprintDrawing else Other))) ≡ Pad g → f ≡ g
unfolding is_pad footprint_or
of_pad f g true b d e = ap (footprint_or f) e
of_pad f g false true d e = absurd (false≢true (ap is_pad e))
of_pad f g false false true e = absurd (false≢true (ap is_pad e))
of_pad f g false false false e = absurd (false≢true (ap is_pad e))

site_of_pad : (bytes : List ℕ) (item : Item) (site : Site) (footprint : Item) → thing_of bytes (record { item = item; site = site }) ≡ Pad footprint → site ≡ InFootprint footprint
unfolding thing_of is_pad
site_of_pad bytes item Root footprint e = absurd (false≢true (ap is_pad e))
site_of_pad bytes item OnBoard footprint e =
    absurd (false≢true (sym (no_pad (is_headed bytes (codes "layers") item) (is_headed bytes (codes "net") item) (is_headed bytes (codes "segment") item) (is_headed bytes (codes "arc") item)
    (is_headed bytes (codes "via") item) (is_headed bytes (codes "footprint") item) (is_headed bytes (codes "zone") item) (has_list bytes (codes "keepout") item)
    (head_begins bytes (codes "gr_") item || is_picture bytes item)) ∙ ap is_pad e))
site_of_pad bytes item (InFootprint f) footprint e =
    ap InFootprint (of_pad f footprint (is_headed bytes (codes "pad") item) (is_headed bytes (codes "zone") item) (head_begins bytes (codes "fp_") item || is_headed bytes (codes "image") item) e)

-- ---- its footprint stands on the board

record IsOnBoard (bytes : List ℕ) (root footprint : Item) : Type 0 where
  stands : IsOneOf (record { item = footprint; site = OnBoard }) (items_of_board bytes root)
  headed : is_headed bytes (codes "footprint") footprint ≡ true

record IsWithOwn (bytes : List ℕ) (list footprint : Item) : Type 0 where
  is : list ≡ footprint
  headed : is_headed bytes (codes "footprint") list ≡ true

own_of : (bytes : List ℕ) (list : Item) (p : Placed) (footprint : Item) → p.site ≡ InFootprint footprint → IsOneOf p (with_own bytes list) → IsWithOwn bytes list footprint
unfolding IsOneOf is_inside site_or
own_of bytes list p footprint s (inl e) = absurd (false≢true (sym (ap (λ (q : Placed). is_inside q.site) e) ∙ ap is_inside s))
own_of bytes list p footprint s (inr i) = by_head (is_headed bytes (codes "footprint") list) refl i
  where
    by_head : (b : Bool) → is_headed bytes (codes "footprint") list ≡ b → IsOneOf p (cond b (map (λ j. record { item = j; site = InFootprint list }) (lists_of list)) []) → IsWithOwn bytes list footprint
    by_head true h i =
        let r = one_of_map (λ (j : Item). record { item = j; site = InFootprint list }) p (lists_of list) i in
        record { is = sym (ap (λ (q : Placed). site_or list q.site) r.2) ∙ ap (site_or list) s; headed = h }
    by_head false h i = absurd i

on_board_of : (bytes : List ℕ) (root : Item) (p : Placed) (footprint : Item) → p.site ≡ InFootprint footprint → IsOneOf p (items_of_board bytes root) → IsOnBoard bytes root footprint
unfolding IsOneOf is_inside items_of_board
on_board_of bytes root p footprint s (inl e) = absurd (false≢true (sym (ap (λ (q : Placed). is_inside q.site) e) ∙ ap is_inside s))
on_board_of bytes root p footprint s (inr i) =
    let r = one_of_flat (with_own bytes) p (lists_of root) i in
    let o = own_of bytes r.0 p footprint s r.2 in
    subst (IsOnBoard bytes root) o.is (record { stands = inr (flat_one_of (with_own bytes) (record { item = r.0; site = OnBoard }) r.0 (lists_of root) r.1 (inl refl)); headed = o.headed })

record IsCut {A : Type 0} (x : A) (xs : List A) : Type 0 where
  before : List A
  behind : List A
  stands : xs ≡ before ++ x ∷ behind

cut_at : {A : Type 0} (x : A) (xs : List A) → IsOneOf x xs → IsCut x xs
unfolding IsOneOf
cut_at x [] i = absurd i
cut_at x (y ∷ ys) (inl e) = record { before = []; behind = ys; stands = ap (λ z. z ∷ ys) (sym e) }
cut_at x (y ∷ ys) (inr i) = let r = cut_at x ys i in record { before = y ∷ r.before; behind = r.behind; stands = ap (λ zs. y ∷ zs) r.stands }

pub footprint_fine : (c : Context) (root footprint : Item) (before behind : List Placed) (p : Placed) → AreSound c (items_of_board c.bytes root)
    → items_of_board c.bytes root ≡ before ++ p ∷ behind → thing_of c.bytes p ≡ Pad footprint → IsFine c.bytes footprint
unfolding IsOneOf kind_with thing_of
footprint_fine c root footprint before behind p sound e t =
    let i : IsOneOf p (items_of_board c.bytes root) = subst (λ (xs : List Placed). IsOneOf p xs) (sym e) (append_right p before (p ∷ behind) (inl refl)) in
    let b = on_board_of c.bytes root p footprint (site_of_pad c.bytes p.item p.site footprint t) i in
    let f : Placed = record { item = footprint; site = OnBoard } in
    let r = cut_at f (items_of_board c.bytes root) b.stands in
    let k = sound r.before r.behind f r.stands in
    footprint_sized c.bytes footprint (footprint_passed c footprint (sym (k.is_kind ∙ ap (kind_as c r.before f k.outline) (is_footprint c.bytes footprint b.headed))))
