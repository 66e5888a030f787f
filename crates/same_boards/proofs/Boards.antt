-- Boards whose items have the same contents one by one are the same but for places, and offend alike.
use Rattle.std.proofs.Common.{◌≡◌, ◌∙◌, refl, ap, sym, subst, ℕ, ◌⊎◌, inl, inr, Bool, true, false, not, cond, ◌||◌, List, codes, Option, None, Some, is_some, option_map}
use Rattle.std.specs.Prelude.{filter_map, flat_map, sum_by, bytes_eq, if◌then◌else◌}
use Rattle.std.specs.List.{list_any}
use Rattle.std.proofs.lemmas.Bool.{false≢true, true≢false}
use Rattle.outline_slab.specs.declared.error.OutlineFault.{OutlineFault}
use Rattle.sexpr_text.specs.Items.{Item, is_headed}
use Rattle.board_text.specs.Fields.{head_begins, has_list}
use Rattle.board_text.specs.Numbers.{whole_number}
use Rattle.board_text.specs.Items.{Context, context_of, version_of}
use Rattle.board_text.specs.Things.{Placed, Site, Root, OnBoard, InFootprint, Thing, Board, Layers, Net, Track, CurvedTrack, Via, Footprint, RuleArea, Zone, Drawing, Pad, FootprintDrawing, FootprintZone, Other, is_picture, zone_thing, drawing_thing, on_board, thing_of, items_of_board}
use Rattle.board_language.specs.declared.offence.OffenceKind.{OffenceKind}
use Rattle.board_language.specs.declared.offence.OffenceKind.TheVariants as kinds
use Rattle.board_language.specs.declared.board.Rules.{Rules}
use Rattle.board_language.specs.Zones.{corners_read}
use Rattle.board_language.specs.Counts.{things_of, outlines_of, is_first_over, is_one_too_many}
use Rattle.board_language.specs.Offences.{when, first_kind, is_version, board_kind, net_kind, net_number, nets_among, is_double_net, is_declared_among, track_kind, via_kind, pad_kind, stamp_of_placed, stamps_among, is_double_stamp, is_stamped_among, zone_kind, area_kind, stamp_kind, drawing_kind, is_layers, has_layers, has_outline, kind_as, kind_with, IsOutlineResult, IsKindOf}
use Rattle.board_language.specs.Reading.{track_from, via_from, pad_from, zone_from, area_from, edges_from, board_in, board_of, AreSound, IsAccepted}
use Rattle.fill_rules.specs.Dirty.{unlined}
use Rattle.fill_rules.specs.Edits.{unplaced, unplaced_via}
use Rattle.text_shapes.specs.Seen.{ItemSeen}
use Rattle.same_boards.specs.Contents.{board_contents, HaveSameContents, AreSameAt, AreSamePlaced, AreSameItems, Each}
use Rattle.same_boards.specs.Alike.{unplaced_zone, AreAlike}
use Rattle.same_boards.specs.Laws.{SameBoardLaw, SameAcceptedLaw, SameItemsLaw, SoundItemsLaw}
use Rattle.same_boards.proofs.Each.{each_any, each_sum, each_given, each_given_map, each_flat, IsSplit, each_split}
use Rattle.same_boards.proofs.Fields.{both_or, both_cond, also, alone, two, Same, Weak, weak_of, has_two, headed_two, begins_two, value_two, own_stamp_two}
use Rattle.same_boards.proofs.Things as things
use Rattle.same_boards.proofs.Values.{AreTold, AreSameAs, pad_given, given, read_pad_told, read_zone_told, read_area_told, declared_told}
use Rattle.same_boards.proofs.Offending as offending
use Rattle.same_boards.proofs.Offending.{same}
use Rattle.same_boards.proofs.Roots.{Listed, listed_headed, listed_begins, listed_same, listed_weak, other_headed, root_headed, root_list, context_same, items_same}

-- ---- things

abbrev is_pad : Thing → Bool
is_pad (Pad f) = true
is_pad t = false

never_pad : (t : Thing) → is_pad t ≡ false → (f : Item) → t ≡ Pad f → ⊥
never_pad t h f e = true≢false (sym (ap is_pad e) ∙ h)

zone_chain : (l n t r v f z : Bool) (w x : Thing) → l ≡ false → n ≡ false → t ≡ false → r ≡ false → v ≡ false → f ≡ false → z ≡ true
    → (if l then Layers else (if n then Net else (if t then Track else (if r then CurvedTrack else (if v then Via else (if f then Footprint else (if z then w else x))))))) ≡ w
zone_chain l n t r v f z w x e1 e2 e3 e4 e5 e6 e7 = rw (e1, e2, e3, e4, e5, e6, e7) refl

pad_chain : (l n t r v f z k d : Bool)
    → is_pad (if l then Layers else (if n then Net else (if t then Track else (if r then CurvedTrack else (if v then Via else (if f then Footprint else (if z then cond k RuleArea Zone else cond d Drawing Other))))))) ≡ false
pad_chain true n t r v f z k d = refl
pad_chain false true t r v f z k d = refl
pad_chain false false true r v f z k d = refl
pad_chain false false false true v f z k d = refl
pad_chain false false false false true f z k d = refl
pad_chain false false false false false true z k d = refl
pad_chain false false false false false false true true d = refl
pad_chain false false false false false false true false d = refl
pad_chain false false false false false false false k true = refl
pad_chain false false false false false false false k false = refl

board_pad : (text : List ℕ) (i : Item) → is_pad (on_board text i) ≡ false
board_pad text i =
    pad_chain (is_headed text (codes "layers") i) (is_headed text (codes "net") i) (is_headed text (codes "segment") i) (is_headed text (codes "arc") i) (is_headed text (codes "via") i)
    (is_headed text (codes "footprint") i) (is_headed text (codes "zone") i) (has_list text (codes "keepout") i) (head_begins text (codes "gr_") i || is_picture text i)

-- ---- two boards with the same layers and nets
module _ (c d : Context) (k : c.copper ≡ d.copper) (n : c.nets ≡ d.nets) where
  -- the same thing, of the same contents
  abbrev IsSameThing : Item → Item → Thing → Thing → Type 0
  IsSameThing i j t u =
      ((t ≡ u) × (is_pad t ≡ false) × AreSameAs c d k t i j)
      ⊎ ((f : Item) × (g : Item) × (t ≡ Pad f) × (u ≡ Pad g) × Same c.bytes d.bytes f g × Same c.bytes d.bytes i j)

  same_as : (t : Thing) (i j : Item) → Same c.bytes d.bytes i j → AreSameAs c d k t i j
  same_as Board i j e = ap (λ (s : ItemSeen). board_contents s.inner) e
  same_as Layers i j e = e
  same_as Net i j e = e
  same_as Track i j e = e
  same_as CurvedTrack i j e = e
  same_as Via i j e = e
  same_as Footprint i j e = e
  same_as RuleArea i j e = weak_of c.bytes d.bytes i j e
  same_as Zone i j e = weak_of c.bytes d.bytes i j e
  same_as Drawing i j e = e
  same_as (Pad f) i j e = e
  same_as FootprintDrawing i j e = e
  same_as FootprintZone i j e = e
  same_as Other i j e = e

  picture_two : (i j : Item) → Listed c.bytes d.bytes i j → is_picture c.bytes i ≡ is_picture d.bytes j
  picture_two i j l =
      both_or (listed_headed c.bytes d.bytes (codes "dimension") i j l)
      (both_or (listed_headed c.bytes d.bytes (codes "target") i j l) (listed_headed c.bytes d.bytes (codes "image") i j l))

  zone_is : (text : List ℕ) (i : Item) → is_headed text (codes "zone") i ≡ true → on_board text i ≡ zone_thing text i
  zone_is text i h =
      zone_chain (is_headed text (codes "layers") i) (is_headed text (codes "net") i) (is_headed text (codes "segment") i) (is_headed text (codes "arc") i) (is_headed text (codes "via") i)
      (is_headed text (codes "footprint") i) (is_headed text (codes "zone") i) (zone_thing text i) (drawing_thing text i)
      (other_headed text text (codes "zone") (codes "layers") refl i h) (other_headed text text (codes "zone") (codes "net") refl i h) (other_headed text text (codes "zone") (codes "segment") refl i h)
      (other_headed text text (codes "zone") (codes "arc") refl i h) (other_headed text text (codes "zone") (codes "via") refl i h) (other_headed text text (codes "zone") (codes "footprint") refl i h) h

  zone_thing_same : (i j : Item) (p q : Bool) → p ≡ q → Weak c.bytes d.bytes i j → IsSameThing i j (cond p RuleArea Zone) (cond q RuleArea Zone)
  zone_thing_same i j true true e w = inl (refl, refl, w)
  zone_thing_same i j true false e w = absurd (true≢false e)
  zone_thing_same i j false true e w = absurd (false≢true e)
  zone_thing_same i j false false e w = inl (refl, refl, w)

  listed_thing : (i j : Item) (z : Bool) → is_headed c.bytes (codes "zone") i ≡ z → Listed c.bytes d.bytes i j → IsSameThing i j (on_board c.bytes i) (on_board d.bytes j)
  listed_thing i j true h l =
      let w = listed_weak c.bytes d.bytes i j l h in
      subst (λ t. IsSameThing i j t (on_board d.bytes j)) (sym (zone_is c.bytes i h))
      (subst (λ t. IsSameThing i j (zone_thing c.bytes i) t) (sym (zone_is d.bytes j (sym (listed_headed c.bytes d.bytes (codes "zone") i j l) ∙ h)))
      (zone_thing_same i j (has_list c.bytes (codes "keepout") i) (has_list d.bytes (codes "keepout") j) (has_two c.bytes d.bytes (codes "keepout") refl i j w) w))
  listed_thing i j false h l =
      let e = listed_same c.bytes d.bytes i j l h in
      let head = λ (name : List ℕ). listed_headed c.bytes d.bytes name i j l in
      inl (
        both_cond (head (codes "layers")) refl (both_cond (head (codes "net")) refl (both_cond (head (codes "segment")) refl (both_cond (head (codes "arc")) refl
            (both_cond (head (codes "via")) refl (both_cond (head (codes "footprint")) refl
            (both_cond (head (codes "zone")) (both_cond (has_two c.bytes d.bytes (codes "keepout") refl i j (weak_of c.bytes d.bytes i j e)) refl refl)
            (both_cond (both_or (listed_begins c.bytes d.bytes (codes "gr_") i j l) (picture_two i j l)) refl refl))))))),
        board_pad c.bytes i,
        same_as (on_board c.bytes i) i j e,
      )

  own_thing : (f g i j : Item) (p q y z u v : Bool) → p ≡ q → y ≡ z → u ≡ v → Same c.bytes d.bytes f g → Same c.bytes d.bytes i j
      → IsSameThing i j (if p then Pad f else (if y then FootprintZone else (if u then FootprintDrawing else Other))) (if q then Pad g else (if z then FootprintZone else (if v then FootprintDrawing else Other)))
  own_thing f g i j true true y z u v e1 e2 e3 s e = inr (f, g, refl, refl, s, e)
  own_thing f g i j true false y z u v e1 e2 e3 s e = absurd (true≢false e1)
  own_thing f g i j false true y z u v e1 e2 e3 s e = absurd (false≢true e1)
  own_thing f g i j false false y z u v e1 e2 e3 s e = inl (both_cond e2 refl (both_cond e3 refl refl), no_pad y u, same_as (if y then FootprintZone else (if u then FootprintDrawing else Other)) i j e)
    where
      no_pad : (y u : Bool) → is_pad (if y then FootprintZone else (if u then FootprintDrawing else Other)) ≡ false
      no_pad true u = refl
      no_pad false true = refl
      no_pad false false = refl

  thing_at : (i j : Item) (s t : Site) → AreSameAt c.bytes d.bytes i j s t → IsSameThing i j (thing_of c.bytes (record { item = i; site = s })) (thing_of d.bytes (record { item = j; site = t }))
  unfolding thing_of
  thing_at i j Root Root e = inl (refl, refl, e)
  thing_at i j OnBoard OnBoard e = listed_thing i j (is_headed c.bytes (codes "zone") i) refl e
  thing_at i j (InFootprint f) (InFootprint g) e =
      own_thing f g i j (is_headed c.bytes (codes "pad") i) (is_headed d.bytes (codes "pad") j) (is_headed c.bytes (codes "zone") i) (is_headed d.bytes (codes "zone") j)
      (head_begins c.bytes (codes "fp_") i || is_headed c.bytes (codes "image") i) (head_begins d.bytes (codes "fp_") j || is_headed d.bytes (codes "image") j)
      (headed_two c.bytes d.bytes (codes "pad") i j e.1) (headed_two c.bytes d.bytes (codes "zone") i j e.1)
      (both_or (begins_two c.bytes d.bytes (codes "fp_") i j e.1) (headed_two c.bytes d.bytes (codes "image") i j e.1)) e.0 e.1
  thing_at i j Root OnBoard e = absurd e
  thing_at i j Root (InFootprint g) e = absurd e
  thing_at i j OnBoard Root e = absurd e
  thing_at i j OnBoard (InFootprint g) e = absurd e
  thing_at i j (InFootprint f) Root e = absurd e
  thing_at i j (InFootprint f) OnBoard e = absurd e

  same_thing : (p q : Placed) → AreSamePlaced c.bytes d.bytes p q → IsSameThing p.item q.item (thing_of c.bytes p) (thing_of d.bytes q)
  same_thing p q e = thing_at p.item q.item p.site q.site e

  told_by : (i j : Item) (t u : Thing) → IsSameThing i j t u → AreTold c d k i j t u
  told_by i j t u (inl (e, h, s)) = subst (λ z. AreTold c d k i j t z) e (given c d k t i j (never_pad t h) s)
  told_by i j t u (inr (f, g, e, h, s, x)) =
      subst (λ z. AreTold c d k i j z u) (sym e) (subst (λ z. AreTold c d k i j (Pad f) z) (sym h) (pad_given c d k f g i j s x))

  -- the zones that lists of the boards are
  pub listed_zone : (i j : Item) → Listed c.bytes d.bytes i j
      → option_map unplaced_zone (zone_from c i (on_board c.bytes i)) ≡ option_map unplaced_zone (zone_from d j (on_board d.bytes j))
  listed_zone i j l = (told_by i j (on_board c.bytes i) (on_board d.bytes j) (listed_thing i j (is_headed c.bytes (codes "zone") i) refl l)).zone

  told : (p q : Placed) → AreSamePlaced c.bytes d.bytes p q → AreTold c d k p.item q.item (thing_of c.bytes p) (thing_of d.bytes q)
  told p q e = told_by p.item q.item (thing_of c.bytes p) (thing_of d.bytes q) (same_thing p q e)

  -- ---- the boards of items
  pub alike : (xs ys : List Placed) (rules : Rules) → AreSameItems c.bytes d.bytes xs ys → AreAlike (board_in c xs rules) (board_in d ys rules)
  alike xs ys rules h = record {
    layers = k;
    nets = n;
    tracks = each_given_map (AreSamePlaced c.bytes d.bytes) unplaced unplaced (λ p. track_from c p.item (thing_of c.bytes p)) (λ p. track_from d p.item (thing_of d.bytes p)) (λ p q e. (told p q e).track) xs ys h;
    vias = each_given_map (AreSamePlaced c.bytes d.bytes) unplaced_via unplaced_via (λ p. via_from c p.item (thing_of c.bytes p)) (λ p. via_from d p.item (thing_of d.bytes p)) (λ p q e. (told p q e).via) xs ys h;
    pads = each_given_map (AreSamePlaced c.bytes d.bytes) unlined unlined (λ p. pad_from c p.item (thing_of c.bytes p)) (λ p. pad_from d p.item (thing_of d.bytes p)) (λ p q e. (told p q e).pad) xs ys h;
    zones = each_given_map (AreSamePlaced c.bytes d.bytes) unplaced_zone unplaced_zone (λ p. zone_from c p.item (thing_of c.bytes p)) (λ p. zone_from d p.item (thing_of d.bytes p)) (λ p q e. (told p q e).zone) xs ys h;
    areas = each_given (AreSamePlaced c.bytes d.bytes) (λ p. area_from c p.item (thing_of c.bytes p)) (λ p. area_from d p.item (thing_of d.bytes p)) (λ p q e. (told p q e).area) xs ys h;
    edges = each_flat (AreSamePlaced c.bytes d.bytes) (λ p. edges_from c p.item (thing_of c.bytes p)) (λ p. edges_from d p.item (thing_of d.bytes p)) (λ p q e. (told p q e).edges) xs ys h;
    rules = refl;
  }

  -- ---- what stands before an item
  module _ (xs ys : List Placed) (h : AreSameItems c.bytes d.bytes xs ys) where
    stamps_same : stamps_among c.bytes xs ≡ stamps_among d.bytes ys
    unfolding stamps_among
    stamps_same = each_given (AreSamePlaced c.bytes d.bytes) (stamp_of_placed c.bytes) (stamp_of_placed d.bytes) (λ p q e. (told p q e).stamp) xs ys h

    nets_same : nets_among c.bytes xs ≡ nets_among d.bytes ys
    unfolding nets_among
    nets_same = each_given (AreSamePlaced c.bytes d.bytes) (net_number c.bytes) (net_number d.bytes) (λ p q e. (told p q e).net) xs ys h

    layers_same : has_layers c xs ≡ has_layers d ys
    layers_same = each_any (AreSamePlaced c.bytes d.bytes) (λ p. is_layers (thing_of c.bytes p)) (λ p. is_layers (thing_of d.bytes p)) (λ p q e. (told p q e).layers) xs ys h

    things_one : (p q : Placed) → AreSamePlaced c.bytes d.bytes p q → things_of c p ≡ things_of d q
    unfolding things_of
    things_one p q e = (told p q e).things

    outlines_one : (p q : Placed) → AreSamePlaced c.bytes d.bytes p q → outlines_of c p ≡ outlines_of d q
    unfolding outlines_of
    outlines_one p q e = (told p q e).outlines

    many_same : (p q : Placed) → AreSamePlaced c.bytes d.bytes p q → is_one_too_many c xs p ≡ is_one_too_many d ys q
    unfolding is_one_too_many
    many_same p q e =
        both_or (two (is_first_over 200000) (each_sum (AreSamePlaced c.bytes d.bytes) (things_of c) (things_of d) things_one xs ys h) (things_one p q e))
        (two (is_first_over 2000) (each_sum (AreSamePlaced c.bytes d.bytes) (outlines_of c) (outlines_of d) outlines_one xs ys h) (outlines_one p q e))

    double_stamp : (i j : Item) → Weak c.bytes d.bytes i j → is_double_stamp c xs i ≡ is_double_stamp d ys j
    double_stamp i j w = two is_stamped_among stamps_same (own_stamp_two c.bytes d.bytes i j w)

    double_net : (i j : Item) → Same c.bytes d.bytes i j → is_double_net c xs i ≡ is_double_net d ys j
    double_net i j e = two is_declared_among nets_same (declared_told c d k i j e)

    version_same : (i j : Item) → HaveSameContents c.bytes i d.bytes j → version_of c.bytes i ≡ version_of d.bytes j
    version_same i j e =
        value_two c.bytes d.bytes whole_number 0 0 (Rattle.board_text.specs.Fields.list_of c.bytes (codes "version") i) (Rattle.board_text.specs.Fields.list_of d.bytes (codes "version") j)
        (root_list c.bytes d.bytes i j e (codes "version") refl)

    some_same : {X Y Z : Type 0} (f : X → Z) (g : Y → Z) (o : Option X) (p : Option Y) → Rattle.std.specs.Prelude.option_map f o ≡ Rattle.std.specs.Prelude.option_map g p → is_some o ≡ is_some p
    some_same f g None None e = refl
    some_same f g None (Some y) e = ap is_some e
    some_same f g (Some x) None e = ap is_some e
    some_same f g (Some x) (Some y) e = refl

    board_same : (i j : Item) → HaveSameContents c.bytes i d.bytes j → board_kind c i ≡ board_kind d j
    unfolding board_kind
    board_same i j e =
        ap first_kind (also (ap (when kinds.NotBoard) (ap not (root_headed c.bytes d.bytes i j e (codes "kicad_pcb"))))
        (also (ap (λ v. when kinds.Version (not (is_version v))) (version_same i j e))
        (alone (ap (when kinds.MissingPart) (ap not (some_same (Rattle.text_shapes.specs.Seen.item_seen c.bytes) (Rattle.text_shapes.specs.Seen.item_seen d.bytes)
        (Rattle.board_text.specs.Fields.list_of c.bytes (codes "layers") i) (Rattle.board_text.specs.Fields.list_of d.bytes (codes "layers") j)
        (root_list c.bytes d.bytes i j e (codes "layers") refl)))))))

    -- ---- how an item offends behind them
    module _ (p q : Placed) (many : is_one_too_many c xs p ≡ is_one_too_many d ys q) (o : Option OutlineFault) where
      kind_same : (t : Thing) → is_pad t ≡ false → AreSameAs c d k t p.item q.item → kind_as c xs p o t ≡ kind_as d ys q o t
      kind_same Board h e = board_same p.item q.item e
      kind_same Layers h e = both_cond layers_same refl (offending.layers_told c d k n p.item q.item e)
      kind_same Net h e =
          offending.net_told c d k n p.item q.item (is_double_net c xs p.item) (is_one_too_many c xs p) e ∙ two (net_kind d q.item) (double_net p.item q.item e) many
      kind_same Track h e =
          let w = weak_of c.bytes d.bytes p.item q.item e in
          offending.track_told c d k n p.item q.item (is_double_stamp c xs p.item) (is_one_too_many c xs p) w ∙ two (track_kind d q.item) (double_stamp p.item q.item w) many
      kind_same CurvedTrack h e = refl
      kind_same Via h e =
          let w = weak_of c.bytes d.bytes p.item q.item e in
          offending.via_told c d k n p.item q.item (is_double_stamp c xs p.item) (is_one_too_many c xs p) w ∙ two (via_kind d q.item) (double_stamp p.item q.item w) many
      kind_same Footprint h e = offending.footprint_told c d k n p.item q.item e
      kind_same RuleArea h w =
          both_cond (read_area_told c d k p.item q.item w)
          (offending.area_told c d k n p.item q.item o (is_double_stamp c xs p.item) (is_one_too_many c xs p) w ∙ two (area_kind d q.item o) (double_stamp p.item q.item w) many)
          (ap stamp_kind (double_stamp p.item q.item w))
      kind_same Zone h w =
          both_cond (read_zone_told c d k p.item q.item w)
          (offending.zone_told c d k n p.item q.item o (is_double_stamp c xs p.item) (is_one_too_many c xs p) w ∙ two (zone_kind d q.item o) (double_stamp p.item q.item w) many)
          (ap stamp_kind (double_stamp p.item q.item w))
      kind_same Drawing h e = offending.drawing_told c d k n p.item q.item (is_one_too_many c xs p) e ∙ ap (drawing_kind d q.item) many
      kind_same (Pad f) h e = absurd (true≢false h)
      kind_same FootprintDrawing h e = offending.footprint_drawing_told c d k n p.item q.item e
      kind_same FootprintZone h e = refl
      kind_same Other h e = refl

      kind_of_pad : (f g : Item) → Same c.bytes d.bytes f g → Same c.bytes d.bytes p.item q.item → kind_as c xs p o (Pad f) ≡ kind_as d ys q o (Pad g)
      kind_of_pad f g s e =
          both_cond (read_pad_told c d k p.item q.item e)
          (offending.pad_told c d k n f g p.item q.item (is_one_too_many c xs p) s e ∙ ap (pad_kind d g q.item) many) refl

      kind_by : (t u : Thing) → IsSameThing p.item q.item t u → kind_as c xs p o t ≡ kind_as d ys q o u
      kind_by t u (inl (e, h, s)) = kind_same t h s ∙ ap (kind_as d ys q o) e
      kind_by t u (inr (f, g, e, h, s, x)) = ap (kind_as c xs p o) e ∙ kind_of_pad f g s x ∙ ap (kind_as d ys q o) (sym h)

    corners_of : (i j : Item) (t : Thing) → AreSameAs c d k t i j → has_outline c i t ≡ true → corners_read c.bytes i ≡ corners_read d.bytes j
    corners_of i j Board e h = absurd (false≢true h)
    corners_of i j Layers e h = absurd (false≢true h)
    corners_of i j Net e h = absurd (false≢true h)
    corners_of i j Track e h = absurd (false≢true h)
    corners_of i j CurvedTrack e h = absurd (false≢true h)
    corners_of i j Via e h = absurd (false≢true h)
    corners_of i j Footprint e h = absurd (false≢true h)
    corners_of i j RuleArea w h = things.corners_read_two c.bytes d.bytes i j w
    corners_of i j Zone w h = things.corners_read_two c.bytes d.bytes i j w
    corners_of i j Drawing e h = absurd (false≢true h)
    corners_of i j (Pad f) e h = absurd (false≢true h)
    corners_of i j FootprintDrawing e h = absurd (false≢true h)
    corners_of i j FootprintZone e h = absurd (false≢true h)
    corners_of i j Other e h = absurd (false≢true h)

    corners_by : (i j : Item) (t u : Thing) → IsSameThing i j t u → has_outline c i t ≡ true → corners_read c.bytes i ≡ corners_read d.bytes j
    corners_by i j t u (inl (e, x, s)) h = corners_of i j t s h
    corners_by i j t u (inr (f, g, e, x, s, y)) h = absurd (false≢true (sym (ap (has_outline c i) e) ∙ h))

    pub offends_alike : (p q : Placed) → AreSamePlaced c.bytes d.bytes p q → (kind : Option OffenceKind) → IsKindOf c xs p kind → IsKindOf d ys q kind
    unfolding kind_with
    offends_alike p q e kind w = record {
      outline = w.outline;
      is_outline = λ t.
          let there : has_outline c p.item (thing_of c.bytes p) ≡ true = (told p q e).outline ∙ t in
          subst (λ ps. IsOutlineResult ps w.outline) (corners_by p.item q.item (thing_of c.bytes p) (thing_of d.bytes q) (same_thing p q e) there) (w.is_outline there);
      is_kind = w.is_kind ∙ kind_by p q (many_same p q e) w.outline (thing_of c.bytes p) (thing_of d.bytes q) (same_thing p q e);
    }

  pub sound_alike : (xs ys : List Placed) → AreSameItems c.bytes d.bytes xs ys → AreSound c xs → AreSound d ys
  sound_alike xs ys h sound before after q e =
      let s : IsSplit (AreSamePlaced c.bytes d.bytes) xs before q = each_split (AreSamePlaced c.bytes d.bytes) xs before after q (subst (λ zs. Each (AreSamePlaced c.bytes d.bytes) xs zs) e h) in
      offends_alike s.front before s.before_each s.element q s.related None (sound s.front s.back s.element s.stands)

pub same_items : SameItemsLaw
same_items c d xs ys rules s h = alike c d s.copper s.nets xs ys rules h

pub sound_items : SoundItemsLaw
sound_items c d xs ys s h = sound_alike c d s.copper s.nets xs ys h

text_is : (text : List ℕ) (root : Item) → (context_of text root).bytes ≡ text
unfolding context_of
text_is text root = refl

pub same_board : SameBoardLaw
unfolding board_of context_of
same_board a b r s rules e = same_items (context_of a r) (context_of b s) (items_of_board a r) (items_of_board b s) rules (context_same a b r s e) (items_same a b r s e)

pub same_accepted : SameAcceptedLaw
unfolding IsAccepted context_of
same_accepted a b r s e h = sound_items (context_of a r) (context_of b s) (items_of_board a r) (items_of_board b s) (context_same a b r s e) (items_same a b r s e) h
