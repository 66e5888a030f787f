-- Pads of an accepted board.
use Rattle.std.proofs.Common.{◌≡◌, refl, sym, subst, ◌∙◌, ℕ, ◌≤◌, inl, arith, Bool, true, false, cond, List, [], ◌∷◌, ◌||◌, length, Option, None, Some}
use Rattle.std.specs.Prelude.{ℤ, pos, negsuc, nat_lt, codes, ◌==◌, unwrap_or}
use Rattle.std.specs.Option.{option_or}
use Rattle.std.specs.Int.RustNames.{unsigned_abs}
use Rattle.std.proofs.lemmas.Int.{ints}
use Rattle.std.proofs.lemmas.Bool.Decides.{nat_tests}
use Rattle.grid_num.specs.declared.read.NumFault.TheVariants.{OutOfRange}
use Rattle.classes.specs.Classes.{IsOneOf}
use Rattle.sexpr_text.specs.Items.{Item}
use Rattle.cores.specs.Room.{IsNearZero}
use Rattle.hulls.proofs.Pads.{one_hull_law}
use Rattle.outline_slab.specs.declared.error.OutlineFault.{OutlineFault}
use Rattle.board_language.specs.declared.board.Pad as pads
use Rattle.board_text.specs.Fields.{list_of}
use Rattle.board_text.specs.Numbers.{point_fault, length_fault_at, whole_fault_at, ratio_fault_at, length_at}
use Rattle.board_text.specs.Things.{Placed, Thing, Pad, thing_of, items_of_board}
use Rattle.board_text.specs.Items.{Context, size_of, length_in, is_no_length, is_no_size}
use Rattle.board_language.specs.Pads.{is_read_pad, pad_place, is_far, place_fault, drill_fault, bridge_list, some_length, own_length, ratio_in, size_on_board, pad_of, pad_fault}
use Rattle.board_language.specs.Counts.{is_one_too_many}
use Rattle.board_language.specs.Offences.{pad_is_bad, is_bad_ratio, has_bad_drill, is_bad_connect, pad_kind, kind_as}
use Rattle.board_language.specs.Reading.{AreSound, pad_from}
use Rattle.board_language.specs.Copper.{pad_hulls, HasPad}
use Rattle.board_language.proofs.Centres.{centred}
use Rattle.board_language.specs.Facts.{IsPlaceInReach, HasOneHull, IsSoundPad}
use Rattle.board_facts.proofs.Layers.{set_below}
use Rattle.board_facts.proofs.Footprints.{IsFine, footprint_fine}
use Rattle.board_facts.proofs.Shapes.{size_small, ratio_small, shape_small}
use Rattle.board_facts.proofs.Tracks.{length_read}
use Rattle.board_facts.proofs.Copper.{shape_pad}
use Rattle.board_facts.proofs.Passed.{no_some, of_some, or_front, or_back, no_fault_at, IsPassedPad, pad_passed}
use Rattle.board_facts.proofs.Tried.{IsTried}

-- ---- the place

no_more : (n : ℕ) → nat_lt 500000000 n ≡ false → n ≤ 500000000
no_more n e = grind (arith, nat_tests)

abs_near : (z : ℤ) → unsigned_abs z ≤ 500000000 → IsNearZero 500000000 z
abs_near (pos n) h = record { low = omega (arith, ints); high = omega (arith, ints, h) }
abs_near (negsuc n) h = record { low = omega (arith, ints, h); high = omega (arith, ints) }

not_far : (z : ℤ) → is_far z ≡ false → IsNearZero 500000000 z
not_far z e = abs_near z (no_more (unsigned_abs z) e)

no_fault : (b : Bool) → cond b (Some OutOfRange) None ≡ None → b ≡ false
no_fault true e = no_some OutOfRange (sym e)
no_fault false e = refl

place_near : (bytes : List ℕ) (footprint pad : Item) → pad_fault bytes footprint pad ≡ None → IsPlaceInReach (pad_place bytes footprint pad)
unfolding pad_fault
place_near bytes footprint pad e =
    let ks =
    point_fault bytes (list_of bytes (codes "at") pad)
    ∷ place_fault bytes footprint pad
    ∷ point_fault bytes (list_of bytes (codes "size") pad)
    ∷ drill_fault bytes pad
    ∷ whole_fault_at bytes 0 (list_of bytes (codes "net") pad)
    ∷ ratio_fault_at bytes 0 (list_of bytes (codes "roundrect_rratio") pad)
    ∷ length_fault_at bytes 0 (list_of bytes (codes "clearance") pad)
    ∷ whole_fault_at bytes 0 (list_of bytes (codes "zone_connect") pad)
    ∷ length_fault_at bytes 0 (list_of bytes (codes "thermal_gap") pad)
    ∷ length_fault_at bytes 0 (bridge_list bytes pad)
    ∷ [] in
    let f = no_fault (is_far (pad_place bytes footprint pad).x || is_far (pad_place bytes footprint pad).y) (no_fault_at 1 ks e) in
    record {
      x = not_far (pad_place bytes footprint pad).x (or_front (is_far (pad_place bytes footprint pad).x) (is_far (pad_place bytes footprint pad).y) f);
      y = not_far (pad_place bytes footprint pad).y (or_back (is_far (pad_place bytes footprint pad).x) (is_far (pad_place bytes footprint pad).y) f);
    }

-- ---- lengths that the pad says, or its footprint

abbrev IsOwn : Option ℕ → Type 0
IsOwn o = unwrap_or o 0 ≤ 100000000

own_read : (z : ℤ) → is_no_length z ≡ false → IsOwn (some_length z)
own_read z h = by_test (size_of z == 0) (length_read z h)
  where
    by_test : (b : Bool) → size_of z ≤ 100000000 → IsOwn (cond b None (Some (size_of z)))
    by_test true l = omega arith
    by_test false l = l

either : (a b : Option ℕ) → IsOwn a → IsOwn b → IsOwn (option_or a b)
either None b h g = g
either (Some n) b h g = h

-- what is right with the sizes of a pad
record IsFinePad (bytes : List ℕ) (pad : Item) : Type 0 where
  width : is_no_size (length_at bytes 0 (list_of bytes (codes "size") pad)) ≡ false
  height : is_no_size (length_at bytes 1 (list_of bytes (codes "size") pad)) ≡ false
  drill : has_bad_drill bytes pad ≡ false
  ratio : is_bad_ratio (ratio_in bytes pad) ≡ false
  clearance : is_no_length (length_in bytes (codes "clearance") pad) ≡ false
  gap : is_no_length (length_in bytes (codes "thermal_gap") pad) ≡ false
  bridge : is_no_length (length_at bytes 0 (bridge_list bytes pad)) ≡ false

pad_fine : (bytes : List ℕ) (pad : Item) → pad_is_bad bytes pad ≡ false → IsFinePad bytes pad
pad_fine bytes pad e =
    by_tests (is_no_size (length_at bytes 0 (list_of bytes (codes "size") pad))) (is_no_size (length_at bytes 1 (list_of bytes (codes "size") pad))) (has_bad_drill bytes pad)
    (is_bad_ratio (ratio_in bytes pad)) (is_no_length (length_in bytes (codes "clearance") pad)) (is_no_length (length_in bytes (codes "thermal_gap") pad))
    (is_no_length (length_at bytes 0 (bridge_list bytes pad))) (is_bad_connect bytes pad) refl refl refl refl refl refl refl e
  where
    by_tests : (a b d f g i j k : Bool) → is_no_size (length_at bytes 0 (list_of bytes (codes "size") pad)) ≡ a → is_no_size (length_at bytes 1 (list_of bytes (codes "size") pad)) ≡ b
        → has_bad_drill bytes pad ≡ d → is_bad_ratio (ratio_in bytes pad) ≡ f → is_no_length (length_in bytes (codes "clearance") pad) ≡ g
        → is_no_length (length_in bytes (codes "thermal_gap") pad) ≡ i → is_no_length (length_at bytes 0 (bridge_list bytes pad)) ≡ j
        → (a || (b || (d || (f || ((g || (i || false)) || (j || k)))))) ≡ false → IsFinePad bytes pad
    by_tests a b d f g i j k ea eb ed ef eg ei ej e =
        let e1 = or_back a (b || (d || (f || ((g || (i || false)) || (j || k))))) e in
        let e2 = or_back b (d || (f || ((g || (i || false)) || (j || k)))) e1 in
        let e3 = or_back d (f || ((g || (i || false)) || (j || k))) e2 in
        let e4 = or_back f ((g || (i || false)) || (j || k)) e3 in
        let e5 = or_front (g || (i || false)) (j || k) e4 in
        let e6 = or_back (g || (i || false)) (j || k) e4 in
        record {
          width = ea ∙ or_front a _ e;
          height = eb ∙ or_front b _ e1;
          drill = ed ∙ or_front d _ e2;
          ratio = ef ∙ or_front f _ e3;
          clearance = eg ∙ or_front g (i || false) e5;
          gap = ei ∙ or_front i false (or_back g (i || false) e5);
          bridge = ej ∙ or_front j k e6;
        }

-- ---- the pad

pad_has : (c : Context) (footprint pad : Item) → HasPad (pad_of c footprint pad)
unfolding pad_of
pad_has c footprint pad =
    let s = shape_pad c.bytes pad (pad_place c.bytes footprint pad) (size_on_board c.bytes pad) in
    record { core = s.core; centre = s.centre }

single : {X : Type 0} (xs : List X) → length xs ≡ 1 → (x : X) × (xs ≡ x ∷ [])
single [] e = absurd (omega (arith, e))
single (x ∷ []) e = (x, refl)
single (x ∷ y ∷ xs) e = absurd (omega (arith, e))

hull_one : (p : pads.Pad) → HasPad p → HasOneHull p
unfolding pad_hulls IsOneOf
hull_one p h =
    let s = single (pad_hulls p) (one_hull_law p.shape.core p.shape.radius h.core) in
    record { hull = s.0; only = s.1; centre = centred p h s.0 (subst (IsOneOf s.0) (sym s.1) (inl refl)) }

pad_sized : (c : Context) (footprint pad : Item) (many : Bool) → IsFine c.bytes footprint → IsPassedPad c.bytes footprint pad many → IsSoundPad (length c.copper) (pad_of c footprint pad)
unfolding pad_of
pad_sized c footprint pad many w passed =
    let v = pad_fine c.bytes pad passed.sizes in
    let has = pad_has c footprint pad in
    let near = place_near c.bytes footprint pad passed.numbers in
    record {
      at = near;
      pad = has;
      hull = hull_one (pad_of c footprint pad) has;
      shape = shape_small c.bytes pad (pad_place c.bytes footprint pad) (size_on_board c.bytes pad) near (size_small c.bytes pad v.width v.height v.drill) (ratio_small (ratio_in c.bytes pad) v.ratio);
      clearance = either (own_length c.bytes (codes "clearance") pad) (own_length c.bytes (codes "clearance") footprint) (own_read (length_in c.bytes (codes "clearance") pad) v.clearance) (own_read (length_in c.bytes (codes "clearance") footprint) w.clearance);
      gap = either (own_length c.bytes (codes "thermal_gap") pad) (own_length c.bytes (codes "thermal_gap") footprint) (own_read (length_in c.bytes (codes "thermal_gap") pad) v.gap) (own_read (length_in c.bytes (codes "thermal_gap") footprint) w.gap);
      bridge = either (some_length (length_at c.bytes 0 (bridge_list c.bytes pad))) (own_length c.bytes (codes "thermal_width") footprint)
          (own_read (length_at c.bytes 0 (bridge_list c.bytes pad)) v.bridge) (own_read (length_in c.bytes (codes "thermal_width") footprint) w.width);
      among = set_below c.bytes c.copper (list_of c.bytes (codes "layers") pad);
    }

pad_by : (c : Context) (before : List Placed) (p : Placed) (outline : Option OutlineFault) (y : pads.Pad) (t : Thing) → ((footprint : Item) → t ≡ Pad footprint → IsFine c.bytes footprint)
    → pad_from c p.item t ≡ Some y → None ≡ kind_as c before p outline t → IsSoundPad (length c.copper) y
pad_by c before p outline y (Pad footprint) w e k = by_read (is_read_pad c p.item) e k
  where
    by_read : (b : Bool) → cond b (Some (pad_of c footprint p.item)) None ≡ Some y → None ≡ cond b (pad_kind c footprint p.item (is_one_too_many c before p)) None → IsSoundPad (length c.copper) y
    by_read true e k = subst (IsSoundPad (length c.copper)) (of_some (pad_of c footprint p.item) y e) (pad_sized c footprint p.item (is_one_too_many c before p) (w footprint refl) (pad_passed c footprint p.item (is_one_too_many c before p) (sym k)))
    by_read false e k = no_some y e
pad_by c before p outline y _ w e k = no_some y e

pub pad_read : (c : Context) (root : Item) (y : pads.Pad) → AreSound c (items_of_board c.bytes root) → IsTried c (items_of_board c.bytes root) pad_from y → IsSoundPad (length c.copper) y
pad_read c root y sound r =
    pad_by c r.before r.item r.outline y (thing_of c.bytes r.item) (λ footprint t. footprint_fine c root footprint r.before r.behind r.item sound r.stands t) r.got r.none
