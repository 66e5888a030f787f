-- Zones and rule areas of an accepted board.
use Rattle.std.proofs.Common.{◌≡◌, refl, sym, subst, ℕ, ◌≤◌, arith, Bool, true, false, cond, List, ◌||◌, length, Option, None, Some}
use Rattle.std.specs.Prelude.{nat_lt}
use Rattle.std.proofs.lemmas.Bool.{true≢false}
use Rattle.std.proofs.lemmas.Bool.Decides.{nat_tests}
use Rattle.sexpr_text.specs.Items.{Item}
use Rattle.outline_slab.specs.Rules.{IsOutline}
use Rattle.outline_slab.specs.declared.error.OutlineFault.{OutlineFault}
use Rattle.board_language.specs.declared.board.Zone as zones
use Rattle.board_language.specs.declared.board.Area as areas
use Rattle.board_text.specs.Layers.{meant_in, layer_set}
use Rattle.board_text.specs.Things.{Placed, Thing, RuleArea, Zone, thing_of}
use Rattle.board_text.specs.Items.{Context, size_of, is_no_length}
use Rattle.board_language.specs.Counts.{is_one_too_many}
use Rattle.board_language.specs.Zones.{layer_list, is_read_zone, is_read_area, clearance_in, thickness_in, gap_in, bridge_in, mode_in, island_area_in, islands_in, corners_read, zone_of, area_of}
use Rattle.board_language.specs.Offences.{IsOutlineResult, has_outline, zone_kind, area_kind, stamp_kind, is_double_stamp, kind_as}
use Rattle.board_language.specs.Reading.{zone_from, area_from}
use Rattle.board_language.specs.Facts.{IsSoundZone, IsSoundArea}
use Rattle.board_facts.proofs.Tracks.{length_read}
use Rattle.board_facts.proofs.Passed.{no_some, of_some, IsPassedOutline, IsPassedZone, zone_passed, area_passed}
use Rattle.board_facts.proofs.Layers.{set_below, on_layer}
use Rattle.board_facts.proofs.Outlines.{outline_sound}
use Rattle.board_facts.proofs.IslandModes.{mode_near, island_area_near}
use Rattle.board_facts.proofs.Tried.{IsTried}

-- ---- zones

no_less : (n : ℕ) → nat_lt n 1000 ≡ false → 1000 ≤ n
no_less n e = grind (arith, nat_tests)

record AreLengths (a b c d : Bool) : Type 0 where
  first : a ≡ false
  second : b ≡ false
  third : c ≡ false
  fourth : d ≡ false

four : (a b c d : Bool) → (a || (b || (c || (d || false)))) ≡ false → AreLengths a b c d
four false false false false e = record { first = refl; second = refl; third = refl; fourth = refl }
four true b c d e = absurd (true≢false e)
four false true c d e = absurd (true≢false e)
four false false true d e = absurd (true≢false e)
four false false false true e = absurd (true≢false e)

zone_sized : (c : Context) (zone : Item) (outline : Option OutlineFault) (double many : Bool) → is_read_zone c zone ≡ true → IsPassedZone c zone outline double many
    → IsOutline (corners_read c.bytes zone) → IsSoundZone (length c.copper) (zone_of c zone)
unfolding zone_of layer_set islands_in
zone_sized c zone outline double many read h o =
    let f = four (is_no_length (clearance_in c.bytes zone)) (is_no_length (thickness_in c.bytes zone)) (is_no_length (gap_in c.bytes zone)) (is_no_length (bridge_in c.bytes zone)) h.lengths in
    record {
      thick = no_less (size_of (thickness_in c.bytes zone)) h.thick;
      thin = length_read (thickness_in c.bytes zone) f.second;
      clearance = length_read (clearance_in c.bytes zone) f.first;
      gap = length_read (gap_in c.bytes zone) f.third;
      bridge = length_read (bridge_in c.bytes zone) f.fourth;
      islands = mode_near (mode_in c.bytes zone) (island_area_in c.bytes zone) (island_area_near c.bytes zone);
      layered = on_layer c.copper (meant_in c.bytes c.copper (layer_list c.bytes zone)) read h.both.known;
      among = set_below c.bytes c.copper (layer_list c.bytes zone);
      outline = outline_sound c.bytes zone o h.both.short;
    }

zone_by : (c : Context) (before : List Placed) (p : Placed) (outline : Option OutlineFault) (z : zones.Zone) (t : Thing) → zone_from c p.item t ≡ Some z
    → (has_outline c p.item t ≡ true → IsOutlineResult (corners_read c.bytes p.item) outline) → None ≡ kind_as c before p outline t → IsSoundZone (length c.copper) z
zone_by c before p outline z Zone e o k = by_read (is_read_zone c p.item) refl e k
  where
    by_read : (b : Bool) → is_read_zone c p.item ≡ b → cond b (Some (zone_of c p.item)) None ≡ Some z
        → None ≡ cond b (zone_kind c p.item outline (is_double_stamp c before p.item) (is_one_too_many c before p)) (stamp_kind (is_double_stamp c before p.item)) → IsSoundZone (length c.copper) z
    by_read true h e k =
        let passed = zone_passed c p.item outline (is_double_stamp c before p.item) (is_one_too_many c before p) (sym k) in
        subst (IsSoundZone (length c.copper)) (of_some (zone_of c p.item) z e)
        (zone_sized c p.item outline (is_double_stamp c before p.item) (is_one_too_many c before p) h passed (subst (IsOutlineResult (corners_read c.bytes p.item)) passed.both.right (o h)))
    by_read false h e k = no_some z e
zone_by c before p outline z _ e o k = no_some z e

pub zone_read : (c : Context) (items : List Placed) (z : zones.Zone) → IsTried c items zone_from z → IsSoundZone (length c.copper) z
zone_read c items z r = zone_by c r.before r.item r.outline z (thing_of c.bytes r.item) r.got r.is_outline r.none

-- ---- rule areas

area_sized : (c : Context) (zone : Item) (outline : Option OutlineFault) (double many : Bool) → IsPassedOutline c zone outline double many → IsOutline (corners_read c.bytes zone)
    → IsSoundArea (length c.copper) (area_of c zone)
unfolding area_of
area_sized c zone outline double many h o = record { among = set_below c.bytes c.copper (layer_list c.bytes zone); outline = outline_sound c.bytes zone o h.short }

area_by : (c : Context) (before : List Placed) (p : Placed) (outline : Option OutlineFault) (a : areas.Area) (t : Thing) → area_from c p.item t ≡ Some a
    → (has_outline c p.item t ≡ true → IsOutlineResult (corners_read c.bytes p.item) outline) → None ≡ kind_as c before p outline t → IsSoundArea (length c.copper) a
area_by c before p outline a RuleArea e o k = by_read (is_read_area c p.item) refl e k
  where
    by_read : (b : Bool) → is_read_area c p.item ≡ b → cond b (Some (area_of c p.item)) None ≡ Some a
        → None ≡ cond b (area_kind c p.item outline (is_double_stamp c before p.item) (is_one_too_many c before p)) (stamp_kind (is_double_stamp c before p.item)) → IsSoundArea (length c.copper) a
    by_read true h e k =
        let passed = area_passed c p.item outline (is_double_stamp c before p.item) (is_one_too_many c before p) (sym k) in
        subst (IsSoundArea (length c.copper)) (of_some (area_of c p.item) a e)
        (area_sized c p.item outline (is_double_stamp c before p.item) (is_one_too_many c before p) passed (subst (IsOutlineResult (corners_read c.bytes p.item)) passed.right (o h)))
    by_read false h e k = no_some a e
area_by c before p outline a _ e o k = no_some a e

pub area_read : (c : Context) (items : List Placed) (a : areas.Area) → IsTried c items area_from a → IsSoundArea (length c.copper) a
area_read c items a r = area_by c r.before r.item r.outline a (thing_of c.bytes r.item) r.got r.is_outline r.none
