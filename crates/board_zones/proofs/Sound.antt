-- Where nothing offends, the corners are an outline; and an outline in units is that of the corners.
use Rattle.std.proofs.Common.{◌≡◌, ℕ, ◌+◌, ◌*◌, ◌/◌, Bool, List, [], ◌∷◌, map, refl, sym, ap, ◌∙◌, subst, arith, Option, Some, None, is_some}
use Rattle.std.specs.Prelude.{ℤ, pos, negsuc, ◌*ℤ◌}
use Rattle.std.specs.Int.{int_div_euclid}
use Rattle.std.proofs.lemmas.Int.{ints}
use Rattle.std.proofs.lemmas.Bool.{false≢true}
use Rattle.grid_num.specs.declared.Point.{Point}
use Rattle.plane.specs.Units.{finer}
use Rattle.sexpr_text.specs.Items.{Item}
use Rattle.outline_slab.specs.declared.error.OutlineFault.{OutlineFault}
use Rattle.outline_slab.specs.Rules.{IsOutline}
use Rattle.board_text.specs.Items.{Context}
use Rattle.board_language.specs.Offences.{IsOutlineResult, bad_outline, zone_kind, zone_kinds, area_kind, area_kinds}
use Rattle.board_language.specs.Zones.{corners_read, corner_in_units}
use Rattle.board_language.proofs.NoneOffends.{none_at}
use Rattle.board_zones.specs.Kinds.{IsAreaWithoutOffence, IsZoneWithoutOffence}

-- ---- units

half : (z : ℤ) → int_div_euclid (pos 2 *ℤ z) (pos 2) ≡ z
half (pos n) = ap pos (even n)
  where
    even : (n : ℕ) → (2 * n) / 2 ≡ n
    even n = omega arith
half (negsuc n) =
    let e : pos 2 *ℤ negsuc n ≡ negsuc (2 * n + 1) = omega (arith, ints) in
    let d : (2 * n + 1) / 2 ≡ n = omega arith in
    ap (λ z. int_div_euclid z (pos 2)) e ∙ ap negsuc d

back : (us : List Point) → map corner_in_units (map (finer 2) us) ≡ us
back [] = refl
back (u ∷ us) =
    let x : int_div_euclid (pos 2 *ℤ u.x) (pos 2) ≡ u.x = half u.x in
    let y : int_div_euclid (pos 2 *ℤ u.y) (pos 2) ≡ u.y = half u.y in
    rw (x, y) (ap (λ vs. u ∷ vs) (back us))

pub units_of : (us cs ds : List Point) → map (finer 2) us ≡ cs → cs ≡ ds → us ≡ map corner_in_units ds
units_of us cs ds e g = sym (back us) ∙ ap (map corner_in_units) (e ∙ g)

-- ---- kinds

no_fault : (o : Option OutlineFault) → bad_outline o ≡ None → o ≡ None
no_fault None e = refl
no_fault (Some f) e = absurd (false≢true (sym (ap is_some e)))

pub sound_area : (c : Context) (zone : Item) → IsAreaWithoutOffence c zone → IsOutline (corners_read c.bytes zone)
unfolding area_kind
sound_area c zone h =
    let k = h.none in
    let e : bad_outline k.outline ≡ None = none_at 6 (area_kinds c zone k.outline h.double h.many) (sym k.is_kind) in
    subst (IsOutlineResult (corners_read c.bytes zone)) (no_fault k.outline e) k.is_outline

pub sound_zone : (c : Context) (zone : Item) → IsZoneWithoutOffence c zone → IsOutline (corners_read c.bytes zone)
unfolding zone_kind
sound_zone c zone h =
    let k = h.none in
    let e : bad_outline k.outline ≡ None = none_at 13 (zone_kinds c zone k.outline h.double h.many) (sym k.is_kind) in
    subst (IsOutlineResult (corners_read c.bytes zone)) (no_fault k.outline e) k.is_outline
