-- Each gap has four spokes, and each pad that is joined by spokes one gap.
use Rattle.std.proofs.Common.{◌≡◌, ◌∙◌, refl, sym, ap, ℕ, ◌+◌, ◌*◌, arith, Bool, true, false, List, [], ◌∷◌, length, flat_map}
use Rattle.std.specs.Prelude.{ℤ, pos}
use Rattle.std.proofs.lemmas.List.{length-map, length-append}
use Rattle.plane.specs.Plane.{Bounds}
use Rattle.hulls.specs.Cells.{floor_of}
use Rattle.board_language.specs.declared.board.Pad.{Pad}
use Rattle.board_language.specs.Copper.{pad_hulls}
use Rattle.board_language.specs.Facts.{IsSoundPad}
use Rattle.board_language.proofs.Members.{all_one_of}
use Rattle.fill_rules.specs.Tasks.{Settings}
use Rattle.fill_rules.specs.Needs.{at_need, keep_when}
use Rattle.fill_rules.specs.Reliefs.{brush_radius, half_bridge, is_thermal, gap_of, thermal_needs, spokes_by, pad_spokes, spokes_of}
use Rattle.knockouts.specs.Gaps.{GapsLaw, OneGapLaw}

four_each : (x y b h r : ℤ) (hs : List Bounds) → length (flat_map (spokes_by x y b h r) hs) ≡ 4 * length hs
four_each x y b h r [] = refl
four_each x y b h r (o ∷ os) = let e = four_each x y b h r os in omega (arith, e)

pad_four : (z : Settings) (p : Pad) → length (pad_spokes z p) ≡ 4 * length (at_need (gap_of z p) (pad_hulls p))
unfolding pad_spokes
pad_four z p =
    four_each (floor_of 2 p.at.x) (floor_of 2 p.at.y) (pos (brush_radius z)) (pos (half_bridge z p)) (pos (gap_of z p + brush_radius z)) (pad_hulls p)
    ∙ ap (λ n. 4 * n) (sym (length-map (pad_hulls p) (λ (o : Bounds). record { oct = o; need = gap_of z p })))

when_four : (c : Bool) (z : Settings) (p : Pad) → length (keep_when c (pad_spokes z p)) ≡ 4 * length (keep_when c (at_need (gap_of z p) (pad_hulls p)))
when_four true z p = pad_four z p
when_four false z p = refl

pads_four : (z : Settings) (l : ℕ) (ps : List Pad) → length (flat_map (λ (p : Pad). keep_when (is_thermal z l p) (pad_spokes z p)) ps)
    ≡ 4 * length (flat_map (λ (p : Pad). keep_when (is_thermal z l p) (at_need (gap_of z p) (pad_hulls p))) ps)
pads_four z l [] = refl
pads_four z l (p ∷ ps) =
    let e = when_four (is_thermal z l p) z p in
    let f = pads_four z l ps in
    let a = length-append (keep_when (is_thermal z l p) (pad_spokes z p)) (flat_map (λ (q : Pad). keep_when (is_thermal z l q) (pad_spokes z q)) ps) in
    let b = length-append (keep_when (is_thermal z l p) (at_need (gap_of z p) (pad_hulls p))) (flat_map (λ (q : Pad). keep_when (is_thermal z l q) (at_need (gap_of z q) (pad_hulls q))) ps) in
    omega (arith, e, f, a, b)

pub gaps_law : GapsLaw
unfolding spokes_of thermal_needs
gaps_law b z l = pads_four z l b.pads

pub one_gap_law : OneGapLaw
one_gap_law b s z l p i =
    let h = (all_one_of (IsSoundPad (length b.layers)) b.pads p s.pads i).hull in
    (h, ap (λ (os : List Bounds). keep_when (is_thermal z l p) (at_need (gap_of z p) os)) h.only)
