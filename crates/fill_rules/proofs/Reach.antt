-- A higher task that does not reach a task changes nothing in its fill.
use Rattle.std.proofs.Common.{◌≡◌, refl, sym, ◌∙◌, ap, subst, ℕ, zero, suc, ◌+◌, ◌≤◌, ◌<◌, inl, inr, arith, lit≤, List, [], ◌∷◌, get_or, length}
use Rattle.std.specs.Prelude.{ℤ, pos, ◌+ℤ◌, ◌≤ℤ◌, ◌<ℤ◌, ◌↔◌}
use Rattle.std.proofs.lemmas.Int.{ints}
use Rattle.plane.specs.Plane.{PlanePoint, Bounds, Within, In, StrictlyIn, ball_of, box_of, grid_point, AreNear}
use Rattle.grid_num.specs.Roots.{up2_of}
use Rattle.grid_num.proofs.Roots.{lt_up2}
use Rattle.classes.specs.Classes.{IsOneOf}
use Rattle.grid_num.specs.declared.Point.{Point}
use Rattle.plane.specs.Covering.{IsOn, Covers, edges_of}
use Rattle.plane.proofs.Lists.{any_none, covers_cases}
use Rattle.hulls.specs.Cells.{floor_of, around}
use Rattle.board_language.specs.declared.board.Pad.{Pad}
use Rattle.board_language.specs.declared.board.Zone.{Zone}
use Rattle.board_language.specs.Board.{Board}
use Rattle.fill_rules.specs.Tasks.{Task, Settings, ranked, task_at, task_zone, zone_at, layer_at, no_zone, no_task}
use Rattle.board_language.specs.Copper.{pad_hulls}
use Rattle.fill_rules.specs.Needs.{keep_when}
use Rattle.fill_rules.specs.Reliefs.{brush_radius, gap_of, half_bridge, spokes_by, pad_spokes, spokes_of, is_thermal}
use Rattle.fill_rules.specs.Fill.{Fills, brush_at, Fits, IsLive, InFill, fill_of, reaching_fills}
use Rattle.fill_rules.proofs.Sound.{IsFillable}
use Rattle.fill_rules.proofs.Same.{IsUsed, Clears, fill_map, clears_fewer}
use Rattle.fill_rules.proofs.Fills.{fills_meet}
use Rattle.fill_rules.proofs.Limit.{closed_in}
use Rattle.board_language.proofs.Members.{one_of_flat, get_or_is}
use Rattle.fill_rules.proofs.Members.{one_of_when}
use Rattle.fill_rules.proofs.Framed.{covers_in_frame}

-- ---- the brush and the spokes hold points strictly inside
IsThick : Zone → Type 0
IsThick z = 1000 ≤ z.thickness

thick_at : (b : Board) → IsFillable b → (i : ℕ) → 1 ≤ brush_radius (zone_at b i)
unfolding IsThick task_zone zone_at
thick_at b s i =
    let t : 1000 ≤ (zone_at b i).thickness = get_or_is IsThick b.zones (task_at b i).zone no_zone (lit≤ tt) s.thick in
    omega arith

IsSolid : Bounds → Type 0
IsSolid o = (m : PlanePoint) × StrictlyIn o m

brush_solid : (b : Board) → IsFillable b → (i : ℕ) (c : Point) → IsSolid (brush_at b i c)
unfolding IsSolid brush_at ball_of
brush_solid b s i c =
    let r = brush_radius (zone_at b i) in
    let one : 1 ≤ r = thick_at b s i in
    let u : r < up2_of r = lt_up2 r one in (
      grid_point c.x c.y,
      record {
        x_low = omega (arith, ints);
        x_high = omega (arith, ints);
        y_low = omega (arith, ints);
        y_high = omega (arith, ints);
        s_low = omega (arith, ints);
        s_high = omega (arith, ints);
        d_low = omega (arith, ints);
        d_high = omega (arith, ints);
      },
    )

box_solid : (x0 x1 y0 y1 : ℤ) → x0 <ℤ x1 → y0 <ℤ y1 → IsSolid (box_of x0 x1 y0 y1)
unfolding IsSolid
box_solid x0 x1 y0 y1 h g = (
  record { x = x0 +ℤ x1; y = y0 +ℤ y1; scale = 2; positive = lit≤ tt },
  record {
    x_low = omega (arith, ints);
    x_high = omega (arith, ints);
    y_low = omega (arith, ints);
    y_high = omega (arith, ints);
    s_low = omega (arith, ints);
    s_high = omega (arith, ints);
    d_low = omega (arith, ints);
    d_high = omega (arith, ints);
  },
)

spokes_solid : (x y : ℤ) (b h g : ℕ) (hull : Bounds) → 1 ≤ b → b ≤ h → hull.x0 ≤ℤ x → x ≤ℤ hull.x1 → hull.y0 ≤ℤ y → y ≤ℤ hull.y1
    → (o : Bounds) → IsOneOf o (spokes_by x y (pos b) (pos h) (pos (g + b)) hull) → IsSolid o
unfolding IsOneOf
spokes_solid x y b h g hull one up xl xh yl yh o (inl e) = subst IsSolid (sym e) (box_solid _ _ _ _ (omega (arith, ints)) (omega (arith, ints)))
spokes_solid x y b h g hull one up xl xh yl yh o (inr (inl e)) = subst IsSolid (sym e) (box_solid _ _ _ _ (omega (arith, ints)) (omega (arith, ints)))
spokes_solid x y b h g hull one up xl xh yl yh o (inr (inr (inl e))) = subst IsSolid (sym e) (box_solid _ _ _ _ (omega (arith, ints)) (omega (arith, ints)))
spokes_solid x y b h g hull one up xl xh yl yh o (inr (inr (inr (inl e)))) = subst IsSolid (sym e) (box_solid _ _ _ _ (omega (arith, ints)) (omega (arith, ints)))
spokes_solid x y b h g hull one up xl xh yl yh o (inr (inr (inr (inr n)))) = absurd n

-- each spoke of a pad whose hulls hold its centre
pad_solid : (z : Settings) (p : Pad) → 1 ≤ brush_radius z
    → ((h : Bounds) → IsOneOf h (pad_hulls p) → Within h (floor_of 2 p.at.x) (floor_of 2 p.at.y))
    → (o : Bounds) → IsOneOf o (pad_spokes z p) → IsSolid o
unfolding pad_spokes
pad_solid z p one held o i =
    let b = brush_radius z in
    let h = half_bridge z p in
    let g = gap_of z p in
    let f = one_of_flat (spokes_by (floor_of 2 p.at.x) (floor_of 2 p.at.y) (pos b) (pos h) (pos (g + b))) o (pad_hulls p) i in
    let w = held f.0 f.1 in
    spokes_solid (floor_of 2 p.at.x) (floor_of 2 p.at.y) b h g f.0 one (omega arith) w.x_low w.x_high w.y_low w.y_high o f.2

spoke_solid : (b : Board) → IsFillable b → (i : ℕ) (o : Bounds) → IsOneOf o (spokes_of b (zone_at b i) (layer_at b i)) → IsSolid o
unfolding spokes_of
spoke_solid b s i o h =
    let z = zone_at b i in
    let f = one_of_flat (λ (p : Pad). keep_when (is_thermal z (layer_at b i) p) (pad_spokes z p)) o b.pads h in
    pad_solid z f.0 (thick_at b s i) (s.centred f.0 f.1) o (one_of_when (is_thermal z (layer_at b i) f.0) o (pad_spokes z f.0) f.2)

used_solid : (b : Board) → IsFillable b → (i : ℕ) (o : Bounds) → IsUsed b i o → IsSolid o
used_solid b s i o (inl (c, e)) = subst IsSolid (sym e) (brush_solid b s i c)
used_solid b s i o (inr h) = spoke_solid b s i o h

-- ---- in the frame
abbrev pub InFrame : Board → ℕ → PlanePoint → Type 0
InFrame b i p = In (around (zone_at b i).outline) p

pub fits_in_frame : (b : Board) → IsFillable b → (i : ℕ) (o : Bounds) → IsUsed b i o → Fits b i o → (p : PlanePoint) → In o p → InFrame b i p
unfolding IsSolid
fits_in_frame b s i o u f p h =
    let m = used_solid b s i o u in
    closed_in o (around (zone_at b i).outline) m.0 m.1 (λ q g. covers_in_frame (zone_at b i).outline q (f.covered q g)) p h

-- each point of a fill lies in the frame of its outline
pub fill_in_frame : (b : Board) → IsFillable b → (above : Fills) (i : ℕ) (p : PlanePoint) → InFill b above i p → InFrame b i p
unfolding InFill
fill_in_frame b s above i p (inl (c, k, n)) = fits_in_frame b s i (brush_at b i c) (inl (c, refl)) k.allowed.fits p n
fill_in_frame b s above i p (inr (o, l, n, w)) = fits_in_frame b s i o (inr l.spoke) l.fits p n

-- and so does each of a live spoke
pub live_in_frame : (b : Board) → IsFillable b → (above : Fills) (i : ℕ) (o : Bounds) (p : PlanePoint) → IsLive b above i o → In o p → InFrame b i p
live_in_frame b s above i o p l n = fits_in_frame b s i o (inr l.spoke) l.fits p n

-- ---- past the last rank
get_or_past : {A : Type 0} (xs : List A) (n : ℕ) (d : A) → length xs ≤ n → get_or xs n d ≡ d
get_or_past [] n d l = refl
get_or_past (x ∷ xs) zero d l = absurd (omega (arith, l))
get_or_past (x ∷ xs) (suc n) d l = get_or_past xs n d (omega (arith, l))

no_outline : (b : Board) (i : ℕ) → length (ranked b) ≤ i → (zone_at b i).outline ≡ []
unfolding zone_at task_zone task_at
no_outline b i l =
    ap (λ (t : Task). (get_or b.zones t.zone no_zone).outline) (get_or_past (ranked b) i (no_task b) l)
    ∙ ap (λ (z : Zone). z.outline) (get_or_past b.zones (length b.zones) no_zone (omega arith))

nothing_covered : (p : PlanePoint) → Covers (edges_of []) p → ⊥
nothing_covered p c = elim (covers_cases [] p c) [ inl o ↦ any_none (λ e. IsOn e p) o | inr o ↦ omega (arith, o) ]

nothing_fits : (b : Board) → IsFillable b → (i : ℕ) (o : Bounds) → length (ranked b) ≤ i → IsUsed b i o → Fits b i o → ⊥
unfolding IsSolid
nothing_fits b s i o l u f =
    let m = used_solid b s i o u in
    nothing_covered m.0 (subst (λ (cs : List Point). Covers (edges_of cs) m.0) (no_outline b i l) (f.covered m.0 m.1))

pub no_fill : (b : Board) → IsFillable b → (above : Fills) (i : ℕ) (p : PlanePoint) → length (ranked b) ≤ i → InFill b above i p → ⊥
unfolding InFill
no_fill b s above i p l (inl (c, k, n)) = nothing_fits b s i (brush_at b i c) l (inl (c, refl)) k.allowed.fits
no_fill b s above i p l (inr (o, v, n, w)) = nothing_fits b s i o l (inr v.spoke) v.fits

-- ---- the reaching tasks alone
clears_reaching : (b : Board) → IsFillable b → (fills : Fills) → ((j : ℕ) (p : PlanePoint) → fills j p → InFrame b j p)
    → (i : ℕ) → Clears b (reaching_fills b fills i) fills i
unfolding AreNear
clears_reaching b s fills f i o u t c = record {
  items = c.items;
  fills = λ j l e g p q m a n. c.fills j l e g p q m (
    record { above = l; layer = e; foreign = g; near = (p, q, fits_in_frame b s i o u t p m, f j q a, n) },
    a,
  ) n;
}

-- the fill over all fills above is the fill over those of the reaching tasks
pub reaching_enough : (b : Board) → IsFillable b → (fills : Fills) → ((j : ℕ) (p : PlanePoint) → fills j p → InFrame b j p)
    → (i : ℕ) (p : PlanePoint) → InFill b fills i p ↔ InFill b (reaching_fills b fills i) i p
reaching_enough b s fills f i p =
    let h = clears_reaching b s fills f i in
    let k = clears_fewer b fills (reaching_fills b fills i) i (λ j q l a. a.1) in
    (fill_map b fills (reaching_fills b fills i) i k h p, fill_map b (reaching_fills b fills i) fills i h k p)

pub fill_by_reaching : (b : Board) → IsFillable b → (i : ℕ) (p : PlanePoint) → fill_of b i p ↔ InFill b (reaching_fills b (fill_of b) i) i p
fill_by_reaching b s i p =
    let m = fills_meet b in
    let r = reaching_enough b s (fill_of b) (λ j q h. fill_in_frame b s (fill_of b) j q ((m j q).0 h)) i p in
    (λ h. r.0 ((m i p).0 h), λ h. (m i p).1 (r.1 h))
