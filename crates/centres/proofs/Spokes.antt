-- Which spokes fit and are clear, and how wide a spoke is.
use Rattle.std.proofs.Common.{refl, sym, subst, ℕ, ◌+◌, ◌≤◌, inl, inr, arith, List}
use Rattle.std.specs.List.{All}
use Rattle.std.specs.Prelude.{◌↔◌, ℤ, pos, ◌+ℤ◌, ◌≤ℤ◌}
use Rattle.std.proofs.lemmas.Int.{ints}
use Rattle.plane.specs.Plane.{Bounds, Within, StrictlyWithin, IsTight, AreNear, box_of}
use Rattle.classes.specs.Classes.{IsOneOf}
use Rattle.open_laws.specs.Open.{ReachesInto}
use Rattle.open_laws.proofs.Box.{open_box}
use Rattle.hulls.specs.Cells.{floor_of}
use Rattle.board_language.specs.declared.board.Pad.{Pad}
use Rattle.board_language.specs.Board.{Board}
use Rattle.fill_rules.specs.Tasks.{Settings, zone_at, layer_at}
use Rattle.board_language.specs.Copper.{pad_hulls}
use Rattle.fill_rules.specs.Needs.{Need, keep_when}
use Rattle.fill_rules.specs.Reliefs.{brush_radius, gap_of, half_bridge, spokes_by, pad_spokes, spokes_of, is_thermal}
use Rattle.fill_rules.specs.Fill.{Fits, IsClear, fill_of}
use Rattle.board_language.proofs.Members.{one_of_flat, all_one_of}
use Rattle.fill_rules.proofs.Members.{one_of_when}
use Rattle.fill_rules.proofs.Reach.{fits_in_frame}
use Rattle.fill_rules.proofs.Sound.{fillable}
use Rattle.centres.specs.Walls.{EntersNone}
use Rattle.centres.specs.Needs.{KeepsAll, LiesIn, frame_at, IsClearBy}
use Rattle.centres.specs.Centres.{AreLimits}
use Rattle.centres.specs.Laws.{LiveLaw, IsSpokeSized, SpokeLaw, EnteredLaw}
use Rattle.centres.proofs.Listed.{all_of_members}
use Rattle.centres.proofs.Fits.{fits_law}
use Rattle.centres.proofs.Allowed.{thick}

-- ---- fits and is clear
live_there : (b : Board) (i : ℕ) (frame : Bounds) (walls : List Bounds) (bars : List Need) (o : Bounds) → AreLimits b i frame walls bars
    → IsOneOf o (spokes_of b (zone_at b i) (layer_at b i)) → Fits b i o → IsClear b (fill_of b) i o
    → LiesIn o (frame_at b i) × EntersNone walls o × KeepsAll bars o
unfolding IsClearBy
live_there b i frame walls bars o l k f c =
    let home : LiesIn o (frame_at b i) = fits_in_frame b (fillable b l.sound) i o (inr k) f in
    (home, (fits_law b i frame walls o l.walled (λ p h. l.framed p (home p h))).0 f, (l.clear o home).0 c)

live_back : (b : Board) (i : ℕ) (frame : Bounds) (walls : List Bounds) (bars : List Need) (o : Bounds) → AreLimits b i frame walls bars
    → LiesIn o (frame_at b i) → EntersNone walls o → KeepsAll bars o → Fits b i o × IsClear b (fill_of b) i o
unfolding IsClearBy
live_back b i frame walls bars o l home w k =
    ((fits_law b i frame walls o l.walled (λ p h. l.framed p (home p h))).1 w, (l.clear o home).1 k)

pub live_law : LiveLaw
live_law b i frame walls bars o l k =
    (λ h. live_there b i frame walls bars o l k h.0 h.1, λ h. live_back b i frame walls bars o l h.0 h.1 h.2)

-- ---- the width
box_wide : (x0 x1 y0 y1 : ℤ) → (x0 +ℤ pos 500) ≤ℤ x1 → (y0 +ℤ pos 500) ≤ℤ y1 → IsSpokeSized (box_of x0 x1 y0 y1)
box_wide x0 x1 y0 y1 h g = record { box = refl; across = h; along = g }

four_wide : (x y : ℤ) (b h g : ℕ) (hull : Bounds) → 250 ≤ b → b ≤ h → Within hull x y
    → (o : Bounds) → IsOneOf o (spokes_by x y (pos b) (pos h) (pos (g + b)) hull) → IsSpokeSized o
unfolding IsOneOf
four_wide x y b h g hull w up i o (inl e) = subst IsSpokeSized (sym e) (box_wide _ _ _ _ (omega (arith, ints, i.x_high)) (omega (arith, ints)))
four_wide x y b h g hull w up i o (inr (inl e)) = subst IsSpokeSized (sym e) (box_wide _ _ _ _ (omega (arith, ints)) (omega (arith, ints, i.y_high)))
four_wide x y b h g hull w up i o (inr (inr (inl e))) = subst IsSpokeSized (sym e) (box_wide _ _ _ _ (omega (arith, ints, i.x_low)) (omega (arith, ints)))
four_wide x y b h g hull w up i o (inr (inr (inr (inl e)))) = subst IsSpokeSized (sym e) (box_wide _ _ _ _ (omega (arith, ints)) (omega (arith, ints, i.y_low)))
four_wide x y b h g hull w up i o (inr (inr (inr (inr n)))) = absurd n

pad_wide : (z : Settings) (p : Pad) → 250 ≤ brush_radius z
    → ((h : Bounds) → IsOneOf h (pad_hulls p) → Within h (floor_of 2 p.at.x) (floor_of 2 p.at.y))
    → (o : Bounds) → IsOneOf o (pad_spokes z p) → IsSpokeSized o
unfolding pad_spokes
pad_wide z p w held o i =
    let b = brush_radius z in
    let h = half_bridge z p in
    let g = gap_of z p in
    let f = one_of_flat (spokes_by (floor_of 2 p.at.x) (floor_of 2 p.at.y) (pos b) (pos h) (pos (g + b))) o (pad_hulls p) i in
    four_wide (floor_of 2 p.at.x) (floor_of 2 p.at.y) b h g f.0 w (omega arith) (held f.0 f.1) o f.2

pub spoke_law : SpokeLaw
unfolding spokes_of
spoke_law b i o sound h =
    let s = fillable b sound in
    let z = zone_at b i in
    let f = one_of_flat (λ (p : Pad). keep_when (is_thermal z (layer_at b i) p) (pad_spokes z p)) o b.pads h in
    pad_wide z f.0 (thick b s i) (s.centred f.0 f.1) o (one_of_when (is_thermal z (layer_at b i) f.0) o (pad_spokes z f.0) f.2)

-- ---- grid points inside
box_some : (x0 x1 y0 y1 : ℤ) → (x0 +ℤ pos 500) ≤ℤ x1 → (y0 +ℤ pos 500) ≤ℤ y1 → (x : ℤ) × (y : ℤ) × StrictlyWithin (box_of x0 x1 y0 y1) x y
box_some x0 x1 y0 y1 h g = (
  x0 +ℤ pos 1,
  y0 +ℤ pos 1,
  record {
    x_low = omega (arith, ints);
    x_high = omega (arith, ints);
    y_low = omega (arith, ints);
    y_high = omega (arith, ints);
    s_low = omega (arith, ints);
    s_high = omega (arith, ints);
    d_low = omega (arith, ints);
    d_high = omega (arith, ints);
  },
)

some_inside : (o : Bounds) → IsSpokeSized o → (x : ℤ) × (y : ℤ) × StrictlyWithin o x y
some_inside o w = subst (λ (c : Bounds). (x : ℤ) × (y : ℤ) × StrictlyWithin c x y) (sym w.box) (box_some o.x0 o.x1 o.y0 o.y1 w.across w.along)

near_wall : (o inner w : Bounds) → IsSpokeSized o → IsTight inner → ((x y : ℤ) → Within inner x y ↔ StrictlyWithin o x y) → IsTight w
    → ReachesInto o w ↔ AreNear 1 inner w
near_wall o inner w k t s u =
    let q : (x y : ℤ) → Within inner x y ↔ StrictlyWithin (box_of o.x0 o.x1 o.y0 o.y1) x y =
    λ x y. (λ i. subst (λ (c : Bounds). StrictlyWithin c x y) k.box ((s x y).0 i), λ i. (s x y).1 (subst (λ (c : Bounds). StrictlyWithin c x y) (sym k.box) i)) in
    let r = open_box.opened o.x0 o.x1 o.y0 o.y1 inner w t q u in
    (λ e. r.0 (subst (λ (c : Bounds). ReachesInto c w) k.box e), λ n. subst (λ (c : Bounds). ReachesInto c w) (sym k.box) (r.1 n))

near_none : (o inner : Bounds) (walls : List Bounds) → IsSpokeSized o → IsTight inner
    → ((x y : ℤ) → Within inner x y ↔ StrictlyWithin o x y) → All IsTight walls
    → EntersNone walls o ↔ All (λ w. AreNear 1 inner w → ⊥) walls
unfolding EntersNone
near_none o inner walls k t s u = (
  λ h. all_of_members (λ (w : Bounds). AreNear 1 inner w → ⊥) walls (λ w i n. h w i ((near_wall o inner w k t s (all_one_of IsTight walls w u i)).1 n)),
  λ h w i e. all_one_of (λ (c : Bounds). AreNear 1 inner c → ⊥) walls w h i ((near_wall o inner w k t s (all_one_of IsTight walls w u i)).0 e),
)

pub entered_law : EnteredLaw
entered_law = record { some = some_inside; near = near_wall; none = near_none }
