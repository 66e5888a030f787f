-- Where the brush may stand.
use Rattle.std.proofs.Common.{refl, subst, ℕ, ◌≤◌, inl, inr, arith, lit≤, List, ◌++◌, map}
use Rattle.std.specs.Prelude.{◌↔◌, ℤ, Any}
use Rattle.std.specs.List.{All}
use Rattle.plane.specs.Plane.{Bounds, Within, StrictlyWithin, IsTight, ball_of, moved}
use Rattle.plane.proofs.Lists.{any_left, any_right, any_parts}
use Rattle.grid_num.specs.declared.Point.{Point}
use Rattle.octagon.proofs.Separation.{barred_law}
use Rattle.open_laws.proofs.Brush.{open_brush}
use Rattle.board_language.specs.declared.board.Zone.{Zone}
use Rattle.board_language.specs.Board.{Board}
use Rattle.fill_rules.specs.Tasks.{task_at, task_zone, zone_at, layer_at, no_zone}
use Rattle.fill_rules.specs.Needs.{Need}
use Rattle.fill_rules.specs.Reliefs.{brush_radius, thermal_needs}
use Rattle.fill_rules.specs.Fill.{IsAllowed, brush_at, fill_of}
use Rattle.fill_rules.proofs.Sound.{IsFillable, fillable}
use Rattle.board_language.proofs.Members.{get_or_is, one_of_map, map_one_of, all_one_of}
use Rattle.fill_rules.proofs.Members.{some_one_of}
use Rattle.fill_rules.proofs.Reach.{fits_in_frame}
use Rattle.centres.specs.Walls.{EntersNone}
use Rattle.centres.specs.Needs.{KeepsAll, LiesIn, frame_at, IsClearBy, IsRealNeed}
use Rattle.centres.specs.Centres.{shrunk, grown_wall, grown_need, IsBarredAt, AreLimits}
use Rattle.centres.specs.Laws.{AllowedLaw, GrownLaw}
use Rattle.centres.proofs.Listed.{one_any}
use Rattle.centres.proofs.Fits.{fits_law}
use Rattle.centres.proofs.Home.{home_law}
use Rattle.centres.proofs.Real.{gaps_real}

-- ---- the brush of a sound board reaches 250 units at least
pub thick : (b : Board) → IsFillable b → (i : ℕ) → 250 ≤ brush_radius (zone_at b i)
unfolding task_zone zone_at
thick b s i =
    let t : 1000 ≤ (zone_at b i).thickness = get_or_is (λ (z : Zone). 1000 ≤ z.thickness) b.zones (task_at b i).zone no_zone (lit≤ tt) s.thick in
    omega arith

-- ---- walls and needs, for the brush of radius r at (x, y)
walls_bar : (r : ℕ) (walls : List Bounds) (x y : ℤ) → 1 ≤ r → All IsTight walls
    → EntersNone walls (moved (ball_of r) x y) ↔ (Any (λ w. StrictlyWithin (grown_wall r w) x y) walls → ⊥)
unfolding EntersNone
walls_bar r walls x y one t = (
  λ n a. let s = some_one_of (λ (w : Bounds). StrictlyWithin (grown_wall r w) x y) walls a in
      n s.0 s.1 ((open_brush.octagon r s.0 x y one (all_one_of IsTight walls s.0 t s.1)).1 s.2),
  λ n w k e. n (one_any (λ (c : Bounds). StrictlyWithin (grown_wall r c) x y) walls w k ((open_brush.octagon r w x y one (all_one_of IsTight walls w t k)).0 e)),
)

needs_bar : (r : ℕ) (needs : List Need) (x y : ℤ) → All IsRealNeed needs
    → KeepsAll needs (moved (ball_of r) x y) ↔ (Any (λ n. StrictlyWithin (grown_need r n) x y) needs → ⊥)
unfolding KeepsAll
needs_bar r needs x y t = (
  λ k a. let s = some_one_of (λ (n : Need). StrictlyWithin (grown_need r n) x y) needs a in
      let d = all_one_of IsRealNeed needs s.0 t s.1 in
      k s.0 s.1 ((barred_law s.0.need r s.0.oct x y d.need d.tight).1 s.2),
  λ k n i e. let d = all_one_of IsRealNeed needs n t i in
      k (one_any (λ (m : Need). StrictlyWithin (grown_need r m) x y) needs n i ((barred_law n.need r n.oct x y d.need d.tight).0 e)),
)

-- what bars by two lists of needs
not_barred : (r : ℕ) (walls : List Bounds) (bars gaps : List Need) (x y : ℤ) → (IsBarredAt r walls (bars ++ gaps) x y → ⊥)
    ↔ ((Any (λ w. StrictlyWithin (grown_wall r w) x y) walls → ⊥)
    × (Any (λ n. StrictlyWithin (grown_need r n) x y) bars → ⊥) × (Any (λ n. StrictlyWithin (grown_need r n) x y) gaps → ⊥))
unfolding IsBarredAt
not_barred r walls bars gaps x y =
    let P : Need → Type 0 = λ (n : Need). StrictlyWithin (grown_need r n) x y in (
      λ h. (λ a. h (inl a), λ a. h (inr (any_left P bars gaps a)), λ a. h (inr (any_right P bars gaps a))),
      λ h b. elim b [ inl a ↦ h.0 a | inr a ↦ elim (any_parts P bars gaps a) [ inl c ↦ h.1 c | inr c ↦ h.2 c ] ],
    )

pub grown_law : GrownLaw
unfolding IsBarredAt
grown_law r walls needs x y =
    let P : Bounds → Type 0 = λ (o : Bounds). StrictlyWithin o x y in
    let ws = map (grown_wall r) walls in
    let ns = map (grown_need r) needs in (
      λ a. elim (any_parts P ws ns a) [
        | inl h ↦
            let s = some_one_of P ws h in
            let m = one_of_map (grown_wall r) s.0 walls s.1 in
            inl (one_any (λ (w : Bounds). P (grown_wall r w)) walls m.0 m.1 (subst P m.2 s.2))
        | inr h ↦
            let s = some_one_of P ns h in
            let m = one_of_map (grown_need r) s.0 needs s.1 in
            inr (one_any (λ (n : Need). P (grown_need r n)) needs m.0 m.1 (subst P m.2 s.2))
      ],
      λ h. elim h [
        | inl a ↦
            let s = some_one_of (λ (w : Bounds). P (grown_wall r w)) walls a in
            any_left P ws ns (one_any P ws (grown_wall r s.0) (map_one_of (grown_wall r) s.0 walls s.1) s.2)
        | inr a ↦
            let s = some_one_of (λ (n : Need). P (grown_need r n)) needs a in
            any_right P ws ns (one_any P ns (grown_need r s.0) (map_one_of (grown_need r) s.0 needs s.1) s.2)
      ],
    )

-- ---- the brush of a task
-- in the frame of the outline it fits and is clear where the walls and the bars let it
allowed_there : (b : Board) (i : ℕ) (frame : Bounds) (walls : List Bounds) (bars : List Need) (c : Point) → AreLimits b i frame walls bars
    → IsAllowed b (fill_of b) i c
    → Within (shrunk (frame_at b i) (brush_radius (zone_at b i))) c.x c.y
    × (IsBarredAt (brush_radius (zone_at b i)) walls (bars ++ thermal_needs b (zone_at b i) (layer_at b i)) c.x c.y → ⊥)
unfolding brush_at KeepsAll IsClearBy
allowed_there b i frame walls bars c l a =
    let r = brush_radius (zone_at b i) in
    let o = moved (ball_of r) c.x c.y in
    let gaps = thermal_needs b (zone_at b i) (layer_at b i) in
    let t : 250 ≤ r = thick b (fillable b l.sound) i in
    let one : 1 ≤ r = omega arith in
    let home : LiesIn o (frame_at b i) = fits_in_frame b (fillable b l.sound) i o (inl (c, refl)) a.fits in
    let w = (fits_law b i frame walls o l.walled (λ p h. l.framed p (home p h))).0 a.fits in
    let k = (l.clear o home).0 a.clear in (
      (home_law (frame_at b i) r c.x c.y).0 home,
      (not_barred r walls bars gaps c.x c.y).1 (
        (walls_bar r walls c.x c.y one l.walled.tight).0 w,
        (needs_bar r bars c.x c.y l.real).0 k,
        (needs_bar r gaps c.x c.y (gaps_real b (zone_at b i) (layer_at b i))).0 a.gaps,
      ),
    )

allowed_back : (b : Board) (i : ℕ) (frame : Bounds) (walls : List Bounds) (bars : List Need) (c : Point) → AreLimits b i frame walls bars
    → Within (shrunk (frame_at b i) (brush_radius (zone_at b i))) c.x c.y
    → (IsBarredAt (brush_radius (zone_at b i)) walls (bars ++ thermal_needs b (zone_at b i) (layer_at b i)) c.x c.y → ⊥)
    → IsAllowed b (fill_of b) i c
unfolding brush_at KeepsAll IsClearBy
allowed_back b i frame walls bars c l w n =
    let r = brush_radius (zone_at b i) in
    let o = moved (ball_of r) c.x c.y in
    let gaps = thermal_needs b (zone_at b i) (layer_at b i) in
    let t : 250 ≤ r = thick b (fillable b l.sound) i in
    let one : 1 ≤ r = omega arith in
    let home : LiesIn o (frame_at b i) = (home_law (frame_at b i) r c.x c.y).1 w in
    let parts = (not_barred r walls bars gaps c.x c.y).0 n in
    record {
      fits = (fits_law b i frame walls o l.walled (λ p h. l.framed p (home p h))).1 ((walls_bar r walls c.x c.y one l.walled.tight).1 parts.0);
      clear = (l.clear o home).1 ((needs_bar r bars c.x c.y l.real).1 parts.1);
      gaps = (needs_bar r gaps c.x c.y (gaps_real b (zone_at b i) (layer_at b i))).1 parts.2;
    }

pub allowed_law : AllowedLaw
allowed_law b i frame walls bars c l = (allowed_there b i frame walls bars c l, λ h. allowed_back b i frame walls bars c l h.0 h.1)
