-- The corners of an area, and its hull.
use Rattle.std.proofs.Common.{◌≡◌, refl, sym, subst, ℕ, ◌+◌, arith, Result, Ok, Err, IfOk, w64, to_z, of_z, FitsSigned, List, [], ◌∷◌}
use Rattle.std.specs.Prelude.{ℤ, ◌+ℤ◌, ◌-ℤ◌, ◌≤ℤ◌}
use Rattle.std.specs.List.{All}
use Rattle.std.proofs.lemmas.Int.{ints}
use Rattle.std.proofs.lemmas.List.Elements.{All-cons, All-nil}
use Rattle.grid_num.specs.declared.Point.{Point}
use Rattle.plane.specs.Plane.{PlanePoint, Bounds, IsTight}
use Rattle.plane.specs.Narrow.{IsNearZero}
use Rattle.octagon.specs.Room.{IsAround}
use Rattle.octagon.proofs.Plain.{code_read, code_sub, code_add}
use Rattle.octagon.proofs.Moves.{code_corners}
use Rattle.plane.specs.Corners.{corners_of}
use Rattle.touching.specs.Core.{Core, area, line, IsWhole, InCopper}
use Rattle.cores.specs.Room.{IsInRoom, IsAreaInRoom, IsLineInRoom, IsCoreInRoom, spot}
use Rattle.hulls.specs.Hulls.{hull_of, hulls_of, in_units}
use Rattle.hulls.specs.Laws.{InSome}
use Rattle.hulls.proofs.Copper.{copper_law}

-- all eight bounds of a tight area that lies within m of 0
pub record IsNearArea (m : ℕ) (b : Bounds) : Type 0 where
  pub x0 : IsNearZero m b.x0
  pub x1 : IsNearZero m b.x1
  pub y0 : IsNearZero m b.y0
  pub y1 : IsNearZero m b.y1
  pub s0 : IsNearZero (m + m) b.s0
  pub s1 : IsNearZero (m + m) b.s1
  pub d0 : IsNearZero (m + m) b.d0
  pub d1 : IsNearZero (m + m) b.d1

pub near_area : (m : ℕ) (b : Bounds) → IsTight b → IsAround m b → IsNearArea m b
near_area m b t h =
    let across : b.x0 ≤ℤ b.x1 = omega (arith, ints, t.top_left, t.top, t.top_right) in
    let along : b.y0 ≤ℤ b.y1 = omega (arith, ints, t.top, t.top_right, t.right, t.bottom_right) in
    record {
      x0 = record { low = h.x_low; high = omega (arith, ints, h.x_high) };
      x1 = record { low = omega (arith, ints, h.x_low); high = h.x_high };
      y0 = record { low = h.y_low; high = omega (arith, ints, h.y_high) };
      y1 = record { low = omega (arith, ints, h.y_low); high = h.y_high };
      s0 = record { low = omega (arith, ints, t, h.x_low, h.y_low); high = omega (arith, ints, t, h.x_high, h.y_high) };
      s1 = record { low = omega (arith, ints, t, h.x_low, h.y_low); high = omega (arith, ints, t, h.x_high, h.y_high) };
      d0 = record { low = omega (arith, ints, t, h.x_low, h.y_high); high = omega (arith, ints, t, h.x_high, h.y_low) };
      d1 = record { low = omega (arith, ints, t, h.x_low, h.y_high); high = omega (arith, ints, t, h.x_high, h.y_low) };
    }

-- ---- the corners lie within the area's reach
all_eight : {X : Type 0} (P : X → Type 0) (a b c d e f g h : X) → P a → P b → P c → P d → P e → P f → P g → P h → All P (a ∷ b ∷ c ∷ d ∷ e ∷ f ∷ g ∷ h ∷ [])
all_eight P a b c d e f g h pa pb pc pd pe pf pg ph =
    All-cons P a (b ∷ c ∷ d ∷ e ∷ f ∷ g ∷ h ∷ []) pa
    (All-cons P b (c ∷ d ∷ e ∷ f ∷ g ∷ h ∷ []) pb
    (All-cons P c (d ∷ e ∷ f ∷ g ∷ h ∷ []) pc
    (All-cons P d (e ∷ f ∷ g ∷ h ∷ []) pd
    (All-cons P e (f ∷ g ∷ h ∷ []) pe
    (All-cons P f (g ∷ h ∷ []) pf
    (All-cons P g (h ∷ []) pg
    (All-cons P h [] ph (All-nil P))))))))

place : (m : ℕ) (x y : ℤ) → IsNearZero m x → IsNearZero m y → IsInRoom m (record { x = x; y = y })
place m x y h k = record { x = h; y = k }

pub corner_places : (m : ℕ) (b : Bounds) → IsTight b → IsAround m b → All (IsInRoom m) (corners_of b)
corner_places m b t h =
    let n = near_area m b t h in
    all_eight (IsInRoom m) _ _ _ _ _ _ _ _
    (place m (b.s0 -ℤ b.y0) b.y0 (record { low = omega (arith, ints, t, n); high = omega (arith, ints, t, n) }) n.y0)
    (place m (b.d1 +ℤ b.y0) b.y0 (record { low = omega (arith, ints, t, n); high = omega (arith, ints, t, n) }) n.y0)
    (place m b.x1 (b.x1 -ℤ b.d1) n.x1 (record { low = omega (arith, ints, t, n); high = omega (arith, ints, t, n) }))
    (place m b.x1 (b.s1 -ℤ b.x1) n.x1 (record { low = omega (arith, ints, t, n); high = omega (arith, ints, t, n) }))
    (place m (b.s1 -ℤ b.y1) b.y1 (record { low = omega (arith, ints, t, n); high = omega (arith, ints, t, n) }) n.y1)
    (place m (b.d0 +ℤ b.y1) b.y1 (record { low = omega (arith, ints, t, n); high = omega (arith, ints, t, n) }) n.y1)
    (place m b.x0 (b.x0 -ℤ b.d0) n.x0 (record { low = omega (arith, ints, t, n); high = omega (arith, ints, t, n) }))
    (place m b.x0 (b.s0 -ℤ b.x0) n.x0 (record { low = omega (arith, ints, t, n); high = omega (arith, ints, t, n) }))

-- ---- the corners as the code computes them
abbrev Wide : ℤ → Type 0
Wide z = IsNearZero 4000000000 z

wide : (z : ℤ) → IsNearZero 2000000000 z → Wide z
wide z h = record { low = omega (arith, ints, h.low); high = omega (arith, ints, h.high) }

read_is : (a : ℤ) → Wide a → code_read a ≡ a
read_is a h = omega (arith, ints, h.low, h.high)

sub_is : (a b : ℤ) → Wide a → Wide b → code_sub a b ≡ a -ℤ b
sub_is a b h k = omega (arith, ints, h.low, h.high, k.low, k.high)

add_is : (a b : ℤ) → Wide a → Wide b → code_add a b ≡ a +ℤ b
add_is a b h k = omega (arith, ints, h.low, h.high, k.low, k.high)

pub sub_fits : (a b : ℤ) → Wide a → Wide b → FitsSigned w64 (to_z w64 (of_z w64 a) -ℤ to_z w64 (of_z w64 b))
sub_fits a b h k = omega (arith, ints, h.low, h.high, k.low, k.high)

pub add_fits : (a b : ℤ) → Wide a → Wide b → FitsSigned w64 (to_z w64 (of_z w64 a) +ℤ to_z w64 (of_z w64 b))
add_fits a b h k = omega (arith, ints, h.low, h.high, k.low, k.high)

pub record AreWide (b : Bounds) : Type 0 where
  pub x0 : Wide b.x0
  pub x1 : Wide b.x1
  pub y0 : Wide b.y0
  pub y1 : Wide b.y1
  pub s0 : Wide b.s0
  pub s1 : Wide b.s1
  pub d0 : Wide b.d0
  pub d1 : Wide b.d1

pub are_wide : (b : Bounds) → IsTight b → IsAround 2000000000 b → AreWide b
are_wide b t h =
    let n = near_area 2000000000 b t h in
    record { x0 = wide b.x0 n.x0; x1 = wide b.x1 n.x1; y0 = wide b.y0 n.y0; y1 = wide b.y1 n.y1; s0 = n.s0; s1 = n.s1; d0 = n.d0; d1 = n.d1 }

pub code_corners-is : (b : Bounds) → AreWide b → code_corners b ≡ corners_of b
code_corners-is b w =
    plain b _ _ _ _ _ _ _ _ _ _ _ _
    (read_is b.x0 w.x0) (read_is b.x1 w.x1) (read_is b.y0 w.y0) (read_is b.y1 w.y1)
    (sub_is b.s0 b.y0 w.s0 w.y0) (add_is b.d1 b.y0 w.d1 w.y0) (sub_is b.x1 b.d1 w.x1 w.d1) (sub_is b.s1 b.x1 w.s1 w.x1)
    (sub_is b.s1 b.y1 w.s1 w.y1) (add_is b.d0 b.y1 w.d0 w.y1) (sub_is b.x0 b.d0 w.x0 w.d0) (sub_is b.s0 b.x0 w.s0 w.x0)
  where
    plain : (b : Bounds) (x0 x1 y0 y1 p q r s t u v w : ℤ) → x0 ≡ b.x0 → x1 ≡ b.x1 → y0 ≡ b.y0 → y1 ≡ b.y1
        → p ≡ b.s0 -ℤ b.y0 → q ≡ b.d1 +ℤ b.y0 → r ≡ b.x1 -ℤ b.d1 → s ≡ b.s1 -ℤ b.x1 → t ≡ b.s1 -ℤ b.y1 → u ≡ b.d0 +ℤ b.y1 → v ≡ b.x0 -ℤ b.d0 → w ≡ b.s0 -ℤ b.x0
        → (record { x = p; y = y0 } ∷ record { x = q; y = y0 } ∷ record { x = x1; y = r } ∷ record { x = x1; y = s } ∷ record { x = t; y = y1 } ∷ record { x = u; y = y1 } ∷ record { x = x0; y = v } ∷ record { x = x0; y = w } ∷ []) ≡ corners_of b
    plain b x0 x1 y0 y1 p q r s t u v w e0 e1 e2 e3 e4 e5 e6 e7 e8 e9 e10 e11 = rw (e0, e1, e2, e3, e4, e5, e6, e7, e8, e9, e10, e11) refl

-- ---- the hull
pub area_is : (b : Bounds) (r : ℕ) (corners : List Point) (h : Bounds) (out : List Bounds) → corners ≡ corners_of b → h ≡ hull_of 4 corners r → out ≡ h ∷ [] → out ≡ hulls_of (area b) r
unfolding hulls_of
area_is b r corners h out ec eh eo = rw (eo, eh, ec) refl

-- ---- the copper is in the hulls
pub holds_copper : (c : Core) (r : ℕ) (hulls : List Bounds) → hulls ≡ hulls_of c r → (p : PlanePoint) → InCopper c r p → InSome hulls (in_units p)
holds_copper c r hulls e p i = rw e (copper_law c r p i)

pub if_ok : {A E : Type 0} (P Q : A → Type 0) (r : Result A E) → ((x : A) → P x → Q x) → IfOk r P → IfOk r Q
if_ok P Q (Ok x) f h = f x h
if_ok P Q (Err e) f h = tt

-- ---- the two kinds of cores
pub line_ends : (m : ℕ) (p q : Point) (c : Core) → line (spot p) (spot q) ≡ c → IsCoreInRoom m c → IsInRoom m p × IsInRoom m q
unfolding IsCoreInRoom
line_ends m p q c e h =
    let P : Core → Type 0 = λ z. IsCoreInRoom m z in
    let w : IsLineInRoom m (spot p) (spot q) = subst P (sym e) h in
    (record { x = w.sx; y = w.sy }, record { x = w.tx; y = w.ty })

pub area_tight : (b : Bounds) (c : Core) → area b ≡ c → IsWhole c → IsTight b
unfolding IsWhole
area_tight b c e h = subst (λ (z : Core). IsWhole z) (sym e) h

pub around_of : (m : ℕ) (b : Bounds) → IsAreaInRoom m b → IsAround m b
around_of m b h = record { x_low = h.left; x_high = h.right; y_low = h.top; y_high = h.bottom }

pub area_around : (m : ℕ) (b : Bounds) (c : Core) → area b ≡ c → IsCoreInRoom m c → IsAround m b
unfolding IsCoreInRoom
area_around m b c e h = around_of m b (subst (λ (z : Core). IsCoreInRoom m z) (sym e) h)
