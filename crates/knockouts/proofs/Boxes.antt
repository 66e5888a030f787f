-- Upright rectangles by their corners, and centres rounded down.
use Rattle.std.proofs.Common.{◌≡◌, ◌∙◌, ap, subst, ℕ, arith, w64, to_z, of_z, List, [], ◌∷◌, get_or}
use Rattle.std.specs.Prelude.{ℤ, pos, ◌+ℤ◌, ◌-ℤ◌, ◌≤ℤ◌, ◌^◌}
use Rattle.std.proofs.lemmas.List.Elements.{All-cons, All-nil}
use Rattle.std.specs.List.{All}
use Rattle.std.proofs.lemmas.Int.{ints}
use Rattle.plane.specs.Plane.{PlanePoint, Bounds, Within, In, IsTight, IsOct, box_of}
use Rattle.plane.specs.Narrow.{IsNearZero}
use Rattle.plane.proofs.Tight.{same_points}
use Rattle.grid_num.specs.declared.Point.{Point}
use Rattle.octagon.specs.Bounded.{IsInReach}
use Rattle.octagon.specs.Room.{IsAround}
use Rattle.cores.specs.Room.{IsInRoom}
use Rattle.hulls.specs.Cells.{floor_of, around}
use Rattle.hulls.proofs.Around.{Holds, IsInside, around_inside, one_least_law}
use Rattle.board_language.proofs.Centres.{halved}
use Rattle.knockouts.specs.Spokes.{IsSpokeHull}

abbrev pub corners : ℤ → ℤ → ℤ → ℤ → List Point
corners l r t b = record { x = l; y = t } ∷ record { x = r; y = t } ∷ record { x = l; y = b } ∷ record { x = r; y = b } ∷ []

pub box_tight : (l r t b : ℤ) → l ≤ℤ r → t ≤ℤ b → IsTight (box_of l r t b)
box_tight l r t b w h = record {
  top_left = omega (arith, ints);
  top = omega (arith, ints);
  top_right = omega (arith, ints);
  right = omega (arith, ints);
  bottom_right = omega (arith, ints);
  bottom = omega (arith, ints);
  bottom_left = omega (arith, ints);
  left = omega (arith, ints);
}

box_corner : (l r t b x y : ℤ) → l ≤ℤ x → x ≤ℤ r → t ≤ℤ y → y ≤ℤ b → Holds (box_of l r t b) (record { x = x; y = y })
box_corner l r t b x y w e n s = record {
  x_low = w;
  x_high = e;
  y_low = n;
  y_high = s;
  s_low = omega (arith, ints);
  s_high = omega (arith, ints);
  d_low = omega (arith, ints);
  d_high = omega (arith, ints);
}

four_all : (P : Point → Type 0) (a b c d : Point) → P a → P b → P c → P d → All P (a ∷ b ∷ c ∷ d ∷ [])
four_all P a b c d pa pb pc pd =
    All-cons P a (b ∷ c ∷ d ∷ []) pa (All-cons P b (c ∷ d ∷ []) pb (All-cons P c (d ∷ []) pc (All-cons P d [] pd (All-nil P))))

box_holds : (l r t b : ℤ) → l ≤ℤ r → t ≤ℤ b → All (Holds (box_of l r t b)) (corners l r t b)
box_holds l r t b w h =
    four_all (Holds (box_of l r t b)) (record { x = l; y = t }) (record { x = r; y = t }) (record { x = l; y = b }) (record { x = r; y = b })
    (box_corner l r t b l t (omega (arith, ints)) w (omega (arith, ints)) h)
    (box_corner l r t b r t w (omega (arith, ints)) (omega (arith, ints)) h)
    (box_corner l r t b l b (omega (arith, ints)) w h (omega (arith, ints)))
    (box_corner l r t b r b w (omega (arith, ints)) h (omega (arith, ints)))

-- the least octagon round the four corners is the rectangle
pub box_is : (l r t b : ℤ) (o : Bounds) → l ≤ℤ r → t ≤ℤ b → All (Holds o) (corners l r t b)
    → ((c : Bounds) (q : PlanePoint) → All (Holds c) (corners l r t b) → In o q → In c q) → IsOct o → o ≡ box_of l r t b
box_is l r t b o w h holds least oct =
    let ps = corners l r t b in
    let is : o ≡ around ps = one_least_law ps o (omega arith) (record { tight = oct.tight; holds = holds; least = least }) in
    let inside : IsInside o (box_of l r t b) = rw is (around_inside ps (box_of l r t b) (omega arith) (box_holds l r t b w h)) in
    let tl : Holds o (record { x = l; y = t }) = holds 0 (record { x = l; y = t }) (omega arith) in
    let tr : Holds o (record { x = r; y = t }) = holds 1 (record { x = l; y = t }) (omega arith) in
    let bl : Holds o (record { x = l; y = b }) = holds 2 (record { x = l; y = t }) (omega arith) in
    let br : Holds o (record { x = r; y = b }) = holds 3 (record { x = l; y = t }) (omega arith) in
    same_points o (box_of l r t b) oct.tight (box_tight l r t b w h) (λ x y. (
      λ p. record {
        x_low = omega (arith, ints, p.x_low, inside.x0);
        x_high = omega (arith, ints, p.x_high, inside.x1);
        y_low = omega (arith, ints, p.y_low, inside.y0);
        y_high = omega (arith, ints, p.y_high, inside.y1);
        s_low = omega (arith, ints, p.s_low, inside.s0);
        s_high = omega (arith, ints, p.s_high, inside.s1);
        d_low = omega (arith, ints, p.d_low, inside.d0);
        d_high = omega (arith, ints, p.d_high, inside.d1);
      },
      λ p. record {
        x_low = omega (arith, ints, p.x_low, tl.x_low);
        x_high = omega (arith, ints, p.x_high, br.x_high);
        y_low = omega (arith, ints, p.y_low, tl.y_low);
        y_high = omega (arith, ints, p.y_high, br.y_high);
        s_low = omega (arith, ints, p.s_low, tl.s_low);
        s_high = omega (arith, ints, p.s_high, br.s_high);
        d_low = omega (arith, ints, p.d_low, bl.d_low);
        d_high = omega (arith, ints, p.d_high, tr.d_high);
      },
    ))

reach_of : (x y : ℤ) → IsNearZero (2 ^ 40) x → IsNearZero (2 ^ 40) y → IsInReach (record { x = x; y = y })
reach_of x y h w = record { x = h; y = w }

pub corners_near : (l r t b : ℤ) → IsNearZero (2 ^ 40) l → IsNearZero (2 ^ 40) r → IsNearZero (2 ^ 40) t → IsNearZero (2 ^ 40) b → All IsInReach (corners l r t b)
corners_near l r t b hl hr ht hb =
    four_all IsInReach (record { x = l; y = t }) (record { x = r; y = t }) (record { x = l; y = b }) (record { x = r; y = b })
    (reach_of l t hl ht) (reach_of r t hr ht) (reach_of l b hl hb) (reach_of r b hr hb)

pub box_same : (l r t b l' r' t' b' : ℤ) → l ≡ l' → r ≡ r' → t ≡ t' → b ≡ b' → box_of l r t b ≡ box_of l' r' t' b'
box_same l r t b l' r' t' b' el er et eb =
    ap (λ (x : ℤ). box_of x r t b) el ∙ ap (λ (x : ℤ). box_of l' x t b) er ∙ ap (λ (x : ℤ). box_of l' r' x b) et ∙ ap (λ (x : ℤ). box_of l' r' t' x) eb

-- the corners as they are read
pub box_read : (l r t b l' r' t' b' : ℤ) (o : Bounds) → l' ≡ l → r' ≡ r → t' ≡ t → b' ≡ b → l ≤ℤ r → t ≤ℤ b → All (Holds o) (corners l' r' t' b')
    → ((c : Bounds) (q : PlanePoint) → All (Holds c) (corners l' r' t' b') → In o q → In c q) → IsOct o → o ≡ box_of l r t b
box_read l r t b l' r' t' b' o el er et eb w h holds least oct =
    box_is l' r' t' b' o (rw (el, er) w) (rw (et, eb) h) holds least oct ∙ box_same l' r' t' b' l r t b el er et eb

-- ---- the sides of a spoke, as they are read

pub less_is : (z v a : ℤ) (n : ℕ) → v ≡ z → IsNearZero 1000000000 z → a ≡ to_z w64 (of_z w64 v) -ℤ pos n → IsNearZero (2 ^ 40) a → to_z w64 (of_z w64 a) ≡ z -ℤ pos n
less_is z v a n e h ea ha = omega (arith, ints, e, h.low, h.high, ea, ha.low, ha.high)

pub more_is : (z v a : ℤ) (n : ℕ) → v ≡ z → IsNearZero 1000000000 z → a ≡ to_z w64 (of_z w64 v) +ℤ pos n → IsNearZero (2 ^ 40) a → to_z w64 (of_z w64 a) ≡ z +ℤ pos n
more_is z v a n e h ea ha = omega (arith, ints, e, h.low, h.high, ea, ha.low, ha.high)

pub near_read : (z v : ℤ) → v ≡ z → IsNearZero 1000000000 z → IsNearZero (2 ^ 39) (to_z w64 (of_z w64 v))
near_read z v e h = record { low = omega (arith, ints, e, h.low, h.high); high = omega (arith, ints, e, h.low, h.high) }

-- the centre and the sides of the hull lie within reach
pub record AreWithin (c : Point) (h : Bounds) : Type 0 where
  pub x : IsNearZero 1000000000 c.x
  pub y : IsNearZero 1000000000 c.y
  pub x0 : IsNearZero 1000000000 h.x0
  pub x1 : IsNearZero 1000000000 h.x1
  pub y0 : IsNearZero 1000000000 h.y0
  pub y1 : IsNearZero 1000000000 h.y1

pub are_near : (c : Point) (h : Bounds) → IsInRoom 250000000 c → IsSpokeHull c.x c.y h → AreWithin c h
are_near c h r s = record {
  x = record { low = omega (arith, ints, r.x.low); high = omega (arith, ints, r.x.high) };
  y = record { low = omega (arith, ints, r.y.low); high = omega (arith, ints, r.y.high) };
  x0 = record { low = s.within.x_low; high = omega (arith, ints, r.x.high, s.centre.x_low) };
  x1 = record { low = omega (arith, ints, r.x.low, s.centre.x_high); high = s.within.x_high };
  y0 = record { low = s.within.y_low; high = omega (arith, ints, r.y.high, s.centre.y_low) };
  y1 = record { low = omega (arith, ints, r.y.low, s.centre.y_high); high = s.within.y_high };
}

-- one side lies before the other
pub in_order : (x z l r : ℤ) (m n : ℕ) → l ≡ x -ℤ pos m → r ≡ z +ℤ pos n → x ≤ℤ z → l ≤ℤ r
in_order x z l r m n el er h = omega (arith, ints, el, er, h)

-- ---- centres

spoke_hull : (x y : ℤ) (h : Bounds) → Within h (floor_of 4 (x +ℤ x)) (floor_of 4 (y +ℤ y)) → IsAround 1000000000 h → IsSpokeHull (floor_of 2 x) (floor_of 2 y) h
spoke_hull x y h w r =
    let at : Within h (floor_of 2 x) (floor_of 4 (y +ℤ y)) = subst (λ (u : ℤ). Within h u (floor_of 4 (y +ℤ y))) (halved x) w in
    record { centre = subst (λ (v : ℤ). Within h (floor_of 2 x) v) (halved y) at; within = r }

pub spoke_hulls : (x y : ℤ) (hs : List Bounds) → All (λ (h : Bounds). Within h (floor_of 4 (x +ℤ x)) (floor_of 4 (y +ℤ y))) hs → All (IsAround 1000000000) hs
    → All (IsSpokeHull (floor_of 2 x) (floor_of 2 y)) hs
spoke_hulls x y hs w r k d l = spoke_hull x y (get_or hs k d) (w k d l) (r k d l)
