-- The rectangle round an outline that is one unit wider than the outline's frame.
use Rattle.std.proofs.Common.{◌≡◌, refl, subst, arith, List, get_or}
use Rattle.std.specs.Prelude.{ℤ, pos, neg_ℤ, ◌+ℤ◌, ◌-ℤ◌, ◌≤ℤ◌, ◌↔◌}
use Rattle.std.specs.List.{All}
use Rattle.std.proofs.lemmas.Int.{ints}
use Rattle.plane.specs.Plane.{PlanePoint, Bounds, Within, In, IsOct, IsTight, box_of, grid_point}
use Rattle.plane.specs.Narrow.{IsNearZero}
use Rattle.plane.proofs.Tight.{tight_law, same_points}
use Rattle.plane.proofs.Equal.{equal}
use Rattle.plane.proofs.Moved.{grid_law, tight_box_law}
use Rattle.grid_num.specs.declared.Point.{Point}
use Rattle.octagon.specs.Bounded.{AreInRange}
use Rattle.slabs.specs.Outside.{IsFrame, IsAtMost}
use Rattle.outline_slab.specs.Rules.{IsPointWithin}
use Rattle.outline_slab.specs.Cuts.{IsWithinHalfMetre}
use Rattle.outline_slab.specs.Inner.Kept.{IsFrameKept}

abbrev wide : Bounds
wide = box_of (neg_ℤ (pos 250000000)) (pos 250000000) (neg_ℤ (pos 250000000)) (pos 250000000)

within_wide : (p : Point) → IsPointWithin 250000000 p → Within wide p.x p.y
within_wide p w =
    let a = w.x in
    let b = w.y in
    record { x_low = a.low; x_high = a.high; y_low = b.low; y_high = b.high; s_low = omega (arith, ints); s_high = omega (arith, ints); d_low = omega (arith, ints); d_high = omega (arith, ints) }

-- each bound of the frame is attained, and lies within the vertices' reach
pub frame_nearby : (cs : List Point) (f : Bounds) → All (IsPointWithin 250000000) cs → IsTight f
    → ((b : Bounds) (p : PlanePoint) → All (λ q. Within b q.x q.y) cs → In f p → In b p) → IsWithinHalfMetre f
frame_nearby cs f all t least =
    let a = (tight_law f).0 t in
    let at : (x y : ℤ) → Within f x y → Within wide x y = λ x y w.
    (grid_law wide x y).0 (least wide (grid_point x y) (λ k d h. within_wide (get_or cs k d) (all k d h)) ((grid_law f x y).1 w)) in
    let x0 = at f.x0 a.x0.0 a.x0.1 in
    let x1 = at f.x1 a.x1.0 a.x1.1 in
    let y0 = at a.y0.0 f.y0 a.y0.1 in
    let y1 = at a.y1.0 f.y1 a.y1.1 in
    record {
      x0 = record { low = x0.x_low; high = x0.x_high };
      x1 = record { low = x1.x_low; high = x1.x_high };
      y0 = record { low = y0.y_low; high = y0.y_high };
      y1 = record { low = y1.y_low; high = y1.y_high };
    }

-- ---- the rectangle, by its four sides
abbrev round : ℤ → ℤ → ℤ → ℤ → Bounds
round l r t b = box_of l r t b

-- one unit round the frame
pub record IsRound (f : Bounds) (l r t b : ℤ) : Type 0 where
  pub left : l ≡ f.x0 -ℤ pos 1
  pub right : r ≡ f.x1 +ℤ pos 1
  pub top : t ≡ f.y0 -ℤ pos 1
  pub bottom : b ≡ f.y1 +ℤ pos 1

pub round_near : (f : Bounds) (l r t b : ℤ) → IsWithinHalfMetre f → IsRound f l r t b
    → (IsNearZero 250000001 l × IsNearZero 250000001 r) × (IsNearZero 250000001 t × IsNearZero 250000001 b)
round_near f l r t b n e =
    let p = n.x0 in
    let q = n.x1 in
    let u = n.y0 in
    let v = n.y1 in
    let el = e.left in
    let er = e.right in
    let et = e.top in
    let eb = e.bottom in (
      (record { low = omega (arith, ints); high = omega (arith, ints) }, record { low = omega (arith, ints); high = omega (arith, ints) }),
      (record { low = omega (arith, ints); high = omega (arith, ints) }, record { low = omega (arith, ints); high = omega (arith, ints) }),
    )

pub round_range : (f c : Bounds) (l r t b : ℤ) → IsWithinHalfMetre f → IsRound f l r t b → c ≡ box_of l r t b → AreInRange c
round_range f c l r t b n e is = rw is
    (let w = round_near f l r t b n e in
    let x = w.0.0 in
    let y = w.0.1 in
    let z = w.1.0 in
    let v = w.1.1 in
    record {
      x0 = record { low = omega (arith, ints); high = omega (arith, ints) };
      x1 = record { low = omega (arith, ints); high = omega (arith, ints) };
      y0 = record { low = omega (arith, ints); high = omega (arith, ints) };
      y1 = record { low = omega (arith, ints); high = omega (arith, ints) };
      s0 = record { low = omega (arith, ints); high = omega (arith, ints) };
      s1 = record { low = omega (arith, ints); high = omega (arith, ints) };
      d0 = record { low = omega (arith, ints); high = omega (arith, ints) };
      d1 = record { low = omega (arith, ints); high = omega (arith, ints) };
    })

ordered : (f : Bounds) → IsTight f → (f.x0 ≤ℤ f.x1) × (f.y0 ≤ℤ f.y1)
ordered f t = let a = (tight_law f).0 t in let x = a.x0.1 in let y = a.y0.1 in (omega (arith, ints, x.x_high), omega (arith, ints, y.y_high))

-- the rectangle has a grid point
pub round_some : (f c : Bounds) (l r t b : ℤ) → IsTight f → IsRound f l r t b → c ≡ box_of l r t b → ((x y : ℤ) → Within c x y → ⊥) → ⊥
round_some f c l r t b tight e is none =
    let o = ordered f tight in
    let h = o.0 in
    let g = o.1 in
    let el = e.left in
    let er = e.right in
    let et = e.top in
    let eb = e.bottom in
    none f.x0 f.y0 (rw is (record {
      x_low = omega (arith, ints);
      x_high = omega (arith, ints);
      y_low = omega (arith, ints);
      y_high = omega (arith, ints);
      s_low = omega (arith, ints);
      s_high = omega (arith, ints);
      d_low = omega (arith, ints);
      d_high = omega (arith, ints);
    }))

-- so it is a frame
pub round_frame : (cs : List Point) (f c o : Bounds) (l r t b : ℤ) → IsTight f → All (λ q. Within f q.x q.y) cs → IsRound f l r t b → c ≡ box_of l r t b
    → IsOct o → ((x y : ℤ) → Within o x y ↔ Within c x y) → IsFrame cs o
round_frame cs f c o l r t b tight holds e is oct same =
    let w = ordered f tight in
    let el = e.left in
    let er = e.right in
    let et = e.top in
    let eb = e.bottom in
    let box = tight_box_law l r t b (let h = w.0 in omega (arith, ints, h, el, er)) (let h = w.1 in omega (arith, ints, h, et, eb)) in
    let whole : o ≡ round l r t b = same_points o (round l r t b) oct.tight box (subst (λ (d : Bounds). (x y : ℤ) → Within o x y ↔ Within d x y) is same) in
    rw whole
    (record {
      box = refl;
      around = λ k d h.
          (let i = holds k d h in
          record {
            x_low = omega (arith, ints, i.x_low, el);
            x_high = omega (arith, ints, i.x_high, er);
            y_low = omega (arith, ints, i.y_low, et);
            y_high = omega (arith, ints, i.y_high, eb);
            s_low = omega (arith, ints, i.x_low, i.y_low, el, et);
            s_high = omega (arith, ints, i.x_high, i.y_high, er, eb);
            d_low = omega (arith, ints, i.x_low, i.y_high, el, eb);
            d_high = omega (arith, ints, i.x_high, i.y_low, er, et);
          });
    })

pub box_is : (l r t b x0 x1 y0 y1 s0 s1 d0 d1 : ℤ) → x0 ≡ l → x1 ≡ r → y0 ≡ t → y1 ≡ b → s0 ≡ l +ℤ t → s1 ≡ r +ℤ b → d0 ≡ l -ℤ b → d1 ≡ r -ℤ t
    → record { x0 = x0; x1 = x1; y0 = y0; y1 = y1; s0 = s0; s1 = s1; d0 = d0; d1 = d1 } ≡ box_of l r t b
box_is l r t b x0 x1 y0 y1 s0 s1 d0 d1 e1 e2 e3 e4 e5 e6 e7 e8 =
    equal (record { x0 = x0; x1 = x1; y0 = y0; y1 = y1; s0 = s0; s1 = s1; d0 = d0; d1 = d1 }) (box_of l r t b)
    (record { x0 = e1; x1 = e2; y0 = e3; y1 = e4; s0 = e5; s1 = e6; d0 = e7; d1 = e8 })

-- ---- and the least one
all_inner : (cs : List Point) (b : Bounds) → IsFrame cs b → All (λ q. Within (box_of (b.x0 +ℤ pos 1) (b.x1 -ℤ pos 1) (b.y0 +ℤ pos 1) (b.y1 -ℤ pos 1)) q.x q.y) cs
all_inner cs b f = λ k d h.
    let i = f.around k d h in
    record {
      x_low = omega (arith, ints, i.x_low);
      x_high = omega (arith, ints, i.x_high);
      y_low = omega (arith, ints, i.y_low);
      y_high = omega (arith, ints, i.y_high);
      s_low = omega (arith, ints, i.x_low, i.y_low);
      s_high = omega (arith, ints, i.x_high, i.y_high);
      d_low = omega (arith, ints, i.x_low, i.y_high);
      d_high = omega (arith, ints, i.x_high, i.y_low);
    }

pub round_least : (cs : List Point) (f c o : Bounds) (l r t b : ℤ) → IsTight f → ((d : Bounds) (p : PlanePoint) → All (λ q. Within d q.x q.y) cs → In f p → In d p)
    → IsRound f l r t b → c ≡ box_of l r t b → IsOct o → ((x y : ℤ) → Within o x y ↔ Within c x y) → (d : Bounds) → IsFrame cs d → IsAtMost o d
round_least cs f c o l r t b tight least e is oct same d frame =
    let w = ordered f tight in
    let el = e.left in
    let er = e.right in
    let et = e.top in
    let eb = e.bottom in
    let box = tight_box_law l r t b (let h = w.0 in omega (arith, ints, h, el, er)) (let h = w.1 in omega (arith, ints, h, et, eb)) in
    let whole : o ≡ round l r t b = same_points o (round l r t b) oct.tight box (subst (λ (d : Bounds). (x y : ℤ) → Within o x y ↔ Within d x y) is same) in
    let a = (tight_law f).0 tight in
    let n = box_of (d.x0 +ℤ pos 1) (d.x1 -ℤ pos 1) (d.y0 +ℤ pos 1) (d.y1 -ℤ pos 1) in
    let at : (x y : ℤ) → Within f x y → Within n x y = λ x y v. (grid_law n x y).0 (least n (grid_point x y) (all_inner cs d frame) ((grid_law f x y).1 v)) in
    let x0 = at f.x0 a.x0.0 a.x0.1 in
    let x1 = at f.x1 a.x1.0 a.x1.1 in
    let y0 = at a.y0.0 f.y0 a.y0.1 in
    let y1 = at a.y1.0 f.y1 a.y1.1 in
    rw whole
    (record {
      left = omega (arith, ints, x0.x_low, el);
      right = omega (arith, ints, x1.x_high, er);
      top = omega (arith, ints, y0.y_low, et);
      bottom = omega (arith, ints, y1.y_high, eb);
    })

-- ---- what is kept as the frame
pub frame_kept : (cs slice : List Point) (f : Bounds) → slice ≡ cs → All (IsPointWithin 250000000) cs → All (λ q. Within f q.x q.y) slice
    → ((b : Bounds) (p : PlanePoint) → All (λ q. Within b q.x q.y) slice → In f p → In b p) → IsOct f → IsFrameKept cs f
frame_kept cs slice f e within holds least oct =
    let at : All (λ q. Within f q.x q.y) cs = subst (λ (q : List Point). All (λ v. Within f v.x v.y) q) e holds in
    let under : (b : Bounds) (p : PlanePoint) → All (λ q. Within b q.x q.y) cs → In f p → In b p = subst (λ (q : List Point). (b : Bounds) (p : PlanePoint) → All (λ v. Within b v.x v.y) q → In f p → In b p) e least in
    record { holds = at; least = under; oct = oct; near = frame_nearby cs f within oct.tight under }
