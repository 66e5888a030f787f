-- What the functions of octagons owe, over plain bounds.
use Rattle.std.proofs.Common.{◌≡◌, refl, sym, subst, ℕ, ◌^◌, ◌≤◌, arith, w64, to_z, of_z}
use Rattle.std.specs.Prelude.{ℤ, pos, ◌+ℤ◌, ◌-ℤ◌, ◌≤ℤ◌, ◌<ℤ◌, neg_ℤ, ◌↔◌, IsTrue, Bool, true, false, not}
use Rattle.std.proofs.lemmas.Int.{ints}
use Rattle.plane.specs.Plane.{Bounds, PlanePoint, In, IsOct, HasRoom, IsMeeting, IsInSum, sum_of, AreNear, ball_of}
use Rattle.grid_num.specs.Roots.{up2_of}
use Rattle.plane.proofs.Equal.{equal}
use Rattle.plane.proofs.Points.{IsInSum-In, In-IsInSum, IsMeeting-overlap, overlap-IsMeeting}
use Rattle.plane.proofs.Near.{IsTight-sum, AreNear-bounds, bounds-AreNear, turned}
use Rattle.grid_num.proofs.Roots.{up2_le_double}
pub use Rattle.plane.specs.Narrow.{IsNearZero, Small, IsSmall}

-- a sum and a difference as the code computes them
abbrev pub code_add : ℤ → ℤ → ℤ
code_add a b = to_z w64 (of_z w64 (to_z w64 (of_z w64 a) +ℤ to_z w64 (of_z w64 b)))

abbrev pub code_sub : ℤ → ℤ → ℤ
code_sub a b = to_z w64 (of_z w64 (to_z w64 (of_z w64 a) -ℤ to_z w64 (of_z w64 b)))

pub plain_add : (a b : ℤ) → Small a → Small b → code_add a b ≡ a +ℤ b
plain_add a b h k = omega (arith, ints)

pub plain_sub : (a b : ℤ) → Small a → Small b → code_sub a b ≡ a -ℤ b
plain_sub a b h k = omega (arith, ints)

-- the numbers of an octagon are small
pub IsOct-IsSmall : (b : Bounds) → IsOct b → IsSmall b
IsOct-IsSmall b h = record {
  x0 = record { low = omega (arith, ints); high = omega (arith, ints) };
  x1 = record { low = omega (arith, ints); high = omega (arith, ints) };
  y0 = record { low = omega (arith, ints); high = omega (arith, ints) };
  y1 = record { low = omega (arith, ints); high = omega (arith, ints) };
  s0 = record { low = omega (arith, ints); high = omega (arith, ints) };
  s1 = record { low = omega (arith, ints); high = omega (arith, ints) };
  d0 = record { low = omega (arith, ints); high = omega (arith, ints) };
  d1 = record { low = omega (arith, ints); high = omega (arith, ints) };
}

abbrev pub code_sum : Bounds → Bounds → Bounds
code_sum b c =
    record {
      x0 = code_add b.x0 c.x0;
      x1 = code_add b.x1 c.x1;
      y0 = code_add b.y0 c.y0;
      y1 = code_add b.y1 c.y1;
      s0 = code_add b.s0 c.s0;
      s1 = code_add b.s1 c.s1;
      d0 = code_add b.d0 c.d0;
      d1 = code_add b.d1 c.d1;
    }

pub code_sum-is : (b c : Bounds) → IsOct b → IsOct c → code_sum b c ≡ sum_of b c
code_sum-is b c h k =
    let m = IsOct-IsSmall b h in
    let n = IsOct-IsSmall c k in
    equal (code_sum b c) (sum_of b c) (record {
      x0 = plain_add b.x0 c.x0 m.x0 n.x0;
      x1 = plain_add b.x1 c.x1 m.x1 n.x1;
      y0 = plain_add b.y0 c.y0 m.y0 n.y0;
      y1 = plain_add b.y1 c.y1 m.y1 n.y1;
      s0 = plain_add b.s0 c.s0 m.s0 n.s0;
      s1 = plain_add b.s1 c.s1 m.s1 n.s1;
      d0 = plain_add b.d0 c.d0 m.d0 n.d0;
      d1 = plain_add b.d1 c.d1 m.d1 n.d1;
    })

pub IsOct-sum : (b c : Bounds) → IsOct b → IsOct c → HasRoom (sum_of b c) → IsOct (code_sum b c)
IsOct-sum b c h k n =
    let P : Bounds → Type 0 = λ z. IsOct z in
    subst P (sym (code_sum-is b c h k))
    (record { tight = IsTight-sum b c h.tight k.tight; x_low = n.x_low; x_high = n.x_high; y_low = n.y_low; y_high = n.y_high })

pub In-sum : (b c : Bounds) → IsOct b → IsOct c → (p : PlanePoint) → In (code_sum b c) p ↔ IsInSum b c p
In-sum b c h k p =
    let P : Bounds → Type 0 = λ z. In z p ↔ IsInSum b c p in
    subst P (sym (code_sum-is b c h k)) (In-IsInSum b c p h.tight k.tight, IsInSum-In b c p)

-- ---- tests
abbrev pub code_read : ℤ → ℤ
code_read a = to_z w64 (of_z w64 a)

pub plain_read : (a : ℤ) → Small a → code_read a ≡ a
plain_read a h = omega (arith, ints)

-- what the test of two ranges says
abbrev pub Overlap : Bool → ℤ → ℤ → ℤ → ℤ → Type 0
Overlap t a0 a1 b0 b1 = IsTrue t ↔ ((code_read a0 ≤ℤ code_read b1) × (code_read b0 ≤ℤ code_read a1))

overlap_plain : (t : Bool) (a0 a1 b0 b1 : ℤ) → Small a0 → Small a1 → Small b0 → Small b1 → Overlap t a0 a1 b0 b1 → IsTrue t ↔ ((a0 ≤ℤ b1) × (b0 ≤ℤ a1))
overlap_plain t a0 a1 b0 b1 h1 h2 h3 h4 o = (
  λ i. let f = o.0 i in (omega (arith, ints, f.0), omega (arith, ints, f.1)),
  λ f. o.1 (omega (arith, ints, f.0), omega (arith, ints, f.1)),
)

pub meets_law : (b c : Bounds) (x y s d r : Bool) → IsOct b → IsOct c
    → Overlap x b.x0 b.x1 c.x0 c.x1 → Overlap y b.y0 b.y1 c.y0 c.y1 → Overlap s b.s0 b.s1 c.s0 c.s1 → Overlap d b.d0 b.d1 c.d0 c.d1
    → (IsTrue r ↔ (IsTrue x × IsTrue y × IsTrue s × IsTrue d)) → IsTrue r ↔ IsMeeting b c
meets_law b c x y s d r h k ox oy os od o =
    let m = IsOct-IsSmall b h in
    let n = IsOct-IsSmall c k in
    let px = overlap_plain x b.x0 b.x1 c.x0 c.x1 m.x0 m.x1 n.x0 n.x1 ox in
    let py = overlap_plain y b.y0 b.y1 c.y0 c.y1 m.y0 m.y1 n.y0 n.y1 oy in
    let ps = overlap_plain s b.s0 b.s1 c.s0 c.s1 m.s0 m.s1 n.s0 n.s1 os in
    let pd = overlap_plain d b.d0 b.d1 c.d0 c.d1 m.d0 m.d1 n.d0 n.d1 od in (
      λ t.
          let a = o.0 t in
          let fx = px.0 a.0 in
          let fy = py.0 a.1 in
          let fs = ps.0 a.2 in
          let fd = pd.0 a.3 in
          overlap-IsMeeting b c h.tight k.tight (record { x_low = fx.0; x_high = fx.1; y_low = fy.0; y_high = fy.1; s_low = fs.0; s_high = fs.1; d_low = fd.0; d_high = fd.1 }),
      λ p.
          let f = IsMeeting-overlap b c p in
          o.1 (px.1 (f.x_low, f.x_high), py.1 (f.y_low, f.y_high), ps.1 (f.s_low, f.s_high), pd.1 (f.d_low, f.d_high)),
    )

-- ---- distance
pub small_read : (a b : ℤ) → Small a → Small b → Small (code_read a) × Small (code_read b)
small_read a b h k = (record { low = omega (arith, ints); high = omega (arith, ints) }, record { low = omega (arith, ints); high = omega (arith, ints) })

abbrev pub Closer : Bool → ℤ → ℤ → ℤ → ℤ → ℤ → Type 0
Closer t a0 a1 b0 b1 n = IsTrue t ↔ (((code_read a0 -ℤ code_read b1) <ℤ n) × ((code_read b0 -ℤ code_read a1) <ℤ n))

closer_plain : (t : Bool) (a0 a1 b0 b1 m n : ℤ) → Small a0 → Small a1 → Small b0 → Small b1 → m ≡ n → Closer t a0 a1 b0 b1 m
    → IsTrue t ↔ (((a0 +ℤ neg_ℤ b1) <ℤ n) × (neg_ℤ n <ℤ (a1 +ℤ neg_ℤ b0)))
closer_plain t a0 a1 b0 b1 m n h1 h2 h3 h4 e o = (
  λ i. let f = o.0 i in (omega (arith, ints, f.0), omega (arith, ints, f.1)),
  λ f. o.1 (omega (arith, ints, f.0), omega (arith, ints, f.1)),
)

not_law : (t : Bool) (A : Type 0) → (IsTrue t ↔ A) → IsTrue (not t) ↔ ¬ A
not_law true A o = (λ h. absurd (cc h), λ f. absurd (f (o.0 refl)))
not_law false A o = (λ h a. cc (o.1 a), λ f. refl)

pub apart_law : (need : ℕ) (b c : Bounds) (straight slanted : ℤ) (x y s d r : Bool) → 1 ≤ need → IsOct b → IsOct c
    → straight ≡ pos need → slanted ≡ pos (up2_of need)
    → Closer x b.x0 b.x1 c.x0 c.x1 straight → Closer y b.y0 b.y1 c.y0 c.y1 straight
    → Closer s b.s0 b.s1 c.s0 c.s1 slanted → Closer d b.d0 b.d1 c.d0 c.d1 slanted
    → (IsTrue r ↔ (IsTrue x × IsTrue y × IsTrue s × IsTrue d)) → IsTrue (not r) ↔ ¬ (AreNear need b c)
unfolding ball_of turned
apart_law need b c straight slanted x y s d r one h k e1 e2 ox oy os od o =
    let m = IsOct-IsSmall b h in
    let n = IsOct-IsSmall c k in
    let px = closer_plain x b.x0 b.x1 c.x0 c.x1 straight (pos need) m.x0 m.x1 n.x0 n.x1 e1 ox in
    let py = closer_plain y b.y0 b.y1 c.y0 c.y1 straight (pos need) m.y0 m.y1 n.y0 n.y1 e1 oy in
    let ps = closer_plain s b.s0 b.s1 c.s0 c.s1 slanted (pos (up2_of need)) m.s0 m.s1 n.s0 n.s1 e2 os in
    let pd = closer_plain d b.d0 b.d1 c.d0 c.d1 slanted (pos (up2_of need)) m.d0 m.d1 n.d0 n.d1 e2 od in
    not_law r (AreNear need b c) (
      λ t.
          let a = o.0 t in
          let fx = px.0 a.0 in
          let fy = py.0 a.1 in
          let fs = ps.0 a.2 in
          let fd = pd.0 a.3 in
          bounds-AreNear need b c one h.tight k.tight
          (record { x_low = fx.0; x_high = fx.1; y_low = fy.0; y_high = fy.1; s_low = fs.0; s_high = fs.1; d_low = fd.0; d_high = fd.1 }),
      λ p.
          let f = AreNear-bounds need b c p in
          o.1 (px.1 (f.x_low, f.x_high), py.1 (f.y_low, f.y_high), ps.1 (f.s_low, f.s_high), pd.1 (f.d_low, f.d_high)),
    )

-- ---- numbers
pub plain_need : (n m : ℕ) → n ≡ m → m ≤ 2 ^ 33 → to_z w64 n ≡ pos m
plain_need n m e h = omega (arith, ints)

pub up2_room : (n : ℕ) → n ≤ 2 ^ 31 → up2_of n ≤ 2 ^ 33
up2_room n h = omega (arith, up2_le_double n)
