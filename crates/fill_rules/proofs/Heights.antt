-- A row between two heights, in whole numbers, and bounds that hold at a mean of two places.
use lib.IntN.{zero-*ℤ}
use Rattle.std.proofs.Math.IntN.{*ℤ_comm, pos-*ℤ-pos}
use Rattle.std.proofs.Common.{mul_comm, ◌≡◌, refl, sym, ◌∙◌, ap, ℕ, zero, suc, ◌+◌, ◌*◌, ◌≤◌, arith}
use Rattle.std.specs.Prelude.{ℤ, pos, negsuc, ◌+ℤ◌, ◌-ℤ◌, ◌*ℤ◌, ◌≤ℤ◌, ◌<ℤ◌}
use Rattle.std.proofs.lemmas.Int.{ints}
use Rattle.plane.specs.Plane.{PlanePoint, Bounds, Within, In}
use Rattle.grid_num.proofs.Products.{mul_suc, mul_le, mul_add, mul_sub, mul_le_back}
use Rattle.plane.proofs.Points.{mul_mul}

pub scale_add : (m n : ℕ) (f : ℤ) → pos (m + n) *ℤ f ≡ pos m *ℤ f +ℤ pos n *ℤ f
scale_add zero n f =
    let e : pos (0 + n) *ℤ f ≡ pos n *ℤ f = ap (λ (k : ℕ). pos k *ℤ f) (omega arith) in
    omega (arith, ints, e, zero-*ℤ f)
scale_add (suc m) n f =
    let e : pos (suc m + n) *ℤ f ≡ pos (suc (m + n)) *ℤ f = ap (λ (k : ℕ). pos k *ℤ f) (omega arith) in
    omega (arith, ints, e, mul_suc (m + n) f, mul_suc m f, scale_add m n f)

pub natural : (z : ℤ) → pos 0 ≤ℤ z → (n : ℕ) × (z ≡ pos n)
natural (pos n) h = (n, refl)
natural (negsuc n) h = absurd (omega (arith, ints))

-- how the row of p lies between the heights of low and high
pub record Row (k : ℕ) (l h y : ℤ) : Type 0 where
  pub u : ℕ
  pub v : ℕ
  pub d : ℕ
  pub one : 1 ≤ d
  pub all : u + v ≡ k * d
  pub is_u : y -ℤ pos k *ℤ l ≡ pos u
  pub is_d : h -ℤ l ≡ pos d

pub row : (k : ℕ) (l h y : ℤ) → (pos k *ℤ l) ≤ℤ y → y ≤ℤ (pos k *ℤ h) → l <ℤ h → Row k l h y
row k l h y a b less =
    let u = natural (y -ℤ pos k *ℤ l) (omega (arith, ints)) in
    let v = natural (pos k *ℤ h -ℤ y) (omega (arith, ints)) in
    let d = natural (h -ℤ l) (omega (arith, ints)) in
    let w : pos k *ℤ (h -ℤ l) ≡ pos k *ℤ pos d.0 = ap (λ z. pos k *ℤ z) d.1 in
    let m : pos k *ℤ pos d.0 ≡ pos (k * d.0) = pos-*ℤ-pos k d.0 in
    let ue : y -ℤ pos k *ℤ l ≡ pos u.0 = u.1 in
    let ve : pos k *ℤ h -ℤ y ≡ pos v.0 = v.1 in
    let de : h -ℤ l ≡ pos d.0 = d.1 in
    record {
      u = u.0;
      v = v.0;
      d = d.0;
      one = omega (arith, ints, de, less);
      all = omega (arith, ints, ue, ve, w, m, mul_sub k h l);
      is_u = ue;
      is_d = de;
    }

-- d times the bound, at scale k
pub spread : (k u v d : ℕ) (f : ℤ) → u + v ≡ k * d → pos d *ℤ (pos k *ℤ f) ≡ pos u *ℤ f +ℤ pos v *ℤ f
spread k u v d f e =
    let a : pos d *ℤ (pos k *ℤ f) ≡ pos (u + v) *ℤ f = mul_mul d k f ∙ ap (λ (n : ℕ). pos n *ℤ f) (mul_comm d k ∙ sym e) in
    omega (arith, ints, a, scale_add u v f)

pub low_cross : (k u v d : ℕ) (f a b z : ℤ) → 1 ≤ d → u + v ≡ k * d → f ≤ℤ a → f ≤ℤ b → (pos v *ℤ a +ℤ pos u *ℤ b) ≤ℤ (pos d *ℤ z) → (pos k *ℤ f) ≤ℤ z
low_cross k u v d f a b z one e h g l =
    let w : (pos v *ℤ f) ≤ℤ (pos v *ℤ a) = mul_le v f a h in
    let t : (pos u *ℤ f) ≤ℤ (pos u *ℤ b) = mul_le u f b g in
    mul_le_back d (pos k *ℤ f) z one (omega (arith, ints, spread k u v d f e))

pub high_cross : (k u v d : ℕ) (f a b z : ℤ) → 1 ≤ d → u + v ≡ k * d → a ≤ℤ f → b ≤ℤ f → (pos d *ℤ z) ≤ℤ (pos v *ℤ a +ℤ pos u *ℤ b) → z ≤ℤ (pos k *ℤ f)
high_cross k u v d f a b z one e h g l =
    let w : (pos v *ℤ a) ≤ℤ (pos v *ℤ f) = mul_le v a f h in
    let t : (pos u *ℤ b) ≤ℤ (pos u *ℤ f) = mul_le u b f g in
    mul_le_back d z (pos k *ℤ f) one (omega (arith, ints, spread k u v d f e))

-- the height, as the mean of the two
pub height : (k : ℕ) (l h y : ℤ) (r : Row k l h y) → pos r.d *ℤ y ≡ pos r.v *ℤ l +ℤ pos r.u *ℤ h
height k l h y r =
    let y' : pos r.d *ℤ y ≡ pos r.d *ℤ (pos k *ℤ l +ℤ pos r.u) = ap (λ z. pos r.d *ℤ z) (omega (arith, ints, r.is_u)) in
    let h' : pos r.u *ℤ h ≡ pos r.u *ℤ (l +ℤ pos r.d) = ap (λ z. pos r.u *ℤ z) (omega (arith, ints, r.is_d)) in
    let c : pos r.d *ℤ pos r.u ≡ pos r.u *ℤ pos r.d = *ℤ_comm (pos r.d) (pos r.u) in
    omega (arith, ints, y', h', c, mul_add r.d (pos k *ℤ l) (pos r.u), mul_add r.u l (pos r.d), spread k r.u r.v r.d l r.all)

-- the two sides of the test of a line, over whole numbers
pub test_left : (k : ℕ) (l h y lx hx : ℤ) (r : Row k l h y) → (y -ℤ pos k *ℤ l) *ℤ (hx -ℤ lx) ≡ pos r.u *ℤ hx -ℤ pos r.u *ℤ lx
test_left k l h y lx hx r =
    let e : (y -ℤ pos k *ℤ l) *ℤ (hx -ℤ lx) ≡ pos r.u *ℤ (hx -ℤ lx) = ap (λ z. z *ℤ (hx -ℤ lx)) r.is_u in
    omega (arith, ints, e, mul_sub r.u hx lx)

pub test_right : (k : ℕ) (l h y lx x : ℤ) (r : Row k l h y) → (x -ℤ pos k *ℤ lx) *ℤ (h -ℤ l) ≡ pos r.d *ℤ x -ℤ pos r.u *ℤ lx -ℤ pos r.v *ℤ lx
test_right k l h y lx x r =
    let e : (x -ℤ pos k *ℤ lx) *ℤ (h -ℤ l) ≡ pos r.d *ℤ (x -ℤ pos k *ℤ lx) = ap (λ z. (x -ℤ pos k *ℤ lx) *ℤ z) r.is_d ∙ *ℤ_comm (x -ℤ pos k *ℤ lx) (pos r.d) in
    omega (arith, ints, e, mul_sub r.d x (pos k *ℤ lx), spread k r.u r.v r.d lx r.all)

-- the point is a mean of two places, with the weights v and u
pub record IsMean (p : PlanePoint) (ax ay bx by : ℤ) : Type 0 where
  pub u : ℕ
  pub v : ℕ
  pub d : ℕ
  pub one : 1 ≤ d
  pub all : u + v ≡ p.scale * d
  pub x : pos d *ℤ p.x ≡ pos v *ℤ ax +ℤ pos u *ℤ bx
  pub y : pos d *ℤ p.y ≡ pos v *ℤ ay +ℤ pos u *ℤ by

-- bounds that hold at both places hold at the mean
pub mean_in : (f : Bounds) (p : PlanePoint) (ax ay bx by : ℤ) → Within f ax ay → Within f bx by → IsMean p ax ay bx by → In f p
mean_in f p ax ay bx by h g m =
    let k = p.scale in
    let s : pos m.d *ℤ (p.x +ℤ p.y) ≡ pos m.v *ℤ (ax +ℤ ay) +ℤ pos m.u *ℤ (bx +ℤ by) =
    omega (arith, ints, m.x, m.y, mul_add m.v ax ay, mul_add m.u bx by, mul_add m.d p.x p.y) in
    let t : pos m.d *ℤ (p.x -ℤ p.y) ≡ pos m.v *ℤ (ax -ℤ ay) +ℤ pos m.u *ℤ (bx -ℤ by) =
    omega (arith, ints, m.x, m.y, mul_sub m.v ax ay, mul_sub m.u bx by, mul_sub m.d p.x p.y) in
    record {
      x_low = low_cross k m.u m.v m.d f.x0 ax bx p.x m.one m.all h.x_low g.x_low (most _ _ (sym m.x));
      x_high = high_cross k m.u m.v m.d f.x1 ax bx p.x m.one m.all h.x_high g.x_high (most _ _ m.x);
      y_low = low_cross k m.u m.v m.d f.y0 ay by p.y m.one m.all h.y_low g.y_low (most _ _ (sym m.y));
      y_high = high_cross k m.u m.v m.d f.y1 ay by p.y m.one m.all h.y_high g.y_high (most _ _ m.y);
      s_low = low_cross k m.u m.v m.d f.s0 (ax +ℤ ay) (bx +ℤ by) (p.x +ℤ p.y) m.one m.all h.s_low g.s_low (most _ _ (sym s));
      s_high = high_cross k m.u m.v m.d f.s1 (ax +ℤ ay) (bx +ℤ by) (p.x +ℤ p.y) m.one m.all h.s_high g.s_high (most _ _ s);
      d_low = low_cross k m.u m.v m.d f.d0 (ax -ℤ ay) (bx -ℤ by) (p.x -ℤ p.y) m.one m.all h.d_low g.d_low (most _ _ (sym t));
      d_high = high_cross k m.u m.v m.d f.d1 (ax -ℤ ay) (bx -ℤ by) (p.x -ℤ p.y) m.one m.all h.d_high g.d_high (most _ _ t);
    }
  where
    most : (a b : ℤ) → a ≡ b → a ≤ℤ b
    most a b e = omega (arith, ints)
