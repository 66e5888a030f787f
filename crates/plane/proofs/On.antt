-- The points of a level, upright or slanted edge in linear form.
use Rattle.std.proofs.Common.{◌≡◌, refl, sym, ◌∙◌, ap, ℕ, zero, suc, ◌≤◌, ◌⊎◌, inl, inr, arith}
use Rattle.std.specs.Prelude.{ℤ, pos, negsuc, neg_ℤ, ◌+ℤ◌, ◌-ℤ◌, ◌*ℤ◌}
use Rattle.std.proofs.lemmas.Int.{ints, by_lt_z}
use Rattle.plane.specs.Plane.{PlanePoint}
use Rattle.grid_num.proofs.Products.{mul_add, mul_sub, mul_lt}
use Rattle.plane.specs.Covering.{Edge, IsOn, Between}
use Rattle.plane.proofs.Counts.{neg_pos, level_run, rise_run, fall_run}

pub same_pos : (n : ℕ) (c e : ℤ) → 1 ≤ n → pos n *ℤ c ≡ pos n *ℤ e → c ≡ e
same_pos n c e one h =
    by_lt_z {P = c ≡ e} c e
    (λ l. absurd (let m = mul_lt n c e one l in omega (arith, ints)))
    (λ g. by_lt_z {P = c ≡ e} e c (λ l. absurd (let m = mul_lt n e c one l in omega (arith, ints))) (λ f. omega (arith, ints)))

same_factor : (d c e : ℤ) → d *ℤ c ≡ d *ℤ e → (d ≡ pos 0) ⊎ (c ≡ e)
same_factor (pos zero) c e h = inl refl
same_factor (pos (suc n)) c e h = inr (same_pos (suc n) c e (omega arith) h)
same_factor (negsuc n) c e h = inr (same_pos (suc n) c e (omega arith) (let m : negsuc n *ℤ c ≡ neg_ℤ (pos (suc n) *ℤ c) = neg_pos (suc n) c in let o : negsuc n *ℤ e ≡ neg_ℤ (pos (suc n) *ℤ e) = neg_pos (suc n) e in omega (arith, ints)))

pub at : (k : ℕ) (a b : ℤ) → a ≡ b → pos k *ℤ a ≡ pos k *ℤ b
at k a b e = ap (λ (z : ℤ). pos k *ℤ z) e

-- ---- level
pub on_level : (e : Edge) (p : PlanePoint) → e.start.y ≡ e.finish.y → IsOn e p → p.y ≡ pos p.scale *ℤ e.start.y
on_level e p h o = let s = at p.scale e.start.y e.finish.y h in let b = o.along in omega (arith, ints)

pub level_on : (e : Edge) (p : PlanePoint) → e.start.y ≡ e.finish.y → p.y ≡ pos p.scale *ℤ e.start.y
    → Between (pos p.scale *ℤ e.start.x) (pos p.scale *ℤ e.finish.x) p.x → IsOn e p
level_on e p h y x =
    let s = at p.scale e.start.y e.finish.y h in
    record {
      line =
          level_run (e.finish.y -ℤ e.start.y) (e.finish.x -ℤ e.start.x) (p.x -ℤ pos p.scale *ℤ e.start.x) (omega (arith, ints))
          ∙ ap (λ (z : ℤ). (e.finish.x -ℤ e.start.x) *ℤ z) (zero_is p.y (pos p.scale *ℤ e.start.y) y);
      across = x;
      along = inl (omega (arith, ints), omega (arith, ints));
    }
  where
    zero_is : (a b : ℤ) → a ≡ b → pos 0 ≡ a -ℤ b
    zero_is a b e = omega (arith, ints)

-- ---- upright
pub on_upright : (e : Edge) (p : PlanePoint) → e.start.x ≡ e.finish.x → IsOn e p → p.x ≡ pos p.scale *ℤ e.start.x
on_upright e p h o = let s = at p.scale e.start.x e.finish.x h in let b = o.across in omega (arith, ints)

pub upright_on : (e : Edge) (p : PlanePoint) → e.start.x ≡ e.finish.x → p.x ≡ pos p.scale *ℤ e.start.x
    → Between (pos p.scale *ℤ e.start.y) (pos p.scale *ℤ e.finish.y) p.y → IsOn e p
upright_on e p h x y =
    let s = at p.scale e.start.x e.finish.x h in
    record {
      line = sym
          (level_run (e.finish.x -ℤ e.start.x) (e.finish.y -ℤ e.start.y) (p.y -ℤ pos p.scale *ℤ e.start.y) (omega (arith, ints))
          ∙ ap (λ (z : ℤ). (e.finish.y -ℤ e.start.y) *ℤ z) (zero_is p.x (pos p.scale *ℤ e.start.x) x));
      across = inl (omega (arith, ints), omega (arith, ints));
      along = y;
    }
  where
    zero_is : (a b : ℤ) → a ≡ b → pos 0 ≡ a -ℤ b
    zero_is a b e = omega (arith, ints)

-- ---- rising: x - y stays
pub on_rise : (e : Edge) (p : PlanePoint) → e.finish.x -ℤ e.start.x ≡ e.finish.y -ℤ e.start.y → IsOn e p
    → p.x -ℤ p.y ≡ pos p.scale *ℤ (e.start.x -ℤ e.start.y)
on_rise e p h o =
    let d = mul_sub p.scale e.start.x e.start.y in
    elim (same_factor (e.finish.y -ℤ e.start.y) (p.x -ℤ pos p.scale *ℤ e.start.x) (p.y -ℤ pos p.scale *ℤ e.start.y)
    (o.line ∙ rise_run (e.finish.x -ℤ e.start.x) (e.finish.y -ℤ e.start.y) (p.y -ℤ pos p.scale *ℤ e.start.y) h)) [
      | inl z ↦
          (let s = at p.scale e.start.x e.finish.x (omega (arith, ints)) in
          let t = at p.scale e.start.y e.finish.y (omega (arith, ints)) in
          let b = o.across in
          let c = o.along in
          omega (arith, ints))
      | inr z ↦ omega (arith, ints)
    ]

pub rise_on : (e : Edge) (p : PlanePoint) → e.finish.x -ℤ e.start.x ≡ e.finish.y -ℤ e.start.y
    → p.x -ℤ p.y ≡ pos p.scale *ℤ (e.start.x -ℤ e.start.y)
    → Between (pos p.scale *ℤ e.start.y) (pos p.scale *ℤ e.finish.y) p.y → IsOn e p
rise_on e p h d y =
    let m = mul_sub p.scale e.start.x e.start.y in
    let n = mul_sub p.scale e.finish.x e.finish.y in
    let s = at p.scale (e.start.x -ℤ e.start.y) (e.finish.x -ℤ e.finish.y) (omega (arith, ints)) in
    record {
      line =
          ap (λ (z : ℤ). (e.finish.y -ℤ e.start.y) *ℤ z) (moved p.x p.y (pos p.scale *ℤ e.start.x) (pos p.scale *ℤ e.start.y) (omega (arith, ints)))
          ∙ sym (rise_run (e.finish.x -ℤ e.start.x) (e.finish.y -ℤ e.start.y) (p.y -ℤ pos p.scale *ℤ e.start.y) h);
      across = elim y [ inl w ↦ inl (omega (arith, ints), omega (arith, ints)) | inr w ↦ inr (omega (arith, ints), omega (arith, ints)) ];
      along = y;
    }
  where
    moved : (x y a b : ℤ) → x -ℤ y ≡ a -ℤ b → x -ℤ a ≡ y -ℤ b
    moved x y a b e = omega (arith, ints)

-- ---- falling: x + y stays
pub on_fall : (e : Edge) (p : PlanePoint) → e.finish.x -ℤ e.start.x ≡ neg_ℤ (e.finish.y -ℤ e.start.y) → IsOn e p
    → p.x +ℤ p.y ≡ pos p.scale *ℤ (e.start.x +ℤ e.start.y)
on_fall e p h o =
    let d = mul_add p.scale e.start.x e.start.y in
    elim (same_factor (e.finish.y -ℤ e.start.y) (p.x -ℤ pos p.scale *ℤ e.start.x) (neg_ℤ (p.y -ℤ pos p.scale *ℤ e.start.y))
    (o.line ∙ fall_run (e.finish.x -ℤ e.start.x) (e.finish.y -ℤ e.start.y) (p.y -ℤ pos p.scale *ℤ e.start.y) h)) [
      | inl z ↦
          (let s = at p.scale e.start.x e.finish.x (omega (arith, ints)) in
          let t = at p.scale e.start.y e.finish.y (omega (arith, ints)) in
          let b = o.across in
          let c = o.along in
          omega (arith, ints))
      | inr z ↦ omega (arith, ints)
    ]

pub fall_on : (e : Edge) (p : PlanePoint) → e.finish.x -ℤ e.start.x ≡ neg_ℤ (e.finish.y -ℤ e.start.y)
    → p.x +ℤ p.y ≡ pos p.scale *ℤ (e.start.x +ℤ e.start.y)
    → Between (pos p.scale *ℤ e.start.y) (pos p.scale *ℤ e.finish.y) p.y → IsOn e p
fall_on e p h d y =
    let m = mul_add p.scale e.start.x e.start.y in
    let n = mul_add p.scale e.finish.x e.finish.y in
    let s = at p.scale (e.start.x +ℤ e.start.y) (e.finish.x +ℤ e.finish.y) (omega (arith, ints)) in
    record {
      line =
          ap (λ (z : ℤ). (e.finish.y -ℤ e.start.y) *ℤ z) (moved p.x p.y (pos p.scale *ℤ e.start.x) (pos p.scale *ℤ e.start.y) (omega (arith, ints)))
          ∙ sym (fall_run (e.finish.x -ℤ e.start.x) (e.finish.y -ℤ e.start.y) (p.y -ℤ pos p.scale *ℤ e.start.y) h);
      across = elim y [ inl w ↦ inr (omega (arith, ints), omega (arith, ints)) | inr w ↦ inl (omega (arith, ints), omega (arith, ints)) ];
      along = y;
    }
  where
    moved : (x y a b : ℤ) → x +ℤ y ≡ a +ℤ b → x -ℤ a ≡ neg_ℤ (y -ℤ b)
    moved x y a b e = omega (arith, ints)
