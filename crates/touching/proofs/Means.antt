-- A number between two others is a mean of them, with weights that make the mean of another coordinate too.
use Rattle.std.proofs.Common.{◌≡◌, refl, ℕ, ◌+◌, ◌≤◌, arith, ap, sym, ◌∙◌}
use Rattle.std.specs.Prelude.{ℤ, pos, ◌+ℤ◌, ◌-ℤ◌, ◌*ℤ◌, ◌≤ℤ◌, ◌<ℤ◌}
use Rattle.std.proofs.lemmas.Int.{ints, by_lt_z}
use lib.IntN.{*ℤ_comm, zero-*ℤ}
use Rattle.touching.proofs.Ring.{assoc, weigh}
use Rattle.touching.proofs.Short.{natural}
use Rattle.grid_num.proofs.Products.{mul_add, mul_sub}
use Rattle.plane.proofs.Points.{mul_swap}

record Means (k : ℕ) (a b x : ℤ) : Type 0 where
  i : ℕ
  j : ℕ
  some : 1 ≤ i + j
  is : (pos i *ℤ x +ℤ pos j *ℤ x) ≡ pos k *ℤ (pos i *ℤ a +ℤ pos j *ℤ b)

-- i = k b - x and j = x - k a
weighted : (k i j : ℕ) (a b x : ℤ) → pos i ≡ (pos k *ℤ b -ℤ x) → pos j ≡ (x -ℤ pos k *ℤ a)
    → (pos i *ℤ x +ℤ pos j *ℤ x) ≡ pos k *ℤ (pos i *ℤ a +ℤ pos j *ℤ b)
weighted k i j a b x ei ej =
    let ea : pos k *ℤ a ≡ x -ℤ pos j = omega (arith, ints) in
    let eb : pos k *ℤ b ≡ x +ℤ pos i = omega (arith, ints) in
    omega (
      arith,
      ints,
      mul_add k (pos i *ℤ a) (pos j *ℤ b),
      shift k i a,
      shift k j b,
      ap (λ (z : ℤ). pos i *ℤ z) ea,
      ap (λ (z : ℤ). pos j *ℤ z) eb,
      mul_sub i x (pos j),
      mul_add j x (pos i),
    )
  where
    shift : (k i : ℕ) (a : ℤ) → pos k *ℤ (pos i *ℤ a) ≡ pos i *ℤ (pos k *ℤ a)
    shift k i a = sym (assoc (pos k) (pos i) a) ∙ ap (λ (z : ℤ). z *ℤ a) (*ℤ_comm (pos k) (pos i)) ∙ assoc (pos i) (pos k) a

means : (k : ℕ) (a b x : ℤ) → (pos k *ℤ a) ≤ℤ x → x ≤ℤ (pos k *ℤ b) → (pos k *ℤ a) <ℤ (pos k *ℤ b) → Means k a b x
means k a b x l h lk =
    let i = natural (pos k *ℤ b -ℤ x) (omega (arith, ints)) in
    let j = natural (x -ℤ pos k *ℤ a) (omega (arith, ints)) in
    record { i = i.0; j = j.0; some = omega (arith, ints, i.1, j.1); is = weighted k i.0 j.0 a b x (sym i.1) (sym j.1) }

-- x, at the scale k, has the weights i and j between a and b
pub record Between (k : ℕ) (a b x : ℤ) : Type 0 where
  pub i : ℕ
  pub j : ℕ
  pub some : 1 ≤ i + j
  pub is : pos (i + j) *ℤ x ≡ pos k *ℤ (pos i *ℤ a +ℤ pos j *ℤ b)

pub upward : (k : ℕ) (a b x : ℤ) → (pos k *ℤ a) ≤ℤ x → x ≤ℤ (pos k *ℤ b) → Between k a b x
upward k a b x l h =
    by_lt_z {P = Between k a b x} (pos k *ℤ a) (pos k *ℤ b)
    (λ less. let m = means k a b x l h less in record { i = m.i; j = m.j; some = m.some; is = omega (arith, ints, m.is, weigh m.i m.j x) })
    (λ same. record { i = 1; j = 0; some = omega arith; is = omega (arith, ints, ap (λ (z : ℤ). pos k *ℤ z) (first a b)) })
  where
    first : (a b : ℤ) → (pos 1 *ℤ a +ℤ pos 0 *ℤ b) ≡ a
    first a b = omega (arith, ints, zero-*ℤ b)

pub downward : (k : ℕ) (a b x : ℤ) → (pos k *ℤ b) ≤ℤ x → x ≤ℤ (pos k *ℤ a) → Between k a b x
downward k a b x l h =
    let m = upward k b a x l h in
    record {
      i = m.j;
      j = m.i;
      some = omega (arith, m.some);
      is = omega (arith, ints, m.is, weigh m.i m.j x, weigh m.j m.i x, mul_add k (pos m.i *ℤ b) (pos m.j *ℤ a), mul_add k (pos m.j *ℤ a) (pos m.i *ℤ b));
    }

-- a coordinate that stays
pub level : (k i j : ℕ) (c x : ℤ) → x ≡ pos k *ℤ c → pos (i + j) *ℤ x ≡ pos k *ℤ (pos i *ℤ c +ℤ pos j *ℤ c)
level k i j c x e =
    omega (
      arith,
      ints,
      ap (λ (z : ℤ). pos (i + j) *ℤ z) e,
      mul_swap (i + j) k c,
      ap (λ (z : ℤ). pos k *ℤ z) (weigh i j c),
    )

-- one that goes along, c further on
along : (k i j : ℕ) (a b c x y : ℤ) → pos (i + j) *ℤ y ≡ pos k *ℤ (pos i *ℤ a +ℤ pos j *ℤ b) → x ≡ y +ℤ pos k *ℤ c
    → pos (i + j) *ℤ x ≡ pos k *ℤ (pos i *ℤ (a +ℤ c) +ℤ pos j *ℤ (b +ℤ c))
along k i j a b c x y h e =
    omega (
      arith,
      ints,
      ap (λ (z : ℤ). pos (i + j) *ℤ z) e,
      mul_add (i + j) y (pos k *ℤ c),
      level k i j c (pos k *ℤ c) refl,
      mul_add i a c,
      mul_add j b c,
      mul_add k (pos i *ℤ a +ℤ pos j *ℤ b) (pos i *ℤ c +ℤ pos j *ℤ c),
      ap (λ (z : ℤ). pos k *ℤ z) (both (pos i *ℤ a) (pos j *ℤ b) (pos i *ℤ c) (pos j *ℤ c) _ _ (mul_add i a c) (mul_add j b c)),
    )
  where
    both : (a b c d e f : ℤ) → e ≡ a +ℤ c → f ≡ b +ℤ d → e +ℤ f ≡ (a +ℤ b) +ℤ (c +ℤ d)
    both a b c d e f h g = omega (arith, ints)

-- one that goes the other way, from c
against : (k i j : ℕ) (a b c x y : ℤ) → pos (i + j) *ℤ y ≡ pos k *ℤ (pos i *ℤ a +ℤ pos j *ℤ b) → x ≡ pos k *ℤ c -ℤ y
    → pos (i + j) *ℤ x ≡ pos k *ℤ (pos i *ℤ (c -ℤ a) +ℤ pos j *ℤ (c -ℤ b))
against k i j a b c x y h e =
    omega (
      arith,
      ints,
      ap (λ (z : ℤ). pos (i + j) *ℤ z) e,
      mul_sub (i + j) (pos k *ℤ c) y,
      level k i j c (pos k *ℤ c) refl,
      mul_sub k (pos i *ℤ c +ℤ pos j *ℤ c) (pos i *ℤ a +ℤ pos j *ℤ b),
      ap (λ (z : ℤ). pos k *ℤ z) (both (pos i *ℤ a) (pos j *ℤ b) (pos i *ℤ c) (pos j *ℤ c) _ _ (mul_sub i c a) (mul_sub j c b)),
    )
  where
    both : (a b c d e f : ℤ) → e ≡ c -ℤ a → f ≡ d -ℤ b → e +ℤ f ≡ (c +ℤ d) -ℤ (a +ℤ b)
    both a b c d e f h g = omega (arith, ints)

pub along_to : (k i j : ℕ) (a b c d e x y : ℤ) → d ≡ a +ℤ c → e ≡ b +ℤ c → pos (i + j) *ℤ y ≡ pos k *ℤ (pos i *ℤ a +ℤ pos j *ℤ b)
    → x ≡ y +ℤ pos k *ℤ c → pos (i + j) *ℤ x ≡ pos k *ℤ (pos i *ℤ d +ℤ pos j *ℤ e)
along_to k i j a b c d e x y hd he h g = rw (hd, he) (along k i j a b c x y h g)

pub against_to : (k i j : ℕ) (a b c d e x y : ℤ) → d ≡ c -ℤ a → e ≡ c -ℤ b → pos (i + j) *ℤ y ≡ pos k *ℤ (pos i *ℤ a +ℤ pos j *ℤ b)
    → x ≡ pos k *ℤ c -ℤ y → pos (i + j) *ℤ x ≡ pos k *ℤ (pos i *ℤ d +ℤ pos j *ℤ e)
against_to k i j a b c d e x y hd he h g = rw (hd, he) (against k i j a b c x y h g)
