-- Products on whole numbers.
use Rattle.std.proofs.Common.{◌≡◌, ℕ, zero, suc, arith, ◌*◌, ◌+◌, ◌≤◌, ap, sym, ◌∙◌}
use Rattle.std.specs.Prelude.{ℤ, pos, negsuc, neg_ℤ, ◌+ℤ◌, ◌-ℤ◌, ◌*ℤ◌}
use Rattle.std.proofs.lemmas.Int.{ints}
use lib.IntN.{*ℤ_comm, zero-*ℤ}
use Rattle.grid_num.proofs.Products.{mul_add, mul_sub, mul_suc, mul_le_back}

-- a negative number times another
neg_mul : (n : ℕ) (b : ℤ) → negsuc n *ℤ b ≡ neg_ℤ (pos (n + 1) *ℤ b)
neg_mul n b = omega (arith, ints)

pub distrib : (a b c : ℤ) → a *ℤ (b +ℤ c) ≡ a *ℤ b +ℤ a *ℤ c
distrib (pos k) b c = mul_add k b c
distrib (negsuc k) b c = omega (arith, ints, neg_mul k b, neg_mul k c, neg_mul k (b +ℤ c), mul_add (k + 1) b c)

pub distrib_sub : (a b c : ℤ) → a *ℤ (b -ℤ c) ≡ a *ℤ b -ℤ a *ℤ c
distrib_sub (pos k) b c = mul_sub k b c
distrib_sub (negsuc k) b c = omega (arith, ints, neg_mul k b, neg_mul k c, neg_mul k (b -ℤ c), mul_sub (k + 1) b c)

pub square_sum : (a b : ℤ) → (a +ℤ b) *ℤ (a +ℤ b) ≡ a *ℤ a +ℤ pos 2 *ℤ (a *ℤ b) +ℤ b *ℤ b
square_sum a b = omega (arith, ints, distrib (a +ℤ b) a b, *ℤ_comm (a +ℤ b) a, *ℤ_comm (a +ℤ b) b, distrib a a b, distrib b a b, *ℤ_comm a b)

pub square_diff : (a b : ℤ) → (a -ℤ b) *ℤ (a -ℤ b) ≡ a *ℤ a -ℤ pos 2 *ℤ (a *ℤ b) +ℤ b *ℤ b
square_diff a b = omega (arith, ints, distrib_sub (a -ℤ b) a b, *ℤ_comm (a -ℤ b) a, *ℤ_comm (a -ℤ b) b, distrib_sub a a b, distrib_sub b a b, *ℤ_comm a b)

assoc_pos : (k : ℕ) (b c : ℤ) → (pos k *ℤ b) *ℤ c ≡ pos k *ℤ (b *ℤ c)
assoc_pos zero b c = omega (arith, ints, zero-*ℤ b, zero-*ℤ (b *ℤ c), zero-*ℤ c, ap (λ (z : ℤ). z *ℤ c) (zero-*ℤ b))
assoc_pos (suc k) b c =
    ap (λ (z : ℤ). z *ℤ c) (mul_suc k b)
    ∙ omega (arith, ints, assoc_pos k b c, mul_suc k (b *ℤ c), *ℤ_comm (pos k *ℤ b +ℤ b) c, distrib c (pos k *ℤ b) b, *ℤ_comm c (pos k *ℤ b), *ℤ_comm c b)

minus_zero : (a : ℤ) → neg_ℤ a ≡ pos 0 -ℤ a
minus_zero a = omega (arith, ints)

neg_left : (a b : ℤ) → neg_ℤ a *ℤ b ≡ neg_ℤ (a *ℤ b)
neg_left a b = omega (arith, ints, *ℤ_comm (neg_ℤ a) b, *ℤ_comm (pos 0) b, distrib_sub b (pos 0) a, *ℤ_comm a b, ap (λ (z : ℤ). b *ℤ z) (minus_zero a))

pub assoc : (a b c : ℤ) → (a *ℤ b) *ℤ c ≡ a *ℤ (b *ℤ c)
assoc (pos k) b c = assoc_pos k b c
assoc (negsuc k) b c =
    ap (λ (z : ℤ). z *ℤ c) (neg_mul k b) ∙ omega (arith, ints, neg_left (pos (k + 1) *ℤ b) c, assoc_pos (k + 1) b c, neg_mul k (b *ℤ c))

pub swap4 : (a b c d : ℤ) → (a *ℤ b) *ℤ (c *ℤ d) ≡ (a *ℤ c) *ℤ (b *ℤ d)
swap4 a b c d =
    assoc a b (c *ℤ d)
    ∙ ap (λ (z : ℤ). a *ℤ z) (sym (assoc b c d) ∙ ap (λ (z : ℤ). z *ℤ d) (*ℤ_comm b c) ∙ assoc c b d)
    ∙ sym (assoc a c (b *ℤ d))

-- the squared length of n w - j v by the four inner products
pub mean_square : (n j : ℕ) (a b : ℤ)
    → (pos n *ℤ a -ℤ pos j *ℤ b) *ℤ (pos n *ℤ a -ℤ pos j *ℤ b)
    ≡ pos (n * n) *ℤ (a *ℤ a) -ℤ pos 2 *ℤ (pos (n * j) *ℤ (a *ℤ b)) +ℤ pos (j * j) *ℤ (b *ℤ b)
mean_square n j a b =
    omega (
      arith,
      ints,
      square_diff (pos n *ℤ a) (pos j *ℤ b),
      swap4 (pos n) a (pos n) a,
      swap4 (pos n) a (pos j) b,
      swap4 (pos j) b (pos j) b,
    )

-- the inner and the cross product together
pub lagrange : (a b c d : ℤ)
    → (c *ℤ c +ℤ d *ℤ d) *ℤ (a *ℤ a +ℤ b *ℤ b)
    ≡ (a *ℤ c +ℤ b *ℤ d) *ℤ (a *ℤ c +ℤ b *ℤ d) +ℤ (a *ℤ d -ℤ b *ℤ c) *ℤ (a *ℤ d -ℤ b *ℤ c)
lagrange a b c d =
    omega (
      arith,
      ints,
      distrib (c *ℤ c +ℤ d *ℤ d) (a *ℤ a) (b *ℤ b),
      *ℤ_comm (c *ℤ c +ℤ d *ℤ d) (a *ℤ a),
      *ℤ_comm (c *ℤ c +ℤ d *ℤ d) (b *ℤ b),
      distrib (a *ℤ a) (c *ℤ c) (d *ℤ d),
      distrib (b *ℤ b) (c *ℤ c) (d *ℤ d),
      square_sum (a *ℤ c) (b *ℤ d),
      square_diff (a *ℤ d) (b *ℤ c),
      swap4 a c a c,
      swap4 b d b d,
      swap4 a d a d,
      swap4 b c b c,
      swap4 a c b d,
      swap4 a d b c,
      ap (λ (z : ℤ). (a *ℤ b) *ℤ z) (*ℤ_comm d c),
    )

pub times_diff : (a b c : ℤ) → (a -ℤ b) *ℤ c ≡ a *ℤ c -ℤ b *ℤ c
times_diff a b c = omega (arith, ints, *ℤ_comm (a -ℤ b) c, distrib_sub c a b, *ℤ_comm c a, *ℤ_comm c b)

pub times_sum : (a b c : ℤ) → (a +ℤ b) *ℤ c ≡ a *ℤ c +ℤ b *ℤ c
times_sum a b c = omega (arith, ints, *ℤ_comm (a +ℤ b) c, distrib c a b, *ℤ_comm c a, *ℤ_comm c b)

pub blend : (u v : ℕ) (p t a : ℤ) → (pos u *ℤ p +ℤ pos v *ℤ t) *ℤ a ≡ pos u *ℤ (p *ℤ a) +ℤ pos v *ℤ (t *ℤ a)
blend u v p t a = omega (arith, ints, times_sum (pos u *ℤ p) (pos v *ℤ t) a, assoc (pos u) p a, assoc (pos v) t a)

-- what has the weight i + j
pub weigh : (i j : ℕ) (c : ℤ) → pos (i + j) *ℤ c ≡ pos i *ℤ c +ℤ pos j *ℤ c
weigh i j c = omega (arith, ints, times_sum (pos i) (pos j) c, ap (λ (z : ℤ). z *ℤ c) (split i j))
  where
    split : (i j : ℕ) → pos (i + j) ≡ pos i +ℤ pos j
    split i j = omega (arith, ints)

pub mul_cancel : (k : ℕ) (a b : ℤ) → 1 ≤ k → pos k *ℤ a ≡ pos k *ℤ b → a ≡ b
mul_cancel k a b one e =
    let l = mul_le_back k a b one (omega (arith, ints, e)) in
    let h = mul_le_back k b a one (omega (arith, ints, e)) in
    omega (arith, ints)
