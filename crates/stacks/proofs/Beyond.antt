-- What the test by bounds says of the points beyond a side of p.
use Rattle.std.proofs.Common.{refl, ℕ, arith, inl, inr, ◌⊎◌}
use Rattle.std.specs.Prelude.{ℤ, pos, neg_ℤ, ◌+ℤ◌, ◌-ℤ◌, ◌*ℤ◌, ◌≤ℤ◌, ◌<ℤ◌}
use Rattle.std.proofs.lemmas.Int.{ints, by_lt_z}
use Rattle.grid_num.proofs.Products.{mul_le, mul_add}
use Rattle.octagon.specs.Inner.Hull.{IsGreater}
use Rattle.stacks.specs.declared.reach.Reach.{Reach}
use Rattle.stacks.specs.Inner.Reaches.{IsWithinReach, IsFarther, scaled, turn}
use Rattle.stacks.specs.Inner.Fits.{Keeps, IsRightFit, IsRightDownFit, IsQuarterFit, IsFit}
use Rattle.stacks.proofs.Reached.{turned_reached, reached_turned}

-- ---- at any scale
greater : (k : ℕ) (a b m : ℤ) → IsGreater a b m → IsGreater (pos k *ℤ a) (pos k *ℤ b) (pos k *ℤ m)
greater k a b m g = record {
  first = mul_le k a m g.first;
  second = mul_le k b m g.second;
  is = elim g.is [ inl e ↦ inl (rw (e) refl) | inr e ↦ inr (rw (e) refl) ];
}

farther : (k : ℕ) (p q h : Reach) → IsFarther p q h → IsFarther (scaled k p) (scaled k q) (scaled k h)
farther k p q h f = record {
  right = greater k p.right q.right h.right f.right;
  right_down = greater k p.right_down q.right_down h.right_down f.right_down;
  down = greater k p.down q.down h.down f.down;
  left_down = greater k p.left_down q.left_down h.left_down f.left_down;
  left = greater k p.left q.left h.left f.left;
  left_up = greater k p.left_up q.left_up h.left_up f.left_up;
  up = greater k p.up q.up h.up f.up;
  right_up = greater k p.right_up q.right_up h.right_up f.right_up;
}

sum_le : (k : ℕ) (a b c : ℤ) → a ≤ℤ (b +ℤ c) → (pos k *ℤ a) ≤ℤ ((pos k *ℤ b) +ℤ (pos k *ℤ c))
sum_le k a b c l = omega (arith, ints, mul_le k a (b +ℤ c) l, mul_add k b c)

keeps : (k : ℕ) (own other far here : ℤ) → Keeps own other far here → Keeps (pos k *ℤ own) (pos k *ℤ other) (pos k *ℤ far) (pos k *ℤ here)
keeps k own other far here (inl l) = inl (mul_le k own other l)
keeps k own other far here (inr l) = inr (sum_le k far here other l)

keeps_twice : (k : ℕ) (own other far here : ℤ) → Keeps own other (far +ℤ far) here → Keeps (pos k *ℤ own) (pos k *ℤ other) ((pos k *ℤ far) +ℤ (pos k *ℤ far)) (pos k *ℤ here)
keeps_twice k own other far here (inl l) = inl (mul_le k own other l)
keeps_twice k own other far here (inr l) = inr (omega (arith, ints, sum_le k (far +ℤ far) here other l, mul_add k far far))

sum_zero : (k : ℕ) (b c : ℤ) → pos 0 ≤ℤ (b +ℤ c) → pos 0 ≤ℤ ((pos k *ℤ b) +ℤ (pos k *ℤ c))
sum_zero k b c l = omega (arith, ints, mul_le k (pos 0) (b +ℤ c) l, mul_add k b c, mul_add k (pos 0) (pos 0))

right_scaled : (k : ℕ) (p q h : Reach) → IsRightFit p q h → IsRightFit (scaled k p) (scaled k q) (scaled k h)
right_scaled k p q h (inl l) = inl (mul_le k q.right p.right l)
right_scaled k p q h (inr b) = inr (record {
  right_down = mul_le k p.right_down q.right_down b.right_down;
  right_up = mul_le k p.right_up q.right_up b.right_up;
  down = keeps k p.down q.down h.right_down p.right b.down;
  up = keeps k p.up q.up h.right_up p.right b.up;
  left_down = keeps k p.left_down q.left_down h.down p.right b.left_down;
  left_up = keeps k p.left_up q.left_up h.up p.right b.left_up;
  left = sum_zero k p.right q.left b.left;
})

right_down_scaled : (k : ℕ) (p q h : Reach) → IsRightDownFit p q h → IsRightDownFit (scaled k p) (scaled k q) (scaled k h)
right_down_scaled k p q h (inl l) = inl (mul_le k q.right_down p.right_down l)
right_down_scaled k p q h (inr b) = inr (record {
  right = mul_le k p.right q.right b.right;
  down = mul_le k p.down q.down b.down;
  left_down = keeps_twice k p.left_down q.left_down h.down p.right_down b.left_down;
  right_up = keeps_twice k p.right_up q.right_up h.right p.right_down b.right_up;
  left = keeps k p.left q.left h.down p.right_down b.left;
  up = keeps k p.up q.up h.right p.right_down b.up;
  left_up = sum_zero k p.right_down q.left_up b.left_up;
})

quarter_scaled : (k : ℕ) (p q h : Reach) → IsQuarterFit p q h → IsQuarterFit (scaled k p) (scaled k q) (scaled k h)
quarter_scaled k p q h f = record { right = right_scaled k p q h f.right; right_down = right_down_scaled k p q h f.right_down }

-- ---- beyond one side
own_side : (own other most here : ℤ) → IsGreater own other most → here ≤ℤ most → own <ℤ here → here ≤ℤ other
own_side own other most here g l m = omega (arith, ints, g.is, l, m)

next_side : (own other most here : ℤ) → IsGreater own other most → here ≤ℤ most → own ≤ℤ other → here ≤ℤ other
next_side own other most here g l m = omega (arith, ints, g.is, l, m)

-- a side that is kept: there is a point beyond p here, and far is what h reaches of both together
kept_side : (own other most far here x z : ℤ) → IsGreater own other most → Keeps own other far here → z ≤ℤ most → here <ℤ x → (x +ℤ z) ≤ℤ far → z ≤ℤ other
kept_side own other most far here x z g (inl l) m b f = omega (arith, ints, g.is, l, m)
kept_side own other most far here x z g (inr l) m b f = omega (arith, ints, l, b, f)

beyond_right : (p q h : Reach) (x y : ℤ) → IsFarther p q h → IsRightFit p q h → IsWithinReach h x y → p.right <ℤ x → IsWithinReach q x y
beyond_right p q h x y f (inl l) r b = absurd (omega (arith, ints, f.right.is, l, r.right, b))
beyond_right p q h x y f (inr g) r b = record {
  right = own_side p.right q.right h.right x f.right r.right b;
  right_down = next_side p.right_down q.right_down h.right_down (x +ℤ y) f.right_down r.right_down g.right_down;
  right_up = next_side p.right_up q.right_up h.right_up (x -ℤ y) f.right_up r.right_up g.right_up;
  down = kept_side p.down q.down h.down h.right_down p.right x y f.down g.down r.down b r.right_down;
  up = kept_side p.up q.up h.up h.right_up p.right x (neg_ℤ y) f.up g.up r.up b (omega (arith, ints, r.right_up));
  left_down = kept_side p.left_down q.left_down h.left_down h.down p.right x (y -ℤ x) f.left_down g.left_down r.left_down b (omega (arith, ints, r.down));
  left_up = kept_side p.left_up q.left_up h.left_up h.up p.right x (neg_ℤ (x +ℤ y)) f.left_up g.left_up r.left_up b (omega (arith, ints, r.up));
  left = omega (arith, ints, g.left, b);
}

beyond_right_down : (p q h : Reach) (x y : ℤ) → IsFarther p q h → IsRightDownFit p q h → IsWithinReach h x y → p.right_down <ℤ (x +ℤ y) → IsWithinReach q x y
beyond_right_down p q h x y f (inl l) r b = absurd (omega (arith, ints, f.right_down.is, l, r.right_down, b))
beyond_right_down p q h x y f (inr g) r b = record {
  right_down = own_side p.right_down q.right_down h.right_down (x +ℤ y) f.right_down r.right_down b;
  right = next_side p.right q.right h.right x f.right r.right g.right;
  down = next_side p.down q.down h.down y f.down r.down g.down;
  left_down = kept_side p.left_down q.left_down h.left_down (h.down +ℤ h.down) p.right_down (x +ℤ y) (y -ℤ x) f.left_down g.left_down r.left_down b (omega (arith, ints, r.down));
  right_up = kept_side p.right_up q.right_up h.right_up (h.right +ℤ h.right) p.right_down (x +ℤ y) (x -ℤ y) f.right_up g.right_up r.right_up b (omega (arith, ints, r.right));
  left = kept_side p.left q.left h.left h.down p.right_down (x +ℤ y) (neg_ℤ x) f.left g.left r.left b (omega (arith, ints, r.down));
  up = kept_side p.up q.up h.up h.right p.right_down (x +ℤ y) (neg_ℤ y) f.up g.up r.up b (omega (arith, ints, r.right));
  left_up = omega (arith, ints, g.left_up, b);
}

-- ---- beyond any side

record IsShort (p : Reach) (x y : ℤ) : Type 0 where
  pub right : x ≤ℤ p.right
  pub right_down : (x +ℤ y) ≤ℤ p.right_down

quarter : (p q h : Reach) (x y : ℤ) → IsFarther p q h → IsQuarterFit p q h → IsWithinReach h x y → IsShort p x y ⊎ IsWithinReach q x y
quarter p q h x y f g r =
    by_lt_z {P = IsShort p x y ⊎ IsWithinReach q x y} p.right x
    (λ b. inr (beyond_right p q h x y f g.right r b))
    (λ l. by_lt_z {P = IsShort p x y ⊎ IsWithinReach q x y} p.right_down (x +ℤ y)
    (λ b. inr (beyond_right_down p q h x y f g.right_down r b))
    (λ m. inl (record { right = l; right_down = m })))

turned_farther : (p q h : Reach) → IsFarther p q h → IsFarther (turn p) (turn q) (turn h)
turned_farther p q h f = record {
  right = f.down;
  right_down = f.left_down;
  down = f.left;
  left_down = f.left_up;
  left = f.up;
  left_up = f.right_up;
  up = f.right;
  right_up = f.right_down;
}

-- the quarter seen from where it was turned
turned_quarter : (p q h : Reach) (x y : ℤ) → IsFarther p q h → IsQuarterFit (turn p) (turn q) (turn h) → IsWithinReach h x y → IsShort (turn p) y (neg_ℤ x) ⊎ IsWithinReach q x y
turned_quarter p q h x y f g r =
    elim (quarter (turn p) (turn q) (turn h) y (neg_ℤ x) (turned_farther p q h f) g (turned_reached h x y r)) [
      | inl s ↦ inl s
      | inr w ↦ inr (reached_turned q x y w)
    ]

third_quarter : (p q h : Reach) (x y : ℤ) → IsFarther p q h → IsQuarterFit (turn (turn p)) (turn (turn q)) (turn (turn h)) → IsWithinReach h x y
    → IsShort (turn (turn p)) (neg_ℤ x) (neg_ℤ y) ⊎ IsWithinReach q x y
third_quarter p q h x y f g r =
    elim (turned_quarter (turn p) (turn q) (turn h) y (neg_ℤ x) (turned_farther p q h f) g (turned_reached h x y r)) [
      | inl s ↦ inl s
      | inr w ↦ inr (reached_turned q x y w)
    ]

fourth_quarter : (p q h : Reach) (x y : ℤ) → IsFarther p q h → IsQuarterFit (turn (turn (turn p))) (turn (turn (turn q))) (turn (turn (turn h))) → IsWithinReach h x y
    → IsShort (turn (turn (turn p))) (neg_ℤ y) (neg_ℤ (neg_ℤ x)) ⊎ IsWithinReach q x y
fourth_quarter p q h x y f g r =
    elim (third_quarter (turn p) (turn q) (turn h) y (neg_ℤ x) (turned_farther p q h f) g (turned_reached h x y r)) [
      | inl s ↦ inl s
      | inr w ↦ inr (reached_turned q x y w)
    ]

short : (p : Reach) (x y : ℤ) → IsShort p x y → IsShort (turn p) y (neg_ℤ x) → IsShort (turn (turn p)) (neg_ℤ x) (neg_ℤ y)
    → IsShort (turn (turn (turn p))) (neg_ℤ y) (neg_ℤ (neg_ℤ x)) → IsWithinReach p x y
short p x y a b c d = record {
  right = a.right;
  right_down = a.right_down;
  down = b.right;
  left_down = omega (arith, ints, b.right_down);
  left = c.right;
  left_up = omega (arith, ints, c.right_down);
  up = d.right;
  right_up = omega (arith, ints, d.right_down);
}

one_of_both : (p q h : Reach) (x y : ℤ) → IsFarther p q h → IsFit p q h → IsWithinReach h x y → IsWithinReach p x y ⊎ IsWithinReach q x y
one_of_both p q h x y f g r =
    elim (quarter p q h x y f g.first r) [
      | inr w ↦ inr w
      | inl a ↦ elim (turned_quarter p q h x y f g.second r) [
        | inr w ↦ inr w
        | inl b ↦ elim (third_quarter p q h x y f g.third r) [
          | inr w ↦ inr w
          | inl c ↦ elim (fourth_quarter p q h x y f g.fourth r) [
            | inr w ↦ inr w
            | inl d ↦ inl (short p x y a b c d)
          ]
        ]
      ]
    ]

pub fit_scaled : (k : ℕ) (p q h : Reach) (x y : ℤ) → IsFarther p q h → IsFit p q h → IsWithinReach (scaled k h) x y → IsWithinReach (scaled k p) x y ⊎ IsWithinReach (scaled k q) x y
fit_scaled k p q h x y f g r =
    one_of_both (scaled k p) (scaled k q) (scaled k h) x y (farther k p q h f)
    (record {
      first = quarter_scaled k p q h g.first;
      second = quarter_scaled k (turn p) (turn q) (turn h) g.second;
      third = quarter_scaled k (turn (turn p)) (turn (turn q)) (turn (turn h)) g.third;
      fourth = quarter_scaled k (turn (turn (turn p))) (turn (turn (turn q))) (turn (turn (turn h))) g.fourth;
    })
    r
