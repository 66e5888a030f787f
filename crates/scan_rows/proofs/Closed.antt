-- The closed form of a count, and its bounds.
use Rattle.std.proofs.Common.{◌≡◌, refl, inl, inr, ℕ, ◌+◌, ◌*◌, ◌-◌, ◌/◌, ◌≤◌, ◌<◌, ◌^◌, List, [], ◌∷◌, ◌++◌, length, get_or, take, arith}
use Rattle.std.specs.Prelude.{ℤ, pos, neg_ℤ, ◌+ℤ◌, ◌-ℤ◌}
use Rattle.std.proofs.lemmas.Int.{ints}
use Rattle.plane.specs.Plane.{Bounds, Within, IsOct}
use Rattle.grid_sets.specs.Points.{HasPoint, AreApart, IsCount, triangle}
use Rattle.grid_sets.proofs.Counting.{count_le, count_join, count_none}
use Rattle.grid_sets.proofs.OctCount.{IsShape, triangle_double, triangles_fit, octagon_rest}
use Rattle.scan_rows.proofs.Lists.{has_end, own_here, more_by}

pub half_product : (n : ℕ) → n * (n + 1) / 2 ≡ triangle n
half_product n = let d = triangle_double n in halved (n * (n + 1)) (triangle n) d
  where
    halved : (m t : ℕ) → 2 * t ≡ m → m / 2 ≡ t
    halved m t e = omega arith

-- n and n + 1 within 2 ^ 43 + 1
pub product_le : (n m : ℕ) → n ≤ m → n * (n + 1) ≤ m * (m + 1)
product_le n m l = grown n (m - n) m (omega arith)
  where
    grown : (n k m : ℕ) → m ≡ n + k → n * (n + 1) ≤ m * (m + 1)
    grown n k m e = rw e (omega arith)

pub product_small : (n : ℕ) → n ≤ 2 ^ 43 → n * (n + 1) ≤ 2 ^ 87
product_small n l = let h = product_le n (2 ^ 43) l in omega arith

triangle_zero : triangle 0 ≡ 0
unfolding triangle
triangle_zero = refl

-- ---- within reach
-- the square within 2 ^ 40, as an octagon
abbrev pub reach : Bounds
reach =
    record {
      x0 = neg_ℤ (pos (2 ^ 40));
      x1 = pos (2 ^ 40);
      y0 = neg_ℤ (pos (2 ^ 40));
      y1 = pos (2 ^ 40);
      s0 = neg_ℤ (pos (2 ^ 41));
      s1 = pos (2 ^ 41);
      d0 = neg_ℤ (pos (2 ^ 41));
      d1 = pos (2 ^ 41);
    }

reach_count : IsCount (Within reach) ((2 ^ 41 + 1) * (2 ^ 41 + 1))
reach_count =
    octagon_rest reach (2 ^ 41) (2 ^ 41) 0 0 0 0 ((2 ^ 41 + 1) * (2 ^ 41 + 1))
    (record { top_left = omega (arith, ints); top = omega (arith, ints); top_right = omega (arith, ints); right = omega (arith, ints); bottom_right = omega (arith, ints); bottom = omega (arith, ints); bottom_left = omega (arith, ints); left = omega (arith, ints) })
    (record { wide = omega (arith, ints); high = omega (arith, ints); top_left = omega (arith, ints); top_right = omega (arith, ints); bottom_right = omega (arith, ints); bottom_left = omega (arith, ints) })
    (let z : triangle 0 ≡ 0 = triangle_zero in omega arith)

in_reach : (o : Bounds) (x y : ℤ) → IsOct o → Within o x y → Within reach x y
in_reach o x y h w = record {
  x_low = omega (arith, ints);
  x_high = omega (arith, ints);
  y_low = omega (arith, ints);
  y_high = omega (arith, ints);
  s_low = omega (arith, ints);
  s_high = omega (arith, ints);
  d_low = omega (arith, ints);
  d_high = omega (arith, ints);
}

-- ---- the points of a list so far
pub record IsCounted (os : List Bounds) (total : ℕ) : Type 0 where
  pub count : IsCount (HasPoint os) total
  pub near : (x y : ℤ) → HasPoint os x y → Within reach x y

pub counted_none : IsCounted [] 0
counted_none = record { count = count_none (HasPoint []) (λ x y h. h); near = λ x y h. absurd h }

counted_step : (o : Bounds) (os : List Bounds) (total n : ℕ) → IsOct o → ((x y : ℤ) → Within o x y → HasPoint os x y → ⊥) → IsCounted os total → IsCount (Within o) n → IsCounted (os ++ o ∷ []) (total + n)
counted_step o os total n h f c k = record {
  count = count_join (HasPoint os) (Within o) (HasPoint (os ++ o ∷ [])) total n c.count k (λ x y m w. f x y w m) (λ x y. has_end os o x y);
  near = λ x y m. elim ((has_end os o x y).0 m) [ inl i ↦ c.near x y i | inr w ↦ in_reach o x y h w ];
}

pub counted_more : (o : Bounds) (os : List Bounds) (i total n : ℕ) → AreApart os → i < length os → o ≡ get_or os i o → IsOct o → IsCounted (take i os) total → IsCount (Within o) n
    → IsCounted (take (i + 1) os) (total + n)
counted_more o os i total n a l e h c k =
    more_by (λ t. IsCounted t (total + n)) o os i l e (counted_step o (take i os) total n h (λ x y w m. own_here o os i x y a l e w m) c k)

-- so a sum fits
pub counted_fits : (os : List Bounds) (total : ℕ) → IsCounted os total → total < 2 ^ 128
counted_fits os total c =
    let l : total ≤ (2 ^ 41 + 1) * (2 ^ 41 + 1) = count_le (HasPoint os) (Within reach) total ((2 ^ 41 + 1) * (2 ^ 41 + 1)) c.count reach_count c.near in
    omega arith

-- ---- one octagon, by what the code has of it
shape_by : (o : Bounds) (w h a b c d : ℕ) → o.x1 ≡ o.x0 +ℤ pos w → o.y1 ≡ o.y0 +ℤ pos h → o.s0 ≡ (o.x0 +ℤ o.y0) +ℤ pos a → (o.x1 -ℤ o.y0) ≡ o.d1 +ℤ pos b
    → (o.x1 +ℤ o.y1) ≡ o.s1 +ℤ pos c → o.d0 ≡ (o.x0 -ℤ o.y1) +ℤ pos d → IsShape o w h a b c d
shape_by o w h a b c d ew eh ea eb ec ed = record {
  wide = ew;
  high = eh;
  top_left = ea;
  top_right = omega (arith, ints, eb);
  bottom_right = omega (arith, ints, ec);
  bottom_left = ed;
}

pub points_fit : (o : Bounds) (w h a b c d ta tb tc td : ℕ) → IsOct o → o.x1 ≡ o.x0 +ℤ pos w → o.y1 ≡ o.y0 +ℤ pos h → o.s0 ≡ (o.x0 +ℤ o.y0) +ℤ pos a
    → (o.x1 -ℤ o.y0) ≡ o.d1 +ℤ pos b → (o.x1 +ℤ o.y1) ≡ o.s1 +ℤ pos c → o.d0 ≡ (o.x0 -ℤ o.y1) +ℤ pos d
    → ta ≡ triangle a → tb ≡ triangle b → tc ≡ triangle c → td ≡ triangle d → (ta + tb) + (tc + td) ≤ (w + 1) * (h + 1)
points_fit o w h a b c d ta tb tc td t ew eh ea eb ec ed fa fb fc fd =
    let l = triangles_fit o w h a b c d t.tight (shape_by o w h a b c d ew eh ea eb ec ed) in
    added ta tb tc td (triangle a) (triangle b) (triangle c) (triangle d) ((w + 1) * (h + 1)) fa fb fc fd l
  where
    added : (ta tb tc td a b c d m : ℕ) → ta ≡ a → tb ≡ b → tc ≡ c → td ≡ d → a + b + c + d ≤ m → (ta + tb) + (tc + td) ≤ m
    added ta tb tc td a b c d m e f g h l = omega arith

pub points_are : (o : Bounds) (w h a b c d ta tb tc td : ℕ) → IsOct o → o.x1 ≡ o.x0 +ℤ pos w → o.y1 ≡ o.y0 +ℤ pos h → o.s0 ≡ (o.x0 +ℤ o.y0) +ℤ pos a
    → (o.x1 -ℤ o.y0) ≡ o.d1 +ℤ pos b → (o.x1 +ℤ o.y1) ≡ o.s1 +ℤ pos c → o.d0 ≡ (o.x0 -ℤ o.y1) +ℤ pos d
    → ta ≡ triangle a → tb ≡ triangle b → tc ≡ triangle c → td ≡ triangle d → IsCount (Within o) ((w + 1) * (h + 1) - ((ta + tb) + (tc + td)))
points_are o w h a b c d ta tb tc td t ew eh ea eb ec ed fa fb fc fd =
    let l = points_fit o w h a b c d ta tb tc td t ew eh ea eb ec ed fa fb fc fd in
    octagon_rest o w h a b c d ((w + 1) * (h + 1) - ((ta + tb) + (tc + td))) t.tight (shape_by o w h a b c d ew eh ea eb ec ed)
    (taken ta tb tc td (triangle a) (triangle b) (triangle c) (triangle d) ((w + 1) * (h + 1)) fa fb fc fd l)
  where
    taken : (ta tb tc td a b c d m : ℕ) → ta ≡ a → tb ≡ b → tc ≡ c → td ≡ d → (ta + tb) + (tc + td) ≤ m → (m - ((ta + tb) + (tc + td))) + (a + b + c + d) ≡ m
    taken ta tb tc td a b c d m e f g h l = omega arith
