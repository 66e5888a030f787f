-- Two lines are close, by the decision, exactly where points of them are within reach.
use Rattle.std.proofs.Common.{◌≡◌, refl, ℕ, ◌≤◌, ◌+◌, ◌*◌, ◌-◌, ◌⊎◌, inl, inr, ⊎_elim, arith, ap}
use Rattle.std.specs.Prelude.{ℤ, pos, neg_ℤ, ◌+ℤ◌, ◌-ℤ◌, ◌*ℤ◌}
use Rattle.std.proofs.lemmas.Int.{ints}
use Rattle.touching.specs.Core.{Spot, line, OnLine, InCore}
use Rattle.touching.specs.Inner.Decision.{IsPointClose, AreLinesClose}
use Rattle.touching.proofs.Ring.{weigh}
use Rattle.touching.proofs.Short.{rescaled, as_short, turned_back}
use Rattle.touching.proofs.PointToLine.{near_test, test_near}
use Rattle.touching.proofs.LineEnds.{AreNear, EndNear}
use Rattle.touching.proofs.LineCrossing.{segments, end_near, crosses_near}
use Rattle.touching.proofs.Pairs.{Pair}
use Rattle.plane.specs.Plane.{PlanePoint, positive_product}
use Rattle.grid_num.proofs.Products.{mul_add, mul_sub, mul_neg}
use Rattle.plane.proofs.Points.{mul_mul, mul_swap}

-- along one coordinate: the step between two means is the step between the places
between : (k i j e f : ℕ) (p q s t u v : ℤ)
    → pos (i + j) *ℤ p ≡ pos k *ℤ (pos i *ℤ s +ℤ pos j *ℤ t) → pos (e + f) *ℤ q ≡ pos k *ℤ (pos e *ℤ u +ℤ pos f *ℤ v)
    → pos k *ℤ (pos ((i + j) * (e + f)) *ℤ (s -ℤ u) +ℤ pos ((e + f) * j) *ℤ (t -ℤ s) -ℤ pos ((i + j) * f) *ℤ (v -ℤ u))
    ≡ pos ((i + j) * (e + f)) *ℤ (p -ℤ q)
between k i j e f p q s t u v hp hq =
    by_means (i + j) (e + f) k j f p q s t u v (pos i *ℤ s +ℤ pos j *ℤ t) (pos e *ℤ u +ℤ pos f *ℤ v)
    (omega (arith, ints, weigh i j s, mul_sub j t s)) (omega (arith, ints, weigh e f u, mul_sub f v u)) hp hq
  where
    by_means : (n m k j f : ℕ) (p q s t u v a b : ℤ)
        → (pos n *ℤ s +ℤ pos j *ℤ (t -ℤ s)) ≡ a → (pos m *ℤ u +ℤ pos f *ℤ (v -ℤ u)) ≡ b
        → pos n *ℤ p ≡ pos k *ℤ a → pos m *ℤ q ≡ pos k *ℤ b
        → pos k *ℤ (pos (n * m) *ℤ (s -ℤ u) +ℤ pos (m * j) *ℤ (t -ℤ s) -ℤ pos (n * f) *ℤ (v -ℤ u)) ≡ pos (n * m) *ℤ (p -ℤ q)
    by_means n m k j f p q s t u v a b ea eb hp hq =
        let inside : (pos (n * m) *ℤ (s -ℤ u) +ℤ pos (m * j) *ℤ (t -ℤ s) -ℤ pos (n * f) *ℤ (v -ℤ u)) ≡ pos m *ℤ a -ℤ pos n *ℤ b =
        omega (
          arith,
          ints,
          mul_sub (n * m) s u,
          mul_mul n m s,
          mul_swap n m s,
          mul_mul n m u,
          mul_mul m j (t -ℤ s),
          mul_mul n f (v -ℤ u),
          mul_add m (pos n *ℤ s) (pos j *ℤ (t -ℤ s)),
          mul_add n (pos m *ℤ u) (pos f *ℤ (v -ℤ u)),
          ap (λ (z : ℤ). pos m *ℤ z) ea,
          ap (λ (z : ℤ). pos n *ℤ z) eb,
        ) in
        rw (inside) (omega (
          arith,
          ints,
          mul_sub k (pos m *ℤ a) (pos n *ℤ b),
          mul_swap k m a,
          mul_swap k n b,
          ap (λ (z : ℤ). pos m *ℤ z) hp,
          ap (λ (z : ℤ). pos n *ℤ z) hq,
          mul_swap m n p,
          mul_mul n m p,
          mul_mul n m q,
          mul_sub (n * m) p q,
        ))

pub pair_near : (a : ℕ) (s t u v : Spot) → Pair a (line s t) (line u v)
    → AreNear a (s.x -ℤ u.x) (s.y -ℤ u.y) (t.x -ℤ s.x) (t.y -ℤ s.y) (v.x -ℤ u.x) (v.y -ℤ u.y)
unfolding InCore
pair_near a s t u v h = from_places h.first h.second
  where
    at_scale : (j k n : ℕ) (x m : ℤ) → j ≡ k → pos n *ℤ x ≡ pos k *ℤ m → pos n *ℤ x ≡ pos j *ℤ m
    at_scale j k n x m e h = rw e h

    from_places : (f : OnLine s t h.p) (g : OnLine u v h.q)
        → AreNear a (s.x -ℤ u.x) (s.y -ℤ u.y) (t.x -ℤ s.x) (t.y -ℤ s.y) (v.x -ℤ u.x) (v.y -ℤ u.y)
    from_places f g = record {
      n = (f.i + f.j) * (g.i + g.j);
      m = (g.i + g.j) * f.j;
      l = (f.i + f.j) * g.j;
      some = positive_product (f.i + f.j) (g.i + g.j) f.some g.some;
      on_first = omega arith;
      on_second = omega arith;
      close =
          rescaled a h.p.scale ((f.i + f.j) * (g.i + g.j)) (h.p.x -ℤ h.q.x) (h.p.y -ℤ h.q.y) _ _ h.p.positive
          (between h.p.scale f.i f.j g.i g.j h.p.x h.q.x s.x t.x u.x v.x f.x (at_scale h.p.scale h.q.scale (g.i + g.j) h.q.x _ h.same g.x))
          (between h.p.scale f.i f.j g.i g.j h.p.y h.q.y s.y t.y u.y v.y f.y (at_scale h.p.scale h.q.scale (g.i + g.j) h.q.y _ h.same g.y))
          h.close;
    }

-- the place m / n of a line
unfoldable pub place : (n m : ℕ) → 1 ≤ n → Spot → Spot → PlanePoint
place n m one s t = record {
  x = pos (n - m) *ℤ s.x +ℤ pos m *ℤ t.x;
  y = pos (n - m) *ℤ s.y +ℤ pos m *ℤ t.y;
  scale = n;
  positive = one;
}

rest : (n m : ℕ) → m ≤ n → (n - m) + m ≡ n
rest n m h = omega arith

pub place_on : (n m : ℕ) (one : 1 ≤ n) (s t : Spot) → m ≤ n → OnLine s t (place n m one s t)
unfolding place
place_on n m one s t h = record {
  i = n - m;
  j = m;
  some = omega arith;
  x = ap (λ (k : ℕ). pos k *ℤ (pos (n - m) *ℤ s.x +ℤ pos m *ℤ t.x)) (rest n m h);
  y = ap (λ (k : ℕ). pos k *ℤ (pos (n - m) *ℤ s.y +ℤ pos m *ℤ t.y)) (rest n m h);
}

-- the mean by the step from its start
pub whole : (n m : ℕ) (s t : ℤ) → m ≤ n → (pos (n - m) *ℤ s +ℤ pos m *ℤ t) ≡ (pos n *ℤ s +ℤ pos m *ℤ (t -ℤ s))
whole n m s t h = omega (arith, ints, weigh (n - m) m s, mul_sub m t s, ap (λ (k : ℕ). pos k *ℤ s) (rest n m h))

pub near_pair : (a : ℕ) (s t u v : Spot)
    → AreNear a (s.x -ℤ u.x) (s.y -ℤ u.y) (t.x -ℤ s.x) (t.y -ℤ s.y) (v.x -ℤ u.x) (v.y -ℤ u.y) → Pair a (line s t) (line u v)
unfolding InCore place
near_pair a s t u v h = record {
  p = place h.n h.m h.some s t;
  q = place h.n h.l h.some u v;
  same = refl;
  first = place_on h.n h.m h.some s t h.on_first;
  second = place_on h.n h.l h.some u v h.on_second;
  close =
      as_short a h.n _ _ _ _ (steps h.n h.m h.l s.x t.x u.x v.x h.on_first h.on_second)
      (steps h.n h.m h.l s.y t.y u.y v.y h.on_first h.on_second) h.close;
}
  where
    steps : (n m l : ℕ) (s t u v : ℤ) → m ≤ n → l ≤ n
        → ((pos (n - m) *ℤ s +ℤ pos m *ℤ t) -ℤ (pos (n - l) *ℤ u +ℤ pos l *ℤ v))
        ≡ (pos n *ℤ (s -ℤ u) +ℤ pos m *ℤ (t -ℤ s) -ℤ pos l *ℤ (v -ℤ u))
    steps n m l s t u v h g = omega (arith, ints, whole n m s t h, whole n l u v g, mul_sub n s u)

-- an end of the first line, by the steps of the second; and the other way round
end_sum : (s t u : ℤ) → (s -ℤ u) +ℤ (t -ℤ s) ≡ t -ℤ u
end_sum s t u = omega (arith, ints)

pub ends_close : (a : ℕ) (s t u v : Spot)
    → EndNear a (s.x -ℤ u.x) (s.y -ℤ u.y) (t.x -ℤ s.x) (t.y -ℤ s.y) (v.x -ℤ u.x) (v.y -ℤ u.y)
    → ((IsPointClose a s u v ⊎ IsPointClose a t u v) ⊎ (IsPointClose a u s t ⊎ IsPointClose a v s t))
unfolding EndNear IsPointClose
ends_close a s t u v (inl (inl h)) = inl (inl (near_test a _ _ _ _ h))
ends_close a s t u v (inl (inr h)) = inl (inr (near_test a _ _ _ _ (rw (← end_sum s.x t.x u.x, ← end_sum s.y t.y u.y) h)))
ends_close a s t u v (inr (inl h)) = inr (inl (near_test a _ _ _ _ (record {
  n = h.n;
  j = h.j;
  some = h.some;
  inside = h.inside;
  close = as_short a h.n _ _ _ _ (back h.n h.j s.x t.x u.x) (back h.n h.j s.y t.y u.y) (turned_back a h.n _ _ h.close);
})))
  where
    back : (n j : ℕ) (s t u : ℤ) → (pos n *ℤ (u -ℤ s) -ℤ pos j *ℤ (t -ℤ s)) ≡ neg_ℤ (pos n *ℤ (s -ℤ u) -ℤ pos j *ℤ neg_ℤ (t -ℤ s))
    back n j s t u = omega (arith, ints, mul_neg j (t -ℤ s), mul_sub n u s, mul_sub n s u)
ends_close a s t u v (inr (inr h)) = inr (inr (near_test a _ _ _ _ (record {
  n = h.n;
  j = h.j;
  some = h.some;
  inside = h.inside;
  close = as_short a h.n _ _ _ _ (back h.n h.j s.x t.x u.x v.x) (back h.n h.j s.y t.y u.y v.y) (turned_back a h.n _ _ h.close);
})))
  where
    back : (n j : ℕ) (s t u v : ℤ)
        → (pos n *ℤ (v -ℤ s) -ℤ pos j *ℤ (t -ℤ s)) ≡ neg_ℤ (pos n *ℤ ((s -ℤ u) -ℤ (v -ℤ u)) -ℤ pos j *ℤ neg_ℤ (t -ℤ s))
    back n j s t u v = omega (arith, ints, mul_neg j (t -ℤ s), mul_sub n v s, mul_sub n (s -ℤ u) (v -ℤ u), mul_sub n s u, mul_sub n v u)

pub close_ends : (a : ℕ) (s t u v : Spot)
    → ((IsPointClose a s u v ⊎ IsPointClose a t u v) ⊎ (IsPointClose a u s t ⊎ IsPointClose a v s t))
    → EndNear a (s.x -ℤ u.x) (s.y -ℤ u.y) (t.x -ℤ s.x) (t.y -ℤ s.y) (v.x -ℤ u.x) (v.y -ℤ u.y)
unfolding EndNear IsPointClose
close_ends a s t u v (inl (inl h)) = inl (inl (test_near a _ _ _ _ h))
close_ends a s t u v (inl (inr h)) = inl (inr (rw (end_sum s.x t.x u.x, end_sum s.y t.y u.y) (test_near a _ _ _ _ h)))
close_ends a s t u v (inr (inl g)) =
    let h = test_near a _ _ _ _ g in
    inr (inl (record {
      n = h.n;
      j = h.j;
      some = h.some;
      inside = h.inside;
      close = as_short a h.n _ _ _ _ (back h.n h.j s.x t.x u.x) (back h.n h.j s.y t.y u.y) (turned_back a h.n _ _ h.close);
    }))
  where
    back : (n j : ℕ) (s t u : ℤ) → (pos n *ℤ (s -ℤ u) -ℤ pos j *ℤ neg_ℤ (t -ℤ s)) ≡ neg_ℤ (pos n *ℤ (u -ℤ s) -ℤ pos j *ℤ (t -ℤ s))
    back n j s t u = omega (arith, ints, mul_neg j (t -ℤ s), mul_sub n u s, mul_sub n s u)
close_ends a s t u v (inr (inr g)) =
    let h = test_near a _ _ _ _ g in
    inr (inr (record {
      n = h.n;
      j = h.j;
      some = h.some;
      inside = h.inside;
      close = as_short a h.n _ _ _ _ (back h.n h.j s.x t.x u.x v.x) (back h.n h.j s.y t.y u.y v.y) (turned_back a h.n _ _ h.close);
    }))
  where
    back : (n j : ℕ) (s t u v : ℤ)
        → (pos n *ℤ ((s -ℤ u) -ℤ (v -ℤ u)) -ℤ pos j *ℤ neg_ℤ (t -ℤ s)) ≡ neg_ℤ (pos n *ℤ (v -ℤ s) -ℤ pos j *ℤ (t -ℤ s))
    back n j s t u v = omega (arith, ints, mul_neg j (t -ℤ s), mul_sub n v s, mul_sub n (s -ℤ u) (v -ℤ u), mul_sub n s u, mul_sub n v u)

pub lines_close : (a : ℕ) (s t u v : Spot) → Pair a (line s t) (line u v) → AreLinesClose a s t u v
unfolding AreLinesClose
lines_close a s t u v h =
    ⊎_elim {C = AreLinesClose a s t u v} (λ z. inl z) (λ z. inr (ends_close a s t u v z)) (segments a _ _ _ _ _ _ (pair_near a s t u v h))

pub close_lines : (a : ℕ) (s t u v : Spot) → AreLinesClose a s t u v → Pair a (line s t) (line u v)
unfolding AreLinesClose
close_lines a s t u v (inl h) = near_pair a s t u v (crosses_near a _ _ _ _ _ _ h)
close_lines a s t u v (inr h) = near_pair a s t u v (end_near a _ _ _ _ _ _ (close_ends a s t u v h))
