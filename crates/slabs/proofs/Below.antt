-- The crossings of cuts, with the end of greater y in place of that of lesser y.
use Rattle.std.proofs.Common.{◌≡◌, refl, sym, ◌∙◌, ℕ, ◌+◌, ◌⊎◌, inl, inr, arith, true, cond}
use Rattle.std.specs.Prelude.{ℤ, pos, neg_ℤ, ◌+ℤ◌, ◌-ℤ◌, ◌*ℤ◌, ◌≤ℤ◌, ◌<ℤ◌, int_lt, int_le, ◌&&◌}
use Rattle.std.proofs.lemmas.Int.{ints, by_lt_z}
use Rattle.plane.specs.Plane.{PlanePoint}
use Rattle.grid_num.proofs.Products.{mul_add, mul_sub, mul_le, mul_lt_back}
use Rattle.grid_num.specs.declared.Point.{Point}
use Rattle.plane.specs.Covering.{Edge}
use Rattle.plane.specs.Edges.{IsOnWay, turned_back}
use Rattle.plane.specs.Ends.{down_crossing_below, crossing_below}
use Rattle.plane.proofs.Counts.{less_true, less_false, most_true, most_false, less_back, scale_less, level_run, rise_run, fall_run}
use Rattle.plane.proofs.Below.{CountsBelow, below_from, lower_end, upright_below, rise_below, fall_below}
use Rattle.plane.proofs.On.{at}
use Rattle.slabs.specs.Slabs.{IsAt}

none_up_below : (a b : Point) (p : PlanePoint) → b.y ≤ℤ a.y → down_crossing_below a b p ≡ 0
none_up_below a b p h =
    elim (below_from (pos p.scale *ℤ a.y) (pos p.scale *ℤ b.y) p.y
    ((b.x -ℤ a.x) *ℤ (p.y -ℤ pos p.scale *ℤ a.y)) ((b.y -ℤ a.y) *ℤ (p.x -ℤ pos p.scale *ℤ a.x)) (pos 0) (pos 1)
    (λ f l c. omega (arith, ints))
    (λ f l c. absurd (let m = lower_end p.scale a.y b.y p.y f l in omega (arith, ints))))
    [ inl w ↦ absurd (let m = lower_end p.scale a.y b.y p.y w.1 w.2 in omega (arith, ints)) | inr w ↦ w.0 ]

abbrev edge : Point → Point → Edge
edge a b = record { start = a; finish = b }

split_counts_below : (n n1 n2 : ℕ) (low mid high y line line' u : ℤ) → low ≤ℤ mid → mid ≤ℤ high → line ≡ line'
    → CountsBelow n low high y line u → CountsBelow n1 low mid y line u → CountsBelow n2 mid high y line' u → n ≡ n1 + n2
split_counts_below n n1 n2 low mid high y line line' u h1 h2 e (inl a) b c = omega (arith, ints)
split_counts_below n n1 n2 low mid high y line line' u h1 h2 e (inr a) (inl b) c = omega (arith, ints)
split_counts_below n n1 n2 low mid high y line line' u h1 h2 e (inr a) (inr b) (inl c) = omega (arith, ints)
split_counts_below n n1 n2 low mid high y line line' u h1 h2 e (inr a) (inr b) (inr c) = omega (arith, ints)

-- the counts of the two parts of an edge add up
pub split_below : (a b c : Point) (p : PlanePoint) → IsOnWay a b c → crossing_below p (edge a c) ≡ crossing_below p (edge a b) + crossing_below p (edge b c)
unfolding IsOnWay crossing_below
split_below a b c p w =
    let h1 = w.0 in
    let h2 = w.1 in
    let z1 = none_up_below c a p (omega (arith, ints, h1, h2)) in
    let z2 = none_up_below b a p h1 in
    let z3 = none_up_below c b p h2 in
    let k1 = mul_le p.scale a.y b.y h1 in
    let k2 = mul_le p.scale b.y c.y h2 in
    let m : down_crossing_below a c p ≡ down_crossing_below a b p + down_crossing_below b c p =
    elim (w.2) [
      | inl e ↦
          split_counts_below (down_crossing_below a c p) (down_crossing_below a b p) (down_crossing_below b c p) (pos p.scale *ℤ a.y) (pos p.scale *ℤ b.y) (pos p.scale *ℤ c.y) p.y (pos p.scale *ℤ a.x) (pos p.scale *ℤ b.x) p.x k1 k2
          (at p.scale a.x b.x e.0) (upright_below a c p (e.0 ∙ e.1)) (upright_below a b p e.0) (upright_below b c p e.1)
      | inr f ↦
          elim f [
            | inl e ↦ (let e0 = e.0 in let e1 = e.1 in
                split_counts_below (down_crossing_below a c p) (down_crossing_below a b p) (down_crossing_below b c p) (pos p.scale *ℤ a.y) (pos p.scale *ℤ b.y) (pos p.scale *ℤ c.y) p.y (pos p.scale *ℤ (a.x -ℤ a.y)) (pos p.scale *ℤ (b.x -ℤ b.y)) (p.x -ℤ p.y) k1 k2
                (at p.scale (a.x -ℤ a.y) (b.x -ℤ b.y) (omega (arith, ints, e0))) (rise_below a c p (omega (arith, ints, e0, e1))) (rise_below a b p e0) (rise_below b c p e1))
            | inr e ↦ (let e0 = e.0 in let e1 = e.1 in
                split_counts_below (down_crossing_below a c p) (down_crossing_below a b p) (down_crossing_below b c p) (pos p.scale *ℤ a.y) (pos p.scale *ℤ b.y) (pos p.scale *ℤ c.y) p.y (pos p.scale *ℤ (a.x +ℤ a.y)) (pos p.scale *ℤ (b.x +ℤ b.y)) (p.x +ℤ p.y) k1 k2
                (at p.scale (a.x +ℤ a.y) (b.x +ℤ b.y) (omega (arith, ints, e0))) (fall_below a c p (omega (arith, ints, e0, e1))) (fall_below a b p e0) (fall_below b c p e1))
          ]
    ] in
    omega (arith, m, z1, z2, z3)

-- the direction of an edge doesn't matter
pub below_turned : (p : PlanePoint) (e : Edge) → crossing_below p (turned_back e) ≡ crossing_below p e
unfolding turned_back crossing_below
below_turned p e = omega arith

pub level_below : (e : Edge) (p : PlanePoint) → e.start.y ≡ e.finish.y → crossing_below p e ≡ 0
unfolding crossing_below
level_below e p h = omega (arith, none_up_below e.start e.finish p (omega (arith, ints)), none_up_below e.finish e.start p (omega (arith, ints)))

recount : (n : ℕ) (low high y line u z x : ℤ) → CountsBelow n low high y line u → u -ℤ line ≡ x -ℤ z → CountsBelow n low high y z x
recount n low high y line u z x (inl w) e = inl (w.0, w.1, w.2, omega (arith, ints, e, w.3))
recount n low high y line u z x (inr (f, inl w)) e = inr (f, inl w)
recount n low high y line u z x (inr (f, inr (inl w))) e = inr (f, inr (inl w))
recount n low high y line u z x (inr (f, inr (inr w))) e = inr (f, inr (inr (omega (arith, ints, e, w))))

same_count : (n m : ℕ) (low high y z x : ℤ) → m ≡ n → CountsBelow n low high y z x → CountsBelow m low high y z x
same_count n m low high y z x e (inl w) = inl (e ∙ w.0, w.1, w.2, w.3)
same_count n m low high y z x e (inr w) = inr (e ∙ w.0, w.1)

pub crosses_below : (c : Edge) (p : PlanePoint) (z : ℤ) → c.start.y <ℤ c.finish.y → IsAt c p.scale p.y z
    → CountsBelow (crossing_below p c) (pos p.scale *ℤ c.start.y) (pos p.scale *ℤ c.finish.y) p.y z p.x
unfolding IsAt crossing_below
crosses_below c p z d w =
    let n = none_up_below c.finish c.start p (omega (arith, ints, d)) in
    same_count (down_crossing_below c.start c.finish p) _ (pos p.scale *ℤ c.start.y) (pos p.scale *ℤ c.finish.y) p.y z p.x (omega (arith, n)) (down w)
  where
    down : ((c.finish.x ≡ c.start.x) × (z ≡ pos p.scale *ℤ c.start.x))
        ⊎ (((c.finish.x -ℤ c.start.x ≡ c.finish.y -ℤ c.start.y) × (z ≡ pos p.scale *ℤ c.start.x +ℤ (p.y -ℤ pos p.scale *ℤ c.start.y)))
        ⊎ ((c.finish.x -ℤ c.start.x ≡ neg_ℤ (c.finish.y -ℤ c.start.y)) × (z ≡ pos p.scale *ℤ c.start.x -ℤ (p.y -ℤ pos p.scale *ℤ c.start.y))))
        → CountsBelow (down_crossing_below c.start c.finish p) (pos p.scale *ℤ c.start.y) (pos p.scale *ℤ c.finish.y) p.y z p.x
    down (inl a) = recount _ _ _ _ (pos p.scale *ℤ c.start.x) p.x z p.x (upright_below c.start c.finish p (sym a.0)) (omega (arith, ints, a.1))
    down (inr (inl a)) =
        recount _ _ _ _ (pos p.scale *ℤ (c.start.x -ℤ c.start.y)) (p.x -ℤ p.y) z p.x (rise_below c.start c.finish p a.0) (omega (arith, ints, a.1, mul_sub p.scale c.start.x c.start.y))
    down (inr (inr a)) =
        recount _ _ _ _ (pos p.scale *ℤ (c.start.x +ℤ c.start.y)) (p.x +ℤ p.y) z p.x (fall_below c.start c.finish p a.0) (omega (arith, ints, a.1, mul_add p.scale c.start.x c.start.y))
