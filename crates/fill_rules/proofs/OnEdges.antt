-- A point on an edge lies in each octagon that holds both ends of the edge.
use lib.IntN.{*ℤ_comm}
use Rattle.std.proofs.Common.{◌≡◌, sym, ◌∙◌, ap, ℕ, suc, inl, inr, arith, List, [], ◌∷◌}
use Rattle.std.specs.Prelude.{ℤ, pos, ◌+ℤ◌, ◌-ℤ◌, ◌*ℤ◌, ◌≤ℤ◌, ◌<ℤ◌, Any}
use Rattle.std.specs.List.{All}
use Rattle.std.proofs.lemmas.Int.{ints, by_lt_z}
use Rattle.plane.specs.Plane.{PlanePoint, Bounds, Within, In, times}
use Rattle.grid_num.proofs.Products.{mul_le, mul_add, mul_sub}
use Rattle.grid_num.specs.declared.Point.{Point}
use Rattle.plane.specs.Covering.{Edge, IsOn, Between, edges_to}
use Rattle.plane.proofs.CoverLaws.{pull}
use Rattle.plane.proofs.On.{on_upright}
use Rattle.plane.proofs.Lists.{any_none, any_cases}
use Rattle.touching.proofs.Ring.{distrib_sub, times_diff}
use Rattle.fill_rules.proofs.Heights.{row, height, test_left, test_right, IsMean, mean_in}

-- ---- the ends of all edges lie in the frame
abbrev pub IsHeld : Bounds → Point → Type 0
IsHeld f c = Within f c.x c.y

pub record IsEdgeHeld (f : Bounds) (e : Edge) : Type 0 where
  pub start : IsHeld f e.start
  pub finish : IsHeld f e.finish

unfoldable pub AreHeld : Bounds → List Edge → Type 0
AreHeld f [] = Unit {0}
AreHeld f (e ∷ es) = IsEdgeHeld f e × AreHeld f es

pub head_of : (P : Point → Type 0) (c : Point) (cs : List Point) → All P (c ∷ cs) → P c
head_of P c cs h = h 0 c (omega arith)

pub tail_of : (P : Point → Type 0) (c : Point) (cs : List Point) → All P (c ∷ cs) → All P cs
tail_of P c cs h = λ k d l. h (suc k) d (omega (arith, l))

pub to_held : (f : Bounds) (z a : Point) (cs : List Point) → IsHeld f z → IsHeld f a → All (IsHeld f) cs → AreHeld f (edges_to z a cs)
unfolding AreHeld
to_held f z a [] h g all = (record { start = g; finish = h }, tt)
to_held f z a (c ∷ cs) h g all =
    let w = head_of (IsHeld f) c cs all in
    (record { start = g; finish = w }, to_held f z c cs h w (tail_of (IsHeld f) c cs all))

-- ---- a point on an edge
-- what lies on an edge is a mean of its ends
on_right : (e : Edge) (p : PlanePoint) → e.start.x <ℤ e.finish.x → IsOn e p → IsMean p e.start.x e.start.y e.finish.x e.finish.y
on_right e p l o =
    let k = p.scale in
    let b = between (pos k *ℤ e.start.x) (pos k *ℤ e.finish.x) p.x (scaled k e.start.x e.finish.x l) o.across in
    let r = row k e.start.x e.finish.x p.x b.0 b.1 l in
    let c : (p.x -ℤ pos k *ℤ e.start.x) *ℤ (e.finish.y -ℤ e.start.y) ≡ (p.y -ℤ pos k *ℤ e.start.y) *ℤ (e.finish.x -ℤ e.start.x) =
    *ℤ_comm (p.x -ℤ pos k *ℤ e.start.x) (e.finish.y -ℤ e.start.y) ∙ (o.line ∙ *ℤ_comm (e.finish.x -ℤ e.start.x) (p.y -ℤ pos k *ℤ e.start.y)) in
    record {
      u = r.u;
      v = r.v;
      d = r.d;
      one = r.one;
      all = r.all;
      x = height k e.start.x e.finish.x p.x r;
      y = omega (arith, ints, c, test_left k e.start.x e.finish.x p.x e.start.y e.finish.y r, test_right k e.start.x e.finish.x p.x e.start.y p.y r);
    }
  where
    scaled : (k : ℕ) (a b : ℤ) → a <ℤ b → (pos k *ℤ a) ≤ℤ (pos k *ℤ b)
    scaled k a b h = mul_le k a b (omega (arith, ints))

    between : (a b z : ℤ) → a ≤ℤ b → Between a b z → (a ≤ℤ z) × (z ≤ℤ b)
    between a b z h (inl m) = m
    between a b z h (inr m) = (omega (arith, ints, m.0, m.1), omega (arith, ints, m.0, m.1))

-- an edge has the same points the other way
crossed : (m n : ℤ) (k : ℕ) → m *ℤ (pos k *ℤ n) ≡ n *ℤ (pos k *ℤ m)
crossed m n k = pull m n k ∙ (ap (λ (z : ℤ). pos k *ℤ z) (*ℤ_comm m n) ∙ sym (pull n m k))

four : (a b c d : ℤ) → (a -ℤ b) *ℤ (c -ℤ d) ≡ a *ℤ c -ℤ a *ℤ d -ℤ b *ℤ c +ℤ b *ℤ d
four a b c d = omega (arith, ints, times_diff a b (c -ℤ d), distrib_sub a c d, distrib_sub b c d)

line_back : (k : ℕ) (sx sy fx fy x y : ℤ) → (fy -ℤ sy) *ℤ (x -ℤ pos k *ℤ sx) ≡ (fx -ℤ sx) *ℤ (y -ℤ pos k *ℤ sy)
    → (sy -ℤ fy) *ℤ (x -ℤ pos k *ℤ fx) ≡ (sx -ℤ fx) *ℤ (y -ℤ pos k *ℤ fy)
line_back k sx sy fx fy x y h =
    omega (
      arith,
      ints,
      h,
      four fy sy x (pos k *ℤ sx),
      four fx sx y (pos k *ℤ sy),
      four sy fy x (pos k *ℤ fx),
      four sx fx y (pos k *ℤ fy),
      crossed sy sx k,
      crossed fy fx k,
      crossed fy sx k,
      crossed sy fx k,
    )

turned : Edge → Edge
turned e = record { start = e.finish; finish = e.start }

on_turned : (e : Edge) (p : PlanePoint) → IsOn e p → IsOn (turned e) p
unfolding turned
on_turned e p o = record {
  line = line_back p.scale e.start.x e.start.y e.finish.x e.finish.y p.x p.y o.line;
  across = swap (pos p.scale *ℤ e.start.x) (pos p.scale *ℤ e.finish.x) p.x o.across;
  along = swap (pos p.scale *ℤ e.start.y) (pos p.scale *ℤ e.finish.y) p.y o.along;
}
  where
    swap : (a b z : ℤ) → Between a b z → Between b a z
    swap a b z (inl h) = inr h
    swap a b z (inr h) = inl h

-- a corner's bounds at scale k
held_at : (f : Bounds) (c : Point) (k : ℕ) → IsHeld f c → Within (times k f) (pos k *ℤ c.x) (pos k *ℤ c.y)
held_at f c k h = record {
  x_low = mul_le k _ _ h.x_low;
  x_high = mul_le k _ _ h.x_high;
  y_low = mul_le k _ _ h.y_low;
  y_high = mul_le k _ _ h.y_high;
  s_low = omega (arith, ints, mul_le k f.s0 (c.x +ℤ c.y) h.s_low, mul_add k c.x c.y);
  s_high = omega (arith, ints, mul_le k (c.x +ℤ c.y) f.s1 h.s_high, mul_add k c.x c.y);
  d_low = omega (arith, ints, mul_le k f.d0 (c.x -ℤ c.y) h.d_low, mul_sub k c.x c.y);
  d_high = omega (arith, ints, mul_le k (c.x -ℤ c.y) f.d1 h.d_high, mul_sub k c.x c.y);
}

upright_held : (f : Bounds) (e : Edge) (p : PlanePoint) → IsEdgeHeld f e → e.start.x ≡ e.finish.x → IsOn e p → In f p
upright_held f e p h same o =
    let s = held_at f e.start p.scale h.start in
    let t = held_at f e.finish p.scale h.finish in
    let x = on_upright e p same o in
    let z : pos p.scale *ℤ e.start.x ≡ pos p.scale *ℤ e.finish.x = ap (λ (z : ℤ). pos p.scale *ℤ z) same in
    let y = o.along in
    record {
      x_low = omega (arith, ints, s.x_low, x);
      x_high = omega (arith, ints, s.x_high, x);
      y_low = omega (arith, ints, s.y_low, t.y_low, y);
      y_high = omega (arith, ints, s.y_high, t.y_high, y);
      s_low = omega (arith, ints, s.s_low, t.s_low, x, y, z);
      s_high = omega (arith, ints, s.s_high, t.s_high, x, y, z);
      d_low = omega (arith, ints, s.d_low, t.d_low, x, y, z);
      d_high = omega (arith, ints, s.d_high, t.d_high, x, y, z);
    }

on_held : (f : Bounds) (e : Edge) (p : PlanePoint) → IsEdgeHeld f e → IsOn e p → In f p
unfolding turned
on_held f e p h o = by_lt_z {P = In f p} e.start.x e.finish.x
    (λ l. mean_in f p e.start.x e.start.y e.finish.x e.finish.y h.start h.finish (on_right e p l o))
    (λ g. by_lt_z {P = In f p} e.finish.x e.start.x
    (λ l. mean_in f p e.finish.x e.finish.y e.start.x e.start.y h.finish h.start (on_right (turned e) p l (on_turned e p o)))
    (λ m. upright_held f e p h (equal e.start.x e.finish.x g m) o))
  where
    equal : (a b : ℤ) → b ≤ℤ a → a ≤ℤ b → a ≡ b
    equal a b h g = omega (arith, ints)

pub one_held : (f : Bounds) (es : List Edge) (p : PlanePoint) → AreHeld f es → Any (λ e. IsOn e p) es → In f p
unfolding AreHeld
one_held f [] p h a = absurd (any_none (λ e. IsOn e p) a)
one_held f (e ∷ es) p h a = elim (any_cases (λ e. IsOn e p) e es a) [ inl o ↦ on_held f e p h.0 o | inr r ↦ one_held f es p h.1 r ]
