-- A point that a closed chain covers lies in the least octagon round the chain's corners.
use lib.IntN.{*ℤ_comm}
use Rattle.std.proofs.Common.{◌≡◌, refl, sym, ◌∙◌, ap, ℕ, ◌+◌, ◌%◌, ◌⊎◌, inl, inr, arith, List, [], ◌∷◌}
use Rattle.std.specs.Prelude.{ℤ, pos, ◌+ℤ◌, ◌-ℤ◌, ◌*ℤ◌, ◌≤ℤ◌, ◌<ℤ◌, Bool, true, false, not, cond, ◌&&◌, ◌||◌, int_lt, int_le}
use Rattle.std.proofs.lemmas.Int.{ints}
use Rattle.std.proofs.lemmas.Bool.{and_parts, true≢false}
use Rattle.std.proofs.lemmas.List.Sums.{sum_by-cons}
use Rattle.plane.specs.Plane.{PlanePoint, Bounds, In}
use Rattle.grid_num.proofs.Products.{mul_add, mul_sub, mul_lt_back}
use Rattle.grid_num.specs.declared.Point.{Point}
use Rattle.plane.specs.Covering.{Edge, IsOn, crossing, crossings, IsOdd, Covers, edges_to, edges_of}
use Rattle.plane.proofs.Counts.{less_true, most_true, most_false}
use Rattle.plane.proofs.Lists.{any_none, covers_cases}
use Rattle.hulls.specs.Cells.{around}
use Rattle.hulls.proofs.Around.{around_holds}
use Rattle.fill_rules.proofs.Heights.{Row, row, height, test_left, test_right, low_cross, high_cross}
use Rattle.fill_rules.proofs.OnEdges.{IsHeld, IsEdgeHeld, AreHeld, head_of, tail_of, to_held, one_held}

-- ---- a point between two crossings of its row
lt_true : (a b : ℤ) → int_lt a b ≡ true → a <ℤ b
lt_true a b e = grind (arith, ints)

lt_false : (a b : ℤ) → int_lt a b ≡ false → b ≤ℤ a
lt_false a b e = grind (arith, ints)

le_true : (a b : ℤ) → int_le a b ≡ true → a ≤ℤ b
le_true a b e = grind (arith, ints)

le_false : (a b : ℤ) → int_le a b ≡ false → b <ℤ a
le_false a b e = grind (arith, ints)

weak : (a b : ℤ) → a <ℤ b → a ≤ℤ b
weak a b h = omega (arith, ints)

-- the way from low down to high goes through the row of p, at p or to its left
record IsLeftOf (p : PlanePoint) (low high : Point) : Type 0 where
  start : (pos p.scale *ℤ low.y) ≤ℤ p.y
  end : p.y <ℤ (pos p.scale *ℤ high.y)
  left : ((high.x -ℤ low.x) *ℤ (p.y -ℤ pos p.scale *ℤ low.y)) ≤ℤ ((high.y -ℤ low.y) *ℤ (p.x -ℤ pos p.scale *ℤ low.x))

-- at p or to its right
record IsRightOf (p : PlanePoint) (low high : Point) : Type 0 where
  start : (pos p.scale *ℤ low.y) ≤ℤ p.y
  end : p.y <ℤ (pos p.scale *ℤ high.y)
  right : ((high.y -ℤ low.y) *ℤ (p.x -ℤ pos p.scale *ℤ low.x)) ≤ℤ ((high.x -ℤ low.x) *ℤ (p.y -ℤ pos p.scale *ℤ low.y))

-- the bounds that a crossing to the left gives
record IsAboveLow (f : Bounds) (p : PlanePoint) : Type 0 where
  x_low : (pos p.scale *ℤ f.x0) ≤ℤ p.x
  y_low : (pos p.scale *ℤ f.y0) ≤ℤ p.y
  y_high : p.y ≤ℤ (pos p.scale *ℤ f.y1)
  s_low : (pos p.scale *ℤ f.s0) ≤ℤ (p.x +ℤ p.y)
  d_low : (pos p.scale *ℤ f.d0) ≤ℤ (p.x -ℤ p.y)

record IsBelowHigh (f : Bounds) (p : PlanePoint) : Type 0 where
  x_high : p.x ≤ℤ (pos p.scale *ℤ f.x1)
  s_high : (p.x +ℤ p.y) ≤ℤ (pos p.scale *ℤ f.s1)
  d_high : (p.x -ℤ p.y) ≤ℤ (pos p.scale *ℤ f.d1)

-- the row of p, between the two heights
row_of : (p : PlanePoint) (low high : Point) → (pos p.scale *ℤ low.y) ≤ℤ p.y → p.y <ℤ (pos p.scale *ℤ high.y) → Row p.scale low.y high.y p.y
row_of p low high s e = row p.scale low.y high.y p.y s (weak p.y (pos p.scale *ℤ high.y) e) (mul_lt_back p.scale low.y high.y (omega (arith, ints)))

-- the two sides of the test, with the factors in the other order
sides : (p : PlanePoint) (low high : Point) (r : Row p.scale low.y high.y p.y)
    → ((high.x -ℤ low.x) *ℤ (p.y -ℤ pos p.scale *ℤ low.y) ≡ pos r.u *ℤ high.x -ℤ pos r.u *ℤ low.x)
    × ((high.y -ℤ low.y) *ℤ (p.x -ℤ pos p.scale *ℤ low.x) ≡ pos r.d *ℤ p.x -ℤ pos r.u *ℤ low.x -ℤ pos r.v *ℤ low.x)
sides p low high r = (
  *ℤ_comm (high.x -ℤ low.x) (p.y -ℤ pos p.scale *ℤ low.y) ∙ test_left p.scale low.y high.y p.y low.x high.x r,
  *ℤ_comm (high.y -ℤ low.y) (p.x -ℤ pos p.scale *ℤ low.x) ∙ test_right p.scale low.y high.y p.y low.x p.x r,
)

left_bounds : (f : Bounds) (p : PlanePoint) (low high : Point) → IsHeld f low → IsHeld f high → IsLeftOf p low high → IsAboveLow f p
left_bounds f p low high h g c =
    let k = p.scale in
    let r = row_of p low high c.start c.end in
    let t = sides p low high r in
    let x : (pos r.v *ℤ low.x +ℤ pos r.u *ℤ high.x) ≤ℤ (pos r.d *ℤ p.x) = omega (arith, ints, c.left, t.0, t.1) in
    let y : pos r.d *ℤ p.y ≡ pos r.v *ℤ low.y +ℤ pos r.u *ℤ high.y = height k low.y high.y p.y r in
    record {
      x_low = low_cross k r.u r.v r.d f.x0 low.x high.x p.x r.one r.all h.x_low g.x_low x;
      y_low = low_cross k r.u r.v r.d f.y0 low.y high.y p.y r.one r.all h.y_low g.y_low (omega (arith, ints, y));
      y_high = high_cross k r.u r.v r.d f.y1 low.y high.y p.y r.one r.all h.y_high g.y_high (omega (arith, ints, y));
      s_low = low_cross k r.u r.v r.d f.s0 (low.x +ℤ low.y) (high.x +ℤ high.y) (p.x +ℤ p.y) r.one r.all h.s_low g.s_low
          (omega (arith, ints, x, y, mul_add r.v low.x low.y, mul_add r.u high.x high.y, mul_add r.d p.x p.y));
      d_low = low_cross k r.u r.v r.d f.d0 (low.x -ℤ low.y) (high.x -ℤ high.y) (p.x -ℤ p.y) r.one r.all h.d_low g.d_low
          (omega (arith, ints, x, y, mul_sub r.v low.x low.y, mul_sub r.u high.x high.y, mul_sub r.d p.x p.y));
    }

right_bounds : (f : Bounds) (p : PlanePoint) (low high : Point) → IsHeld f low → IsHeld f high → IsRightOf p low high → IsBelowHigh f p
right_bounds f p low high h g c =
    let k = p.scale in
    let r = row_of p low high c.start c.end in
    let t = sides p low high r in
    let x : (pos r.d *ℤ p.x) ≤ℤ (pos r.v *ℤ low.x +ℤ pos r.u *ℤ high.x) = omega (arith, ints, c.right, t.0, t.1) in
    let y : pos r.d *ℤ p.y ≡ pos r.v *ℤ low.y +ℤ pos r.u *ℤ high.y = height k low.y high.y p.y r in
    record {
      x_high = high_cross k r.u r.v r.d f.x1 low.x high.x p.x r.one r.all h.x_high g.x_high x;
      s_high = high_cross k r.u r.v r.d f.s1 (low.x +ℤ low.y) (high.x +ℤ high.y) (p.x +ℤ p.y) r.one r.all h.s_high g.s_high
          (omega (arith, ints, x, y, mul_add r.v low.x low.y, mul_add r.u high.x high.y, mul_add r.d p.x p.y));
      d_high = high_cross k r.u r.v r.d f.d1 (low.x -ℤ low.y) (high.x -ℤ high.y) (p.x -ℤ p.y) r.one r.all h.d_high g.d_high
          (omega (arith, ints, x, y, mul_sub r.v low.x low.y, mul_sub r.u high.x high.y, mul_sub r.d p.x p.y));
    }

-- ---- tests
-- the way from a down to b crosses the row of p to its left
abbrev downs : PlanePoint → Point → Point → Bool
downs p a b =
    int_le (pos p.scale *ℤ a.y) p.y && (int_lt p.y (pos p.scale *ℤ b.y) && int_lt ((b.x -ℤ a.x) *ℤ (p.y -ℤ pos p.scale *ℤ a.y)) ((b.y -ℤ a.y) *ℤ (p.x -ℤ pos p.scale *ℤ a.x)))

unfoldable crosses : PlanePoint → Edge → Bool
crosses p e = downs p e.start e.finish || downs p e.finish e.start

-- the row of p is at the place or below it
abbrev over : PlanePoint → Point → Bool
over p c = int_le (pos p.scale *ℤ c.y) p.y

abbrev differ : Bool → Bool → Bool
differ a b = cond a (not b) b

-- the row of p goes through the edge
unfoldable spans : PlanePoint → Edge → Bool
spans p e = differ (over p e.start) (over p e.finish)

unfoldable odd_of : (Edge → Bool) → List Edge → Bool
odd_of g [] = false
odd_of g (e ∷ es) = cond (g e) (not (odd_of g es)) (odd_of g es)

left_at : (p : PlanePoint) (low high : Point) → downs p low high ≡ true → IsLeftOf p low high
left_at p low high e =
    let start = int_le (pos p.scale *ℤ low.y) p.y in
    let end = int_lt p.y (pos p.scale *ℤ high.y) in
    let c = (high.x -ℤ low.x) *ℤ (p.y -ℤ pos p.scale *ℤ low.y) in
    let d = (high.y -ℤ low.y) *ℤ (p.x -ℤ pos p.scale *ℤ low.x) in
    let a = and_parts start (end && int_lt c d) e in
    let b = and_parts end (int_lt c d) a.1 in
    record { start = le_true (pos p.scale *ℤ low.y) p.y a.0; end = lt_true p.y (pos p.scale *ℤ high.y) b.0; left = weak c d (lt_true c d b.1) }

right_at : (p : PlanePoint) (low high : Point) → over p low ≡ true → over p high ≡ false → downs p low high ≡ false → IsRightOf p low high
right_at p low high a b e =
    let start = int_le (pos p.scale *ℤ low.y) p.y in
    let end = int_lt p.y (pos p.scale *ℤ high.y) in
    let c = (high.x -ℤ low.x) *ℤ (p.y -ℤ pos p.scale *ℤ low.y) in
    let d = (high.y -ℤ low.y) *ℤ (p.x -ℤ pos p.scale *ℤ low.x) in
    let below : p.y <ℤ (pos p.scale *ℤ high.y) = le_false (pos p.scale *ℤ high.y) p.y b in
    record {
      start = le_true (pos p.scale *ℤ low.y) p.y a;
      end = below;
      right = lt_false c d (rest start end (int_lt c d) a (less_true p.y (pos p.scale *ℤ high.y) below) e);
    }
  where
    rest : (x y z : Bool) → x ≡ true → y ≡ true → (x && (y && z)) ≡ false → z ≡ false
    rest true true z e f g = g
    rest true false z e f g = absurd (true≢false (sym f))
    rest false y z e f g = absurd (true≢false (sym e))

-- ---- counting
not_both : (p : PlanePoint) (a b : Point) → downs p a b ≡ true → downs p b a ≡ true → ⊥
not_both p a b e f = let l = left_at p a b e in let r = left_at p b a f in less (pos p.scale *ℤ a.y) (pos p.scale *ℤ b.y) p.y l.start l.end r.start r.end
  where
    less : (u v y : ℤ) → u ≤ℤ y → y <ℤ v → v ≤ℤ y → y <ℤ u → ⊥
    less u v y h g i j = omega (arith, ints)

crossing_is : (p : PlanePoint) (e : Edge) → crossing p e ≡ cond (crosses p e) 1 0
unfolding crossing crosses
crossing_is p e = go (downs p e.start e.finish) refl (downs p e.finish e.start) refl
  where
    go : (x : Bool) → downs p e.start e.finish ≡ x → (y : Bool) → downs p e.finish e.start ≡ y → cond x 1 0 + cond y 1 0 ≡ cond (x || y) 1 0
    go true f true g = absurd (not_both p e.start e.finish f g)
    go true f false g = refl
    go false f true g = refl
    go false f false g = refl

odd_step : (c x : Bool) (n : ℕ) → n % 2 ≡ cond x 1 0 → (cond c 1 0 + n) % 2 ≡ cond (cond c (not x) x) 1 0
odd_step true true n h = omega (arith, h)
odd_step true false n h = omega (arith, h)
odd_step false true n h = omega (arith, h)
odd_step false false n h = omega (arith, h)

parity : (p : PlanePoint) (es : List Edge) → crossings es p % 2 ≡ cond (odd_of (crosses p) es) 1 0
unfolding odd_of
parity p [] = refl
parity p (e ∷ es) =
    ap (λ (n : ℕ). n % 2) (sum_by-cons (crossing p) e es ∙ ap (λ (n : ℕ). n + crossings es p) (crossing_is p e))
    ∙ odd_step (crosses p e) (odd_of (crosses p) es) (crossings es p) (parity p es)

odd_true : (x : Bool) (n : ℕ) → n % 2 ≡ 1 → n % 2 ≡ cond x 1 0 → x ≡ true
odd_true true n h g = refl
odd_true false n h g = absurd (omega (arith, h, g))

-- a closed chain goes through a row an even number of times
differ_chain : (a b c : Bool) → cond (differ a b) (not (differ b c)) (differ b c) ≡ differ a c
differ_chain true true true = refl
differ_chain true true false = refl
differ_chain true false true = refl
differ_chain true false false = refl
differ_chain false true true = refl
differ_chain false true false = refl
differ_chain false false true = refl
differ_chain false false false = refl

differ_none : (a b : Bool) → cond (differ a b) (not false) false ≡ differ a b
differ_none true true = refl
differ_none true false = refl
differ_none false true = refl
differ_none false false = refl

spans_chain : (p : PlanePoint) (z a : Point) (cs : List Point) → odd_of (spans p) (edges_to z a cs) ≡ differ (over p a) (over p z)
unfolding odd_of spans
spans_chain p z a [] = differ_none (over p a) (over p z)
spans_chain p z a (b ∷ cs) =
    ap (λ (x : Bool). cond (differ (over p a) (over p b)) (not x) x) (spans_chain p z b cs) ∙ differ_chain (over p a) (over p b) (over p z)

-- ---- some edge to the left, and some edge not to the left
either : (x y : Bool) → (x || y) ≡ true → (x ≡ true) ⊎ (y ≡ true)
either true y e = inl refl
either false y e = inr e

neither : (x y : Bool) → (x || y) ≡ false → (x ≡ false) × (y ≡ false)
neither true y e = absurd (true≢false e)
neither false y e = (refl, e)

low_of : (f : Bounds) (p : PlanePoint) (e : Edge) → IsEdgeHeld f e → crosses p e ≡ true → IsAboveLow f p
unfolding crosses
low_of f p e h c = elim (either (downs p e.start e.finish) (downs p e.finish e.start) c) [
  | inl d ↦ left_bounds f p e.start e.finish h.start h.finish (left_at p e.start e.finish d)
  | inr d ↦ left_bounds f p e.finish e.start h.finish h.start (left_at p e.finish e.start d)
]

down_spans : (p : PlanePoint) (a b : Point) → downs p a b ≡ true → (over p a ≡ true) × (over p b ≡ false)
down_spans p a b d =
    let l = left_at p a b d in (most_true (pos p.scale *ℤ a.y) p.y l.start, most_false (pos p.scale *ℤ b.y) p.y l.end)

crosses_spans : (p : PlanePoint) (e : Edge) → crosses p e ≡ true → spans p e ≡ true
unfolding crosses spans
crosses_spans p e c = elim (either (downs p e.start e.finish) (downs p e.finish e.start) c) [
  | inl d ↦ let r = down_spans p e.start e.finish d in up (over p e.start) (over p e.finish) r.0 r.1
  | inr d ↦ let r = down_spans p e.finish e.start d in down (over p e.start) (over p e.finish) r.0 r.1
]
  where
    up : (a b : Bool) → a ≡ true → b ≡ false → differ a b ≡ true
    up a b e f = ap (λ (x : Bool). differ x b) e ∙ ap (λ (y : Bool). differ true y) f

    down : (a b : Bool) → b ≡ true → a ≡ false → differ a b ≡ true
    down a b e f = ap (λ (y : Bool). differ a y) e ∙ ap (λ (x : Bool). differ x true) f

high_of : (f : Bounds) (p : PlanePoint) (e : Edge) → IsEdgeHeld f e → crosses p e ≡ false → spans p e ≡ true → IsBelowHigh f p
unfolding crosses spans
high_of f p e h c g = go (over p e.start) refl (over p e.finish) refl g
  where
    none : (downs p e.start e.finish ≡ false) × (downs p e.finish e.start ≡ false)
    none = neither (downs p e.start e.finish) (downs p e.finish e.start) c

    go : (a : Bool) → over p e.start ≡ a → (b : Bool) → over p e.finish ≡ b → differ a b ≡ true → IsBelowHigh f p
    go true i true j g = absurd (true≢false (sym g))
    go true i false j g = right_bounds f p e.start e.finish h.start h.finish (right_at p e.start e.finish i j none.0)
    go false i true j g = right_bounds f p e.finish e.start h.finish h.start (right_at p e.finish e.start j i none.1)
    go false i false j g = absurd (true≢false (sym g))

some_left : (f : Bounds) (p : PlanePoint) (es : List Edge) → AreHeld f es → odd_of (crosses p) es ≡ true → IsAboveLow f p
unfolding odd_of AreHeld
some_left f p [] h o = absurd (true≢false (sym o))
some_left f p (e ∷ es) h o = go (crosses p e) refl o (λ k. some_left f p es h.1 k)
  where
    go : (c : Bool) → crosses p e ≡ c → cond c (not (odd_of (crosses p) es)) (odd_of (crosses p) es) ≡ true
        → (odd_of (crosses p) es ≡ true → IsAboveLow f p) → IsAboveLow f p
    go true k o rest = low_of f p e h.0 k
    go false k o rest = rest o

-- where the two counts differ, some edge goes through the row and isn't crossed
some_right : (f : Bounds) (p : PlanePoint) (es : List Edge) → AreHeld f es → (odd_of (crosses p) es ≡ odd_of (spans p) es → ⊥) → IsBelowHigh f p
unfolding odd_of AreHeld
some_right f p [] h n = absurd (n refl)
some_right f p (e ∷ es) h n = go (crosses p e) refl (spans p e) refl n (λ k. some_right f p es h.1 k)
  where
    go : (c : Bool) → crosses p e ≡ c → (s : Bool) → spans p e ≡ s
        → (cond c (not (odd_of (crosses p) es)) (odd_of (crosses p) es) ≡ cond s (not (odd_of (spans p) es)) (odd_of (spans p) es) → ⊥)
        → ((odd_of (crosses p) es ≡ odd_of (spans p) es → ⊥) → IsBelowHigh f p) → IsBelowHigh f p
    go true i true j n rest = rest (λ q. n (ap not q))
    go true i false j n rest = absurd (true≢false (sym (crosses_spans p e i) ∙ j))
    go false i true j n rest = high_of f p e h.0 i j
    go false i false j n rest = rest n

odd_held : (f : Bounds) (p : PlanePoint) (a : Point) (cs : List Point) → AreHeld f (edges_to a a cs) → IsOdd (crossings (edges_to a a cs) p) → In f p
odd_held f p a cs h o =
    let e = odd_true (odd_of (crosses p) (edges_to a a cs)) (crossings (edges_to a a cs) p) o (parity p (edges_to a a cs)) in
    let even = spans_chain p a a cs ∙ same (over p a) in
    let low = some_left f p (edges_to a a cs) h e in
    let high = some_right f p (edges_to a a cs) h (λ q. true≢false (sym e ∙ (q ∙ even))) in
    record {
      x_low = low.x_low;
      x_high = high.x_high;
      y_low = low.y_low;
      y_high = low.y_high;
      s_low = low.s_low;
      s_high = high.s_high;
      d_low = low.d_low;
      d_high = high.d_high;
    }
  where
    same : (b : Bool) → differ b b ≡ false
    same true = refl
    same false = refl

-- what closed edges whose ends lie in f cover lies in f
covers_held : (f : Bounds) (a : Point) (cs : List Point) (p : PlanePoint) → AreHeld f (edges_to a a cs) → Covers (edges_to a a cs) p → In f p
covers_held f a cs p h c = elim (covers_cases (edges_to a a cs) p c) [
  | inl o ↦ one_held f (edges_to a a cs) p h o
  | inr o ↦ odd_held f p a cs h o
]

none_odd : (p : PlanePoint) → IsOdd (crossings [] p) → ⊥
none_odd p o = omega (arith, o)

-- a point that an outline covers lies in the outline's frame
pub covers_in_frame : (corners : List Point) (p : PlanePoint) → Covers (edges_of corners) p → In (around corners) p
covers_in_frame [] p c = elim (covers_cases [] p c) [ inl o ↦ absurd (any_none (λ e. IsOn e p) o) | inr o ↦ absurd (none_odd p o) ]
covers_in_frame (a ∷ cs) p c =
    let all = around_holds (a ∷ cs) in
    let first = head_of (IsHeld (around (a ∷ cs))) a cs all in
    covers_held (around (a ∷ cs)) a cs p (to_held (around (a ∷ cs)) a a cs first first (tail_of (IsHeld (around (a ∷ cs))) a cs all)) c
