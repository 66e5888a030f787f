-- An octagon cut by the sides of another: the pieces, and what is left.
use Rattle.std.proofs.Common.{rules, ◌≡◌, sym, subst, ◌⊎◌, inl, inr, List, [], ◌∷◌, ◌++◌, Bool, arith}
use Rattle.std.specs.Prelude.{ℤ, ◌+ℤ◌, ◌-ℤ◌, ◌≤ℤ◌, ◌<ℤ◌, ◌↔◌, IsTrue, Option, None, Some, IsNone, IfSome}
use Rattle.std.proofs.lemmas.Int.{ints, by_lt_z}
use Rattle.plane.specs.Plane.{Bounds, Within, IsOct}
use Rattle.plane.specs.Narrow.{IsOrdered, Holds}
use Rattle.octagon.specs.Bounded.{AreInRange}
use Rattle.grid_sets.specs.Points.{HasPoint, AreApart}
use Rattle.scan_rows.specs.Sets.{IsRestAdded}
use Rattle.scan_rows.specs.Inner.Cutting.{IsBounded, limit_of, IsBeyond, IsAdded, IsCutOff}
use Rattle.scan_rows.specs.declared.cut.Side.{Side}
use Rattle.scan_rows.specs.declared.cut.Side.TheVariants.{Top, Bottom, Left, Right, TopLeft, BottomRight, BottomLeft, TopRight}
use Rattle.scan_rows.proofs.Lists.{has_end, apart_end}

-- ---- ranges
pub bounded_of : (o : Bounds) → IsOct o → IsBounded o
bounded_of o h =
    let t = h.tight in
    record {
      x0 = omega (arith, ints);
      x1 = omega (arith, ints);
      y0 = omega (arith, ints);
      y1 = omega (arith, ints);
      s0 = omega (arith, ints);
      s1 = omega (arith, ints);
      d0 = omega (arith, ints);
      d1 = omega (arith, ints);
    }

pub range_of : (b : Bounds) → IsBounded b → IsOrdered b → AreInRange b
range_of b h o = record {
  x0 = record { low = omega (arith, ints); high = omega (arith, ints) };
  x1 = record { low = omega (arith, ints); high = omega (arith, ints) };
  y0 = record { low = omega (arith, ints); high = omega (arith, ints) };
  y1 = record { low = omega (arith, ints); high = omega (arith, ints) };
  s0 = record { low = omega (arith, ints); high = omega (arith, ints) };
  s1 = record { low = omega (arith, ints); high = omega (arith, ints) };
  d0 = record { low = omega (arith, ints); high = omega (arith, ints) };
  d1 = record { low = omega (arith, ints); high = omega (arith, ints) };
}

pub ordered_point : (b : Bounds) (x y : ℤ) → Within b x y → IsOrdered b
ordered_point b x y w = record { x = omega (arith, ints); y = omega (arith, ints); s = omega (arith, ints); d = omega (arith, ints) }

pub ordered_by : (b : Bounds) (x y s d r : Bool) → IsTrue x ↔ (b.x0 ≤ℤ b.x1) → IsTrue y ↔ (b.y0 ≤ℤ b.y1) → IsTrue s ↔ (b.s0 ≤ℤ b.s1) → IsTrue d ↔ (b.d0 ≤ℤ b.d1)
    → IsTrue r ↔ (IsTrue x × IsTrue y × IsTrue s × IsTrue d) → IsTrue r ↔ IsOrdered b
ordered_by b x y s d r ex ey es ed e = (
  λ h. let a = e.0 h in record { x = ex.0 a.0; y = ey.0 a.1; s = es.0 a.2; d = ed.0 a.3 },
  λ o. e.1 (ex.1 o.x, ey.1 o.y, es.1 o.s, ed.1 o.d),
)

-- ---- a piece
pub no_piece : (b : Bounds) → (IsOrdered b → ⊥) → (x y : ℤ) → Holds None x y ↔ Within b x y
no_piece b n x y = (λ h. absurd h, λ w. n (ordered_point b x y w))

pub piece_points : (r : Option Bounds) (b : Bounds) → IsNone r ↔ ((x y : ℤ) → Within b x y → ⊥) → IfSome r (λ o. (x y : ℤ) → Within o x y ↔ Within b x y)
    → (x y : ℤ) → Holds r x y ↔ Within b x y
piece_points None b n s x y = (λ h. absurd h, λ w. n.0 (search rules) x y w)
piece_points (Some o) b n s x y = s x y

pub added_piece : (o b : Bounds) (os : List Bounds) → ((x y : ℤ) → Holds (Some o) x y ↔ Within b x y) → IsAdded b os (os ++ o ∷ [])
added_piece o b os h = record {
  same = λ x y. (
    λ k. elim ((has_end os o x y).0 k) [ inl m ↦ inl m | inr w ↦ inr ((h x y).0 w) ],
    λ k. (has_end os o x y).1 (elim k [ inl m ↦ inl m | inr w ↦ inr ((h x y).1 w) ]),
  );
  apart = λ a f. apart_end os o a (λ x y w k. f x y ((h x y).0 w) k);
}

-- ---- one side
pub cut_by : (side : Side) (l : ℤ) (b e r : Bounds) (old new : List Bounds) → ((x y : ℤ) → Within e x y ↔ (Within b x y × IsBeyond side l x y))
    → ((x y : ℤ) → Within r x y ↔ (Within b x y × (IsBeyond side l x y → ⊥))) → IsAdded e old new → IsCutOff side l b old new r
cut_by side l b e r old new he hr a = record {
  added = λ x y. (
    λ k. elim ((a.same x y).0 k) [ inl m ↦ inl m | inr w ↦ inr ((he x y).0 w) ],
    λ k. (a.same x y).1 (elim k [ inl m ↦ inl m | inr w ↦ inr ((he x y).1 w) ]),
  );
  left = hr;
  apart = λ o f. a.apart o (λ x y w k. f x y ((he x y).0 w).0 k);
}

below : (a b : ℤ) → (a <ℤ b) ⊎ (a <ℤ b → ⊥)
below a b = by_lt_z {P = (a <ℤ b) ⊎ (a <ℤ b → ⊥)} a b (λ h. inl h) (λ h. inr (λ k. omega (arith, ints)))

pub cut_as : (side : Side) (l m : ℤ) (b e r : Bounds) (old new : List Bounds) → ((x y : ℤ) → Within e x y ↔ (Within b x y × IsBeyond side m x y))
    → ((x y : ℤ) → Within r x y ↔ (Within b x y × (IsBeyond side m x y → ⊥))) → IsAdded e old new → m ≡ l → IsCutOff side l b old new r
cut_as side l m b e r old new he hr a h = subst (λ (v : ℤ). IsCutOff side v b old new r) h (cut_by side m b e r old new he hr a)

pub beyond_or_not : (side : Side) (l x y : ℤ) → IsBeyond side l x y ⊎ (IsBeyond side l x y → ⊥)
beyond_or_not Top l x y = below y l
beyond_or_not Bottom l x y = below l y
beyond_or_not Left l x y = below x l
beyond_or_not Right l x y = below l x
beyond_or_not TopLeft l x y = below (x +ℤ y) l
beyond_or_not BottomRight l x y = below l (x +ℤ y)
beyond_or_not BottomLeft l x y = below (x -ℤ y) l
beyond_or_not TopRight l x y = below l (x -ℤ y)

pub beyond_out : (side : Side) (o : Bounds) (x y : ℤ) → IsBeyond side (limit_of side o) x y → Within o x y → ⊥
beyond_out Top o x y h w = omega (arith, ints)
beyond_out Bottom o x y h w = omega (arith, ints)
beyond_out Left o x y h w = omega (arith, ints)
beyond_out Right o x y h w = omega (arith, ints)
beyond_out TopLeft o x y h w = omega (arith, ints)
beyond_out BottomRight o x y h w = omega (arith, ints)
beyond_out BottomLeft o x y h w = omega (arith, ints)
beyond_out TopRight o x y h w = omega (arith, ints)

-- ---- some sides: what was added, and what is left of own
pub record IsSoFar (own o : Bounds) (old new : List Bounds) (b : Bounds) : Type 0 where
  pub there : (x y : ℤ) → HasPoint new x y → HasPoint old x y ⊎ (Within own x y × (Within o x y → ⊥))
  pub kept : (x y : ℤ) → HasPoint old x y → HasPoint new x y
  pub split : (x y : ℤ) → Within own x y → HasPoint new x y ⊎ Within b x y
  pub inside : (x y : ℤ) → Within b x y → Within own x y
  pub apart : AreApart old → ((x y : ℤ) → Within own x y → HasPoint old x y → ⊥) → AreApart new
  pub free : ((x y : ℤ) → Within own x y → HasPoint old x y → ⊥) → (x y : ℤ) → Within b x y → HasPoint new x y → ⊥

begun : (own o : Bounds) (old : List Bounds) → IsSoFar own o old old own
begun own o old = record {
  there = λ x y h. inl h;
  kept = λ x y h. h;
  split = λ x y w. inr w;
  inside = λ x y w. w;
  apart = λ a f. a;
  free = λ f x y w h. f x y w h;
}

next : (own o : Bounds) (old new more : List Bounds) (b r : Bounds) (side : Side) → IsSoFar own o old new b → IsCutOff side (limit_of side o) b new more r → IsSoFar own o old more r
next own o old new more b r side s c = record {
  there = λ x y h. elim ((c.added x y).0 h) [ inl m ↦ s.there x y m | inr w ↦ inr (s.inside x y w.0, beyond_out side o x y w.1) ];
  kept = λ x y h. (c.added x y).1 (inl (s.kept x y h));
  split = λ x y w. elim (s.split x y w) [
    | inl m ↦ inl ((c.added x y).1 (inl m))
    | inr v ↦ elim (beyond_or_not side (limit_of side o) x y) [ inl k ↦ inl ((c.added x y).1 (inr (v, k))) | inr n ↦ inr ((c.left x y).1 (v, n)) ]
  ];
  inside = λ x y w. s.inside x y ((c.left x y).0 w).0;
  apart = λ a f. c.apart (s.apart a f) (s.free f);
  free = λ f x y w h. let v = (c.left x y).0 w in elim ((c.added x y).0 h) [ inl m ↦ s.free f x y v.0 m | inr k ↦ v.1 k.1 ];
}

not_below : (a b : ℤ) → (a <ℤ b → ⊥) → b ≤ℤ a
not_below a b n = by_lt_z {P = b ≤ℤ a} a b (λ i. absurd (n i)) (λ i. i)

-- all eight
pub all_sides : (own o : Bounds) (l0 l1 l2 l3 l4 l5 l6 l7 l8 : List Bounds) (a b c d e f g h : Bounds)
    → IsCutOff Top o.y0 own l0 l1 a → IsCutOff Bottom o.y1 a l1 l2 b → IsCutOff Left o.x0 b l2 l3 c → IsCutOff Right o.x1 c l3 l4 d
    → IsCutOff TopLeft o.s0 d l4 l5 e → IsCutOff BottomRight o.s1 e l5 l6 f → IsCutOff BottomLeft o.d0 f l6 l7 g → IsCutOff TopRight o.d1 g l7 l8 h
    → IsRestAdded own o l0 l8
all_sides own o l0 l1 l2 l3 l4 l5 l6 l7 l8 a b c d e f g h ka kb kc kd ke kf kg kh =
    let s1 = next own o l0 l0 l1 own a Top (begun own o l0) ka in
    let s2 = next own o l0 l1 l2 a b Bottom s1 kb in
    let s3 = next own o l0 l2 l3 b c Left s2 kc in
    let s4 = next own o l0 l3 l4 c d Right s3 kd in
    let s5 = next own o l0 l4 l5 d e TopLeft s4 ke in
    let s6 = next own o l0 l5 l6 e f BottomRight s5 kf in
    let s7 = next own o l0 l6 l7 f g BottomLeft s6 kg in
    let s8 = next own o l0 l7 l8 g h TopRight s7 kh in
    record {
      same = λ x y. (
        s8.there x y,
        λ k. elim k [
          | inl m ↦ s8.kept x y m
          | inr w ↦ elim (s8.split x y w.0) [ inl m ↦ m | inr v ↦ absurd (w.1 (common x y v)) ]
        ],
      );
      apart = s8.apart;
    }
  where
    common : (x y : ℤ) → Within h x y → Within o x y
    common x y vh =
        let wh = (kh.left x y).0 vh in
        let wg = (kg.left x y).0 wh.0 in
        let wf = (kf.left x y).0 wg.0 in
        let we = (ke.left x y).0 wf.0 in
        let wd = (kd.left x y).0 we.0 in
        let wc = (kc.left x y).0 wd.0 in
        let wb = (kb.left x y).0 wc.0 in
        let wa = (ka.left x y).0 wb.0 in
        record {
          x_low = not_below x o.x0 wc.1;
          x_high = not_below o.x1 x wd.1;
          y_low = not_below y o.y0 wa.1;
          y_high = not_below o.y1 y wb.1;
          s_low = not_below (x +ℤ y) o.s0 we.1;
          s_high = not_below o.s1 (x +ℤ y) wf.1;
          d_low = not_below (x -ℤ y) o.d0 wg.1;
          d_high = not_below o.d1 (x -ℤ y) wh.1;
        }

pub piece_as : (r : Option Bounds) (b e : Bounds) → IsNone r ↔ ((x y : ℤ) → Within e x y → ⊥) → IfSome r (λ o. (x y : ℤ) → Within o x y ↔ Within e x y) → e ≡ b
    → (x y : ℤ) → Holds r x y ↔ Within b x y
piece_as r b e n s h x y = subst (λ (v : Bounds). Holds r x y ↔ Within v x y) h (piece_points r e n s x y)

pub range_as : (b e : Bounds) → IsBounded b → IsOrdered b → e ≡ b → AreInRange e
range_as b e h o q = subst AreInRange (sym q) (range_of b h o)
