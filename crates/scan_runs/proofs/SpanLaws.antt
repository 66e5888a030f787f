-- The span of octagons, and the rows of all of them.
use Rattle.std.proofs.Common.{◌≡◌, sym, subst, inl, inr, ℕ, ◌+◌, ◌<◌, ◌≤◌, ◌^◌, List, [], ◌∷◌, ◌++◌, length, get_or, take, arith}
use Rattle.std.specs.Prelude.{ℤ, pos, ◌+ℤ◌, ◌≤ℤ◌, ◌<ℤ◌}
use Rattle.std.proofs.lemmas.Int.{ints}
use Rattle.std.proofs.lemmas.List.{take_more, take_all}
use Rattle.plane.specs.Plane.{Bounds}
use Rattle.plane.specs.Narrow.{IsNearZero}
use Rattle.grid_sets.specs.Rows.{AreRowsOf}
use Rattle.grid_sets.specs.Points.{HasPoint}
use Rattle.scan_runs.specs.Strips.{rows_of_strips, IsSpan, IsWiderSpan, AreSmallStrips, AreStripsAdded}
use Rattle.scan_runs.specs.Cells.{AreAllInReach}
use Rattle.scan_runs.specs.declared.strip.RowStrip.{RowStrip}
use Rattle.scan_runs.proofs.Merging.{has_end}

pub span_none : (top bottom : ℤ) → IsNearZero (2 ^ 40) top → IsNearZero (2 ^ 40) bottom → IsSpan [] top bottom
span_none top bottom h k = record { points = λ x y e. absurd e; across = λ x y e. absurd e; first = h; last = k }

span_step : (o : Bounds) (os : List Bounds) (top bottom upper lower : ℤ) → IsSpan os top bottom → IsWiderSpan o top bottom upper lower → IsSpan (os ++ o ∷ []) upper lower
span_step o os top bottom upper lower s w =
    let n = w.near s.first s.last in
    record {
      points = λ x y h. elim ((has_end os o x y).0 h) [
        | inl m ↦ wide y (s.points x y m)
        | inr v ↦ (through upper o.y0 y w.above.1 v.y_low, through y o.y1 lower v.y_high w.below.1)
      ];
      across = λ x y h. elim ((has_end os o x y).0 h) [ inl m ↦ s.across x y m | inr v ↦ w.across x y v ];
      first = n.0;
      last = n.1;
    }
  where
    through : (a b c : ℤ) → a ≤ℤ b → b ≤ℤ c → a ≤ℤ c
    through a b c h i = omega (arith, ints)

    wide : (y : ℤ) → (top ≤ℤ y) × (y ≤ℤ bottom) → (upper ≤ℤ y) × (y ≤ℤ lower)
    wide y h = (through upper top y w.above.0 h.0, through y bottom lower h.1 w.below.0)

pub span_more : (o : Bounds) (os : List Bounds) (i : ℕ) (top bottom upper lower : ℤ) → i < length os → o ≡ get_or os i o → IsSpan (take i os) top bottom → IsWiderSpan o top bottom upper lower
    → IsSpan (take (i + 1) os) upper lower
span_more o os i top bottom upper lower l e s w =
    subst (λ (t : List Bounds). IsSpan t upper lower) (sym (take_more os i o l))
    (subst (λ (b : Bounds). IsSpan (take i os ++ b ∷ []) upper lower) e (span_step o (take i os) top bottom upper lower s w))

pub span_all : (os : List Bounds) (i : ℕ) (top bottom : ℤ) → length os ≤ i → IsSpan (take i os) top bottom → IsSpan os top bottom
span_all os i top bottom l s = subst (λ (t : List Bounds). IsSpan t top bottom) (take_all i os l) s

-- ---- no octagon, and all rows
pub no_rows_of : (os : List Bounds) (top bottom : ℤ) → IsSpan os top bottom → bottom <ℤ top → AreRowsOf (HasPoint os) []
no_rows_of os top bottom s l = record {
  are = record { top = top; descending = tt };
  same = λ x y. (λ h. absurd h, λ h. out y (s.points x y h));
}
  where
    out : (y : ℤ) → (top ≤ℤ y) × (y ≤ℤ bottom) → ⊥
    out y h = omega (arith, ints, h.0, h.1)

pub all_rows_of : (os : List Bounds) (top bottom t : ℤ) (n : ℕ) (new : List RowStrip) → IsSpan os top bottom → t ≡ top → bottom ≡ top +ℤ pos n → AreStripsAdded os t n [] new → AreRowsOf (HasPoint os) (rows_of_strips new)
all_rows_of os top bottom t n new s z e a =
    let b : AreStripsAdded os top n [] new = subst (λ (v : ℤ). AreStripsAdded os v n [] new) z a in
    subst (λ (v : List RowStrip). AreRowsOf (HasPoint os) (rows_of_strips v)) (sym b.added) (record {
      are = record { top = top; descending = b.rows.descending };
      same = λ x y. (λ h. (b.rows.there x y h).2, λ h. let p = s.points x y h in b.rows.back x y p.0 (low y p.1) h);
    })
  where
    low : (y : ℤ) → y ≤ℤ bottom → y ≤ℤ (top +ℤ pos n)
    low y h = omega (arith, ints, e)

pub all_small : (os : List Bounds) (top : ℤ) (n : ℕ) (new : List RowStrip) → AreStripsAdded os top n [] new → AreSmallStrips new
all_small os top n new a = subst AreSmallStrips (sym a.added) a.small

-- ---- all points are within reach
pub span_in_reach : (os : List Bounds) (top bottom : ℤ) → IsSpan os top bottom → AreAllInReach os
span_in_reach os top bottom s = record {
  x = s.across;
  y = λ x y h. let p = s.points x y h in record { low = omega (arith, ints, p.0, s.first.low); high = omega (arith, ints, p.1, s.last.high) };
}
