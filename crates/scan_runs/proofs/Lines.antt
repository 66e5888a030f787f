-- What holds of straight ends on the first and the last row holds on each row between.
use Rattle.std.proofs.Common.{ℕ, ◌≤◌, refl, inl, inr, arith}
use Rattle.std.specs.Prelude.{ℤ, pos, ◌+ℤ◌, ◌-ℤ◌, ◌≤ℤ◌, ◌<ℤ◌}
use Rattle.std.proofs.lemmas.Int.{ints}
use Rattle.plane.specs.Plane.{Bounds, Within, IsTight}
use Rattle.plane.proofs.Sum.{between3}
use Rattle.grid_sets.specs.Bands.{place_after, reach}
use Rattle.scan_runs.specs.Inner.Lines.{AreEndsApart, IsGreaterEnd, IsLeftEnd, IsRightEnd, IsAlong, IsAbsent}
use Rattle.grid_sets.specs.declared.Move.{Move}
use Rattle.grid_sets.specs.declared.Move.TheVariants.{Left, Still, Right}
use Rattle.grid_sets.specs.declared.End.{End}

between : (m p : Move) (a c g : ℤ) (n k : ℕ) → k ≤ n → (place_after m 0 a +ℤ g) ≤ℤ place_after p 0 c → (place_after m n a +ℤ g) ≤ℤ place_after p n c → (place_after m k a +ℤ g) ≤ℤ place_after p k c
between Left Left a c g n k l h i = omega (arith, ints)
between Left Still a c g n k l h i = omega (arith, ints)
between Left Right a c g n k l h i = omega (arith, ints)
between Still Left a c g n k l h i = omega (arith, ints)
between Still Still a c g n k l h i = omega (arith, ints)
between Still Right a c g n k l h i = omega (arith, ints)
between Right Left a c g n k l h i = omega (arith, ints)
between Right Still a c g n k l h i = omega (arith, ints)
between Right Right a c g n k l h i = omega (arith, ints)

pub ends-AreEndsApart : (n : ℕ) (g : ℤ) (e f : End) → (reach 0 e +ℤ g) ≤ℤ reach 0 f → (reach n e +ℤ g) ≤ℤ reach n f → AreEndsApart n g e f
ends-AreEndsApart n g e f h i = record { each = λ k l. between e.go f.go e.place f.place g n k l h i }

pub AreEndsApart-same : (n : ℕ) (e : End) → AreEndsApart n (pos 0) e e
AreEndsApart-same n e = record { each = λ k l. omega (arith, ints) }

pub first-IsGreaterEnd : (n : ℕ) (e f : End) → AreEndsApart n (pos 0) f e → IsGreaterEnd n e f e
first-IsGreaterEnd n e f h = record { first = AreEndsApart-same n e; second = h; is = inl refl }

pub second-IsGreaterEnd : (n : ℕ) (e f : End) → AreEndsApart n (pos 0) e f → IsGreaterEnd n e f f
second-IsGreaterEnd n e f h = record { first = h; second = AreEndsApart-same n f; is = inr refl }

-- ---- the ends of an octagon
pub left_still : (x0 s0 d0 top : ℤ) (n : ℕ) → (s0 -ℤ top) ≤ℤ x0 → (d0 +ℤ (top +ℤ pos n)) ≤ℤ x0 → IsLeftEnd x0 s0 d0 top n (record { place = x0; go = Still })
left_still x0 s0 d0 top n h i = record {
  there = λ k x l w. (omega (arith, ints), omega (arith, ints), omega (arith, ints));
  back = λ k x l a b c. omega (arith, ints);
}

pub left_left : (x0 s0 d0 top : ℤ) (n : ℕ) → x0 ≤ℤ (s0 -ℤ (top +ℤ pos n)) → (d0 +ℤ (top +ℤ pos n)) ≤ℤ (s0 -ℤ (top +ℤ pos n)) → IsLeftEnd x0 s0 d0 top n (record { place = s0 -ℤ top; go = Left })
left_left x0 s0 d0 top n h i = record {
  there = λ k x l w. (omega (arith, ints), omega (arith, ints), omega (arith, ints));
  back = λ k x l a b c. omega (arith, ints);
}

pub left_right : (x0 s0 d0 top : ℤ) (n : ℕ) → x0 ≤ℤ (d0 +ℤ top) → (s0 -ℤ top) ≤ℤ (d0 +ℤ top) → IsLeftEnd x0 s0 d0 top n (record { place = d0 +ℤ top; go = Right })
left_right x0 s0 d0 top n h i = record {
  there = λ k x l w. (omega (arith, ints), omega (arith, ints), omega (arith, ints));
  back = λ k x l a b c. omega (arith, ints);
}

pub right_still : (x1 s1 d1 top : ℤ) (n : ℕ) → x1 ≤ℤ (s1 -ℤ (top +ℤ pos n)) → x1 ≤ℤ (d1 +ℤ top) → IsRightEnd x1 s1 d1 top n (record { place = x1; go = Still })
right_still x1 s1 d1 top n h i = record {
  there = λ k x l w. (omega (arith, ints), omega (arith, ints), omega (arith, ints));
  back = λ k x l a b c. omega (arith, ints);
}

pub right_left : (x1 s1 d1 top : ℤ) (n : ℕ) → (s1 -ℤ top) ≤ℤ x1 → (s1 -ℤ top) ≤ℤ (d1 +ℤ top) → IsRightEnd x1 s1 d1 top n (record { place = s1 -ℤ top; go = Left })
right_left x1 s1 d1 top n h i = record {
  there = λ k x l w. (omega (arith, ints), omega (arith, ints), omega (arith, ints));
  back = λ k x l a b c. omega (arith, ints);
}

pub right_right : (x1 s1 d1 top : ℤ) (n : ℕ) → (d1 +ℤ (top +ℤ pos n)) ≤ℤ x1 → (d1 +ℤ (top +ℤ pos n)) ≤ℤ (s1 -ℤ (top +ℤ pos n)) → IsRightEnd x1 s1 d1 top n (record { place = d1 +ℤ top; go = Right })
right_right x1 s1 d1 top n h i = record {
  there = λ k x l w. (omega (arith, ints), omega (arith, ints), omega (arith, ints));
  back = λ k x l a b c. omega (arith, ints);
}

-- each y of a tight octagon has a point
pub row_point : (o : Bounds) (y : ℤ) → IsTight o → o.y0 ≤ℤ y → y ≤ℤ o.y1 → (x : ℤ) × Within o x y
row_point o y t h i =
    let x = between3 o.x0 (o.s0 -ℤ y) (o.d0 +ℤ y) o.x1 (o.s1 -ℤ y) (o.d1 +ℤ y)
    (omega (arith, ints)) (omega (arith, ints)) (omega (arith, ints))
    (omega (arith, ints)) (omega (arith, ints)) (omega (arith, ints))
    (omega (arith, ints)) (omega (arith, ints)) (omega (arith, ints)) in
    (x.0, record { x_low = x.1; x_high = x.4; y_low = h; y_high = i; s_low = omega (arith, ints, x.2); s_high = omega (arith, ints, x.5); d_low = omega (arith, ints, x.3); d_high = omega (arith, ints, x.6) })

pub both-IsAlong : (o : Bounds) (top : ℤ) (n : ℕ) (e f : End) → IsTight o → o.y0 ≤ℤ top → (top +ℤ pos n) ≤ℤ o.y1 → IsLeftEnd o.x0 o.s0 o.d0 top n e → IsRightEnd o.x1 o.s1 o.d1 top n f
    → IsAlong o top n (record { from = e; to = f })
both-IsAlong o top n e f t h i a b = record {
  filled = λ k l. some k l (row_point o (top +ℤ pos k) t (omega (arith, ints)) (omega (arith, ints)));
  there = λ k x l w. within k x l (a.there k x l w.low) (b.there k x l w.high);
  back = λ k x l w. record { low = a.back k x l w.x_low w.s_low w.d_low; high = b.back k x l w.x_high w.s_high w.d_high };
}
  where
    within : (k : ℕ) (x : ℤ) → k ≤ n → (o.x0 ≤ℤ x) × (o.s0 ≤ℤ (x +ℤ (top +ℤ pos k))) × (o.d0 ≤ℤ (x -ℤ (top +ℤ pos k)))
        → (x ≤ℤ o.x1) × ((x +ℤ (top +ℤ pos k)) ≤ℤ o.s1) × ((x -ℤ (top +ℤ pos k)) ≤ℤ o.d1) → Within o x (top +ℤ pos k)
    within k x l u v = record { x_low = u.0; x_high = v.0; y_low = omega (arith, ints); y_high = omega (arith, ints); s_low = u.1; s_high = v.1; d_low = u.2; d_high = v.2 }

    trans : (u v w : ℤ) → u ≤ℤ v → v ≤ℤ w → u ≤ℤ w
    trans u v w h i = omega (arith, ints)

    some : (k : ℕ) → k ≤ n → (x : ℤ) × Within o x (top +ℤ pos k) → reach k e ≤ℤ reach k f
    some k l p = trans (reach k e) p.0 (reach k f) (a.back k p.0 l p.1.x_low p.1.s_low p.1.d_low) (b.back k p.0 l p.1.x_high p.1.s_high p.1.d_high)

pub above-IsAbsent : (o : Bounds) (top : ℤ) (n : ℕ) → o.y1 <ℤ top → IsAbsent o top n
above-IsAbsent o top n h = record { each = λ k x l w. omega (arith, ints, w.y_high) }

pub below-IsAbsent : (o : Bounds) (top : ℤ) (n : ℕ) → (top +ℤ pos n) <ℤ o.y0 → IsAbsent o top n
below-IsAbsent o top n h = record { each = λ k x l w. omega (arith, ints, w.y_low) }
