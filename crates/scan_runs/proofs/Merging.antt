-- Runs that touch, and rows below rows.
use Rattle.std.proofs.Common.{◌≡◌, refl, sym, ap, subst, ◌⊎◌, inl, inr, ℕ, zero, suc, ◌+◌, ◌≤◌, ◌<◌, List, [], ◌∷◌, ◌++◌, map, arith}
use Rattle.std.specs.Prelude.{ℤ, pos, negsuc, ◌+ℤ◌, ◌-ℤ◌, ◌≤ℤ◌, ◌↔◌}
use Rattle.std.proofs.lemmas.Int.{ints, by_lt_z}
use Rattle.grid_sets.specs.Rows.{Run, IsOnRun, OnRuns, Row, OnRows, AreMaximalRuns, Descending}
use Rattle.grid_sets.specs.Bands.{run_down, reach, Band, rows_from, rows_of}
use Rattle.grid_sets.proofs.OnBands.{on_band, band_on, on_rows}
use Rattle.plane.specs.Plane.{Bounds, Within}
use Rattle.grid_sets.specs.Points.{HasPoint}
use Rattle.scan_runs.specs.Inner.Lines.{AreEndsApart, IsGreaterEnd}
use Rattle.scan_runs.specs.Inner.Merge.{IsUnionOfRuns, AreRowsBetween, AreStraight}
use Rattle.grid_sets.specs.declared.End.{End}
use Rattle.grid_sets.specs.declared.Slant.{Slant}

pub has_end : (os : List Bounds) (o : Bounds) (x y : ℤ) → HasPoint (os ++ o ∷ []) x y ↔ (HasPoint os x y ⊎ Within o x y)
has_end [] o x y = (λ h. elim h [ inl w ↦ inr w | inr e ↦ absurd e ], λ h. elim h [ inl e ↦ absurd e | inr w ↦ inl w ])
has_end (a ∷ os) o x y =
    let r = has_end os o x y in (
      λ h. elim h [ inl w ↦ inl (inl w) | inr k ↦ elim (r.0 k) [ inl m ↦ inl (inr m) | inr w ↦ inr w ] ],
      λ h. elim h [ inl k ↦ elim k [ inl w ↦ inl w | inr m ↦ inr (r.1 (inl m)) ] | inr w ↦ inr (r.1 (inr w)) ],
    )

-- two runs that touch are one, which begins where the first one does
joint_there : (a b c d t x : ℤ) → c ≤ℤ (b +ℤ pos 1) → a ≤ℤ x → x ≤ℤ t → ((t ≡ b) ⊎ (t ≡ d)) → ((a ≤ℤ x) × (x ≤ℤ b)) ⊎ ((c ≤ℤ x) × (x ≤ℤ d))
joint_there a b c d t x cb ax xt et =
    by_lt_z {P = ((a ≤ℤ x) × (x ≤ℤ b)) ⊎ ((c ≤ℤ x) × (x ≤ℤ d))} b x
    (λ l. inr (omega (arith, ints), omega (arith, ints)))
    (λ l. inl (ax, l))

-- ---- rows below rows
rows_lower : (l m : ℤ) (rs : List Row) → l ≤ℤ m → Descending m rs → Descending l rs
rows_lower l m [] h a = tt
rows_lower l m (r ∷ rs) h a = (omega (arith, ints), a.1, a.2)

filled_point : (rs : List Run) → AreMaximalRuns rs → (x : ℤ) × OnRuns rs x
filled_point [] h = absurd h
filled_point (r ∷ rs) h = (r.from, inl (record { low = omega (arith, ints); high = h.1.1 }))

rows_append : (top mid : ℤ) (rs ts : List Row) → top ≤ℤ mid → Descending top rs → Descending mid ts → ((x y : ℤ) → OnRows rs x y → (y +ℤ pos 1) ≤ℤ mid) → Descending top (rs ++ ts)
rows_append top mid [] ts h a b f = rows_lower top mid ts h b
rows_append top mid (r ∷ rs) ts h a b f =
    let p = filled_point r.runs a.1 in
    (a.0, a.1, rows_append (r.y +ℤ pos 1) mid rs ts (f p.0 r.y (inl (refl, p.1))) a.2 b (λ x y k. f x y (inr k)))

pub rows_put_together : (P : ℤ → ℤ → Type 0) (top mid bottom : ℤ) (rs ts : List Row) → top ≤ℤ (mid +ℤ pos 1) → mid ≤ℤ bottom
    → AreRowsBetween P top mid rs → AreRowsBetween P (mid +ℤ pos 1) bottom ts → AreRowsBetween P top bottom (rs ++ ts)
rows_put_together P top mid bottom rs ts h i a b = record {
  descending = rows_append top (mid +ℤ pos 1) rs ts h a.descending b.descending (λ x y k. let u = a.there x y k in omega (arith, ints));
  there = λ x y k. elim ((on_rows rs ts x y).0 k) [
    | inl m ↦ let u = a.there x y m in (u.0, omega (arith, ints), u.2)
    | inr m ↦ let u = b.there x y m in (omega (arith, ints), u.1, u.2)
  ];
  back = λ x y k l p. (on_rows rs ts x y).1 (by_lt_z {P = OnRows rs x y ⊎ OnRows ts x y} mid y
      (λ m. inr (b.back x y (omega (arith, ints)) l p))
      (λ m. inl (a.back x y k m p)));
}

-- a stretch whose runs are straight is a band
record IsBandRow (P : ℤ → ℤ → Type 0) (b : Band) (k : ℕ) : Type 0 where
  sorted : AreMaximalRuns (map (run_down k) b.runs)
  same : (x : ℤ) → OnRuns (map (run_down k) b.runs) x ↔ P x (b.top +ℤ pos k)

band_rows : (P : ℤ → ℤ → Type 0) (b : Band) (k n : ℕ) → ((i : ℕ) → i < k + n → IsBandRow P b i) → Descending (b.top +ℤ pos k) (rows_from b k n)
band_rows P b k zero f = tt
band_rows P b k (suc n) f = (
  omega (arith, ints),
  (f k (omega arith)).sorted,
  rows_lower (b.top +ℤ pos k +ℤ pos 1) (b.top +ℤ pos (suc k)) (rows_from b (suc k) n) (omega (arith, ints)) (band_rows P b (suc k) n (λ i l. f i (omega arith))),
)

-- ---- two slants that touch on each row
joint_back : (a b c d t x : ℤ) → a ≤ℤ c → b ≤ℤ t → d ≤ℤ t → ((a ≤ℤ x) × (x ≤ℤ b)) ⊎ ((c ≤ℤ x) × (x ≤ℤ d)) → (a ≤ℤ x) × (x ≤ℤ t)
joint_back a b c d t x ac bt dt (inl h) = (omega (arith, ints), omega (arith, ints))
joint_back a b c d t x ac bt dt (inr h) = (omega (arith, ints), omega (arith, ints))

either : (k : ℕ) (e f m : End) → ((m ≡ e) ⊎ (m ≡ f)) → ((reach k m ≡ reach k e) ⊎ (reach k m ≡ reach k f))
either k e f m (inl h) = inl (ap (λ (v : End). reach k v) h)
either k e f m (inr h) = inr (ap (λ (v : End). reach k v) h)

pub joint_law : (n : ℕ) (a b : Slant) (t : End) → AreEndsApart n (pos 0) a.from b.from → IsGreaterEnd n a.to b.to t
    → AreEndsApart n (negsuc 0) b.from a.to → IsUnionOfRuns n a b (record { from = a.from; to = t })
joint_law n a b t l g u = record {
  filled = λ k i h j. through k h (g.first.each k i);
  same = λ k x i. (
    λ h. parts k x (joint_there (reach k a.from) (reach k a.to) (reach k b.from) (reach k b.to) (reach k t) x
        (one_off k (reach k b.from) (reach k a.to) (u.each k i)) h.low h.high (either k a.to b.to t g.is)),
    λ h. whole k x (joint_back (reach k a.from) (reach k a.to) (reach k b.from) (reach k b.to) (reach k t) x
        (none_off k (reach k a.from) (reach k b.from) (l.each k i)) (none_off k (reach k a.to) (reach k t) (g.first.each k i))
        (none_off k (reach k b.to) (reach k t) (g.second.each k i)) (apart_of k x h)),
  );
}
  where
    one_off : (k : ℕ) (p q : ℤ) → (p +ℤ negsuc 0) ≤ℤ q → p ≤ℤ (q +ℤ pos 1)
    one_off k p q h = omega (arith, ints)

    none_off : (k : ℕ) (p q : ℤ) → (p +ℤ pos 0) ≤ℤ q → p ≤ℤ q
    none_off k p q h = omega (arith, ints)

    through : (k : ℕ) → reach k a.from ≤ℤ reach k a.to → (reach k a.to +ℤ pos 0) ≤ℤ reach k t → reach k a.from ≤ℤ reach k t
    through k p q = omega (arith, ints)

    parts : (k : ℕ) (x : ℤ) → ((reach k a.from ≤ℤ x) × (x ≤ℤ reach k a.to)) ⊎ ((reach k b.from ≤ℤ x) × (x ≤ℤ reach k b.to)) → IsOnRun (run_down k a) x ⊎ IsOnRun (run_down k b) x
    parts k x (inl h) = inl (record { low = h.0; high = h.1 })
    parts k x (inr h) = inr (record { low = h.0; high = h.1 })

    apart_of : (k : ℕ) (x : ℤ) → IsOnRun (run_down k a) x ⊎ IsOnRun (run_down k b) x → ((reach k a.from ≤ℤ x) × (x ≤ℤ reach k a.to)) ⊎ ((reach k b.from ≤ℤ x) × (x ≤ℤ reach k b.to))
    apart_of k x (inl h) = inl (h.low, h.high)
    apart_of k x (inr h) = inr (h.low, h.high)

    whole : (k : ℕ) (x : ℤ) → (reach k a.from ≤ℤ x) × (x ≤ℤ reach k t) → IsOnRun (run_down k (record { from = a.from; to = t })) x
    whole k x h = record { low = h.0; high = h.1 }

-- ---- a stretch whose runs are straight is a band
abbrev band : ℤ → ℕ → List Slant → Band
band top more ss = record { top = top; more = more; runs = ss }

number : (top y : ℤ) (n : ℕ) → top ≤ℤ y → y ≤ℤ (top +ℤ pos n) → (k : ℕ) × (k ≤ n) × (y ≡ top +ℤ pos k)
number top y n h l = by_sign (y -ℤ top) (omega (arith, ints))
  where
    by_sign : (d : ℤ) → y ≡ top +ℤ d → (k : ℕ) × (k ≤ n) × (y ≡ top +ℤ pos k)
    by_sign (pos k) e = (k, omega (arith, ints), e)
    by_sign (negsuc k) e = absurd (omega (arith, ints))

pub no_rows : (P : ℤ → ℤ → Type 0) (top : ℤ) (n : ℕ) → AreStraight P top n [] → AreRowsBetween P top (top +ℤ pos n) []
no_rows P top n a = record {
  descending = tt;
  there = λ x y h. absurd h;
  back = λ x y h l p. let r = number top y n h l in (a.same r.0 x r.1).1 (subst (λ (v : ℤ). P x v) r.2 p);
}

each_row : (P : ℤ → ℤ → Type 0) (top : ℤ) (n : ℕ) (s : Slant) (ss : List Slant) → AreStraight P top n (s ∷ ss) → (i : ℕ) → i < 0 + suc n → IsBandRow P (band top n (s ∷ ss)) i
each_row P top n s ss a i l =
    let w = a.sorted i (omega arith) in
    record { sorted = (w.low, w.ascending); same = λ x. a.same i x (omega arith) }

told : (P : ℤ → ℤ → Type 0) (top : ℤ) (n : ℕ) (s : Slant) (ss : List Slant) (x y : ℤ) → AreStraight P top n (s ∷ ss)
    → (i : ℕ) × (0 ≤ i) × (i < 0 + suc n) × (y ≡ top +ℤ pos i) × OnRuns (map (run_down i) (s ∷ ss)) x → (top ≤ℤ y) × (y ≤ℤ (top +ℤ pos n)) × P x y
told P top n s ss x y a r = (omega (arith, ints, r.3), omega (arith, ints, r.3, r.2), subst (λ (v : ℤ). P x v) (sym r.3) ((a.same r.0 x (omega (arith, r.2))).0 r.4))

pub band_between : (P : ℤ → ℤ → Type 0) (top : ℤ) (n : ℕ) (s : Slant) (ss : List Slant) → AreStraight P top n (s ∷ ss)
    → AreRowsBetween P top (top +ℤ pos n) (rows_of (band top n (s ∷ ss)))
band_between P top n s ss a =
    let b = band top n (s ∷ ss) in
    record {
      descending = rows_lower top (top +ℤ pos 0) (rows_of b) (omega (arith, ints)) (band_rows P b 0 (suc n) (each_row P top n s ss a));
      there = λ x y h. told P top n s ss x y a (on_band b 0 (suc n) x y h);
      back = λ x y h l p. let r = number top y n h l in band_on b 0 (suc n) r.0 x y (omega arith) (omega (arith, r.1)) r.2 ((a.same r.0 x r.1).1 (subst (λ (v : ℤ). P x v) r.2 p));
    }
