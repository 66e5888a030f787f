-- The search for the least crossing pair, step by step.
use Rattle.std.proofs.Common.{◌≡◌, sym, ◌∙◌, ap, ℕ, zero, suc, ◌+◌, ◌<◌, ◌≤◌, inl, inr, arith, add-one, List, [], ◌∷◌, ◌++◌, length, get_or}
use Rattle.std.specs.Prelude.{pos, ◌≤ℤ◌, ◌<ℤ◌, Option, None, Some, MatchOption, Contains}
use Rattle.std.specs.List.Sorted.{IsPermutation}
use Rattle.std.proofs.lemmas.Int.{ints}
use Rattle.std.proofs.lemmas.Bool.{cases_order, cases_lt}
use Rattle.std.proofs.lemmas.List.{get_or_default, get_or_append_left, get_or_push}
use Rattle.std.proofs.lemmas.List.Sorted.{All-permutation, Contains-permutation}
use Rattle.plane.specs.Plane.{Bounds, IsMeeting}
use Rattle.grid_num.proofs.Products.{mul_le_back}
use Rattle.grid_num.specs.declared.Point.{Point}
use Rattle.outline_slab.specs.Rules.{AreCrossing, NoneCrossing}
use Rattle.outline_slab.specs.Faults.{IsPairBefore, IsLeastCrossing}
use Rattle.outline_slab.specs.Inner.Search.{IsRow, IsRowAt, AreRowsOfEdges, AreEdgeRows, IsBeforeBest, IsFound, Misses, IsBetterFind, MissesLater}
use Rattle.outline_slab.specs.declared.rows.Row.{Row}
use Rattle.outline_slab.proofs.Hulls.{above, below}
use Rattle.outline_slab.proofs.Crossings.{turned_crossing}

-- ---- better pairs
before_best : (best : Option (ℕ × ℕ)) (k l i j : ℕ) → IsPairBefore k l i j → IsBeforeBest i j best → IsBeforeBest k l best
before_best None k l i j h g = tt
before_best (Some p) k l i j (inl h) (inl g) = inl (omega arith)
before_best (Some p) k l i j (inl h) (inr g) = inl (omega (arith, g.0))
before_best (Some p) k l i j (inr h) (inl g) = inl (omega (arith, h.0))
before_best (Some p) k l i j (inr h) (inr g) = inr (h.0 ∙ g.0, omega (arith, h.1, g.1))

pub better_found : (cs : List Point) (best : Option (ℕ × ℕ)) (i j : ℕ) → i < j → j < length cs → IsBeforeBest i j best → AreCrossing cs i j → IsBetterFind cs best (Some (i, j))
better_found cs best i j o w b x = record {
  found = (o, w, x);
  misses = λ k l m p q h y. m p q (before_best best k l i j h b) y;
}

pub better_same : (cs : List Point) (best : Option (ℕ × ℕ)) → IsFound cs best → IsBetterFind cs best best
better_same cs best f = record { found = f; misses = λ i j m. m }

pub better_trans : (cs : List Point) (a b c : Option (ℕ × ℕ)) → IsBetterFind cs a b → IsBetterFind cs b c → IsBetterFind cs a c
better_trans cs a b c h g = record { found = g.found; misses = λ i j m. g.misses i j (h.misses i j m) }

pub better_later : (cs : List Point) (rows : List Row) (a b : Option (ℕ × ℕ)) (u n : ℕ) → IsBetterFind cs a b → MissesLater cs rows a u n → MissesLater cs rows b u n
better_later cs rows a b u n h m = λ v d l g. let w = m v d l g in (h.misses _ _ w.0, h.misses _ _ w.1)

-- ---- rows
pub rows_apart : (cs : List Point) (r s : Row) → IsRow cs r → IsRow cs s → r.bottom <ℤ s.top → AreCrossing cs r.index s.index → ⊥
rows_apart cs r s a b h x =
    let k = x.at.scale in
    let m = below k r.bottom _ _ _ a.bottom_start a.bottom_finish x.first.along in
    let n = above k s.top _ _ _ b.top_start b.top_finish x.second.along in
    let t = mul_le_back k s.top r.bottom x.at.positive (omega (arith, ints)) in
    omega (arith, ints)

sorted_far : (rows : List Row) → ((u : ℕ) (d : Row) → u + 1 < length rows → (get_or rows u d).top ≤ℤ (get_or rows (u + 1) d).top)
    → (u v : ℕ) (d : Row) → u ≤ v → v < length rows → (get_or rows u d).top ≤ℤ (get_or rows v d).top
sorted_far rows s u zero d h g = let e : u ≡ 0 = omega arith in rw e (omega (arith, ints))
sorted_far rows s u (suc v) d h g =
    elim (cases_lt v u) [
      | inl l ↦ (let e : u ≡ suc v = omega arith in rw e (omega (arith, ints)))
      | inr l ↦
          (let a = sorted_far rows s u v d l (omega arith) in
          let b : (get_or rows v d).top ≤ℤ (get_or rows (suc v) d).top = rw add-one at (s v d (omega arith)) in
          omega (arith, ints))
    ]

pub apart_later : (cs : List Point) (rows : List Row) (best : Option (ℕ × ℕ)) (u m v : ℕ) (d e f : Row) → AreRowsOfEdges cs rows → u < length rows → m ≤ v → v < length rows
    → (get_or rows u e).bottom <ℤ (get_or rows m f).top
    → Misses cs best (get_or rows u d).index (get_or rows v d).index × Misses cs best (get_or rows v d).index (get_or rows u d).index
apart_later cs rows best u m v d e f r hu hm hv h =
    let a = r.each u d hu in
    let b = r.each v d hv in
    let x : (get_or rows u e).bottom ≡ (get_or rows u d).bottom = ap (λ (w : Row). w.bottom) (get_or_default rows u e d hu) in
    let y : (get_or rows m f).top ≡ (get_or rows m d).top = ap (λ (w : Row). w.top) (get_or_default rows m f d (omega arith)) in
    let z = sorted_far rows r.sorted m v d hm hv in
    let l : (get_or rows u d).bottom <ℤ (get_or rows v d).top = omega (arith, ints) in (
      λ o w g c. rows_apart cs (get_or rows u d) (get_or rows v d) a b l c,
      λ o w g c. rows_apart cs (get_or rows u d) (get_or rows v d) a b l (turned_crossing cs _ _ c),
    )

-- the row that the code read, at any default
pub index_read : (rows : List Row) (u : ℕ) (d e : Row) → u < length rows → (get_or rows u e).index ≡ (get_or rows u d).index
index_read rows u d e h = ap (λ (w : Row). w.index) (get_or_default rows u e d h)

-- edges whose octagons do not meet do not cross
pub hulls_apart : (cs : List Point) (r s : Row) → IsRow cs r → IsRow cs s → (IsMeeting r.hull s.hull → ⊥) → AreCrossing cs r.index s.index → ⊥
unfolding IsMeeting
hulls_apart cs r s a b h x = h (x.at, (a.hull x.at).1 x.first, (b.hull x.at).1 x.second)

abbrev pub no_hull : Bounds
no_hull = record { x0 = pos 0; x1 = pos 0; y0 = pos 0; y1 = pos 0; s0 = pos 0; s1 = pos 0; d0 = pos 0; d1 = pos 0 }

-- ---- all pairs
all_missed : (cs : List Point) (rows : List Row) (best : Option (ℕ × ℕ)) → AreRowsOfEdges cs rows
    → ((u : ℕ) → u < length rows → MissesLater cs rows best u (length rows)) → (i j : ℕ) → Misses cs best i j
all_missed cs rows best r m i j o w =
    pair (r.every i (omega arith)).0 (r.every j w).0 (r.every i (omega arith)).1 (r.every j w).1
  where
    none : Row
    none = record { top = pos 0; bottom = pos 0; hull = no_hull; index = 0 }

    pair : (u v : ℕ) → IsRowAt rows i u → IsRowAt rows j v → IsBeforeBest i j best → AreCrossing cs i j → ⊥
    pair u v a b = elim (cases_order u v) [
      | inl e ↦ absurd (let p = a.index none in let q = b.index none in let s = ap (λ (k : ℕ). (get_or rows k none).index) e in omega arith)
      | inr (inl l) ↦ (let p = rw (a.index none, b.index none) at (m u a.place v none l b.place) in p.0 o w)
      | inr (inr l) ↦ (let p = rw (b.index none, a.index none) at (m v b.place u none l a.place) in p.1 o w)
    ]

pub least_found : (cs : List Point) (rows : List Row) (best : Option (ℕ × ℕ)) → AreRowsOfEdges cs rows → IsFound cs best
    → ((u : ℕ) → u < length rows → MissesLater cs rows best u (length rows))
    → MatchOption best (NoneCrossing cs) (λ p. IsLeastCrossing cs p.0 p.1)
least_found cs rows None r f m = λ i j o w x. all_missed cs rows None r m i j o w tt x
least_found cs rows (Some p) r f m = record {
  order = f.0;
  within = f.1;
  crossing = f.2;
  least = λ k l o w b x. all_missed cs rows (Some p) r m k l o w b x;
}

-- ---- after a sort
pub sorted_rows : (cs : List Point) (rows sorted : List Row) → AreEdgeRows cs rows → IsPermutation rows sorted
    → ((u : ℕ) (d : Row) → u + 1 < length sorted → (get_or sorted u d).top ≤ℤ (get_or sorted (u + 1) d).top) → AreRowsOfEdges cs sorted
sorted_rows cs rows sorted a p s = record {
  each = All-permutation (IsRow cs) rows sorted p a.each;
  every = λ i h.
      let l : i < length rows = omega (arith, a.count) in
      at i (a.index i none l) (Contains-permutation rows sorted (get_or rows i none) p (i, l, get_or_default rows i (get_or rows i none) none l));
  sorted = s;
}
  where
    none : Row
    none = record { top = pos 0; bottom = pos 0; hull = no_hull; index = 0 }

    at : (i : ℕ) → (get_or rows i none).index ≡ i → Contains sorted (get_or rows i none) → (u : ℕ) × IsRowAt sorted i u
    at i e c = (c.0, record { place = c.1; index = λ d. index_read sorted c.0 (get_or rows i none) d c.1 ∙ (ap (λ (w : Row). w.index) c.2 ∙ e) })

-- ---- one more row
pub pushed_index : (rows : List Row) (r : Row) (i : ℕ) → length rows ≡ i → ((u : ℕ) (d : Row) → u < i → (get_or rows u d).index ≡ u) → r.index ≡ i
    → (u : ℕ) (d : Row) → u < i + 1 → (get_or (rows ++ r ∷ []) u d).index ≡ u
pushed_index rows r i n all one u d h = elim (cases_lt u i) [
  | inl l ↦ ap (λ (w : Row). w.index) (get_or_append_left rows (r ∷ []) d u (omega arith)) ∙ all u d l
  | inr l ↦
      (let e : length rows ≡ u = omega arith in
      ap (λ (w : Row). w.index) (get_or_push rows r d u e) ∙ (one ∙ (sym n ∙ e)))
]
