-- The calls that put strips together, each by its case.
use Rattle.std.proofs.Common.{◌≡◌, refl, sym, ap, ◌∙◌, subst, ℕ, zero, suc, ◌+◌, ◌<◌, ◌≤◌, ◌^◌, List, [], ◌∷◌, ◌++◌, map, length, get_or, take, arith, Result, Ok, Err, IfOk}
use Rattle.std.specs.Prelude.{ℤ, pos, ◌+ℤ◌}
use Rattle.std.proofs.lemmas.Int.{ints}
use Rattle.std.proofs.lemmas.List.{take_more, take_all}
use Rattle.plane.specs.Narrow.{IsNearZero}
use Rattle.grid_sets.specs.Rows.{Run, Row}
use Rattle.grid_sets.specs.Bands.{run_down, Band, row_of, rows_of, AreMovedAlike, IsJoining}
use Rattle.grid_sets.specs.declared.Slant.{Slant}
use Rattle.grid_sets.proofs.BandRows.{append_none, slants_on, slants_told, alike_through}
use Rattle.scan_runs.specs.Strips.{band_of, rows_of_strips, IsSmallStrip, AreSmallStrips}
use Rattle.scan_runs.specs.Inner.Grouping.{AreGoodRuns, IsGoodBand, AreGoodBands, AreSteps, HaveNoSteps, AreGrouped, IsTakenIn, IsSettled, JoinsBySteps, IsLonger, IsRestTaken, IsRestOf, IsJoinedSteps, IsLongerStrip, IsBandExtended}
use Rattle.scan_runs.specs.declared.strip.RowStrip.{RowStrip}
use Rattle.scan_runs.proofs.Greedy.{later_row}
use Rattle.scan_runs.proofs.Joins.{longer_second, joined_whole, rest_grown, rest_begun, small_split}
use Rattle.scan_runs.proofs.StripLaws.{all_more}

pub small_strip_at : (ss : List RowStrip) (i : ℕ) (d : RowStrip) → AreSmallStrips ss → i < length ss → IsSmallStrip (get_or ss i d)
small_strip_at [] i d a l = absurd (omega arith)
small_strip_at (t ∷ ts) zero d a l = a.0
small_strip_at (t ∷ ts) (suc i) d a l = small_strip_at ts i d a.1 (omega arith)

-- ---- does the first row join
pub joins_by : (last strip : RowStrip) (steps : List Slant) → last.top +ℤ pos last.more +ℤ pos 1 ≡ strip.top → AreSteps last.more last.runs.items strip.runs.items steps
    → (1 ≤ last.more → AreMovedAlike steps last.runs.items) → IsJoinedSteps (band_of last) (row_of (band_of strip) 0) steps
joins_by last strip steps e s a = record {
  joined = record { next = omega (arith, ints, e); last = s.last; new = s.new; alike = a };
  good = s.small;
}

pub joins_not_next : (last strip : RowStrip) → (last.top +ℤ pos last.more +ℤ pos 1 ≡ strip.top → ⊥) → IsJoining (band_of last) (row_of (band_of strip) 0) → ⊥
joins_not_next last strip h j = let n = j.next in h (omega (arith, ints, n))

pub joins_no_steps : (last strip : RowStrip) → HaveNoSteps last.more last.runs.items strip.runs.items → IsJoining (band_of last) (row_of (band_of strip) 0) → ⊥
joins_no_steps last strip h j = h j.steps j.last j.new

pub joins_other : (last strip : RowStrip) (steps : List Slant) → AreSteps last.more last.runs.items strip.runs.items steps → (1 ≤ last.more) × (AreMovedAlike steps last.runs.items → ⊥)
    → IsJoining (band_of last) (row_of (band_of strip) 0) → ⊥
joins_other last strip steps s h j =
    h.1 (alike_through steps j.steps last.runs.items (slants_told steps j.steps (s.last ∙ sym j.last) (s.new ∙ sym j.new)) (j.alike h.0))

-- ---- the band with the row
abbrev band : ℤ → ℕ → List Slant → Band
band top more runs = record { top = top; more = more; runs = runs }

band_by : (y z : ℤ) (n m : ℕ) (ss ts : List Slant) → y ≡ z → n ≡ m → ss ≡ ts → band y n ss ≡ band z m ts
band_by y z n m ss ts e f g = cc

row_same : (y z : ℤ) (rs ts : List Run) → y ≡ z → rs ≡ ts → (P : Row → Type 0) → P (record { y = z; runs = ts }) → P (record { y = y; runs = rs })
row_same y z rs ts e f P p = subst (λ (v : ℤ). P (record { y = v; runs = rs })) (sym e) (subst (λ (v : List Run). P (record { y = z; runs = v })) (sym f) p)

longer_later : (b : Band) (r : Row) (steps : List Slant) → JoinsBySteps b r steps → 1 ≤ b.more → IsLonger b r (band b.top (suc b.more) b.runs)
longer_later b r steps j one =
    let a : map (run_down (0 + 1)) steps ≡ map (run_down (b.more + 1)) b.runs = slants_on steps b.runs 0 b.more 1 (j.alike one) j.last in
    let d : b.more + 1 ≡ suc b.more = omega arith in
    let e : map (run_down (suc b.more)) b.runs ≡ r.runs = subst (λ (n : ℕ). map (run_down n) b.runs ≡ r.runs) d (sym a ∙ j.new) in
    record {
      rows = later_row b r (record { next = j.next; steps = steps; last = j.last; new = j.new; alike = j.alike }) one;
      last = row_same (b.top +ℤ pos (suc b.more)) r.y (map (run_down (suc b.more)) b.runs) r.runs (sym j.next) e (λ v. v ≡ r) refl;
      more = omega arith;
    }

pub longer_first_strip : (last strip s : RowStrip) (steps : List Slant) → IsSmallStrip strip → IsGoodBand last → IsJoinedSteps (band_of last) (row_of (band_of strip) 0) steps → last.more ≡ 0
    → s.top ≡ last.top → s.more ≡ 1 → s.runs.items ≡ steps → IsLongerStrip last (row_of (band_of strip) 0) s
longer_first_strip last strip s steps h g j z e f k = record {
  longer = subst (IsLonger (band_of last) (row_of (band_of strip) 0)) (sym (band_by s.top last.top s.more 1 s.runs.items steps e f k)) (longer_second (band_of last) (row_of (band_of strip) 0) steps j.joined z);
  good = record {
    runs = subst AreGoodRuns (sym k) j.good;
    top = subst (λ (v : ℤ). IsNearZero (2 ^ 40) v) (sym e) g.top;
    bottom = let n = j.joined.next in let b = h.bottom in omega (arith, ints, n, b, e, f, z);
  };
}

pub longer_later_strip : (last strip s : RowStrip) (steps : List Slant) → IsSmallStrip strip → IsGoodBand last → IsJoinedSteps (band_of last) (row_of (band_of strip) 0) steps → 1 ≤ last.more
    → s.top ≡ last.top → s.more ≡ last.more + 1 → s.runs.items ≡ last.runs.items → IsLongerStrip last (row_of (band_of strip) 0) s
longer_later_strip last strip s steps h g j z e f k = record {
  longer = subst (IsLonger (band_of last) (row_of (band_of strip) 0)) (sym (band_by s.top last.top s.more (suc last.more) s.runs.items last.runs.items e (f ∙ next last.more) k))
      (longer_later (band_of last) (row_of (band_of strip) 0) steps j.joined z);
  good = record {
    runs = subst AreGoodRuns (sym k) g.runs;
    top = subst (λ (v : ℤ). IsNearZero (2 ^ 40) v) (sym e) g.top;
    bottom = let n = j.joined.next in let b = h.bottom in omega (arith, ints, n, b, e, f);
  };
}
  where
    next : (n : ℕ) → n + 1 ≡ suc n
    next n = omega arith

-- ---- the rest of the strip
pub extended_by : (strip c s : RowStrip) → IsSmallStrip strip → IsGoodBand c → row_of (band_of c) c.more ≡ row_of (band_of strip) 0 → s.top ≡ c.top → s.more ≡ c.more + strip.more → s.runs.items ≡ c.runs.items
    → IsBandExtended strip c s
extended_by strip c s h g l e f k = record {
  is = band_by s.top c.top s.more (c.more + strip.more) s.runs.items c.runs.items e f k;
  good = record {
    runs = subst AreGoodRuns (sym k) g.runs;
    top = subst (λ (v : ℤ). IsNearZero (2 ^ 40) v) (sym e) g.top;
    bottom = let n : c.top +ℤ pos c.more ≡ strip.top +ℤ pos 0 = ap (λ (r : Row). r.y) l in let b = h.bottom in omega (arith, ints, n, b, e, f);
  };
}

pub rest_extended : (strip c s : RowStrip) (init : List RowStrip) → 1 ≤ c.more → row_of (band_of c) c.more ≡ row_of (band_of strip) 0 → AreMovedAlike c.runs.items strip.runs.items → IsBandExtended strip c s
    → IsRestTaken strip init c (init ++ s ∷ [])
rest_extended strip c s init one l m x = rest_grown strip c s init one l m x.is x.good

pub rest_other_band : (strip c s : RowStrip) (init : List RowStrip) → 1 ≤ c.more → row_of (band_of c) c.more ≡ row_of (band_of strip) 0 → (AreMovedAlike c.runs.items strip.runs.items → ⊥) → IsRestOf strip s
    → IsRestTaken strip init c ((init ++ c ∷ []) ++ s ∷ [])
rest_other_band strip c s init one l n r = rest_begun strip c s init one l n r.rows r.first r.still r.small

-- ---- one strip
pub taken_joined : {E : Type 0} {U : Type 0} (strip last c : RowStrip) (init new : List RowStrip) (r : Result U E) → IsLongerStrip last (row_of (band_of strip) 0) c → IfOk r (λ _. IsRestTaken strip init c new)
    → IfOk r (λ _. IsTakenIn strip (init ++ last ∷ []) new)
taken_joined strip last c init new (Err e) l h = h
taken_joined strip last c init new (Ok u) l h = joined_whole strip last c init new l.longer l.good h

pub last_good : (init : List RowStrip) (last : RowStrip) (old : List RowStrip) → old ≡ init ++ last ∷ [] → AreGoodBands old → IsGoodBand last
last_good init last old e h = (small_split init last (subst AreGoodBands e h)).1

-- ---- all strips
pub grouped_none : AreGrouped [] []
grouped_none = record { bands = refl; small = tt }

grouped_step : (ss : List RowStrip) (s : RowStrip) (old new : List RowStrip) → AreGrouped (rows_of_strips ss) old → IsTakenIn s old new → AreGrouped (rows_of_strips (ss ++ s ∷ [])) new
grouped_step ss s old new a t =
    subst (λ (v : List Row). AreGrouped v new)
    (ap (λ (v : List Row). rows_of_strips ss ++ v) (sym (append_none (rows_of (band_of s)))) ∙ sym (all_more ss (s ∷ [])))
    (t.more (rows_of_strips ss) a)

pub grouped_more : (ss : List RowStrip) (i : ℕ) (d : RowStrip) (old new : List RowStrip) → i < length ss → AreGrouped (rows_of_strips (take i ss)) old → IsTakenIn (get_or ss i d) old new → AreGrouped (rows_of_strips (take (i + 1) ss)) new
grouped_more ss i d old new l a t =
    subst (λ (v : List RowStrip). AreGrouped (rows_of_strips v) new) (sym (take_more ss i d l)) (grouped_step (take i ss) (get_or ss i d) old new a t)

pub grouped_all : (ss : List RowStrip) (i : ℕ) (new : List RowStrip) → length ss ≤ i → AreGrouped (rows_of_strips (take i ss)) new → AreGrouped (rows_of_strips ss) new
grouped_all ss i new l a = subst (λ (v : List RowStrip). AreGrouped (rows_of_strips v) new) (take_all i ss l) a

pub settled_as : (top t : ℤ) (more : ℕ) (runs : List Slant) (s : RowStrip) → t ≡ top → IsSettled t more runs s → IsSettled top more runs s
settled_as top t more runs s e k = subst (λ (v : ℤ). IsSettled v more runs s) e k
