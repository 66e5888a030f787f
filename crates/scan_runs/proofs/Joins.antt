-- The steps from a band's last row to a strip's first.
use Rattle.std.proofs.Common.{◌≡◌, refl, sym, ap, ◌∙◌, subst, ℕ, suc, ◌+◌, ◌≤◌, List, [], ◌∷◌, ◌++◌, map, append_assoc, arith}
use Rattle.std.specs.Prelude.{ℤ, pos, ◌+ℤ◌}
use Rattle.grid_sets.specs.Rows.{Run, Row}
use Rattle.grid_sets.specs.Bands.{run_down, Band, row_of, rows_from, rows_of, AreMovedAlike, AreStill, IsJoining, AreBandsOf}
use Rattle.grid_sets.specs.declared.Slant.{Slant}
use Rattle.scan_runs.specs.Strips.{band_of}
use Rattle.scan_runs.specs.Inner.Grouping.{IsGoodBand, AreGoodBands, AreGrouped, IsTakenIn, IsSettled, JoinsBySteps, IsLonger, IsRestTaken}
use Rattle.scan_runs.specs.declared.strip.RowStrip.{RowStrip}
use Rattle.scan_runs.proofs.Greedy.{alone, begun, grown, second_row, rest_alike, rest_other}

abbrev made : ℤ → List Run → Row
made y rs = record { y = y; runs = rs }

-- the bands of no rows, and the first one
grouped_first : (rows : List Row) (s : RowStrip) → rows ≡ [] → (s.more ≡ 0 → AreStill s.runs.items) → AreBandsOf (rows ++ rows_of (band_of s)) (band_of s ∷ [])
grouped_first rows s e k = subst (λ (v : List Row). AreBandsOf (v ++ rows_of (band_of s)) (band_of s ∷ [])) (sym e) (alone (band_of s) k)

pub taken_first : (strip s : RowStrip) → IsSettled strip.top strip.more strip.runs.items s → IsTakenIn strip [] (s ∷ [])
taken_first strip s k = record {
  more = λ rows a. record {
    bands = subst (λ (v : List Row). AreBandsOf (rows ++ v) (band_of s ∷ [])) k.rows (grouped_first rows s a.bands k.still);
    small = (k.small, tt);
  };
}

-- ---- lists of strips and of their bands
map_end : (ss : List RowStrip) (s : RowStrip) → map band_of (ss ++ s ∷ []) ≡ map band_of ss ++ band_of s ∷ []
map_end [] s = refl
map_end (t ∷ ts) s = ap (λ (v : List Band). band_of t ∷ v) (map_end ts s)

map_two : (ss : List RowStrip) (s t : RowStrip) → map band_of ((ss ++ s ∷ []) ++ t ∷ []) ≡ map band_of ss ++ band_of s ∷ band_of t ∷ []
map_two [] s t = refl
map_two (u ∷ us) s t = ap (λ (v : List Band). band_of u ∷ v) (map_two us s t)

small_end : (ss : List RowStrip) (s : RowStrip) → AreGoodBands ss → IsGoodBand s → AreGoodBands (ss ++ s ∷ [])
small_end [] s a b = (b, tt)
small_end (t ∷ ts) s a b = (a.0, small_end ts s a.1 b)

pub small_split : (ss : List RowStrip) (s : RowStrip) → AreGoodBands (ss ++ s ∷ []) → AreGoodBands ss × IsGoodBand s
small_split [] s a = (tt, a.0)
small_split (t ∷ ts) s a = let r = small_split ts s a.1 in ((a.0, r.0), r.1)

-- a new band begins
grouped_begun : (rows : List Row) (init : List RowStrip) (last s : RowStrip) → AreGrouped rows (init ++ last ∷ []) → (IsJoining (band_of last) (row_of (band_of s) 0) → ⊥) → (s.more ≡ 0 → AreStill s.runs.items) → IsGoodBand s
    → AreGrouped (rows ++ rows_of (band_of s)) ((init ++ last ∷ []) ++ s ∷ [])
grouped_begun rows init last s a n k h = record {
  bands = subst (λ (v : List Band). AreBandsOf (rows ++ rows_of (band_of s)) v) (sym (map_two init last s))
      (begun rows (map band_of init) (band_of last) (band_of s) (subst (AreBandsOf rows) (map_end init last) a.bands) n k);
  small = small_end (init ++ last ∷ []) s a.small h;
}

-- the last band grows
grouped_grown : (rows extra : List Row) (init : List RowStrip) (last c : RowStrip) → AreGrouped rows (init ++ last ∷ []) → rows_of (band_of c) ≡ rows_of (band_of last) ++ extra → (c.more ≡ 0 → AreStill c.runs.items) → IsGoodBand c
    → AreGrouped (rows ++ extra) (init ++ c ∷ [])
grouped_grown rows extra init last c a e k h = record {
  bands = subst (AreBandsOf (rows ++ extra)) (sym (map_end init c))
      (grown rows extra (map band_of init) (band_of last) (band_of c) (subst (AreBandsOf rows) (map_end init last) a.bands) e k);
  small = small_end init c (small_split init last a.small).0 h;
}

-- ---- the strip's first row doesn't join
settled_row : (top : ℤ) (more : ℕ) (runs : List Slant) (s : RowStrip) → IsSettled top more runs s → row_of (band_of s) 0 ≡ row_of (record { top = top; more = more; runs = runs }) 0
settled_row top more runs s k = let e = k.rows in cc

pub taken_begun : (strip s last : RowStrip) (init : List RowStrip) → IsSettled strip.top strip.more strip.runs.items s → (IsJoining (band_of last) (row_of (band_of strip) 0) → ⊥)
    → IsTakenIn strip (init ++ last ∷ []) ((init ++ last ∷ []) ++ s ∷ [])
taken_begun strip s last init k n = record {
  more = λ rows a.
      subst (λ (v : List Row). AreGrouped (rows ++ v) ((init ++ last ∷ []) ++ s ∷ [])) k.rows
      (grouped_begun rows init last s a
      (λ j. n (subst (IsJoining (band_of last)) (settled_row strip.top strip.more strip.runs.items s k) j)) k.still k.small);
}

-- ---- it joins
abbrev joining_by : (b : Band) (r : Row) (steps : List Slant) → JoinsBySteps b r steps → IsJoining b r
joining_by b r steps j = record { next = j.next; steps = steps; last = j.last; new = j.new; alike = j.alike }

pub longer_second : (b : Band) (r : Row) (steps : List Slant) → JoinsBySteps b r steps → b.more ≡ 0 → IsLonger b r (record { top = b.top; more = 1; runs = steps })
longer_second b r steps j z = record {
  rows = second_row b r (joining_by b r steps j) z;
  last = row_same (b.top +ℤ pos 1) r.y (map (run_down 1) steps) r.runs (sym (subst (λ (n : ℕ). r.y ≡ b.top +ℤ pos (suc n)) z j.next)) j.new;
  more = omega arith;
}
  where
    row_same : (y z : ℤ) (rs ts : List Run) → y ≡ z → rs ≡ ts → made y rs ≡ made z ts
    row_same y z rs ts e f = cc

pub joined_whole : (strip last c : RowStrip) (init new : List RowStrip) → IsLonger (band_of last) (row_of (band_of strip) 0) (band_of c) → IsGoodBand c → IsRestTaken strip init c new → IsTakenIn strip (init ++ last ∷ []) new
joined_whole strip last c init new l h r = record {
  more = λ rows a.
      let first = row_of (band_of strip) 0 in
      let g = grouped_grown rows (first ∷ []) init last c a l.rows (λ z. absurd (none c.more l.more z)) h in
      subst (λ (v : List Row). AreGrouped v new) (append_assoc rows (first ∷ []) (rows_from (band_of strip) 1 strip.more)) (r.more (rows ++ first ∷ []) g);
}
  where
    none : (n : ℕ) → 1 ≤ n → n ≡ 0 → ⊥
    none n l z = omega arith

-- ---- the rest of the strip
pub rest_none : (strip c : RowStrip) (init : List RowStrip) → strip.more ≡ 0 → IsRestTaken strip init c (init ++ c ∷ [])
rest_none strip c init z = record {
  more = λ rows a. subst (λ (v : List Row). AreGrouped v (init ++ c ∷ [])) (ends rows (rows_from (band_of strip) 1 strip.more) (ap (λ (n : ℕ). rows_from (band_of strip) 1 n) z)) a;
}
  where
    ends : (rows more : List Row) → more ≡ [] → rows ≡ rows ++ more
    ends [] more e = sym e
    ends (r ∷ rs) more e = ap (λ (v : List Row). r ∷ v) (ends rs more e)

pub rest_grown : (strip c d : RowStrip) (init : List RowStrip) → 1 ≤ c.more → row_of (band_of c) c.more ≡ row_of (band_of strip) 0 → AreMovedAlike c.runs.items strip.runs.items
    → band_of d ≡ (record { top = c.top; more = c.more + strip.more; runs = c.runs.items }) → IsGoodBand d → IsRestTaken strip init c (init ++ d ∷ [])
rest_grown strip c d init one l m e h = record {
  more = λ rows a. grouped_grown rows (rows_from (band_of strip) 1 strip.more) init c d a
      (ap rows_of e ∙ rest_alike (band_of c) (band_of strip) l m)
      (λ z. absurd (none d.more (ap (λ (v : Band). v.more) e) z)) h;
}
  where
    none : (n : ℕ) → n ≡ c.more + strip.more → n ≡ 0 → ⊥
    none n f z = omega arith

pub rest_begun : (strip c s : RowStrip) (init : List RowStrip) → 1 ≤ c.more → row_of (band_of c) c.more ≡ row_of (band_of strip) 0 → (AreMovedAlike c.runs.items strip.runs.items → ⊥)
    → rows_of (band_of s) ≡ rows_from (band_of strip) 1 strip.more → row_of (band_of s) 0 ≡ row_of (band_of strip) 1 → (s.more ≡ 0 → AreStill s.runs.items) → IsGoodBand s
    → IsRestTaken strip init c ((init ++ c ∷ []) ++ s ∷ [])
rest_begun strip c s init one l n e f k h = record {
  more = λ rows a.
      subst (λ (v : List Row). AreGrouped (rows ++ v) ((init ++ c ∷ []) ++ s ∷ [])) e
      (grouped_begun rows init c s a (λ j. rest_other (band_of c) (band_of strip) one l n (subst (IsJoining (band_of c)) f j)) k h);
}
