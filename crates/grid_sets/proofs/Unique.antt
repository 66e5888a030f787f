-- A set has one list of runs at each y, and one list of rows.
use Rattle.std.proofs.Common.{◌≡◌, refl, sym, inl, inr, List, [], ◌∷◌, arith}
use Rattle.std.specs.Prelude.{ℤ, pos, ◌+ℤ◌, ◌≤ℤ◌}
use Rattle.std.proofs.lemmas.Int.{ints, by_lt_z}
use Rattle.grid_sets.specs.Rows.{Run, IsOnRun, OnRuns, AscendingRuns, Row, OnRows, AreMaximalRuns, Descending}
use Rattle.grid_sets.specs.Laws.{OneRowsLaw, OneRunsLaw}

pub on_from : (low : ℤ) (rs : List Run) (x : ℤ) → AscendingRuns low rs → OnRuns rs x → low ≤ℤ x
on_from low [] x a h = absurd h
on_from low (r ∷ rs) x a (inl h) = omega (arith, ints)
on_from low (r ∷ rs) x a (inr h) = let l = on_from (r.to +ℤ pos 2) rs x a.2 h in omega (arith, ints)

first : (low : ℤ) (r : Run) (rs : List Run) → AscendingRuns low (r ∷ rs) → IsOnRun r r.from
first low r rs a = record { low = omega (arith, ints); high = a.1 }

starts : (low : ℤ) (r : Run) (rs : List Run) (x : ℤ) → AscendingRuns low (r ∷ rs) → OnRuns (r ∷ rs) x → r.from ≤ℤ x
starts low r rs x a (inl h) = h.low
starts low r rs x a (inr h) = let l = on_from (r.to +ℤ pos 2) rs x a.2 h in omega (arith, ints)

-- the number after a run is missing
missing : (low : ℤ) (r : Run) (rs : List Run) → AscendingRuns low (r ∷ rs) → OnRuns (r ∷ rs) (r.to +ℤ pos 1) → ⊥
missing low r rs a (inl h) = omega (arith, ints)
missing low r rs a (inr h) = let l = on_from (r.to +ℤ pos 2) rs (r.to +ℤ pos 1) a.2 h in omega (arith, ints)

from_same : (l m : ℤ) (r t : Run) (rs ts : List Run) → AscendingRuns l (r ∷ rs) → AscendingRuns m (t ∷ ts)
    → ((x : ℤ) → OnRuns (r ∷ rs) x → OnRuns (t ∷ ts) x) → t.from ≤ℤ r.from
from_same l m r t rs ts a b f = starts m t ts r.from b (f r.from (inl (first l r rs a)))

to_same : (l m : ℤ) (r t : Run) (rs ts : List Run) → r.from ≡ t.from → AscendingRuns l (r ∷ rs) → AscendingRuns m (t ∷ ts)
    → ((x : ℤ) → OnRuns (t ∷ ts) x → OnRuns (r ∷ rs) x) → t.to ≤ℤ r.to
to_same l m r t rs ts e a b g =
    by_lt_z {P = t.to ≤ℤ r.to} r.to t.to
    (λ h. absurd (missing l r rs a (g (r.to +ℤ pos 1) (inl (record { low = omega (arith, ints); high = omega (arith, ints) })))))
    (λ h. h)

tail_in : (l m : ℤ) (r t : Run) (rs ts : List Run) → r.to ≡ t.to → AscendingRuns l (r ∷ rs)
    → ((x : ℤ) → OnRuns (r ∷ rs) x → OnRuns (t ∷ ts) x) → (x : ℤ) → OnRuns rs x → OnRuns ts x
tail_in l m r t rs ts e a f x h = elim (f x (inr h)) [
  | inl k ↦ let q = on_from (r.to +ℤ pos 2) rs x a.2 h in absurd (omega (arith, ints))
  | inr k ↦ k
]

le_antisym : (a b : ℤ) → a ≤ℤ b → b ≤ℤ a → a ≡ b
le_antisym a b h k = omega (arith, ints)

abbrev run_of : ℤ → ℤ → Run
run_of a b = record { from = a; to = b }

run_same : (r t : Run) → r.from ≡ t.from → r.to ≡ t.to → r ≡ t
run_same r t e f = let h : run_of r.from r.to ≡ run_of t.from t.to = cc in h

pub runs_same : (l m : ℤ) (rs ts : List Run) → AscendingRuns l rs → AscendingRuns m ts
    → ((x : ℤ) → OnRuns rs x → OnRuns ts x) → ((x : ℤ) → OnRuns ts x → OnRuns rs x) → rs ≡ ts
runs_same l m [] [] a b f g = refl
runs_same l m [] (t ∷ ts) a b f g = absurd (g t.from (inl (first m t ts b)))
runs_same l m (r ∷ rs) [] a b f g = absurd (f r.from (inl (first l r rs a)))
runs_same l m (r ∷ rs) (t ∷ ts) a b f g =
    let e : r.from ≡ t.from = le_antisym r.from t.from (from_same m l t r ts rs b a g) (from_same l m r t rs ts a b f) in
    let d : r.to ≡ t.to = le_antisym r.to t.to (to_same m l t r ts rs (sym e) b a f) (to_same l m r t rs ts e a b g) in
    let h : r ≡ t = run_same r t e d in
    let k : rs ≡ ts = runs_same (r.to +ℤ pos 2) (t.to +ℤ pos 2) rs ts a.2 b.2 (tail_in l m r t rs ts d a f) (tail_in m l t r ts rs (sym d) b g) in
    cc

-- ---- rows
pub on_top : (top : ℤ) (rows : List Row) (x y : ℤ) → Descending top rows → OnRows rows x y → top ≤ℤ y
on_top top [] x y d h = absurd h
on_top top (r ∷ rs) x y d (inl h) = omega (arith, ints)
on_top top (r ∷ rs) x y d (inr h) = let l = on_top (r.y +ℤ pos 1) rs x y d.2 h in omega (arith, ints)

some_on : (rs : List Run) → AreMaximalRuns rs → (x : ℤ) × OnRuns rs x
some_on [] h = absurd h
some_on (r ∷ rs) h = (r.from, inl (first h.0 r rs h.1))

y_least : (l m : ℤ) (r t : Row) (rs ts : List Row) → Descending l (r ∷ rs) → Descending m (t ∷ ts)
    → ((x y : ℤ) → OnRows (r ∷ rs) x y → OnRows (t ∷ ts) x y) → t.y ≤ℤ r.y
y_least l m r t rs ts a b f =
    let s = some_on r.runs a.1 in
    elim (f s.0 r.y (inl (refl, s.1))) [
      | inl k ↦ omega (arith, ints)
      | inr k ↦ let q = on_top (t.y +ℤ pos 1) ts s.0 r.y b.2 k in omega (arith, ints)
    ]

head_in : (m : ℤ) (r t : Row) (rs ts : List Row) → r.y ≡ t.y → Descending m (t ∷ ts)
    → ((x y : ℤ) → OnRows (r ∷ rs) x y → OnRows (t ∷ ts) x y) → (x : ℤ) → OnRuns r.runs x → OnRuns t.runs x
head_in m r t rs ts e b f x h = elim (f x r.y (inl (refl, h))) [
  | inl k ↦ k.1
  | inr k ↦ let q = on_top (t.y +ℤ pos 1) ts x r.y b.2 k in absurd (omega (arith, ints))
]

rest_in : (l : ℤ) (r t : Row) (rs ts : List Row) → r.y ≡ t.y → Descending l (r ∷ rs)
    → ((x y : ℤ) → OnRows (r ∷ rs) x y → OnRows (t ∷ ts) x y) → (x y : ℤ) → OnRows rs x y → OnRows ts x y
rest_in l r t rs ts e a f x y h = elim (f x y (inr h)) [
  | inl k ↦ let q = on_top (r.y +ℤ pos 1) rs x y a.2 h in absurd (omega (arith, ints))
  | inr k ↦ k
]

filled_same : (rs ts : List Run) → AreMaximalRuns rs → AreMaximalRuns ts
    → ((x : ℤ) → OnRuns rs x → OnRuns ts x) → ((x : ℤ) → OnRuns ts x → OnRuns rs x) → rs ≡ ts
filled_same [] ts a b f g = absurd a
filled_same (r ∷ rs) [] a b f g = absurd b
filled_same (r ∷ rs) (t ∷ ts) a b f g = runs_same a.0 b.0 (r ∷ rs) (t ∷ ts) a.1 b.1 f g

abbrev made : ℤ → List Run → Row
made y rs = record { y = y; runs = rs }

row_same : (r t : Row) → r.y ≡ t.y → r.runs ≡ t.runs → r ≡ t
row_same r t e f = let h : made r.y r.runs ≡ made t.y t.runs = cc in h

pub rows_same : (l m : ℤ) (rs ts : List Row) → Descending l rs → Descending m ts
    → ((x y : ℤ) → OnRows rs x y → OnRows ts x y) → ((x y : ℤ) → OnRows ts x y → OnRows rs x y) → rs ≡ ts
rows_same l m [] [] a b f g = refl
rows_same l m [] (t ∷ ts) a b f g = let s = some_on t.runs b.1 in absurd (g s.0 t.y (inl (refl, s.1)))
rows_same l m (r ∷ rs) [] a b f g = let s = some_on r.runs a.1 in absurd (f s.0 r.y (inl (refl, s.1)))
rows_same l m (r ∷ rs) (t ∷ ts) a b f g =
    let e : r.y ≡ t.y = le_antisym r.y t.y (y_least m l t r ts rs b a g) (y_least l m r t rs ts a b f) in
    let d : r.runs ≡ t.runs = filled_same r.runs t.runs a.1 b.1 (head_in m r t rs ts e b f) (head_in l t r ts rs (sym e) a g) in
    let h : r ≡ t = row_same r t e d in
    let k : rs ≡ ts = rows_same (r.y +ℤ pos 1) (t.y +ℤ pos 1) rs ts a.2 b.2 (rest_in l r t rs ts e a f) (rest_in m t r ts rs (sym e) b g) in
    cc

-- two lists of rows with the same points
pub rows_law : OneRowsLaw
rows_law rows others a b h = rows_same a.top b.top rows others a.descending b.descending (λ x y. (h x y).0) (λ x y. (h x y).1)

pub runs_law : OneRunsLaw
runs_law low least runs others a b h = runs_same low least runs others a b (λ x. (h x).0) (λ x. (h x).1)
