-- One slab further.
use Rattle.std.proofs.Common.{◌≡◌, subst, ℕ, zero, suc, ◌^◌, ◌+◌, ◌-◌, ◌<◌, ◌≤◌, arith, List, [], ◌∷◌, ◌++◌, length, get_or, drop, drop-cons}
use Rattle.std.specs.Prelude.{ℤ, pos, ◌<ℤ◌, AllPairs}
use Rattle.std.specs.List.{All}
use Rattle.std.proofs.lemmas.Int.{ints}
use Rattle.plane.specs.Plane.{Bounds}
use Rattle.plane.specs.Narrow.{IsNearZero}
use Rattle.strips.specs.declared.Strip.{Strip}
use Rattle.strips.specs.Strips.{in_nanometres}
use Rattle.strips.specs.Inner.Sweep.{AreOpen, AreSheetStrips}
use Rattle.sheet_union.specs.Near.{IsSlabAdded}
use Rattle.sheet_union.specs.Inner.Sweep.{begun, waiting, reaching_below}
use Rattle.sheet_union.proofs.Plain.{read, read_is}
use Rattle.sheet_union.proofs.State.{IsState, IsSoFar, next_state, open_at, so_far_next, so_far_end}

-- the row before the place k, and the row there
abbrev pub top_at : List ℤ → ℕ → ℤ
top_at rows k = get_or rows (k - 1) (pos 0)

abbrev pub bottom_at : List ℤ → ℕ → ℤ
bottom_at rows k = get_or rows k (pos 0)

pub rows_down : (rows : List ℤ) (k : ℕ) → 1 ≤ k → k < length rows → AllPairs (λ r q. r <ℤ q) rows → top_at rows k <ℤ bottom_at rows k
rows_down rows k h l d = d (k - 1) k (pos 0) (omega (arith, h)) l

-- the row as the code reads it
pub top_is : (rows : List ℤ) (k : ℕ) → k < length rows → All (λ r. IsNearZero (2 ^ 43) r) rows → read (top_at rows k) ≡ top_at rows k
top_is rows k l n = let h = n (k - 1) (pos 0) (omega (arith, l)) in read_is (top_at rows k) (omega (arith, ints, h))

pub bottom_is : (rows : List ℤ) (k : ℕ) → k < length rows → All (λ r. IsNearZero (2 ^ 43) r) rows → read (bottom_at rows k) ≡ bottom_at rows k
bottom_is rows k l n = let h = n k (pos 0) l in read_is (bottom_at rows k) (omega (arith, ints, h))

again : (k : ℕ) → (k + 1) - 1 ≡ k
again k = omega arith

pub state_step : (octs : List Bounds) (rows : List ℤ) (k : ℕ) (opened begun_ones seen_ones left rest rest' : List Bounds) (t u : ℤ)
    → 1 ≤ k → k < length rows → AllPairs (λ r q. r <ℤ q) rows → t ≡ top_at rows k → u ≡ bottom_at rows k
    → begun_ones ≡ opened ++ begun t rest → seen_ones ≡ begun_ones → left ≡ reaching_below u seen_ones → rest' ≡ waiting t rest
    → IsState octs (top_at rows k) opened rest → IsState octs (top_at rows (k + 1)) left rest'
state_step octs rows k opened begun_ones seen_ones left rest rest' t u h l d e f a b g i s =
    let w = next_state octs (top_at rows k) (bottom_at rows k) opened rest (rows_down rows k h l d) s in
    let j : left ≡ reaching_below (bottom_at rows k) (opened ++ begun (top_at rows k) rest) = rw (b, a, e, f) at g in
    let m : rest' ≡ waiting (top_at rows k) rest = rw e at i in
    rw (again k, j, m) w

pub open_step : (octs : List Bounds) (rows : List ℤ) (k : ℕ) (opened begun_ones seen_ones left left' rest : List Bounds) (t u : ℤ)
    → 1 ≤ k → k < length rows → AllPairs (λ r q. r <ℤ q) rows → t ≡ top_at rows k → u ≡ bottom_at rows k
    → begun_ones ≡ opened ++ begun t rest → seen_ones ≡ begun_ones → left ≡ reaching_below u seen_ones → left' ≡ left
    → IsState octs (top_at rows k) opened rest → AreOpen (in_nanometres octs) (top_at rows k) (bottom_at rows k) (in_nanometres left')
open_step octs rows k opened begun_ones seen_ones left left' rest t u h l d e f a b g i s =
    let j : left ≡ reaching_below (bottom_at rows k) (opened ++ begun (top_at rows k) rest) = rw (b, a, e, f) at g in
    rw (i, j) (open_at octs (top_at rows k) (bottom_at rows k) opened rest (rows_down rows k h l d) s)

pub strips_step : (os : List Bounds) (rows : List ℤ) (k : ℕ) (out new : List Strip) → 1 ≤ k → k < length rows
    → IsSlabAdded os (top_at rows k) (bottom_at rows k) out new → IsSoFar os rows (drop (k - 1) rows) out → IsSoFar os rows (drop ((k + 1) - 1) rows) new
strips_step os rows k out new h l g f =
    let e : drop k rows ≡ bottom_at rows k ∷ drop (suc k) rows = drop-cons rows k (pos 0) l in
    let a : drop (k - 1) rows ≡ top_at rows k ∷ drop (suc (k - 1)) rows = drop-cons rows (k - 1) (pos 0) (omega (arith, h, l)) in
    let b : drop (k - 1) rows ≡ top_at rows k ∷ bottom_at rows k ∷ drop (suc k) rows = rw (one_less k h, e) at a in
    rw (again k, e) (so_far_next os rows (top_at rows k) (bottom_at rows k) (drop (suc k) rows) out new (subst (λ (q : List ℤ). IsSoFar os rows q out) b f) g)
  where
    one_less : (k : ℕ) → 1 ≤ k → suc (k - 1) ≡ k
    one_less k h = omega (arith, h)

pub strips_end : (os : List Bounds) (rows : List ℤ) (k : ℕ) (out : List Strip) → length rows ≤ k → IsSoFar os rows (drop (k - 1) rows) out → AreSheetStrips os rows out
strips_end os rows k out l f = so_far_end os rows (drop (k - 1) rows) out (short rows (k - 1) (omega (arith, l))) f
  where
    short : {X : Type 0} (xs : List X) (i : ℕ) → length xs ≤ i + 1 → length (drop i xs) ≤ 1
    short [] zero m = omega arith
    short [] (suc i) m = omega arith
    short (x ∷ xs) zero m = omega (arith, m)
    short (x ∷ xs) (suc i) m = short xs i (omega (arith, m))
