-- Greedy bands, band by band: the last one grows, or a new one begins.
use Rattle.std.proofs.Common.{◌≡◌, refl, sym, ap, ◌∙◌, subst, ℕ, zero, suc, ◌+◌, ◌≤◌, List, [], ◌∷◌, ◌++◌, map, append_assoc, arith}
use Rattle.std.specs.Prelude.{ℤ, pos, ◌+ℤ◌}
use Rattle.std.proofs.lemmas.Int.{ints}
use Rattle.grid_sets.specs.Rows.{Run, Row}
use Rattle.grid_sets.specs.Bands.{run_down, Band, row_of, rows_from, rows_of, AreMovedAlike, AreStill, IsJoining, BandEnds, AreBandsOf}
use Rattle.grid_sets.specs.declared.Slant.{Slant}
use Rattle.grid_sets.proofs.BandRows.{append_none, rows_alike, slants_on, slants_told, alike_back, alike_through}

abbrev band : ℤ → ℕ → List Slant → Band
band top more runs = record { top = top; more = more; runs = runs }

rows_last : (b : Band) (k n : ℕ) → rows_from b k (suc n) ≡ rows_from b k n ++ row_of b (k + n) ∷ []
rows_last b k zero = let e : k ≡ k + 0 = omega arith in ap (λ (j : ℕ). row_of b j ∷ []) e
rows_last b k (suc n) =
    let e : suc k + n ≡ k + suc n = omega arith in
    ap (λ (t : List Row). row_of b k ∷ t) (rows_last b (suc k) n ∙ ap (λ (j : ℕ). rows_from b (suc k) n ++ row_of b j ∷ []) e)

rows_split : (b : Band) (k m n : ℕ) → rows_from b k (m + n) ≡ rows_from b k m ++ rows_from b (k + m) n
rows_split b k zero n = let d : 0 + n ≡ n = omega arith in let e : k ≡ k + 0 = omega arith in ap (λ (u : ℕ). rows_from b k u) d ∙ ap (λ (u : ℕ). rows_from b u n) e
rows_split b k (suc m) n =
    let d : suc m + n ≡ suc (m + n) = omega arith in
    let e : suc k + m ≡ k + suc m = omega arith in
    ap (λ (u : ℕ). rows_from b k u) d ∙ ap (λ (t : List Row). row_of b k ∷ t) (rows_split b (suc k) m n ∙ ap (λ (u : ℕ). rows_from b (suc k) m ++ rows_from b u n) e)

abbrev HasFirst : List Row → Type 0
HasFirst [] = ⊥
HasFirst (r ∷ rs) = Unit {0}

has_first : (rows : List Row) (init : List Band) (b : Band) → AreBandsOf rows (init ++ b ∷ []) → HasFirst rows
has_first rows [] b h = subst HasFirst (sym h.1) tt
has_first rows (a ∷ as_) b h = subst HasFirst (sym h.1) tt

ends_append : (b : Band) (rows extra : List Row) → HasFirst rows → BandEnds b rows → BandEnds b (rows ++ extra)
ends_append b [] extra h e = absurd h
ends_append b (r ∷ rs) extra h e = e

-- the last band grows
pub grown : (rows extra : List Row) (init : List Band) (b c : Band) → AreBandsOf rows (init ++ b ∷ []) → rows_of c ≡ rows_of b ++ extra → (c.more ≡ 0 → AreStill c.runs)
    → AreBandsOf (rows ++ extra) (init ++ c ∷ [])
grown rows extra [] b c h e s =
    let whole : rows ≡ rows_of b = h.1 ∙ (ap (λ (t : List Row). rows_of b ++ t) h.3 ∙ append_none (rows_of b)) in
    ([], ap (λ (t : List Row). t ++ extra) whole ∙ (sym e ∙ sym (append_none (rows_of c))), tt, refl, s)
grown rows extra (a ∷ as_) b c h e s = (
  h.0 ++ extra,
  ap (λ (t : List Row). t ++ extra) h.1 ∙ append_assoc (rows_of a) h.0 extra,
  ends_append a h.0 extra (has_first h.0 as_ b h.3) h.2,
  grown h.0 extra as_ b c h.3 e s,
  h.4,
)

-- one band alone
pub alone : (c : Band) → (c.more ≡ 0 → AreStill c.runs) → AreBandsOf (rows_of c) (c ∷ [])
alone c s = ([], sym (append_none (rows_of c)), tt, refl, s)

-- a new band begins
pub begun : (rows : List Row) (init : List Band) (b c : Band) → AreBandsOf rows (init ++ b ∷ []) → (IsJoining b (row_of c 0) → ⊥) → (c.more ≡ 0 → AreStill c.runs)
    → AreBandsOf (rows ++ rows_of c) (init ++ b ∷ c ∷ [])
begun rows [] b c h n s =
    let whole : rows ≡ rows_of b = h.1 ∙ (ap (λ (t : List Row). rows_of b ++ t) h.3 ∙ append_none (rows_of b)) in
    (rows_of c, ap (λ (t : List Row). t ++ rows_of c) whole, n, alone c s, h.4)
begun rows (a ∷ as_) b c h n s = (
  h.0 ++ rows_of c,
  ap (λ (t : List Row). t ++ rows_of c) h.1 ∙ append_assoc (rows_of a) h.0 (rows_of c),
  ends_append a h.0 (rows_of c) (has_first h.0 as_ b h.3) h.2,
  begun h.0 as_ b c h.3 n s,
  h.4,
)

-- ---- the four steps of the grouping
abbrev made : ℤ → List Run → Row
made y rs = record { y = y; runs = rs }

row_by : (y z : ℤ) (rs ts : List Run) → y ≡ z → rs ≡ ts → made y rs ≡ made z ts
row_by y z rs ts e f = cc

-- the second row sets the moves
pub second_row : (b : Band) (r : Row) (j : IsJoining b r) → b.more ≡ 0 → rows_of (band b.top 1 j.steps) ≡ rows_of b ++ r ∷ []
second_row b r j z =
    let c = band b.top 1 j.steps in
    let l : map (run_down 0) j.steps ≡ map (run_down 0) b.runs = subst (λ (n : ℕ). map (run_down 0) j.steps ≡ map (run_down n) b.runs) z j.last in
    let one : r.y ≡ b.top +ℤ pos 1 = subst (λ (n : ℕ). r.y ≡ b.top +ℤ pos (suc n)) z j.next in
    let e : row_of c 0 ≡ row_of b 0 = row_by (b.top +ℤ pos 0) (b.top +ℤ pos 0) (map (run_down 0) j.steps) (map (run_down 0) b.runs) refl l in
    let f : row_of c 1 ≡ r = row_by (b.top +ℤ pos 1) r.y (map (run_down 1) j.steps) r.runs (sym one) j.new in
    let g : rows_of b ≡ row_of b 0 ∷ [] = ap (λ (n : ℕ). rows_from b 0 (suc n)) z in
    let h : row_of c 0 ∷ row_of c 1 ∷ [] ≡ row_of b 0 ∷ r ∷ [] = cc in
    h ∙ sym (ap (λ (t : List Row). t ++ r ∷ []) g)

-- a later row keeps them
pub later_row : (b : Band) (r : Row) (j : IsJoining b r) → 1 ≤ b.more → rows_of (band b.top (suc b.more) b.runs) ≡ rows_of b ++ r ∷ []
later_row b r j one =
    let c = band b.top (suc b.more) b.runs in
    let a : map (run_down (0 + 1)) j.steps ≡ map (run_down (b.more + 1)) b.runs = slants_on j.steps b.runs 0 b.more 1 (j.alike one) j.last in
    let d : b.more + 1 ≡ suc b.more = omega arith in
    let e : map (run_down (suc b.more)) b.runs ≡ r.runs = subst (λ (n : ℕ). map (run_down n) b.runs ≡ r.runs) d (sym a ∙ j.new) in
    let f : row_of c (0 + suc b.more) ≡ r = subst (λ (n : ℕ). row_of c n ≡ r) (plus_zero (suc b.more)) (row_by (b.top +ℤ pos (suc b.more)) r.y (map (run_down (suc b.more)) b.runs) r.runs (sym j.next) e) in
    rows_last c 0 (suc b.more) ∙ ap (λ (s : Row). rows_from c 0 (suc b.more) ++ s ∷ []) f ∙ same
  where
    plus_zero : (n : ℕ) → n ≡ 0 + n
    plus_zero n = omega arith

    same : rows_from (band b.top (suc b.more) b.runs) 0 (suc b.more) ++ r ∷ [] ≡ rows_of b ++ r ∷ []
    same = ap (λ (t : List Row). t ++ r ∷ []) (rows_alike (band b.top (suc b.more) b.runs) b 0 0 (suc b.more) (λ i. refl))

-- the rest of a strip with the same moves goes on
pub rest_alike : (b c : Band) → row_of b b.more ≡ row_of c 0 → AreMovedAlike b.runs c.runs → rows_of (band b.top (b.more + c.more) b.runs) ≡ rows_of b ++ rows_from c 1 c.more
rest_alike b c l m =
    let a = band b.top (b.more + c.more) b.runs in
    let d : suc (b.more + c.more) ≡ suc b.more + c.more = omega arith in
    ap (λ (n : ℕ). rows_from a 0 n) d
    ∙ (rows_split a 0 (suc b.more) c.more
    ∙ (ap (λ (t : List Row). t ++ rows_from a (0 + suc b.more) c.more) (rows_alike a b 0 0 (suc b.more) (λ i. refl))
    ∙ ap (λ (t : List Row). rows_of b ++ t) (rows_alike a c (0 + suc b.more) 1 c.more (λ i. each i))))
  where
    each : (i : ℕ) → row_of (band b.top (b.more + c.more) b.runs) (0 + suc b.more + i) ≡ row_of c (1 + i)
    each i =
        let ys : b.top +ℤ pos b.more ≡ c.top +ℤ pos 0 = ap (λ (r : Row). r.y) l in
        let rs : map (run_down b.more) b.runs ≡ map (run_down 0) c.runs = ap (λ (r : Row). r.runs) l in
        let s = slants_on b.runs c.runs b.more 0 (1 + i) m rs in
        let e : b.more + (1 + i) ≡ 0 + suc b.more + i = omega arith in
        let f : 0 + (1 + i) ≡ 1 + i = omega arith in
        row_by (b.top +ℤ pos (0 + suc b.more + i)) (c.top +ℤ pos (1 + i)) (map (run_down (0 + suc b.more + i)) b.runs) (map (run_down (1 + i)) c.runs)
        (omega (arith, ints))
        (subst (λ (n : ℕ). map (run_down (0 + suc b.more + i)) b.runs ≡ map (run_down n) c.runs) f (subst (λ (n : ℕ). map (run_down n) b.runs ≡ map (run_down (0 + (1 + i))) c.runs) e s))

-- the rest of a strip with other moves begins a band
pub rest_other : (b c : Band) → 1 ≤ b.more → row_of b b.more ≡ row_of c 0 → (AreMovedAlike b.runs c.runs → ⊥) → IsJoining b (row_of c 1) → ⊥
rest_other b c one l n j =
    let rs : map (run_down b.more) b.runs ≡ map (run_down 0) c.runs = ap (λ (r : Row). r.runs) l in
    let a = slants_told j.steps c.runs (j.last ∙ rs) j.new in
    n (alike_through b.runs j.steps c.runs (alike_back j.steps b.runs (j.alike one)) a)
