-- The rows of bands: taken apart, put together, and told by their first two.
use Rattle.std.proofs.Common.{◌≡◌, refl, sym, ap, ◌∙◌, subst, ℕ, zero, suc, ◌+◌, List, [], ◌∷◌, ◌++◌, map, arith}
use Rattle.std.specs.Prelude.{ℤ}
use Rattle.std.proofs.lemmas.Int.{ints}
use Rattle.grid_sets.specs.Rows.{Run, Row}
use Rattle.grid_sets.specs.Bands.{place_after, reach, run_down, Band, row_of, rows_from, IsMovedAlike, AreMovedAlike}
use Rattle.grid_sets.specs.declared.Move.{Move}
use Rattle.grid_sets.specs.declared.Move.TheVariants.{Left, Still, Right}
use Rattle.grid_sets.specs.declared.End.{End}
use Rattle.grid_sets.specs.declared.Slant.{Slant}

pub append_none : (rows : List Row) → rows ++ [] ≡ rows
append_none [] = refl
append_none (r ∷ rs) = ap (λ (t : List Row). r ∷ t) (append_none rs)

-- ---- rows of bands
abbrev band : ℤ → ℕ → List Slant → Band
band top more runs = record { top = top; more = more; runs = runs }

rows_last : (b : Band) (k n : ℕ) → rows_from b k (suc n) ≡ rows_from b k n ++ row_of b (k + n) ∷ []
rows_last b k zero = let e : k ≡ k + 0 = omega arith in ap (λ (j : ℕ). row_of b j ∷ []) e
rows_last b k (suc n) =
    let e : suc k + n ≡ k + suc n = omega arith in
    ap (λ (t : List Row). row_of b k ∷ t) (rows_last b (suc k) n ∙ ap (λ (j : ℕ). rows_from b (suc k) n ++ row_of b j ∷ []) e)

-- rows that agree one by one
pub rows_alike : (b c : Band) (j k n : ℕ) → ((i : ℕ) → row_of b (j + i) ≡ row_of c (k + i)) → rows_from b j n ≡ rows_from c k n
rows_alike b c j k zero h = refl
rows_alike b c j k (suc n) h =
    let e : row_of b j ≡ row_of c k = zeroth b c j k (h 0) in
    let t : rows_from b (suc j) n ≡ rows_from c (suc k) n = rows_alike b c (suc j) (suc k) n (λ i. later b c j k i (h (suc i))) in
    cc
  where
    zeroth : (b c : Band) (j k : ℕ) → row_of b (j + 0) ≡ row_of c (k + 0) → row_of b j ≡ row_of c k
    zeroth b c j k h = let d : j + 0 ≡ j = omega arith in let e : k + 0 ≡ k = omega arith in subst (λ (u : ℕ). row_of b j ≡ row_of c u) e (subst (λ (u : ℕ). row_of b u ≡ row_of c (k + 0)) d h)

    later : (b c : Band) (j k i : ℕ) → row_of b (j + suc i) ≡ row_of c (k + suc i) → row_of b (suc j + i) ≡ row_of c (suc k + i)
    later b c j k i h = let d : j + suc i ≡ suc j + i = omega arith in let e : k + suc i ≡ suc k + i = omega arith in subst (λ (u : ℕ). row_of b (suc j + i) ≡ row_of c u) e (subst (λ (u : ℕ). row_of b u ≡ row_of c (k + suc i)) d h)

rows_split : (b : Band) (k m n : ℕ) → rows_from b k (m + n) ≡ rows_from b k m ++ rows_from b (k + m) n
rows_split b k zero n = let d : 0 + n ≡ n = omega arith in let e : k ≡ k + 0 = omega arith in ap (λ (u : ℕ). rows_from b k u) d ∙ ap (λ (u : ℕ). rows_from b u n) e
rows_split b k (suc m) n =
    let d : suc m + n ≡ suc (m + n) = omega arith in
    let e : suc k + m ≡ k + suc m = omega arith in
    ap (λ (u : ℕ). rows_from b k u) d ∙ ap (λ (t : List Row). row_of b k ∷ t) (rows_split b (suc k) m n ∙ ap (λ (u : ℕ). rows_from b (suc k) m ++ rows_from b u n) e)

-- ---- ends with the same moves stay together
abbrev end_of : ℤ → Move → End
end_of a m = record { place = a; go = m }

moved_on : (m : Move) (a c : ℤ) (j k i : ℕ) → place_after m j a ≡ place_after m k c → place_after m (j + i) a ≡ place_after m (k + i) c
moved_on Left a c j k i h = omega (arith, ints)
moved_on Still a c j k i h = omega (arith, ints)
moved_on Right a c j k i h = omega (arith, ints)

end_on : (e f : End) (j k i : ℕ) → e.go ≡ f.go → reach j e ≡ reach k f → reach (j + i) e ≡ reach (k + i) f
end_on e f j k i g h =
    let P : Move → Type 0 = λ m. place_after m j e.place ≡ reach k f → place_after m (j + i) e.place ≡ reach (k + i) f in
    subst P (sym g) (λ h. moved_on f.go e.place f.place j k i h) h

abbrev run_of : ℤ → ℤ → Run
run_of a b = record { from = a; to = b }

run_by : (r t : Run) → r.from ≡ t.from → r.to ≡ t.to → r ≡ t
run_by r t e f = let h : run_of r.from r.to ≡ run_of t.from t.to = cc in h

slant_on : (s t : Slant) (j k i : ℕ) → IsMovedAlike s t → run_down j s ≡ run_down k t → run_down (j + i) s ≡ run_down (k + i) t
slant_on s t j k i m h =
    let a : reach j s.from ≡ reach k t.from = ap (λ (r : Run). r.from) h in
    let c : reach j s.to ≡ reach k t.to = ap (λ (r : Run). r.to) h in
    run_by (run_down (j + i) s) (run_down (k + i) t) (end_on s.from t.from j k i m.from a) (end_on s.to t.to j k i m.to c)

pub slants_on : (ss ts : List Slant) (j k i : ℕ) → AreMovedAlike ss ts → map (run_down j) ss ≡ map (run_down k) ts → map (run_down (j + i)) ss ≡ map (run_down (k + i)) ts
slants_on [] [] j k i m h = refl
slants_on [] (t ∷ ts) j k i m h = absurd m
slants_on (s ∷ ss) [] j k i m h = absurd m
slants_on (s ∷ ss) (t ∷ ts) j k i m h =
    let a : run_down j s ≡ run_down k t = cc in
    let c : map (run_down j) ss ≡ map (run_down k) ts = cc in
    let d : run_down (j + i) s ≡ run_down (k + i) t = slant_on s t j k i m.0 a in
    let e : map (run_down (j + i)) ss ≡ map (run_down (k + i)) ts = slants_on ss ts j k i m.1 c in
    cc

-- two rows tell the moves
move_told : (m p : Move) (a c : ℤ) → place_after m 0 a ≡ place_after p 0 c → place_after m 1 a ≡ place_after p 1 c → m ≡ p
move_told Left Left a c h i = refl
move_told Left Still a c h i = absurd (omega (arith, ints))
move_told Left Right a c h i = absurd (omega (arith, ints))
move_told Still Left a c h i = absurd (omega (arith, ints))
move_told Still Still a c h i = refl
move_told Still Right a c h i = absurd (omega (arith, ints))
move_told Right Left a c h i = absurd (omega (arith, ints))
move_told Right Still a c h i = absurd (omega (arith, ints))
move_told Right Right a c h i = refl

pub slants_told : (ss ts : List Slant) → map (run_down 0) ss ≡ map (run_down 0) ts → map (run_down 1) ss ≡ map (run_down 1) ts → AreMovedAlike ss ts
slants_told [] [] h i = tt
slants_told [] (t ∷ ts) h i = cc
slants_told (s ∷ ss) [] h i = cc
slants_told (s ∷ ss) (t ∷ ts) h i =
    let a : run_down 0 s ≡ run_down 0 t = cc in
    let b : run_down 1 s ≡ run_down 1 t = cc in
    let c : map (run_down 0) ss ≡ map (run_down 0) ts = cc in
    let d : map (run_down 1) ss ≡ map (run_down 1) ts = cc in (
      record {
        from = move_told s.from.go t.from.go s.from.place t.from.place (ap (λ (r : Run). r.from) a) (ap (λ (r : Run). r.from) b);
        to = move_told s.to.go t.to.go s.to.place t.to.place (ap (λ (r : Run). r.to) a) (ap (λ (r : Run). r.to) b);
      },
      slants_told ss ts c d,
    )

pub alike_back : (ss ts : List Slant) → AreMovedAlike ss ts → AreMovedAlike ts ss
alike_back [] [] h = tt
alike_back [] (t ∷ ts) h = absurd h
alike_back (s ∷ ss) [] h = absurd h
alike_back (s ∷ ss) (t ∷ ts) h = (record { from = sym h.0.from; to = sym h.0.to }, alike_back ss ts h.1)

pub alike_through : (ss ts us : List Slant) → AreMovedAlike ss ts → AreMovedAlike ts us → AreMovedAlike ss us
alike_through [] [] [] h i = tt
alike_through [] [] (u ∷ us) h i = absurd i
alike_through [] (t ∷ ts) us h i = absurd h
alike_through (s ∷ ss) [] us h i = absurd h
alike_through (s ∷ ss) (t ∷ ts) [] h i = absurd i
alike_through (s ∷ ss) (t ∷ ts) (u ∷ us) h i = (record { from = h.0.from ∙ i.0.from; to = h.0.to ∙ i.0.to }, alike_through ss ts us h.1 i.1)
