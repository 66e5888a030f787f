-- Rows have one list of greedy bands.
use Rattle.std.proofs.Common.{◌≡◌, refl, sym, ap, ◌∙◌, subst, ℕ, zero, suc, ◌+◌, ◌≤◌, ◌<◌, inl, inr, List, [], ◌∷◌, ◌++◌, map, arith}
use Rattle.std.specs.Prelude.{ℤ, pos, ◌+ℤ◌}
use Rattle.std.proofs.lemmas.Int.{ints}
use Rattle.std.proofs.lemmas.Bool.{cases_lt}
use Rattle.grid_sets.specs.Rows.{Run, Row}
use Rattle.grid_sets.specs.Bands.{place_after, reach, run_down, Band, row_of, rows_from, rows_of, AreMovedAlike, AreStill, IsJoining, BandEnds, AreBandsOf}
use Rattle.grid_sets.specs.Laws.{BandsLaw}
use Rattle.grid_sets.specs.declared.Move.{Move}
use Rattle.grid_sets.specs.declared.Move.TheVariants.{Left, Still, Right}
use Rattle.grid_sets.specs.declared.End.{End}
use Rattle.grid_sets.specs.declared.Slant.{Slant}
use Rattle.grid_sets.proofs.BandRows.{slants_told, alike_through}

-- ---- two lists of rows that begin with the rows of a band each
row_at : (b c : Band) (k n m i : ℕ) (rs ts : List Row) → rows_from b k n ++ rs ≡ rows_from c k m ++ ts → i < n → i < m → row_of b (k + i) ≡ row_of c (k + i)
row_at b c k zero m i rs ts e l h = absurd (omega arith)
row_at b c k (suc n) zero i rs ts e l h = absurd (omega arith)
row_at b c k (suc n) (suc m) zero rs ts e l h =
    let a : row_of b k ≡ row_of c k = cc in
    let z : k ≡ k + 0 = omega arith in
    subst (λ (v : ℕ). row_of b v ≡ row_of c v) z a
row_at b c k (suc n) (suc m) (suc i) rs ts e l h =
    let t : rows_from b (suc k) n ++ rs ≡ rows_from c (suc k) m ++ ts = cc in
    let r : row_of b (suc k + i) ≡ row_of c (suc k + i) = row_at b c (suc k) n m i rs ts t (omega arith) (omega arith) in
    let z : suc k + i ≡ k + suc i = omega arith in
    subst (λ (v : ℕ). row_of b v ≡ row_of c v) z r

-- the longer band has the next row
next_row : (b c : Band) (k n m : ℕ) (rs ts : List Row) → rows_from b k n ++ rs ≡ rows_from c k m ++ ts → n < m → (us : List Row) × (rs ≡ row_of c (k + n) ∷ us)
next_row b c k n zero rs ts e l = absurd (omega arith)
next_row b c k zero (suc m) rs ts e l =
    let z : k ≡ k + 0 = omega arith in
    (rows_from c (suc k) m ++ ts, e ∙ ap (λ (v : ℕ). row_of c v ∷ (rows_from c (suc k) m ++ ts)) z)
next_row b c k (suc n) (suc m) rs ts e l =
    let t : rows_from b (suc k) n ++ rs ≡ rows_from c (suc k) m ++ ts = cc in
    let r = next_row b c (suc k) n m rs ts t (omega arith) in
    let z : suc k + n ≡ k + suc n = omega arith in
    (r.0, r.1 ∙ ap (λ (v : ℕ). row_of c v ∷ r.0) z)

same_rest : (b c : Band) (k n : ℕ) (rs ts : List Row) → rows_from b k n ++ rs ≡ rows_from c k n ++ ts → rs ≡ ts
same_rest b c k zero rs ts e = e
same_rest b c k (suc n) rs ts e =
    let t : rows_from b (suc k) n ++ rs ≡ rows_from c (suc k) n ++ ts = cc in
    same_rest b c (suc k) n rs ts t

-- ---- a band's runs, begun k rows later

abbrev later : ℕ → Slant → Slant
later k s = record { from = record { place = reach k s.from; go = s.from.go }; to = record { place = reach k s.to; go = s.to.go } }

later_alike : (k : ℕ) (ss : List Slant) → AreMovedAlike (map (later k) ss) ss
later_alike k [] = tt
later_alike k (s ∷ ss) = (record { from = refl; to = refl }, later_alike k ss)

moved_zero : (m : Move) (a : ℤ) → place_after m 0 a ≡ a
moved_zero Left a = omega (arith, ints)
moved_zero Still a = omega (arith, ints)
moved_zero Right a = omega (arith, ints)

moved_one : (m : Move) (k : ℕ) (a : ℤ) → place_after m 1 (place_after m k a) ≡ place_after m (suc k) a
moved_one Left k a = omega (arith, ints)
moved_one Still k a = omega (arith, ints)
moved_one Right k a = omega (arith, ints)

abbrev run_by : ℤ → ℤ → Run
run_by a b = record { from = a; to = b }

run_same : (a b c d : ℤ) → a ≡ c → b ≡ d → run_by a b ≡ run_by c d
run_same a b c d e f = cc

later_zero : (k : ℕ) (ss : List Slant) → map (run_down 0) (map (later k) ss) ≡ map (run_down k) ss
later_zero k [] = refl
later_zero k (s ∷ ss) =
    let a : run_down 0 (later k s) ≡ run_down k s = run_same (place_after s.from.go 0 (reach k s.from)) (place_after s.to.go 0 (reach k s.to)) (reach k s.from) (reach k s.to) (moved_zero s.from.go (reach k s.from)) (moved_zero s.to.go (reach k s.to)) in
    let r = later_zero k ss in
    cc

later_one : (k : ℕ) (ss : List Slant) → map (run_down 1) (map (later k) ss) ≡ map (run_down (suc k)) ss
later_one k [] = refl
later_one k (s ∷ ss) =
    let a : run_down 1 (later k s) ≡ run_down (suc k) s = run_same (place_after s.from.go 1 (reach k s.from)) (place_after s.to.go 1 (reach k s.to)) (reach (suc k) s.from) (reach (suc k) s.to) (moved_one s.from.go k s.from.place) (moved_one s.to.go k s.to.place) in
    let r = later_one k ss in
    cc

-- ---- two bands with the same first rows
row_top : (b c : Band) (i : ℕ) → row_of b i ≡ row_of c i → b.top ≡ c.top
row_top b c i e = let d : b.top +ℤ pos i ≡ c.top +ℤ pos i = ap (λ (r : Row). r.y) e in omega (arith, ints)

row_runs : (b c : Band) (i : ℕ) → row_of b i ≡ row_of c i → map (run_down i) b.runs ≡ map (run_down i) c.runs
row_runs b c i e = ap (λ (r : Row). r.runs) e

-- the shorter one would take the next row
joins : (b c : Band) → ((i : ℕ) → i ≤ b.more → row_of b i ≡ row_of c i) → IsJoining b (row_of c (suc b.more))
joins b c h =
    let k = b.more in
    let t : b.top ≡ c.top = row_top b c 0 (h 0 (omega arith)) in
    record {
      next = sym (ap (λ (v : ℤ). v +ℤ pos (suc k)) t);
      steps = map (later k) c.runs;
      last = later_zero k c.runs ∙ sym (row_runs b c k (h k (omega arith)));
      new = later_one k c.runs;
      alike = λ one. alike_through (map (later k) c.runs) c.runs b.runs (later_alike k c.runs)
          (slants_told c.runs b.runs (sym (row_runs b c 0 (h 0 (omega arith)))) (sym (row_runs b c 1 (h 1 one))));
    }

taken : (b c : Band) (rs ts : List Row) → BandEnds b rs → rows_of b ++ rs ≡ rows_of c ++ ts → b.more < c.more → ⊥
taken b c rs ts f e l =
    let r = next_row b c 0 (suc b.more) (suc c.more) rs ts e (omega arith) in
    let z : 0 + suc b.more ≡ suc b.more = omega arith in
    let p : BandEnds b (row_of c (0 + suc b.more) ∷ r.0) = subst (BandEnds b) r.1 f in
    subst (λ (v : ℕ). IsJoining b (row_of c v) → ⊥) z p (joins b c (λ i m. zeroth i (row_at b c 0 (suc b.more) (suc c.more) i rs ts e (omega arith) (omega arith))))
  where
    zeroth : (i : ℕ) → row_of b (0 + i) ≡ row_of c (0 + i) → row_of b i ≡ row_of c i
    zeroth i h = let z : 0 + i ≡ i = omega arith in subst (λ (v : ℕ). row_of b v ≡ row_of c v) z h

-- ---- slants with the same places and moves are the same
abbrev made_end : ℤ → Move → End
made_end a m = record { place = a; go = m }

end_same : (e f : End) → e.place ≡ f.place → e.go ≡ f.go → e ≡ f
end_same e f p g = let h : made_end e.place e.go ≡ made_end f.place f.go = cc in h

end_told : (e f : End) → e.go ≡ f.go → reach 0 e ≡ reach 0 f → e ≡ f
end_told e f g r = end_same e f (sym (moved_zero e.go e.place) ∙ (r ∙ moved_zero f.go f.place)) g

abbrev made_slant : End → End → Slant
made_slant e f = record { from = e; to = f }

slant_same : (s t : Slant) → s.from ≡ t.from → s.to ≡ t.to → s ≡ t
slant_same s t e f = let h : made_slant s.from s.to ≡ made_slant t.from t.to = cc in h

slants_same : (ss ts : List Slant) → AreMovedAlike ss ts → map (run_down 0) ss ≡ map (run_down 0) ts → ss ≡ ts
slants_same [] [] m e = refl
slants_same [] (t ∷ ts) m e = absurd m
slants_same (s ∷ ss) [] m e = absurd m
slants_same (s ∷ ss) (t ∷ ts) m e =
    let a : run_down 0 s ≡ run_down 0 t = cc in
    let d : map (run_down 0) ss ≡ map (run_down 0) ts = cc in
    let f = end_told s.from t.from m.0.from (ap (λ (r : Run). r.from) a) in
    let g = end_told s.to t.to m.0.to (ap (λ (r : Run). r.to) a) in
    let h = slant_same s t f g in
    let r = slants_same ss ts m.1 d in
    cc

still_alike : (ss ts : List Slant) → AreStill ss → AreStill ts → map (run_down 0) ss ≡ map (run_down 0) ts → AreMovedAlike ss ts
still_alike [] [] a b e = tt
still_alike [] (t ∷ ts) a b e = cc
still_alike (s ∷ ss) [] a b e = cc
still_alike (s ∷ ss) (t ∷ ts) a b e =
    let d : map (run_down 0) ss ≡ map (run_down 0) ts = cc in
    (record { from = a.0 ∙ sym b.0; to = a.1 ∙ sym b.1 }, still_alike ss ts a.2 b.2 d)

abbrev made_band : ℤ → ℕ → List Slant → Band
made_band top more runs = record { top = top; more = more; runs = runs }

band_same : (b c : Band) → b.top ≡ c.top → b.more ≡ c.more → b.runs ≡ c.runs → b ≡ c
band_same b c t m r = let h : made_band b.top b.more b.runs ≡ made_band c.top c.more c.runs = cc in h

moves_same : (b c : Band) → b.more ≡ c.more → (b.more ≡ 0 → AreStill b.runs) → (c.more ≡ 0 → AreStill c.runs) → ((i : ℕ) → i ≤ b.more → row_of b i ≡ row_of c i) → AreMovedAlike b.runs c.runs
moves_same b c m s t h = elim (cases_lt 0 b.more) [
  | inl l ↦ slants_told b.runs c.runs (row_runs b c 0 (h 0 (omega arith))) (row_runs b c 1 (h 1 (omega arith)))
  | inr l ↦ still_alike b.runs c.runs (s (omega arith)) (t (omega arith)) (row_runs b c 0 (h 0 (omega arith)))
]

first_same : (b c : Band) (rs ts : List Row) → rows_of b ++ rs ≡ rows_of c ++ ts → b.more ≡ c.more → (b.more ≡ 0 → AreStill b.runs) → (c.more ≡ 0 → AreStill c.runs) → b ≡ c
first_same b c rs ts e m s t =
    let h : (i : ℕ) → i ≤ b.more → row_of b i ≡ row_of c i = λ i l. zeroth i (row_at b c 0 (suc b.more) (suc c.more) i rs ts e (omega arith) (omega arith)) in
    band_same b c (row_top b c 0 (h 0 (omega arith))) m (slants_same b.runs c.runs (moves_same b c m s t h) (row_runs b c 0 (h 0 (omega arith))))
  where
    zeroth : (i : ℕ) → row_of b (0 + i) ≡ row_of c (0 + i) → row_of b i ≡ row_of c i
    zeroth i h = let z : 0 + i ≡ i = omega arith in subst (λ (v : ℕ). row_of b v ≡ row_of c v) z h

rests_same : (b c : Band) (rs ts : List Row) → b ≡ c → rows_of b ++ rs ≡ rows_of c ++ ts → rs ≡ ts
rests_same b c rs ts e h = same_rest b b 0 (suc b.more) rs ts (subst (λ (v : Band). rows_of b ++ rs ≡ rows_of v ++ ts) (sym e) h)

mores_same : (b c : Band) (rs ts : List Row) → BandEnds b rs → BandEnds c ts → rows_of b ++ rs ≡ rows_of c ++ ts → b.more ≡ c.more
mores_same b c rs ts f g e = elim (cases_lt b.more c.more) [
  | inl l ↦ absurd (taken b c rs ts f e l)
  | inr l ↦ elim (cases_lt c.more b.more) [
    | inl m ↦ absurd (taken c b ts rs g (sym e) m)
    | inr m ↦ omega arith
  ]
]

pub bands_law : BandsLaw
bands_law rows [] [] h i = refl
bands_law rows [] (c ∷ cs) h i = let e : [] ≡ rows_of c ++ i.0 = sym h ∙ i.1 in cc
bands_law rows (b ∷ bs) [] h i = let e : [] ≡ rows_of b ++ h.0 = sym i ∙ h.1 in cc
bands_law rows (b ∷ bs) (c ∷ cs) h i =
    let e : rows_of b ++ h.0 ≡ rows_of c ++ i.0 = sym h.1 ∙ i.1 in
    let m : b.more ≡ c.more = mores_same b c h.0 i.0 h.2 i.2 e in
    let a : b ≡ c = first_same b c h.0 i.0 e m h.4 i.4 in
    let r : h.0 ≡ i.0 = rests_same b c h.0 i.0 a e in
    let k : AreBandsOf h.0 cs = subst (λ (v : List Row). AreBandsOf v cs) (sym r) i.3 in
    let t : bs ≡ cs = bands_law h.0 bs cs h.3 k in
    cc
