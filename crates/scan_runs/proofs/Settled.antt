-- Strips as bands: a row further down, and with still ends where there is one row alone.
use Rattle.std.proofs.Common.{◌≡◌, refl, sym, ap, ◌∙◌, subst, ℕ, suc, ◌+◌, ◌<◌, ◌≤◌, ◌^◌, List, [], ◌∷◌, ◌++◌, map, length, get_or, take, w64, to_z, of_z, arith, Result, Ok, Err, IfOk}
use Rattle.std.specs.Prelude.{ℤ, pos, ◌+ℤ◌, ◌≤ℤ◌}
use Rattle.std.proofs.lemmas.Int.{ints}
use Rattle.std.proofs.lemmas.List.{take_more, take_all}
use Rattle.plane.specs.Narrow.{IsNearZero}
use Rattle.grid_sets.specs.Rows.{Run, Row}
use Rattle.grid_sets.specs.Bands.{place_after, reach, run_down, Band, row_of, rows_from, rows_of, AreStill}
use Rattle.grid_sets.specs.declared.Move.{Move}
use Rattle.grid_sets.specs.declared.Move.TheVariants.{Left, Still, Right}
use Rattle.grid_sets.specs.declared.Slant.{Slant}
use Rattle.grid_sets.proofs.BandRows.{rows_alike}
use Rattle.scan_runs.specs.Inner.Parts.{IsSmallSlant, AreSmall}
use Rattle.scan_runs.specs.Strips.{band_of}
use Rattle.scan_runs.specs.Inner.Grouping.{IsGoodSlant, AreGoodRuns, IsAdvancedRun, AreAdvanced, AreStilled, IsSettled, IsRestOf}
use Rattle.scan_runs.specs.declared.strip.RowStrip.{RowStrip}
use Rattle.scan_runs.proofs.Steps.{map_end, good_end}

abbrev run_of : ℤ → ℤ → Run
run_of a b = record { from = a; to = b }

runs_by : (a b c d : ℤ) → a ≡ c → b ≡ d → run_of a b ≡ run_of c d
runs_by a b c d e f = cc

-- ---- strips are good bands
pub small_good : (ss : List Slant) → AreSmall ss → AreGoodRuns ss
small_good [] h = tt
small_good (s ∷ ss) h = (
  record {
    from = record { low = omega (arith, ints, h.0.from.low); high = omega (arith, ints, h.0.from.high) };
    to = record { low = omega (arith, ints, h.0.to.low); high = omega (arith, ints, h.0.to.high) };
  },
  small_good ss h.1,
)

-- ---- a row further down
moved_on : (m : Move) (k : ℕ) (a : ℤ) → place_after m k (place_after m 1 a) ≡ place_after m (suc k) a
moved_on Left k a = omega (arith, ints)
moved_on Still k a = refl
moved_on Right k a = omega (arith, ints)

moved_near : (m : Move) (a : ℤ) → IsNearZero (2 ^ 43) a → IsNearZero (2 ^ 44) (place_after m 1 a)
moved_near Left a h = record { low = omega (arith, ints); high = omega (arith, ints) }
moved_near Still a h = record { low = omega (arith, ints); high = omega (arith, ints) }
moved_near Right a h = record { low = omega (arith, ints); high = omega (arith, ints) }

advanced_at : (s : Slant) (p q : ℤ) → IsSmallSlant s → p ≡ reach 1 s.from → q ≡ reach 1 s.to → IsAdvancedRun s (record { from = record { place = p; go = s.from.go }; to = record { place = q; go = s.to.go } })
advanced_at s p q h e f = record {
  rows = λ k. runs_by (place_after s.from.go k p) (place_after s.to.go k q) (reach (suc k) s.from) (reach (suc k) s.to)
      (ap (λ (v : ℤ). place_after s.from.go k v) e ∙ moved_on s.from.go k s.from.place)
      (ap (λ (v : ℤ). place_after s.to.go k v) f ∙ moved_on s.to.go k s.to.place);
  good = record {
    from = subst (λ (v : ℤ). IsNearZero (2 ^ 44) v) (sym e) (moved_near s.from.go s.from.place h.from);
    to = subst (λ (v : ℤ). IsNearZero (2 ^ 44) v) (sym f) (moved_near s.to.go s.to.place h.to);
  };
}

same_word : (p q : ℤ) → IsNearZero (2 ^ 44) q → p ≡ q → to_z w64 (of_z w64 p) ≡ q
same_word p q h e = omega (arith, ints)

pub advanced_by : (s : Slant) (p q : ℤ) → IsSmallSlant s → p ≡ reach 1 s.from → q ≡ reach 1 s.to
    → IsAdvancedRun s (record { from = record { place = to_z w64 (of_z w64 p); go = s.from.go }; to = record { place = to_z w64 (of_z w64 q); go = s.to.go } })
advanced_by s p q h e f =
    advanced_at s (to_z w64 (of_z w64 p)) (to_z w64 (of_z w64 q)) h
    (same_word p (reach 1 s.from) (moved_near s.from.go s.from.place h.from) e)
    (same_word q (reach 1 s.to) (moved_near s.to.go s.to.place h.to) f)

pub advanced_first : AreAdvanced [] []
advanced_first = record { rows = λ k. refl; good = tt }

both : (rs ts : List Run) (r t : Run) → rs ≡ ts → r ≡ t → rs ++ r ∷ [] ≡ ts ++ t ∷ []
both rs ts r t e f = cc

advanced_end : (ss ts : List Slant) (s t : Slant) → AreAdvanced ss ts → IsAdvancedRun s t → AreAdvanced (ss ++ s ∷ []) (ts ++ t ∷ [])
advanced_end ss ts s t a b = record {
  rows = λ k. map_end (run_down k) ts t ∙ (both (map (run_down k) ts) (map (run_down (suc k)) ss) (run_down k t) (run_down (suc k) s) (a.rows k) (b.rows k) ∙ sym (map_end (run_down (suc k)) ss s));
  good = good_end ts t a.good b.good;
}

pub advanced_more : (i : ℕ) (ss ts : List Slant) (d t : Slant) → i < length ss → AreAdvanced (take i ss) ts → IsAdvancedRun (get_or ss i d) t → AreAdvanced (take (i + 1) ss) (ts ++ t ∷ [])
advanced_more i ss ts d t l a b = subst (λ (v : List Slant). AreAdvanced v (ts ++ t ∷ [])) (sym (take_more ss i d l)) (advanced_end (take i ss) ts (get_or ss i d) t a b)

pub advanced_all : (i : ℕ) (ss ts : List Slant) → length ss ≤ i → AreAdvanced (take i ss) ts → AreAdvanced ss ts
advanced_all i ss ts l a = subst (λ (v : List Slant). AreAdvanced v ts) (take_all i ss l) a

-- ---- still ends
moved_zero : (m : Move) (a : ℤ) → a ≡ place_after m 0 a
moved_zero Left a = omega (arith, ints)
moved_zero Still a = refl
moved_zero Right a = omega (arith, ints)

still_run : (s t : Slant) → t.from.place ≡ s.from.place → t.from.go ≡ Still → t.to.place ≡ s.to.place → t.to.go ≡ Still → run_down 0 t ≡ run_down 0 s
still_run s t e f g h =
    runs_by (reach 0 t.from) (reach 0 t.to) (reach 0 s.from) (reach 0 s.to)
    (sym (moved_zero t.from.go t.from.place) ∙ (e ∙ moved_zero s.from.go s.from.place))
    (sym (moved_zero t.to.go t.to.place) ∙ (g ∙ moved_zero s.to.go s.to.place))

pub stilled_first : AreStilled [] []
stilled_first = record { rows = refl; still = tt; good = tt }

still_end : (ss : List Slant) (s : Slant) → AreStill ss → s.from.go ≡ Still → s.to.go ≡ Still → AreStill (ss ++ s ∷ [])
still_end [] s a f h = (f, h, tt)
still_end (t ∷ ts) s a f h = (a.0, a.1, still_end ts s a.2 f h)

stilled_end : (ss ts : List Slant) (s t : Slant) → AreStilled ss ts → IsGoodSlant s → t.from.place ≡ s.from.place → t.from.go ≡ Still → t.to.place ≡ s.to.place → t.to.go ≡ Still
    → AreStilled (ss ++ s ∷ []) (ts ++ t ∷ [])
stilled_end ss ts s t a k e f g h = record {
  rows = map_end (run_down 0) ts t ∙ (both (map (run_down 0) ts) (map (run_down 0) ss) (run_down 0 t) (run_down 0 s) a.rows (still_run s t e f g h) ∙ sym (map_end (run_down 0) ss s));
  still = still_end ts t a.still f h;
  good = good_end ts t a.good (record {
    from = subst (λ (v : ℤ). IsNearZero (2 ^ 44) v) (sym e) k.from;
    to = subst (λ (v : ℤ). IsNearZero (2 ^ 44) v) (sym g) k.to;
  });
}

pub stilled_more : (i : ℕ) (ss ts : List Slant) (d t : Slant) → i < length ss → AreStilled (take i ss) ts → IsGoodSlant (get_or ss i d)
    → t.from.place ≡ (get_or ss i d).from.place → t.from.go ≡ Still → t.to.place ≡ (get_or ss i d).to.place → t.to.go ≡ Still
    → AreStilled (take (i + 1) ss) (ts ++ t ∷ [])
stilled_more i ss ts d t l a k e f g h = subst (λ (v : List Slant). AreStilled v (ts ++ t ∷ [])) (sym (take_more ss i d l)) (stilled_end (take i ss) ts (get_or ss i d) t a k e f g h)

pub stilled_all : (i : ℕ) (ss ts : List Slant) → length ss ≤ i → AreStilled (take i ss) ts → AreStilled ss ts
stilled_all i ss ts l a = subst (λ (v : List Slant). AreStilled v ts) (take_all i ss l) a

-- ---- bands that begin with a strip
abbrev band : ℤ → ℕ → List Slant → Band
band top more runs = record { top = top; more = more; runs = runs }

pub settled_still : (top : ℤ) (more : ℕ) (runs : List Slant) (s : RowStrip) → s.top ≡ top → s.more ≡ more → more ≡ 0 → AreStilled runs s.runs.items → IsNearZero (2 ^ 40) top → (top +ℤ pos more) ≤ℤ pos (2 ^ 40)
    → IsSettled top more runs s
settled_still top more runs s e f z a t b = record {
  rows = one_row s.top top s.more more s.runs.items runs e f z a.rows;
  still = λ _. a.still;
  small = record { runs = a.good; top = subst (λ (v : ℤ). IsNearZero (2 ^ 40) v) (sym e) t; bottom = omega (arith, ints) };
}
  where
    first_rows : (y : ℤ) (ss ts : List Slant) → map (run_down 0) ss ≡ map (run_down 0) ts → rows_of (band y 0 ss) ≡ rows_of (band y 0 ts)
    first_rows y ss ts g = ap (λ (v : List Run). record { y = y +ℤ pos 0; runs = v } ∷ []) g

    one_row : (y z : ℤ) (n m : ℕ) (ss ts : List Slant) → y ≡ z → n ≡ m → m ≡ 0 → map (run_down 0) ss ≡ map (run_down 0) ts → rows_of (band y n ss) ≡ rows_of (band z m ts)
    one_row y z n m ss ts e f g h =
        ap (λ (v : ℤ). rows_of (band v n ss)) e
        ∙ (ap (λ (v : ℕ). rows_of (band z v ss)) (f ∙ g)
        ∙ (first_rows z ss ts h
        ∙ ap (λ (v : ℕ). rows_of (band z v ts)) (sym g)))

pub settled_moving : (top : ℤ) (more : ℕ) (runs : List Slant) (s : RowStrip) → s.top ≡ top → s.more ≡ more → 1 ≤ more → s.runs.items ≡ runs → AreGoodRuns runs → IsNearZero (2 ^ 40) top → (top +ℤ pos more) ≤ℤ pos (2 ^ 40)
    → IsSettled top more runs s
settled_moving top more runs s e f l g a t b = record {
  rows = same s.top top s.more more s.runs.items runs e f g;
  still = λ z. absurd (omega arith);
  small = record { runs = subst AreGoodRuns (sym g) a; top = subst (λ (v : ℤ). IsNearZero (2 ^ 40) v) (sym e) t; bottom = omega (arith, ints) };
}
  where
    same : (y z : ℤ) (n m : ℕ) (ss ts : List Slant) → y ≡ z → n ≡ m → ss ≡ ts → rows_of (band y n ss) ≡ rows_of (band z m ts)
    same y z n m ss ts e f g =
        ap (λ (v : ℤ). rows_of (band v n ss)) e
        ∙ (ap (λ (v : ℕ). rows_of (band z v ss)) f
        ∙ ap (λ (v : List Slant). rows_of (band z m v)) g)

-- the rest of a strip
abbrev made : ℤ → List Run → Row
made y rs = record { y = y; runs = rs }

row_by : (y z : ℤ) (rs ts : List Run) → y ≡ z → rs ≡ ts → made y rs ≡ made z ts
row_by y z rs ts e f = cc

pub rest_by : (strip rest : RowStrip) (adv : List Slant) (top : ℤ) (more : ℕ) → top ≡ strip.top +ℤ pos 1 → more + 1 ≡ strip.more → AreAdvanced strip.runs.items adv → IsSettled top more adv rest → IsRestOf strip rest
rest_by strip rest adv top more e f a k =
    let c = band top more adv in
    let whole : rows_of c ≡ rows_from (band_of strip) 1 strip.more =
    rows_alike c (band_of strip) 0 1 (suc more) (λ i. each i) ∙ ap (λ (n : ℕ). rows_from (band_of strip) 1 n) (last_of f) in
    record {
      rows = k.rows ∙ whole;
      first = first_row (band_of rest) c k.rows ∙ each 0;
      still = k.still;
      small = k.small;
    }
  where
    last_of : more + 1 ≡ strip.more → suc more ≡ strip.more
    last_of g = omega (arith, g)

    first_row : (b c : Band) → rows_of b ≡ rows_of c → row_of b 0 ≡ row_of c 0
    first_row b c g = cc

    each : (i : ℕ) → row_of (band top more adv) (0 + i) ≡ row_of (band_of strip) (1 + i)
    each i =
        let d : 0 + i ≡ i = omega arith in
        let g : 1 + i ≡ suc i = omega arith in
        subst (λ (n : ℕ). row_of (band top more adv) n ≡ row_of (band_of strip) (1 + i)) (sym d)
        (subst (λ (n : ℕ). row_of (band top more adv) i ≡ row_of (band_of strip) n) (sym g)
        (row_by (top +ℤ pos i) (strip.top +ℤ pos (suc i)) (map (run_down i) adv) (map (run_down (suc i)) strip.runs.items) (omega (arith, ints, e)) (a.rows i)))

pub rest_of_by : {E : Type 0} (strip : RowStrip) (adv : List Slant) (top : ℤ) (more : ℕ) (r : Result RowStrip E) → top ≡ strip.top +ℤ pos 1 → more + 1 ≡ strip.more → AreAdvanced strip.runs.items adv
    → IfOk r (λ s. IsSettled top more adv s) → IfOk r (λ s. IsRestOf strip s)
rest_of_by strip adv top more (Err x) e f a k = k
rest_of_by strip adv top more (Ok s) e f a k = rest_by strip s adv top more e f a k
