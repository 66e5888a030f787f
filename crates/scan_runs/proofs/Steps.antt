-- The steps from a band's last row to the next one, run by run, and runs with the same moves.
use Rattle.std.proofs.Common.{◌≡◌, refl, sym, ap, ◌∙◌, subst, ℕ, zero, suc, ◌+◌, ◌<◌, ◌≤◌, ◌^◌, List, [], ◌∷◌, ◌++◌, map, length, get_or, take, w64, to_z, of_z, arith}
use Rattle.std.specs.Prelude.{ℤ}
use Rattle.std.proofs.lemmas.Int.{ints}
use Rattle.std.proofs.lemmas.List.{take_more, take_all}
use Rattle.plane.specs.Narrow.{IsNearZero}
use Rattle.grid_sets.specs.Rows.{Run}
use Rattle.grid_sets.specs.Bands.{place_after, reach, run_down, IsMovedAlike, AreMovedAlike}
use Rattle.grid_sets.specs.declared.Move.{Move}
use Rattle.grid_sets.specs.declared.Move.TheVariants.{Left, Still, Right}
use Rattle.grid_sets.specs.declared.End.{End}
use Rattle.grid_sets.specs.declared.Slant.{Slant}
use Rattle.scan_runs.specs.Inner.Ends.{IsSmallEnd}
use Rattle.scan_runs.specs.Inner.Grouping.{IsGoodEnd, IsGoodSlant, AreGoodRuns, IsStepTo, HasNoStep, AreSteps, HaveNoSteps}

-- ---- places that the code can count with
moved_good : (m : Move) (k : ℕ) (a : ℤ) → k ≤ 2 ^ 42 → IsNearZero (2 ^ 44) a → IsNearZero (2 ^ 45) (place_after m k a)
moved_good Left k a h i = record { low = omega (arith, ints); high = omega (arith, ints) }
moved_good Still k a h i = record { low = omega (arith, ints); high = omega (arith, ints) }
moved_good Right k a h i = record { low = omega (arith, ints); high = omega (arith, ints) }

kept : (r : ℤ) → IsNearZero (2 ^ 45) r → IsNearZero (2 ^ 45) (to_z w64 (of_z w64 r))
kept r h = record { low = omega (arith, ints); high = omega (arith, ints) }

pub place_good : (e : End) (k : ℕ) (r : ℤ) → k ≤ 2 ^ 41 → IsGoodEnd e → r ≡ reach k e → IsNearZero (2 ^ 45) (to_z w64 (of_z w64 r))
place_good e k r l h q = kept r (subst (λ (v : ℤ). IsNearZero (2 ^ 45) v) (sym q) (moved_good e.go k e.place (omega arith) h))

moved_none : (m : Move) (a : ℤ) → IsNearZero (2 ^ 43) a → IsNearZero (2 ^ 43) (place_after m 0 a)
moved_none Left a h = record { low = omega (arith, ints); high = omega (arith, ints) }
moved_none Still a h = h
moved_none Right a h = record { low = omega (arith, ints); high = omega (arith, ints) }

kept_small : (r : ℤ) → IsNearZero (2 ^ 43) r → IsNearZero (2 ^ 43) (to_z w64 (of_z w64 r))
kept_small r h = record { low = omega (arith, ints); high = omega (arith, ints) }

pub place_first : (e : End) (r : ℤ) → IsSmallEnd e → r ≡ reach 0 e → IsNearZero (2 ^ 43) (to_z w64 (of_z w64 r))
place_first e r h q = kept_small r (subst (λ (v : ℤ). IsNearZero (2 ^ 43) v) (sym q) (moved_none e.go e.place h))

-- ---- steps, run by run
pub map_end : (f : Slant → Run) (ss : List Slant) (s : Slant) → map f (ss ++ s ∷ []) ≡ map f ss ++ f s ∷ []
map_end f [] s = refl
map_end f (t ∷ ts) s = ap (λ (v : List Run). f t ∷ v) (map_end f ts s)

pub good_end : (ss : List Slant) (s : Slant) → AreGoodRuns ss → IsGoodSlant s → AreGoodRuns (ss ++ s ∷ [])
good_end [] s a g = (g, tt)
good_end (t ∷ ts) s a g = (a.0, good_end ts s a.1 g)

pub good_at : (ss : List Slant) (i : ℕ) (d : Slant) → AreGoodRuns ss → i < length ss → IsGoodSlant (get_or ss i d)
good_at [] i d a l = absurd (omega arith)
good_at (t ∷ ts) zero d a l = a.0
good_at (t ∷ ts) (suc i) d a l = good_at ts i d a.1 (omega arith)

pub steps_first : (n : ℕ) → AreSteps n [] [] []
steps_first n = record { last = refl; new = refl; small = tt }

step_more : (n : ℕ) (upper lower ss : List Slant) (a b s : Slant) → AreSteps n upper lower ss → IsStepTo n a b s → AreSteps n (upper ++ a ∷ []) (lower ++ b ∷ []) (ss ++ s ∷ [])
step_more n upper lower ss a b s h k = record {
  last = map_end (run_down 0) ss s ∙ (both (map (run_down 0) ss) (map (run_down n) upper) (run_down 0 s) (run_down n a) h.last k.last ∙ sym (map_end (run_down n) upper a));
  new = map_end (run_down 1) ss s ∙ (both (map (run_down 1) ss) (map (run_down 0) lower) (run_down 1 s) (run_down 0 b) h.new k.new ∙ sym (map_end (run_down 0) lower b));
  small = good_end ss s h.small k.good;
}
  where
    both : (rs ts : List Run) (r t : Run) → rs ≡ ts → r ≡ t → rs ++ r ∷ [] ≡ ts ++ t ∷ []
    both rs ts r t e f = cc

pub steps_more : (n i : ℕ) (upper lower ss : List Slant) (d e s : Slant) → i < length upper → i < length lower → AreSteps n (take i upper) (take i lower) ss → IsStepTo n (get_or upper i d) (get_or lower i e) s
    → AreSteps n (take (i + 1) upper) (take (i + 1) lower) (ss ++ s ∷ [])
steps_more n i upper lower ss d e s l m h k =
    subst (λ (v : List Slant). AreSteps n v (take (i + 1) lower) (ss ++ s ∷ [])) (sym (take_more upper i d l))
    (subst (λ (v : List Slant). AreSteps n (take i upper ++ get_or upper i d ∷ []) v (ss ++ s ∷ [])) (sym (take_more lower i e m))
    (step_more n (take i upper) (take i lower) ss (get_or upper i d) (get_or lower i e) s h k))

pub steps_all : (n i : ℕ) (upper lower ss : List Slant) → length upper ≡ length lower → length lower ≤ i → AreSteps n (take i upper) (take i lower) ss → AreSteps n upper lower ss
steps_all n i upper lower ss e l h =
    subst (λ (v : List Slant). AreSteps n v lower ss) (take_all i upper (omega arith))
    (subst (λ (v : List Slant). AreSteps n (take i upper) v ss) (take_all i lower l) h)

pub steps_stop : (n i : ℕ) (upper lower : List Slant) (d e : Slant) → i < length upper → i < length lower → HasNoStep n (get_or upper i d) (get_or lower i e) → HaveNoSteps n upper lower
steps_stop n i [] lower d e l m h ss p q = absurd (omega arith)
steps_stop n i (a ∷ as_) [] d e l m h ss p q = absurd (omega arith)
steps_stop n i (a ∷ as_) (b ∷ bs) d e l m h [] p q = cc
steps_stop n zero (a ∷ as_) (b ∷ bs) d e l m h (s ∷ ss) p q =
    let u : run_down 0 s ≡ run_down n a = cc in
    let v : run_down 1 s ≡ run_down 0 b = cc in
    h s u v
steps_stop n (suc i) (a ∷ as_) (b ∷ bs) d e l m h (s ∷ ss) p q =
    let u : map (run_down 0) ss ≡ map (run_down n) as_ = cc in
    let v : map (run_down 1) ss ≡ map (run_down 0) bs = cc in
    steps_stop n i as_ bs d e (omega arith) (omega arith) h ss u v

map_length : (f : Slant → Run) (ss : List Slant) → length (map f ss) ≡ length ss
map_length f [] = refl
map_length f (s ∷ ss) = ap suc (map_length f ss)

pub steps_uneven : (n : ℕ) (upper lower : List Slant) → (length upper ≡ length lower → ⊥) → HaveNoSteps n upper lower
steps_uneven n upper lower h ss p q =
    h (sym (map_length (run_down n) upper) ∙ (sym (ap length p) ∙ (map_length (run_down 0) ss ∙ (sym (map_length (run_down 1) ss) ∙ (ap length q ∙ map_length (run_down 0) lower)))))

-- ---- the same moves, run by run
alike_more : (ss ts : List Slant) (s t : Slant) → AreMovedAlike ss ts → IsMovedAlike s t → AreMovedAlike (ss ++ s ∷ []) (ts ++ t ∷ [])
alike_more [] [] s t h k = (k, tt)
alike_more [] (v ∷ vs) s t h k = absurd h
alike_more (u ∷ us) [] s t h k = absurd h
alike_more (u ∷ us) (v ∷ vs) s t h k = (h.0, alike_more us vs s t h.1 k)

pub moves_more : (i : ℕ) (ss ts : List Slant) (d e : Slant) → i < length ss → i < length ts → AreMovedAlike (take i ss) (take i ts) → IsMovedAlike (get_or ss i d) (get_or ts i e)
    → AreMovedAlike (take (i + 1) ss) (take (i + 1) ts)
moves_more i ss ts d e l m h k =
    subst (λ (v : List Slant). AreMovedAlike v (take (i + 1) ts)) (sym (take_more ss i d l))
    (subst (λ (v : List Slant). AreMovedAlike (take i ss ++ get_or ss i d ∷ []) v) (sym (take_more ts i e m))
    (alike_more (take i ss) (take i ts) (get_or ss i d) (get_or ts i e) h k))

pub moves_all : (i : ℕ) (ss ts : List Slant) → length ss ≡ length ts → length ss ≤ i → AreMovedAlike (take i ss) (take i ts) → AreMovedAlike ss ts
moves_all i ss ts e l h =
    subst (λ (v : List Slant). AreMovedAlike v ts) (take_all i ss l)
    (subst (λ (v : List Slant). AreMovedAlike (take i ss) v) (take_all i ts (omega arith)) h)

pub moves_stop : (i : ℕ) (ss ts : List Slant) (d e : Slant) → i < length ss → i < length ts → (IsMovedAlike (get_or ss i d) (get_or ts i e) → ⊥) → AreMovedAlike ss ts → ⊥
moves_stop i [] ts d e l m h a = absurd (omega arith)
moves_stop i (s ∷ ss) [] d e l m h a = absurd a
moves_stop zero (s ∷ ss) (t ∷ ts) d e l m h a = h a.0
moves_stop (suc i) (s ∷ ss) (t ∷ ts) d e l m h a = moves_stop i ss ts d e (omega arith) (omega arith) h a.1

pub moves_uneven : (ss ts : List Slant) → (length ss ≡ length ts → ⊥) → AreMovedAlike ss ts → ⊥
moves_uneven [] [] h a = h refl
moves_uneven [] (t ∷ ts) h a = absurd a
moves_uneven (s ∷ ss) [] h a = absurd a
moves_uneven (s ∷ ss) (t ∷ ts) h a = moves_uneven ss ts (λ e. h (ap suc e)) a.1

-- a place as the code keeps it
kept_word : (r : ℤ) → IsNearZero (2 ^ 45) r → to_z w64 (of_z w64 r) ≡ r
kept_word r h = omega (arith, ints)

pub place_kept : (e : End) (k : ℕ) (r : ℤ) → k ≤ 2 ^ 41 → IsGoodEnd e → r ≡ reach k e → to_z w64 (of_z w64 r) ≡ reach k e
place_kept e k r l h q = ap (λ (v : ℤ). to_z w64 (of_z w64 v)) q ∙ kept_word (reach k e) (moved_good e.go k e.place (omega arith) h)
