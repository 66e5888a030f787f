-- The rows as the code hands them on: sorted, each once.
use Rattle.std.proofs.Common.{◌≡◌, subst, sym, refl, ℕ, zero, suc, ◌<◌, arith, List, [], ◌∷◌, length, get_or}
use Rattle.std.specs.Prelude.{ℤ}
use Rattle.std.specs.List.{All, dedup}
use Rattle.std.specs.List.Retain.{IsFiltered, DiffersFromLast}
use Rattle.std.specs.List.Sorted.{IsSorted, IsPermutation}
use Rattle.std.specs.Ordering.{int_cmp, int_eq}
use Rattle.std.proofs.lemmas.List.Filters.{dedup_is}
use Rattle.plane.specs.Plane.{Bounds, IsOct}
use Rattle.strips.specs.Strips.{in_nanometres}
use Rattle.strips.specs.Inner.Sweep.{AreCutRows}
use Rattle.strips.proofs.Cuts.{cut_of, cut_at}
use Rattle.sheet_union.specs.Inner.Crossings.{all_rows}
use Rattle.sheet_union.specs.Inner.Rows.{AreFromTop}
use Rattle.sheet_union.proofs.CutRows.{found_cut, cut_found}
use Rattle.sheet_union.proofs.Distinct.{down_of, kept, back}

pub cut_rows_are : (os : List Bounds) (ys : List ℤ) → AreFromTop os → All IsOct os → IsPermutation (all_rows os) ys → IsSorted int_cmp ys → AreCutRows (in_nanometres os) (dedup int_eq ys)
cut_rows_are os ys h o p s = record {
  each = λ k d l. cut_of (in_nanometres os) (get_or (dedup int_eq ys) k d) (found_cut os (get_or (dedup int_eq ys) k d) o (back (all_rows os) ys (get_or (dedup int_eq ys) k d) p (k, l, again (dedup int_eq ys) k d l)));
  all = λ r c. kept (all_rows os) ys r p (cut_found os r h (cut_at (in_nanometres os) r c));
  down = down_of ys s;
}
  where
    again : (xs : List ℤ) (k : ℕ) (d : ℤ) → k < length xs → get_or xs k (get_or xs k d) ≡ get_or xs k d
    again [] k d l = absurd (omega (arith, l))
    again (x ∷ xs) zero d l = refl
    again (x ∷ xs) (suc k) d l = again xs k d (omega (arith, l))

pub rows_are : (os : List Bounds) (xs ys zs : List ℤ) → AreFromTop os → All IsOct os → xs ≡ all_rows os → IsPermutation xs ys → IsSorted int_cmp ys
    → IsFiltered (DiffersFromLast int_eq) [] ys zs → AreCutRows (in_nanometres os) zs
rows_are os xs ys zs h o e p s f =
    subst (AreCutRows (in_nanometres os)) (sym (dedup_is int_eq ys zs f)) (cut_rows_are os ys h o (subst (λ (l : List ℤ). IsPermutation l ys) e p) s)
