-- The runs of a list, one after another.
use Rattle.std.proofs.Common.{◌≡◌, subst, refl, sym, ◌∙◌, ℕ, ◌^◌, ◌+◌, ◌<◌, ◌≤◌, arith, List, [], ◌∷◌, ◌++◌, length, get_or, drop, append_assoc}
use Rattle.std.specs.Prelude.{ℤ}
use Rattle.std.specs.List.Sorted.{IsPermutation}
use Rattle.std.proofs.lemmas.Int.{ints}
use Rattle.std.proofs.lemmas.List.{append-nil}
use Rattle.plane.specs.Plane.{Bounds, times}
use Rattle.strips.specs.declared.Strip.{Strip}
use Rattle.strips.specs.Strips.{in_nanometres}
use Rattle.strips.specs.Inner.Runs.{run_at, runs_of}
use Rattle.strips.specs.Inner.Merge.{merged}
use Rattle.strips.specs.Inner.Sweep.{AreFromLeft, AreOpen}
use Rattle.sheet_union.specs.Near.{IsSlabAdded}
use Rattle.plane.specs.Narrow.{IsNearZero}
use Rattle.sheet_union.proofs.Plain.{read, read_is}
use Rattle.sheet_union.proofs.Walks.{rest_is, none_left}

pub runs_step : (o : Bounds) (bs : List Bounds) (i : ℕ) (t u : ℤ) (r0 r r' : List Strip) (s : Strip) → i < length bs → o ≡ get_or bs i o
    → s ≡ run_at (times 2 o) t u → r' ≡ r ++ s ∷ [] → r ++ runs_of (in_nanometres (drop i bs)) t u ≡ r0 → r' ++ runs_of (in_nanometres (drop (i + 1) bs)) t u ≡ r0
runs_step o bs i t u r0 r r' s l e f h inv =
    let w = rw (rest_is o bs i l e) at inv in
    rw (h, f) (append_assoc r (run_at (times 2 o) t u ∷ []) (runs_of (in_nanometres (drop (i + 1) bs)) t u) ∙ w)

pub runs_end : (bs : List Bounds) (i : ℕ) (t u : ℤ) (r : List Strip) → IsNearZero (2 ^ 43) t → IsNearZero (2 ^ 43) u → length bs ≤ i
    → r ++ runs_of (in_nanometres (drop i bs)) (read t) (read u) ≡ runs_of (in_nanometres bs) (read t) (read u) → r ≡ runs_of (in_nanometres bs) t u
runs_end bs i t u r m n l inv =
    let w = rw (none_left bs i l) at inv in
    rw (read_is t (omega (arith, ints)), read_is u (omega (arith, ints))) at (sym (append-nil r) ∙ w)

-- the strips of one slab, as the code makes them
pub slab_added : (octs : List Bounds) (t u : ℤ) (runs sorted old new : List Strip) → IsNearZero (2 ^ 43) t → IsNearZero (2 ^ 43) u
    → runs ≡ runs_of (in_nanometres octs) (read t) (read u) → IsPermutation runs sorted → AreFromLeft sorted → new ≡ old ++ merged sorted
    → (os : List Bounds) → AreOpen os t u (in_nanometres octs) → IsSlabAdded os t u old new
unfolding IsSlabAdded
slab_added octs t u runs sorted old new m n e p f g os h =
    let k : runs ≡ runs_of (in_nanometres octs) t u = rw (read_is t (omega (arith, ints)), read_is u (omega (arith, ints))) at e in (
      merged sorted,
      record { octs = in_nanometres octs; reaching = h; runs = sorted; order = subst (λ (l : List Strip). IsPermutation l sorted) k p; sorted = f; is = refl },
      g,
    )
