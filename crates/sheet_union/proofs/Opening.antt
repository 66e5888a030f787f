-- Octagons opened and closed, one after another.
use Rattle.std.proofs.Common.{◌≡◌, sym, ◌∙◌, ℕ, ◌+◌, ◌<◌, ◌≤◌, List, [], ◌∷◌, ◌++◌, length, get_or, drop, append_assoc, Bool, true, false, w64, FitsSigned}
use Rattle.std.specs.Prelude.{ℤ, pos, ◌*ℤ◌, int_lt, int_le}
use Rattle.std.proofs.lemmas.Int.{to_z-of_z, by_lt_z}
use Rattle.std.proofs.lemmas.Bool.{false≢true}
use Rattle.std.proofs.lemmas.List.{append-nil}
use Rattle.plane.specs.Plane.{Bounds, IsOct}
use Rattle.octagon.proofs.Plain.{IsOct-IsSmall}
use Rattle.plane.proofs.Counts.{less_true, less_false, most_true, most_false}
use Rattle.sheet_union.specs.Inner.Sweep.{begun, waiting, reaching_below}
use Rattle.sheet_union.proofs.Plain.{read, twice, twice_is}
use Rattle.sheet_union.proofs.Walks.{rest_is, none_left}

-- ---- the tests
above_row : (o : Bounds) (t y : ℤ) → IsOct o → y ≡ o.y0 → int_lt t (twice y) ≡ false → int_le (pos 2 *ℤ o.y0) t ≡ true
above_row o t y h e f =
    let g : int_lt t (pos 2 *ℤ o.y0) ≡ false = rw (e, twice_is o.y0 (IsOct-IsSmall o h).y0) at f in
    by_lt_z {P = int_le (pos 2 *ℤ o.y0) t ≡ true} t (pos 2 *ℤ o.y0)
    (λ l. absurd (false≢true (sym g ∙ less_true t (pos 2 *ℤ o.y0) l)))
    (λ l. most_true (pos 2 *ℤ o.y0) t l)

below_row : (o : Bounds) (t y : ℤ) → IsOct o → y ≡ o.y0 → int_lt t (twice y) ≡ true → int_le (pos 2 *ℤ o.y0) t ≡ false
below_row o t y h e f =
    let g : int_lt t (pos 2 *ℤ o.y0) ≡ true = rw (e, twice_is o.y0 (IsOct-IsSmall o h).y0) at f in
    by_lt_z {P = int_le (pos 2 *ℤ o.y0) t ≡ false} t (pos 2 *ℤ o.y0)
    (λ l. most_false (pos 2 *ℤ o.y0) t l)
    (λ l. absurd (false≢true (sym (less_false t (pos 2 *ℤ o.y0) l) ∙ g)))

-- ---- opened
pub begun_step : (o : Bounds) (bs : List Bounds) (i : ℕ) (t y : ℤ) (r0 r r' : List Bounds) → IsOct o → y ≡ o.y0 → int_lt t (twice y) ≡ false → i < length bs → o ≡ get_or bs i o
    → r' ≡ r ++ o ∷ [] → r ++ begun t (drop i bs) ≡ r0 → r' ++ begun t (drop (i + 1) bs) ≡ r0
unfolding begun
begun_step o bs i t y r0 r r' h e f l g k inv =
    let w = rw (rest_is o bs i l g, above_row o t y h e f) at inv in
    rw k (append_assoc r (o ∷ []) (begun t (drop (i + 1) bs)) ∙ w)

pub waiting_step : (o : Bounds) (bs : List Bounds) (i : ℕ) (t y : ℤ) (r0 : List Bounds) → IsOct o → y ≡ o.y0 → int_lt t (twice y) ≡ false → i < length bs → o ≡ get_or bs i o
    → waiting t (drop i bs) ≡ r0 → waiting t (drop (i + 1) bs) ≡ r0
unfolding waiting
waiting_step o bs i t y r0 h e f l g inv = rw (rest_is o bs i l g, above_row o t y h e f) at inv

pub begun_stop : (o : Bounds) (bs : List Bounds) (i : ℕ) (t y : ℤ) (r0 r : List Bounds) → IsOct o → y ≡ o.y0 → int_lt t (twice y) ≡ true → i < length bs → o ≡ get_or bs i o
    → r ++ begun t (drop i bs) ≡ r0 → r ≡ r0
unfolding begun
begun_stop o bs i t y r0 r h e f l g inv = let w = rw (rest_is o bs i l g, below_row o t y h e f) at inv in sym (append-nil r) ∙ w

pub waiting_stop : (o : Bounds) (bs : List Bounds) (i : ℕ) (t y : ℤ) (r0 : List Bounds) → IsOct o → y ≡ o.y0 → int_lt t (twice y) ≡ true → i < length bs → o ≡ get_or bs i o
    → waiting t (drop i bs) ≡ r0 → drop i bs ≡ r0
unfolding waiting
waiting_stop o bs i t y r0 h e f l g inv = rest_is o bs i l g ∙ (rw (rest_is o bs i l g, below_row o t y h e f) at inv)

pub begun_end : (bs : List Bounds) (i : ℕ) (t : ℤ) (r0 r : List Bounds) → length bs ≤ i → r ++ begun t (drop i bs) ≡ r0 → r ≡ r0
unfolding begun
begun_end bs i t r0 r l inv = let w = rw (none_left bs i l) at inv in sym (append-nil r) ∙ w

pub waiting_end : (bs : List Bounds) (i : ℕ) (t : ℤ) (r0 : List Bounds) → length bs ≤ i → waiting t (drop i bs) ≡ r0 → drop i bs ≡ r0
unfolding waiting
waiting_end bs i t r0 l inv = none_left bs i l ∙ (rw (none_left bs i l) at inv)

-- the row as the code hands it on
pub begun_row : (bs r r0 : List Bounds) (t : ℤ) → FitsSigned w64 t → r ≡ r0 ++ begun (read t) bs → r ≡ r0 ++ begun t bs
begun_row bs r r0 t f e = rw (to_z-of_z w64 t f) at e

pub waiting_row : (bs r : List Bounds) (t : ℤ) → FitsSigned w64 t → r ≡ waiting (read t) bs → r ≡ waiting t bs
waiting_row bs r t f e = rw (to_z-of_z w64 t f) at e

-- ---- still open
reaches_test : (o : Bounds) (t y : ℤ) (b : Bool) → IsOct o → y ≡ o.y1 → int_le t (twice y) ≡ b → int_le t (pos 2 *ℤ o.y1) ≡ b
reaches_test o t y b h e f = rw (e, twice_is o.y1 (IsOct-IsSmall o h).y1) at f

pub kept_step : (o : Bounds) (bs : List Bounds) (i : ℕ) (t y : ℤ) (r0 r r' : List Bounds) → IsOct o → y ≡ o.y1 → int_le t (twice y) ≡ true → i < length bs → o ≡ get_or bs i o
    → r' ≡ r ++ o ∷ [] → r ++ reaching_below t (drop i bs) ≡ r0 → r' ++ reaching_below t (drop (i + 1) bs) ≡ r0
unfolding reaching_below
kept_step o bs i t y r0 r r' h e f l g k inv =
    let w = rw (rest_is o bs i l g, reaches_test o t y true h e f) at inv in
    rw k (append_assoc r (o ∷ []) (reaching_below t (drop (i + 1) bs)) ∙ w)

pub left_step : (o : Bounds) (bs : List Bounds) (i : ℕ) (t y : ℤ) (r0 r : List Bounds) → IsOct o → y ≡ o.y1 → int_le t (twice y) ≡ false → i < length bs → o ≡ get_or bs i o
    → r ++ reaching_below t (drop i bs) ≡ r0 → r ++ reaching_below t (drop (i + 1) bs) ≡ r0
unfolding reaching_below
left_step o bs i t y r0 r h e f l g inv = rw (rest_is o bs i l g, reaches_test o t y false h e f) at inv

pub kept_end : (bs : List Bounds) (i : ℕ) (t : ℤ) (r : List Bounds) → FitsSigned w64 t → length bs ≤ i → r ++ reaching_below (read t) (drop i bs) ≡ reaching_below (read t) bs → r ≡ reaching_below t bs
unfolding reaching_below
kept_end bs i t r f l inv = let w = rw (none_left bs i l) at inv in rw (to_z-of_z w64 t f) at (sym (append-nil r) ∙ w)
