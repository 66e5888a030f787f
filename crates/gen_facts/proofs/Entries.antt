-- The vias and tracks of a board that is made, one after another: no more than 200 a row, numbered from 1.
use Rattle.std.proofs.Common.{◌≡◌, ◌∙◌, refl, ap, sym, ℕ, zero, suc, ◌+◌, ◌*◌, ◌/◌, ◌%◌, ◌<◌, ◌≤◌, Bool, true, false, ◌==◌, List, [], ◌∷◌, ◌++◌, length, codes, arith, length-append, append_assoc}
use Rattle.std.specs.Prelude.{if◌then◌else◌}
use Rattle.board_gen.specs.Generated.{next, drawn, state_after, place, via_text, track_text, item_text, number_behind, number_after_cells, row_text, rows_text}
use Rattle.gen_facts.proofs.CopperKind.{net_text}

-- a via of net 1 or 2 at a place, or a track about a place, in nanometres
pub data Entry : Type 0 where
  ViaAt : (second : Bool) (x y : ℕ) → Entry
  TrackAt : (x y : ℕ) → Entry

abbrev pub entry_text : Entry → ℕ → List ℕ
entry_text (ViaAt second x y) i = via_text (net_text second) x y i
entry_text (TrackAt x y) i = track_text x y i

-- their lines, numbered from i on
abbrev pub entries_text : ℕ → List Entry → List ℕ
entries_text i [] = []
entries_text i (e ∷ es) = entry_text e i ++ entries_text (suc i) es

-- a place within the cells
pub record IsNear (x y : ℕ) : Type 0 where
  pub least : 500000 ≤ x
  pub across : x ≤ 400000000
  pub down : y ≤ 400000000

abbrev pub IsPlaced : Entry → Type 0
IsPlaced (ViaAt second x y) = IsNear x y
IsPlaced (TrackAt x y) = IsNear x y

abbrev pub ArePlaced : List Entry → Type 0
ArePlaced [] = Unit {0}
ArePlaced (e ∷ es) = IsPlaced e × ArePlaced es

-- the text is that of entries with these numbers, and of at most so many
pub record Entries (text : List ℕ) (i next most : ℕ) : Type 0 where
  pub entries : List Entry
  pub text_is : text ≡ entries_text i entries
  pub count : i + length entries ≡ next
  pub few : length entries ≤ most
  pub placed : ArePlaced entries

none_there : (i : ℕ) → Entries [] i i 0
none_there i = record { entries = []; text_is = refl; count = omega arith; few = omega arith; placed = tt }

one_more : (e : Entry) (text : List ℕ) (i next most : ℕ) → IsPlaced e → Entries text (suc i) next most → Entries (entry_text e i ++ text) i next (suc most)
one_more e text i next most p h =
    record { entries = e ∷ h.entries; text_is = ap (λ z. entry_text e i ++ z) h.text_is; count = omega (arith, h.count); few = omega (arith, h.few); placed = (p, h.placed) }

no_more : (text : List ℕ) (i next most more : ℕ) → most ≤ more → Entries text i next most → Entries text i next more
no_more text i next most more l h = record { entries = h.entries; text_is = h.text_is; count = h.count; few = omega (arith, h.few); placed = h.placed }

text_both : (i : ℕ) (xs ys : List Entry) → entries_text i (xs ++ ys) ≡ entries_text i xs ++ entries_text (i + length xs) ys
text_both i [] ys = let e : i ≡ i + 0 = omega arith in ap (λ k. entries_text k ys) e
text_both i (x ∷ xs) ys =
    let e : suc i + length xs ≡ i + suc (length xs) = omega arith in
    ap (λ z. entry_text x i ++ z) (text_both (suc i) xs ys ∙ ap (λ k. entries_text (suc i) xs ++ entries_text k ys) e)
    ∙ sym (append_assoc (entry_text x i) (entries_text (suc i) xs) (entries_text (i + suc (length xs)) ys))

placed_both : (xs ys : List Entry) → ArePlaced xs → ArePlaced ys → ArePlaced (xs ++ ys)
placed_both [] ys p q = q
placed_both (x ∷ xs) ys p q = (p.0, placed_both xs ys p.1 q)

both : (a b : List ℕ) (i j k m n : ℕ) → Entries a i j m → Entries b j k n → Entries (a ++ b) i k (m + n)
both a b i j k m n h g = record {
  entries = h.entries ++ g.entries;
  text_is = ap (λ z. z ++ b) h.text_is ∙ ap (λ z. entries_text i h.entries ++ z) (g.text_is ∙ ap (λ z. entries_text z g.entries) (sym h.count)) ∙ sym (text_both i h.entries g.entries);
  count = omega (arith, h.count, g.count, length-append h.entries g.entries);
  few = omega (arith, h.few, g.few, length-append h.entries g.entries);
  placed = placed_both h.entries g.entries h.placed g.placed;
}

-- ---- a cell, by the remainder of what was drawn

abbrev item_by : ℕ → ℕ → ℕ → ℕ → List ℕ
item_by m x y i =
    if m == 0 then via_text (codes "1") x y i
    else if m == 1 then via_text (codes "2") x y i
    else if m == 2 then track_text x y i
    else []

abbrev number_by : ℕ → ℕ → ℕ
number_by m i = if m == 3 then i else suc i

cell_by : (m x y i : ℕ) (text : List ℕ) (next most : ℕ) → m < 4 → IsNear x y → Entries text (number_by m i) next most → Entries (item_by m x y i ++ text) i next (suc most)
cell_by zero x y i text next most l p h = one_more (ViaAt false x y) text i next most p h
cell_by (suc zero) x y i text next most l p h = one_more (ViaAt true x y) text i next most p h
cell_by (suc (suc zero)) x y i text next most l p h = one_more (TrackAt x y) text i next most p h
cell_by (suc (suc (suc zero))) x y i text next most l p h = no_more text i next most (suc most) (omega arith) h
cell_by (suc (suc (suc (suc m)))) x y i text next most l p h = absurd (omega (arith, l))

near : (column row a b : ℕ) → column < 200 → row < 200 → IsNear (place column a) (place row b)
near column row a b l m = record { least = omega arith; across = omega arith; down = omega arith }

cell : (r column row i : ℕ) (text : List ℕ) (next most : ℕ) → column < 200 → row < 200 → Entries text (number_behind r i) next most
    → Entries (item_text r (place column (r / 4)) (place row (r / 404)) i ++ text) i next (suc most)
cell r column row i text next most l m h =
    cell_by (r % 4) (place column (r / 4)) (place row (r / 404)) i text next most (omega arith) (near column row (r / 4) (r / 404) l m) h

-- ---- rows

row_entries : (row column s i n : ℕ) → row < 200 → column + n ≤ 200 → Entries (row_text row column s i n) i (number_after_cells s i n) n
row_entries row column s i zero l m = none_there i
row_entries row column s i (suc n) l m =
    cell (drawn (next s)) column row i (row_text row (suc column) (next s) (number_behind (drawn (next s)) i) n) (number_after_cells (next s) (number_behind (drawn (next s)) i) n) n
    (omega (arith, m)) l (row_entries row (suc column) (next s) (number_behind (drawn (next s)) i) n l (omega (arith, m)))

pub rows_entries : (size row s i n : ℕ) → size ≤ 200 → row + n ≤ 200 → (next : ℕ) × Entries (rows_text size row s i n) i next (n * 200)
rows_entries size row s i zero l m = (i, none_there i)
rows_entries size row s i (suc n) l m =
    let first = row_entries row 0 s i size (omega (arith, m)) (omega (arith, l)) in
    let more = rows_entries size (suc row) (state_after s size) (number_after_cells s i size) n l (omega (arith, m)) in (
      more.0,
      no_more _ i more.0 (size + n * 200) (suc n * 200) (omega (arith, l))
          (both (row_text row 0 s i size) (rows_text size (suc row) (state_after s size) (number_after_cells s i size) n) i (number_after_cells s i size) more.0 size (n * 200) first more.1),
    )
