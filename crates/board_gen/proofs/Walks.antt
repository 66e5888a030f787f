-- One more cell of a row, and one more row.
use Rattle.std.proofs.Common.{◌≡◌, ◌∙◌, ap, sym, ℕ, suc, ◌+◌, ◌-◌, ◌/◌, ◌<◌, List, ◌++◌, append_assoc, append-nil, add-one, arith}
use Rattle.board_gen.specs.Generated.{next, drawn, place, item_text, number_behind, state_after, number_after_cells, row_text, rows_text}

one_less : (size k : ℕ) → k < size → size - k ≡ suc (size - (k + 1))
one_less size k l = omega (arith, l)

pub text_next : (size row column s i t r x y j : ℕ) (out new all : List ℕ) → column < size → t ≡ next s → r ≡ drawn t → x ≡ place column (r / 4) → y ≡ place row (r / 404)
    → j ≡ number_behind r i → new ≡ out ++ item_text r x y i → out ++ row_text row column s i (size - column) ≡ all → new ++ row_text row (column + 1) t j (size - (column + 1)) ≡ all
text_next size row column s i t r x y j out new all l et er ex ey ej e h =
    let m = size - (column + 1) in
    let d : r ≡ drawn (next s) = er ∙ ap drawn et in
    let dx : x ≡ place column (drawn (next s) / 4) = ex ∙ ap (λ k. place column (k / 4)) d in
    let dy : y ≡ place row (drawn (next s) / 404) = ey ∙ ap (λ k. place row (k / 404)) d in
    let dj : j ≡ number_behind (drawn (next s)) i = ej ∙ ap (λ k. number_behind k i) d in
    let item = item_text (drawn (next s)) (place column (drawn (next s) / 4)) (place row (drawn (next s) / 404)) i in
    let same : item_text r x y i ≡ item =
    ap (λ k. item_text k x y i) d ∙ ap (λ k. item_text (drawn (next s)) k y i) dx ∙ ap (λ k. item_text (drawn (next s)) (place column (drawn (next s) / 4)) k i) dy in
    let split : row_text row column s i (size - column) ≡ item ++ row_text row (suc column) (next s) (number_behind (drawn (next s)) i) m = ap (row_text row column s i) (one_less size column l) in
    ap (λ k. new ++ row_text row (column + 1) k j m) et
    ∙ ap (λ k. new ++ row_text row (column + 1) (next s) k m) dj
    ∙ ap (λ k. new ++ row_text row k (next s) (number_behind (drawn (next s)) i) m) (add-one column)
    ∙ ap (λ k. k ++ row_text row (suc column) (next s) (number_behind (drawn (next s)) i) m) (e ∙ ap (λ k. out ++ k) same)
    ∙ append_assoc out item (row_text row (suc column) (next s) (number_behind (drawn (next s)) i) m)
    ∙ ap (λ k. out ++ k) (sym split)
    ∙ h

pub state_next : (size k s t : ℕ) (all : ℕ) → k < size → t ≡ next s → state_after s (size - k) ≡ all → state_after t (size - (k + 1)) ≡ all
state_next size k s t all l e h = ap (λ a. state_after a (size - (k + 1))) e ∙ sym (ap (state_after s) (one_less size k l)) ∙ h

pub number_next : (size k s i t r j all : ℕ) → k < size → t ≡ next s → r ≡ drawn t → j ≡ number_behind r i → number_after_cells s i (size - k) ≡ all → number_after_cells t j (size - (k + 1)) ≡ all
number_next size k s i t r j all l et er ej h =
    let dj : j ≡ number_behind (drawn (next s)) i = ej ∙ ap (λ a. number_behind a i) (er ∙ ap drawn et) in
    ap (λ a. number_after_cells a j (size - (k + 1))) et ∙ ap (λ a. number_after_cells (next s) a (size - (k + 1))) dj ∙ sym (ap (number_after_cells s i) (one_less size k l)) ∙ h

nothing : (size : ℕ) → size - size ≡ 0
nothing size = omega arith

pub row_end : (size row s i : ℕ) (out all : List ℕ) → out ++ row_text row size s i (size - size) ≡ all → out ≡ all
row_end size row s i out all h = sym (append-nil out) ∙ sym (ap (λ n. out ++ row_text row size s i n) (nothing size)) ∙ h

pub state_end : (size s all : ℕ) → state_after s (size - size) ≡ all → s ≡ all
state_end size s all h = sym (ap (state_after s) (nothing size)) ∙ h

pub number_end : (size s i all : ℕ) → number_after_cells s i (size - size) ≡ all → i ≡ all
number_end size s i all h = sym (ap (number_after_cells s i) (nothing size)) ∙ h

pub rows_next : (size row s i t j : ℕ) (out new all : List ℕ) → row < size → t ≡ state_after s size → j ≡ number_after_cells s i size → new ≡ out ++ row_text row 0 s i size
    → out ++ rows_text size row s i (size - row) ≡ all → new ++ rows_text size (row + 1) t j (size - (row + 1)) ≡ all
rows_next size row s i t j out new all l et ej e h =
    let m = size - (row + 1) in
    let one = row_text row 0 s i size in
    let rest = rows_text size (suc row) (state_after s size) (number_after_cells s i size) m in
    let split : rows_text size row s i (size - row) ≡ one ++ rest = ap (rows_text size row s i) (one_less size row l) in
    ap (λ k. new ++ rows_text size (row + 1) k j m) et
    ∙ ap (λ k. new ++ rows_text size (row + 1) (state_after s size) k m) ej
    ∙ ap (λ k. new ++ rows_text size k (state_after s size) (number_after_cells s i size) m) (add-one row)
    ∙ ap (λ k. k ++ rest) e
    ∙ append_assoc out one rest
    ∙ ap (λ k. out ++ k) (sym split)
    ∙ h

pub rows_end : (size s i : ℕ) (out all : List ℕ) → out ++ rows_text size size s i (size - size) ≡ all → out ≡ all
rows_end size s i out all h = sym (append-nil out) ∙ sym (ap (λ n. out ++ rows_text size size s i n) (nothing size)) ∙ h
