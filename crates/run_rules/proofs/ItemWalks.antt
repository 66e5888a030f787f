-- A walk over the rows of a board, row by row.
use Rattle.std.proofs.Common.{◌≡◌, ◌∙◌, sym, ap, ℕ, suc, ◌+◌, ◌-◌, ◌<◌, ◌≤◌, arith}
use Rattle.board_gen.specs.Generated.{state_after, number_after_cells}
use Rattle.run_rules.specs.Items.{items_after}

left : (size row : ℕ) → row < size → size - row ≡ suc (size - (row + 1))
left size row l = omega (arith, l)

pub row_next : (size row state items next more all : ℕ) → row < size → next ≡ state_after state size → more ≡ number_after_cells state items size
    → items_after size state items (size - row) ≡ all → items_after size next more (size - (row + 1)) ≡ all
unfolding items_after
row_next size row state items next more all l s n e =
    ap (λ x. items_after size x more (size - (row + 1))) s
    ∙ ap (λ x. items_after size (state_after state size) x (size - (row + 1))) n
    ∙ sym (ap (items_after size state items) (left size row l)) ∙ e

pub rows_end : (size row state items all : ℕ) → size ≤ row → items_after size state items (size - row) ≡ all → items ≡ all
unfolding items_after
rows_end size row state items all l e = let z : size - row ≡ 0 = omega (arith, l) in sym (ap (items_after size state items) z) ∙ e
