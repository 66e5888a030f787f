-- A cell has exactly the points of its run's rows, and it is tight.
use Rattle.std.proofs.Common.{◌≡◌, ℕ, ◌≤◌, subst, arith}
use Rattle.std.specs.Prelude.{ℤ, pos, negsuc, ◌+ℤ◌, ◌-ℤ◌, ◌≤ℤ◌}
use Rattle.std.proofs.lemmas.Int.{ints}
use Rattle.plane.specs.Plane.{Bounds, Within, IsTight}
use Rattle.grid_sets.specs.Rows.{IsOnRun}
use Rattle.grid_sets.specs.Bands.{place_after, run_down}
use Rattle.grid_sets.specs.Cells.{leftmost, rightmost, cell_of}
use Rattle.grid_sets.specs.declared.Move.{Move}
use Rattle.grid_sets.specs.declared.Move.TheVariants.{Left, Still, Right}
use Rattle.grid_sets.specs.declared.Slant.{Slant}

-- the same with the fields apart, so that the moves can be matched
abbrev pub cell : ℤ → ℕ → ℤ → ℤ → Move → Move → Bounds
cell top n a c m p = cell_of top n (record { from = record { place = a; go = m }; to = record { place = c; go = p } })

left_in : (top a x : ℤ) (n k : ℕ) (m : Move) → k ≤ n → place_after m k a ≤ℤ x
    → (leftmost m n a ≤ℤ x) × ((a +ℤ top) ≤ℤ (x +ℤ (top +ℤ pos k))) × ((place_after m n a -ℤ (top +ℤ pos n)) ≤ℤ (x -ℤ (top +ℤ pos k)))
left_in top a x n k Left l h = (omega (arith, ints), omega (arith, ints), omega (arith, ints))
left_in top a x n k Still l h = (omega (arith, ints), omega (arith, ints), omega (arith, ints))
left_in top a x n k Right l h = (omega (arith, ints), omega (arith, ints), omega (arith, ints))

right_in : (top c x : ℤ) (n k : ℕ) (m : Move) → k ≤ n → x ≤ℤ place_after m k c
    → (x ≤ℤ rightmost m n c) × ((x +ℤ (top +ℤ pos k)) ≤ℤ (place_after m n c +ℤ (top +ℤ pos n))) × ((x -ℤ (top +ℤ pos k)) ≤ℤ (c -ℤ top))
right_in top c x n k Left l h = (omega (arith, ints), omega (arith, ints), omega (arith, ints))
right_in top c x n k Still l h = (omega (arith, ints), omega (arith, ints), omega (arith, ints))
right_in top c x n k Right l h = (omega (arith, ints), omega (arith, ints), omega (arith, ints))

left_out : (top a x : ℤ) (n k : ℕ) (m : Move)
    → leftmost m n a ≤ℤ x → (a +ℤ top) ≤ℤ (x +ℤ (top +ℤ pos k)) → (place_after m n a -ℤ (top +ℤ pos n)) ≤ℤ (x -ℤ (top +ℤ pos k)) → place_after m k a ≤ℤ x
left_out top a x n k Left h s d = omega (arith, ints)
left_out top a x n k Still h s d = omega (arith, ints)
left_out top a x n k Right h s d = omega (arith, ints)

right_out : (top c x : ℤ) (n k : ℕ) (m : Move)
    → x ≤ℤ rightmost m n c → (x +ℤ (top +ℤ pos k)) ≤ℤ (place_after m n c +ℤ (top +ℤ pos n)) → (x -ℤ (top +ℤ pos k)) ≤ℤ (c -ℤ top) → x ≤ℤ place_after m k c
right_out top c x n k Left h s d = omega (arith, ints)
right_out top c x n k Still h s d = omega (arith, ints)
right_out top c x n k Right h s d = omega (arith, ints)

pub run_in_cell : (top : ℤ) (n k : ℕ) (s : Slant) (x : ℤ) → k ≤ n → IsOnRun (run_down k s) x → Within (cell_of top n s) x (top +ℤ pos k)
run_in_cell top n k s x l h =
    let a = left_in top s.from.place x n k s.from.go l h.low in
    let c = right_in top s.to.place x n k s.to.go l h.high in
    record { x_low = a.0; x_high = c.0; y_low = omega (arith, ints); y_high = omega (arith, ints); s_low = a.1; s_high = c.1; d_low = a.2; d_high = c.2 }

pub cell_in_run : (top : ℤ) (n k : ℕ) (s : Slant) (x : ℤ) → Within (cell_of top n s) x (top +ℤ pos k) → IsOnRun (run_down k s) x
cell_in_run top n k s x w = record {
  low = left_out top s.from.place x n k s.from.go w.x_low w.s_low w.d_low;
  high = right_out top s.to.place x n k s.to.go w.x_high w.s_high w.d_high;
}

-- each y of the cell is that of some row
row_number : (top y : ℤ) (n : ℕ) → top ≤ℤ y → y ≤ℤ (top +ℤ pos n) → (k : ℕ) × (k ≤ n) × (y ≡ top +ℤ pos k)
row_number top y n h l = by_sign (y -ℤ top) (omega (arith, ints))
  where
    by_sign : (d : ℤ) → y ≡ top +ℤ d → (k : ℕ) × (k ≤ n) × (y ≡ top +ℤ pos k)
    by_sign (pos k) e = (k, omega (arith, ints), e)
    by_sign (negsuc k) e = absurd (omega (arith, ints))

pub cell_row : (top : ℤ) (n : ℕ) (s : Slant) (x y : ℤ) → Within (cell_of top n s) x y
    → (k : ℕ) × (k ≤ n) × (y ≡ top +ℤ pos k) × IsOnRun (run_down k s) x
cell_row top n s x y w =
    let r = row_number top y n w.y_low w.y_high in
    let P : ℤ → Type 0 = λ v. Within (cell_of top n s) x v in
    (r.0, r.1, r.2, cell_in_run top n r.0 s x (subst P r.2 w))

tight_by : (top a c : ℤ) (n : ℕ) (m p : Move) → a ≤ℤ c → place_after m n a ≤ℤ place_after p n c → IsTight (cell top n a c m p)
tight_by top a c n Left Left h l = record { top_left = omega (arith, ints); top = omega (arith, ints); top_right = omega (arith, ints); right = omega (arith, ints); bottom_right = omega (arith, ints); bottom = omega (arith, ints); bottom_left = omega (arith, ints); left = omega (arith, ints) }
tight_by top a c n Left Still h l = record { top_left = omega (arith, ints); top = omega (arith, ints); top_right = omega (arith, ints); right = omega (arith, ints); bottom_right = omega (arith, ints); bottom = omega (arith, ints); bottom_left = omega (arith, ints); left = omega (arith, ints) }
tight_by top a c n Left Right h l = record { top_left = omega (arith, ints); top = omega (arith, ints); top_right = omega (arith, ints); right = omega (arith, ints); bottom_right = omega (arith, ints); bottom = omega (arith, ints); bottom_left = omega (arith, ints); left = omega (arith, ints) }
tight_by top a c n Still Left h l = record { top_left = omega (arith, ints); top = omega (arith, ints); top_right = omega (arith, ints); right = omega (arith, ints); bottom_right = omega (arith, ints); bottom = omega (arith, ints); bottom_left = omega (arith, ints); left = omega (arith, ints) }
tight_by top a c n Still Still h l = record { top_left = omega (arith, ints); top = omega (arith, ints); top_right = omega (arith, ints); right = omega (arith, ints); bottom_right = omega (arith, ints); bottom = omega (arith, ints); bottom_left = omega (arith, ints); left = omega (arith, ints) }
tight_by top a c n Still Right h l = record { top_left = omega (arith, ints); top = omega (arith, ints); top_right = omega (arith, ints); right = omega (arith, ints); bottom_right = omega (arith, ints); bottom = omega (arith, ints); bottom_left = omega (arith, ints); left = omega (arith, ints) }
tight_by top a c n Right Left h l = record { top_left = omega (arith, ints); top = omega (arith, ints); top_right = omega (arith, ints); right = omega (arith, ints); bottom_right = omega (arith, ints); bottom = omega (arith, ints); bottom_left = omega (arith, ints); left = omega (arith, ints) }
tight_by top a c n Right Still h l = record { top_left = omega (arith, ints); top = omega (arith, ints); top_right = omega (arith, ints); right = omega (arith, ints); bottom_right = omega (arith, ints); bottom = omega (arith, ints); bottom_left = omega (arith, ints); left = omega (arith, ints) }
tight_by top a c n Right Right h l = record { top_left = omega (arith, ints); top = omega (arith, ints); top_right = omega (arith, ints); right = omega (arith, ints); bottom_right = omega (arith, ints); bottom = omega (arith, ints); bottom_left = omega (arith, ints); left = omega (arith, ints) }

pub cell-IsTight : (top : ℤ) (n : ℕ) (s : Slant) → (run_down 0 s).from ≤ℤ (run_down 0 s).to → (run_down n s).from ≤ℤ (run_down n s).to → IsTight (cell_of top n s)
cell-IsTight top n s h l = tight_by top s.from.place s.to.place n s.from.go s.to.go (zeroth s.from.place s.to.place s.from.go s.to.go h) l
  where
    moved_zero : (m : Move) (a : ℤ) → place_after m 0 a ≡ a
    moved_zero Left a = omega (arith, ints)
    moved_zero Still a = omega (arith, ints)
    moved_zero Right a = omega (arith, ints)

    zeroth : (a c : ℤ) (m p : Move) → place_after m 0 a ≤ℤ place_after p 0 c → a ≤ℤ c
    zeroth a c m p h = let x = moved_zero m a in let y = moved_zero p c in omega (arith, ints)
