-- The cells of a set: each is an octagon of the program, and there is one list of them.
use Rattle.std.proofs.Common.{◌≡◌, refl, sym, ap, ◌∙◌, subst, inl, inr, ℕ, zero, suc, ◌<◌, ◌^◌, List, [], ◌∷◌, ◌++◌, map, length, get_or, arith, Result, Ok, Err, IfOk}
use Rattle.std.specs.Prelude.{ℤ, pos, ◌+ℤ◌, ◌-ℤ◌}
use Rattle.std.specs.List.{All}
use Rattle.plane.specs.Plane.{Bounds, Within, IsTight, IsOct}
use Rattle.plane.specs.Narrow.{IsNearZero}
use Rattle.plane.proofs.Tight.{top_left_x, top_left_y, top_right_x, bottom_left_y}
use Rattle.grid_sets.specs.Rows.{Row, AreRowsOf}
use Rattle.grid_sets.specs.Bands.{Band, AreBandsOf}
use Rattle.grid_sets.specs.Cells.{cell_of, cells_of}
use Rattle.grid_sets.specs.Points.{HasPoint, AreApart}
use Rattle.grid_sets.specs.declared.Slant.{Slant}
use Rattle.grid_sets.proofs.CellPoints.{cells_points}
use Rattle.grid_sets.proofs.Apart.{cells_apart_law, cells_tight_law}
use Rattle.grid_sets.proofs.Unique.{rows_law}
use Rattle.grid_sets.proofs.OneBands.{bands_law}
use Rattle.scan_runs.specs.Strips.{band_of, rows_of_strips}
use Rattle.scan_runs.specs.Inner.Grouping.{AreGrouped}
use Rattle.scan_runs.specs.Cells.{run_cells, numbered_cells, octs_of, AreCellsOf, AreAllInReach, CellsOnceLaw, NoCellsLaw, TilesLaw}
use Rattle.scan_runs.specs.declared.cell.Cell.{Cell}
use Rattle.scan_runs.specs.declared.strip.RowStrip.{RowStrip}

-- ---- each cell is an octagon of the program
has_at : (os : List Bounds) (k : ℕ) (d : Bounds) (x y : ℤ) → k < length os → Within (get_or os k d) x y → HasPoint os x y
has_at [] k d x y l w = absurd (omega arith)
has_at (o ∷ os) zero d x y l w = inl w
has_at (o ∷ os) (suc k) d x y l w = inr (has_at os k d x y (omega arith) w)

oct_by : (c : Bounds) → IsTight c → ((x y : ℤ) → Within c x y → IsNearZero (2 ^ 40) x × IsNearZero (2 ^ 40) y) → IsOct c
oct_by c t n = record {
  tight = t;
  x_low = (n c.x0 (c.s0 -ℤ c.x0) (top_left_x c t)).0.low;
  x_high = (n c.x1 (c.x1 -ℤ c.d1) (top_right_x c t)).0.high;
  y_low = (n (c.s0 -ℤ c.y0) c.y0 (top_left_y c t)).1.low;
  y_high = (n (c.d0 +ℤ c.y1) c.y1 (bottom_left_y c t)).1.high;
}

pub cells_are_octs : (os : List Bounds) (strips bands : List RowStrip) → AreRowsOf (HasPoint os) (rows_of_strips strips) → AreAllInReach os → AreGrouped (rows_of_strips strips) bands → All IsOct (cells_of (map band_of bands))
cells_are_octs os strips bands a n g k d l =
    oct_by (get_or (cells_of (map band_of bands)) k d) (cells_tight_law (rows_of_strips strips) (map band_of bands) a.are g.bands k d l)
    (λ x y w.
    let h : HasPoint os x y = (a.same x y).0 ((cells_points (rows_of_strips strips) (map band_of bands) x y g.bands).1 (has_at (cells_of (map band_of bands)) k d x y l w)) in
    (n.x x y h, n.y x y h))

-- ---- the cells' octagons
octs_append : (cs ds : List Cell) → octs_of (cs ++ ds) ≡ octs_of cs ++ octs_of ds
octs_append [] ds = refl
octs_append (c ∷ cs) ds = ap (λ (v : List Bounds). c.oct ∷ v) (octs_append cs ds)

octs_run_cells : (b : Band) (band run : ℕ) (ss : List Slant) → octs_of (run_cells b band run ss) ≡ map (cell_of b.top b.more) ss
octs_run_cells b band run [] = refl
octs_run_cells b band run (s ∷ ss) = ap (λ (v : List Bounds). cell_of b.top b.more s ∷ v) (octs_run_cells b band (suc run) ss)

octs_numbered : (k : ℕ) (bs : List Band) → octs_of (numbered_cells k bs) ≡ cells_of bs
octs_numbered k [] = refl
octs_numbered k (b ∷ bs) =
    octs_append (run_cells b k 0 b.runs) (numbered_cells (suc k) bs)
    ∙ (ap (λ (v : List Bounds). v ++ octs_of (numbered_cells (suc k) bs)) (octs_run_cells b k 0 b.runs)
    ∙ ap (λ (v : List Bounds). map (cell_of b.top b.more) b.runs ++ v) (octs_numbered (suc k) bs))

cells_are : (os : List Bounds) (strips bands : List RowStrip) (cells : List Cell) → AreRowsOf (HasPoint os) (rows_of_strips strips) → AreGrouped (rows_of_strips strips) bands → cells ≡ numbered_cells 0 (map band_of bands)
    → AreCellsOf (HasPoint os) cells
cells_are os strips bands cells a g h = record {
  rows = rows_of_strips strips;
  bands = map band_of bands;
  are_rows = a;
  are_bands = g.bands;
  numbered = h;
  octs = ap octs_of h ∙ octs_numbered 0 (map band_of bands);
}

pub cells_by : {V E : Type 0} (items : V → List Cell) (os : List Bounds) (strips bands : List RowStrip) (r : Result V E) → AreRowsOf (HasPoint os) (rows_of_strips strips) → AreGrouped (rows_of_strips strips) bands
    → IfOk r (λ v. items v ≡ numbered_cells 0 (map band_of bands)) → IfOk r (λ v. AreCellsOf (HasPoint os) (items v))
cells_by items os strips bands (Err e) a g h = h
cells_by items os strips bands (Ok v) a g h = cells_are os strips bands (items v) a g h

-- ---- one list of cells
pub cells_once : CellsOnceLaw
cells_once os others cells more s a b =
    let r : a.rows ≡ b.rows = rows_law a.rows b.rows a.are_rows.are b.are_rows.are (λ x y. (λ h. (b.are_rows.same x y).1 ((s x y).0 ((a.are_rows.same x y).0 h)), λ h. (a.are_rows.same x y).1 ((s x y).1 ((b.are_rows.same x y).0 h)))) in
    let e : a.bands ≡ b.bands = bands_law b.rows a.bands b.bands (subst (λ (v : List Row). AreBandsOf v a.bands) r a.are_bands) b.are_bands in
    a.numbered ∙ (ap (λ (v : List Band). numbered_cells 0 v) e ∙ sym b.numbered)

pub no_cells : NoCellsLaw
no_cells os cells n a =
    let r : a.rows ≡ [] = rows_law a.rows [] a.are_rows.are (record { top = pos 0; descending = tt }) (λ x y. (λ h. absurd (n x y ((a.are_rows.same x y).0 h)), λ h. absurd h)) in
    let e : a.bands ≡ [] = bands_law [] a.bands [] (subst (λ (v : List Row). AreBandsOf v a.bands) r a.are_bands) refl in
    a.numbered ∙ ap (λ (v : List Band). numbered_cells 0 v) e

pub tiles : TilesLaw
tiles os cells a = record {
  same = λ x y.
      let p = cells_points a.rows a.bands x y a.are_bands in
      let e : HasPoint (octs_of cells) x y → HasPoint (cells_of a.bands) x y = subst (λ (v : List Bounds). HasPoint v x y) a.octs in
      let f : HasPoint (cells_of a.bands) x y → HasPoint (octs_of cells) x y = subst (λ (v : List Bounds). HasPoint v x y) (sym a.octs) in
      (λ h. (a.are_rows.same x y).0 (p.1 (e h)), λ h. f (p.0 ((a.are_rows.same x y).1 h)));
  apart = subst AreApart (sym a.octs) (cells_apart_law a.rows a.bands a.are_rows.are a.are_bands);
  tight = subst (All IsTight) (sym a.octs) (cells_tight_law a.rows a.bands a.are_rows.are a.are_bands);
}

pub none_by : {V E : Type 0} (items : V → List Cell) (os : List Bounds) (strips bands : List RowStrip) (r : Result V E) → AreRowsOf (HasPoint os) (rows_of_strips strips) → AreGrouped (rows_of_strips strips) bands
    → IfOk r (λ v. items v ≡ numbered_cells 0 (map band_of bands)) → IfOk r (λ v. ((x y : ℤ) → HasPoint os x y → ⊥) → items v ≡ [])
none_by items os strips bands (Err e) a g h = h
none_by items os strips bands (Ok v) a g h = λ n. no_cells os (items v) n (cells_are os strips bands (items v) a g h)
