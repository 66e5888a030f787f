-- The grid points that the brush takes at a component's centres.
use Rattle.std.proofs.Common.{sym, subst, ℕ, ◌*◌, ◌≤◌, get_or, List, arith}
use Rattle.std.specs.Prelude.{ℤ, ◌↔◌, map, ◌==◌}
use Rattle.std.proofs.lemmas.Option.{slice_get_within}
use Rattle.plane.specs.Plane.{Bounds, Within, IsTight, grid_point}
use Rattle.plane.proofs.Moved.{grid_law}
use Rattle.grid_num.specs.declared.Point.{Point}
use Rattle.grid_sets.specs.Points.{HasPoint}
use Rattle.islands.specs.Parts.{AreParts}
use Rattle.islands.proofs.PartLaws.{parts_same}
use Rattle.board_language.specs.Board.{Board}
use Rattle.fill_rules.specs.Tasks.{zone_at}
use Rattle.fill_rules.specs.Reliefs.{brush_radius}
use Rattle.fill_rules.specs.Fill.{brush_at, IsIslandPoint, fill_of}
use Rattle.fill_rules.proofs.Spared.{one_count}
use Rattle.fills.specs.Fills.{brushed}
use Rattle.components.specs.Cells.{AreCells, IsAllowedAt, IsInCell, pieces_of}
use Rattle.components.specs.Kept.{with_label}
use Rattle.components.specs.Laws.{PartPointsLaw, SparedCountLaw}
use Rattle.components.proofs.Places.{at_in, map_at, at_map}
use Rattle.components.proofs.Brushes.{laid, to_piece, from_piece}
use Rattle.components.proofs.Flagged.{flagged_from, flagged_to, label_from, label_to}
use Rattle.components.proofs.Components.{IsWide, sound_wide, cells_tight, part_component, reached_cell}
use Rattle.components.proofs.First.{piece_within}

-- ---- grid points of pieces
grid_to_piece : (r : ℕ) (o : Bounds) (c : Point) (x y : ℤ) → Within o c.x c.y → Within (laid r c) x y → Within (brushed r o) x y
grid_to_piece r o c x y w h = (grid_law (brushed r o) x y).0 (to_piece r o c (grid_point x y) w ((grid_law (laid r c) x y).1 h))

grid_from_piece : (r : ℕ) (o : Bounds) (x y : ℤ) → 10 ≤ r → IsTight o → Within (brushed r o) x y → (c : Point) × Within o c.x c.y × Within (laid r c) x y
grid_from_piece r o x y wide t h =
    let c = from_piece r o (grid_point x y) wide t ((grid_law (brushed r o) x y).1 h) in
    (c.0, c.1, (grid_law (laid r c.0) x y).0 c.2)

module _ (b : Board) (i : ℕ) (s : IsWide b i) (cells : List Bounds) (a : AreCells (IsAllowedAt b i) cells) (labels : List ℕ)
    (p : AreParts (pieces_of b i cells) labels) (k : ℕ) (c : Point) (h : IsInCell cells k c) (x y : ℤ) where
  point_to : IsIslandPoint b (fill_of b) i c x y → HasPoint (with_label labels (get_or labels k 0) (pieces_of b i cells)) x y
  unfolding brush_at
  point_to (d, t, w) =
      let r = brush_radius (zone_at b i) in
      let m = reached_cell b i cells a k c d h t in
      let g = m.1 in
      let in_m = piece_within b i cells m.0 d g in
      let one = (parts_same (pieces_of b i cells) labels p k m.0 (piece_within b i cells k c h) in_m).1 m.2 in
      flagged_to (map (λ n. n == get_or labels k 0) labels) (pieces_of b i cells) x y m.0
      (label_to labels (get_or labels k 0) m.0 (let e = p.each in omega (arith, in_m, e)) (sym one))
      (record { cell = brushed r g.cell; there = map_at (brushed r) cells m.0 g.cell g.there; within = grid_to_piece r g.cell d x y g.within w })

  to_point : HasPoint (with_label labels (get_or labels k 0) (pieces_of b i cells)) x y → IsIslandPoint b (fill_of b) i c x y
  unfolding brush_at
  to_point q =
      let r = brush_radius (zone_at b i) in
      let m = flagged_from (map (λ n. n == get_or labels k 0) labels) (pieces_of b i cells) x y q in
      let g = m.1.at in
      let cell = at_map (brushed r) cells m.0 g.cell g.there in
      let d = grid_from_piece r cell.0 x y s (at_in IsTight cells m.0 cell.0 (cells_tight (IsAllowedAt b i) cells a) cell.1)
      (subst (λ u. Within u x y) cell.2 g.within) in
      let in_m = slice_get_within (pieces_of b i cells) m.0 g.cell g.there in
      let one = (parts_same (pieces_of b i cells) labels p k m.0 (piece_within b i cells k c h) in_m).0 (sym (label_from labels (get_or labels k 0) m.0 m.1.flag)) in
      (d.0, part_component b i cells a s c d.0 k m.0 h (record { cell = cell.0; there = cell.1; within = d.1 }) one, d.2)

  pub part_point : IsIslandPoint b (fill_of b) i c x y ↔ HasPoint (with_label labels (get_or labels k 0) (pieces_of b i cells)) x y
  part_point = (point_to, to_point)

pub size : PartPointsLaw
size b s i cells a labels p k c h x y = part_point b i (sound_wide b s i) cells a labels p k c h x y

-- ---- one count
pub count : SparedCountLaw
count os points area h =
    (λ (more, g, e). subst (λ n. (1000000 * area) ≤ (4 * n)) (one_count (HasPoint os) more points g h) e, λ e. (points, h, e))
