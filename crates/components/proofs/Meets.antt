-- What meets a piece meets the brush at some point of its cell.
use Rattle.std.proofs.Common.{subst, ℕ, List}
use Rattle.std.specs.Prelude.{◌↔◌}
use Rattle.std.specs.List.{All}
use Rattle.plane.specs.Plane.{Bounds, IsTight, IsMeeting}
use Rattle.plane.proofs.Near.{IsMeeting-sym}
use Rattle.grid_num.specs.declared.Point.{Point}
use Rattle.grid_sets.specs.Points.{HasPoint}
use Rattle.board_language.specs.Board.{Board}
use Rattle.fill_rules.specs.Tasks.{zone_at}
use Rattle.fill_rules.specs.Reliefs.{brush_radius}
use Rattle.fill_rules.specs.Fill.{brush_at}
use Rattle.fills.specs.Fills.{brushed}
use Rattle.components.specs.Cells.{IsAllowedAt, pieces_of}
use Rattle.components.specs.Kept.{IsMet}
use Rattle.components.specs.PieceLaws.{MeetsLaw}
use Rattle.components.proofs.Places.{at_in, map_at, at_map, at_one_of, one_of_at, has_in, in_has}
use Rattle.components.proofs.Brushes.{piece_met, met_piece}
use Rattle.components.proofs.Components.{IsWide, sound_wide, cells_tight, cells_have}

module _ (b : Board) (i : ℕ) (s : IsWide b i) (cells : List Bounds) (t : All IsTight cells) (Q : Point → Type 0)
    (f : (c : Point) → HasPoint cells c.x c.y ↔ Q c) (o : Bounds) where
  brush_to_piece : ((c : Point) × Q c × IsMeeting o (brush_at b i c)) → IsMet (pieces_of b i cells) o
  unfolding brush_at
  brush_to_piece (c, q, m) =
      let r = brush_radius (zone_at b i) in
      let w = has_in cells c.x c.y ((f c).1 q) in
      let g = w.1 in (
        brushed r g.cell,
        at_one_of (pieces_of b i cells) w.0 (brushed r g.cell) (map_at (brushed r) cells w.0 g.cell g.there),
        IsMeeting-sym o (brushed r g.cell) (piece_met r o g.cell c g.within m),
      )

  piece_to_brush : IsMet (pieces_of b i cells) o → (c : Point) × Q c × IsMeeting o (brush_at b i c)
  unfolding brush_at
  piece_to_brush (l, e, m) =
      let r = brush_radius (zone_at b i) in
      let k = one_of_at (pieces_of b i cells) l e in
      let g = at_map (brushed r) cells k.0 l k.1 in
      let d = met_piece r o g.0 s (at_in IsTight cells k.0 g.0 t g.1)
      (subst (IsMeeting o) g.2 (IsMeeting-sym l o m)) in
      (d.0, (f d.0).0 (in_has cells k.0 d.0 (record { cell = g.0; there = g.1; within = d.1 })), d.2)

  -- where the points of tight cells are those that Q holds of
  pub pieces_met : ((c : Point) × Q c × IsMeeting o (brush_at b i c)) ↔ IsMet (pieces_of b i cells) o
  pieces_met = (brush_to_piece, piece_to_brush)

pub meets : MeetsLaw
meets b s i cells a o =
    pieces_met b i (sound_wide b s i) cells (cells_tight (IsAllowedAt b i) cells a) (λ c. IsAllowedAt b i c.x c.y) (λ c. cells_have (IsAllowedAt b i) cells a c.x c.y) o
