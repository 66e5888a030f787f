-- A component is anchored where the part of its pieces is held.
use Rattle.std.proofs.Common.{subst, inl, inr, ℕ, List}
use Rattle.std.specs.Prelude.{◌↔◌, ◌⊎◌}
use Rattle.plane.specs.Plane.{Bounds, Within, IsTight, IsMeeting}
use Rattle.grid_num.specs.declared.Point.{Point}
use Rattle.classes.specs.Classes.{IsOneOf}
use Rattle.copper_shape.specs.Shapes.{Copper}
use Rattle.islands.specs.Held.{IsTouching, IsHeldDirectly, IsHeld}
use Rattle.board_language.specs.Board.{Board}
use Rattle.fill_rules.specs.Tasks.{zone_at, layer_at}
use Rattle.fill_rules.specs.Reliefs.{brush_radius}
use Rattle.fill_rules.specs.Anchors.{anchors_of}
use Rattle.fill_rules.specs.Fill.{brush_at, IsLive, IsAnchored, fill_of}
use Rattle.fills.specs.Fills.{brushed}
use Rattle.components.specs.Cells.{AreCells, IsAllowedAt, IsInCell, pieces_of}
use Rattle.components.specs.Kept.{AreLive}
use Rattle.components.specs.Laws.{AnchoredLaw}
use Rattle.components.proofs.Places.{at_in, map_at, at_map}
use Rattle.components.proofs.Brushes.{piece_met, met_piece, piece_touched, touched_piece}
use Rattle.components.proofs.Components.{IsWide, sound_wide, cells_tight, part_component, reached_cell}

module _ (b : Board) (i : ℕ) (live : List Bounds) (l : AreLive b i live) where
  -- a live spoke meets the brush at the centre, or an anchor touches it
  IsAnchoredAt : Point → Type 0
  IsAnchoredAt d =
      ((o : Bounds) × IsLive b (fill_of b) i o × IsMeeting o (brush_at b i d))
      ⊎ ((s : Copper) × IsOneOf s (anchors_of b (zone_at b i) (layer_at b i)) × IsTouching s (brush_at b i d))

  held_at : (cell : Bounds) (d : Point) → Within cell d.x d.y → IsAnchoredAt d
      → IsHeldDirectly (anchors_of b (zone_at b i) (layer_at b i)) live (brushed (brush_radius (zone_at b i)) cell)
  unfolding IsAnchoredAt IsHeldDirectly brush_at
  held_at cell d w (inl (o, m, e)) = inl (o, (l o).1 m, piece_met (brush_radius (zone_at b i)) o cell d w e)
  held_at cell d w (inr (s, m, e)) = inr (s, m, piece_touched (brush_radius (zone_at b i)) s cell d w e)

  at_held : IsWide b i → (cell : Bounds) → IsTight cell
      → IsHeldDirectly (anchors_of b (zone_at b i) (layer_at b i)) live (brushed (brush_radius (zone_at b i)) cell)
      → (d : Point) × Within cell d.x d.y × IsAnchoredAt d
  unfolding IsAnchoredAt IsHeldDirectly brush_at
  at_held s cell t (inl (o, m, e)) =
      let d = met_piece (brush_radius (zone_at b i)) o cell s t e in (d.0, d.1, inl (o, (l o).0 m, d.2))
  at_held s cell t (inr (c, m, e)) =
      let d = touched_piece (brush_radius (zone_at b i)) c cell s t e in (d.0, d.1, inr (c, m, d.2))

module _ (b : Board) (i : ℕ) (s : IsWide b i) (cells : List Bounds) (a : AreCells (IsAllowedAt b i) cells) (live : List Bounds)
    (l : AreLive b i live) (k : ℕ) (c : Point) (h : IsInCell cells k c) where
  anchored_held : IsAnchored b (fill_of b) i c → IsHeld (pieces_of b i cells) (anchors_of b (zone_at b i) (layer_at b i)) live k
  unfolding IsAnchoredAt
  anchored_held (d, t, w) =
      let r = brush_radius (zone_at b i) in
      let m = reached_cell b i cells a k c d h t in
      let g = m.1 in
      record {
        at = m.0;
        oct = brushed r g.cell;
        together = m.2;
        there = map_at (brushed r) cells m.0 g.cell g.there;
        directly = held_at b i live l g.cell d g.within w;
      }

  held_anchored : IsHeld (pieces_of b i cells) (anchors_of b (zone_at b i) (layer_at b i)) live k → IsAnchored b (fill_of b) i c
  unfolding IsAnchoredAt
  held_anchored g =
      let m = at_map (brushed (brush_radius (zone_at b i))) cells g.at g.oct g.there in
      let tight = at_in IsTight cells g.at m.0 (cells_tight (IsAllowedAt b i) cells a) m.1 in
      let d = at_held b i live l s m.0 tight (subst (IsHeldDirectly (anchors_of b (zone_at b i) (layer_at b i)) live) m.2 g.directly) in
      (d.0, part_component b i cells a s c d.0 k g.at h (record { cell = m.0; there = m.1; within = d.1 }) g.together, d.2)

  pub part_held : IsAnchored b (fill_of b) i c ↔ IsHeld (pieces_of b i cells) (anchors_of b (zone_at b i) (layer_at b i)) live k
  part_held = (anchored_held, held_anchored)

pub anchored : AnchoredLaw
anchored b s i cells a live l k c h = part_held b i (sound_wide b s i) cells a live l k c h
