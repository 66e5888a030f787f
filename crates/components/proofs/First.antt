-- Where components begin.
use Rattle.std.proofs.Common.{◌≡◌, ℕ, ◌≤◌, ◌<◌, get_or, List, length, arith}
use Rattle.std.specs.Prelude.{slice_get, Some}
use Rattle.std.proofs.lemmas.Option.{slice_get_within, slice_get-get_or}
use Rattle.plane.specs.Plane.{Bounds, IsTight}
use Rattle.plane.proofs.Tight.{top_left_y}
use Rattle.grid_num.specs.declared.Point.{Point}
use Rattle.classes.specs.Classes.{Reaches, IsLeastOf}
use Rattle.classes.proofs.Reaching.{reaches_self}
use Rattle.open_laws.specs.Open.{top_left, IsBefore}
use Rattle.islands.specs.Parts.{IsMeetingAt, AreParts}
use Rattle.board_language.specs.Board.{Board}
use Rattle.fill_rules.specs.Tasks.{zone_at}
use Rattle.fill_rules.specs.Reliefs.{brush_radius}
use Rattle.fill_rules.specs.Fill.{IsLinked, fill_of}
use Rattle.fills.specs.Fills.{brushed}
use Rattle.components.specs.Cells.{AreCells, IsAllowedAt, IsInCell, pieces_of}
use Rattle.components.specs.Laws.{IsBeginning, FirstLaw}
use Rattle.components.proofs.Places.{at_in, map_at, first_up_to}
use Rattle.components.proofs.Components.{IsWide, sound_wide, cells_tight, cells_first, part_component, reached_cell}

-- a cell has a piece
pub piece_within : (b : Board) (i : ℕ) (cells : List Bounds) (k : ℕ) (c : Point) → IsInCell cells k c → k < length (pieces_of b i cells)
piece_within b i cells k c h =
    let r = brush_radius (zone_at b i) in
    slice_get_within (pieces_of b i cells) k (brushed r h.cell) (map_at (brushed r) cells k h.cell h.there)

module _ (b : Board) (i : ℕ) (s : IsWide b i) (cells : List Bounds) (a : AreCells (IsAllowedAt b i) cells) (labels : List ℕ)
    (p : AreParts (pieces_of b i cells) labels) (k : ℕ) (c : Point) (h : IsInCell cells k c) where
  least_label : IsLeastOf (IsMeetingAt (pieces_of b i cells)) (λ m n. m ≤ n) k (get_or labels k 0)
  least_label = record { reached = (p.least k (piece_within b i cells k c h)).reached; least = (p.least k (piece_within b i cells k c h)).least }

  label_up_to : get_or labels k 0 ≤ k
  label_up_to = least_label.least k (reaches_self (IsMeetingAt (pieces_of b i cells)) k)

  first_there : slice_get cells (get_or labels k 0) ≡ Some (get_or cells (get_or labels k 0) h.cell)
  first_there =
      let l = slice_get_within cells k h.cell h.there in
      let u = label_up_to in
      slice_get-get_or cells (get_or labels k 0) h.cell (omega (arith, l, u))

  first_in : IsInCell cells (get_or labels k 0) (top_left (get_or cells (get_or labels k 0) h.cell))
  first_in =
      let o = get_or cells (get_or labels k 0) h.cell in
      record {
        cell = o;
        there = first_there;
        within = top_left_y o (at_in IsTight cells (get_or labels k 0) o (cells_tight (IsAllowedAt b i) cells a) first_there);
      }

  first_least : (d : Point) → Reaches (IsLinked b (fill_of b) i) c d → IsBefore (top_left (get_or cells (get_or labels k 0) h.cell)) d
  first_least d t =
      let m = reached_cell b i cells a k c d h t in
      first_up_to cells (get_or labels k 0) m.0 (get_or cells (get_or labels k 0) h.cell) d (cells_first (IsAllowedAt b i) cells a)
      (least_label.least m.0 m.2) first_there m.1

  pub beginning : IsBeginning b i cells (get_or labels k 0) c
  beginning = record {
    first = get_or cells (get_or labels k 0) h.cell;
    there = first_there;
    within = first_in;
    least = record {
      reached = part_component b i cells a s c (top_left (get_or cells (get_or labels k 0) h.cell)) k (get_or labels k 0) h first_in least_label.reached;
      least = first_least;
    };
  }

pub first_law : FirstLaw
first_law b s i cells a labels p k c h = beginning b i (sound_wide b s i) cells a labels p k c h
