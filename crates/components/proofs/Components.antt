-- The components of allowed centres are the parts of the pieces of their cells.
use Rattle.std.proofs.Common.{sym, subst, ℕ, ◌≤◌, List, arith}
use Rattle.std.specs.Prelude.{◌↔◌, ℤ}
use Rattle.std.specs.List.{All}
use Rattle.plane.specs.Plane.{Bounds, IsTight}
use Rattle.grid_num.specs.declared.Point.{Point}
use Rattle.classes.specs.Classes.{Reaches}
use Rattle.classes.proofs.Reaching.{reaches_map, reaches_keeps}
use Rattle.grid_sets.specs.Points.{HasPoint}
use Rattle.grid_sets.proofs.CellPoints.{cells_points}
use Rattle.grid_sets.proofs.Apart.{cells_tight_law}
use Rattle.islands.specs.Parts.{IsOnePart}
use Rattle.open_laws.specs.Open.{AreFirsts}
use Rattle.open_laws.proofs.Firsts.{firsts}
use Rattle.board_language.specs.Board.{Board}
use Rattle.board_language.specs.Facts.{IsSoundBoard}
use Rattle.fill_rules.specs.Tasks.{zone_at}
use Rattle.fill_rules.specs.Reliefs.{brush_radius}
use Rattle.fill_rules.specs.Fill.{brush_at, IsAllowed, IsLinked, fill_of}
use Rattle.fill_rules.proofs.Sound.{fillable}
use Rattle.fills.proofs.Points.{wide}
use Rattle.components.specs.Cells.{AreCells, IsAllowedAt, IsInCell, pieces_of}
use Rattle.components.specs.Laws.{CentresLaw, ComponentsLaw}
use Rattle.components.proofs.Places.{has_in, in_has}
use Rattle.components.proofs.Linked.{IsJoint, joint_parts, parts_joint}

-- ---- cells of any set
module _ (P : ℤ → ℤ → Type 0) (cells : List Bounds) (a : AreCells P cells) where
  pub cells_tight : All IsTight cells
  cells_tight = subst (All IsTight) (sym a.are) (cells_tight_law a.rows a.bands a.are_rows.are a.are_bands)

  pub cells_first : AreFirsts cells
  cells_first = subst AreFirsts (sym a.are) (firsts a.rows a.bands a.are_rows.are a.are_bands)

  pub cells_have : (x y : ℤ) → HasPoint cells x y ↔ P x y
  cells_have x y =
      let c = cells_points a.rows a.bands x y a.are_bands in
      let s = a.are_rows.same x y in (
        λ h. s.0 (c.1 (subst (λ os. HasPoint os x y) a.are h)),
        λ p. subst (λ os. HasPoint os x y) (sym a.are) (c.0 (s.1 p)),
      )

-- the same cells, whichever way their points are told
pub cells_alike : (P Q : ℤ → ℤ → Type 0) (cells : List Bounds) → ((x y : ℤ) → P x y ↔ Q x y) → AreCells P cells → AreCells Q cells
cells_alike P Q cells f a = record {
  rows = a.rows;
  bands = a.bands;
  are_rows = record {
    are = a.are_rows.are;
    same = λ x y. (λ h. (f x y).0 ((a.are_rows.same x y).0 h), λ q. (a.are_rows.same x y).1 ((f x y).1 q));
  };
  are_bands = a.are_bands;
  are = a.are;
}

-- ---- cells of the allowed centres
-- all that is asked of the board here: its brush is wide enough to leave no gaps between the grid points of a cell
abbrev pub IsWide : Board → ℕ → Type 0
IsWide b i = 10 ≤ brush_radius (zone_at b i)

pub sound_wide : (b : Board) → IsSoundBoard b → (i : ℕ) → IsWide b i
sound_wide b s i = let w = wide b (fillable b s) i in omega (arith, w)

module _ (b : Board) (i : ℕ) (cells : List Bounds) (a : AreCells (IsAllowedAt b i) cells) where
  pub allowed_in : (c : Point) → IsAllowed b (fill_of b) i c → (k : ℕ) × IsInCell cells k c
  allowed_in c h = has_in cells c.x c.y ((cells_have (IsAllowedAt b i) cells a c.x c.y).1 h)

  pub in_allowed : (k : ℕ) (c : Point) → IsInCell cells k c → IsAllowed b (fill_of b) i c
  in_allowed k c h = (cells_have (IsAllowedAt b i) cells a c.x c.y).0 (in_has cells k c h)

  linked_joint : (c d : Point) → IsLinked b (fill_of b) i c d → IsJoint (brush_radius (zone_at b i)) cells c d
  unfolding brush_at
  linked_joint c d l = record {
    first = (cells_have (IsAllowedAt b i) cells a c.x c.y).1 l.first;
    second = (cells_have (IsAllowedAt b i) cells a d.x d.y).1 l.second;
    meet = l.meet;
  }

  joint_linked : (c d : Point) → IsJoint (brush_radius (zone_at b i)) cells c d → IsLinked b (fill_of b) i c d
  unfolding brush_at
  joint_linked c d l = record {
    first = (cells_have (IsAllowedAt b i) cells a c.x c.y).0 l.first;
    second = (cells_have (IsAllowedAt b i) cells a d.x d.y).0 l.second;
    meet = l.meet;
  }

  pub component_part : (c d : Point) (j k : ℕ) → IsInCell cells j c → IsInCell cells k d
      → Reaches (IsLinked b (fill_of b) i) c d → IsOnePart (pieces_of b i cells) j k
  component_part c d j k h g t =
      joint_parts (brush_radius (zone_at b i)) cells c d j k h g
      (reaches_map (IsLinked b (fill_of b) i) (IsJoint (brush_radius (zone_at b i)) cells) linked_joint c d t)

  pub part_component : IsWide b i → (c d : Point) (j k : ℕ) → IsInCell cells j c → IsInCell cells k d
      → IsOnePart (pieces_of b i cells) j k → Reaches (IsLinked b (fill_of b) i) c d
  part_component s c d j k h g t =
      reaches_map (IsJoint (brush_radius (zone_at b i)) cells) (IsLinked b (fill_of b) i) joint_linked c d
      (parts_joint (brush_radius (zone_at b i)) cells s (cells_tight (IsAllowedAt b i) cells a) c d j k h g t)

  -- what is reached from a centre of cell k lies in a cell of the same part
  pub reached_cell : (k : ℕ) (c d : Point) → IsInCell cells k c → Reaches (IsLinked b (fill_of b) i) c d
      → (m : ℕ) × IsInCell cells m d × IsOnePart (pieces_of b i cells) k m
  reached_cell k c d h t =
      let p = reaches_keeps (IsLinked b (fill_of b) i) (IsAllowed b (fill_of b) i) (λ x y l q. l.second) c d t (in_allowed k c h) in
      let m = allowed_in d p in
      (m.0, m.1, component_part c d k m.0 h m.1 t)

pub centres : CentresLaw
centres b s i cells a c = (allowed_in b i cells a c, λ w. in_allowed b i cells a w.0 c w.1)

pub components : ComponentsLaw
components b s i cells a c d j k h g = (component_part b i cells a c d j k h g, part_component b i cells a (sound_wide b s i) c d j k h g)
