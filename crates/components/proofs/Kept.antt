-- Centres are kept where their cells are.
use Rattle.std.proofs.Common.{◌≡◌, refl, subst, inl, inr, ℕ, get_or, List, arith}
use Rattle.std.specs.Prelude.{ℤ, ◌↔◌, ◌⊎◌, ◌≤ℤ◌, ◌<ℤ◌}
use Rattle.std.proofs.lemmas.Int.{ints}
use Rattle.plane.specs.Plane.{Bounds}
use Rattle.grid_num.specs.declared.Point.{Point}
use Rattle.classes.proofs.Reaching.{least_one}
use Rattle.grid_sets.specs.Points.{HasPoint}
use Rattle.open_laws.specs.Open.{top_left, IsBefore}
use Rattle.islands.specs.Parts.{AreParts}
use Rattle.islands.specs.Held.{IsHeld}
use Rattle.islands.specs.Inside.{IsWithinEdges}
use Rattle.board_language.specs.declared.IslandMode.{IslandMode}
use Rattle.board_language.specs.declared.IslandMode.TheVariants.{Remove, Keep, Below}
use Rattle.board_language.specs.Board.{Board}
use Rattle.fill_rules.specs.Tasks.{zone_at, layer_at}
use Rattle.fill_rules.specs.Anchors.{anchors_of}
use Rattle.fill_rules.specs.Fill.{Fills, IsLinked, IsAnchored, IsIslandPoint, IsSpared, IsKept, fill_of}
use Rattle.fill_rules.proofs.Spared.{count_alike}
use Rattle.components.specs.Cells.{AreCells, IsAllowedAt, IsInCell, pieces_of}
use Rattle.components.specs.Kept.{AreLive, with_label, IsSparedPart, IsKeptCell}
use Rattle.components.specs.Laws.{IsBeginning, CentreKeptLaw}
use Rattle.components.proofs.Places.{one_at}
use Rattle.components.proofs.Components.{IsWide, sound_wide, in_allowed}
use Rattle.components.proofs.First.{beginning}
use Rattle.components.proofs.Anchored.{part_held}
use Rattle.components.proofs.Size.{part_point}

-- the order of grid points has one least
same_x : (x y u v : ℤ) → (y <ℤ v) ⊎ ((y ≡ v) × (x ≤ℤ u)) → (v <ℤ y) ⊎ ((v ≡ y) × (u ≤ℤ x)) → x ≡ u
same_x x y u v h k = omega (arith, ints, h, k)

same_y : (x y u v : ℤ) → (y <ℤ v) ⊎ ((y ≡ v) × (x ≤ℤ u)) → (v <ℤ y) ⊎ ((v ≡ y) × (u ≤ℤ x)) → y ≡ v
same_y x y u v h k = omega (arith, ints, h, k)

same_point : (c d : Point) → c.x ≡ d.x → c.y ≡ d.y → c ≡ d
same_point c d e f = subst (λ (x : ℤ). c ≡ record { x = x; y = d.y }) e (subst (λ (y : ℤ). c ≡ record { x = c.x; y = y }) f refl)

before_one : (c d : Point) → IsBefore c d → IsBefore d c → c ≡ d
before_one c d h k = same_point c d (same_x c.x c.y d.x d.y h k) (same_y c.x c.y d.x d.y h k)

-- ---- modes
spared_part : (b : Board) (above : Fills) (i : ℕ) (c : Point) (os : List Bounds) (mode : IslandMode)
    → ((x y : ℤ) → IsIslandPoint b above i c x y ↔ HasPoint os x y) → IsSpared b above i c mode → IsSparedPart os mode
spared_part b above i c os Remove f h = h
spared_part b above i c os Keep f h = h
spared_part b above i c os (Below area) f h = (h.points, count_alike (IsIslandPoint b above i c) (HasPoint os) h.points f h.count, h.enough)

part_spared : (b : Board) (above : Fills) (i : ℕ) (c : Point) (os : List Bounds) (mode : IslandMode)
    → ((x y : ℤ) → IsIslandPoint b above i c x y ↔ HasPoint os x y) → IsSparedPart os mode → IsSpared b above i c mode
part_spared b above i c os Remove f h = h
part_spared b above i c os Keep f h = h
part_spared b above i c os (Below area) f (n, q, e) = record {
  points = n;
  count = count_alike (HasPoint os) (IsIslandPoint b above i c) n (λ x y. ((f x y).1, (f x y).0)) q;
  enough = e;
}

module _ (b : Board) (i : ℕ) (s : IsWide b i) (cells : List Bounds) (a : AreCells (IsAllowedAt b i) cells) (labels : List ℕ)
    (p : AreParts (pieces_of b i cells) labels) (live : List Bounds) (l : AreLive b i live) (k : ℕ) (c : Point) (h : IsInCell cells k c) where
  begins : IsBeginning b i cells (get_or labels k 0) c
  begins = beginning b i s cells a labels p k c h

  stays_to : IsAnchored b (fill_of b) i c ⊎ IsSpared b (fill_of b) i c (zone_at b i).islands
      → IsHeld (pieces_of b i cells) (anchors_of b (zone_at b i) (layer_at b i)) live k
      ⊎ IsSparedPart (with_label labels (get_or labels k 0) (pieces_of b i cells)) (zone_at b i).islands
  stays_to (inl t) = inl ((part_held b i s cells a live l k c h).0 t)
  stays_to (inr t) = inr (spared_part b (fill_of b) i c (with_label labels (get_or labels k 0) (pieces_of b i cells)) (zone_at b i).islands (part_point b i s cells a labels p k c h) t)

  to_stays : IsHeld (pieces_of b i cells) (anchors_of b (zone_at b i) (layer_at b i)) live k
      ⊎ IsSparedPart (with_label labels (get_or labels k 0) (pieces_of b i cells)) (zone_at b i).islands
      → IsAnchored b (fill_of b) i c ⊎ IsSpared b (fill_of b) i c (zone_at b i).islands
  to_stays (inl t) = inl ((part_held b i s cells a live l k c h).1 t)
  to_stays (inr t) = inr (part_spared b (fill_of b) i c (with_label labels (get_or labels k 0) (pieces_of b i cells)) (zone_at b i).islands (part_point b i s cells a labels p k c h) t)

  kept_to : IsKept b (fill_of b) i c → IsKeptCell b i cells labels live k
  kept_to t =
      let g = begins in
      record {
        first = g.first;
        there = g.there;
        inside = subst (IsWithinEdges b.edges) (least_one (IsLinked b (fill_of b) i) IsBefore before_one c t.first (top_left g.first) t.is_first g.least) t.inside;
        stays = stays_to t.stays;
      }

  to_kept : IsKeptCell b i cells labels live k → IsKept b (fill_of b) i c
  to_kept t =
      let g = begins in
      record {
        allowed = in_allowed b i cells a k c h;
        first = top_left g.first;
        is_first = g.least;
        inside = subst (λ u. IsWithinEdges b.edges (top_left u)) (one_at cells (get_or labels k 0) t.first g.first t.there g.there) t.inside;
        stays = to_stays t.stays;
      }

  pub cell_kept : IsKept b (fill_of b) i c ↔ IsKeptCell b i cells labels live k
  cell_kept = (kept_to, to_kept)

pub kept : CentreKeptLaw
kept b s i cells a labels p live l k c h = cell_kept b i (sound_wide b s i) cells a labels p live l k c h
