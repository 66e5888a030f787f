-- The pieces of a task are those of the cells of its kept centres, and the spokes that count.
use Rattle.std.proofs.Common.{◌≡◌, refl, ap, subst, inl, inr, ℕ, get_or, List, [], ◌∷◌, ◌++◌, length}
use Rattle.std.specs.Prelude.{ℤ, ◌↔◌, Bool, true, false}
use Rattle.std.proofs.lemmas.Option.{slice_get_within}
use Rattle.plane.specs.Plane.{Bounds, IsMeeting}
use Rattle.grid_num.specs.declared.Point.{Point}
use Rattle.grid_sets.specs.Points.{HasPoint}
use Rattle.board_language.specs.Board.{Board}
use Rattle.fill_rules.specs.Tasks.{zone_at, layer_at}
use Rattle.fill_rules.specs.Reliefs.{spokes_of}
use Rattle.fill_rules.specs.Fill.{brush_at, IsLive, IsKept, fill_of}
use Rattle.fills.specs.Fills.{IsKeptAt, IsCounted, AreThose, ArePieces}
use Rattle.fills.proofs.Points.{those_hold, held_chosen}
use Rattle.components.specs.Cells.{AreCells, IsAllowedAt, IsInCell, pieces_of}
use Rattle.components.specs.Kept.{AreLive, flagged, IsMet}
use Rattle.components.specs.PieceLaws.{AreKept, KeptCellsLaw, KeptMeetsLaw, CountedLaw, AreCounted, PiecesLaw, CellsFillLaw}
use Rattle.components.proofs.Places.{point_of}
use Rattle.components.proofs.Flagged.{flagged_from, flagged_to, flagged_tight}
use Rattle.components.proofs.Components.{IsWide, sound_wide, cells_tight, allowed_in}
use Rattle.components.proofs.Kept.{cell_kept}
use Rattle.components.proofs.Meets.{pieces_met}

-- ---- kept cells
module _ (b : Board) (i : ℕ) (s : IsWide b i) (cells : List Bounds) (a : AreCells (IsAllowedAt b i) cells) (flags : List Bool) (f : AreKept b i cells flags) where
  -- a centre's cell is flagged where the centre is kept
  flag_kept : (k : ℕ) (c : Point) → IsInCell cells k c → (get_or flags k false ≡ true) ↔ IsKept b (fill_of b) i c
  flag_kept k c h =
      let g = f.kept k (slice_get_within cells k h.cell h.there) in
      let l = cell_kept b i s cells a f.labels f.parts f.live f.are_live k c h in
      (λ e. l.1 (g.0 e), λ t. g.1 (l.0 t))

  kept_points : (x y : ℤ) → HasPoint (flagged flags cells) x y ↔ IsKeptAt b i x y
  kept_points x y = (
    λ h. let n = flagged_from flags cells x y h in (flag_kept n.0 (point_of x y) n.1.at).0 n.1.flag,
    λ t. let m = allowed_in b i cells a (point_of x y) t.allowed in flagged_to flags cells x y m.0 ((flag_kept m.0 (point_of x y) m.1).1 t) m.1,
  )

  kept_met : (o : Bounds) → ((c : Point) × IsKept b (fill_of b) i c × IsMeeting o (brush_at b i c)) ↔ IsMet (pieces_of b i (flagged flags cells)) o
  kept_met o =
      pieces_met b i s (flagged flags cells) (flagged_tight flags cells (cells_tight (IsAllowedAt b i) cells a))
      (IsKept b (fill_of b) i) (λ c. kept_points c.x c.y) o

pub kept_cells : KeptCellsLaw
kept_cells b s i cells a flags f x y = kept_points b i (sound_wide b s i) cells a flags f x y

pub kept_meets : KeptMeetsLaw
kept_meets b s i cells a flags f o = kept_met b i (sound_wide b s i) cells a flags f o

-- ---- chosen ones of a list
those_of_those : (P Q : Bounds → Type 0) (os mid chosen : List Bounds) → AreThose P os mid → AreThose Q mid chosen → AreThose (λ o. P o × Q o) os chosen
those_of_those P Q [] mid chosen h g = subst (λ m. AreThose Q m chosen) h g
those_of_those P Q (o ∷ os) mid chosen (inl (n, h)) g = inl (λ q. n q.0, those_of_those P Q os mid chosen h g)
those_of_those P Q (o ∷ os) mid chosen (inr (p, (rest, e, h))) g = elim (subst (λ m. AreThose Q m chosen) e g) [
  | inl (n, k) ↦ inl (λ q. n q.1, those_of_those P Q os rest chosen h k)
  | inr (q, (more, d, k)) ↦ inr ((p, q), (more, d, those_of_those P Q os rest more h k))
]

those_alike : (P Q : Bounds → Type 0) → ((o : Bounds) → P o ↔ Q o) → (os chosen : List Bounds) → AreThose P os chosen → AreThose Q os chosen
those_alike P Q f [] chosen h = h
those_alike P Q f (o ∷ os) chosen (inl (n, h)) = inl (λ q. n ((f o).1 q), those_alike P Q f os chosen h)
those_alike P Q f (o ∷ os) chosen (inr (p, (rest, e, h))) = inr ((f o).0 p, (rest, e, those_alike P Q f os rest h))

live_all : (b : Board) (i : ℕ) (live : List Bounds) → AreThose (IsLive b (fill_of b) i) (spokes_of b (zone_at b i) (layer_at b i)) live → AreLive b i live
live_all b i live h o = (
  λ m. those_hold (IsLive b (fill_of b) i) (spokes_of b (zone_at b i) (layer_at b i)) live h o m,
  λ l. held_chosen (IsLive b (fill_of b) i) (spokes_of b (zone_at b i) (layer_at b i)) live h o l.spoke l,
)

pub counted : CountedLaw
counted = record {
  live = live_all;
  counted = λ b i kept live chosen h g.
      those_of_those (IsLive b (fill_of b) i) (IsMet (pieces_of b i kept)) (spokes_of b (zone_at b i) (layer_at b i)) live chosen h g;
}

-- ---- the pieces
module _ (b : Board) (i : ℕ) (s : IsWide b i) (cells : List Bounds) (a : AreCells (IsAllowedAt b i) cells) (flags : List Bool) (f : AreKept b i cells flags) where
  is_counted : (o : Bounds) → (IsLive b (fill_of b) i o × IsMet (pieces_of b i (flagged flags cells)) o) ↔ IsCounted b i o
  is_counted o =
      let m = kept_met b i s cells a flags f o in
      (λ h. record { live = h.0; meets = m.1 h.1 }, λ h. (h.live, m.0 h.meets))

  are_pieces : (final counted : List Bounds) → AreCells (HasPoint (flagged flags cells)) final → AreCounted b i (flagged flags cells) counted
      → ArePieces b i (pieces_of b i final ++ counted) (length counted)
  are_pieces final counted h g = record {
    rows = h.rows;
    bands = h.bands;
    counted = counted;
    are_rows = record {
      are = h.are_rows.are;
      same = λ x y. let p = kept_points b i s cells a flags f x y in let q = h.are_rows.same x y in (λ t. p.0 (q.0 t), λ t. q.1 (p.1 t));
    };
    are_bands = h.are_bands;
    are_counted = those_alike (λ o. IsLive b (fill_of b) i o × IsMet (pieces_of b i (flagged flags cells)) o) (IsCounted b i) is_counted
        (spokes_of b (zone_at b i) (layer_at b i)) counted g;
    in_order = ap (λ os. pieces_of b i os ++ counted) h.are;
    last = refl;
  }

pub pieces : PiecesLaw
pieces b s i cells a flags f final counted h g = are_pieces b i (sound_wide b s i) cells a flags f final counted h g

pub fill : CellsFillLaw
fill b s i cells a flags f final counted parts h g p = record { task = refl; pieces = are_pieces b i (sound_wide b s i) cells a flags f final counted h g; parts = p }
