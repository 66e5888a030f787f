-- From what the calls give to the fill of a task.
use Rattle.std.proofs.Common.{refl, inl, inr, ℕ, List, [], ◌∷◌, ◌++◌}
use Rattle.std.specs.Prelude.{ℤ, ◌↔◌, Bool, flat_map}
use Rattle.std.specs.List.{All}
use Rattle.std.proofs.lemmas.List.Elements.{All-nil, All-cons, All-append}
use Rattle.plane.specs.Plane.{Bounds, Within, IsTight}
use Rattle.classes.specs.Classes.{IsOneOf}
use Rattle.grid_sets.specs.Points.{HasPoint}
use Rattle.board_language.specs.Board.{Board}
use Rattle.board_language.specs.Facts.{IsSoundBoard}
use Rattle.fill_rules.specs.Tasks.{Settings, task_at, zone_at, layer_at, settings_of, task_zone}
use Rattle.fill_rules.specs.Needs.{Need}
use Rattle.fill_rules.specs.Reliefs.{brush_radius, thermal_needs, spokes_of}
use Rattle.fill_rules.specs.Anchors.{anchors_of}
use Rattle.fill_rules.specs.Fill.{IsLive, fill_of}
use Rattle.fill_rules.specs.Made.{Made}
use Rattle.fill_rules.proofs.Sound.{fillable}
use Rattle.fills.specs.Fills.{IsFillOf, AreThose}
use Rattle.fills.specs.Above.{AreFillsOfTasks, AreFillsAbove}
use Rattle.components.specs.Cells.{AreCells, IsAllowedAt, pieces_of}
use Rattle.components.specs.Kept.{flagged, IsMet}
use Rattle.components.specs.PieceLaws.{AreKept, AreCounted}
use Rattle.components.proofs.Meets.{meets}
use Rattle.components.proofs.Pieces.{counted as counted_law, pieces as pieces_law}
use Rattle.centres.specs.Walls.{AreWalls}
use Rattle.centres.specs.Needs.{IsRealNeed, LiesIn, frame_at}
use Rattle.centres.specs.Centres.{shrunk, IsBarredAt, AreLimits}
use Rattle.centres.proofs.Clear.{clear_by_law}
use Rattle.centres.proofs.Real.{real_needs_law}
use Rattle.centres.proofs.Allowed.{allowed_law}
use Rattle.centres.proofs.Spokes.{live_law}
use Rattle.knockouts.specs.Obstacles.{fill_needs, bars_of}
use Rattle.knockouts.proofs.Clearing.{clear_law}
use Rattle.knockouts.proofs.PieceRange.{pieces_tight}
use Rattle.kept_copper.specs.Stays.{AreStaying}
use Rattle.kept_copper.specs.Pieces.{IsFillOfCells}
use Rattle.zone_fill.specs.Inner.Live.{IsFree}

-- ---- limits
one_all : {A : Type 0} (P : A → Type 0) (xs : List A) → ((x : A) → IsOneOf x xs → P x) → All P xs
unfolding IsOneOf
one_all P [] f = All-nil P
one_all P (x ∷ xs) f = All-cons P x xs (f x (inl refl)) (one_all P xs (λ y i. f y (inr i)))

fills_real : (b : Board) (z : Settings) → IsSoundBoard b → (js : List ℕ) (fs : List Made) → AreFillsOfTasks b js fs → All IsRealNeed (flat_map (fill_needs b z) fs)
fills_real b z s [] [] h = All-nil IsRealNeed
fills_real b z s [] (f ∷ fs) h = absurd h
fills_real b z s (j ∷ js) [] h = absurd h
fills_real b z s (j ∷ js) (f ∷ fs) h =
    All-append IsRealNeed (fill_needs b z f) (flat_map (fill_needs b z) fs)
    (real_needs_law.fills b (settings_of (task_zone b f.task)) z f.pieces s (one_all IsTight f.pieces (λ o i. pieces_tight b (fillable b s) j f.pieces f.spokes h.0.pieces o i)))
    (fills_real b z s js fs h.1)

real_bars : (b : Board) (i : ℕ) (above : List Made) → IsSoundBoard b → AreFillsAbove b i above → All IsRealNeed (bars_of b (task_at b i) above)
unfolding bars_of
real_bars b i above s up =
    let z = settings_of (task_zone b (task_at b i)) in
    All-append IsRealNeed _ _ (real_needs_law.items b z (layer_at b i) s) (fills_real b z s up.tasks above up.each)

pub limits : (b : Board) (i : ℕ) (above : List Made) → IsSoundBoard b → AreFillsAbove b i above → (wide : Bounds) (walls : List Bounds) → AreWalls b i wide walls
    → LiesIn (frame_at b i) wide → AreLimits b i wide walls (bars_of b (task_at b i) above)
limits b i above s up wide walls w f = record {
  sound = s;
  walled = w;
  framed = f;
  clear = clear_by_law b i (bars_of b (task_at b i) above) (λ o l. clear_law b i above o s up l);
  real = real_bars b i above s up;
}

-- ---- centres
cells_same : (P Q : ℤ → ℤ → Type 0) (cells : List Bounds) → ((x y : ℤ) → P x y ↔ Q x y) → AreCells P cells → AreCells Q cells
cells_same P Q cells f a = record {
  rows = a.rows;
  bands = a.bands;
  are_rows = record { are = a.are_rows.are; same = λ x y. (λ h. (f x y).0 ((a.are_rows.same x y).0 h), λ q. (a.are_rows.same x y).1 ((f x y).1 q)) };
  are_bands = a.are_bands;
  are = a.are;
}

pub allowed_cells : (b : Board) (i : ℕ) (wide : Bounds) (walls : List Bounds) (bars : List Need) (rows cells : List Bounds) → AreLimits b i wide walls bars
    → ((x y : ℤ) → HasPoint rows x y
    ↔ (Within (shrunk (frame_at b i) (brush_radius (zone_at b i))) x y × (IsBarredAt (brush_radius (zone_at b i)) walls (bars ++ thermal_needs b (zone_at b i) (layer_at b i)) x y → ⊥)))
    → AreCells (HasPoint rows) cells → AreCells (IsAllowedAt b i) cells
allowed_cells b i wide walls bars rows cells l f a =
    cells_same (HasPoint rows) (IsAllowedAt b i) cells
    (λ x y. let k = allowed_law b i wide walls bars (record { x = x; y = y }) l in (λ h. k.1 ((f x y).0 h), λ h. (f x y).1 (k.0 h))) a

-- ---- spokes
those_alike : (P Q : Bounds → Type 0) (xs ys : List Bounds) → ((o : Bounds) → IsOneOf o xs → P o ↔ Q o) → AreThose P xs ys → AreThose Q xs ys
unfolding IsOneOf
those_alike P Q [] ys f a = a
those_alike P Q (x ∷ xs) ys f (inl a) = inl (λ q. a.0 ((f x (inl refl)).1 q), those_alike P Q xs ys (λ o i. f o (inr i)) a.1)
those_alike P Q (x ∷ xs) ys f (inr a) = inr ((f x (inl refl)).0 a.0, (a.1.0, a.1.1, those_alike P Q xs a.1.0 (λ o i. f o (inr i)) a.1.2))

pub live_are : (b : Board) (i : ℕ) (wide : Bounds) (walls : List Bounds) (bars : List Need) (cells live : List Bounds) → AreLimits b i wide walls bars
    → AreCells (IsAllowedAt b i) cells
    → AreThose (λ o. IsFree (frame_at b i) walls bars o × IsMet (pieces_of b i cells) o) (spokes_of b (zone_at b i) (layer_at b i)) live
    → AreThose (IsLive b (fill_of b) i) (spokes_of b (zone_at b i) (layer_at b i)) live
live_are b i wide walls bars cells live l a h =
    those_alike (λ o. IsFree (frame_at b i) walls bars o × IsMet (pieces_of b i cells) o) (IsLive b (fill_of b) i) (spokes_of b (zone_at b i) (layer_at b i)) live
    (λ o k.
    (let law = live_law b i wide walls bars o l k in
    let met = meets b l.sound i cells a o in (
      λ h. let p = law.1 h.0 in record { spoke = k; fits = p.0; clear = p.1; meets = met.1 h.1 },
      λ v. (law.0 (v.fits, v.clear), met.0 v.meets),
    ))) h

-- ---- the fill
pub made_fill : (b : Board) (i : ℕ) (cells live counted : List Bounds) (flags : List Bool) (f : Made) → IsSoundBoard b → AreCells (IsAllowedAt b i) cells
    → AreThose (IsLive b (fill_of b) i) (spokes_of b (zone_at b i) (layer_at b i)) live
    → AreStaying b.edges (anchors_of b (zone_at b i) (layer_at b i)) live (zone_at b i).islands cells (pieces_of b i cells) flags
    → AreThose (IsMet (pieces_of b i (flagged flags cells))) live counted
    → IsFillOfCells (task_at b i) (flagged flags cells) counted (brush_radius (zone_at b i)) f
    → IsFillOf b i f
made_fill b i cells live counted flags f s a l st m w =
    let kept : AreKept b i cells flags = record { labels = st.labels; parts = st.parts; live = live; are_live = counted_law.live b i live l; kept = st.each } in
    let chosen : AreCounted b i (flagged flags cells) counted = counted_law.counted b i (flagged flags cells) live counted l m in
    record {
      task = w.task;
      pieces = rw (w.pieces, w.spokes) (pieces_law b s i cells a flags kept w.cells counted w.are_cells chosen);
      parts = w.parts;
    }
