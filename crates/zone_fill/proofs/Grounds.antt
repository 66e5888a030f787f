-- The fill of a task, from what the calls gave, over plain lists.
use Rattle.std.proofs.Common.{◌≡◌, ◌∙◌, refl, sym, ap, subst, inl, inr, ℕ, zero, suc, ◌+◌, ◌-◌, ◌*◌, ◌/◌, ◌^◌, ◌<◌, ◌≤◌, arith, List, [], ◌∷◌, ◌++◌, length, map, get_or, take}
use Rattle.std.specs.Prelude.{ℤ, ◌↔◌, Bool, true, false}
use Rattle.std.specs.List.{All}
use Rattle.std.proofs.lemmas.Int.{ints}
use Rattle.std.proofs.lemmas.List.{length-map, length-append, take-map}
use Rattle.std.proofs.Math.Seq.{take-append_seam}
use Rattle.std.proofs.lemmas.List.Elements.{All-nil, All-cons}
use Rattle.plane.specs.Plane.{Bounds, Within, ball_of}
use Rattle.plane.specs.Narrow.{IsNearZero}
use Rattle.classes.specs.Classes.{IsOneOf}
use Rattle.grid_sets.specs.Points.{HasPoint}
use Rattle.hulls.specs.Cells.{around}
use Rattle.slabs.specs.Outside.{IsFrame}
use Rattle.octagon.specs.Room.{IsAround}
use Rattle.outline_slab.specs.Cuts.{IsWithinHalfMetre}
use Rattle.copper_shape.specs.Shapes.{Copper}
use Rattle.copper_shape.specs.declared.edge.Edge.{Edge}
use Rattle.board_language.specs.declared.board.Zone.{Zone}
use Rattle.board_language.specs.declared.board.Area.{Area}
use Rattle.board_language.specs.declared.IslandMode.{IslandMode}
use Rattle.board_language.specs.Board.{Board}
use Rattle.board_language.specs.Facts.{IsSoundBoard}
use Rattle.fill_rules.specs.Tasks.{Task, no_zone, settings_of, task_zone, ranked, task_at, zone_at, layer_at}
use Rattle.fill_rules.specs.Ranking.{IsTask}
use Rattle.fill_rules.specs.Needs.{Need}
use Rattle.fill_rules.specs.Reliefs.{brush_radius, thermal_needs, spokes_of}
use Rattle.fill_rules.specs.Anchors.{anchors_of}
use Rattle.fill_rules.specs.Fill.{IsLive, fill_of}
use Rattle.fill_rules.specs.Made.{Made}
use Rattle.fills.specs.Fills.{brushed, AreThose}
use Rattle.fills.specs.Above.{AreFillsAbove, AreFillsAboveTask}
use Rattle.components.specs.Cells.{AreCells, IsAllowedAt, pieces_of}
use Rattle.components.specs.Kept.{flagged, IsMet}
use Rattle.centres.specs.Walls.{AreWallsOf}
use Rattle.centres.specs.Needs.{LiesIn, frame_at}
use Rattle.centres.specs.Centres.{shrunk, IsBarredAt}
use Rattle.centres.specs.Laws.{IsSpokeSized}
use Rattle.centres.proofs.Frames.{frame_held}
use Rattle.centres.proofs.Spokes.{spoke_law}
use Rattle.knockouts.proofs.Near.{member}
use Rattle.knockouts.specs.Obstacles.{bars_of, needs_of}
use Rattle.knockouts.specs.OfTask.{task_anchors, task_spokes}
use Rattle.knockouts.specs.Gaps.{GapsLaw}
use Rattle.kept_copper.specs.Stays.{AreStaying}
use Rattle.kept_copper.specs.Pieces.{IsFillOfCells}
use Rattle.zone_fill.specs.Inner.Live.{IsFree}
use Rattle.zone_fill.specs.Task.{IsFillOfTask}
use Rattle.zone_fill.specs.Inner.Ground.{IsGround}
use Rattle.zone_fill.proofs.Composing.{limits, allowed_cells, live_are, made_fill}

-- ---- room

all_flagged : (P : Bounds → Type 0) (flags : List Bool) (os : List Bounds) → All P os → All P (flagged flags os)
all_flagged P [] os h = All-nil P
all_flagged P (f ∷ flags) [] h = All-nil P
all_flagged P (true ∷ flags) (o ∷ os) h = All-cons P o (flagged flags os) (h 0 o (omega arith)) (all_flagged P flags os (λ k d l. h (suc k) d (omega (arith, l))))
all_flagged P (false ∷ flags) (o ∷ os) h = all_flagged P flags os (λ k d l. h (suc k) d (omega (arith, l)))

wider : (m n : ℕ) → m ≤ n → (o : Bounds) → IsAround m o → IsAround n o
wider m n l o a = record {
  x_low = omega (arith, ints, l, a);
  x_high = omega (arith, ints, l, a);
  y_low = omega (arith, ints, l, a);
  y_high = omega (arith, ints, l, a);
}

all_wider : (m n : ℕ) → m ≤ n → (os : List Bounds) → All (IsAround m) os → All (IsAround n) os
all_wider m n l os h k d p = wider m n l (get_or os k d) (h k d p)

brushed_room : (m r n : ℕ) → m + r ≤ n → (o : Bounds) → IsAround m o → IsAround n (brushed r o)
unfolding ball_of
brushed_room m r n l o a = record {
  x_low = omega (arith, ints, l, a);
  x_high = omega (arith, ints, l, a);
  y_low = omega (arith, ints, l, a);
  y_high = omega (arith, ints, l, a);
}

all_brushed : (m r n : ℕ) → m + r ≤ n → (os : List Bounds) → All (IsAround m) os → All (IsAround n) (map (brushed r) os)
all_brushed m r n l [] h = All-nil (IsAround n)
all_brushed m r n l (o ∷ os) h = All-cons (IsAround n) (brushed r o) (map (brushed r) os) (brushed_room m r n l o (h 0 o (omega arith))) (all_brushed m r n l os (λ k d p. h (suc k) d (omega (arith, p))))

points_near : (m : ℕ) (os : List Bounds) → All (IsAround m) os → (x y : ℤ) → HasPoint os x y → IsNearZero m x × IsNearZero m y
points_near m [] h x y p = absurd p
points_near m (o ∷ os) h x y (inl w) =
    let a = h 0 o (omega arith) in (record { low = omega (arith, ints, a, w); high = omega (arith, ints, a, w) }, record { low = omega (arith, ints, a, w); high = omega (arith, ints, a, w) })
points_near m (o ∷ os) h x y (inr p) = points_near m os (λ k d l. h (suc k) d (omega (arith, l))) x y p

shrunk_near : (m : ℕ) (f : Bounds) (r : ℕ) → IsAround m f → (x y : ℤ) → Within (shrunk f r) x y → IsNearZero m x × IsNearZero m y
shrunk_near m f r a x y w =
    (record { low = omega (arith, ints, a, w); high = omega (arith, ints, a, w) }, record { low = omega (arith, ints, a, w); high = omega (arith, ints, a, w) })

pub frame_near : (m : ℕ) → 250000000 ≤ m → (f : Bounds) → IsWithinHalfMetre f → IsAround m f
frame_near m l f h = record {
  x_low = omega (arith, ints, l, h);
  x_high = omega (arith, ints, l, h);
  y_low = omega (arith, ints, l, h);
  y_high = omega (arith, ints, l, h);
}

-- ---- the task, and its brush

pub task_radius : (b : Board) (t : Task) → IsSoundBoard b → IsTask b t → (z : Zone) → z ≡ task_zone b t → (r : ℕ) → r ≡ brush_radius (settings_of z) → r ≤ 25000001
unfolding task_zone
task_radius b t s h z e r is =
    let thin : z.thickness ≤ 100000000 = subst (λ (y : Zone). y.thickness ≤ 100000000) (sym e) (s.zones t.zone no_zone h.zone).thin in
    omega (arith, thin, is)

pub ground_radius : (b : Board) (t : Task) (r : ℕ) (cells blots live : List Bounds) → IsSoundBoard b → IsTask b t → IsGround b t r cells blots live → r ≤ 25000001
unfolding zone_at
ground_radius b t r cells blots live s h g = task_radius b t s h (task_zone b (task_at b g.rank)) (ap (task_zone b) g.task) r g.brush

-- ---- what bars, and what is joined by spokes

front_of : {A : Type 0} (xs ys : List A) (n : ℕ) → n ≡ length xs → take n (xs ++ ys) ≡ xs
front_of xs ys n e = subst (λ (k : ℕ). take k (xs ++ ys) ≡ xs) (sym e) (take-append_seam xs ys)

count_of_needs : (b : Board) (t : Task) (above : List Made) → length (needs_of b t above) ≡ length (bars_of b t above) + length (thermal_needs b (settings_of (task_zone b t)) t.layer)
unfolding needs_of
count_of_needs b t above = length-append (bars_of b t above) (thermal_needs b (settings_of (task_zone b t)) t.layer)

quarter : (n : ℕ) → 4 * n / 4 ≡ n
quarter n = omega arith

-- a quarter of the spokes are as many as the gaps
gap_count : (b : Board) (t : Task) (above : List Made) {X : Type 0} (f : X → Need) (ns : List X) (spokes : List Bounds) → GapsLaw → map f ns ≡ needs_of b t above → spokes ≡ task_spokes b t
    → length spokes / 4 + length (bars_of b t above) ≡ length ns
gap_count b t above f ns spokes gaps e is =
    let four : length spokes ≡ 4 * length (thermal_needs b (settings_of (task_zone b t)) t.layer) = ap length is ∙ gaps b (settings_of (task_zone b t)) t.layer in
    let all : length ns ≡ length (bars_of b t above) + length (thermal_needs b (settings_of (task_zone b t)) t.layer) = sym (length-map ns f) ∙ ap length e ∙ count_of_needs b t above in
    omega (arith, four, all)

pub gaps_within : (b : Board) (t : Task) (above : List Made) {X : Type 0} (f : X → Need) (ns : List X) (spokes : List Bounds) (n s : ℕ) → GapsLaw → map f ns ≡ needs_of b t above
    → spokes ≡ task_spokes b t → n ≡ length ns → s ≡ length spokes → s / 4 ≤ n
gaps_within b t above f ns spokes n s gaps e is en es = let c = gap_count b t above f ns spokes gaps e is in omega (arith, c, en, es)

-- those before the gaps
pub bars_are : (b : Board) (t : Task) (above : List Made) {X : Type 0} (f : X → Need) (ns : List X) (spokes : List Bounds) (n s : ℕ) → GapsLaw → map f ns ≡ needs_of b t above
    → spokes ≡ task_spokes b t → n ≡ length ns → s ≡ length spokes → map f (take (n - s / 4) ns) ≡ bars_of b t above
unfolding needs_of
bars_are b t above f ns spokes n s gaps e is en es =
    let c = gap_count b t above f ns spokes gaps e is in
    sym (take-map f (n - s / 4) ns) ∙ ap (take (n - s / 4)) e ∙ front_of (bars_of b t above) _ (n - s / 4) (omega (arith, c, en, es))

pub bars_range : (P : Need → Type 0) {X : Type 0} (f : X → Need) (k : ℕ) (ns : List X) → All P (map f ns) → All P (map f (take k ns))
bars_range P f zero ns h = All-nil P
bars_range P f (suc k) [] h = All-nil P
bars_range P f (suc k) (n ∷ ns) h = All-cons P (f n) (map f (take k ns)) (h 0 (f n) (omega arith)) (bars_range P f k ns (λ i d l. h (suc i) d (omega (arith, l))))

-- ---- the ground

ground_at : (b : Board) (i : ℕ) (above : List Made) (z : Zone) (wide frame : Bounds) (walls spokes rows cells blots live : List Bounds) (needs bars : List Need) (r : ℕ)
    → IsSoundBoard b → i < length (ranked b) → AreFillsAbove b i above → z ≡ task_zone b (task_at b i)
    → 0 < length z.outline → IsFrame z.outline wide → AreWallsOf z.outline (layer_at b i) b.areas wide walls
    → frame ≡ around z.outline → IsAround 250000000 frame → r ≡ brush_radius (settings_of z)
    → needs ≡ needs_of b (task_at b i) above → bars ≡ bars_of b (task_at b i) above → spokes ≡ task_spokes b (task_at b i)
    → ((x y : ℤ) → HasPoint rows x y ↔ (Within (shrunk frame r) x y × (IsBarredAt r walls needs x y → ⊥)))
    → AreCells (HasPoint rows) cells → ((m : ℕ) → ((x y : ℤ) → HasPoint rows x y → IsNearZero m x × IsNearZero m y) → All (IsAround m) cells)
    → blots ≡ map (brushed r) cells → AreThose (λ o. IsFree frame walls bars o × IsMet blots o) spokes live
    → IsGround b (task_at b i) r cells blots live
unfolding zone_at needs_of
ground_at b i above z wide frame walls spokes rows cells blots live needs bars r s within up ez corners fw w ef nf er en eb es h a reach bl those =
    let own : settings_of z ≡ zone_at b i = ap settings_of ez in
    let walled = subst (λ (y : Zone). AreWallsOf y.outline (layer_at b i) b.areas wide walls) ez w in
    let framed : LiesIn (frame_at b i) wide = subst (λ (y : Zone). LiesIn (around y.outline) wide) ez (frame_held z.outline wide corners fw) in
    let lim = limits b i above s up wide walls walled framed in
    let rad : r ≡ brush_radius (zone_at b i) = er ∙ ap brush_radius own in
    let fr : frame ≡ frame_at b i = ef ∙ ap (λ (y : Zone). around y.outline) ez in
    let allowed : (x y : ℤ) → HasPoint rows x y ↔ (Within (shrunk (frame_at b i) (brush_radius (zone_at b i))) x y
    × (IsBarredAt (brush_radius (zone_at b i)) walls (bars_of b (task_at b i) above ++ thermal_needs b (zone_at b i) (layer_at b i)) x y → ⊥)) =
    λ x y. subst (λ ns. HasPoint rows x y ↔ (Within (shrunk (frame_at b i) (brush_radius (zone_at b i))) x y × (IsBarredAt (brush_radius (zone_at b i)) walls ns x y → ⊥))) en
    (subst (λ (k : ℕ). HasPoint rows x y ↔ (Within (shrunk (frame_at b i) k) x y × (IsBarredAt k walls needs x y → ⊥))) rad
    (subst (λ f. HasPoint rows x y ↔ (Within (shrunk f r) x y × (IsBarredAt r walls needs x y → ⊥))) fr (h x y))) in
    let cellled = allowed_cells b i wide walls (bars_of b (task_at b i) above) rows cells lim allowed a in
    let blotted = bl ∙ ap (λ (k : ℕ). map (brushed k) cells) rad in
    let lives : AreThose (λ o. IsFree (frame_at b i) walls (bars_of b (task_at b i) above) o × IsMet (map (brushed (brush_radius (zone_at b i))) cells) o)
    (spokes_of b (zone_at b i) (layer_at b i)) live =
    subst (λ ss. AreThose (λ o. IsFree (frame_at b i) walls (bars_of b (task_at b i) above) o × IsMet (map (brushed (brush_radius (zone_at b i))) cells) o) ss live) es
    (subst (λ bs. AreThose (λ o. IsFree (frame_at b i) walls (bars_of b (task_at b i) above) o × IsMet bs o) spokes live) blotted
    (subst (λ ns. AreThose (λ o. IsFree (frame_at b i) walls ns o × IsMet blots o) spokes live) eb
    (subst (λ f. AreThose (λ o. IsFree f walls bars o × IsMet blots o) spokes live) fr those))) in
    record {
      rank = i;
      within = within;
      task = refl;
      brush = rad;
      are_cells = cellled;
      near = reach 250000000 (λ x y p. shrunk_near 250000000 frame r nf x y ((h x y).0 p).0);
      are_blots = blotted;
      are_live = live_are b i wide walls (bars_of b (task_at b i) above) cells live lim cellled lives;
    }

pub ground : (b : Board) (t : Task) (above : List Made) (z : Zone) (wide frame : Bounds) (areas : List Area) (walls spokes rows cells blots live : List Bounds) (needs bars : List Need) (r : ℕ)
    → IsSoundBoard b → AreFillsAboveTask b t above → z ≡ task_zone b t → areas ≡ b.areas
    → 0 < length z.outline → IsFrame z.outline wide → AreWallsOf z.outline t.layer areas wide walls
    → frame ≡ around z.outline → IsAround 250000000 frame → r ≡ brush_radius (settings_of z)
    → needs ≡ needs_of b t above → bars ≡ bars_of b t above → spokes ≡ task_spokes b t
    → ((x y : ℤ) → HasPoint rows x y ↔ (Within (shrunk frame r) x y × (IsBarredAt r walls needs x y → ⊥)))
    → AreCells (HasPoint rows) cells → ((m : ℕ) → ((x y : ℤ) → HasPoint rows x y → IsNearZero m x × IsNearZero m y) → All (IsAround m) cells)
    → blots ≡ map (brushed r) cells → AreThose (λ o. IsFree frame walls bars o × IsMet blots o) spokes live
    → IsGround b t r cells blots live
ground b t above z wide frame areas walls spokes rows cells blots live needs bars r s up ez ea corners fw w ef nf er en eb es h a reach bl those =
    subst (λ (u : Task). z ≡ task_zone b u → AreWallsOf z.outline u.layer b.areas wide walls → needs ≡ needs_of b u above → bars ≡ bars_of b u above → spokes ≡ task_spokes b u
    → IsGround b u r cells blots live) up.task
    (λ ez2 w2 en2 eb2 es2. ground_at b up.rank above z wide frame walls spokes rows cells blots live needs bars r s up.within up.above ez2 corners fw w2 ef nf er en2 eb2 es2 h a reach bl those)
    ez (subst (λ (us : List Area). AreWallsOf z.outline t.layer us wide walls) ea w) en eb es

-- ---- the fill

made_at : (b : Board) (i : ℕ) (r : ℕ) (edges : List Edge) (anchors : List Copper) (islands : IslandMode) (cells blots live kept grown counted : List Bounds) (flags : List Bool) (f : Made)
    → IsSoundBoard b → i < length (ranked b) → r ≡ brush_radius (zone_at b i) → AreCells (IsAllowedAt b i) cells → blots ≡ pieces_of b i cells
    → AreThose (IsLive b (fill_of b) i) (spokes_of b (zone_at b i) (layer_at b i)) live
    → edges ≡ b.edges → anchors ≡ anchors_of b (zone_at b i) (layer_at b i) → islands ≡ (zone_at b i).islands
    → AreStaying edges anchors live islands cells blots flags → kept ≡ flagged flags cells → grown ≡ map (brushed r) kept → AreThose (IsMet grown) live counted
    → IsFillOfCells (task_at b i) kept counted r f → IsFillOfTask b (task_at b i) f
made_at b i r edges anchors islands cells blots live kept grown counted flags f s within er a bl lives ee ea ei st ek eg th w =
    let st1 : AreStaying b.edges (anchors_of b (zone_at b i) (layer_at b i)) live (zone_at b i).islands cells (pieces_of b i cells) flags =
    subst (λ (es : List Edge). AreStaying es (anchors_of b (zone_at b i) (layer_at b i)) live (zone_at b i).islands cells (pieces_of b i cells) flags) ee
    (subst (λ (cs : List Copper). AreStaying edges cs live (zone_at b i).islands cells (pieces_of b i cells) flags) ea
    (subst (λ (m : IslandMode). AreStaying edges anchors live m cells (pieces_of b i cells) flags) ei
    (subst (λ (bs : List Bounds). AreStaying edges anchors live islands cells bs flags) bl st))) in
    let g1 : grown ≡ pieces_of b i (flagged flags cells) = eg ∙ ap (map (brushed r)) ek ∙ ap (λ (k : ℕ). map (brushed k) (flagged flags cells)) er in
    let th1 = subst (λ (gs : List Bounds). AreThose (IsMet gs) live counted) g1 th in
    let w1 = subst (λ (ks : List Bounds). IsFillOfCells (task_at b i) ks counted (brush_radius (zone_at b i)) f) ek (subst (λ (k : ℕ). IsFillOfCells (task_at b i) kept counted k f) er w) in
    record { rank = i; within = within; task = refl; fill = made_fill b i cells live counted flags f s a lives st1 th1 w1 }

pub made : (b : Board) (t : Task) (r : ℕ) (edges : List Edge) (anchors : List Copper) (z : Zone) (cells blots live kept grown counted : List Bounds) (flags : List Bool) (f : Made)
    → IsSoundBoard b → IsGround b t r cells blots live → edges ≡ b.edges → anchors ≡ task_anchors b t → z ≡ task_zone b t
    → AreStaying edges anchors live z.islands cells blots flags → kept ≡ flagged flags cells → grown ≡ map (brushed r) kept → AreThose (IsMet grown) live counted
    → IsFillOfCells t kept counted r f → IsFillOfTask b t f
unfolding zone_at
made b t r edges anchors z cells blots live kept grown counted flags f s g ee ea ez st ek eg th w =
    subst (λ (u : Task). anchors ≡ task_anchors b u → z ≡ task_zone b u → IsFillOfCells u kept counted r f → IsFillOfTask b u f) g.task
    (λ ea2 ez2 w2. made_at b g.rank r edges anchors z.islands cells blots live kept grown counted flags f s g.within g.brush g.are_cells g.are_blots g.are_live ee ea2 (ap (λ (y : Zone). y.islands) ez2) st ek eg th w2)
    ea ez w

-- ---- what the calls ask

pub spokes_wide : (b : Board) (t : Task) (above : List Made) (spokes : List Bounds) → IsSoundBoard b → AreFillsAboveTask b t above → spokes ≡ task_spokes b t → All IsSpokeSized spokes
unfolding zone_at
spokes_wide b t above spokes s up e k d l =
    let one : IsOneOf (get_or spokes k d) (task_spokes b t) = subst (λ (os : List Bounds). IsOneOf (get_or spokes k d) os) e (member spokes k d l) in
    spoke_law b up.rank (get_or spokes k d) s (subst (λ (u : Task). IsOneOf (get_or spokes k d) (task_spokes b u)) (sym up.task) one)

pub cells_room : (frame : Bounds) (r : ℕ) (rows cells : List Bounds) (bar : ℤ → ℤ → Type 0) → IsWithinHalfMetre frame → ((x y : ℤ) → HasPoint rows x y ↔ (Within (shrunk frame r) x y × bar x y))
    → ((m : ℕ) → ((x y : ℤ) → HasPoint rows x y → IsNearZero m x × IsNearZero m y) → All (IsAround m) cells) → All (IsAround (2 ^ 31)) cells
cells_room frame r rows cells bar n h reach =
    all_wider 250000000 (2 ^ 31) (omega arith) cells
    (reach 250000000 (λ x y p. shrunk_near 250000000 frame r (frame_near 250000000 (omega arith) frame n) x y ((h x y).0 p).0))

pub blots_room : (b : Board) (t : Task) (r : ℕ) (cells blots live : List Bounds) → IsSoundBoard b → IsTask b t → IsGround b t r cells blots live → All (IsAround 300000000) blots
blots_room b t r cells blots live s h g =
    let most = ground_radius b t r cells blots live s h g in
    subst (All (IsAround 300000000)) (sym (g.are_blots ∙ ap (λ (k : ℕ). map (brushed k) cells) (sym g.brush))) (all_brushed 250000000 r 300000000 (omega (arith, most)) cells g.near)

pub blots_count : (b : Board) (t : Task) (r : ℕ) (cells blots live : List Bounds) → IsGround b t r cells blots live → length blots ≡ length cells
blots_count b t r cells blots live g = ap length g.are_blots ∙ length-map cells (brushed (brush_radius (zone_at b g.rank)))

pub kept_room : (b : Board) (t : Task) (r : ℕ) (cells blots live kept : List Bounds) (flags : List Bool) → IsGround b t r cells blots live → kept ≡ flagged flags cells → All (IsAround (2 ^ 31)) kept
kept_room b t r cells blots live kept flags g e =
    subst (All (IsAround (2 ^ 31))) (sym e) (all_wider 250000000 (2 ^ 31) (omega arith) (flagged flags cells) (all_flagged (IsAround 250000000) flags cells g.near))

pub kept_near : (b : Board) (t : Task) (r : ℕ) (cells blots live kept : List Bounds) (flags : List Bool) → IsGround b t r cells blots live → kept ≡ flagged flags cells
    → (x y : ℤ) → HasPoint kept x y → IsNearZero (2 ^ 31) x × IsNearZero (2 ^ 31) y
kept_near b t r cells blots live kept flags g e = points_near (2 ^ 31) kept (kept_room b t r cells blots live kept flags g e)
