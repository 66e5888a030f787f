-- Equal settings, kept centres and live spokes make equal pieces.
use Rattle.std.proofs.Common.{◌≡◌, refl, sym, ◌∙◌, ap, subst, ℕ, zero, suc, ◌<◌, inl, inr, arith, List, [], ◌∷◌, ◌++◌, length, get_or}
use Rattle.std.specs.Prelude.{◌↔◌, map, flat_map}
use Rattle.plane.specs.Plane.{Bounds, IsMeeting, ball_of, moved}
use Rattle.grid_num.specs.declared.Point.{Point}
use Rattle.board_language.specs.declared.board.Pad.{Pad}
use Rattle.board_language.specs.Board.{Board}
use Rattle.fill_rules.specs.Tasks.{Settings, zone_at, layer_at}
use Rattle.board_language.specs.Copper.{pad_hulls}
use Rattle.fill_rules.specs.Needs.{keep_when}
use Rattle.fill_rules.specs.Reliefs.{brush_radius, is_thermal, pad_spokes, spokes_of}
use Rattle.fill_rules.specs.Fill.{brush_at, fill_of}
use Rattle.islands.specs.Parts.{AreParts}
use Rattle.fill_rules.specs.Dirty.{unlined, IsLike, IsSameMade}
use Rattle.islands.proofs.PartLaws.{parts_one}
use Rattle.grid_sets.specs.Rows.{Row}
use Rattle.grid_sets.specs.Bands.{Band, AreBandsOf}
use Rattle.grid_sets.specs.Cells.{cells_of}
use Rattle.grid_sets.proofs.Unique.{rows_law}
use Rattle.grid_sets.proofs.OneBands.{bands_law}
use Rattle.fill_rules.specs.Made.{Made}
use Rattle.fills.specs.Fills.{IsCounted, AreThose, brushed, ArePieces}
use Rattle.fills.specs.Laws.{IsSamePieces, OneFillLaw, SameFillLaw}

-- ---- what two boards say of their pads, whatever lines these stand on
flat_unlined : {X : Type 0} (f : Pad → List X) → ((p : Pad) → f (unlined p) ≡ f p) → (ps : List Pad) → flat_map f ps ≡ flat_map f (map unlined ps)
flat_unlined f h [] = refl
flat_unlined {X} f h (p ∷ ps) =
    ap (λ (x : List X). f p ++ x) (flat_unlined f h ps) ∙ ap (λ (x : List X). x ++ flat_map f (map unlined ps)) (sym (h p))

spokes_by_pad : Settings → ℕ → Pad → List Bounds
spokes_by_pad z l p = keep_when (is_thermal z l p) (pad_spokes z p)

unlined_spokes : (z : Settings) (l : ℕ) (p : Pad) → spokes_by_pad z l (unlined p) ≡ spokes_by_pad z l p
unfolding spokes_by_pad pad_spokes pad_hulls
unlined_spokes z l p = refl

spokes_flat : (b : Board) (z : Settings) (l : ℕ) → spokes_of b z l ≡ flat_map (spokes_by_pad z l) (map unlined b.pads)
unfolding spokes_of spokes_by_pad
spokes_flat b z l = flat_unlined (spokes_by_pad z l) (unlined_spokes z l) b.pads

spokes_like : (b d : Board) (i k : ℕ) → IsLike b d i k → spokes_of b (zone_at b i) (layer_at b i) ≡ spokes_of d (zone_at d k) (layer_at d k)
spokes_like b d i k e =
    spokes_flat b (zone_at b i) (layer_at b i)
    ∙ (ap (λ (ps : List Pad). flat_map (spokes_by_pad (zone_at b i) (layer_at b i)) ps) e.pads
    ∙ (ap (λ (z : Settings). flat_map (spokes_by_pad z (layer_at b i)) (map unlined d.pads)) e.zone
    ∙ (ap (λ (l : ℕ). flat_map (spokes_by_pad (zone_at d k) l) (map unlined d.pads)) e.layer
    ∙ sym (spokes_flat d (zone_at d k) (layer_at d k)))))

brush_like : (b d : Board) (i k : ℕ) → IsLike b d i k → (c : Point) → brush_at b i c ≡ brush_at d k c
unfolding brush_at
brush_like b d i k e c = ap (λ (z : Settings). moved (ball_of (brush_radius z)) c.x c.y) e.zone

-- ---- one order
-- what P and Q hold of alike is one list
those_same : (P Q : Bounds → Type 0) → ((o : Bounds) → P o ↔ Q o) → (os xs ys : List Bounds) → AreThose P os xs → AreThose Q os ys → xs ≡ ys
those_same P Q h [] xs ys a c = a ∙ sym c
those_same P Q h (o ∷ os) xs ys (inl (n, a)) (inl (m, c)) = those_same P Q h os xs ys a c
those_same P Q h (o ∷ os) xs ys (inl (n, a)) (inr (q, c)) = absurd (n ((h o).1 q))
those_same P Q h (o ∷ os) xs ys (inr (p, a)) (inl (m, c)) = absurd (m ((h o).0 p))
those_same P Q h (o ∷ os) xs ys (inr (p, (r, e, a))) (inr (q, (s, f, c))) =
    e ∙ (ap (λ (t : List Bounds). o ∷ t) (those_same P Q h os r s a c) ∙ sym f)

-- ---- the pieces
module _ (b d : Board) (i k : ℕ) (e : IsLike b d i k) (s : IsSameMade b d (fill_of b) (fill_of d) i k) where
  counted_to : (o : Bounds) → IsCounted b i o → IsCounted d k o
  counted_to o h = record {
    live = (s.live o).0 h.live;
    meets = (h.meets.0, (s.kept h.meets.0).0 h.meets.1, subst (IsMeeting o) (brush_like b d i k e h.meets.0) h.meets.2);
  }

  counted_back : (o : Bounds) → IsCounted d k o → IsCounted b i o
  counted_back o h = record {
    live = (s.live o).1 h.live;
    meets = (h.meets.0, (s.kept h.meets.0).1 h.meets.1, subst (IsMeeting o) (sym (brush_like b d i k e h.meets.0)) h.meets.2);
  }

  rows_like : (ps qs : List Bounds) (m n : ℕ) (h : ArePieces b i ps m) (g : ArePieces d k qs n) → h.rows ≡ g.rows
  rows_like ps qs m n h g =
      rows_law h.rows g.rows h.are_rows.are g.are_rows.are
      (λ x y. (
        λ a. (g.are_rows.same x y).1 ((s.kept (record { x = x; y = y })).0 ((h.are_rows.same x y).0 a)),
        λ a. (h.are_rows.same x y).1 ((s.kept (record { x = x; y = y })).1 ((g.are_rows.same x y).0 a)),
      ))

  bands_like : (ps qs : List Bounds) (m n : ℕ) (h : ArePieces b i ps m) (g : ArePieces d k qs n) → h.bands ≡ g.bands
  bands_like ps qs m n h g =
      bands_law g.rows h.bands g.bands (subst (λ (rs : List Row). AreBandsOf rs h.bands) (rows_like ps qs m n h g) h.are_bands) g.are_bands

  counted_like : (ps qs : List Bounds) (m n : ℕ) (h : ArePieces b i ps m) (g : ArePieces d k qs n) → h.counted ≡ g.counted
  counted_like ps qs m n h g =
      those_same (IsCounted b i) (IsCounted d k) (λ o. (counted_to o, counted_back o)) (spokes_of d (zone_at d k) (layer_at d k)) h.counted g.counted
      (subst (λ (os : List Bounds). AreThose (IsCounted b i) os h.counted) (spokes_like b d i k e) h.are_counted) g.are_counted

  brushed_like : (cells : List Bounds) → map (brushed (brush_radius (zone_at b i))) cells ≡ map (brushed (brush_radius (zone_at d k))) cells
  brushed_like cells = ap (λ (z : Settings). map (brushed (brush_radius z)) cells) e.zone

  pieces_like : (ps qs : List Bounds) (m n : ℕ) → ArePieces b i ps m → ArePieces d k qs n → (ps ≡ qs) × (m ≡ n)
  pieces_like ps qs m n h g = (
    h.in_order
        ∙ (ap (λ (bs : List Band). map (brushed (brush_radius (zone_at b i))) (cells_of bs) ++ h.counted) (bands_like ps qs m n h g)
        ∙ (ap (λ (cs : List Bounds). cs ++ h.counted) (brushed_like (cells_of g.bands))
        ∙ (ap (λ (os : List Bounds). map (brushed (brush_radius (zone_at d k))) (cells_of g.bands) ++ os) (counted_like ps qs m n h g) ∙ sym g.in_order))),
    h.last ∙ (ap (λ (os : List Bounds). length os) (counted_like ps qs m n h g) ∙ sym g.last),
  )

pub same_fill : SameFillLaw
same_fill b d i k f g e s h w =
    let r = pieces_like b d i k e s f.pieces g.pieces f.spokes g.spokes h.pieces w.pieces in
    record {
      pieces = r.0;
      spokes = r.1;
      parts = parts_one g.pieces f.parts g.parts (subst (λ (os : List Bounds). AreParts os f.parts) r.0 h.parts) w.parts;
    }

same_made : (f g : Made) → f.task ≡ g.task → IsSamePieces f g → f ≡ g
same_made f g t s =
    ap (λ (x : Rattle.fill_rules.specs.Tasks.Task). record { task = x; pieces = f.pieces; spokes = f.spokes; parts = f.parts }) t
    ∙ (ap (λ (x : List Bounds). record { task = g.task; pieces = x; spokes = f.spokes; parts = f.parts }) s.pieces
    ∙ (ap (λ (x : ℕ). record { task = g.task; pieces = g.pieces; spokes = x; parts = f.parts }) s.spokes
    ∙ ap (λ (x : List ℕ). record { task = g.task; pieces = g.pieces; spokes = g.spokes; parts = x }) s.parts))

itself : {X : Type 0} → X ↔ X
itself = (λ x. x, λ x. x)

like_itself : (b : Board) (i : ℕ) → IsLike b b i i
like_itself b i = record { zone = refl; layer = refl; pads = refl; areas = refl; edges = refl }

made_itself : (b : Board) (i : ℕ) → IsSameMade b b (fill_of b) (fill_of b) i i
made_itself b i = record { kept = λ c. itself; live = λ o. itself }

pub one_fill : OneFillLaw
one_fill b i f g h w = same_made f g (h.task ∙ sym w.task) (same_fill b b i i f g (like_itself b i) (made_itself b i) h w)
