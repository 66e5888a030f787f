-- What a task keeps away from has tight octagons, and needs of a unit at least.
use Rattle.std.proofs.Common.{sym, subst, ℕ, zero, suc, ◌≤◌, inl, inr, arith, List, ◌++◌}
use Rattle.std.specs.Prelude.{Bool, ◌&&◌, ◌==◌, flat_map}
use Rattle.std.specs.List.{All}
use Rattle.std.specs.Int.{div_ceil}
use Rattle.plane.specs.Plane.{Bounds, IsTight, ball_of}
use Rattle.plane.specs.Corners.{corners_of}
use Rattle.plane.proofs.Near.{IsTight-sum, IsTight-ball}
use Rattle.grid_num.specs.declared.Point.{Point}
use Rattle.classes.specs.Classes.{IsOneOf}
use Rattle.touching.specs.Core.{Core, Spot, area, line}
use Rattle.hulls.specs.Cells.{around, points_round_all}
use Rattle.hulls.specs.Hulls.{hull_of, piece_hull, piece_hulls, count_pieces, hulls_of, edge_core, edge_radius, edge_hulls_of}
use Rattle.hulls.proofs.Around.{around_tight}
use Rattle.copper_shape.specs.declared.edge.Edge.{Edge}
use Rattle.board_language.specs.declared.board.Track.{Track}
use Rattle.board_language.specs.declared.board.Via.{Via}
use Rattle.board_language.specs.declared.board.Pad.{Pad}
use Rattle.board_language.specs.Board.{Board}
use Rattle.board_language.specs.Facts.{IsSoundBoard}
use Rattle.board_language.specs.Copper.{has_layer, hulls_round, pad_hulls}
use Rattle.fill_rules.specs.Tasks.{Settings}
use Rattle.fill_rules.specs.Needs.{is_foreign, item_need, zone_need, edge_need, track_copper, via_copper, role, is_on, is_barred, Need, at_need, keep_when, track_needs, via_needs, pad_needs, edge_needs, item_needs}
use Rattle.fill_rules.specs.Reliefs.{gap_of, is_thermal, thermal_needs}
use Rattle.board_language.proofs.Members.{one_of_append, one_of_flat, one_of_map, all_one_of}
use Rattle.fill_rules.proofs.Members.{one_of_when}
use Rattle.centres.specs.Needs.{IsRealNeed}
use Rattle.centres.specs.Laws.{RealNeedsLaw}
use Rattle.centres.proofs.Listed.{all_of_members}

-- ---- hulls are tight
hull_tight : (n : ℕ) (cs : List Point) (r : ℕ) → IsTight (hull_of n cs r)
unfolding hull_of
hull_tight n cs r = IsTight-sum (around (points_round_all n cs)) (ball_of (div_ceil r 4)) (around_tight (points_round_all n cs)) (IsTight-ball (div_ceil r 4))

piece_tight : (s t : Spot) (k r i : ℕ) → IsTight (piece_hull s t k r i)
unfolding piece_hull
piece_tight s t k r i = hull_tight _ _ r

pieces_tight : (s t : Spot) (k r i n : ℕ) (o : Bounds) → IsOneOf o (piece_hulls s t k r i n) → IsTight o
unfolding IsOneOf piece_hulls
pieces_tight s t k r i zero o h = absurd h
pieces_tight s t k r i (suc n) o (inl e) = subst IsTight (sym e) (piece_tight s t k r i)
pieces_tight s t k r i (suc n) o (inr m) = pieces_tight s t k r (suc i) n o m

hulls_tight : (c : Core) (r : ℕ) (o : Bounds) → IsOneOf o (hulls_of c r) → IsTight o
unfolding IsOneOf hulls_of
hulls_tight (area b) r o (inl e) = subst IsTight (sym e) (hull_tight 4 (corners_of b) r)
hulls_tight (area b) r o (inr m) = absurd m
hulls_tight (line s t) r o h = pieces_tight s t (count_pieces s t) r 0 (count_pieces s t) o h

-- ---- real, one by one
AreReal : List Need → Type 0
AreReal ns = (n : Need) → IsOneOf n ns → IsRealNeed n

-- octagons at a need
at_real : (d : ℕ) (os : List Bounds) → 1 ≤ d → ((o : Bounds) → IsOneOf o os → IsTight o) → AreReal (at_need d os)
unfolding AreReal
at_real d os one t n i =
    let m = one_of_map (λ (o : Bounds). record { oct = o; need = d }) n os i in
    subst IsRealNeed (sym m.2) (record { need = one; tight = t m.0 m.1 })

when_real : (b : Bool) (ns : List Need) → AreReal ns → AreReal (keep_when b ns)
unfolding AreReal
when_real b ns h n i = h n (one_of_when b n ns i)

flat_real : {A : Type 0} (f : A → List Need) (as_ : List A) → ((a : A) → AreReal (f a)) → AreReal (flat_map f as_)
unfolding AreReal
flat_real f as_ h n i = let r = one_of_flat f n as_ i in h r.0 n r.2

append_real : (ms ns : List Need) → AreReal ms → AreReal ns → AreReal (ms ++ ns)
unfolding AreReal
append_real ms ns h g n i = elim (one_of_append n ms ns i) [ inl a ↦ h n a | inr a ↦ g n a ]

all_real : (ns : List Need) → AreReal ns → All IsRealNeed ns
unfolding AreReal
all_real ns h = all_of_members IsRealNeed ns h

-- ---- the needs of a board
track_real : (b : Board) (z : Settings) (l : ℕ) → 1 ≤ b.rules.floor → (t : Track) → AreReal (track_needs b z l t)
track_real b z l one t =
    when_real ((t.layer == l) && is_foreign z.net t.net) _
    (at_real (item_need b z 0) (hulls_round (track_copper t)) (omega arith) (hulls_tight (track_copper t).core (track_copper t).radius))

via_real : (b : Board) (z : Settings) (l : ℕ) → 1 ≤ b.rules.floor → (v : Via) → AreReal (via_needs b z l v)
via_real b z l one v =
    when_real (has_layer v.layers l && is_foreign z.net v.net) _
    (at_real (item_need b z 0) (hulls_round (via_copper v)) (omega arith) (hulls_tight (via_copper v).core (via_copper v).radius))

pad_tight : (p : Pad) (o : Bounds) → IsOneOf o (pad_hulls p) → IsTight o
unfolding pad_hulls
pad_tight p o i = hulls_tight p.shape.core p.shape.radius o i

pad_real : (b : Board) (z : Settings) (l : ℕ) → 1 ≤ b.rules.floor → (p : Pad) → AreReal (pad_needs b z l p)
pad_real b z l one p =
    when_real (is_on l p && is_barred (role z p)) _
    (at_real (item_need b z p.clearance) (pad_hulls p) (omega arith) (pad_tight p))

edge_tight : (e : Edge) (o : Bounds) → IsOneOf o (edge_hulls_of e.from e.to e.bow) → IsTight o
unfolding edge_hulls_of
edge_tight e o i = hulls_tight (edge_core e.from e.to e.bow) (edge_radius e.from e.to e.bow) o i

edge_real : (b : Board) → 1 ≤ b.rules.edge → (e : Edge) → AreReal (edge_needs b e)
edge_real b one e = at_real (edge_need b) (edge_hulls_of e.from e.to e.bow) (omega arith) (edge_tight e)

items_real : (b : Board) (z : Settings) (layer : ℕ) → 1 ≤ b.rules.floor → 1 ≤ b.rules.edge → AreReal (item_needs b z layer)
unfolding item_needs
items_real b z layer floor edge =
    append_real (flat_map (track_needs b z layer) b.tracks) _ (flat_real (track_needs b z layer) b.tracks (track_real b z layer floor))
    (append_real (flat_map (via_needs b z layer) b.vias) _ (flat_real (via_needs b z layer) b.vias (via_real b z layer floor))
    (append_real (flat_map (pad_needs b z layer) b.pads) (flat_map (edge_needs b) b.edges)
    (flat_real (pad_needs b z layer) b.pads (pad_real b z layer floor)) (flat_real (edge_needs b) b.edges (edge_real b edge))))

fills_real : (b : Board) (y z : Settings) (pieces : List Bounds) → 1 ≤ b.rules.floor → All IsTight pieces → AreReal (at_need (zone_need b y z) pieces)
fills_real b y z pieces floor t = at_real (zone_need b y z) pieces (omega arith) (λ o i. all_one_of IsTight pieces o t i)

pub gaps_real : (b : Board) (z : Settings) (layer : ℕ) → All IsRealNeed (thermal_needs b z layer)
unfolding thermal_needs
gaps_real b z layer =
    all_real _ (flat_real (λ (p : Pad). keep_when (is_thermal z layer p) (at_need (gap_of z p) (pad_hulls p))) b.pads
    (λ p. when_real (is_thermal z layer p) _ (at_real (gap_of z p) (pad_hulls p) (omega arith) (pad_tight p))))

some_floor : (b : Board) → IsSoundBoard b → 1 ≤ b.rules.floor
some_floor b s = let h = s.rules.floor.least in omega arith

some_edge : (b : Board) → IsSoundBoard b → 1 ≤ b.rules.edge
some_edge b s = let h = s.rules.edge.least in omega arith

pub real_needs_law : RealNeedsLaw
real_needs_law = record {
  items = λ b z layer s. all_real _ (items_real b z layer (some_floor b s) (some_edge b s));
  fills = λ b y z pieces s t. all_real _ (fills_real b y z pieces (some_floor b s) t);
  gaps = gaps_real;
}
