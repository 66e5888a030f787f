-- A fill keeps its needs.
use Rattle.std.proofs.Common.{◌≡◌, refl, sym, subst, ℕ, inl, inr, arith, List}
use Rattle.std.specs.Prelude.{Bool, true, false, ◌&&◌, ◌==◌, flat_map}
use Rattle.std.proofs.lemmas.Bool.{true≢false}
use Rattle.std.proofs.lemmas.Bool.Decides.{nat_tests}
use Rattle.plane.specs.Plane.{PlanePoint, Bounds, In, AreNear}
use Rattle.plane.proofs.Euclid.{euclid}
use Rattle.copper_shape.specs.Shapes.{Copper}
use Rattle.copper_shape.specs.declared.edge.Edge.{Edge}
use Rattle.hulls.specs.Hulls.{hulls_of, edge_hulls_of, in_units}
use Rattle.hulls.specs.Laws.{nm_in_units, InSome}
use Rattle.hulls.proofs.Copper.{copper_law}
use Rattle.hulls.proofs.Edges.{segment_law, chord_disc_law}
use Rattle.classes.specs.Classes.{IsOneOf}
use Rattle.board_language.specs.Board.{Board}
use Rattle.board_language.specs.Copper.{has_layer, hulls_round, pad_hulls}
use Rattle.fill_rules.specs.Tasks.{Settings, zone_at, layer_at}
use Rattle.fill_rules.specs.Needs.{is_foreign, item_need, edge_need, track_copper, via_copper, role, is_on, is_barred, Need, at_need, keep_when, track_needs, via_needs, pad_needs, edge_needs, item_needs}
use Rattle.fill_rules.specs.Fill.{Fills, brush_at, IsClear, InFill, fill_of}
use Rattle.fill_rules.specs.InWords.{IsApart, IsBarred, CopperKeptLaw, EdgeKeptLaw, ArcKeptLaw, ZoneKeptLaw}
use Rattle.board_language.proofs.Members.{append_left, append_right, flat_one_of, map_one_of}
use Rattle.fill_rules.proofs.Members.{is_when, some_one_of}
use Rattle.fill_rules.proofs.Fills.{fills_meet}

-- each point of a fill is in an octagon that is clear
pub fill_clear : (b : Board) (above : Fills) (i : ℕ) (p : PlanePoint) → InFill b above i p → (o : Bounds) × In o p × IsClear b above i o
unfolding InFill
fill_clear b above i p (inl (c, k, n)) = (brush_at b i c, n, k.allowed.clear)
fill_clear b above i p (inr (o, l, n, w)) = (o, n, l.clear)

same : (n : ℕ) → (n == n) ≡ true
same n = grind (arith, nat_tests)

both : (x y : Bool) → x ≡ true → y ≡ true → (x && y) ≡ true
both true y e f = f
both false y e f = absurd (true≢false (sym e))

-- ---- each hull of barred copper is an obstacle
abbrev need : ℕ → Bounds → Need
need n h = record { oct = h; need = n }

put_need : (b : Bool) (n : ℕ) (h : Bounds) (hs : List Bounds) → b ≡ true → IsOneOf h hs → IsOneOf (need n h) (keep_when b (at_need n hs))
put_need b n h hs e i = is_when b (need n h) (at_need n hs) e (map_one_of (need n) h hs i)

module _ (b : Board) (z : Settings) (l : ℕ) where
  among_tracks : (n : Need) → IsOneOf n (flat_map (track_needs b z l) b.tracks) → IsOneOf n (item_needs b z l)
  unfolding item_needs
  among_tracks n i = append_left n _ _ i

  among_vias : (n : Need) → IsOneOf n (flat_map (via_needs b z l) b.vias) → IsOneOf n (item_needs b z l)
  unfolding item_needs
  among_vias n i = append_right n (flat_map (track_needs b z l) b.tracks) _ (append_left n _ _ i)

  among_pads : (n : Need) → IsOneOf n (flat_map (pad_needs b z l) b.pads) → IsOneOf n (item_needs b z l)
  unfolding item_needs
  among_pads n i = append_right n (flat_map (track_needs b z l) b.tracks) _ (append_right n (flat_map (via_needs b z l) b.vias) _ (append_left n _ _ i))

  among_edges : (n : Need) → IsOneOf n (flat_map (edge_needs b) b.edges) → IsOneOf n (item_needs b z l)
  unfolding item_needs
  among_edges n i =
      append_right n (flat_map (track_needs b z l) b.tracks) _
      (append_right n (flat_map (via_needs b z l) b.vias) _ (append_right n (flat_map (pad_needs b z l) b.pads) _ i))

  pub barred : (own : ℕ) (c : Copper) (h : Bounds) → IsBarred b z l own c → IsOneOf h (hulls_round c) → IsOneOf (need (item_need b z own) h) (item_needs b z l)
  unfolding IsBarred pad_hulls
  barred own c h (inl (t, i, e, f, o, s)) g =
      let a : IsOneOf h (hulls_round (track_copper t)) = subst (λ (x : Copper). IsOneOf h (hulls_round x)) s g in
      let e' : (t.layer == l) ≡ true = subst (λ (x : ℕ). (t.layer == x) ≡ true) e (same t.layer) in
      subst (λ (x : ℕ). IsOneOf (need (item_need b z x) h) (item_needs b z l)) (sym o)
      (among_tracks _ (flat_one_of (track_needs b z l) _ t b.tracks i (put_need ((t.layer == l) && is_foreign z.net t.net) (item_need b z 0) h _ (both _ _ e' f) a)))
  barred own c h (inr (inl (v, i, e, f, o, s))) g =
      let a : IsOneOf h (hulls_round (via_copper v)) = subst (λ (x : Copper). IsOneOf h (hulls_round x)) s g in
      subst (λ (x : ℕ). IsOneOf (need (item_need b z x) h) (item_needs b z l)) (sym o)
      (among_vias _ (flat_one_of (via_needs b z l) _ v b.vias i (put_need (has_layer v.layers l && is_foreign z.net v.net) (item_need b z 0) h _ (both _ _ e f) a)))
  barred own c h (inr (inr (p, i, e, f, o, s))) g =
      let a : IsOneOf h (hulls_round p.shape) = subst (λ (x : Copper). IsOneOf h (hulls_round x)) s g in
      subst (λ (x : ℕ). IsOneOf (need (item_need b z x) h) (item_needs b z l)) (sym o)
      (among_pads _ (flat_one_of (pad_needs b z l) _ p b.pads i (put_need (is_on l p && is_barred (role z p)) (item_need b z p.clearance) h _ (both _ _ e f) a)))

  edge_barred : (e : Edge) (h : Bounds) → IsOneOf e b.edges → IsOneOf h (edge_hulls_of e.from e.to e.bow) → IsOneOf (need (edge_need b) h) (item_needs b z l)
  edge_barred e h i g = among_edges _ (flat_one_of (edge_needs b) _ e b.edges i (map_one_of (need (edge_need b)) h _ g))

-- ---- what is in some hull of an obstacle is kept away from
hull_kept : (b : Board) (i n : ℕ) (hs : List Bounds) (p q : PlanePoint) → fill_of b i p → InSome hs q
    → ((h : Bounds) → IsOneOf h hs → IsOneOf (need n h) (item_needs b (zone_at b i) (layer_at b i))) → IsApart n p q
unfolding IsApart AreNear
hull_kept b i n hs p q f s all =
    let m = fill_clear b (fill_of b) i p ((fills_meet b i p).0 f) in
    let h = some_one_of (λ (o : Bounds). In o q) hs s in
    euclid n p q (λ w. m.2.items (need n h.0) (all h.0 h.1) (p, q, m.1, h.2, w))

pub copper_kept : CopperKeptLaw
copper_kept b i own c p q f k w =
    hull_kept b i (item_need b (zone_at b i) own) (hulls_of c.core c.radius) p (in_units q) f (copper_law c.core c.radius q w)
    (λ h g. barred b (zone_at b i) (layer_at b i) own c h k g)

-- the hulls of an edge that is, or isn't, an arc
edge_kept_as : (b : Board) (i : ℕ) (e : Edge) (bow : Bool) (p q : PlanePoint) → fill_of b i p → IsOneOf e b.edges → bow ≡ e.bow
    → InSome (edge_hulls_of e.from e.to bow) (nm_in_units q) → IsApart (edge_need b) p (nm_in_units q)
edge_kept_as b i e bow p q f k s w =
    hull_kept b i (edge_need b) (edge_hulls_of e.from e.to bow) p (nm_in_units q) f w
    (λ h g. edge_barred b (zone_at b i) (layer_at b i) e h k (subst (λ (x : Bool). IsOneOf h (edge_hulls_of e.from e.to x)) s g))

not_true : (x : Bool) → (x ≡ true → ⊥) → false ≡ x
not_true true n = absurd (n refl)
not_true false n = refl

pub edge_kept : EdgeKeptLaw
edge_kept b i e p q f k n o = edge_kept_as b i e false p q f k (not_true e.bow n) (segment_law e.from e.to q o)

pub arc_kept : ArcKeptLaw
arc_kept b i e p q f k n o = edge_kept_as b i e true p q f k (sym n) (chord_disc_law e.from e.to q o)

pub zone_kept : ZoneKeptLaw
unfolding IsApart
zone_kept b j i p q l e g f h =
    let m = fill_clear b (fill_of b) i p ((fills_meet b i p).0 f) in
    euclid _ p q (λ w. m.2.fills j l e g p q m.1 h w)
