-- What bars or anchors in a frame on one board does so on another that is the same near the frame.
use Rattle.std.proofs.Common.{◌≡◌, sym, ◌∙◌, ap, subst, ℕ, ◌+◌, ◌*◌, ◌≤◌, ◌<◌, inl, inr, mul_comm, arith, List, map}
use Rattle.std.specs.Prelude.{ℤ, max, pos, ◌*ℤ◌, ◌-ℤ◌, true, ◌&&◌, ◌==◌, flat_map}
use Rattle.std.specs.Int.RustNames.{unsigned_abs}
use Rattle.std.proofs.lemmas.Int.{ints}
use Rattle.std.proofs.lemmas.Bool.{and_parts}
use Rattle.plane.specs.Plane.{PlanePoint, Bounds, Within, In, times, minus, IsNear, AreNear, positive_product}
use Rattle.grid_num.specs.Roots.{up2_of}
use Rattle.grid_num.proofs.Roots.{le_up2}
use Rattle.plane.proofs.Points.{within_times}
use Rattle.copper_shape.specs.Shapes.{Copper}
use Rattle.copper_shape.specs.declared.edge.Edge.{Edge}
use Rattle.touching.specs.Core.{InCore, InCopper, Touches}
use Rattle.hulls.specs.Hulls.{hulls_of, in_units}
use Rattle.hulls.proofs.Copper.{copper_law}
use Rattle.classes.specs.Classes.{IsOneOf}
use Rattle.board_language.specs.declared.board.Track.{Track}
use Rattle.board_language.specs.declared.board.Via.{Via}
use Rattle.board_language.specs.declared.board.Pad.{Pad}
use Rattle.board_language.specs.declared.board.Rules.{Rules}
use Rattle.board_language.specs.Board.{Board}
use Rattle.board_language.specs.Copper.{has_layer, hulls_round, pad_hulls}
use Rattle.fill_rules.specs.Tasks.{Settings}
use Rattle.fill_rules.specs.Needs.{units, is_foreign, item_need, Need, at_need, keep_when, track_copper, via_copper, role, is_on, is_barred, track_needs, via_needs, pad_needs, edge_needs, item_needs}
use Rattle.islands.specs.Held.{IsTouching}
use Rattle.fill_rules.specs.Anchors.{anchors_of}
use Rattle.fill_rules.specs.InWords.{IsSolidPad, IsAnchor}
use Rattle.fill_rules.specs.Dirty.{unlined}
use Rattle.fill_rules.specs.Edits.{unplaced, unplaced_via, AreAmong}
use Rattle.board_language.proofs.Members.{one_of_append, append_left, append_right, one_of_flat, flat_one_of, map_one_of, one_of_map}
use Rattle.fill_rules.proofs.Members.{when_is, some_one_of}
use Rattle.fill_rules.proofs.Anchors.{anchors_law, eq_true}

-- ---- what touches an octagon has a hull near to it
near_self : (n : ℕ) (u : PlanePoint) → 1 ≤ n → IsNear n u u
unfolding minus
near_self n u one =
    let s : 1 ≤ u.scale * u.scale = positive_product u.scale u.scale u.positive u.positive in
    let a : 1 ≤ n * (u.scale * u.scale) = positive_product n (u.scale * u.scale) one s in
    let b : 1 ≤ up2_of n * (u.scale * u.scale) = positive_product (up2_of n) (u.scale * u.scale) (omega (arith, one, le_up2 n)) s in
    record {
      across = subst (λ x. unsigned_abs x < n * (u.scale * u.scale)) (nil (pos u.scale *ℤ u.x)) (omega (arith, a));
      along = subst (λ x. unsigned_abs x < n * (u.scale * u.scale)) (nil (pos u.scale *ℤ u.y)) (omega (arith, a));
      slanted = subst (λ x. unsigned_abs x + unsigned_abs (pos u.scale *ℤ u.y -ℤ pos u.scale *ℤ u.y) < up2_of n * (u.scale * u.scale)) (nil (pos u.scale *ℤ u.x))
          (subst (λ y. 0 + unsigned_abs y < up2_of n * (u.scale * u.scale)) (nil (pos u.scale *ℤ u.y)) (omega (arith, b)));
    }
  where
    nil : (z : ℤ) → pos 0 ≡ z -ℤ z
    nil z = omega (arith, ints)

in_quarter : (o : Bounds) (q : PlanePoint) → In (times 4 o) q → In o (in_units q)
in_quarter o q h = subst (λ (k : ℕ). Within (times k o) q.x q.y) (mul_comm q.scale 4) (within_times q.scale 4 o q.x q.y h)

abbrev pub IsNearSome : ℕ → Bounds → List Bounds → Type 0
IsNearSome n f hulls = (h : Bounds) × IsOneOf h hulls × AreNear n f h

touched : (n : ℕ) (c : Copper) (o f : Bounds) → 1 ≤ n → IsTouching c o → ((p : PlanePoint) → In o p → In f p) → IsNearSome n f (hulls_round c)
unfolding IsTouching Touches InCore InCopper AreNear
touched n c o f one (p, q, i, j, r) inside =
    let h = some_one_of (λ (x : Bounds). In x (in_units q)) (hulls_of c.core c.radius) (copper_law c.core c.radius q (p, i, r)) in
    (h.0, h.1, (in_units q, in_units q, inside (in_units q) (in_quarter o q j), h.2, near_self n (in_units q) one))

-- ---- one board's obstacles and anchors among the other's
module _ (b d : Board) (ts : List Track) (vs : List Via) (rules : b.rules ≡ d.rules)
    (tracks : AreAmong unplaced ts b.tracks d.tracks) (vias : AreAmong unplaced_via vs b.vias d.vias)
    (pads : map unlined b.pads ≡ map unlined d.pads) (edges : b.edges ≡ d.edges)
    (z : Settings) (l : ℕ) (f : Bounds)
    (no_track : (t : Track) → IsOneOf t ts → t.layer ≡ l → IsNearSome (item_need b z 0) f (hulls_round (track_copper t)) → ⊥)
    (no_via : (v : Via) → IsOneOf v vs → has_layer v.layers l ≡ true → IsNearSome (item_need b z 0) f (hulls_round (via_copper v)) → ⊥)
  where
    ruled : (own : ℕ) → item_need b z own ≡ item_need d z own
    ruled own = ap (λ (r : Rules). units (max (max z.clearance own) r.floor)) rules

    near_of : (m : ℕ) (hs : List Bounds) (n : Need) → IsOneOf n (at_need m hs) → AreNear n.need f n.oct → IsNearSome m f hs
    near_of m hs n i w =
        let r = one_of_map (λ (o : Bounds). record { oct = o; need = m }) n hs i in
        (r.0, r.1, subst (λ (x : Need). AreNear x.need f x.oct) r.2 w)

    tracks_to : (n : Need) → AreNear n.need f n.oct → IsOneOf n (flat_map (track_needs b z l) b.tracks) → IsOneOf n (flat_map (track_needs d z l) d.tracks)
    tracks_to n w i =
        let g = one_of_flat (track_needs b z l) n b.tracks i in
        elim (tracks g.0 g.1) [
          | inl m ↦
              let y = one_of_map unplaced (unplaced g.0) d.tracks m in
              flat_one_of (track_needs d z l) n y.0 d.tracks y.1
              (subst (λ (k : ℕ). IsOneOf n (keep_when ((y.0.layer == l) && is_foreign z.net y.0.net) (at_need k (hulls_round (track_copper y.0))))) (ruled 0)
              (subst (λ (t : Track). IsOneOf n (track_needs b z l t)) y.2 g.2))
          | inr m ↦
              let y = one_of_map unplaced (unplaced g.0) ts m in
              let u = when_is ((y.0.layer == l) && is_foreign z.net y.0.net) n _ (subst (λ (t : Track). IsOneOf n (track_needs b z l t)) y.2 g.2) in
              absurd (no_track y.0 y.1 (eq_true y.0.layer l (and_parts (y.0.layer == l) (is_foreign z.net y.0.net) u.0).0) (near_of (item_need b z 0) _ n u.1 w))
        ]

    vias_to : (n : Need) → AreNear n.need f n.oct → IsOneOf n (flat_map (via_needs b z l) b.vias) → IsOneOf n (flat_map (via_needs d z l) d.vias)
    vias_to n w i =
        let g = one_of_flat (via_needs b z l) n b.vias i in
        elim (vias g.0 g.1) [
          | inl m ↦
              let y = one_of_map unplaced_via (unplaced_via g.0) d.vias m in
              flat_one_of (via_needs d z l) n y.0 d.vias y.1
              (subst (λ (k : ℕ). IsOneOf n (keep_when (has_layer y.0.layers l && is_foreign z.net y.0.net) (at_need k (hulls_round (via_copper y.0))))) (ruled 0)
              (subst (λ (v : Via). IsOneOf n (via_needs b z l v)) y.2 g.2))
          | inr m ↦
              let y = one_of_map unplaced_via (unplaced_via g.0) vs m in
              let u = when_is (has_layer y.0.layers l && is_foreign z.net y.0.net) n _ (subst (λ (v : Via). IsOneOf n (via_needs b z l v)) y.2 g.2) in
              absurd (no_via y.0 y.1 (and_parts (has_layer y.0.layers l) (is_foreign z.net y.0.net) u.0).0 (near_of (item_need b z 0) _ n u.1 w))
        ]

    pad_to : (p : Pad) → IsOneOf p b.pads → (q : Pad) × IsOneOf q d.pads × (unlined p ≡ unlined q)
    pad_to p i = one_of_map unlined (unlined p) d.pads (subst (λ (ps : List Pad). IsOneOf (unlined p) ps) pads (map_one_of unlined p b.pads i))

    pads_to : (n : Need) → IsOneOf n (flat_map (pad_needs b z l) b.pads) → IsOneOf n (flat_map (pad_needs d z l) d.pads)
    unfolding pad_hulls
    pads_to n i =
        let g = one_of_flat (pad_needs b z l) n b.pads i in
        let y = pad_to g.0 g.1 in
        flat_one_of (pad_needs d z l) n y.0 d.pads y.1
        (subst (λ (k : ℕ). IsOneOf n (keep_when (is_on l y.0 && is_barred (role z y.0)) (at_need k (pad_hulls y.0)))) (ruled y.0.clearance)
        (subst (λ (p : Pad). IsOneOf n (pad_needs b z l p)) y.2 g.2))

    edges_to : (n : Need) → IsOneOf n (flat_map (edge_needs b) b.edges) → IsOneOf n (flat_map (edge_needs d) d.edges)
    edges_to n i = subst (λ (es : List Edge). IsOneOf n (flat_map (edge_needs d) es)) edges
        (subst (λ (r : Rules). IsOneOf n (flat_map (λ (e : Edge). at_need (units r.edge) (Rattle.hulls.specs.Hulls.edge_hulls_of e.from e.to e.bow)) b.edges)) rules i)

    pub items_to : (n : Need) → AreNear n.need f n.oct → IsOneOf n (item_needs b z l) → IsOneOf n (item_needs d z l)
    unfolding item_needs
    items_to n w i =
        let t = flat_map (track_needs d z l) d.tracks in
        let v = flat_map (via_needs d z l) d.vias in
        let p = flat_map (pad_needs d z l) d.pads in
        elim (one_of_append n (flat_map (track_needs b z l) b.tracks) _ i) [
          | inl j ↦ append_left n t _ (tracks_to n w j)
          | inr j ↦ append_right n t _ (elim (one_of_append n (flat_map (via_needs b z l) b.vias) _ j) [
            | inl k ↦ append_left n v _ (vias_to n w k)
            | inr k ↦ append_right n v _ (elim (one_of_append n (flat_map (pad_needs b z l) b.pads) _ k) [
              | inl m ↦ append_left n p _ (pads_to n m)
              | inr m ↦ append_right n p _ (edges_to n m)
            ])
          ])
        ]

    solid_as : (p q : Pad) → unlined p ≡ unlined q → IsSolidPad z l p → IsSolidPad z l q
    solid_as p q e s =
        let u : IsSolidPad z l (unlined p) = record { on = s.on; net = s.net; copper = s.copper; join = s.join } in
        let v : IsSolidPad z l (unlined q) = subst (IsSolidPad z l) e u in
        record { on = v.on; net = v.net; copper = v.copper; join = v.join }

    anchor_to : 1 ≤ item_need b z 0 → (c : Copper) (o : Bounds) → IsTouching c o → ((p : PlanePoint) → In o p → In f p) → IsAnchor b z l c → IsAnchor d z l c
    unfolding IsAnchor
    anchor_to one c o t inside (n, inl (p, i, s, e)) =
        let q = pad_to p i in
        (n, inl (q.0, q.1, solid_as p q.0 q.2 s, e ∙ ap (λ (x : Pad). x.shape) q.2))
    anchor_to one c o t inside (n, inr (inl (v, i, h, m, e))) = (
      n,
      elim (vias v i) [
        | inl k ↦
            let y = one_of_map unplaced_via (unplaced_via v) d.vias k in
            inr (inl (y.0, y.1, ap (λ (x : Via). has_layer x.layers l) (sym y.2) ∙ h, ap (λ (x : Via). x.net) (sym y.2) ∙ m, e ∙ ap via_copper y.2))
        | inr k ↦
            let y = one_of_map unplaced_via (unplaced_via v) vs k in
            absurd (no_via y.0 y.1 (ap (λ (x : Via). has_layer x.layers l) (sym y.2) ∙ h)
            (touched (item_need b z 0) (via_copper y.0) o f one (subst (λ (x : Copper). IsTouching x o) (e ∙ ap via_copper y.2) t) inside))
      ],
    )
    anchor_to one c o t inside (n, inr (inr (r, i, h, m, e))) = (
      n,
      elim (tracks r i) [
        | inl k ↦
            let y = one_of_map unplaced (unplaced r) d.tracks k in
            inr (inr (y.0, y.1, ap (λ (x : Track). x.layer) (sym y.2) ∙ h, ap (λ (x : Track). x.net) (sym y.2) ∙ m, e ∙ ap track_copper y.2))
        | inr k ↦
            let y = one_of_map unplaced (unplaced r) ts k in
            absurd (no_track y.0 y.1 (ap (λ (x : Track). x.layer) (sym y.2) ∙ h)
            (touched (item_need b z 0) (track_copper y.0) o f one (subst (λ (x : Copper). IsTouching x o) (e ∙ ap track_copper y.2) t) inside))
      ],
    )

    pub anchors_to : 1 ≤ item_need b z 0 → (c : Copper) (o : Bounds) → IsTouching c o → ((p : PlanePoint) → In o p → In f p)
        → IsOneOf c (anchors_of b z l) → IsOneOf c (anchors_of d z l)
    anchors_to one c o t inside i = (anchors_law d z l c).1 (anchor_to one c o t inside ((anchors_law b z l c).0 i))
