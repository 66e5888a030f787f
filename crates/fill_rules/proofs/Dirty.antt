-- A fill depends only on its zone's settings and on what is near its frame.
use Rattle.std.proofs.Common.{arith, zero, suc, ◌≡◌, refl, sym, ◌∙◌, ap, subst, ℕ, ◌<◌, ◌⊎◌, inl, inr, List}
use Rattle.std.specs.Prelude.{true, flat_map, map, [], ◌∷◌, ◌++◌}
use Rattle.plane.specs.Plane.{PlanePoint, Bounds, In, ball_of, moved, IsNear, AreNear, IsMeeting}
use Rattle.classes.specs.Classes.{IsOneOf}
use Rattle.classes.proofs.Reaching.{reaches_map, reaches_self, reaches_then, reaches_link, reaches_keeps}
use Rattle.grid_num.specs.declared.Point.{Point}
use Rattle.plane.specs.Covering.{Covers, edges_of}
use Rattle.copper_shape.specs.declared.edge.Edge.{Edge}
use Rattle.hulls.specs.Cells.{around}
use Rattle.board_language.specs.declared.board.Pad.{Pad}
use Rattle.board_language.specs.Board.{Board}
use Rattle.board_language.specs.Copper.{has_layer, pad_hulls}
use Rattle.fill_rules.specs.Tasks.{Settings, zone_at, layer_at}
use Rattle.fill_rules.specs.Needs.{at_need, keep_when}
use Rattle.fill_rules.specs.Reliefs.{brush_radius, is_thermal, gap_of, thermal_needs, pad_spokes, spokes_of}
use Rattle.islands.specs.Held.{IsTouching}
use Rattle.islands.specs.Inside.{IsWithinEdges}
use Rattle.fill_rules.specs.Reach.{IsReaching}
use Rattle.fill_rules.specs.Fill.{Fills, brush_at, Fits, IsClear, IsAllowed, IsLinked, IsLive, IsAnchored, IsSpared, IsKept, InFill, fill_of}
use Rattle.fill_rules.proofs.Sound.{IsFillable}
use Rattle.fill_rules.specs.Dirty.{unlined, IsLike, IsFollowed, IsDirty, IsSameFill, IsSameMade, IsUntouched, Spreads}
use Rattle.fill_rules.proofs.Spared.{spared_alike}
use Rattle.fill_rules.proofs.Same.{IsUsed}
use Rattle.fill_rules.proofs.Reach.{InFrame, fits_in_frame, fill_in_frame}
use Rattle.fill_rules.proofs.Fills.{fills_meet}

like_back : (b d : Board) (i k : ℕ) → IsLike b d i k → IsLike d b k i
like_back b d i k e = record { zone = sym e.zone; layer = sym e.layer; pads = sym e.pads; areas = sym e.areas; edges = sym e.edges }

same3 : {X : Type 0} (f : List Pad → Settings → ℕ → X) (ps qs : List Pad) (y z : Settings) (l m : ℕ) → ps ≡ qs → y ≡ z → l ≡ m → f ps y l ≡ f qs z m
same3 f ps qs y z l m e g h = ap (λ (x : List Pad). f x y l) e ∙ (ap (λ (x : Settings). f qs x l) g ∙ ap (λ (x : ℕ). f qs z x) h)

brush_like : (b d : Board) (i k : ℕ) → IsLike b d i k → (c : Point) → brush_at b i c ≡ brush_at d k c
unfolding brush_at
brush_like b d i k e c = ap (λ (z : Settings). moved (ball_of (brush_radius z)) c.x c.y) e.zone

-- what is said of each pad, whatever its line, is said of both boards' pads
flat_unlined : {X : Type 0} (f : Pad → List X) → ((p : Pad) → f (unlined p) ≡ f p) → (ps : List Pad) → flat_map f ps ≡ flat_map f (map unlined ps)
flat_unlined f h [] = refl
flat_unlined {X} f h (p ∷ ps) =
    ap (λ (x : List X). f p ++ x) (flat_unlined f h ps) ∙ ap (λ (x : List X). x ++ flat_map f (map unlined ps)) (sym (h p))

pads_like : {X : Type 0} (f : Settings → ℕ → Pad → List X) → ((z : Settings) (l : ℕ) (p : Pad) → f z l (unlined p) ≡ f z l p)
    → (b d : Board) (i k : ℕ) → IsLike b d i k → flat_map (f (zone_at b i) (layer_at b i)) b.pads ≡ flat_map (f (zone_at d k) (layer_at d k)) d.pads
pads_like {X} f h b d i k e =
    flat_unlined (f (zone_at b i) (layer_at b i)) (h (zone_at b i) (layer_at b i)) b.pads
    ∙ (same3 (λ (ps : List Pad) (z : Settings) (l : ℕ). flat_map (f z l) ps) (map unlined b.pads) (map unlined d.pads) (zone_at b i) (zone_at d k) (layer_at b i) (layer_at d k) e.pads e.zone e.layer
    ∙ sym (flat_unlined (f (zone_at d k) (layer_at d k)) (h (zone_at d k) (layer_at d k)) d.pads))

unlined_spokes : (z : Settings) (l : ℕ) (p : Pad) → keep_when (is_thermal z l (unlined p)) (pad_spokes z (unlined p)) ≡ keep_when (is_thermal z l p) (pad_spokes z p)
unfolding pad_spokes pad_hulls
unlined_spokes z l p = refl

unlined_gaps : (z : Settings) (l : ℕ) (p : Pad)
    → keep_when (is_thermal z l (unlined p)) (at_need (gap_of z (unlined p)) (pad_hulls (unlined p))) ≡ keep_when (is_thermal z l p) (at_need (gap_of z p) (pad_hulls p))
unfolding pad_hulls
unlined_gaps z l p = refl

spokes_like : (b d : Board) (i k : ℕ) → IsLike b d i k → spokes_of b (zone_at b i) (layer_at b i) ≡ spokes_of d (zone_at d k) (layer_at d k)
unfolding spokes_of
spokes_like b d i k e =
    pads_like (λ (z : Settings) (l : ℕ) (p : Pad). keep_when (is_thermal z l p) (pad_spokes z p)) unlined_spokes b d i k e

thermal_like : (b d : Board) (i k : ℕ) → IsLike b d i k → thermal_needs b (zone_at b i) (layer_at b i) ≡ thermal_needs d (zone_at d k) (layer_at d k)
unfolding thermal_needs
thermal_like b d i k e =
    pads_like (λ (z : Settings) (l : ℕ) (p : Pad). keep_when (is_thermal z l p) (at_need (gap_of z p) (pad_hulls p))) unlined_gaps b d i k e

fits_like : (b d : Board) (i k : ℕ) → IsLike b d i k → (o : Bounds) → Fits b i o → Fits d k o
fits_like b d i k e o f = record {
  covered = λ p s. subst (λ (z : Settings). Covers (edges_of z.outline) p) e.zone (f.covered p s);
  free = λ p s a i_ h n. f.free p s a (subst (IsOneOf a) (sym e.areas) i_) (subst (λ (l : ℕ). has_layer a.layers l ≡ true) (sym e.layer) h) n;
}

-- each octagon that is used, fits and is clear is clear for the other
abbrev ClearsTo : Board → Board → Fills → Fills → ℕ → ℕ → Type 0
ClearsTo b d one other i k = (o : Bounds) → IsUsed b i o → Fits b i o → IsClear b one i o → IsClear d other k o

-- what bars the other in its frame bars the one
clears_local : (b d : Board) → IsFillable b → (one other : Fills) (i k : ℕ) → IsLike b d i k
    → ((m : ℕ) (q : PlanePoint) → other m q → InFrame d m q) → IsFollowed d b other one k i → ClearsTo b d one other i k
unfolding AreNear
clears_local b d s one other i k e inside g o u f c =
    let here : (p : PlanePoint) → In o p → InFrame d k p = λ p h. subst (λ (z : Settings). In (around z.outline) p) e.zone (fits_in_frame b s i o u f p h) in
    record {
      items = λ n h w. c.items n (g.items n h (w.0, w.1, here w.0 w.2, w.3, w.4)) w;
      fills = λ m l y z p q h a n.
          let r = g.fills m (record { above = l; layer = y; foreign = z; near = (p, q, here p h, inside m q a, n) }) q a in
          c.fills r.0 r.1.above r.1.layer r.1.foreign p q h r.2 (subst (λ (x : ℕ). IsNear x p q) r.3 n);
    }

module _ (b d : Board) (s : IsFillable b) (one other : Fills) (i k : ℕ) (e : IsLike b d i k) where
  allowed_to : ClearsTo b d one other i k → (c : Point) → IsAllowed b one i c → IsAllowed d other k c
  allowed_to h c a = record {
    fits = subst (Fits d k) (brush_like b d i k e c) (fits_like b d i k e (brush_at b i c) a.fits);
    clear = subst (IsClear d other k) (brush_like b d i k e c) (h (brush_at b i c) (inl (c, refl)) a.fits a.clear);
    gaps = λ n m w. a.gaps n (subst (IsOneOf n) (sym (thermal_like b d i k e)) m) (subst (λ (o : Bounds). AreNear n.need o n.oct) (sym (brush_like b d i k e c)) w);
  }

  linked_to : ClearsTo b d one other i k → (c x : Point) → IsLinked b one i c x → IsLinked d other k c x
  linked_to h c x l = record {
    first = allowed_to h c l.first;
    second = allowed_to h x l.second;
    meet = subst (λ (o : Bounds). IsMeeting (brush_at d k c) o) (brush_like b d i k e x) (subst (λ (o : Bounds). IsMeeting o (brush_at b i x)) (brush_like b d i k e c) l.meet);
  }

  live_to : ClearsTo b d one other i k → (o : Bounds) → IsLive b one i o → IsLive d other k o
  live_to h o l = record {
    spoke = subst (IsOneOf o) (spokes_like b d i k e) l.spoke;
    fits = fits_like b d i k e o l.fits;
    clear = h o (inr l.spoke) l.fits l.clear;
    meets = (l.meets.0, allowed_to h l.meets.0 l.meets.1, subst (IsMeeting o) (brush_like b d i k e l.meets.0) l.meets.2);
  }

  anchored_to : ClearsTo b d one other i k → IsFollowed b d one other i k → (c : Point) → IsAllowed b one i c → IsAnchored b one i c → IsAnchored d other k c
  anchored_to h g c w (x, r, inl (o, l, m)) = (
    x,
    reaches_map (IsLinked b one i) (IsLinked d other k) (linked_to h) c x r,
    inl (o, live_to h o l, subst (IsMeeting o) (brush_like b d i k e x) m),
  )
  anchored_to h g c w (x, r, inr (a, n, t)) =
      let v : IsAllowed b one i x = reaches_keeps (IsLinked b one i) (IsAllowed b one i) (λ y z l q. l.second) c x r w in (
        x,
        reaches_map (IsLinked b one i) (IsLinked d other k) (linked_to h) c x r,
        inr (a, g.anchors a n (brush_at b i x) t (λ p q. fits_in_frame b s i (brush_at b i x) (inl (x, refl)) v.fits p q), subst (IsTouching a) (brush_like b d i k e x) t),
      )

  kept_to : ClearsTo b d one other i k → ClearsTo d b other one k i → IsFollowed b d one other i k
      → ((x y : Point) → IsLinked d other k x y → IsLinked b one i x y) → (c : Point) → IsKept b one i c → IsKept d other k c
  kept_to h g f back c w = record {
    allowed = allowed_to h c w.allowed;
    first = w.first;
    is_first = record {
      reached = reaches_map (IsLinked b one i) (IsLinked d other k) (linked_to h) c w.first w.is_first.reached;
      least = λ x r. w.is_first.least x (reaches_map (IsLinked d other k) (IsLinked b one i) back c x r);
    };
    inside = subst (λ (es : List Edge). IsWithinEdges es w.first) e.edges w.inside;
    stays = elim w.stays [
      | inl a ↦ inl (anchored_to h f c w.allowed a)
      | inr q ↦ inr (subst (λ (z : Settings). IsSpared d other k c z.islands) e.zone
          (spared_alike b d one other i k (brush_like b d i k e) c c
          (reaches_map (IsLinked b one i) (IsLinked d other k) (linked_to h) c)
          (reaches_map (IsLinked d other k) (IsLinked b one i) back c)
          (zone_at b i).islands q))
    ];
  }

-- tasks that are followed both ways are made of the same centres and spokes
pub made_local : (b d : Board) → IsFillable b → IsFillable d → (one other : Fills) (i k : ℕ) → IsLike b d i k
    → ((j : ℕ) (q : PlanePoint) → one j q → InFrame b j q) → ((m : ℕ) (q : PlanePoint) → other m q → InFrame d m q)
    → IsFollowed b d one other i k → IsFollowed d b other one k i → IsSameMade b d one other i k
made_local b d s t one other i k e inside within f g =
    let r = like_back b d i k e in
    let h = clears_local b d s one other i k e within g in
    let v = clears_local d b t other one k i r inside f in
    record {
      kept = λ c. (kept_to b d s one other i k e h v f (linked_to d b t other one k i r v) c, kept_to d b t other one k i r v h g (linked_to b d s one other i k e h) c);
      live = λ o. (live_to b d s one other i k e h o, live_to d b t other one k i r v o);
    }

-- and then of the same points
pub made_fill : (b d : Board) (one other : Fills) (i k : ℕ) → IsLike b d i k → IsSameMade b d one other i k → (p : PlanePoint) → InFill b one i p → InFill d other k p
unfolding InFill
made_fill b d one other i k e m p (inl (c, w, n)) = inl (c, (m.kept c).0 w, subst (λ (o : Bounds). In o p) (brush_like b d i k e c) n)
made_fill b d one other i k e m p (inr (o, l, n, (c, w, h))) = inr (o, (m.live o).0 l, n, (c, (m.kept c).0 w, subst (IsMeeting o) (brush_like b d i k e c) h))

-- ---- the dirty set
-- what is dirtied directly is dirty, and dirt spreads
pub dirty_direct : (direct : ℕ → Type 0) (spreads : ℕ → ℕ → Type 0) (t : ℕ) → direct t → IsDirty direct spreads t
dirty_direct direct spreads t h = (t, h, reaches_self spreads t)

pub dirty_spreads : (direct : ℕ → Type 0) (spreads : ℕ → ℕ → Type 0) (s t : ℕ) → IsDirty direct spreads s → spreads s t → IsDirty direct spreads t
dirty_spreads direct spreads s t (r, h, c) l = (r, h, reaches_then spreads r s t c (reaches_link spreads s t l))

-- and no less is closed so
pub dirty_least : (direct : ℕ → Type 0) (spreads : ℕ → ℕ → Type 0) (P : ℕ → Type 0) → ((t : ℕ) → direct t → P t)
    → ((s t : ℕ) → spreads s t → P s → P t) → (t : ℕ) → IsDirty direct spreads t → P t
dirty_least direct spreads P d k t (r, h, c) = reaches_keeps spreads P k r t c (d r h)

module _ (b d : Board) (s : IsFillable b) (t : IsFillable d) (old : ℕ → ℕ) (direct changed : ℕ → Type 0)
    (untouched : (k : ℕ) → (direct k → ⊥) → IsUntouched b d old k)
    (tell : (m : ℕ) → IsSameFill (fill_of b) (fill_of d) (old m) m ⊎ changed m)
    (sure : (m : ℕ) → IsSameMade b d (fill_of b) (fill_of d) (old m) m → changed m → ⊥)
  where
    followed_to : (k : ℕ) → IsUntouched b d old k → ((m : ℕ) → IsReaching d m k → IsSameFill (fill_of b) (fill_of d) (old m) m)
        → IsFollowed b d (fill_of b) (fill_of d) (old k) k
    followed_to k u same = record {
      items = λ n h w. (u.items n (subst (λ (z : Settings). AreNear n.need (around z.outline) n.oct) u.like.zone w)).0 h;
      fills = λ j r q h.
          let m = u.reach_to j r in
          (m.0, m.2, (same m.0 m.2 q).0 (subst (λ (x : ℕ). fill_of b x q) (sym m.1) h), m.3);
      anchors = λ a n o w f. (u.anchors a o w (λ p g. subst (λ (z : Settings). In (around z.outline) p) u.like.zone (f p g))).0 n;
    }

    followed_from : (k : ℕ) → IsUntouched b d old k → ((m : ℕ) → IsReaching d m k → IsSameFill (fill_of b) (fill_of d) (old m) m)
        → IsFollowed d b (fill_of d) (fill_of b) k (old k)
    followed_from k u same = record {
      items = λ n h w. (u.items n w).1 h;
      fills = λ m r q h. let v = u.reach_from m r in (old m, v.0, (same m r q).1 h, v.1);
      anchors = λ a n o w f. (u.anchors a o w f).1 n;
    }

    in_around : (c : Board) → IsFillable c → (j : ℕ) (q : PlanePoint) → fill_of c j q → InFrame c j q
    in_around c v j q h = fill_in_frame c v (fill_of c) j q ((fills_meet c j q).0 h)

    made_below : (n k : ℕ) → k < n → (IsDirty direct (Spreads d changed) k → ⊥) → IsSameMade b d (fill_of b) (fill_of d) (old k) k
    made_below zero k l clean = absurd (omega arith)
    made_below (suc n) k l clean =
        let u = untouched k (λ h. clean (dirty_direct direct (Spreads d changed) k h)) in
        let same : (m : ℕ) → IsReaching d m k → IsSameFill (fill_of b) (fill_of d) (old m) m = λ m r. elim (tell m) [
          | inl q ↦ q
          | inr c ↦
              let less : m < n = below m r.above in
              absurd (sure m (made_below n m less (λ x. clean (dirty_spreads direct (Spreads d changed) m k x (r, c)))) c)
        ] in
        made_local b d s t (fill_of b) (fill_of d) (old k) k u.like (in_around b s) (in_around d t) (followed_to k u same) (followed_from k u same)
      where
        below : (m : ℕ) → m < k → m < n
        below m h = omega arith

    -- a task that is not dirty is made as it was
    pub clean_made : (k : ℕ) → (IsDirty direct (Spreads d changed) k → ⊥) → IsSameMade b d (fill_of b) (fill_of d) (old k) k
    clean_made k clean = made_below (suc k) k (omega arith) clean

-- a task that is made as it was has the fill that it had
pub made_same : (b d : Board) (i k : ℕ) → IsLike b d i k → IsSameMade b d (fill_of b) (fill_of d) i k → IsSameFill (fill_of b) (fill_of d) i k
made_same b d i k e m p =
    let back : IsSameMade d b (fill_of d) (fill_of b) k i = record { kept = λ c. ((m.kept c).1, (m.kept c).0); live = λ o. ((m.live o).1, (m.live o).0) } in (
      λ h. (fills_meet d k p).1 (made_fill b d (fill_of b) (fill_of d) i k e m p ((fills_meet b i p).0 h)),
      λ h. (fills_meet b i p).1 (made_fill d b (fill_of d) (fill_of b) k i (like_back b d i k e) back p ((fills_meet d k p).0 h)),
    )
