-- Boards that are the same but for places have the same tasks and the same fills.
use Rattle.std.proofs.Common.{◌≡◌, ◌∙◌, refl, ap, sym, subst, ℕ, zero, suc, ◌<◌, ◌≤◌, inl, inr, arith, List, [], ◌∷◌, ◌++◌, length, map, get_or}
use Rattle.std.specs.Prelude.{◌↔◌, cond, nat_le}
use Rattle.plane.specs.Plane.{PlanePoint, Bounds, In, AreNear, IsMeeting, ball_of, moved}
use Rattle.hulls.specs.Cells.{around}
use Rattle.grid_num.specs.declared.Point.{Point}
use Rattle.classes.specs.Classes.{IsOneOf}
use Rattle.grid_sets.specs.Cells.{cells_of}
use Rattle.board_language.specs.declared.board.Pad.{Pad}
use Rattle.board_language.specs.declared.board.Zone.{Zone}
use Rattle.board_language.specs.Board.{Board}
use Rattle.board_language.specs.Copper.{pad_hulls}
use Rattle.board_language.specs.Facts.{IsSoundBoard}
use Rattle.board_language.proofs.Members.{map_one_of}
use Rattle.fill_rules.specs.Tasks.{Task, Settings, no_zone, no_task, layers_below, tasks_from, task_zone, put_by_priority, put_all, ranked, task_at, zone_at, layer_at}
use Rattle.fill_rules.specs.Needs.{keep_when}
use Rattle.fill_rules.specs.Reliefs.{brush_radius, is_thermal, pad_spokes, spokes_of}
use Rattle.fill_rules.specs.Reach.{IsReaching}
use Rattle.fill_rules.specs.Fill.{brush_at, fill_of}
use Rattle.fill_rules.specs.Made.{no_fill}
use Rattle.fill_rules.specs.Dirty.{unlined, IsLike, IsFollowed, IsSameFill, IsSameMade, IsUntouched}
use Rattle.fill_rules.specs.Edits.{unplaced, unplaced_via, counting, AreAmong, AreSameBut}
use Rattle.fill_rules.proofs.Reach.{InFrame, fill_in_frame}
use Rattle.fill_rules.proofs.Fills.{fills_meet}
use Rattle.fill_rules.proofs.Sound.{IsFillable, fillable}
use Rattle.fill_rules.proofs.Dirty.{made_local, made_same}
use Rattle.fill_rules.proofs.Edits.{direct_law}
use Rattle.fills.specs.Fills.{IsCounted, AreThose, brushed, ArePieces}
use Rattle.text_shapes.proofs.Seen.{map_map}
use Rattle.same_boards.specs.Contents.{Each}
use Rattle.same_boards.specs.Alike.{unplaced_zone, AreAlike}
use Rattle.same_boards.specs.Laws.{FollowLaw, CarryLaw, SameRanksLaw, SameFillsLaw}
use Rattle.same_boards.proofs.Each.{maps_each, each_length}

-- ---- tasks

abbrev SameZone : Zone → Zone → Type 0
SameZone y z = unplaced_zone y ≡ unplaced_zone z

tasks_same : (count z : ℕ) (xs ys : List Zone) → Each SameZone xs ys → tasks_from count z xs ≡ tasks_from count z ys
tasks_same count z [] [] e = refl
tasks_same count z [] (y ∷ ys) e = absurd e
tasks_same count z (x ∷ xs) [] e = absurd e
tasks_same count z (x ∷ xs) (y ∷ ys) e =
    ap (λ (w : Zone). map (λ (l : ℕ). record { zone = z; layer = l }) (layers_below w.layers count) ++ tasks_from count (suc z) xs) e.0
    ∙ ap (λ ts. map (λ (l : ℕ). record { zone = z; layer = l }) (layers_below y.layers count) ++ ts) (tasks_same count (suc z) xs ys e.1)

zone_there : (n : ℕ) (xs ys : List Zone) → Each SameZone xs ys → SameZone (get_or xs n no_zone) (get_or ys n no_zone)
zone_there n [] [] e = refl
zone_there n [] (y ∷ ys) e = absurd e
zone_there n (x ∷ xs) [] e = absurd e
zone_there zero (x ∷ xs) (y ∷ ys) e = e.0
zone_there (suc n) (x ∷ xs) (y ∷ ys) e = zone_there n xs ys e.1

put_same : (b d : Board) → ((t : Task) → (task_zone b t).priority ≡ (task_zone d t).priority) → (t : Task) (us : List Task) → put_by_priority b t us ≡ put_by_priority d t us
put_same b d h t [] = refl
put_same b d h t (u ∷ us) =
    ap (λ (x : List Task). cond (nat_le (task_zone b u).priority (task_zone b t).priority) (t ∷ u ∷ us) (u ∷ x)) (put_same b d h t us)
    ∙ (ap (λ (n : ℕ). cond (nat_le n (task_zone b t).priority) (t ∷ u ∷ us) (u ∷ put_by_priority d t us)) (h u)
    ∙ ap (λ (n : ℕ). cond (nat_le (task_zone d u).priority n) (t ∷ u ∷ us) (u ∷ put_by_priority d t us)) (h t))

all_same : (b d : Board) → ((t : Task) → (task_zone b t).priority ≡ (task_zone d t).priority) → (ts : List Task) → put_all b ts ≡ put_all d ts
all_same b d h [] = refl
all_same b d h (t ∷ ts) = ap (λ (x : List Task). put_by_priority b t x) (all_same b d h ts) ∙ put_same b d h t (put_all d ts)

module _ (b d : Board) (e : AreAlike b d) where
  zones_each : Each SameZone b.zones d.zones
  zones_each = maps_each unplaced_zone unplaced_zone b.zones d.zones e.zones

  priority_same : (t : Task) → (task_zone b t).priority ≡ (task_zone d t).priority
  unfolding task_zone
  priority_same t = ap (λ (z : Zone). z.priority) (zone_there t.zone b.zones d.zones zones_each)

  pub ranks_same : ranked b ≡ ranked d
  unfolding ranked
  ranks_same =
      all_same b d priority_same (tasks_from (length b.layers) 0 b.zones)
      ∙ ap (put_all d) (tasks_same (length b.layers) 0 b.zones d.zones zones_each ∙ ap (λ (ls : List (List ℕ)). tasks_from (length ls) 0 d.zones) e.layers)

  pub tasks_alike : (i : ℕ) → task_at b i ≡ task_at d i
  unfolding task_at
  tasks_alike i =
      ap (λ (ts : List Task). get_or ts i (no_task b)) ranks_same
      ∙ ap (λ (n : ℕ). get_or (ranked d) i (record { zone = n; layer = 0 })) (each_length SameZone b.zones d.zones zones_each)

pub same_ranks : SameRanksLaw
same_ranks b d e = ranks_same b d e

-- ---- nothing came or went

among_same : {A : Type 0} (alike : A → A) (xs ys : List A) → map alike xs ≡ map alike ys → AreAmong alike [] xs ys
among_same alike xs ys e x i = inl (subst (IsOneOf (alike x)) e (map_one_of alike x xs i))

none : {A : Type 0} (x : A) → IsOneOf x [] → ⊥
unfolding IsOneOf
none x i = i

counted : (zs : List Zone) → map counting zs ≡ map counting (map unplaced_zone zs)
counted zs = map_map unplaced_zone counting counting (λ z. refl) zs

same_but : (b d : Board) → AreAlike b d → AreSameBut b d [] []
same_but b d e = record {
  layers = ap length e.layers;
  tracks = among_same unplaced b.tracks d.tracks e.tracks;
  tracks_back = among_same unplaced d.tracks b.tracks (sym e.tracks);
  vias = among_same unplaced_via b.vias d.vias e.vias;
  vias_back = among_same unplaced_via d.vias b.vias (sym e.vias);
  pads = e.pads;
  zones = counted b.zones ∙ ap (map counting) e.zones ∙ sym (counted d.zones);
  areas = e.areas;
  edges = e.edges;
  rules = e.rules;
}

-- ---- a task that is untouched, and that tasks with the same fills reach

module _ (b d : Board) (s : IsFillable b) (t : IsFillable d) (old : ℕ → ℕ) (k : ℕ) (u : IsUntouched b d old k)
    (same : (m : ℕ) → IsReaching d m k → IsSameFill (fill_of b) (fill_of d) (old m) m)
  where
    followed_to : IsFollowed b d (fill_of b) (fill_of d) (old k) k
    followed_to = record {
      items = λ n h w. (u.items n (subst (λ (z : Settings). AreNear n.need (around z.outline) n.oct) u.like.zone w)).0 h;
      fills = λ j r q h. let m = u.reach_to j r in (m.0, m.2, (same m.0 m.2 q).0 (subst (λ (x : ℕ). fill_of b x q) (sym m.1) h), m.3);
      anchors = λ a n o w f. (u.anchors a o w (λ p g. subst (λ (z : Settings). In (around z.outline) p) u.like.zone (f p g))).0 n;
    }

    followed_from : IsFollowed d b (fill_of d) (fill_of b) k (old k)
    followed_from = record {
      items = λ n h w. (u.items n w).1 h;
      fills = λ m r q h. let v = u.reach_from m r in (old m, v.0, (same m r q).1 h, v.1);
      anchors = λ a n o w f. (u.anchors a o w f).1 n;
    }

    in_around : (c : Board) → IsFillable c → (j : ℕ) (q : PlanePoint) → fill_of c j q → InFrame c j q
    in_around c v j q h = fill_in_frame c v (fill_of c) j q ((fills_meet c j q).0 h)

    pub follow : IsSameMade b d (fill_of b) (fill_of d) (old k) k
    follow = made_local b d s t (fill_of b) (fill_of d) (old k) k u.like (in_around b s) (in_around d t) followed_to followed_from

pub follow_law : FollowLaw
follow_law b d s t old k u same = follow b d (fillable b s) (fillable d t) old k u same

-- ---- what is made alike is the same fill

flat_unlined : {X : Type 0} (f : Pad → List X) → ((p : Pad) → f (unlined p) ≡ f p) → (ps : List Pad) → Rattle.std.specs.List.flat_map f ps ≡ Rattle.std.specs.List.flat_map f (map unlined ps)
flat_unlined f h [] = refl
flat_unlined {X} f h (p ∷ ps) =
    ap (λ (x : List X). f p ++ x) (flat_unlined f h ps) ∙ ap (λ (x : List X). x ++ Rattle.std.specs.List.flat_map f (map unlined ps)) (sym (h p))

spokes_by_pad : Settings → ℕ → Pad → List Bounds
spokes_by_pad z l p = keep_when (is_thermal z l p) (pad_spokes z p)

unlined_spokes : (z : Settings) (l : ℕ) (p : Pad) → spokes_by_pad z l (unlined p) ≡ spokes_by_pad z l p
unfolding spokes_by_pad pad_spokes pad_hulls
unlined_spokes z l p = refl

spokes_flat : (b : Board) (z : Settings) (l : ℕ) → spokes_of b z l ≡ Rattle.std.specs.List.flat_map (spokes_by_pad z l) (map unlined b.pads)
unfolding spokes_of spokes_by_pad
spokes_flat b z l = flat_unlined (spokes_by_pad z l) (unlined_spokes z l) b.pads

spokes_like : (b d : Board) (i k : ℕ) → IsLike b d i k → spokes_of b (zone_at b i) (layer_at b i) ≡ spokes_of d (zone_at d k) (layer_at d k)
spokes_like b d i k e =
    spokes_flat b (zone_at b i) (layer_at b i)
    ∙ (ap (λ (ps : List Pad). Rattle.std.specs.List.flat_map (spokes_by_pad (zone_at b i) (layer_at b i)) ps) e.pads
    ∙ (ap (λ (z : Settings). Rattle.std.specs.List.flat_map (spokes_by_pad z (layer_at b i)) (map unlined d.pads)) e.zone
    ∙ (ap (λ (l : ℕ). Rattle.std.specs.List.flat_map (spokes_by_pad (zone_at d k) l) (map unlined d.pads)) e.layer
    ∙ sym (spokes_flat d (zone_at d k) (layer_at d k)))))

brush_like : (b d : Board) (i k : ℕ) → IsLike b d i k → (c : Point) → brush_at b i c ≡ brush_at d k c
unfolding brush_at
brush_like b d i k e c = ap (λ (z : Settings). moved (ball_of (brush_radius z)) c.x c.y) e.zone

those_carried : (P Q : Bounds → Type 0) → ((o : Bounds) → P o ↔ Q o) → (os xs : List Bounds) → AreThose P os xs → AreThose Q os xs
those_carried P Q h [] xs a = a
those_carried P Q h (o ∷ os) xs (inl (n, a)) = inl (λ q. n ((h o).1 q), those_carried P Q h os xs a)
those_carried P Q h (o ∷ os) xs (inr (p, (r, e, a))) = inr ((h o).0 p, (r, e, those_carried P Q h os r a))

module _ (b d : Board) (i k : ℕ) (e : IsLike b d i k) (s : IsSameMade b d (fill_of b) (fill_of d) i k) where
  counted_to : (o : Bounds) → IsCounted b i o → IsCounted d k o
  counted_to o h = record {
    live = (s.live o).0 h.live;
    meets = (h.meets.0, (s.kept h.meets.0).0 h.meets.1, subst (IsMeeting o) (brush_like b d i k e h.meets.0) h.meets.2);
  }

  counted_back : (o : Bounds) → IsCounted d k o → IsCounted b i o
  counted_back o h = record {
    live = (s.live o).1 h.live;
    meets = (h.meets.0, (s.kept h.meets.0).1 h.meets.1, subst (IsMeeting o) (sym (brush_like b d i k e h.meets.0)) h.meets.2);
  }

  pub pieces_carried : (ps : List Bounds) (n : ℕ) → ArePieces b i ps n → ArePieces d k ps n
  pieces_carried ps n h = record {
    rows = h.rows;
    bands = h.bands;
    counted = h.counted;
    are_rows = record {
      are = h.are_rows.are;
      same = λ x y. (
        λ on. (s.kept (record { x = x; y = y })).0 ((h.are_rows.same x y).0 on),
        λ kept. (h.are_rows.same x y).1 ((s.kept (record { x = x; y = y })).1 kept),
      );
    };
    are_bands = h.are_bands;
    are_counted = subst (λ os. AreThose (IsCounted d k) os h.counted) (spokes_like b d i k e)
        (those_carried (IsCounted b i) (IsCounted d k) (λ o. (counted_to o, counted_back o)) (spokes_of b (zone_at b i) (layer_at b i)) h.counted h.are_counted);
    in_order = h.in_order ∙ ap (λ (z : Settings). map (brushed (brush_radius z)) (cells_of h.bands) ++ h.counted) e.zone;
    last = h.last;
  }

pub carry_law : CarryLaw
carry_law b d i k f e s t h = record { task = h.task ∙ t; pieces = pieces_carried b d i k e s f.pieces f.spokes h.pieces; parts = h.parts }

-- ---- boards that are alike

module _ (b d : Board) (s : IsSoundBoard b) (t : IsSoundBoard d) (e : AreAlike b d) where
  one : 1 ≤ d.rules.floor
  one = omega (arith, t.rules.floor.least)

  untouched : (k : ℕ) → IsUntouched b d (λ (j : ℕ). j) k
  untouched k = direct_law b d [] [] (same_but b d e) one k (λ x i. absurd (none x i)) (λ x i. absurd (none x i))

  made_below : (n k : ℕ) → k < n → IsSameMade b d (fill_of b) (fill_of d) k k
  made_below zero k l = absurd (omega arith)
  made_below (suc n) k l =
      follow_law b d s t (λ (j : ℕ). j) k (untouched k) (λ m r. let less : m < n = below m r.above in made_same b d m m (untouched m).like (made_below n m less))
    where
      below : (m : ℕ) → m < k → m < n
      below m h = omega arith

  pub made_alike : (k : ℕ) → IsSameMade b d (fill_of b) (fill_of d) k k
  made_alike k = made_below (suc k) k (omega arith)

pub same_fills : SameFillsLaw
same_fills b d s t e fills h = record {
  count = h.count ∙ ap (λ (ts : List Task). length ts) (ranks_same b d e);
  each = λ i l. carry_law b d i i (get_or fills i no_fill) (untouched b d s t e i).like (made_alike b d s t e i) (tasks_alike b d e i) (h.each i l);
}
