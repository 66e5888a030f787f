-- A task that a zone's new clearance or priority doesn't dirty is untouched.
use Rattle.std.proofs.Common.{◌≡◌, ◌∙◌, refl, ap, sym, subst, ℕ, ◌≤◌, ◌<◌, inl, inr, List, [], ◌∷◌, suc, map, length, get_or, arith}
use Rattle.std.specs.Prelude.{max, true}
use Rattle.std.proofs.lemmas.Bool.{cases_order}
use Rattle.std.proofs.lemmas.List.{get_or_past}
use Rattle.plane.specs.Plane.{PlanePoint, Bounds, In, AreNear}
use Rattle.copper_shape.specs.Shapes.{Copper}
use Rattle.hulls.specs.Cells.{around}
use Rattle.classes.specs.Classes.{IsOneOf}
use Rattle.board_language.specs.declared.board.Rules.{Rules}
use Rattle.board_language.specs.Board.{Board}
use Rattle.board_language.specs.Copper.{has_layer}
use Rattle.fill_rules.specs.Tasks.{Task, Settings, settings_of, no_zone, no_task, task_zone, ranked, task_at, zone_at, layer_at}
use Rattle.fill_rules.specs.Needs.{is_foreign, units, item_need, zone_need, Need, item_needs}
use Rattle.fill_rules.specs.Anchors.{anchors_of}
use Rattle.fill_rules.specs.Reach.{IsReaching}
use Rattle.fill_rules.specs.Dirty.{IsUntouched}
use Rattle.fill_rules.specs.Edits.{unplaced, unplaced_via, AreAmong, Placing, placing, IsSameButZone}
use Rattle.fill_rules.specs.Ranking.{IsTask, Outranks}
use Rattle.board_language.proofs.Members.{map_one_of}
use Rattle.fill_rules.proofs.SameTasks.{get_or_map, task_same}
use Rattle.fill_rules.proofs.ZoneEdits.{HasSameItems, items_there, items_back, anchors_there, anchors_back, settings_law}
use Rattle.dirty_rules.specs.Dirty.{IsRankOf, AreTasksInReach, IsZoneDirtying, layers_of, IsSameButPriority, AreOldRanks}
use Rattle.dirty_rules.specs.Laws.{ClearanceLaw, PriorityLaw}
use Rattle.dirty_rules.proofs.Ranks.{outranks, is_above, one_rank, task_of, rank_of}

-- ---- clean tasks

own_dirties : (b d : Board) (n : ℕ) (t : Task) → t.zone ≡ n → IsZoneDirtying b d n t
unfolding IsZoneDirtying
own_dirties b d n t e = inl e

before_dirties : (b d : Board) (n : ℕ) (s t : Task) → s.zone ≡ n → AreTasksInReach b s t → IsZoneDirtying b d n t
unfolding IsZoneDirtying
before_dirties b d n s t e r = inr (s, e, inl r)

after_dirties : (b d : Board) (n : ℕ) (s t : Task) → s.zone ≡ n → AreTasksInReach d s t → IsZoneDirtying b d n t
unfolding IsZoneDirtying
after_dirties b d n s t e r = inr (s, e, inr r)

-- ---- a new clearance

map_length : {A B : Type 0} (f : A → B) (xs : List A) → length (map f xs) ≡ length xs
map_length f [] = refl
map_length f (x ∷ xs) = ap suc (map_length f xs)

as_many_zones : (b d : Board) (n : ℕ) → IsSameButZone b d n → length b.zones ≡ length d.zones
as_many_zones b d n s = sym (map_length placing b.zones) ∙ (ap (λ (zs : List Placing). length zs) s.places ∙ map_length placing d.zones)

past_end : (b : Board) (j : ℕ) → length (ranked b) ≤ j → (task_at b j).zone ≡ length b.zones
unfolding task_at
past_end b j l = ap (λ (t : Task). t.zone) (get_or_past (ranked b) j (no_task b) l)

-- each rank of the board after is one of the board before, of the same task
same_rank : (b d : Board) (n : ℕ) → IsSameButZone b d n → (j : ℕ) → j < length (ranked d) → IsRankOf b j (task_at d j)
same_rank b d n s j l =
    let e : task_at b j ≡ task_at d j = task_same b d s.layers s.places j in
    let t : IsTask d (task_at d j) = task_of d j (task_at d j) (record { within = l; is = refl }) in
    let z : (task_at b j).zone < length b.zones = omega (arith, ap (λ (x : Task). x.zone) e, t.zone, as_many_zones b d n s) in
    record {
      within = elim (cases_order j (length (ranked b))) [
        | inl x ↦ absurd (omega (arith, z, past_end b j (omega (arith, x))))
        | inr (inl x) ↦ x
        | inr (inr x) ↦ absurd (omega (arith, z, past_end b j (omega (arith, x))))
      ];
      is = e;
    }

pub clearance_law : ClearanceLaw
clearance_law b d n s one k l clean =
    settings_law b d n s one k (λ e. clean (own_dirties b d n (task_at d k) e)) (λ j e r. elim r [
      | inl x ↦ clean (before_dirties b d n (task_at d j) (task_at d k) e (inl (record {
        rank = j;
        below = k;
        first = same_rank b d n s j (omega (arith, x.above, l));
        second = same_rank b d n s k l;
        reaching = x;
      })))
      | inr x ↦ clean (after_dirties b d n (task_at d j) (task_at d k) e (inl (record {
        rank = j;
        below = k;
        first = record { within = omega (arith, x.above, l); is = refl };
        second = record { within = l; is = refl };
        reaching = x;
      })))
    ])

-- ---- a new priority

module _ (b d : Board) (n : ℕ) (s : IsSameButPriority b d n) where
  settings_same : (t : Task) → settings_of (task_zone b t) ≡ settings_of (task_zone d t)
  unfolding task_zone
  settings_same t =
      get_or_map settings_of b.zones t.zone no_zone
      ∙ (ap (λ (zs : List Settings). get_or zs t.zone (settings_of no_zone)) s.settings ∙ sym (get_or_map settings_of d.zones t.zone no_zone))

  layers_same : (t : Task) → (task_zone b t).layers ≡ (task_zone d t).layers
  unfolding task_zone
  layers_same t =
      get_or_map layers_of b.zones t.zone no_zone
      ∙ (ap (λ (zs : List ℕ). get_or zs t.zone (layers_of no_zone)) s.zone_layers ∙ sym (get_or_map layers_of d.zones t.zone no_zone))

  as_many : length b.zones ≡ length d.zones
  as_many = sym (map_length settings_of b.zones) ∙ (ap (λ (zs : List Settings). length zs) s.settings ∙ map_length settings_of d.zones)

  task_there : (t : Task) → IsTask b t → IsTask d t
  task_there t h = record {
    zone = subst (λ (m : ℕ). t.zone < m) as_many h.zone;
    layer = subst (λ (m : ℕ). t.layer < m) s.layers h.layer;
    has = subst (λ (m : ℕ). has_layer m t.layer ≡ true) (layers_same t) h.has;
  }

  priority_same : (t : Task) → (t.zone ≡ n → ⊥) → (task_zone b t).priority ≡ (task_zone d t).priority
  unfolding task_zone
  priority_same t o = s.others t.zone o

  above_there : (t u : Task) → (t.zone ≡ n → ⊥) → (u.zone ≡ n → ⊥) → Outranks b t u → Outranks d t u
  above_there t u o p (inl x) = inl (omega (arith, x, priority_same t o, priority_same u p))
  above_there t u o p (inr x) = inr (omega (arith, x.0, priority_same t o, priority_same u p), x.1)

  above_back : (t u : Task) → (t.zone ≡ n → ⊥) → (u.zone ≡ n → ⊥) → Outranks d t u → Outranks b t u
  above_back t u o p (inl x) = inl (omega (arith, x, priority_same t o, priority_same u p))
  above_back t u o p (inr x) = inr (omega (arith, x.0, priority_same t o, priority_same u p), x.1)

-- tasks with the same settings on the same layers reach alike, where the one ranks above the other on both boards
module _ (b d : Board) (r : b.rules ≡ d.rules) (j i m k : ℕ) (zj : zone_at b j ≡ zone_at d m) (zi : zone_at b i ≡ zone_at d k) where
  need_moved : zone_need b (zone_at b j) (zone_at b i) ≡ zone_need d (zone_at d m) (zone_at d k)
  need_moved =
      ap (λ (x : Rules). units (max (max (zone_at b j).clearance (zone_at b i).clearance) x.floor)) r
      ∙ (ap (λ (y : Settings). units (max (max y.clearance (zone_at b i).clearance) d.rules.floor)) zj
      ∙ ap (λ (z : Settings). units (max (max (zone_at d m).clearance z.clearance) d.rules.floor)) zi)

  reach_moved : layer_at b j ≡ layer_at d m → layer_at b i ≡ layer_at d k → m < k → IsReaching b j i → IsReaching d m k
  reach_moved lj li above h = record {
    above = above;
    layer = sym lj ∙ (h.layer ∙ li);
    foreign = subst (λ (y : Settings). is_foreign y.net (zone_at d k).net ≡ true) zj
        (subst (λ (z : Settings). is_foreign (zone_at b j).net z.net ≡ true) zi h.foreign);
    near = subst (λ (x : ℕ). AreNear x (around (zone_at d k).outline) (around (zone_at d m).outline)) need_moved
        (subst (λ (y : Settings). AreNear (zone_need b (zone_at b j) (zone_at b i)) (around (zone_at d k).outline) (around y.outline)) zj
        (subst (λ (z : Settings). AreNear (zone_need b (zone_at b j) (zone_at b i)) (around z.outline) (around (zone_at b j).outline)) zi h.near));
  }

module _ (b d : Board) (n : ℕ) (s : IsSameButPriority b d n) (one : 1 ≤ d.rules.floor) (old : ℕ → ℕ) (ranks : AreOldRanks b d old) (k : ℕ)
    (within : k < length (ranked d)) (clean : IsZoneDirtying b d n (task_at d k) → ⊥)
  where
    zone_as : (i m : ℕ) → IsRankOf b i (task_at d m) → zone_at b i ≡ zone_at d m
    unfolding zone_at
    zone_as i m r = ap (λ (t : Task). settings_of (task_zone b t)) r.is ∙ settings_same b d n s (task_at d m)

    layer_as : (i m : ℕ) → IsRankOf b i (task_at d m) → layer_at b i ≡ layer_at d m
    layer_as i m r = ap (λ (t : Task). t.layer) r.is

    own : IsRankOf b (old k) (task_at d k)
    own = ranks k within

    here : IsRankOf d k (task_at d k)
    here = record { within = within; is = refl }

    other : (task_at d k).zone ≡ n → ⊥
    other e = clean (own_dirties b d n (task_at d k) e)

    to_there : (P : Settings → ℕ → Type 0) → P (zone_at b (old k)) (layer_at b (old k)) → P (zone_at d k) (layer_at d k)
    to_there P h = subst (λ (l : ℕ). P (zone_at d k) l) (layer_as (old k) k own) (subst (λ (z : Settings). P z (layer_at b (old k))) (zone_as (old k) k own) h)

    to_back : (P : Settings → ℕ → Type 0) → P (zone_at d k) (layer_at d k) → P (zone_at b (old k)) (layer_at b (old k))
    to_back P h = subst (λ (l : ℕ). P (zone_at b (old k)) l) (sym (layer_as (old k) k own)) (subst (λ (z : Settings). P z (layer_at d k)) (sym (zone_as (old k) k own)) h)

    items : HasSameItems b d
    items = record { rules = s.rules; tracks = s.tracks; vias = s.vias; pads = s.pads; edges = s.edges }

    -- what reaches the task on the one board is of another zone, and reaches it on the other
    to_reach : (j : ℕ) → IsReaching b j (old k)
        → (m : ℕ) × (old m ≡ j) × IsReaching d m k × (zone_need b (zone_at b j) (zone_at b (old k)) ≡ zone_need d (zone_at d m) (zone_at d k))
    to_reach j r =
        let rj : IsRankOf b j (task_at b j) = record { within = omega (arith, r.above, own.within); is = refl } in
        let o : (task_at b j).zone ≡ n → ⊥ = λ e. clean (before_dirties b d n (task_at b j) (task_at d k) e (inl (record { rank = j; below = old k; first = rj; second = own; reaching = r }))) in
        let up : Outranks d (task_at b j) (task_at d k) = above_there b d n s (task_at b j) (task_at d k) o other (outranks b j (old k) (task_at b j) (task_at d k) rj own r.above) in
        let rm = rank_of d (task_at b j) (task_there b d n s (task_at b j) (task_of b j (task_at b j) rj)) in
        let same : task_at b j ≡ task_at d rm.0 = sym rm.1.is in
        let rjm : IsRankOf b j (task_at d rm.0) = record { within = rj.within; is = same } in
        let above : rm.0 < k = is_above d rm.0 k (task_at b j) (task_at d k) rm.1 here up in
        let zj = zone_as j rm.0 rjm in
        let zk = zone_as (old k) k own in (
          rm.0,
          one_rank b (old rm.0) j (task_at d rm.0) (ranks rm.0 rm.1.within) rjm,
          reach_moved b d s.rules j (old k) rm.0 k zj zk (layer_as j rm.0 rjm) (layer_as (old k) k own) above r,
          need_moved b d s.rules j (old k) rm.0 k zj zk,
        )

    from_reach : (m : ℕ) → IsReaching d m k
        → IsReaching b (old m) (old k) × (zone_need d (zone_at d m) (zone_at d k) ≡ zone_need b (zone_at b (old m)) (zone_at b (old k)))
    from_reach m r =
        let rm : IsRankOf d m (task_at d m) = record { within = omega (arith, r.above, within); is = refl } in
        let o : (task_at d m).zone ≡ n → ⊥ = λ e. clean (after_dirties b d n (task_at d m) (task_at d k) e (inl (record { rank = m; below = k; first = rm; second = here; reaching = r }))) in
        let up : Outranks b (task_at d m) (task_at d k) = above_back b d n s (task_at d m) (task_at d k) o other (outranks d m k (task_at d m) (task_at d k) rm here r.above) in
        let ro = ranks m rm.within in
        let above : old m < old k = is_above b (old m) (old k) (task_at d m) (task_at d k) ro own up in
        let zm = zone_as (old m) m ro in
        let zk = zone_as (old k) k own in (
          reach_moved d b (sym s.rules) m k (old m) (old k) (sym zm) (sym zk) (sym (layer_as (old m) m ro)) (sym (layer_as (old k) k own)) above r,
          need_moved d b (sym s.rules) m k (old m) (old k) (sym zm) (sym zk),
        )

    pub untouched_by : IsUntouched b d old k
    untouched_by = record {
      like = record { zone = zone_as (old k) k own; layer = layer_as (old k) k own; pads = s.pads; areas = s.areas; edges = s.edges };
      items = λ m w. (
        λ i. items_there b d items one (zone_at d k) (layer_at d k) m w (to_there (λ (z : Settings) (l : ℕ). IsOneOf m (item_needs b z l)) i),
        λ i. to_back (λ (z : Settings) (l : ℕ). IsOneOf m (item_needs b z l)) (items_back b d items one (zone_at d k) (layer_at d k) m w i),
      );
      anchors = λ c o t inside. (
        λ i. anchors_there b d items one (zone_at d k) (layer_at d k) c o t inside (to_there (λ (z : Settings) (l : ℕ). IsOneOf c (anchors_of b z l)) i),
        λ i. to_back (λ (z : Settings) (l : ℕ). IsOneOf c (anchors_of b z l)) (anchors_back b d items one (zone_at d k) (layer_at d k) c o t inside i),
      );
      reach_to = to_reach;
      reach_from = from_reach;
    }

pub priority_law : PriorityLaw
priority_law b d n s one old ranks k within clean = untouched_by b d n s one old ranks k within clean
