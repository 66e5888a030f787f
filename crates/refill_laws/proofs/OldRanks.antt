-- Boards with the same tasks: where each stood before.
use Rattle.std.proofs.Common.{◌≡◌, ◌∙◌, refl, ap, sym, subst, ℕ, zero, suc, ◌<◌, ◌≤◌, inl, inr, List, [], ◌∷◌, map, length, get_or, arith}
use Rattle.std.specs.Prelude.{◌↔◌, ◌&&◌, Bool, true, false, nat_eq}
use Rattle.std.proofs.lemmas.Bool.{cases_lt, cases_Bool, both_ways, and_parts, and_from, eqb-true, eq-eqb, cond-true, cond-false}
use Rattle.std.proofs.lemmas.List.{length-map, get_or_past}
use Rattle.classes.specs.Classes.{IsOneOf}
use Rattle.board_language.specs.Board.{Board}
use Rattle.board_language.specs.Copper.{has_layer}
use Rattle.fill_rules.specs.Tasks.{Task, no_zone, no_task, task_zone, ranked, task_at, zone_at, layer_at}
use Rattle.fill_rules.specs.Needs.{zone_need, item_needs}
use Rattle.fill_rules.specs.Anchors.{anchors_of}
use Rattle.fill_rules.specs.Nodes.{rank_in}
use Rattle.fill_rules.specs.Reach.{IsReaching}
use Rattle.fill_rules.specs.Ranking.{IsTask}
use Rattle.fill_rules.specs.Dirty.{IsLike, IsUntouched}
use Rattle.fill_rules.specs.Edits.{Counting, counting, Placing, placing}
use Rattle.fill_rules.proofs.Ranking.{ranked_is}
use Rattle.fill_rules.proofs.SameTasks.{get_or_map, task_same}
use Rattle.text_shapes.proofs.Seen.{map_map}
use Rattle.dirty_rules.specs.Dirty.{IsRankOf, layers_of, AreOldRanks}
use Rattle.dirty_rules.proofs.Ranks.{one_rank, task_of}
use Rattle.refill_laws.specs.OneEdit.{old_rank}
use Rattle.refill_laws.specs.Laws.{OneRankLaw, FoundLaw}

-- ---- the rank that is found

abbrev same_task : Task → Task → Bool
same_task t u = nat_eq t.zone u.zone && nat_eq t.layer u.layer

one_task : (t u : Task) → same_task t u ≡ true → t ≡ u
one_task t u e =
    let p = and_parts (nat_eq t.zone u.zone) (nat_eq t.layer u.layer) e in
    ap (λ (z : ℕ). record { zone = z; layer = t.layer }) (eqb-true t.zone u.zone p.0)
    ∙ ap (λ (l : ℕ). record { zone = u.zone; layer = l }) (eqb-true t.layer u.layer p.1)

own_task : (t : Task) → same_task t t ≡ true
own_task t = and_from (nat_eq t.zone t.zone) (nat_eq t.layer t.layer) (eq-eqb t.zone t.zone refl) (eq-eqb t.layer t.layer refl)

record IsFound (us : List Task) (t d : Task) : Type 0 where
  within : rank_in t us < length us
  is : get_or us (rank_in t us) d ≡ t

found_here : (u : Task) (us : List Task) (t d : Task) → same_task t u ≡ true → IsFound (u ∷ us) t d
found_here u us t d e =
    let z : rank_in t (u ∷ us) ≡ zero = cond-true (same_task t u) zero (suc (rank_in t us)) e in
    record {
      within = subst (λ (n : ℕ). n < length (u ∷ us)) (sym z) (omega arith);
      is = subst (λ (n : ℕ). get_or (u ∷ us) n d ≡ t) (sym z) (sym (one_task t u e));
    }

found_behind : (u : Task) (us : List Task) (t d : Task) → same_task t u ≡ false → IsFound us t d → IsFound (u ∷ us) t d
found_behind u us t d e f =
    let z : rank_in t (u ∷ us) ≡ suc (rank_in t us) = cond-false (same_task t u) zero (suc (rank_in t us)) e in
    record {
      within = subst (λ (n : ℕ). n < length (u ∷ us)) (sym z) (omega (arith, f.within));
      is = subst (λ (n : ℕ). get_or (u ∷ us) n d ≡ t) (sym z) f.is;
    }

found : (us : List Task) (t d : Task) → IsOneOf t us → IsFound us t d
unfolding IsOneOf
found [] t d i = absurd i
found (u ∷ us) t d i = elim (cases_Bool (same_task t u)) [
  | inl e ↦ found_here u us t d e
  | inr e ↦ found_behind u us t d e (elim i [
    | inl f ↦ absurd (both_ways (same_task t u) e (subst (λ (x : Task). same_task t x ≡ true) f (own_task t)))
    | inr j ↦ found us t d j
  ])
]

-- what stands at the place of a task is the task
pub at_place : (t : Task) (us : List Task) (d : Task) → rank_in t us < length us → get_or us (rank_in t us) d ≡ t
at_place t [] d l = absurd (omega (arith, l))
at_place t (u ∷ us) d l = elim (cases_Bool (same_task t u)) [
  | inl e ↦ (found_here u us t d e).is
  | inr e ↦
      let z : rank_in t (u ∷ us) ≡ suc (rank_in t us) = cond-false (same_task t u) zero (suc (rank_in t us)) e in
      subst (λ (n : ℕ). get_or (u ∷ us) n d ≡ t) (sym z) (at_place t us d (omega (arith, l, z)))
]

pub place_is : (b : Board) (t : Task) → IsTask b t → IsRankOf b (rank_in t (ranked b)) t
unfolding task_at
place_is b t h = let f = found (ranked b) t (no_task b) (((ranked_is b).members t).1 h) in record { within = f.within; is = f.is }

-- ---- boards with as many layers and with zones on the same layers

pub record KeepTasks (b d : Board) : Type 0 where
  pub layers : length b.layers ≡ length d.layers
  pub zones : map layers_of b.zones ≡ map layers_of d.zones

module _ (b d : Board) (s : KeepTasks b d) where
  pub as_many : length b.zones ≡ length d.zones
  as_many = sym (length-map b.zones layers_of) ∙ ap (λ (ls : List ℕ). length ls) s.zones ∙ length-map d.zones layers_of

  layers_same : (t : Task) → (task_zone b t).layers ≡ (task_zone d t).layers
  unfolding task_zone
  layers_same t =
      get_or_map layers_of b.zones t.zone no_zone
      ∙ (ap (λ (ls : List ℕ). get_or ls t.zone (layers_of no_zone)) s.zones ∙ sym (get_or_map layers_of d.zones t.zone no_zone))

  task_back : (t : Task) → IsTask d t → IsTask b t
  task_back t h = record {
    zone = subst (λ (m : ℕ). t.zone < m) (sym as_many) h.zone;
    layer = subst (λ (m : ℕ). t.layer < m) (sym s.layers) h.layer;
    has = subst (λ (m : ℕ). has_layer m t.layer ≡ true) (sym (layers_same t)) h.has;
  }

  pub old_ranks : AreOldRanks b d (old_rank b d)
  unfolding old_rank
  old_ranks m l = place_is b (task_at d m) (task_back (task_at d m) (task_of d m (task_at d m) (record { within = l; is = refl })))

pub one_old_rank : OneRankLaw
one_old_rank b d old other h g m l = one_rank b (old m) (other m) (task_at d m) (h m l) (g m l)

pub found_ranks : FoundLaw
unfolding old_rank
found_ranks b d old h m l = place_is b (task_at d m) (task_of b (old m) (task_at d m) (h m l))

-- ---- boards whose tasks have the same ranks

pub keeps_counted : (b d : Board) → length b.layers ≡ length d.layers → map counting b.zones ≡ map counting d.zones → KeepTasks b d
keeps_counted b d l e = record {
  layers = l;
  zones = map_map counting layers_of (λ (c : Counting). c.layers) (λ z. refl) b.zones ∙ ap (map (λ (c : Counting). c.layers)) e
      ∙ sym (map_map counting layers_of (λ (c : Counting). c.layers) (λ z. refl) d.zones);
}

pub keeps_placed : (b d : Board) → length b.layers ≡ length d.layers → map placing b.zones ≡ map placing d.zones → KeepTasks b d
keeps_placed b d l e = record {
  layers = l;
  zones = map_map placing layers_of (λ (c : Placing). c.layers) (λ z. refl) b.zones ∙ ap (map (λ (c : Placing). c.layers)) e
      ∙ sym (map_map placing layers_of (λ (c : Placing). c.layers) (λ z. refl) d.zones);
}

place_counted : Counting → Placing
place_counted c = record { layers = c.layers; priority = c.priority }

placed : (b d : Board) → map counting b.zones ≡ map counting d.zones → map placing b.zones ≡ map placing d.zones
unfolding place_counted
placed b d e =
    map_map counting placing place_counted (λ z. refl) b.zones ∙ ap (map place_counted) e ∙ sym (map_map counting placing place_counted (λ z. refl) d.zones)

pub past_end : (b : Board) (j : ℕ) → length (ranked b) ≤ j → (task_at b j).zone ≡ length b.zones
unfolding task_at
past_end b j l = ap (λ (t : Task). t.zone) (get_or_past (ranked b) j (no_task b) l)

pub same_ranks : (b d : Board) → length b.layers ≡ length d.layers → map placing b.zones ≡ map placing d.zones → AreOldRanks b d (λ (m : ℕ). m)
same_ranks b d l e m w =
    let t : task_at b m ≡ task_at d m = task_same b d l e m in
    let h : IsTask b (task_at d m) = task_back b d (keeps_placed b d l e) (task_at d m) (task_of d m (task_at d m) (record { within = w; is = refl })) in
    let z : (task_at b m).zone < length b.zones = subst (λ (u : Task). u.zone < length b.zones) (sym t) h.zone in
    record {
      within = elim (cases_lt m (length (ranked b))) [
        | inl x ↦ x
        | inr x ↦ absurd (omega (arith, z, past_end b m x))
      ];
      is = t;
    }

pub ranks_counted : (b d : Board) → length b.layers ≡ length d.layers → map counting b.zones ≡ map counting d.zones → AreOldRanks b d (λ (m : ℕ). m)
ranks_counted b d l e = same_ranks b d l (placed b d e)

-- ---- untouched, by other words for the same ranks

module _ (b d : Board) (k : ℕ) (old other : ℕ → ℕ) (same : (m : ℕ) → m ≤ k → old m ≡ other m) (u : IsUntouched b d old k) where
  own : old k ≡ other k
  own = same k (omega arith)

  pub untouched_renamed : IsUntouched b d other k
  untouched_renamed = record {
    like = subst (λ (i : ℕ). IsLike b d i k) own u.like;
    items = λ n w. subst (λ (i : ℕ). IsOneOf n (item_needs b (zone_at b i) (layer_at b i)) ↔ IsOneOf n (item_needs d (zone_at d k) (layer_at d k))) own (u.items n w);
    anchors = λ c o t f. subst (λ (i : ℕ). IsOneOf c (anchors_of b (zone_at b i) (layer_at b i)) ↔ IsOneOf c (anchors_of d (zone_at d k) (layer_at d k))) own (u.anchors c o t f);
    reach_to = λ j r. let m = u.reach_to j (subst (λ (i : ℕ). IsReaching b j i) (sym own) r) in (
      m.0,
      sym (same m.0 (omega (arith, m.2.above))) ∙ m.1,
      m.2,
      subst (λ (i : ℕ). zone_need b (zone_at b j) (zone_at b i) ≡ zone_need d (zone_at d m.0) (zone_at d k)) own m.3,
    );
    reach_from = λ m r. let v = u.reach_from m r in let e : old m ≡ other m = same m (omega (arith, r.above)) in (
      subst (λ (i : ℕ). IsReaching b (other m) i) own (subst (λ (j : ℕ). IsReaching b j (old k)) e v.0),
      v.1 ∙ (ap (λ (j : ℕ). zone_need b (zone_at b j) (zone_at b (old k))) e ∙ ap (λ (i : ℕ). zone_need b (zone_at b (other m)) (zone_at b i)) own),
    );
  }
