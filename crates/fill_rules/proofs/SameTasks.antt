-- Boards whose zones are the same, but for places in the file, have the same tasks with the same settings.
use Rattle.std.proofs.Common.{◌≡◌, refl, sym, ◌∙◌, ap, subst, ℕ, zero, suc, List, [], ◌∷◌, ◌++◌, get_or, length, map}
use Rattle.std.specs.Prelude.{cond, nat_le, true}
use Rattle.plane.specs.Plane.{AreNear}
use Rattle.hulls.specs.Cells.{around}
use Rattle.board_language.specs.declared.board.Rules.{Rules}
use Rattle.board_language.specs.declared.board.Zone.{Zone}
use Rattle.board_language.specs.Board.{Board}
use Rattle.fill_rules.specs.Tasks.{Task, Settings, settings_of, no_zone, no_task, layers_below, tasks_from, task_zone, put_by_priority, put_all, ranked, task_at, zone_at, layer_at}
use Rattle.fill_rules.specs.Needs.{is_foreign, units, zone_need}
use Rattle.std.specs.Prelude.{max}
use Rattle.fill_rules.specs.Reach.{IsReaching}
use Rattle.fill_rules.specs.Edits.{Placing, placing, Counting, counting, IsSameButZone}

pub get_or_map : {A B : Type 0} (f : A → B) (xs : List A) (n : ℕ) (d : A) → f (get_or xs n d) ≡ get_or (map f xs) n (f d)
get_or_map f [] n d = refl
get_or_map f (x ∷ xs) zero d = refl
get_or_map f (x ∷ xs) (suc n) d = get_or_map f xs n d

tasks_by : ℕ → ℕ → List Placing → List Task
tasks_by count z [] = []
tasks_by count z (y ∷ ys) = map (λ (l : ℕ). record { zone = z; layer = l }) (layers_below y.layers count) ++ tasks_by count (suc z) ys

tasks_is : (count z : ℕ) (zones : List Zone) → tasks_from count z zones ≡ tasks_by count z (map placing zones)
unfolding tasks_by
tasks_is count z [] = refl
tasks_is count z (y ∷ zones) =
    ap (λ (ts : List Task). map (λ (l : ℕ). record { zone = z; layer = l }) (layers_below y.layers count) ++ ts) (tasks_is count (suc z) zones)

abbrev HaveSamePlaces : Board → Board → Type 0
HaveSamePlaces b d = map placing b.zones ≡ map placing d.zones

map_length : (zones : List Zone) → length (map placing zones) ≡ length zones
map_length [] = refl
map_length (z ∷ zones) = ap suc (map_length zones)

as_many : (ys zs : List Zone) → map placing ys ≡ map placing zs → length ys ≡ length zs
as_many ys zs e = sym (map_length ys) ∙ (ap (λ (ps : List Placing). length ps) e ∙ map_length zs)

abbrev rank_of : Board → Task → ℕ
rank_of b t = (task_zone b t).priority

placing_is : (b d : Board) → HaveSamePlaces b d → (t : Task) → placing (task_zone b t) ≡ placing (task_zone d t)
unfolding task_zone
placing_is b d e t =
    get_or_map placing b.zones t.zone no_zone
    ∙ (ap (λ (zs : List Placing). get_or zs t.zone (placing no_zone)) e ∙ sym (get_or_map placing d.zones t.zone no_zone))

put_same : (b d : Board) → ((t : Task) → rank_of b t ≡ rank_of d t) → (t : Task) (us : List Task) → put_by_priority b t us ≡ put_by_priority d t us
put_same b d h t [] = refl
put_same b d h t (u ∷ us) =
    ap (λ (x : List Task). cond (nat_le (rank_of b u) (rank_of b t)) (t ∷ u ∷ us) (u ∷ x)) (put_same b d h t us)
    ∙ (ap (λ (n : ℕ). cond (nat_le n (rank_of b t)) (t ∷ u ∷ us) (u ∷ put_by_priority d t us)) (h u)
    ∙ ap (λ (n : ℕ). cond (nat_le (rank_of d u) n) (t ∷ u ∷ us) (u ∷ put_by_priority d t us)) (h t))

put_all_same : (b d : Board) → ((t : Task) → rank_of b t ≡ rank_of d t) → (ts : List Task) → put_all b ts ≡ put_all d ts
put_all_same b d h [] = refl
put_all_same b d h (t ∷ ts) = ap (λ (x : List Task). put_by_priority b t x) (put_all_same b d h ts) ∙ put_same b d h t (put_all d ts)

module _ (b d : Board) (layers : length b.layers ≡ length d.layers) (e : HaveSamePlaces b d) where
  ranked_same : ranked b ≡ ranked d
  unfolding ranked
  ranked_same =
      put_all_same b d (λ t. ap (λ (c : Placing). c.priority) (placing_is b d e t)) (tasks_from (length b.layers) 0 b.zones)
      ∙ ap (put_all d) (tasks_is (length b.layers) 0 b.zones
      ∙ (ap (λ (n : ℕ). tasks_by n 0 (map placing b.zones)) layers ∙ (ap (tasks_by (length d.layers) 0) e ∙ sym (tasks_is (length d.layers) 0 d.zones))))

  pub task_same : (i : ℕ) → task_at b i ≡ task_at d i
  unfolding task_at
  task_same i =
      ap (λ (ts : List Task). get_or ts i (no_task b)) ranked_same
      ∙ ap (λ (n : ℕ). get_or (ranked d) i (record { zone = n; layer = 0 })) (as_many b.zones d.zones e)

  pub layer_by : (i : ℕ) → layer_at b i ≡ layer_at d i
  layer_by i = ap (λ (t : Task). t.layer) (task_same i)

-- ---- two tasks with the same settings reach alike
module _ (b d : Board) (r : b.rules ≡ d.rules) (j k : ℕ) (ze : zone_at b j ≡ zone_at d j) (zk : zone_at b k ≡ zone_at d k) where
  pub need_by : zone_need b (zone_at b j) (zone_at b k) ≡ zone_need d (zone_at d j) (zone_at d k)
  need_by =
      ap (λ (x : Rules). units (max (max (zone_at b j).clearance (zone_at b k).clearance) x.floor)) r
      ∙ (ap (λ (y : Settings). units (max (max y.clearance (zone_at b k).clearance) d.rules.floor)) ze
      ∙ ap (λ (z : Settings). units (max (max (zone_at d j).clearance z.clearance) d.rules.floor)) zk)

  pub reach_by : layer_at b j ≡ layer_at d j → layer_at b k ≡ layer_at d k → IsReaching b j k → IsReaching d j k
  reach_by lj lk h = record {
    above = h.above;
    layer = sym lj ∙ (h.layer ∙ lk);
    foreign = subst (λ (y : Settings). is_foreign y.net (zone_at d k).net ≡ true) ze
        (subst (λ (z : Settings). is_foreign (zone_at b j).net z.net ≡ true) zk h.foreign);
    near = subst (λ (n : ℕ). AreNear n (around (zone_at d k).outline) (around (zone_at d j).outline)) need_by
        (subst (λ (y : Settings). AreNear (zone_need b (zone_at b j) (zone_at b k)) (around (zone_at d k).outline) (around y.outline)) ze
        (subst (λ (z : Settings). AreNear (zone_need b (zone_at b j) (zone_at b k)) (around z.outline) (around (zone_at b j).outline)) zk h.near));
  }

-- ---- boards whose zones are the same
abbrev HaveSame : Board → Board → Type 0
HaveSame b d = map counting b.zones ≡ map counting d.zones

place_of : Counting → Placing
place_of c = record { layers = c.layers; priority = c.priority }

places_is : (zones : List Zone) → map placing zones ≡ map place_of (map counting zones)
unfolding place_of
places_is [] = refl
places_is (z ∷ zones) = ap (λ (ps : List Placing). placing z ∷ ps) (places_is zones)

places_same : (b d : Board) → HaveSame b d → HaveSamePlaces b d
places_same b d e = places_is b.zones ∙ (ap (map place_of) e ∙ sym (places_is d.zones))

counting_is : (b d : Board) → HaveSame b d → (t : Task) → counting (task_zone b t) ≡ counting (task_zone d t)
unfolding task_zone
counting_is b d e t =
    get_or_map counting b.zones t.zone no_zone
    ∙ (ap (λ (zs : List Counting). get_or zs t.zone (counting no_zone)) e ∙ sym (get_or_map counting d.zones t.zone no_zone))

module _ (b d : Board) (layers : length b.layers ≡ length d.layers) (e : HaveSame b d) where
  pub layer_same : (i : ℕ) → layer_at b i ≡ layer_at d i
  layer_same i = layer_by b d layers (places_same b d e) i

  pub zone_same : (i : ℕ) → zone_at b i ≡ zone_at d i
  unfolding zone_at
  zone_same i =
      ap (λ (c : Counting). c.settings) (counting_is b d e (task_at b i)
      ∙ ap (λ (t : Task). counting (task_zone d t)) (task_same b d layers (places_same b d e) i))

  pub need_same : b.rules ≡ d.rules → (j k : ℕ) → zone_need b (zone_at b j) (zone_at b k) ≡ zone_need d (zone_at d j) (zone_at d k)
  need_same r j k = need_by b d r j k (zone_same j) (zone_same k)

  pub reach_same : b.rules ≡ d.rules → (j k : ℕ) → IsReaching b j k → IsReaching d j k
  reach_same r j k h = reach_by b d r j k (zone_same j) (zone_same k) (layer_same j) (layer_same k) h

-- ---- boards whose zones are the same but for one
pub other_same : (b d : Board) (n : ℕ) → IsSameButZone b d n → (i : ℕ) → ((task_at d i).zone ≡ n → ⊥) → zone_at b i ≡ zone_at d i
unfolding zone_at task_zone
other_same b d n s i ne =
    ap (λ (t : Task). settings_of (get_or b.zones t.zone no_zone)) (task_same b d s.layers s.places i)
    ∙ s.others (task_at d i).zone ne
