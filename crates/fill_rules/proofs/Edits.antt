-- A task that no track or via which came or went dirties is untouched.
use Rattle.std.proofs.Common.{◌≡◌, refl, sym, ap, subst, ℕ, ◌≤◌, arith, List}
use Rattle.std.specs.Prelude.{max, true}
use Rattle.hulls.specs.Cells.{around}
use Rattle.classes.specs.Classes.{IsOneOf}
use Rattle.board_language.specs.declared.board.Track.{Track}
use Rattle.board_language.specs.declared.board.Via.{Via}
use Rattle.board_language.specs.declared.board.Rules.{Rules}
use Rattle.board_language.specs.Board.{Board}
use Rattle.board_language.specs.Copper.{has_layer, hulls_round}
use Rattle.fill_rules.specs.Tasks.{Settings, zone_at, layer_at}
use Rattle.fill_rules.specs.Needs.{units, item_need, track_copper, via_copper, item_needs}
use Rattle.fill_rules.specs.Anchors.{anchors_of}
use Rattle.fill_rules.specs.Dirty.{IsLike, IsUntouched}
use Rattle.fill_rules.specs.Edits.{AreSameBut, IsTrackDirtying, IsViaDirtying, DirectLaw}
use Rattle.fill_rules.proofs.SameTasks.{layer_same, zone_same, need_same, reach_same}
use Rattle.fill_rules.proofs.Beside.{IsNearSome, items_to, anchors_to}

-- ---- both ways
module _ (b d : Board) (ts : List Track) (vs : List Via) (s : AreSameBut b d ts vs) (one : 1 ≤ d.rules.floor) (k : ℕ)
    (no_track : (t : Track) → IsOneOf t ts → IsTrackDirtying d k t → ⊥) (no_via : (v : Via) → IsOneOf v vs → IsViaDirtying d k v → ⊥)
  where
    far_track : (t : Track) → IsOneOf t ts → t.layer ≡ layer_at d k
        → IsNearSome (item_need d (zone_at d k) 0) (around (zone_at d k).outline) (hulls_round (track_copper t)) → ⊥
    far_track t i e w = no_track t i (record { layer = e; beside = w })

    far_via : (v : Via) → IsOneOf v vs → has_layer v.layers (layer_at d k) ≡ true
        → IsNearSome (item_need d (zone_at d k) 0) (around (zone_at d k).outline) (hulls_round (via_copper v)) → ⊥
    far_via v i e w = no_via v i (record { layer = e; beside = w })

    same_need : item_need b (zone_at d k) 0 ≡ item_need d (zone_at d k) 0
    same_need = ap (λ (r : Rules). units (max (max (zone_at d k).clearance 0) r.floor)) s.rules

    far_track_before : (t : Track) → IsOneOf t ts → t.layer ≡ layer_at d k
        → IsNearSome (item_need b (zone_at d k) 0) (around (zone_at d k).outline) (hulls_round (track_copper t)) → ⊥
    far_track_before t i e w = far_track t i e (subst (λ (n : ℕ). IsNearSome n (around (zone_at d k).outline) (hulls_round (track_copper t))) same_need w)

    far_via_before : (v : Via) → IsOneOf v vs → has_layer v.layers (layer_at d k) ≡ true
        → IsNearSome (item_need b (zone_at d k) 0) (around (zone_at d k).outline) (hulls_round (via_copper v)) → ⊥
    far_via_before v i e w = far_via v i e (subst (λ (n : ℕ). IsNearSome n (around (zone_at d k).outline) (hulls_round (via_copper v))) same_need w)

    zone_is : zone_at b k ≡ zone_at d k
    zone_is = zone_same b d s.layers s.zones k

    layer_is : layer_at b k ≡ layer_at d k
    layer_is = layer_same b d s.layers s.zones k

    -- what is said of a zone and a layer of the one board's task is said of the other's
    moved_to : (P : Settings → ℕ → Type 0) → P (zone_at b k) (layer_at b k) → P (zone_at d k) (layer_at d k)
    moved_to P h = subst (λ (l : ℕ). P (zone_at d k) l) layer_is (subst (λ (z : Settings). P z (layer_at b k)) zone_is h)

    moved_back : (P : Settings → ℕ → Type 0) → P (zone_at d k) (layer_at d k) → P (zone_at b k) (layer_at b k)
    moved_back P h = subst (λ (l : ℕ). P (zone_at b k) l) (sym layer_is) (subst (λ (z : Settings). P z (layer_at d k)) (sym zone_is) h)

    need_one : 1 ≤ item_need d (zone_at d k) 0
    need_one = omega (arith, one)

    need_one_before : 1 ≤ item_need b (zone_at d k) 0
    need_one_before = subst (λ (n : ℕ). 1 ≤ n) (sym same_need) need_one

    like : IsLike b d k k
    like = record { zone = zone_is; layer = layer_is; pads = s.pads; areas = s.areas; edges = s.edges }

    pub untouched : IsUntouched b d (λ (j : ℕ). j) k
    untouched = record {
      like = like;
      items = λ n w. (
        λ i. items_to b d ts vs s.rules s.tracks s.vias s.pads s.edges (zone_at d k) (layer_at d k) (around (zone_at d k).outline) far_track_before far_via_before n w
            (moved_to (λ (z : Settings) (l : ℕ). IsOneOf n (item_needs b z l)) i),
        λ i. moved_back (λ (z : Settings) (l : ℕ). IsOneOf n (item_needs b z l))
            (items_to d b ts vs (sym s.rules) s.tracks_back s.vias_back (sym s.pads) (sym s.edges) (zone_at d k) (layer_at d k) (around (zone_at d k).outline) far_track far_via n w i),
      );
      anchors = λ c o t inside. (
        λ i. anchors_to b d ts vs s.rules s.tracks s.vias s.pads s.edges (zone_at d k) (layer_at d k) (around (zone_at d k).outline) far_track_before far_via_before need_one_before c o t inside
            (moved_to (λ (z : Settings) (l : ℕ). IsOneOf c (anchors_of b z l)) i),
        λ i. moved_back (λ (z : Settings) (l : ℕ). IsOneOf c (anchors_of b z l))
            (anchors_to d b ts vs (sym s.rules) s.tracks_back s.vias_back (sym s.pads) (sym s.edges) (zone_at d k) (layer_at d k) (around (zone_at d k).outline) far_track far_via need_one c o t inside i),
      );
      reach_to = λ j r. (j, refl, reach_same b d s.layers s.zones s.rules j k r, need_same b d s.layers s.zones s.rules j k);
      reach_from = λ m r. (reach_same d b (sym s.layers) (sym s.zones) (sym s.rules) m k r, need_same d b (sym s.layers) (sym s.zones) (sym s.rules) m k);
    }

pub direct_law : DirectLaw
direct_law b d ts vs s one k no_track no_via = untouched b d ts vs s one k no_track no_via
